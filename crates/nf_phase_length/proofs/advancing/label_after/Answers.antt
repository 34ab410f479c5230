use Rattle.std.proofs.Common.{rules, ◌≡◌, Some, refl, slice_get}
use Rattle.nf_phase_length.proofs.Common.{slice_get_read}
use Rattle.nf_phase_length.proofs.advancing.label_after.Goals as goal

pub returns : goal.returns
returns c =
    let e : slice_get c.args.slopes.now c.args.node ≡ Some c.index-slopes-node.result =
    slice_get_read c.args.slopes.now _ c.args.node c.index-slopes-node.result refl c.requires c.index-slopes-node.is in
    rw e (search rules)

pub returns-2 : goal.returns-2
returns-2 c =
    let e : slice_get c.args.slopes.now c.args.node ≡ Some c.index-slopes-node.result =
    slice_get_read c.args.slopes.now _ c.args.node c.index-slopes-node.result refl c.requires c.index-slopes-node.is in
    rw e (search rules)

pub returns-3 : goal.returns-3
returns-3 c =
    let e : slice_get c.args.slopes.now c.args.node ≡ Some c.index-slopes-node.result =
    slice_get_read c.args.slopes.now _ c.args.node c.index-slopes-node.result refl c.requires c.index-slopes-node.is in
    rw e (search rules)
