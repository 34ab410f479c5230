use Rattle.std.proofs.Common.{◌≡◌, length, refl, arith, Some, slice_get}
use Rattle.nf_app_answers.proofs.Common.{slice_get_read, IfOk-from_err, cut_line}
use Rattle.nf_app_answers.proofs.QuickLines.{numbered_more, numbered_all}
use Rattle.nf_app_answers.proofs.quick_text.put_cut.Goals as goal

pub loop-node-preserved : goal.loop-node-preserved
loop-node-preserved c =
    let there : slice_get c.args.cut.now c.loop-node.node ≡ Some c.index-cut-node.result =
    slice_get_read c.args.cut.now (length c.args.cut.now) c.loop-node.node c.index-cut-node.result refl (omega arith) c.index-cut-node.is in
    numbered_more (cut_line c.args.net.now.node_names) c.args.cut.now c.args.text.now.items c.loop-node.node c.index-cut-node.result c.loop-node.text.items c.put_time.new.text.items
    there c.loop-node.invariant c.in_ok-put_time.ensures

pub returns-in_err-put_time : goal.returns-in_err-put_time
returns-in_err-put_time c = IfOk-from_err c.from_residual.result _ c.from_residual.ensures.0

pub returns : goal.returns
returns c =
    let end : c.loop-node.node ≡ length c.args.cut.now = omega arith in
    numbered_all (cut_line c.args.net.now.node_names) c.args.cut.now c.args.text.now.items c.loop-node.node c.loop-node.text.items end c.loop-node.invariant
