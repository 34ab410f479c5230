use Rattle.std.proofs.Common.{◌++◌, take, ap, ◌∙◌, arith}
use Rattle.nf_pattern.proofs.Common.{Pattern}
use Rattle.nf_pattern.proofs.Raising.{put_end, from_here}
use Rattle.nf_pattern.proofs.assignments.copy_rest.Goals as goal

pub returns : goal.returns
returns c = put_end c.args.states.now c.copy_from_slice.new.self c.args.link _ (omega arith)
    ∙ ap (λ (rest : Pattern). take c.args.link c.args.states.now ++ rest) (c.copy_from_slice.ensures.after ∙ from_here c.args.base.now c.args.link)
