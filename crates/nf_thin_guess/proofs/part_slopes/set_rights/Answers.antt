use Rattle.std.proofs.Common.{◌∙◌, arith}
use Rattle.nf_thin_guess.proofs.part_slopes.set_rights.Goals as goal

pub set_right-requires : goal.set_right-requires
set_right-requires c = let size = c.loop-row.invariant in omega arith

pub returns-in_err-set_right : goal.returns-in_err-set_right
returns-in_err-set_right c = c.in_err-set_right.ensures ∙ c.loop-row.invariant

pub loop-row-preserved : goal.loop-row-preserved
loop-row-preserved c = c.in_ok-set_right.ensures ∙ c.loop-row.invariant
