use Rattle.std.proofs.Common.{ap, sym, ◌∙◌, arith, slice_get}
use Rattle.nf_thin_narrow.proofs.Common.{same_Some, Pattern, same_entries}
use Rattle.nf_thin_narrow.proofs.within.first_other.Goals as goal

pub returns : goal.returns
returns c = same_entries c.args.links c.args.one.now c.args.other.now c.requires.one c.requires.other (λ e less. c.loop-e.invariant e (omega arith))

pub returns-then-not-is_one_state : goal.returns-then-not-is_one_state
returns-then-not-is_one_state c = (
  c.loop-e-test.true,
  λ same. c.if-not-is_one_state.ensures (same_Some c.state.result c.state-in-loop-e.result
      (sym c.state.ensures ∙ (ap (λ (p : Pattern). slice_get p c.loop-e.e) same ∙ c.state-in-loop-e.ensures))),
)
