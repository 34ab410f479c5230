use Rattle.std.proofs.Common.{arith, refl, sym, ◌∙◌}
use Rattle.nf_text.proofs.Common.{is_blank}
use Rattle.nf_text.proofs.Positions.{first_there, none_there}
use Rattle.nf_text.proofs.places.word_len.Goals as goal

pub returns-then-is_gap-clause-place : goal.returns-then-is_gap-clause-place
returns-then-is_gap-clause-place c =
    first_there is_blank c.args.line.now c.loop-place.place 0 c.loop-place-test.true c.loop-place.invariant (sym c.is_gap.ensures ∙ c.if-is_gap.true)

pub returns-clause-place : goal.returns-clause-place
returns-clause-place c =
    none_there is_blank c.args.line.now c.loop-place.place _ 0 (omega (arith, c.loop-place-test.false)) refl c.loop-place.invariant
