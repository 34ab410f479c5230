use Rattle.std.proofs.Common.{◌==◌, arith, eq-eqb, refl}
use Rattle.nf_text.proofs.Positions.{first_there, none_there}
use Rattle.nf_text.proofs.places.place_of.Goals as goal

pub returns-then-byte-wanted-clause-place : goal.returns-then-byte-wanted-clause-place
returns-then-byte-wanted-clause-place c =
    first_there (λ b. b == c.args.wanted) c.args.bytes.now c.loop-place.place 0 c.loop-place-test.true c.loop-place.invariant (eq-eqb _ _ c.if-byte-wanted.true)

pub returns-clause-place : goal.returns-clause-place
returns-clause-place c =
    none_there (λ b. b == c.args.wanted) c.args.bytes.now c.loop-place.place _ 0 (omega (arith, c.loop-place-test.false)) refl c.loop-place.invariant
