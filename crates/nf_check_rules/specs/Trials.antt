-- Results of the code, and trials.
use Rattle.std.specs.Prelude.{◌≡◌, Result, Ok, Err}
use Rattle.nf_rational.specs.Rational.{ℚ}
use Rattle.nf_frac_def.specs.declared.Halt.{Halt}
use Rattle.nf_curve.specs.Differences.{difference_of}
use Rattle.nf_check_def.specs.declared.Subject.TheVariants.{Node, Link}
use Rattle.nf_check_def.specs.Trial.{Passes, Breaks, Trial}
use Rattle.nf_check_rules.specs.declared.ended.Ended.{Ended}

abbrev pub of_halt : Halt ℚ → Ended
of_halt (Halt.Passed p) = Ended.Passed p
of_halt Halt.Memory = Ended.Memory

-- the code ended as the trial does, or an allocation failed
abbrev pub EndsAs : {A : Type 0} → Ended → Trial A → Type 0
EndsAs (Ended.AtNode rule node sides) said = said ≡ Err (Breaks rule (Node node) (difference_of sides))
EndsAs (Ended.AtLink rule link sides) said = said ≡ Err (Breaks rule (Link link) (difference_of sides))
EndsAs (Ended.Passed p) said = said ≡ Err (Passes p)
EndsAs Ended.Memory said = Unit {0}

-- the code returned the result of the trial, or an allocation failed
abbrev pub Tries : {X A : Type 0} → (X → A) → Result X Ended → Trial A → Type 0
Tries value (Ok x) said = said ≡ Ok (value x)
Tries value (Err e) said = EndsAs e said

-- the trial without its value
abbrev pub done : {A : Type 0} → Trial A → Trial (Unit {0})
done (Ok x) = Ok tt
done (Err e) = Err e
