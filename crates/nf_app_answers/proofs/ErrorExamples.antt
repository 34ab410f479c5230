-- Lines on standard error, by computation.
use Rattle.std.proofs.Common.{◌≡◌, ℕ, List, [], ◌∷◌, ◌++◌, refl, flat_map, codes, pos, Some, None}
use Rattle.nf_app_answers.proofs.Common.{ℚ, memory_line, shelf_failed_line, shelf_too_long_line, network_line, flows_line, stopped_line, passed_line}
use Rattle.nf_app_answers.proofs.Common.{output_line, no_equilibrium_line, augments_line, unbounded_line, no_thin_flow_line, earlier_line}
use Rattle.nf_rational.specs.Rational.{ratio}
use Rattle.nf_rational.specs.Gcd.{gcd}
use Rattle.nf_rational.specs.Operations.{whole}
use Rattle.nf_frac_def.specs.declared.Part.TheVariants as Part
use Rattle.nf_frac_def.specs.declared.Op.TheVariants as Op
use Rattle.nf_frac_words.specs.Digits.{digits_of}
use Rattle.nf_frac_words.specs.Printed.{printed, printed_parts}
use Rattle.nf_net_def.specs.declared.NetRule.TheVariants.{N8}
use Rattle.nf_complete_def.specs.declared.FlowsRule.TheVariants.{S11}
use Rattle.nf_net_def.specs.declared.Cause.TheVariants as Cause

-- lines with LF
abbrev text : List (List ℕ) → List ℕ
text lines = flat_map (λ l. l ++ 10 ∷ []) lines

abbrev n : ℕ → ℚ
n k = whole (pos k)

abbrev widest : ℚ
widest = n 170141183460469231731687303715884105727

pub broken_is_said : network_line (record { rule = N8; line = 4 }) ≡ text (codes "nfot: network line 4: N8" ∷ [])
unfolding digits_of
broken_is_said = refl

pub pass_is_said : stopped_line (Cause.Passed 1 None (record { part = Part.Advance; op = Op.Sum; left = widest; right = n 1 }))
    ≡ text (codes "nfot: stopped: passed 1 advance - sum 170141183460469231731687303715884105727 1" ∷ [])
unfolding digits_of printed printed_parts ratio gcd whole
pass_is_said = refl

pub place_is_said : stopped_line (Cause.Passed 1 (Some 3) (record { part = Part.Verdict; op = Op.Product; left = widest; right = n 2 }))
    ≡ text (codes "nfot: stopped: passed 1 verdict 3 product 170141183460469231731687303715884105727 2" ∷ [])
unfolding digits_of printed printed_parts ratio gcd whole
place_is_said = refl

pub call_is_said : passed_line (record { part = Part.Load; op = Op.Product; left = widest; right = n 2 })
    ≡ text (codes "nfot: stopped: passed - load - product 170141183460469231731687303715884105727 2" ∷ [])
unfolding digits_of printed printed_parts ratio gcd whole
call_is_said = refl

pub budgets_are_said : stopped_line (Cause.Phases 1) ++ stopped_line (Cause.Patterns 1 1) ++ stopped_line (Cause.NoPattern 2)
    ≡ text (codes "nfot: stopped: phases 1" ∷ codes "nfot: stopped: patterns 1 1" ∷ codes "nfot: stopped: nopattern 2" ∷ [])
unfolding digits_of
budgets_are_said = refl

pub flows_broken_is_said : flows_line (record { rule = S11; line = 0 }) ≡ text (codes "nfot: flows line 0: S11" ∷ [])
unfolding digits_of
flows_broken_is_said = refl

pub other_lines : memory_line ++ shelf_failed_line ++ shelf_too_long_line ++ output_line ++ no_equilibrium_line ++ augments_line 1 ++ unbounded_line ++ no_thin_flow_line ++ earlier_line
    ≡ text (codes "nfot: memory" ∷ codes "nfot: shelf failed" ∷ codes "nfot: shelf too long" ∷ codes "nfot: output" ∷ codes "nfot: no equilibrium" ∷ codes "nfot: augments 1"
    ∷ codes "nfot: unbounded" ∷ codes "nfot: no thin flow" ∷ codes "nfot: earlier" ∷ [])
unfolding digits_of
other_lines = refl
