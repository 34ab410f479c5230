-- The line of a toll, pushed piece by piece; the toll itself.
use Rattle.std.proofs.Common.{◌≡◌, ◌≢◌, ℕ, List, [], ◌∷◌, ◌++◌, refl, sym, append_assoc}
use Rattle.std.specs.Prelude.{codes, Some, Ok}
use Rattle.nf_rational.specs.Rational.{ℚ}
use Rattle.nf_rational.specs.Operations.{0ℚ, ◌/ℚ◌}
use Rattle.nf_rational_laws.proofs.Quotient.{ps_apart}
use Rattle.nf_frac_def.specs.declared.Op.TheVariants.{Quotient}
use Rattle.nf_frac_def.specs.Passing.{Passing}
use Rattle.nf_frac_def.specs.Checked.{checked}
use Rattle.nf_frac_def.proofs.Exact.{one_value}
use Rattle.nf_frac_words.specs.Printed.{printed}
use Rattle.nf_model_laws.specs.Capacity.{IsPositive}
use Rattle.nf_net.proofs.TextLines.{more_words}
use Rattle.corridor_tolls.specs.Tolls.{toll_line}

pub line_pushed : (old name : List ℕ) (time toll : ℚ) (a b c d e f new : List ℕ)
    → a ≡ old ++ codes "toll " → b ≡ a ++ name → c ≡ b ++ 32 ∷ [] → d ≡ c ++ printed time → e ≡ d ++ 32 ∷ [] → f ≡ e ++ printed toll → new ≡ f ++ 10 ∷ []
    → new ≡ old ++ toll_line name time toll
line_pushed old name time toll a b c d e f new ea eb ec ed ee ef enew =
    let from_toll : List ℕ = printed toll ++ 10 ∷ [] in
    let from_time : List ℕ = printed time ++ 32 ∷ from_toll in
    let from_name : List ℕ = name ++ 32 ∷ from_time in
    simp append_assoc (more_words old a new (codes "toll ") from_name ea (more_words a b new name (32 ∷ from_time) eb (more_words b c new (32 ∷ []) from_time ec
    (more_words c d new (printed time) (32 ∷ from_toll) ed (more_words d e new (32 ∷ []) from_toll ee (more_words e f new (printed toll) (10 ∷ []) ef enew))))))

-- ---- a quotient that doesn't pass
pub quotient_is : (passes : Passing) (x y z : ℚ) → Ok z ≡ checked passes Quotient x y → z ≡ x /ℚ y
unfolding checked
quotient_is passes x y z e = one_value (passes Quotient x y) (record { op = Quotient; left = x; right = y }) (x /ℚ y) z (sym e)

pub capacity_apart : (rate : ℚ) → IsPositive (Some rate) → rate ≢ 0ℚ
capacity_apart rate p = ps_apart rate (p rate refl)
