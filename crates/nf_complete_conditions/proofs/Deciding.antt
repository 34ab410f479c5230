-- Decisions by tests of numbers.
use Rattle.std.proofs.Common.{◌≡◌, ℕ, List, slice_get, ◌⊎◌, inr, ⊎_elim, Bool, true, false, not, ◌&&◌, ◌||◌, refl, sym, ◌∙◌, Option, Some, None, MatchBool}
use Rattle.nf_complete_conditions.proofs.Common.{Decides, Decides-and, Decides-or, Decides-like, same_Some, ℚ, 0ℚ, ◌≤ℚ◌, ◌<ℚ◌, le_ℚ, lt_ℚ, ≤ℚ_of_same}
use Rattle.nf_complete_conditions.proofs.Common.{≤ℚ_antisymm, le_of_test, test_of_le, less_of_test, test_of_less, Has, same_test, KeepsSlopes, keeps_test}

false_true : false ≡ true → ⊥
false_true e = cc

-- a decision, as an answer
pub says : {P : Type 0} (b : Bool) → Decides b P → MatchBool b P (P → ⊥)
says true d = d.0 refl
says false d = λ p. false_true (d.1 p)

pub says_by : {P : Type 0} (b t : Bool) → b ≡ t → Decides t P → MatchBool b P (P → ⊥)
says_by true t e d = d.0 (sym e)
says_by false t e d = λ p. false_true (e ∙ d.1 p)

-- an answer to one question answers any equivalent question
pub says_like : {P Q : Type 0} (b : Bool) → (P → Q) → (Q → P) → MatchBool b P (P → ⊥) → MatchBool b Q (Q → ⊥)
says_like true f g p = f p
says_like false f g n = λ q. n (g q)

pub says_both : (P Q : Type 0) (a b : Bool) → MatchBool a P (P → ⊥) → MatchBool b Q (Q → ⊥) → MatchBool (a && b) (P × Q) (P × Q → ⊥)
says_both P Q true true p q = (p, q)
says_both P Q true false p n = λ w. n w.1
says_both P Q false b n q = λ w. n w.0

-- ---- numbers
pub Decides-le : (x y : ℚ) → Decides (le_ℚ x y) (x ≤ℚ y)
Decides-le x y = (le_of_test x y, test_of_le x y)

pub Decides-less : (x y : ℚ) → Decides (lt_ℚ x y) (x <ℚ y)
Decides-less x y = (less_of_test x y, test_of_less x y)

pub Decides-same : (x y : ℚ) → Decides (same_test x y) (x ≡ y)
Decides-same x y = Decides-like (same_test x y) (λ (w : (x ≤ℚ y) × (y ≤ℚ x)). ≤ℚ_antisymm x y w.0 w.1) (λ (e : x ≡ y). (≤ℚ_of_same x y e, ≤ℚ_of_same y x (sym e)))
    (Decides-and (le_ℚ x y) (le_ℚ y x) (Decides-le x y) (Decides-le y x))

pub Decides-keeps : (resets : Bool) (full : Option ℚ) (x s t : ℚ) → Decides (keeps_test resets full x s t) (KeepsSlopes resets full x s t)
Decides-keeps resets None x s t = Decides-and (le_ℚ t s) (le_ℚ x 0ℚ || le_ℚ s t) (Decides-le t s) (Decides-or (le_ℚ x 0ℚ) (le_ℚ s t) (Decides-le x 0ℚ) (Decides-le s t))
Decides-keeps true (Some full) x s t = Decides-same x full
Decides-keeps false (Some full) x s t = Decides-and (le_ℚ t s || le_ℚ full x) (le_ℚ x 0ℚ || (le_ℚ s t && le_ℚ x full))
    (Decides-or (le_ℚ t s) (le_ℚ full x) (Decides-le t s) (Decides-le full x))
    (Decides-or (le_ℚ x 0ℚ) (le_ℚ s t && le_ℚ x full) (Decides-le x 0ℚ) (Decides-and (le_ℚ s t) (le_ℚ x full) (Decides-le s t) (Decides-le x full)))

pub not_same : (x y : ℚ) → same_test x y ≡ false → x ≡ y → ⊥
not_same x y e h = false_true (sym e ∙ (Decides-same x y).1 h)

-- a flag that is not set
pub not_set_by : (flags : List Bool) (e : ℕ) (b : Bool) → slice_get flags e ≡ Some b → b ≡ false → Has flags e → ⊥
not_set_by flags e b at off h = false_true (sym off ∙ same_Some b true (sym at ∙ h))

-- if the first holds and the second does not, the third decides
pub third_decides : (b : Bool) (A B C : Type 0) → A → (B → ⊥) → MatchBool b C (C → ⊥) → MatchBool b (A × (B ⊎ C)) (A × (B ⊎ C) → ⊥)
third_decides true A B C a n c = (a, inr c)
third_decides false A B C a n c = λ t. ⊎_elim n c t.1
