-- Systems: joined, at assignments that agree, and tested.
use Rattle.std.proofs.Common.{◌≡◌, ℕ, suc, ◌+◌, ◌<◌, ◌≤◌, List, [], ◌∷◌, ◌++◌, ◌⊎◌, inl, inr, sym, subst, arith}
use Rattle.nf_linear_laws.proofs.Common.{ℚ, ◌≤ℚ◌, ◌<ℚ◌, lt_or_le_ℚ, not_both_ℚ, form_value, AtMost, HoldsAt, MeetsAll}
use Rattle.nf_linear_laws.proofs.Forms.{Within, Within-more, form_within, form_value-same, moved, form_value-moved}

-- ---- joined
pub MeetsAll-append : (front rest : List AtMost) (x : ℕ → ℚ) → MeetsAll front x → MeetsAll rest x → MeetsAll (front ++ rest) x
MeetsAll-append [] rest x h k = k
MeetsAll-append (c ∷ front) rest x h k = (h.0, MeetsAll-append front rest x h.1 k)

pub MeetsAll-front : (front rest : List AtMost) (x : ℕ → ℚ) → MeetsAll (front ++ rest) x → MeetsAll front x
MeetsAll-front [] rest x h = tt
MeetsAll-front (c ∷ front) rest x h = (h.0, MeetsAll-front front rest x h.1)

pub MeetsAll-rest : (front rest : List AtMost) (x : ℕ → ℚ) → MeetsAll (front ++ rest) x → MeetsAll rest x
MeetsAll-rest [] rest x h = h
MeetsAll-rest (c ∷ front) rest x h = MeetsAll-rest front rest x h.1

-- ---- systems in which only variables below n occur
abbrev pub AreWithin : ℕ → List AtMost → Type 0
AreWithin n [] = Unit {0}
AreWithin n (c ∷ system) = Within n c.form × AreWithin n system

pub AreWithin-append : (n : ℕ) (front rest : List AtMost) → AreWithin n front → AreWithin n rest → AreWithin n (front ++ rest)
AreWithin-append n [] rest w v = v
AreWithin-append n (c ∷ front) rest w v = (w.0, AreWithin-append n front rest w.1 v)

pub AreWithin-more : (m n : ℕ) (system : List AtMost) → m ≤ n → AreWithin m system → AreWithin n system
AreWithin-more m n [] h w = tt
AreWithin-more m n (c ∷ system) h w = (Within-more m n c.form h w.0, AreWithin-more m n system h w.1)

pub system_within : (system : List AtMost) → (n : ℕ) × AreWithin n system
system_within [] = (0, tt)
system_within (c ∷ system) =
    let v = form_within c.form in
    let w = system_within system in
    (v.0 + w.0, (Within-more v.0 (v.0 + w.0) c.form (first v.0 w.0) v.1, AreWithin-more w.0 (v.0 + w.0) system (rest v.0 w.0) w.1))
  where
    first : (m n : ℕ) → m ≤ m + n
    first m n = omega arith

    rest : (m n : ℕ) → n ≤ m + n
    rest m n = omega arith

pub MeetsAll-same : (n : ℕ) (system : List AtMost) (x y : ℕ → ℚ) → AreWithin n system → ((i : ℕ) → i < n → x i ≡ y i) → MeetsAll system x → MeetsAll system y
MeetsAll-same n [] x y w e h = tt
MeetsAll-same n (c ∷ system) x y w e h =
    (subst (λ (v : ℚ). v ≤ℚ c.bound) (form_value-same n c.form x y w.0 e) h.0, MeetsAll-same n system x y w.1 e h.1)

-- ---- tests at one assignment
both_or_not : (c : AtMost) (system : List AtMost) (x : ℕ → ℚ) → (c.bound <ℚ form_value c.form x) ⊎ HoldsAt x c
    → MeetsAll system x ⊎ (MeetsAll system x → ⊥) → MeetsAll (c ∷ system) x ⊎ (MeetsAll (c ∷ system) x → ⊥)
both_or_not c system x (inl l) rest = inr (λ h. not_both_ℚ _ _ l h.0)
both_or_not c system x (inr h) (inl k) = inl (h, k)
both_or_not c system x (inr h) (inr fails) = inr (λ k. fails k.1)

pub met_or_not : (system : List AtMost) (x : ℕ → ℚ) → MeetsAll system x ⊎ (MeetsAll system x → ⊥)
met_or_not [] x = inl tt
met_or_not (c ∷ system) x = both_or_not c system x (lt_or_le_ℚ c.bound (form_value c.form x)) (met_or_not system x)

-- ---- one more variable, before all others
abbrev pub all_moved : List AtMost → List AtMost
all_moved [] = []
all_moved (c ∷ system) = record { form = moved c.form; bound = c.bound } ∷ all_moved system

pub all_moved-in : (system : List AtMost) (x : ℕ → ℚ) → MeetsAll system (λ i. x (suc i)) → MeetsAll (all_moved system) x
all_moved-in [] x h = tt
all_moved-in (c ∷ system) x h = (subst (λ (v : ℚ). v ≤ℚ c.bound) (sym (form_value-moved c.form x)) h.0, all_moved-in system x h.1)

pub all_moved-out : (system : List AtMost) (x : ℕ → ℚ) → MeetsAll (all_moved system) x → MeetsAll system (λ i. x (suc i))
all_moved-out [] x h = tt
all_moved-out (c ∷ system) x h = (subst (λ (v : ℚ). v ≤ℚ c.bound) (form_value-moved c.form x) h.0, all_moved-out system x h.1)
