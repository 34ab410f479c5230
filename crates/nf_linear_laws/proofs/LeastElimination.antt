-- Elimination of one variable from a system (Fourier, Motzkin). Divided by the variable's coefficient, each constraint does not contain the
-- variable, or bounds it from above or from below. Exactly the assignments that meet the remaining system, meet the system with some value.
use Rattle.std.proofs.Common.{◌≡◌, ℕ, suc, List, [], ◌∷◌, ◌++◌, ◌⊎◌, inl, inr, sym, subst}
use Rattle.nf_linear_laws.proofs.Common.{ℚ, 0ℚ, 1ℚ, ◌+ℚ◌, ◌-ℚ◌, ◌*ℚ◌, inv_ℚ, ◌≤ℚ◌, ◌<ℚ◌, reading_of, lt_or_le_ℚ, ≤ℚ_antisymm, ≤ℚ_of_lt, le, eq, le_times}
use Rattle.nf_linear_laws.proofs.Common.{eq_times, linear_le, ps_inv, ps_times_inv, negated_ps, form_value, AtMost, HoldsAt, MeetsAll}
use Rattle.nf_linear_laws.proofs.Forms.{Within, Within-scaled, Within-without, scaled, form_value-scaled, updated, updated-here, updated-below, coefficient}
use Rattle.nf_linear_laws.proofs.Forms.{without, form_value-apart}
use Rattle.nf_linear_laws.proofs.Constraints.{AreWithin, AreWithin-append, MeetsAll-append, MeetsAll-front, MeetsAll-rest, MeetsAll-same}
use Rattle.nf_linear_laws.proofs.Bounds.{AreAbove, AreBelow, AreAbove-same, AreBelow-same, pairs, pairs-within, pairs-in, between}

-- ---- one constraint
record Kept (n : ℕ) (c : AtMost) : Type 0 where
  other : AtMost
  within : Within n other.form
  there : (x : ℕ → ℚ) → HoldsAt x c → HoldsAt x other
  back : (x : ℕ → ℚ) → HoldsAt x other → HoldsAt x c

record Upper (n : ℕ) (c : AtMost) : Type 0 where
  other : AtMost
  within : Within n other.form
  there : (x : ℕ → ℚ) → HoldsAt x c → x n +ℚ form_value other.form x ≤ℚ other.bound
  back : (x : ℕ → ℚ) → x n +ℚ form_value other.form x ≤ℚ other.bound → HoldsAt x c

record Lower (n : ℕ) (c : AtMost) : Type 0 where
  other : AtMost
  within : Within n other.form
  there : (x : ℕ → ℚ) → HoldsAt x c → form_value other.form x ≤ℚ x n +ℚ other.bound
  back : (x : ℕ → ℚ) → form_value other.form x ≤ℚ x n +ℚ other.bound → HoldsAt x c

-- a is the coefficient of the variable v, k is one over a or over -a, and f is the rest of the form.
kept_there : (a v f b g : ℚ) → a ≡ 0ℚ → g ≡ a *ℚ v +ℚ f → g ≤ℚ b → f ≤ℚ b
kept_there a v f b g z e h = linear_le (a ∷ v ∷ f ∷ b ∷ g ∷ []) (eq_times v z ∷ eq e ∷ le h ∷ []) (search reading_of) tt

kept_back : (a v f b g : ℚ) → a ≡ 0ℚ → g ≡ a *ℚ v +ℚ f → f ≤ℚ b → g ≤ℚ b
kept_back a v f b g z e h = linear_le (a ∷ v ∷ f ∷ b ∷ g ∷ []) (eq_times v z ∷ eq e ∷ le h ∷ []) (search reading_of) tt

upper_there : (a k v f b g d : ℚ) → a *ℚ k ≡ 1ℚ → 0ℚ ≤ℚ k → g ≡ a *ℚ v +ℚ f → d ≡ k *ℚ f → g ≤ℚ b → v +ℚ d ≤ℚ k *ℚ b
upper_there a k v f b g d o n e s h = linear_le (a ∷ k ∷ v ∷ f ∷ b ∷ g ∷ d ∷ []) (le_times n h ∷ eq_times k e ∷ eq_times v o ∷ eq s ∷ []) (search reading_of) tt

upper_back : (a k v f b g d : ℚ) → a *ℚ k ≡ 1ℚ → 0ℚ ≤ℚ a → g ≡ a *ℚ v +ℚ f → d ≡ k *ℚ f → v +ℚ d ≤ℚ k *ℚ b → g ≤ℚ b
upper_back a k v f b g d o n e s h =
    linear_le (a ∷ k ∷ v ∷ f ∷ b ∷ g ∷ d ∷ []) (le_times n h ∷ eq_times a s ∷ eq_times b o ∷ eq_times f o ∷ eq e ∷ []) (search reading_of) tt

lower_there : (a k v f b g d : ℚ) → (0ℚ -ℚ a) *ℚ k ≡ 1ℚ → 0ℚ ≤ℚ k → g ≡ a *ℚ v +ℚ f → d ≡ k *ℚ f → g ≤ℚ b → d ≤ℚ v +ℚ k *ℚ b
lower_there a k v f b g d o n e s h = linear_le (a ∷ k ∷ v ∷ f ∷ b ∷ g ∷ d ∷ []) (le_times n h ∷ eq_times k e ∷ eq_times v o ∷ eq s ∷ []) (search reading_of) tt

lower_back : (a k v f b g d : ℚ) → (0ℚ -ℚ a) *ℚ k ≡ 1ℚ → 0ℚ ≤ℚ 0ℚ -ℚ a → g ≡ a *ℚ v +ℚ f → d ≡ k *ℚ f → d ≤ℚ v +ℚ k *ℚ b → g ≤ℚ b
lower_back a k v f b g d o n e s h =
    linear_le (a ∷ k ∷ v ∷ f ∷ b ∷ g ∷ d ∷ []) (le_times n h ∷ eq_times a s ∷ eq_times b o ∷ eq_times f o ∷ eq e ∷ []) (search reading_of) tt

Kept-from : (n : ℕ) (c : AtMost) → Within (suc n) c.form → coefficient n c.form ≡ 0ℚ → Kept n c
Kept-from n c w z = record {
  other = record { form = without n c.form; bound = c.bound };
  within = Within-without n c.form w;
  there = λ x h. kept_there (coefficient n c.form) (x n) (form_value (without n c.form) x) c.bound (form_value c.form x) z (form_value-apart n c.form x) h;
  back = λ x h. kept_back (coefficient n c.form) (x n) (form_value (without n c.form) x) c.bound (form_value c.form x) z (form_value-apart n c.form x) h;
}

Upper-from : (n : ℕ) (c : AtMost) (k : ℚ) → Within (suc n) c.form → coefficient n c.form *ℚ k ≡ 1ℚ → 0ℚ ≤ℚ k → 0ℚ ≤ℚ coefficient n c.form → Upper n c
Upper-from n c k w o p q = record {
  other = record { form = scaled k (without n c.form); bound = k *ℚ c.bound };
  within = Within-scaled n k (without n c.form) (Within-without n c.form w);
  there = λ x h. upper_there (coefficient n c.form) k (x n) (form_value (without n c.form) x) c.bound (form_value c.form x) (form_value (scaled k (without n c.form)) x)
      o p (form_value-apart n c.form x) (form_value-scaled k (without n c.form) x) h;
  back = λ x h. upper_back (coefficient n c.form) k (x n) (form_value (without n c.form) x) c.bound (form_value c.form x) (form_value (scaled k (without n c.form)) x)
      o q (form_value-apart n c.form x) (form_value-scaled k (without n c.form) x) h;
}

Lower-from : (n : ℕ) (c : AtMost) (k : ℚ) → Within (suc n) c.form → (0ℚ -ℚ coefficient n c.form) *ℚ k ≡ 1ℚ → 0ℚ ≤ℚ k → 0ℚ ≤ℚ 0ℚ -ℚ coefficient n c.form → Lower n c
Lower-from n c k w o p q = record {
  other = record { form = scaled k (without n c.form); bound = k *ℚ c.bound };
  within = Within-scaled n k (without n c.form) (Within-without n c.form w);
  there = λ x h. lower_there (coefficient n c.form) k (x n) (form_value (without n c.form) x) c.bound (form_value c.form x) (form_value (scaled k (without n c.form)) x)
      o p (form_value-apart n c.form x) (form_value-scaled k (without n c.form) x) h;
  back = λ x h. lower_back (coefficient n c.form) k (x n) (form_value (without n c.form) x) c.bound (form_value c.form x) (form_value (scaled k (without n c.form)) x)
      o q (form_value-apart n c.form x) (form_value-scaled k (without n c.form) x) h;
}

-- ---- a whole system
pub record Split (n : ℕ) (system : List AtMost) : Type 0 where
  pub kept : List AtMost
  pub uppers : List AtMost
  pub lowers : List AtMost
  pub kept_within : AreWithin n kept
  pub uppers_within : AreWithin n uppers
  pub lowers_within : AreWithin n lowers
  pub there : (x : ℕ → ℚ) → MeetsAll system x → MeetsAll kept x × AreAbove uppers x (x n) × AreBelow lowers x (x n)
  pub back : (x : ℕ → ℚ) → MeetsAll kept x → AreAbove uppers x (x n) → AreBelow lowers x (x n) → MeetsAll system x

Split-kept : (n : ℕ) (c : AtMost) (system : List AtMost) → Kept n c → Split n system → Split n (c ∷ system)
Split-kept n c system k s = record {
  kept = k.other ∷ s.kept;
  uppers = s.uppers;
  lowers = s.lowers;
  kept_within = (k.within, s.kept_within);
  uppers_within = s.uppers_within;
  lowers_within = s.lowers_within;
  there = λ x h. ((k.there x h.0, (s.there x h.1).0), (s.there x h.1).1, (s.there x h.1).2);
  back = λ x h u l. (k.back x h.0, s.back x h.1 u l);
}

Split-upper : (n : ℕ) (c : AtMost) (system : List AtMost) → Upper n c → Split n system → Split n (c ∷ system)
Split-upper n c system k s = record {
  kept = s.kept;
  uppers = k.other ∷ s.uppers;
  lowers = s.lowers;
  kept_within = s.kept_within;
  uppers_within = (k.within, s.uppers_within);
  lowers_within = s.lowers_within;
  there = λ x h. ((s.there x h.1).0, (k.there x h.0, (s.there x h.1).1), (s.there x h.1).2);
  back = λ x h u l. (k.back x u.0, s.back x h u.1 l);
}

Split-lower : (n : ℕ) (c : AtMost) (system : List AtMost) → Lower n c → Split n system → Split n (c ∷ system)
Split-lower n c system k s = record {
  kept = s.kept;
  uppers = s.uppers;
  lowers = k.other ∷ s.lowers;
  kept_within = s.kept_within;
  uppers_within = s.uppers_within;
  lowers_within = (k.within, s.lowers_within);
  there = λ x h. ((s.there x h.1).0, (s.there x h.1).1, (k.there x h.0, (s.there x h.1).2));
  back = λ x h u l. (k.back x l.0, s.back x h u l.1);
}

Split-added : (n : ℕ) (c : AtMost) (system : List AtMost) → Within (suc n) c.form → Split n system → Split n (c ∷ system)
Split-added n c system w s = by_sign (lt_or_le_ℚ a 0ℚ) (lt_or_le_ℚ 0ℚ a)
  where
    a : ℚ
    a = coefficient n c.form

    as_lower : a <ℚ 0ℚ → Split n (c ∷ system)
    as_lower h = Split-lower n c system (Lower-from n c (inv_ℚ (0ℚ -ℚ a)) w (ps_times_inv (0ℚ -ℚ a) (negated_ps a h))
        (≤ℚ_of_lt _ _ (ps_inv (0ℚ -ℚ a) (negated_ps a h))) (≤ℚ_of_lt _ _ (negated_ps a h))) s

    as_upper : 0ℚ <ℚ a → Split n (c ∷ system)
    as_upper h = Split-upper n c system (Upper-from n c (inv_ℚ a) w (ps_times_inv a h) (≤ℚ_of_lt _ _ (ps_inv a h)) (≤ℚ_of_lt _ _ h)) s

    by_sign : (a <ℚ 0ℚ) ⊎ (0ℚ ≤ℚ a) → (0ℚ <ℚ a) ⊎ (a ≤ℚ 0ℚ) → Split n (c ∷ system)
    by_sign (inl h) k = as_lower h
    by_sign (inr h) (inl k) = as_upper k
    by_sign (inr h) (inr k) = Split-kept n c system (Kept-from n c w (≤ℚ_antisymm a 0ℚ k h)) s

pub split : (n : ℕ) (system : List AtMost) → AreWithin (suc n) system → Split n system
split n [] w = record {
  kept = [];
  uppers = [];
  lowers = [];
  kept_within = tt;
  uppers_within = tt;
  lowers_within = tt;
  there = λ x h. (tt, tt, tt);
  back = λ x h u l. tt;
}
split n (c ∷ system) w = Split-added n c system w.0 (split n system w.1)

-- The system is met if the variable has a value within its bounds.
pub Split-met : (n : ℕ) (system : List AtMost) (s : Split n system) (x : ℕ → ℚ) (v : ℚ) → MeetsAll s.kept x → AreAbove s.uppers x v → AreBelow s.lowers x v
    → MeetsAll system (updated x n v)
Split-met n system s x v h u l = s.back (updated x n v)
    (MeetsAll-same n s.kept x (updated x n v) s.kept_within (updated-below x n v) h)
    (subst (λ (a : ℚ). AreAbove s.uppers (updated x n v) a) (sym (updated-here x n v)) (AreAbove-same n s.uppers x (updated x n v) v s.uppers_within (updated-below x n v) u))
    (subst (λ (a : ℚ). AreBelow s.lowers (updated x n v) a) (sym (updated-here x n v)) (AreBelow-same n s.lowers x (updated x n v) v s.lowers_within (updated-below x n v) l))

-- ---- the remaining system, without the variable n
pub record Elimination (n : ℕ) (system : List AtMost) : Type 0 where
  pub rest : List AtMost
  pub within : AreWithin n rest
  pub there : (x : ℕ → ℚ) → MeetsAll system x → MeetsAll rest x
  pub back : (x : ℕ → ℚ) → MeetsAll rest x → (v : ℚ) × MeetsAll system (updated x n v)

Split-rest : (n : ℕ) (system : List AtMost) → Split n system → Elimination n system
Split-rest n system s = record {
  rest = s.kept ++ pairs s.uppers s.lowers;
  within = AreWithin-append n s.kept (pairs s.uppers s.lowers) s.kept_within (pairs-within n s.uppers s.lowers s.uppers_within s.lowers_within);
  there = λ x h. MeetsAll-append s.kept (pairs s.uppers s.lowers) x (s.there x h).0 (pairs-in s.uppers s.lowers x (x n) (s.there x h).1 (s.there x h).2);
  back = back;
}
  where
    back : (x : ℕ → ℚ) → MeetsAll (s.kept ++ pairs s.uppers s.lowers) x → (v : ℚ) × MeetsAll system (updated x n v)
    back x h =
        let m : (v : ℚ) × AreAbove s.uppers x v × AreBelow s.lowers x v = between s.uppers s.lowers x (MeetsAll-rest s.kept (pairs s.uppers s.lowers) x h) in
        (m.0, Split-met n system s x m.0 (MeetsAll-front s.kept (pairs s.uppers s.lowers) x h) m.1 m.2)

pub eliminated : (n : ℕ) (system : List AtMost) → AreWithin (suc n) system → Elimination n system
eliminated n system w = Split-rest n system (split n system w)
