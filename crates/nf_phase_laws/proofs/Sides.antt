-- The time for which a link stays on its side: inactive with slack at most 0, or resetting with slack at least 0.
use Rattle.std.proofs.Common.{◌≡◌, [], ◌∷◌, ◌⊎◌, inl, inr, ⊎_elim, Bool, true, false, sym, refl, ◌&&◌, ◌||◌}
use Rattle.nf_phase_laws.proofs.Common.{ℚ, 0ℚ, ◌+ℚ◌, ◌-ℚ◌, ◌*ℚ◌, ◌/ℚ◌, ◌≤ℚ◌, ◌<ℚ◌, lt_ℚ, reading_of, le, lt, eq, le_times, linear_le, linear_false}
use Rattle.nf_phase_laws.proofs.Common.{lt_or_le_ℚ, ps_times, less_ps, ≤ℚ_of_lt, less_of_test, test_of_less, not_less_of_test, Within, is_zero}
use Rattle.nf_phase_laws.proofs.Common.{are_opposite, ≤ℚ_refl, ≤ℚ_trans, and_parts, false≢true, or_cases, ps_apart, /ℚ-times, zero_of_test}
use Rattle.nf_phase_laws.proofs.Limits.{HoldsUpTo, HoldsAlways}

pub record KeepsSide (slack change length : ℚ) : Type 0 where
  pub inactive : (while : ℚ) → slack <ℚ 0ℚ → Within 0ℚ length while → (slack +ℚ while *ℚ change) ≤ℚ 0ℚ
  pub resetting : (while : ℚ) → 0ℚ <ℚ slack → Within 0ℚ length while → 0ℚ ≤ℚ (slack +ℚ while *ℚ change)

-- ---- over plain numbers
never_less : (x : ℚ) → x <ℚ 0ℚ → 0ℚ <ℚ x → ⊥
never_less x h k = linear_false (x ∷ []) (lt h ∷ lt k ∷ []) (search reading_of) tt

stays_below : (s c w : ℚ) → s <ℚ 0ℚ → c ≤ℚ 0ℚ → 0ℚ ≤ℚ w → (s +ℚ w *ℚ c) ≤ℚ 0ℚ
stays_below s c w h k p = linear_le (s ∷ c ∷ w ∷ []) (lt h ∷ le_times p k ∷ []) (search reading_of) tt

stays_above : (s c w : ℚ) → 0ℚ <ℚ s → 0ℚ ≤ℚ c → 0ℚ ≤ℚ w → 0ℚ ≤ℚ (s +ℚ w *ℚ c)
stays_above s c w h k p = linear_le (s ∷ c ∷ w ∷ []) (lt h ∷ le_times p k ∷ []) (search reading_of) tt

module _ (s c x : ℚ) (meets : x *ℚ c ≡ 0ℚ -ℚ s) where
  -- a slack below 0 that rises
  rising_positive : s <ℚ 0ℚ → 0ℚ <ℚ c → 0ℚ <ℚ x
  rising_positive below rises = ⊎_elim
      (λ (h : 0ℚ <ℚ x). h)
      (λ (h : x ≤ℚ 0ℚ). absurd (linear_false (s ∷ c ∷ x ∷ []) (lt below ∷ eq meets ∷ le_times (weak c rises) h ∷ []) (search reading_of) tt))
      (lt_or_le_ℚ 0ℚ x)
    where
      weak : (c : ℚ) → 0ℚ <ℚ c → 0ℚ ≤ℚ c
      weak c h = linear_le (c ∷ []) (lt h ∷ []) (search reading_of) tt

  rising_within : (w : ℚ) → 0ℚ ≤ℚ c → w ≤ℚ x → (s +ℚ w *ℚ c) ≤ℚ 0ℚ
  rising_within w rises h = linear_le (s ∷ c ∷ x ∷ w ∷ []) (eq meets ∷ le_times rises h ∷ []) (search reading_of) tt

  rising_bound : (w : ℚ) → 0ℚ <ℚ c → (s +ℚ w *ℚ c) ≤ℚ 0ℚ → w ≤ℚ x
  rising_bound w rises h = ⊎_elim
      (λ (k : x <ℚ w). absurd (linear_false (s ∷ c ∷ x ∷ w ∷ []) (eq meets ∷ le h ∷ lt (ps_times (w -ℚ x) c (less_ps x w k) rises) ∷ []) (search reading_of) tt))
      (λ (k : w ≤ℚ x). k)
      (lt_or_le_ℚ x w)

  -- a slack above 0 that falls
  opposite_nn : c <ℚ 0ℚ → 0ℚ ≤ℚ 0ℚ -ℚ c
  opposite_nn h = linear_le (c ∷ []) (lt h ∷ []) (search reading_of) tt

  falling_positive : 0ℚ <ℚ s → c <ℚ 0ℚ → 0ℚ <ℚ x
  falling_positive above falls = ⊎_elim
      (λ (h : 0ℚ <ℚ x). h)
      (λ (h : x ≤ℚ 0ℚ). absurd (linear_false (s ∷ c ∷ x ∷ []) (lt above ∷ eq meets ∷ le_times (opposite_nn falls) h ∷ []) (search reading_of) tt))
      (lt_or_le_ℚ 0ℚ x)

  falling_within : (w : ℚ) → c <ℚ 0ℚ → w ≤ℚ x → 0ℚ ≤ℚ (s +ℚ w *ℚ c)
  falling_within w falls h = linear_le (s ∷ c ∷ x ∷ w ∷ []) (eq meets ∷ le_times (opposite_nn falls) h ∷ []) (search reading_of) tt

  falling_bound : (w : ℚ) → c <ℚ 0ℚ → 0ℚ ≤ℚ (s +ℚ w *ℚ c) → w ≤ℚ x
  falling_bound w falls h = ⊎_elim
      (λ (k : x <ℚ w). absurd (linear_false (s ∷ c ∷ x ∷ w ∷ []) (eq meets ∷ le h ∷ lt (ps_times (w -ℚ x) (0ℚ -ℚ c) (less_ps x w k) (less_ps c 0ℚ falls)) ∷ []) (search reading_of) tt))
      (λ (k : w ≤ℚ x). k)
      (lt_or_le_ℚ x w)

-- ---- the direction of a slack
-- The slack moves towards 0, from one of its sides.
abbrev pub Opposite : ℚ → ℚ → Type 0
Opposite s c = ((s <ℚ 0ℚ) × (0ℚ <ℚ c)) ⊎ ((0ℚ <ℚ s) × (c <ℚ 0ℚ))

-- The slack moves away from 0, or is constant.
pub record Away (s c : ℚ) : Type 0 where
  pub below : s <ℚ 0ℚ → c ≤ℚ 0ℚ
  pub above : 0ℚ <ℚ s → 0ℚ ≤ℚ c

-- ---- by the tests

none_of_first : (a b c : Bool) → ((a && b) || c) ≡ false → a ≡ true → b ≡ false
none_of_first true true c e h = e
none_of_first true false c e h = refl
none_of_first false b c e h = absurd (false≢true h)

none_of_second : (a b c : Bool) → (a || (b && c)) ≡ false → b ≡ true → c ≡ false
none_of_second true b c e h = absurd (false≢true (sym e))
none_of_second false true c e h = e
none_of_second false false c e h = absurd (false≢true h)

opposite_of : (s c : ℚ) → are_opposite s c ≡ true → Opposite s c
opposite_of s c e = ⊎_elim
    (λ (h : (lt_ℚ s 0ℚ && lt_ℚ 0ℚ c) ≡ true). inl (less_of_test s 0ℚ (and_parts _ _ h).0, less_of_test 0ℚ c (and_parts _ _ h).1))
    (λ (h : (lt_ℚ 0ℚ s && lt_ℚ c 0ℚ) ≡ true). inr (less_of_test 0ℚ s (and_parts _ _ h).0, less_of_test c 0ℚ (and_parts _ _ h).1))
    (or_cases (lt_ℚ s 0ℚ && lt_ℚ 0ℚ c) (lt_ℚ 0ℚ s && lt_ℚ c 0ℚ) e)

away_of : (s c : ℚ) → are_opposite s c ≡ false → Away s c
away_of s c e = record {
  below = λ h. not_less_of_test 0ℚ c (none_of_first (lt_ℚ s 0ℚ) (lt_ℚ 0ℚ c) (lt_ℚ 0ℚ s && lt_ℚ c 0ℚ) e (test_of_less s 0ℚ h));
  above = λ h. not_less_of_test c 0ℚ (none_of_second (lt_ℚ s 0ℚ && lt_ℚ 0ℚ c) (lt_ℚ 0ℚ s) (lt_ℚ c 0ℚ) e (test_of_less 0ℚ s h));
}

-- ---- the time for which a link stays on its side
pub keeps_at_zero : (s c : ℚ) → is_zero s ≡ true → HoldsAlways (KeepsSide s c)
keeps_at_zero s c e length h = record {
  inactive = λ while below w. absurd (not_less (zero_of_test s e) below);
  resetting = λ while above w. absurd (not_more (zero_of_test s e) above);
}
  where
    not_less : s ≡ 0ℚ → s <ℚ 0ℚ → ⊥
    not_less e h = linear_false (s ∷ []) (eq e ∷ lt h ∷ []) (search reading_of) tt

    not_more : s ≡ 0ℚ → 0ℚ <ℚ s → ⊥
    not_more e h = linear_false (s ∷ []) (eq e ∷ lt h ∷ []) (search reading_of) tt

pub keeps_away : (s c : ℚ) → are_opposite s c ≡ false → HoldsAlways (KeepsSide s c)
keeps_away s c e length h = record {
  inactive = λ while below w. stays_below s c while below ((away_of s c e).below below) w.0;
  resetting = λ while above w. stays_above s c while above ((away_of s c e).above above) w.0;
}

module _ (s c : ℚ) where
  rises_towards : s <ℚ 0ℚ → 0ℚ <ℚ c → HoldsUpTo (KeepsSide s c) ((0ℚ -ℚ s) /ℚ c)
  rises_towards below rises = record {
    positive = rising_positive s c x meets below rises;
    within = λ length h k. record {
      inactive = λ while low w. rising_within s c x meets while (≤ℚ_of_lt 0ℚ c rises) (≤ℚ_trans while length x w.1 k);
      resetting = λ while above w. absurd (never_less s below above);
    };
    bound = λ length h keeps. rising_bound s c x meets length rises (keeps.inactive length below (h, ≤ℚ_refl length));
  }
    where
      x : ℚ
      x = (0ℚ -ℚ s) /ℚ c

      meets : x *ℚ c ≡ 0ℚ -ℚ s
      meets = /ℚ-times (0ℚ -ℚ s) c (ps_apart c rises)

  falls_towards : 0ℚ <ℚ s → c <ℚ 0ℚ → HoldsUpTo (KeepsSide s c) ((0ℚ -ℚ s) /ℚ c)
  falls_towards above falls = record {
    positive = falling_positive s c x meets above falls;
    within = λ length h k. record {
      inactive = λ while below w. absurd (never_less s below above);
      resetting = λ while high w. falling_within s c x meets while falls (≤ℚ_trans while length x w.1 k);
    };
    bound = λ length h keeps. falling_bound s c x meets length falls (keeps.resetting length above (h, ≤ℚ_refl length));
  }
    where
      apart : c ≡ 0ℚ → ⊥
      apart e = linear_false (c ∷ []) (eq e ∷ lt falls ∷ []) (search reading_of) tt

      x : ℚ
      x = (0ℚ -ℚ s) /ℚ c

      meets : x *ℚ c ≡ 0ℚ -ℚ s
      meets = /ℚ-times (0ℚ -ℚ s) c apart

  pub keeps_until : are_opposite s c ≡ true → HoldsUpTo (KeepsSide s c) ((0ℚ -ℚ s) /ℚ c)
  keeps_until e = ⊎_elim
      (λ (w : (s <ℚ 0ℚ) × (0ℚ <ℚ c)). rises_towards w.0 w.1)
      (λ (w : (0ℚ <ℚ s) × (c <ℚ 0ℚ)). falls_towards w.0 w.1)
      (opposite_of s c e)
