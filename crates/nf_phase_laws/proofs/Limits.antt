-- A property that holds for the lengths from 0 up to a limit, and for none beyond; without a limit, for every length.
use Rattle.std.proofs.Common.{◌≡◌, [], ◌∷◌, ⊎_elim, sym, subst, Option, Some, None}
use Rattle.nf_phase_laws.proofs.Common.{ℚ, 0ℚ, ◌≤ℚ◌, ◌<ℚ◌, min_ℚ, reading_of, le, lt, linear_le, min_ℚ_cases, ≤ℚ_trans, lesser}

pub record HoldsUpTo (P : ℚ → Type 0) (limit : ℚ) : Type 0 where
  pub positive : 0ℚ <ℚ limit
  pub within : (length : ℚ) → 0ℚ ≤ℚ length → length ≤ℚ limit → P length
  pub bound : (length : ℚ) → 0ℚ ≤ℚ length → P length → length ≤ℚ limit

abbrev pub HoldsAlways : (ℚ → Type 0) → Type 0
HoldsAlways P = (length : ℚ) → 0ℚ ≤ℚ length → P length

abbrev pub IsLimit : (ℚ → Type 0) → Option ℚ → Type 0
IsLimit P None = HoldsAlways P
IsLimit P (Some limit) = HoldsUpTo P limit

abbrev pub Both : (ℚ → Type 0) → (ℚ → Type 0) → ℚ → Type 0
Both P Q length = P length × Q length

below : (a b c : ℚ) → a ≤ℚ b → b <ℚ c → a ≤ℚ c
below a b c h k = linear_le (a ∷ b ∷ c ∷ []) (le h ∷ lt k ∷ []) (search reading_of) tt

module _ (P Q : ℚ → Type 0) where
  -- An equivalent property has the same limit.
  pub IsLimit-same : ((length : ℚ) → P length → Q length) → ((length : ℚ) → Q length → P length) → (limit : Option ℚ) → IsLimit P limit → IsLimit Q limit
  IsLimit-same to from None p = λ length h. to length (p length h)
  IsLimit-same to from (Some limit) p = record {
    positive = p.positive;
    within = λ length h k. to length (p.within length h k);
    bound = λ length h q. p.bound length h (from length q);
  }

  -- A property that always holds has no limit.
  pub IsLimit-with : (limit : Option ℚ) → IsLimit P limit → HoldsAlways Q → IsLimit (Both P Q) limit
  IsLimit-with None p q = λ length h. (p length h, q length h)
  IsLimit-with (Some limit) p q = record {
    positive = p.positive;
    within = λ length h k. (p.within length h k, q length h);
    bound = λ length h w. p.bound length h w.0;
  }

  first_limits : (x y : ℚ) → HoldsUpTo P x → HoldsUpTo Q y → x ≤ℚ y → HoldsUpTo (Both P Q) x
  first_limits x y p q order = record {
    positive = p.positive;
    within = λ length h k. (p.within length h k, q.within length h (≤ℚ_trans length x y k order));
    bound = λ length h w. p.bound length h w.0;
  }

  second_limits : (x y : ℚ) → HoldsUpTo P x → HoldsUpTo Q y → y <ℚ x → HoldsUpTo (Both P Q) y
  second_limits x y p q order = record {
    positive = q.positive;
    within = λ length h k. (p.within length h (below length y x k order), q.within length h k);
    bound = λ length h w. q.bound length h w.1;
  }

  -- the lesser of two limits
  pub IsLimit-lesser : (limit : Option ℚ) (y : ℚ) → IsLimit P limit → HoldsUpTo Q y → IsLimit (Both P Q) (lesser limit y)
  IsLimit-lesser None y p q = record {
    positive = q.positive;
    within = λ length h k. (p length h, q.within length h k);
    bound = λ length h w. q.bound length h w.1;
  }
  IsLimit-lesser (Some x) y p q = ⊎_elim
      (λ (w : (min_ℚ x y ≡ x) × (x ≤ℚ y)). subst (HoldsUpTo (Both P Q)) (sym w.0) (first_limits x y p q w.1))
      (λ (w : (min_ℚ x y ≡ y) × (y <ℚ x)). subst (HoldsUpTo (Both P Q)) (sym w.0) (second_limits x y p q w.1))
      (min_ℚ_cases x y)
