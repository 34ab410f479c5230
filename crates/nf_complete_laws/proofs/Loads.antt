-- The flow of a link if slopes are powers of a number k that is at least 1. Here a and b are the exponents of the slopes of the tail and
-- the head, and t is the exponent of the flow into the head.
use Rattle.std.proofs.Common.{◌≡◌, ℕ, ◌<◌, ◌≤◌, max, [], ◌∷◌, ◌⊎◌, inl, inr, ⊎_elim, Bool, true, false, Option, Some, None, subst, refl, arith}
use Rattle.nf_complete_laws.proofs.Common.{cases_lt, none-some, same_Some, ℚ, 0ℚ, 1ℚ, ◌*ℚ◌, ◌≤ℚ◌, reading_of, ≤ℚ_of_lt, nn_times, linear_le, ≤ℚ_refl}
use Rattle.nf_complete_laws.proofs.Common.{times_le, Fills, IsPositive, Fits}
use Rattle.nf_complete_laws.proofs.Powers.{power, power-nn, power-rises, room}

-- The exponent of the head's slope that the link allows.
abbrev pub bound : Bool → Option ℚ → ℕ → ℕ → ℕ
bound true capacity a t = t
bound false None a t = a
bound false (Some c) a t = max a t

pub bound-tail : (capacity : Option ℚ) (a t : ℕ) → a ≤ bound false capacity a t
bound-tail None a t = omega arith
bound-tail (Some c) a t = omega arith

-- A flow that fits, and is at most the link's room. It equals the room if the head has the slope that the link allows.
pub record Load (k : ℚ) (resets : Bool) (capacity : Option ℚ) (a b t : ℕ) : Type 0 where
  pub flow : ℚ
  pub no_negative : 0ℚ ≤ℚ flow
  pub fills : resets ≡ true → Fills capacity flow (power k b)
  pub fits : resets ≡ false → Fits capacity flow (power k a) (power k b)
  pub most : flow ≤ℚ room capacity *ℚ power k t
  pub least : b ≡ bound resets capacity a t → room capacity *ℚ power k t ≤ℚ flow

one_is : (p : ℚ) → p ≤ℚ 1ℚ *ℚ p
one_is p = linear_le (p ∷ []) [] (search reading_of) tt

is_one : (p : ℚ) → 1ℚ *ℚ p ≤ℚ p
is_one p = linear_le (p ∷ []) [] (search reading_of) tt

same_capacity : (x c s d : ℚ) → x ≤ℚ c *ℚ s → Some c ≡ Some d → x ≤ℚ d *ℚ s
same_capacity x c s d h e = subst (λ (z : ℚ). x ≤ℚ z *ℚ s) (same_Some c d e) h

module _ (k : ℚ) (one : 1ℚ ≤ℚ k) (a b t : ℕ) where
  rises : (m n : ℕ) → m ≤ n → power k m ≤ℚ power k n
  rises = power-rises k one

  -- a resetting link carries the capacity times the slope of the head
  resetting : (c : ℚ) → 0ℚ ≤ℚ c → b ≤ t → Load k true (Some c) a b t
  resetting c n h = record {
    flow = c *ℚ power k b;
    no_negative = nn_times c (power k b) n (power-nn k one b);
    fills = λ _. (c, refl, refl);
    fits = λ e. absurd (cc);
    most = times_le c (power k b) (power k t) n (rises b t h);
    least = λ e. let f : b ≡ t = e in times_le c (power k t) (power k b) n (rises t b (omega arith));
  }

  -- An unbounded link carries the needed flow if the slopes are equal, and nothing otherwise.
  unbounded : b ≤ a → Load k false None a b t
  unbounded h = ⊎_elim (λ (l : b < a). empty l) (λ (l : a ≤ b). level l) (cases_lt b a)
    where
      empty : b < a → Load k false None a b t
      empty l = record {
        flow = 0ℚ;
        no_negative = ≤ℚ_refl 0ℚ;
        fills = λ e. absurd (cc);
        fits = λ _. record { no_negative = ≤ℚ_refl 0ℚ; most = λ c e. absurd (none-some c e); used = inl (≤ℚ_refl 0ℚ); upper = inl (rises b a h) };
        most = nn_times 1ℚ (power k t) (power-nn k one 0) (power-nn k one t);
        least = λ e. let f : b ≡ a = e in absurd (omega arith);
      }

      level : a ≤ b → Load k false None a b t
      level l = record {
        flow = power k t;
        no_negative = power-nn k one t;
        fills = λ e. absurd (cc);
        fits = λ _. record { no_negative = power-nn k one t; most = λ c e. absurd (none-some c e); used = inr (rises a b l); upper = inl (rises b a h) };
        most = one_is (power k t);
        least = λ _. is_one (power k t);
      }

  -- Any other link carries nothing if the slope falls, its greatest flow if the slope rises, and the needed flow if the slopes are equal.
  bounded : (c : ℚ) → 0ℚ ≤ℚ c → b ≤ max a t → Load k false (Some c) a b t
  bounded c n h = ⊎_elim
      (λ (l : b < a). empty l)
      (λ (l : a ≤ b). ⊎_elim (λ (m : t < b). level l m) (λ (m : b ≤ t). full l m) (cases_lt t b))
      (cases_lt b a)
    where
      within : (x : ℚ) → 0ℚ ≤ℚ x → x ≤ℚ c *ℚ power k b → (x ≤ℚ 0ℚ) ⊎ (power k a ≤ℚ power k b) → (power k b ≤ℚ power k a) ⊎ ((d : ℚ) × (Some c ≡ Some d) × (d *ℚ power k b ≤ℚ x))
          → Fits (Some c) x (power k a) (power k b)
      within x positive most used upper = record { no_negative = positive; most = λ d e. same_capacity x c (power k b) d most e; used = used; upper = upper }

      empty : b < a → Load k false (Some c) a b t
      empty l = record {
        flow = 0ℚ;
        no_negative = ≤ℚ_refl 0ℚ;
        fills = λ e. absurd (cc);
        fits = λ _. within 0ℚ (≤ℚ_refl 0ℚ) (nn_times c (power k b) n (power-nn k one b)) (inl (≤ℚ_refl 0ℚ)) (inl (rises b a (omega arith)));
        most = nn_times c (power k t) n (power-nn k one t);
        least = λ e. let f : b ≡ max a t = e in absurd (omega arith);
      }

      level : a ≤ b → t < b → Load k false (Some c) a b t
      level l m = record {
        flow = c *ℚ power k t;
        no_negative = nn_times c (power k t) n (power-nn k one t);
        fills = λ e. absurd (cc);
        fits = λ _. within (c *ℚ power k t) (nn_times c (power k t) n (power-nn k one t)) (times_le c (power k t) (power k b) n (rises t b (omega arith)))
            (inr (rises a b l)) (inl (rises b a (omega arith)));
        most = ≤ℚ_refl (c *ℚ power k t);
        least = λ _. ≤ℚ_refl (c *ℚ power k t);
      }

      full : a ≤ b → b ≤ t → Load k false (Some c) a b t
      full l m = record {
        flow = c *ℚ power k b;
        no_negative = nn_times c (power k b) n (power-nn k one b);
        fills = λ e. absurd (cc);
        fits = λ _. within (c *ℚ power k b) (nn_times c (power k b) n (power-nn k one b)) (≤ℚ_refl (c *ℚ power k b)) (inr (rises a b l)) (inr (c, refl, ≤ℚ_refl (c *ℚ power k b)));
        most = times_le c (power k b) (power k t) n (rises b t m);
        least = λ e. let f : b ≡ max a t = e in times_le c (power k t) (power k b) n (rises t b (omega arith));
      }

  pub load : (resets : Bool) (capacity : Option ℚ) → IsPositive capacity → (resets ≡ true → capacity ≡ None → ⊥) → b ≤ bound resets capacity a t → Load k resets capacity a b t
  load true None p n h = absurd (n refl refl)
  load true (Some c) p n h = resetting c (≤ℚ_of_lt _ _ (p c refl)) h
  load false None p n h = unbounded h
  load false (Some c) p n h = bounded c (≤ℚ_of_lt _ _ (p c refl)) h
