-- A cut scaled down to an earlier time; and no earlier time delivers the amount if the value of a cut equals the amount delivered by its
-- time.
use Rattle.std.proofs.Common.{◌≡◌, ℕ, suc, List, [], ◌∷◌, ⊎_elim, Option, Some, None, slice_get, unwrap_or, option_map, sym, ap, subst, refl, ◌∙◌}
use Rattle.nf_quick_laws.proofs.Common.{slice_get-map, length-map, ℚ, 0ℚ, 1ℚ, ◌+ℚ◌, ◌-ℚ◌, ◌*ℚ◌, ◌/ℚ◌, ◌≤ℚ◌, ◌<ℚ◌, max_ℚ, reading_of, ≤ℚ_of_same, ≤ℚ_of_lt}
use Rattle.nf_quick_laws.proofs.Common.{lt_or_le_ℚ, not_both_ℚ, ps_times, less_ps, nn_times, le, lt, eq, le_times, linear_le, linear_lt, linear_false}
use Rattle.nf_quick_laws.proofs.Common.{number_at, Link, Network, IsNetwork, Delivers, IsQuickest, IsCut, let_through, cut_sum, cut_value, nn-quotient}
use Rattle.nf_quick_laws.proofs.Common.{quotient-times, ≤ℚ_trans, max_left, max_right, max_keeps, zero_of_times_zero}
use Rattle.nf_quick_laws.specs.DualityLaws.{scaled}
use Rattle.nf_quick_laws.proofs.Bound.{delivered-le}

pub number_at-scaled : (c : ℚ) (cut : List ℚ) (v : ℕ) → number_at (scaled c cut) v ≡ c *ℚ number_at cut v
number_at-scaled c cut v = ap (λ (o : Option ℚ). unwrap_or o 0ℚ) (slice_get-map (λ a. c *ℚ a) cut v) ∙ by_entry (slice_get cut v)
  where
    by_entry : (o : Option ℚ) → unwrap_or (option_map (λ a. c *ℚ a) o) 0ℚ ≡ c *ℚ unwrap_or o 0ℚ
    by_entry None = zero_of_times_zero c
    by_entry (Some a) = refl

-- ---- if t is at most s + r, then c t is at most c s + r, for a factor c from 0 to 1
-- For a factor from 0 to 1, scaling shortens the time that the transit time leaves.
shorter : (c s t r x y : ℚ) → 0ℚ ≤ℚ c → c ≤ℚ 1ℚ → 0ℚ ≤ℚ r → x ≡ c *ℚ s → y ≡ c *ℚ t → t ≤ℚ s +ℚ r → y ≤ℚ x +ℚ r
shorter c s t r x y n m h e f k = linear_le (c ∷ s ∷ t ∷ r ∷ x ∷ y ∷ []) (le_times n k ∷ le_times h m ∷ eq e ∷ eq f ∷ []) (search reading_of) tt

gap_below : (c s t r x y m : ℚ) → 0ℚ ≤ℚ c → c ≤ℚ 1ℚ → 0ℚ ≤ℚ r → x ≡ c *ℚ s → y ≡ c *ℚ t → t -ℚ r -ℚ s ≤ℚ m → y -ℚ r -ℚ x ≤ℚ c *ℚ m
gap_below c s t r x y m n l h e f k = linear_le (c ∷ s ∷ t ∷ r ∷ x ∷ y ∷ m ∷ []) (le_times n k ∷ le_times h l ∷ eq e ∷ eq f ∷ []) (search reading_of) tt

most : (x y : ℚ) → 0ℚ ≤ℚ y → x ≤ℚ y → max_ℚ 0ℚ x ≤ℚ y
most x y h k = max_keeps (λ (z : ℚ). z ≤ℚ y) 0ℚ x h k

times_rate : (q c m a : ℚ) → 0ℚ ≤ℚ q → a ≤ℚ c *ℚ m → q *ℚ a ≤ℚ c *ℚ (q *ℚ m)
times_rate q c m a n h = linear_le (q ∷ c ∷ m ∷ a ∷ []) (le_times n h ∷ []) (search reading_of) tt

let_through-scaled : (capacity : Option ℚ) (c r s t x y : ℚ) → ((rate : ℚ) → capacity ≡ Some rate → 0ℚ <ℚ rate) → 0ℚ ≤ℚ c → c ≤ℚ 1ℚ → 0ℚ ≤ℚ r → x ≡ c *ℚ s → y ≡ c *ℚ t
    → let_through capacity r x y ≤ℚ c *ℚ let_through capacity r s t
let_through-scaled None c r s t x y some n m h e f = ≤ℚ_of_same _ _ (zero_of_times_zero c)
let_through-scaled (Some rate) c r s t x y some n m h e f =
    times_rate rate c (max_ℚ 0ℚ (t -ℚ r -ℚ s)) (max_ℚ 0ℚ (y -ℚ r -ℚ x)) (≤ℚ_of_lt _ _ (some rate (cc)))
    (most _ _ (nn_times c _ n (max_left 0ℚ _)) (gap_below c s t r x y _ n m h e f (max_right 0ℚ _)))

add_scaled : (c a b p q : ℚ) → a ≤ℚ c *ℚ p → b ≤ℚ c *ℚ q → a +ℚ b ≤ℚ c *ℚ (p +ℚ q)
add_scaled c a b p q h k = linear_le (c ∷ a ∷ b ∷ p ∷ q ∷ []) (le h ∷ le k ∷ []) (search reading_of) tt

cut_sum-scaled : (links : List Link) (c : ℚ) (cut : List ℚ) → ((e : ℕ) (link : Link) (rate : ℚ) → slice_get links e ≡ Some link → link.capacity ≡ Some rate → 0ℚ <ℚ rate)
    → ((e : ℕ) (link : Link) → slice_get links e ≡ Some link → 0ℚ ≤ℚ link.transit) → 0ℚ ≤ℚ c → c ≤ℚ 1ℚ → cut_sum links (scaled c cut) ≤ℚ c *ℚ cut_sum links cut
cut_sum-scaled [] c cut some h n m = ≤ℚ_of_same _ _ (zero_of_times_zero c)
cut_sum-scaled (link ∷ links) c cut some h n m = add_scaled c _ _ _ _
    (let_through-scaled link.capacity c link.transit (number_at cut link.tail) (number_at cut link.head) _ _ (λ rate e. some 0 link rate refl e) n m (h 0 link refl)
    (number_at-scaled c cut link.tail) (number_at-scaled c cut link.head))
    (cut_sum-scaled links c cut (λ e l rate p q. some (suc e) l rate p q) (λ e l p. h (suc e) l p) n m)

pub IsCut-scaled : (net : Network) (time c : ℚ) (cut : List ℚ) → IsNetwork net → 0ℚ ≤ℚ c → c ≤ℚ 1ℚ → IsCut net time cut → IsCut net (c *ℚ time) (scaled c cut)
IsCut-scaled net time c cut good n m k = record {
  count = length-map cut (λ a. c *ℚ a) ∙ k.count;
  source = number_at-scaled c cut net.source ∙ ap (λ (a : ℚ). c *ℚ a) k.source ∙ sym (zero_of_times_zero c);
  sink = number_at-scaled c cut net.sink ∙ ap (λ (a : ℚ). c *ℚ a) k.sink;
  unbounded = λ e link p u. shorter c _ _ link.transit _ _ n m (good.transits e link p) (number_at-scaled c cut link.tail) (number_at-scaled c cut link.head) (k.unbounded e link p u);
}

pub cut_value-scaled : (net : Network) (c : ℚ) (cut : List ℚ) → IsNetwork net → 0ℚ ≤ℚ c → c ≤ℚ 1ℚ → cut_value net (scaled c cut) ≤ℚ c *ℚ cut_value net cut
cut_value-scaled net c cut good n m = cut_sum-scaled net.links c cut (λ e link rate p q. good.capacities e link rate p q) (λ e link p. good.transits e link p) n m

-- ---- no earlier time
at_most_one : (c u t : ℚ) → 0ℚ <ℚ t → c *ℚ t ≡ u → u <ℚ t → c ≤ℚ 1ℚ
at_most_one c u t h e k = ⊎_elim
    (λ (l : 1ℚ <ℚ c). absurd (linear_false (c ∷ u ∷ t ∷ []) (le_times (≤ℚ_of_lt _ _ h) (≤ℚ_of_lt _ _ l) ∷ eq e ∷ lt k ∷ []) (search reading_of) tt))
    (λ (l : c ≤ℚ 1ℚ). l)
    (lt_or_le_ℚ 1ℚ c)

-- c is below 1, so c times an amount above 0 is below the amount.
not_enough : (c u t amount : ℚ) → 0ℚ <ℚ t → c *ℚ t ≡ u → u <ℚ t → 0ℚ <ℚ amount → amount ≤ℚ c *ℚ amount → ⊥
not_enough c u t amount h e k some g = ⊎_elim
    (λ (l : c <ℚ 1ℚ). too_little c amount l some g)
    (λ (l : 1ℚ ≤ℚ c). linear_false (c ∷ u ∷ t ∷ []) (le_times (≤ℚ_of_lt _ _ h) l ∷ eq e ∷ lt k ∷ []) (search reading_of) tt)
    (lt_or_le_ℚ c 1ℚ)
  where
    too_little : (c a : ℚ) → c <ℚ 1ℚ → 0ℚ <ℚ a → a ≤ℚ c *ℚ a → ⊥
    too_little c a l some g =
        not_both_ℚ _ _ (ps_times _ _ (less_ps c 1ℚ l) some)
        (linear_le (c ∷ a ∷ []) (le g ∷ []) (search reading_of) tt)

before_positive : (u t : ℚ) → 0ℚ ≤ℚ u → u <ℚ t → 0ℚ <ℚ t
before_positive u t h k = linear_lt (u ∷ t ∷ []) (le h ∷ lt k ∷ []) (search reading_of) tt

module _ (net : Network) (amount time : ℚ) (cut : List ℚ) (good : IsNetwork net) (some : 0ℚ <ℚ amount) (is_cut : IsCut net time cut) (full : cut_value net cut ≡ amount) where
  none_earlier : (entered left : ℕ → ℚ → ℚ) (other : ℚ) → 0ℚ ≤ℚ other → Delivers net entered left amount other → other <ℚ time → ⊥
  none_earlier entered left other h d k =
      let positive : 0ℚ <ℚ time = before_positive other time h k in
      let c : ℚ = other /ℚ time in
      let times : c *ℚ time ≡ other = quotient-times other time positive in
      let n : 0ℚ ≤ℚ c = nn-quotient other time h positive in
      let m : c ≤ℚ 1ℚ = at_most_one c other time positive times k in
      not_enough c other time amount positive times k some
      (≤ℚ_trans _ _ _ d.enough
      (≤ℚ_trans _ _ _ (delivered-le net entered left other (scaled c cut) good d.feasible
      (subst (λ (t : ℚ). IsCut net t (scaled c cut)) times (IsCut-scaled net time c cut good n m is_cut)))
      (subst (λ (v : ℚ). cut_value net (scaled c cut) ≤ℚ c *ℚ v) full (cut_value-scaled net c cut good n m))))

  pub IsQuickest-full : (entered left : ℕ → ℚ → ℚ) → 0ℚ ≤ℚ time → Delivers net entered left amount time → IsQuickest net amount time
  IsQuickest-full entered left h d = record {
    not_negative = h;
    entered = entered;
    left = left;
    delivers = d;
    least = λ other_entered other_left other n g. ⊎_elim
        (λ (l : other <ℚ time). absurd (none_earlier other_entered other_left other n g l))
        (λ (l : time ≤ℚ other). l)
        (lt_or_le_ℚ other time);
  }
