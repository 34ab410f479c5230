-- Powers of a number that is at least 1, and the room of links.
use Rattle.std.proofs.Common.{◌≡◌, ℕ, zero, suc, ◌≤◌, List, [], ◌∷◌, Bool, true, false, if◌then◌else◌, eqb, Option, Some, None, slice_get, refl, arith}
use Rattle.nf_complete_laws.proofs.Common.{eqb-true, none-some, ℚ, 0ℚ, 1ℚ, ◌+ℚ◌, ◌*ℚ◌, ◌/ℚ◌, ◌≤ℚ◌, ◌<ℚ◌, reading_of, ≤ℚ_of_lt, nn_plus, nn_times, ps_whole}
use Rattle.nf_complete_laws.proofs.Common.{le, eq, le_times, linear_le, ≤ℚ_refl, nn_of_one, times_le, Link, sum_out, IsPositive, nn-quotient}
use Rattle.nf_complete_laws.proofs.Common.{quotient-times}
use Rattle.nf_complete_laws.proofs.LeastLinks.{each_of}

-- ---- powers
abbrev pub power : ℚ → ℕ → ℚ
power k zero = 1ℚ
power k (suc n) = k *ℚ power k n

one_times_one : (k p : ℚ) → 1ℚ ≤ℚ k → 1ℚ ≤ℚ p → 1ℚ ≤ℚ k *ℚ p
one_times_one k p h l = linear_le (k ∷ p ∷ []) (le_times (nn_of_one p l) h ∷ le l ∷ []) (search reading_of) tt

module _ (k : ℚ) (one : 1ℚ ≤ℚ k) where
  pub power-one : (n : ℕ) → 1ℚ ≤ℚ power k n
  power-one zero = ≤ℚ_refl 1ℚ
  power-one (suc n) = one_times_one k (power k n) one (power-one n)

  pub power-nn : (n : ℕ) → 0ℚ ≤ℚ power k n
  power-nn n = nn_of_one (power k n) (power-one n)

  pub power-rises : (m n : ℕ) → m ≤ n → power k m ≤ℚ power k n
  power-rises zero n h = power-one n
  power-rises (suc m) zero h = absurd (omega arith)
  power-rises (suc m) (suc n) h = times_le k (power k m) (power k n) (nn_of_one k one) (power-rises m n (omega arith))

-- ---- the room of a link: its capacity, if it has one
abbrev pub room : Option ℚ → ℚ
room None = 1ℚ
room (Some c) = c

pub room-positive : (capacity : Option ℚ) → IsPositive capacity → 0ℚ <ℚ room capacity
room-positive None p = ps_whole 0
room-positive (Some c) p = p c refl

abbrev pub rooms : List Link → ℚ
rooms [] = 0ℚ
rooms (link ∷ links) = room link.capacity +ℚ rooms links

pub rooms-nn : (links : List Link) → ((e : ℕ) (link : Link) → slice_get links e ≡ Some link → 0ℚ <ℚ room link.capacity) → 0ℚ ≤ℚ rooms links
rooms-nn [] p = ≤ℚ_refl 0ℚ
rooms-nn (link ∷ links) p = nn_plus (room link.capacity) (rooms links) (≤ℚ_of_lt _ _ (p 0 link refl)) (rooms-nn links (λ e l q. p (suc e) l q))

-- The flow out of a node, if each link carries at most its room times p.
within : (b : Bool) (a r s t p : ℚ) → (b ≡ true → a ≤ℚ r *ℚ p) → 0ℚ ≤ℚ r → 0ℚ ≤ℚ p → s ≤ℚ t *ℚ p → (if b then a +ℚ s else s) ≤ℚ (r +ℚ t) *ℚ p
within true a r s t p h n m k = let l : a ≤ℚ r *ℚ p = h refl in linear_le (a ∷ r ∷ s ∷ t ∷ p ∷ []) (le l ∷ le k ∷ []) (search reading_of) tt
within false a r s t p h n m k = let l : 0ℚ ≤ℚ r *ℚ p = nn_times r p n m in linear_le (r ∷ s ∷ t ∷ p ∷ []) (le l ∷ le k ∷ []) (search reading_of) tt

pub sum_out-within : (links : List Link) (f : ℕ → ℚ) (v : ℕ) (p : ℚ) → 0ℚ ≤ℚ p → ((e : ℕ) (link : Link) → slice_get links e ≡ Some link → 0ℚ <ℚ room link.capacity)
    → ((e : ℕ) (link : Link) → slice_get links e ≡ Some link → link.tail ≡ v → f e ≤ℚ room link.capacity *ℚ p) → sum_out links f v ≤ℚ rooms links *ℚ p
sum_out-within [] f v p m n h = linear_le (p ∷ []) [] (search reading_of) tt
sum_out-within (link ∷ links) f v p m n h = within (eqb link.tail v) (f 0) (room link.capacity) _ (rooms links) p (λ e. h 0 link refl (eqb-true link.tail v e))
    (≤ℚ_of_lt _ _ (n 0 link refl)) m (sum_out-within links (λ e. f (suc e)) v p m (λ e l q. n (suc e) l q) (λ e l q. h (suc e) l q))

-- ---- a number k so great that k times the room of each link is at least d
wide_more : (k q : ℚ) → 1ℚ ≤ℚ k → 0ℚ ≤ℚ q → 1ℚ ≤ℚ k +ℚ q
wide_more k q h n = linear_le (k ∷ q ∷ []) (le h ∷ le n ∷ []) (search reading_of) tt

wide_first : (r k q d : ℚ) → 0ℚ ≤ℚ r → 1ℚ ≤ℚ k → q *ℚ r ≡ d → d ≤ℚ r *ℚ (k +ℚ q)
wide_first r k q d n h e = linear_le (r ∷ k ∷ q ∷ d ∷ []) (eq e ∷ le_times n (nn_of_one k h) ∷ []) (search reading_of) tt

wide_rest : (r k q d : ℚ) → 0ℚ ≤ℚ r → 0ℚ ≤ℚ q → d ≤ℚ r *ℚ k → d ≤ℚ r *ℚ (k +ℚ q)
wide_rest r k q d n m h = let l : 0ℚ ≤ℚ r *ℚ q = nn_times r q n m in linear_le (r ∷ k ∷ q ∷ d ∷ []) (le h ∷ le l ∷ []) (search reading_of) tt

abbrev pub IsWide : List Link → ℚ → ℚ → Type 0
IsWide links d k = (e : ℕ) (link : Link) → slice_get links e ≡ Some link → d ≤ℚ room link.capacity *ℚ k

pub wide : (links : List Link) (d : ℚ) → 0ℚ ≤ℚ d → ((e : ℕ) (link : Link) → slice_get links e ≡ Some link → 0ℚ <ℚ room link.capacity) → (k : ℚ) × (1ℚ ≤ℚ k) × IsWide links d k
wide [] d n p = (1ℚ, ≤ℚ_refl 1ℚ, λ e link q. absurd (none-some link q))
wide (l ∷ links) d n p = more (wide links d n (λ e link q. p (suc e) link q))
  where
    more : (k : ℚ) × (1ℚ ≤ℚ k) × IsWide links d k → (k : ℚ) × (1ℚ ≤ℚ k) × IsWide (l ∷ links) d k
    more (k, h, each) =
        let above : 0ℚ <ℚ room l.capacity = p 0 l refl in
        let some : 0ℚ ≤ℚ d /ℚ room l.capacity = nn-quotient d (room l.capacity) n above in (
          k +ℚ d /ℚ room l.capacity,
          wide_more k (d /ℚ room l.capacity) h some,
          each_of (λ e link. d ≤ℚ room link.capacity *ℚ (k +ℚ d /ℚ room l.capacity)) l links
              (wide_first (room l.capacity) k (d /ℚ room l.capacity) d (≤ℚ_of_lt _ _ above) h (quotient-times d (room l.capacity) above))
              (λ e link q. wide_rest (room link.capacity) k (d /ℚ room l.capacity) d (≤ℚ_of_lt _ _ (p (suc e) link q)) some (each e link q)),
        )
