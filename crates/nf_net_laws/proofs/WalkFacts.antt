-- Walks along hops that correspond to those of another list.
use Rattle.std.proofs.Common.{◌≡◌, ℕ, zero, suc, ◌+◌, List, [], ◌∷◌, ◌++◌, length, map, slice_get, Some, refl, sym, ◌∙◌, ap, subst, arith}
use Rattle.nf_net_laws.proofs.Common.{AllByRecursion, ℚ, 0ℚ, ◌+ℚ◌, ◌≤ℚ◌, reading_of, ≤ℚ_of_same, ≤ℚ_antisymm, nn_plus, le, linear_le, Hop, IsHop, IsWalk}
use Rattle.nf_net_laws.proofs.Common.{transit_of, transit_sum, transit_of-hop, same_sums}

-- ---- entries of joined lists
module _ {X : Type 0} where
  pub slice_get-left : (xs ys : List X) (i : ℕ) (x : X) → slice_get xs i ≡ Some x → slice_get (xs ++ ys) i ≡ Some x
  slice_get-left [] ys i x e = absurd (cc)
  slice_get-left (y ∷ xs) ys zero x e = e
  slice_get-left (y ∷ xs) ys (suc i) x e = slice_get-left xs ys i x e

  pub slice_get-right : (xs ys : List X) (i : ℕ) → slice_get (xs ++ ys) (length xs + i) ≡ slice_get ys i
  slice_get-right [] ys i = let on : 0 + i ≡ i = omega arith in ap (slice_get ys) on
  slice_get-right (x ∷ xs) ys i = let on : suc (length xs) + i ≡ suc (length xs + i) = omega arith in ap (slice_get (x ∷ xs ++ ys)) on ∙ slice_get-right xs ys i

  -- an entry of joined lists is one of the first, or of the second
  pub data IsIn (xs ys : List X) (i : ℕ) (x : X) : Type 0 where
    in_first : slice_get xs i ≡ Some x → IsIn xs ys i x
    in_second : (j : ℕ) → slice_get ys j ≡ Some x → IsIn xs ys i x

  shifted : (y : X) (xs ys : List X) (i : ℕ) (x : X) → IsIn xs ys i x → IsIn (y ∷ xs) ys (suc i) x
  shifted y xs ys i x (in_first e) = in_first e
  shifted y xs ys i x (in_second j e) = in_second j e

  pub which : (xs ys : List X) (i : ℕ) (x : X) → slice_get (xs ++ ys) i ≡ Some x → IsIn xs ys i x
  which [] ys i x e = in_second i e
  which (y ∷ xs) ys zero x e = in_first e
  which (y ∷ xs) ys (suc i) x e = shifted y xs ys i x (which xs ys i x e)

  pub entry_all : (P : X → Type 0) (xs : List X) (i : ℕ) (x : X) → AllByRecursion P xs → slice_get xs i ≡ Some x → P x
  entry_all P [] i x h e = absurd (cc)
  entry_all P (y ∷ xs) zero x h e = let same : y ≡ x = cc in subst P same h.0
  entry_all P (y ∷ xs) (suc i) x h e = entry_all P xs i x h.1 e

-- an entry of a mapped list comes from one of the list
pub record CameFrom {X Y : Type 0} (f : X → Y) (xs : List X) (i : ℕ) (y : Y) : Type 0 where
  pub entry : X
  pub is_entry : slice_get xs i ≡ Some entry
  pub is_image : f entry ≡ y

pub came_from : {X Y : Type 0} (f : X → Y) (xs : List X) (i : ℕ) (y : Y) → slice_get (map f xs) i ≡ Some y → CameFrom f xs i y
came_from f [] i y e = absurd (cc)
came_from f (x ∷ xs) zero y e = let same : f x ≡ y = cc in record { entry = x; is_entry = refl; is_image = same }
came_from f (x ∷ xs) (suc i) y e = let r : CameFrom f xs i y = came_from f xs i y e in record { entry = r.entry; is_entry = r.is_entry; is_image = r.is_image }

-- ---- transit times

-- ---- walks
pub record Corresponds (other : List Hop) (f : ℕ → ℕ) (P : ℕ → Type 0) (hop : Hop) : Type 0 where
  pub number : ℕ
  pub image : Hop
  pub is_hop : IsHop other number image
  pub tail : image.tail ≡ f hop.tail
  pub head : image.head ≡ f hop.head
  pub transit : image.transit ≡ hop.transit
  pub after : P hop.head

pub record Carried (hops other : List Hop) (f : ℕ → ℕ) (P : ℕ → Type 0) (walk : List ℕ) (v w : ℕ) : Type 0 where
  pub image : List ℕ
  pub is_walk : IsWalk other image (f v) (f w)
  pub sum : transit_sum other image ≡ transit_sum hops walk
  pub long : length image ≡ length walk
  pub after : P w

-- where each hop that leaves a node with the property has a counterpart, and leads to such a node, so has each walk from one
module _ (hops other : List Hop) (f : ℕ → ℕ) (P : ℕ → Type 0) (each : (e : ℕ) (hop : Hop) → IsHop hops e hop → P hop.tail → Corresponds other f P hop) where
  pub carried : (walk : List ℕ) (v w : ℕ) → P v → IsWalk hops walk v w → Carried hops other f P walk v w
  carried [] v w p h = record { image = []; is_walk = ap f h; sum = refl; long = refl; after = subst P h p }
  carried (e ∷ walk) v w p h =
      let c : Corresponds other f P h.0 = each e h.0 h.1 (subst P (sym h.2) p) in
      let r : Carried hops other f P walk h.0.head w = carried walk h.0.head w c.after h.3 in
      record {
        image = c.number ∷ r.image;
        is_walk = (c.image, c.is_hop, c.tail ∙ ap f h.2, subst (λ u. IsWalk other r.image u (f w)) (sym c.head) r.is_walk);
        sum = same_sums _ _ _ _ (transit_of-hop other c.number c.image c.is_hop ∙ c.transit ∙ sym (transit_of-hop hops e h.0 h.1)) r.sum;
        long = ap (λ k. suc k) r.long;
        after = r.after;
      }

-- ---- the end of a walk
pub walk_push : (hops : List Hop) (walk : List ℕ) (u v e : ℕ) (hop : Hop) → IsWalk hops walk u v → IsHop hops e hop → hop.tail ≡ v → IsWalk hops (walk ++ e ∷ []) u hop.head
walk_push hops [] u v e hop h is from = (hop, is, from ∙ sym h, refl)
walk_push hops (f ∷ walk) u v e hop h is from = (h.0, h.1, h.2, walk_push hops walk h.0.head v e hop h.3 is from)

pub record LastHop (hops : List Hop) (u v : ℕ) : Type 0 where
  pub front : List ℕ
  pub number : ℕ
  pub hop : Hop
  pub is_walk : IsWalk hops front u hop.tail
  pub is_hop : IsHop hops number hop
  pub head : hop.head ≡ v

pub last_hop : (hops : List Hop) (e : ℕ) (walk : List ℕ) (u v : ℕ) → IsWalk hops (e ∷ walk) u v → LastHop hops u v
last_hop hops e [] u v h = record { front = []; number = e; hop = h.0; is_walk = sym h.2; is_hop = h.1; head = h.3 }
last_hop hops e (f ∷ walk) u v h =
    let r : LastHop hops h.0.head v = last_hop hops f walk h.0.head v h.3 in
    record { front = e ∷ r.front; number = r.number; hop = r.hop; is_walk = (h.0, h.1, h.2, r.is_walk); is_hop = r.is_hop; head = r.head }

pub starts_with_one : (xs : List ℕ) (k : ℕ) → length xs ≡ suc k → (i : ℕ) × (rest : List ℕ) × (xs ≡ i ∷ rest)
starts_with_one [] k e = absurd (omega arith)
starts_with_one (i ∷ rest) k e = (i, rest, refl)

-- ---- sums of transit times that aren't negative

none_left : (a b : ℚ) → 0ℚ ≤ℚ a → 0ℚ ≤ℚ b → a +ℚ b ≤ℚ 0ℚ → a ≡ 0ℚ
none_left a b h k s = ≤ℚ_antisymm a 0ℚ (linear_le (a ∷ b ∷ []) (le k ∷ le s ∷ []) (search reading_of) tt) h

rest_left : (a b : ℚ) → 0ℚ ≤ℚ a → 0ℚ ≤ℚ b → a +ℚ b ≤ℚ 0ℚ → b ≤ℚ 0ℚ
rest_left a b h k s = linear_le (a ∷ b ∷ []) (le h ∷ le s ∷ []) (search reading_of) tt

module _ (hops : List Hop) (positive : (e : ℕ) (hop : Hop) → IsHop hops e hop → 0ℚ ≤ℚ hop.transit) where
  transit_nn : (e : ℕ) (hop : Hop) → IsHop hops e hop → 0ℚ ≤ℚ transit_of hops e
  transit_nn e hop is = subst (λ x. 0ℚ ≤ℚ x) (sym (transit_of-hop hops e hop is)) (positive e hop is)

  pub transit_sum_nn : (walk : List ℕ) (u v : ℕ) → IsWalk hops walk u v → 0ℚ ≤ℚ transit_sum hops walk
  transit_sum_nn [] u v h = ≤ℚ_of_same 0ℚ 0ℚ refl
  transit_sum_nn (e ∷ walk) u v h = nn_plus (transit_of hops e) (transit_sum hops walk) (transit_nn e h.0 h.1) (transit_sum_nn walk h.0.head v h.3)

  pub all_zero : (walk : List ℕ) (u v : ℕ) → IsWalk hops walk u v → transit_sum hops walk ≤ℚ 0ℚ → AllByRecursion (λ e. transit_of hops e ≡ 0ℚ) walk
  all_zero [] u v h s = tt
  all_zero (e ∷ walk) u v h s =
      let a : 0ℚ ≤ℚ transit_of hops e = transit_nn e h.0 h.1 in
      let b : 0ℚ ≤ℚ transit_sum hops walk = transit_sum_nn walk h.0.head v h.3 in
      (none_left (transit_of hops e) (transit_sum hops walk) a b s, all_zero walk h.0.head v h.3 (rest_left (transit_of hops e) (transit_sum hops walk) a b s))
