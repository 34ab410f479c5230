-- The links of a route that are taken, and the change of a route's entries by the step of a link.
use Rattle.std.proofs.Common.{◌≡◌, ℕ, zero, suc, ◌<◌, ◌≤◌, List, [], ◌∷◌, ◌++◌, length, ◌⊎◌, inl, inr, ⊎_elim, Bool, true, false, Some, slice_get, refl}
use Rattle.std.proofs.Common.{sym, ap, subst, ◌∙◌, arith, Ok}
use Rattle.nf_routes_laws.proofs.Common.{same_Some, slice_get_within, append-nil, ℚ, Passing, Point, Piece, checked_short, checked_cumulative, Route}
use Rattle.nf_routes_laws.proofs.Common.{PrecedesOnRoute, begins_at, goes_over, last_entry, next_entry, begin_if, next_if, then_ok, entry, same_Ok}
use Rattle.nf_routes_laws.proofs.Common.{not_both, compared, before_or_at}
use Rattle.nf_routes_laws.proofs.Ordering.{In, in-front, in-back, in-either}
use Rattle.nf_routes_laws.proofs.Stages.{nothing_before, over-at, begins-at, begins-place}

-- exactly the first n of these links are in the prefix of the order
pub record Stands (front links : List ℕ) (n : ℕ) : Type 0 where
  pub within : n ≤ length links
  pub taken : (i f : ℕ) → i < n → slice_get links i ≡ Some f → In f front
  pub left : (i f : ℕ) → n ≤ i → slice_get links i ≡ Some f → In f front → ⊥

-- the number of entries of a route: one more if all links are taken, for the arrival
abbrev pub stage : ℕ → ℕ
stage zero = zero
stage (suc n) = suc (suc n)

pub stands-none : (links : List ℕ) → Stands [] links 0
stands-none links = record { within = omega arith; taken = λ i f h k. absurd (omega arith); left = λ i f h k w. w }

-- ---- a link outside the prefix, with its direct predecessors in the prefix
module _ (routes : List Route) (front : List ℕ) (e : ℕ) (new : In e front → ⊥) (led : (f : ℕ) → PrecedesOnRoute routes f e → In f front) where
  module _ (r : ℕ) (route : Route) (is_route : slice_get routes r ≡ Some route) (n : ℕ) (stands : Stands front route.links n) where
    later : (place : ℕ) → slice_get route.links place ≡ Some e → n < place → ⊥
    later zero at h = omega arith
    later (suc place) at h =
        let below = slice_get_within route.links (suc place) e at in
        let f : (f : ℕ) × (slice_get route.links place ≡ Some f) = entry route.links place (omega arith) in
        stands.left place f.0 (omega arith) f.1 (led f.0 (record { number = r; place = place; route = route; is_route = is_route; here = f.1; next = at }))

    pub place-is : (place : ℕ) → slice_get route.links place ≡ Some e → place ≡ n
    place-is place at = ⊎_elim
        (λ (l : place < n). absurd (new (stands.taken place e l at)))
        (λ (l : (place ≡ n) ⊎ (n < place)). ⊎_elim (λ (k : place ≡ n). k) (λ (k : n < place). absurd (later place at k)) l)
        (compared place n)

    pub stands-over : slice_get route.links n ≡ Some e → Stands (front ++ e ∷ []) route.links (suc n)
    stands-over at = record {
      within = let below = slice_get_within route.links n e at in omega arith;
      taken = λ i f h k. ⊎_elim
          (λ (l : i < n). in-front f front (e ∷ []) (stands.taken i f l k))
          (λ (l : i ≡ n). in-back f front (e ∷ []) (inl (same_Some f e (sym k ∙ ap (λ (j : ℕ). slice_get route.links j) l ∙ at))))
          (before_or_at i n (omega arith));
      left = λ i f h k w. ⊎_elim
          (λ (v : In f front). stands.left i f (omega arith) k v)
          (λ (v : In f (e ∷ [])). last i f h k v)
          (in-either f front (e ∷ []) w);
    }
      where
        last : (i f : ℕ) → suc n ≤ i → slice_get route.links i ≡ Some f → In f (e ∷ []) → ⊥
        last i f h k (inl s) = let m = place-is i (k ∙ ap (λ (x : ℕ). Some x) s) in omega arith
        last i f h k (inr w) = w

    pub stands-past : ((place : ℕ) → slice_get route.links place ≡ Some e → ⊥) → Stands (front ++ e ∷ []) route.links n
    stands-past none = record {
      within = stands.within;
      taken = λ i f h k. in-front f front (e ∷ []) (stands.taken i f h k);
      left = λ i f h k w. ⊎_elim
          (λ (v : In f front). stands.left i f h k v)
          (λ (v : In f (e ∷ [])). last i f k v)
          (in-either f front (e ∷ []) w);
    }
      where
        last : (i f : ℕ) → slice_get route.links i ≡ Some f → In f (e ∷ []) → ⊥
        last i f k (inl s) = none i (k ∙ ap (λ (x : ℕ). Some x) s)
        last i f k (inr w) = w

-- ---- the entries of a route in the step of a link
module _ (passes : Passing) where
  -- an entry is what these pieces supply, in short form
  abbrev pub IsEntryOf : List Piece → ℚ → List Point → Type 0
  IsEntryOf pieces horizon entry = (amounts : List Point) × (checked_cumulative passes pieces horizon ≡ Ok amounts) × (checked_short passes amounts ≡ Ok entry)

  -- before the link is loaded there is one entry more than the link's position
  pub record Begun (horizon : ℚ) (route : Route) (n : ℕ) (xs begun : List (List Point)) : Type 0 where
    pub count : length begun ≡ suc n
    pub first : n ≡ 0 → IsEntryOf route.pieces horizon (last_entry begun)
    pub more : List (List Point)
    pub grown : begun ≡ xs ++ more

  module _ (e : ℕ) (horizon : ℚ) (route : Route) (xs begun : List (List Point)) where
    begun-is : (n : ℕ) → slice_get route.links n ≡ Some e → ((place : ℕ) → slice_get route.links place ≡ Some e → place ≡ n) → length xs ≡ stage n
        → begin_if passes (begins_at route.links e) horizon route xs ≡ Ok begun → Begun horizon route n xs begun
    begun-is zero at only count h =
        let h' = ap (λ (b : Bool). begin_if passes b horizon route xs) (sym (begins-at route.links e at)) ∙ h in
        let a = then_ok (checked_cumulative passes route.pieces horizon) _ begun h' in
        let b = then_ok (checked_short passes a.between) _ begun a.next in
        subst (λ (l : List (List Point)). Begun horizon route 0 xs l) (same_Ok _ _ b.next)
        (record { count = refl; first = λ _. (a.between, a.first, b.first); more = b.between ∷ []; grown = nothing_before xs (b.between ∷ []) count })
    begun-is (suc n) at only count h = by (begins_at route.links e) refl h
      where
        by : (b : Bool) → begins_at route.links e ≡ b → begin_if passes b horizon route xs ≡ Ok begun → Begun horizon route (suc n) xs begun
        by true t k = absurd (no (only 0 (begins-place route.links e t)))
          where
            no : 0 ≡ suc n → ⊥
            no z = omega arith
        by false t k = subst (λ (l : List (List Point)). Begun horizon route (suc n) xs l) (same_Ok _ _ k)
            (record { count = count; first = λ z. absurd (no z); more = []; grown = sym (append-nil xs) })
          where
            no : suc n ≡ 0 → ⊥
            no z = omega arith

    -- after it is loaded, a route over the link has one entry more
    pub record Over (exit : List Point) (n : ℕ) (after : List (List Point)) : Type 0 where
      pub at : slice_get route.links n ≡ Some e
      pub begins : Begun horizon route n xs begun
      pub next : List Point
      pub sends : next_entry passes exit (last_entry begun) ≡ Ok next
      pub after_is : after ≡ begun ++ next ∷ []

    pub over-is : (exit : List Point) (n : ℕ) (after : List (List Point)) → slice_get route.links n ≡ Some e
        → ((place : ℕ) → slice_get route.links place ≡ Some e → place ≡ n) → length xs ≡ stage n
        → begin_if passes (begins_at route.links e) horizon route xs ≡ Ok begun → next_if passes (goes_over route.links e) exit begun ≡ Ok after → Over exit n after
    over-is exit n after at only count h k =
        let k' = ap (λ (b : Bool). next_if passes b exit begun) (sym (over-at route.links n e at)) ∙ k in
        let a = then_ok (next_entry passes exit (last_entry begun)) _ after k' in
        record { at = at; begins = begun-is n at only count h; next = a.between; sends = a.first; after_is = sym (same_Ok _ _ a.next) }

    -- on any other route nothing changes
    pub past-is : (exit : List Point) (after : List (List Point)) → goes_over route.links e ≡ false → begin_if passes (begins_at route.links e) horizon route xs ≡ Ok begun
        → next_if passes (goes_over route.links e) exit begun ≡ Ok after → after ≡ xs
    past-is exit after past h k = sym (same_Ok _ _ (ap (λ (b : Bool). next_if passes b exit begun) (sym past) ∙ k)) ∙ by (begins_at route.links e) refl h
      where
        by : (b : Bool) → begins_at route.links e ≡ b → begin_if passes b horizon route xs ≡ Ok begun → begun ≡ xs
        by true t g = absurd (not_both (goes_over route.links e) (over-at route.links 0 e (begins-place route.links e t)) past)
        by false t g = sym (same_Ok _ _ g)
