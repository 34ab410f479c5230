-- Lists by index: the entries of a route so far, the change by a step, and the properties of the links so far.
use Rattle.std.proofs.Common.{◌≡◌, ◌≢◌, ℕ, zero, suc, List, [], ◌∷◌, ◌++◌, length, inl, inr, ⊎_elim, true, false, eqb, Option, Some, None, slice_get}
use Rattle.std.proofs.Common.{unwrap_or, set, refl, sym, ap, subst, ◌∙◌, arith, Ok, map}
use Rattle.nf_routes_laws.proofs.Common.{eqb_tells, same_Some, ℚ, Passing, Point, Loaded, last_value, Route, LoadedLink, exit_end, begins_at, goes_over}
use Rattle.nf_routes_laws.proofs.Common.{last_entry, but_last, begin_if, begin_all, next_if, next_all, exit_of, loaded_or, then_ok, same_Ok}
use Rattle.nf_routes_laws.proofs.Ordering.{taken-in, in-taken, In}

-- ---- entries of lists
pub nothing_before : {A : Type 0} (xs ys : List A) → length xs ≡ 0 → ys ≡ xs ++ ys
nothing_before [] ys h = refl
nothing_before (x ∷ xs) ys h = absurd (omega arith)

pub get-next : {A : Type 0} (xs : List A) (x : A) (rest : List A) (n : ℕ) → length xs ≡ n → slice_get (xs ++ x ∷ rest) n ≡ Some x
get-next [] x rest zero h = refl
get-next [] x rest (suc n) h = absurd (omega arith)
get-next (y ∷ xs) x rest zero h = absurd (omega arith)
get-next (y ∷ xs) x rest (suc n) h = get-next xs x rest n (omega arith)

pub set-other : {A : Type 0} (xs : List A) (i j : ℕ) (y : A) → i ≢ j → slice_get (set xs i y) j ≡ slice_get xs j
set-other [] i j y h = refl
set-other (x ∷ xs) zero zero y h = absurd (h refl)
set-other (x ∷ xs) zero (suc j) y h = refl
set-other (x ∷ xs) (suc i) zero y h = refl
set-other (x ∷ xs) (suc i) (suc j) y h = set-other xs i j y (λ e. h (ap suc e))

-- ---- the entries of a route, the last of which is the arrival
pub get-last : (xs : List (List Point)) (n : ℕ) → length xs ≡ suc n → slice_get xs n ≡ Some (last_entry xs)
get-last [] n h = absurd (omega arith)
get-last (y ∷ []) zero h = refl
get-last (y ∷ []) (suc n) h = absurd (omega arith)
get-last (y ∷ z ∷ rest) zero h = absurd (omega arith)
get-last (y ∷ z ∷ rest) (suc n) h = get-last (z ∷ rest) n (omega arith)

module _ (passes : Passing) where
  pub at-stage : (xs : List (List Point)) (i : ℕ) (x : List Point) → slice_get xs i ≡ Some x → unwrap_or (slice_get (but_last passes xs) i) (last_entry xs) ≡ x
  at-stage [] i x h = absurd (cc)
  at-stage (y ∷ []) zero x h = same_Some y x h
  at-stage (y ∷ []) (suc i) x h = absurd (cc)
  at-stage (y ∷ z ∷ rest) zero x h = same_Some y x h
  at-stage (y ∷ z ∷ rest) (suc i) x h = at-stage (z ∷ rest) i x h

  pub length-but_last : (xs : List (List Point)) (n : ℕ) → length xs ≡ suc n → length (but_last passes xs) ≡ n
  length-but_last [] n h = absurd (omega arith)
  length-but_last (y ∷ []) n h = let k : 0 ≡ n = omega arith in k
  length-but_last (y ∷ z ∷ rest) zero h = absurd (omega arith)
  length-but_last (y ∷ z ∷ rest) (suc n) h = ap suc (length-but_last (z ∷ rest) n (omega arith))

  -- ---- the links so far; those not loaded have nothing
  abbrev nothing : Loaded
  nothing = record { queue = []; outflow = []; exit = [] }

  pub exit_end-is : (links : List (Option LoadedLink)) (f : ℕ) → exit_end (slice_get links f) ≡ last_value (unwrap_or (slice_get (map (loaded_or passes) links) f) nothing).exit
  exit_end-is [] f = refl
  exit_end-is (None ∷ links) zero = refl
  exit_end-is (Some l ∷ links) zero = refl
  exit_end-is (o ∷ links) (suc f) = exit_end-is links f

  abbrev exit_in : Option (Option LoadedLink) → List Point
  exit_in (Some (Some l)) = l.loaded.exit
  exit_in other = []

  exit_in-is : (links : List (Option LoadedLink)) (f : ℕ) → exit_in (slice_get links f) ≡ (unwrap_or (slice_get (map (loaded_or passes) links) f) nothing).exit
  exit_in-is [] f = refl
  exit_in-is (None ∷ links) zero = refl
  exit_in-is (Some l ∷ links) zero = refl
  exit_in-is (o ∷ links) (suc f) = exit_in-is links f

  pub exit_of-is : (links : List (Option LoadedLink)) (f : ℕ) → exit_of passes links f ≡ (unwrap_or (slice_get (map (loaded_or passes) links) f) nothing).exit
  exit_of-is links f = exit_in-is links f

  -- ---- one step: route by route
  pub begun-count : (horizon : ℚ) (e : ℕ) (routes : List Route) (entries begun : List (List (List Point)))
      → begin_all passes horizon e routes entries ≡ Ok begun → length entries ≡ length routes
      → length begun ≡ length routes
  begun-count horizon e [] entries begun h k = ap length (sym (same_Ok _ _ h))
  begun-count horizon e (x ∷ routes) [] begun h k = absurd (omega arith)
  begun-count horizon e (x ∷ routes) (y ∷ entries) begun h k =
      let here = then_ok (begin_if passes (begins_at x.links e) horizon x y) _ begun h in
      let later = then_ok (begin_all passes horizon e routes entries) _ begun here.next in
      ap length (sym (same_Ok _ _ later.next)) ∙ ap suc (begun-count horizon e routes entries later.between later.first (omega arith))

  pub begun-at : (horizon : ℚ) (e : ℕ) (routes : List Route) (entries begun : List (List (List Point))) (r : ℕ) (route : Route) (xs : List (List Point))
      → begin_all passes horizon e routes entries ≡ Ok begun
      → slice_get routes r ≡ Some route → slice_get entries r ≡ Some xs
      → (b : List (List Point)) × (slice_get begun r ≡ Some b) × (begin_if passes (begins_at route.links e) horizon route xs ≡ Ok b)
  begun-at horizon e [] entries begun r route xs h i j = absurd (cc)
  begun-at horizon e (x ∷ routes) [] begun r route xs h i j = absurd (cc)
  begun-at horizon e (x ∷ routes) (y ∷ entries) begun zero route xs h i j =
      let here = then_ok (begin_if passes (begins_at x.links e) horizon x y) _ begun h in
      let later = then_ok (begin_all passes horizon e routes entries) _ begun here.next in (
        here.between,
        ap (λ (l : List (List (List Point))). slice_get l 0) (sym (same_Ok _ _ later.next)),
        subst (λ (z : Route). begin_if passes (begins_at z.links e) horizon z xs ≡ Ok here.between) (same_Some x route i)
            (subst (λ (z : List (List Point)). begin_if passes (begins_at x.links e) horizon x z ≡ Ok here.between) (same_Some y xs j) here.first),
      )
  begun-at horizon e (x ∷ routes) (y ∷ entries) begun (suc r) route xs h i j =
      let here = then_ok (begin_if passes (begins_at x.links e) horizon x y) _ begun h in
      let later = then_ok (begin_all passes horizon e routes entries) _ begun here.next in
      let b = begun-at horizon e routes entries later.between r route xs later.first i j in
      (b.0, ap (λ (l : List (List (List Point))). slice_get l (suc r)) (sym (same_Ok _ _ later.next)) ∙ b.1, b.2)

  pub next-count : (e : ℕ) (exit : List Point) (routes : List Route) (entries after : List (List (List Point)))
      → next_all passes e exit routes entries ≡ Ok after → length entries ≡ length routes
      → length after ≡ length routes
  next-count e exit [] entries after h k = ap length (sym (same_Ok _ _ h))
  next-count e exit (x ∷ routes) [] after h k = absurd (omega arith)
  next-count e exit (x ∷ routes) (y ∷ entries) after h k =
      let here = then_ok (next_if passes (goes_over x.links e) exit y) _ after h in
      let later = then_ok (next_all passes e exit routes entries) _ after here.next in
      ap length (sym (same_Ok _ _ later.next)) ∙ ap suc (next-count e exit routes entries later.between later.first (omega arith))

  pub next-at : (e : ℕ) (exit : List Point) (routes : List Route) (entries after : List (List (List Point))) (r : ℕ) (route : Route)
      (xs : List (List Point)) → next_all passes e exit routes entries ≡ Ok after
      → slice_get routes r ≡ Some route → slice_get entries r ≡ Some xs
      → (a : List (List Point)) × (slice_get after r ≡ Some a) × (next_if passes (goes_over route.links e) exit xs ≡ Ok a)
  next-at e exit [] entries after r route xs h i j = absurd (cc)
  next-at e exit (x ∷ routes) [] after r route xs h i j = absurd (cc)
  next-at e exit (x ∷ routes) (y ∷ entries) after zero route xs h i j =
      let here = then_ok (next_if passes (goes_over x.links e) exit y) _ after h in
      let later = then_ok (next_all passes e exit routes entries) _ after here.next in (
        here.between,
        ap (λ (l : List (List (List Point))). slice_get l 0) (sym (same_Ok _ _ later.next)),
        subst (λ (z : Route). next_if passes (goes_over z.links e) exit xs ≡ Ok here.between) (same_Some x route i)
            (subst (λ (z : List (List Point)). next_if passes (goes_over x.links e) exit z ≡ Ok here.between) (same_Some y xs j) here.first),
      )
  next-at e exit (x ∷ routes) (y ∷ entries) after (suc r) route xs h i j =
      let here = then_ok (next_if passes (goes_over x.links e) exit y) _ after h in
      let later = then_ok (next_all passes e exit routes entries) _ after here.next in
      let a = next-at e exit routes entries later.between r route xs later.first i j in
      (a.0, ap (λ (l : List (List (List Point))). slice_get l (suc r)) (sym (same_Ok _ _ later.next)) ∙ a.1, a.2)

-- ---- whether a route goes over a link, and begins with it
pub over-at : (links : List ℕ) (place e : ℕ) → slice_get links place ≡ Some e → goes_over links e ≡ true
over-at links place e h = in-taken links e (there links place h)
  where
    there : (links : List ℕ) (place : ℕ) → slice_get links place ≡ Some e → In e links
    there [] place h = absurd (cc)
    there (l ∷ links) zero h = inl (sym (same_Some l e h))
    there (l ∷ links) (suc place) h = inr (there links place h)

pub over-place : (links : List ℕ) (e : ℕ) → goes_over links e ≡ true → (place : ℕ) × (slice_get links place ≡ Some e)
over-place links e h = there links (taken-in links e h)
  where
    there : (links : List ℕ) → In e links → (place : ℕ) × (slice_get links place ≡ Some e)
    there [] w = absurd w
    there (l ∷ links) (inl w) = (0, ap (λ (x : ℕ). Some x) (sym w))
    there (l ∷ links) (inr w) = let p = there links w in (suc p.0, p.1)

pub begins-at : (links : List ℕ) (e : ℕ) → slice_get links 0 ≡ Some e → begins_at links e ≡ true
begins-at [] e h = absurd (cc)
begins-at (l ∷ links) e h = ⊎_elim
    (λ (w : (eqb l e ≡ true) × (l ≡ e)). w.0)
    (λ (w : (eqb l e ≡ false) × (l ≢ e)). absurd (w.1 (same_Some l e h)))
    (eqb_tells l e)

pub begins-place : (links : List ℕ) (e : ℕ) → begins_at links e ≡ true → slice_get links 0 ≡ Some e
begins-place [] e h = absurd (cc)
begins-place (l ∷ links) e h = ⊎_elim
    (λ (w : (eqb l e ≡ true) × (l ≡ e)). ap (λ (x : ℕ). Some x) w.1)
    (λ (w : (eqb l e ≡ false) × (l ≢ e)). absurd (cc))
    (eqb_tells l e)
