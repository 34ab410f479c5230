-- The loading order takes each link exactly if no links form a circle. If it omits links, there is a circle.
use Rattle.std.proofs.Common.{◌≡◌, ◌≢◌, ℕ, zero, suc, ◌+◌, ◌<◌, ◌≤◌, List, [], ◌∷◌, ◌++◌, length, ◌⊎◌, inl, inr, ⊎_elim, Bool, true, false, not, ◌&&◌, ◌||◌}
use Rattle.std.proofs.Common.{eqb, Option, Some, None, slice_get, refl, sym, ap, subst, ◌∙◌, arith, if◌then◌else◌}
use Rattle.nf_routes_laws.proofs.Common.{eqb_tells, Network, slice_get_within, same_Some, and_parts, not-true, append-nil, true_or_false, not_both}
use Rattle.nf_routes_laws.proofs.Common.{IsDistinct, list_any, list_all, range_with_len, Route, AreRoutes, pairs_of, all_pairs, PrecedesOnRoute}
use Rattle.nf_routes_laws.proofs.Common.{LeadsOverRoutes, HoldCircle, is_taken, is_free, first_free, with_next, order_from}
use Rattle.std.proofs.lemmas.Map.Steps.{length-le_from_distinct_below}
use Rattle.nf_model_laws.proofs.Ways.{distinct_more, distinct_none}
use Rattle.nf_routes_def.specs.Routes.{loading_order, takes_all}
use Rattle.nf_routes_laws.proofs.Arriving.{walk-links}

-- ---- members of lists
abbrev pub In : {A : Type 0} → A → List A → Type 0
In x [] = ⊥
In x (y ∷ ys) = (x ≡ y) ⊎ In x ys

pub in-front : {A : Type 0} (x : A) (xs ys : List A) → In x xs → In x (xs ++ ys)
in-front x [] ys h = absurd h
in-front x (z ∷ xs) ys (inl e) = inl e
in-front x (z ∷ xs) ys (inr h) = inr (in-front x xs ys h)

pub in-back : {A : Type 0} (x : A) (xs ys : List A) → In x ys → In x (xs ++ ys)
in-back x [] ys h = h
in-back x (z ∷ xs) ys h = inr (in-back x xs ys h)

pub in-either : {A : Type 0} (x : A) (xs ys : List A) → In x (xs ++ ys) → In x xs ⊎ In x ys
in-either x [] ys h = inr h
in-either x (z ∷ xs) ys (inl e) = inl (inl e)
in-either x (z ∷ xs) ys (inr h) = ⊎_elim (λ (k : In x xs). inl (inr k)) (λ (k : In x ys). inr k) (in-either x xs ys h)

pub all-at : {A : Type 0} (t : A → Bool) (xs : List A) (x : A) → list_all t xs ≡ true → In x xs → t x ≡ true
all-at t [] x h k = absurd k
all-at t (y ∷ xs) x h (inl e) = ap t e ∙ (and_parts (t y) _ h).0
all-at t (y ∷ xs) x h (inr k) = all-at t xs x (and_parts (t y) _ h).1 k

not-all : {A : Type 0} (t : A → Bool) (xs : List A) → list_all t xs ≡ false → (x : A) × In x xs × (t x ≡ false)
not-all t [] h = absurd (cc)
not-all t (y ∷ xs) h = ⊎_elim
    (λ (k : t y ≡ true). let r = not-all t xs (ap (λ (b : Bool). b && list_all t xs) (sym k) ∙ h) in (r.0, inr r.1, r.2))
    (λ (k : t y ≡ false). (y, inl refl, k))
    (true_or_false (t y))

pub in-range : (start count e : ℕ) → start ≤ e → e < start + count → In e (range_with_len start count)
in-range start zero e h k = absurd (omega arith)
in-range start (suc count) e h k = ⊎_elim
    (λ (w : (eqb e start ≡ true) × (e ≡ start)). inl w.1)
    (λ (w : (eqb e start ≡ false) × (e ≢ start)). inr (in-range (start + 1) count e (let n = w.1 in omega arith) (omega arith)))
    (eqb_tells e start)

pub range-below : (start count e : ℕ) → In e (range_with_len start count) → e < start + count
range-below start zero e h = absurd h
range-below start (suc count) e (inl w) = omega arith
range-below start (suc count) e (inr h) = let r = range-below (start + 1) count e h in omega arith

-- ---- taken links
pub taken-in : (taken : List ℕ) (e : ℕ) → is_taken taken e ≡ true → In e taken
taken-in [] e h = absurd (cc)
taken-in (f ∷ taken) e h = ⊎_elim
    (λ (w : (eqb f e ≡ true) × (f ≡ e)). inl (sym w.1))
    (λ (w : (eqb f e ≡ false) × (f ≢ e)). inr (taken-in taken e (ap (λ (b : Bool). b || is_taken taken e) (sym w.0) ∙ h)))
    (eqb_tells f e)

pub in-taken : (taken : List ℕ) (e : ℕ) → In e taken → is_taken taken e ≡ true
in-taken [] e h = absurd h
in-taken (f ∷ taken) e h = ⊎_elim
    (λ (w : (eqb f e ≡ true) × (f ≡ e)). ap (λ (b : Bool). b || is_taken taken e) w.0)
    (λ (w : (eqb f e ≡ false) × (f ≢ e)). ap (λ (b : Bool). b || is_taken taken e) w.0 ∙ ⊎_elim (λ (k : e ≡ f). absurd (w.1 (sym k))) (λ (k : In e taken). in-taken taken e k) h)
    (eqb_tells f e)

not-in : (taken : List ℕ) (e : ℕ) → is_taken taken e ≡ false → list_any (eqb e) taken ≡ false
not-in taken e h = ⊎_elim
    (λ (k : list_any (eqb e) taken ≡ true). absurd (not_both (is_taken taken e) (turned taken k) h))
    (λ (k : list_any (eqb e) taken ≡ false). k)
    (true_or_false (list_any (eqb e) taken))
  where
    turned : (taken : List ℕ) → list_any (eqb e) taken ≡ true → is_taken taken e ≡ true
    turned [] k = absurd (cc)
    turned (f ∷ taken) k = in-taken (f ∷ taken) e (⊎_elim
        (λ (w : (eqb e f ≡ true) × (e ≡ f)). inl w.1)
        (λ (w : (eqb e f ≡ false) × (e ≢ f)). inr (taken-in taken e (turned taken (ap (λ (b : Bool). b || list_any (eqb e) taken) (sym w.0) ∙ k))))
        (eqb_tells e f))

-- ---- pairs and routes
pair-places : (links : List ℕ) (p : ℕ × ℕ) → In p (pairs_of links) → (place : ℕ) × (slice_get links place ≡ Some p.0) × (slice_get links (suc place) ≡ Some p.1)
pair-places [] p h = absurd h
pair-places (e ∷ []) p h = absurd h
pair-places (e ∷ f ∷ rest) p (inl w) = (0, ap (λ (q : ℕ × ℕ). Some q.0) (sym w), ap (λ (q : ℕ × ℕ). Some q.1) (sym w))
pair-places (e ∷ f ∷ rest) p (inr h) = let r = pair-places (f ∷ rest) p h in (suc r.0, r.1, r.2)

place-pairs : (links : List ℕ) (place e f : ℕ) → slice_get links place ≡ Some e → slice_get links (suc place) ≡ Some f → In (e, f) (pairs_of links)
place-pairs [] place e f h k = absurd (cc)
place-pairs (x ∷ []) zero e f h k = absurd (cc)
place-pairs (x ∷ []) (suc place) e f h k = absurd (cc)
place-pairs (x ∷ y ∷ rest) zero e f h k = inl (let a = same_Some x e h in let b = same_Some y f k in λ i. (sym a i, sym b i))
place-pairs (x ∷ y ∷ rest) (suc place) e f h k = inr (place-pairs (y ∷ rest) place e f h k)

pub before-pair : (routes : List Route) (e f : ℕ) → PrecedesOnRoute routes e f → In (e, f) (all_pairs routes)
before-pair routes e f b = at routes b.number b.is_route
  where
    at : (routes : List Route) (r : ℕ) → slice_get routes r ≡ Some b.route → In (e, f) (all_pairs routes)
    at [] r h = absurd (cc)
    at (x ∷ routes) zero h = in-front (e, f) (pairs_of x.links) (all_pairs routes)
        (subst (λ (y : Route). In (e, f) (pairs_of y.links)) (sym (same_Some x b.route h)) (place-pairs b.route.links b.place e f b.here b.next))
    at (x ∷ routes) (suc r) h = in-back (e, f) (pairs_of x.links) (all_pairs routes) (at routes r h)

pair-before : (routes all : List Route) (shift : ℕ) (p : ℕ × ℕ) → ((r : ℕ) → slice_get routes r ≡ slice_get all (shift + r)) → In p (all_pairs routes) → PrecedesOnRoute all p.0 p.1
pair-before [] all shift p same h = absurd h
pair-before (x ∷ routes) all shift p same h = ⊎_elim
    (λ (k : In p (pairs_of x.links)). let w = pair-places x.links p k in
    record { number = shift; place = w.0; route = x; is_route = ap (λ (n : ℕ). slice_get all n) (let n : shift ≡ shift + 0 = omega arith in n) ∙ sym (same 0); here = w.1; next = w.2 })
    (λ (k : In p (all_pairs routes)). pair-before routes all (suc shift) p
    (λ r. same (suc r) ∙ ap (λ (n : ℕ). slice_get all n) (let n : shift + suc r ≡ suc shift + r = omega arith in n)) k)
    (in-either p (pairs_of x.links) (all_pairs routes) h)

pub before-of : (routes : List Route) (p : ℕ × ℕ) → In p (all_pairs routes) → PrecedesOnRoute routes p.0 p.1
before-of routes p h = pair-before routes routes 0 p (λ r. ap (λ (n : ℕ). slice_get routes n) (let n : r ≡ 0 + r = omega arith in n)) h

-- ---- the lowest free link
free-parts : (pairs : List (ℕ × ℕ)) (taken : List ℕ) (f : ℕ) → is_free pairs taken f ≡ true
    → (is_taken taken f ≡ false) × ((p : ℕ × ℕ) → In p pairs → p.1 ≡ f → is_taken taken p.0 ≡ true)
free-parts pairs taken f h =
    let w = and_parts (not (is_taken taken f)) _ h in
    (not-true (is_taken taken f) w.0, λ p k e. need (eqb p.1 f) (is_taken taken p.0) (all-at (λ q. not (eqb q.1 f) || is_taken taken q.0) pairs p w.1 k) (same p.1 e))
  where
    same : (x : ℕ) → x ≡ f → eqb x f ≡ true
    same x e = ⊎_elim (λ (w : (eqb x f ≡ true) × (x ≡ f)). w.0) (λ (w : (eqb x f ≡ false) × (x ≢ f)). absurd (w.1 e)) (eqb_tells x f)

    need : (a b : Bool) → (not a || b) ≡ true → a ≡ true → b ≡ true
    need true b h k = h
    need false b h k = absurd (cc)

pub free-some : (pairs : List (ℕ × ℕ)) (taken xs : List ℕ) (e : ℕ) → first_free pairs taken xs ≡ Some e → In e xs × (is_free pairs taken e ≡ true)
free-some pairs taken [] e h = absurd (cc)
free-some pairs taken (x ∷ xs) e h = ⊎_elim
    (λ (k : is_free pairs taken x ≡ true).
    let same : x ≡ e = same_Some x e (sym (ap (λ (b : Bool). if b then Some x else first_free pairs taken xs) k) ∙ h) in
    (inl (sym same), ap (is_free pairs taken) (sym same) ∙ k))
    (λ (k : is_free pairs taken x ≡ false).
    let r = free-some pairs taken xs e (sym (ap (λ (b : Bool). if b then Some x else first_free pairs taken xs) k) ∙ h) in (inr r.0, r.1))
    (true_or_false (is_free pairs taken x))

free-none : (pairs : List (ℕ × ℕ)) (taken xs : List ℕ) (e : ℕ) → first_free pairs taken xs ≡ None → In e xs → is_free pairs taken e ≡ false
free-none pairs taken [] e h k = absurd k
free-none pairs taken (x ∷ xs) e h k = ⊎_elim
    (λ (w : is_free pairs taken x ≡ true). absurd (none x (sym (ap (λ (b : Bool). if b then Some x else first_free pairs taken xs) w) ∙ h)))
    (λ (w : is_free pairs taken x ≡ false). ⊎_elim
    (λ (v : e ≡ x). ap (is_free pairs taken) v ∙ w)
    (λ (v : In e xs). free-none pairs taken xs e (sym (ap (λ (b : Bool). if b then Some x else first_free pairs taken xs) w) ∙ h) v) k)
    (true_or_false (is_free pairs taken x))
  where
    none : (x : ℕ) → ◌≡◌ {A = Option ℕ} (Some x) None → ⊥
    none x h = cc

link-below : (net : Network) (routes : List Route) → AreRoutes net routes → (e f : ℕ) → PrecedesOnRoute routes e f → e < length net.links
link-below net routes are e f b =
    let l = walk-links net b.route.links net.source net.sink b.place e (are.walks b.number b.route b.is_route) b.here in
    slice_get_within net.links e l.0 l.1

-- ---- each link is taken, or there is a circle
module _ (net : Network) (routes : List Route) (are : AreRoutes net routes) where
  abbrev many : ℕ
  many = length net.links

  abbrev pairs : List (ℕ × ℕ)
  pairs = all_pairs routes

  before-below : (e f : ℕ) → PrecedesOnRoute routes e f → e < many
  before-below e f b = link-below net routes are e f b

  abbrev Way : ℕ → ℕ → Type 0
  Way u v = (u ≡ v) ⊎ ((between : List ℕ) × LeadsOverRoutes routes u between v)

  longer : (u v w : ℕ) → PrecedesOnRoute routes u v → Way v w → Way u w
  longer u v w b (inl e) = inr ([], subst (λ (x : ℕ). PrecedesOnRoute routes u x) e b)
  longer u v w b (inr (between, way)) = inr (v ∷ between, (b, way))

  closed : (u v : ℕ) → PrecedesOnRoute routes u v → Way v u → HoldCircle routes
  closed u v b (inl e) = (u, [], subst (λ (x : ℕ). PrecedesOnRoute routes u x) e b)
  closed u v b (inr (between, way)) = (u, v ∷ between, (b, way))

  -- there is a path from a link to each of these
  abbrev Seen : List ℕ → ℕ → Type 0
  Seen seen v = (q : ℕ) → list_any (eqb q) seen ≡ true → (q < many) × Way v q

  seen_more : (u v : ℕ) (seen : List ℕ) → PrecedesOnRoute routes u v → Seen seen v → Seen (u ∷ seen) u
  seen_more u v seen b ways q e = ⊎_elim
      (λ (w : (eqb q u ≡ true) × (q ≡ u)). (subst (λ (k : ℕ). k < many) (sym w.1) (before-below u v b), inl (sym w.1)))
      (λ (w : (eqb q u ≡ false) × (q ≢ u)). let s : (q < many) × Way v q = ways q (ap (λ (t : Bool). t || list_any (eqb q) seen) (sym w.0) ∙ e) in (s.0, longer u v q b s.1))
      (eqb_tells q u)

  -- no further link fits
  full : (u : ℕ) (seen : List ℕ) → many ≤ length seen → IsDistinct eqb (u ∷ seen) → Seen (u ∷ seen) u → ⊥
  full u seen h d ways = let l : length (u ∷ seen) ≤ many = length-le_from_distinct_below (u ∷ seen) many d (λ q s. (ways q s).0) in omega arith

  module _ (taken : List ℕ) (stuck : (e : ℕ) → e < many → is_free pairs taken e ≡ false) where
    abbrev Left : ℕ → Type 0
    Left v = is_taken taken v ≡ false

    left-before : (v : ℕ) → v < many → Left v → (u : ℕ) × PrecedesOnRoute routes u v × Left u
    left-before v h left =
        let none : list_all (λ q. not (eqb q.1 v) || is_taken taken q.0) pairs ≡ false = open_end (is_taken taken v) _ left (stuck v h) in
        let p = not-all (λ q. not (eqb q.1 v) || is_taken taken q.0) pairs none in
        let w = both_off (eqb p.0.1 v) (is_taken taken p.0.0) p.2 in
        (p.0.0, subst (λ (x : ℕ). PrecedesOnRoute routes p.0.0 x) (same p.0.1 w.0) (before-of routes p.0 p.1), w.1)
      where
        open_end : (a b : Bool) → a ≡ false → (not a && b) ≡ false → b ≡ false
        open_end true b h k = absurd (cc)
        open_end false b h k = k

        both_off : (a b : Bool) → (not a || b) ≡ false → (a ≡ true) × (b ≡ false)
        both_off true b h = (refl, h)
        both_off false b h = absurd (cc)

        same : (x : ℕ) → eqb x v ≡ true → x ≡ v
        same x h = ⊎_elim (λ (w : (eqb x v ≡ true) × (x ≡ v)). w.1) (λ (w : (eqb x v ≡ false) × (x ≢ v)). absurd (not_both _ h w.0)) (eqb_tells x v)

    -- going back over links that are not taken, one link repeats
    meets : (left v : ℕ) (seen : List ℕ) → many ≤ length seen + left → v < many → Left v → IsDistinct eqb seen → Seen seen v → HoldCircle routes
    meets zero v seen m h out d ways =
        let b : (u : ℕ) × PrecedesOnRoute routes u v × Left u = left-before v h out in
        ⊎_elim
        (λ (w : list_any (eqb b.0) seen ≡ true). closed b.0 v b.1 (ways b.0 w).1)
        (λ (w : list_any (eqb b.0) seen ≡ false). absurd (full b.0 seen (omega arith) (distinct_more b.0 seen w d) (seen_more b.0 v seen b.1 ways)))
        (true_or_false (list_any (eqb b.0) seen))
    meets (suc left) v seen m h out d ways =
        let b : (u : ℕ) × PrecedesOnRoute routes u v × Left u = left-before v h out in
        ⊎_elim
        (λ (w : list_any (eqb b.0) seen ≡ true). closed b.0 v b.1 (ways b.0 w).1)
        (λ (w : list_any (eqb b.0) seen ≡ false).
        meets left b.0 (b.0 ∷ seen) (one_less (length seen) left m) (before-below b.0 v b.1) b.2 (distinct_more b.0 seen w d) (seen_more b.0 v seen b.1 ways))
        (true_or_false (list_any (eqb b.0) seen))
      where
        one_less : (l k : ℕ) → many ≤ l + suc k → many ≤ suc l + k
        one_less l k h = omega arith

    circle-back : (v : ℕ) → v < many → Left v → HoldCircle routes
    circle-back v h out = meets many v [] (let n : many ≤ 0 + many = omega arith in n) h out distinct_none (λ q e. absurd (cc))

  record Good (taken : List ℕ) : Type 0 where
    pub distinct : IsDistinct eqb taken
    pub below : (q : ℕ) → list_any (eqb q) taken ≡ true → q < many

  abbrev Comes : ℕ → List ℕ → ℕ → Type 0
  Comes more taken e = (is_taken taken e ≡ true) ⊎ In e (order_from more pairs many taken)

  all-taken : (more : ℕ) (taken : List ℕ) → length taken + more ≡ many → Good taken → (e : ℕ) → e < many → Comes more taken e ⊎ HoldCircle routes
  all-taken zero taken count good e h = ⊎_elim
      (λ (k : is_taken taken e ≡ true). inl (inl k))
      (λ (k : is_taken taken e ≡ false).
      let full : length (e ∷ taken) ≤ many = length-le_from_distinct_below (e ∷ taken) many (distinct_more e taken (not-in taken e k) good.distinct)
      (λ q w. ⊎_elim (λ (v : (eqb q e ≡ true) × (q ≡ e)). subst (λ (x : ℕ). x < many) (sym v.1) h)
      (λ (v : (eqb q e ≡ false) × (q ≢ e)). good.below q (ap (λ (b : Bool). b || list_any (eqb q) taken) (sym v.0) ∙ w)) (eqb_tells q e)) in
      absurd (omega arith))
      (true_or_false (is_taken taken e))
  all-taken (suc more) taken count good e h = by (first_free pairs taken (range_with_len 0 many)) refl
      (λ f next. all-taken more (f ∷ taken) (omega arith) next e h)
    where
      by : (o : Option ℕ) → first_free pairs taken (range_with_len 0 many) ≡ o → ((f : ℕ) → Good (f ∷ taken) → Comes more (f ∷ taken) e ⊎ HoldCircle routes)
          → ((is_taken taken e ≡ true) ⊎ In e (with_next o (λ f. order_from more pairs many (f ∷ taken)))) ⊎ HoldCircle routes
      by None none later = ⊎_elim
          (λ (k : is_taken taken e ≡ true). inl (inl k))
          (λ (k : is_taken taken e ≡ false). inr (circle-back taken (λ f i. free-none pairs taken (range_with_len 0 many) f none
          (in-range 0 many f (omega arith) (let n : f < 0 + many = omega arith in n))) e h k))
          (true_or_false (is_taken taken e))
      by (Some f) some later =
          let w = free-some pairs taken (range_with_len 0 many) f some in
          let free = free-parts pairs taken f w.1 in
          let below : f < many = (let r = range-below 0 many f w.0 in omega arith) in
          let next : Good (f ∷ taken) = record {
            distinct = distinct_more f taken (not-in taken f free.0) good.distinct;
            below = λ q v. ⊎_elim (λ (x : (eqb q f ≡ true) × (q ≡ f)). subst (λ (y : ℕ). y < many) (sym x.1) below)
                (λ (x : (eqb q f ≡ false) × (q ≢ f)). good.below q (ap (λ (b : Bool). b || list_any (eqb q) taken) (sym x.0) ∙ v)) (eqb_tells q f);
          } in
          ⊎_elim
          (λ (c : Comes more (f ∷ taken) e). inl (⊎_elim
          (λ (v : is_taken (f ∷ taken) e ≡ true). ⊎_elim
          (λ (x : e ≡ f). inr (inl x))
          (λ (x : In e taken). inl (in-taken taken e x))
          (taken-in (f ∷ taken) e v))
          (λ (v : In e (order_from more pairs many (f ∷ taken))). inr (inr v))
          c))
          (λ (c : HoldCircle routes). inr c)
          (later f next)

  comes-or-circle : (e : ℕ) → e < many → (is_taken (order_from many pairs many []) e ≡ true) ⊎ HoldCircle routes
  comes-or-circle e h = ⊎_elim
      (λ (c : Comes many [] e). inl (⊎_elim
      (λ (v : is_taken [] e ≡ true). absurd (cc))
      (λ (v : In e (order_from many pairs many [])). in-taken (order_from many pairs many []) e v)
      c))
      (λ (c : HoldCircle routes). inr c)
      (all-taken many [] (let n : 0 + many ≡ many = omega arith in n) (record { distinct = distinct_none; below = λ q v. absurd (cc) }) e h)

  pub circle-found : takes_all many routes ≡ false → HoldCircle routes
  unfolding takes_all loading_order
  circle-found h =
      let r = not-all (λ e. is_taken (order_from many pairs many []) e) (range_with_len 0 many) h in
      ⊎_elim
      (λ (t : is_taken (order_from many pairs many []) r.0 ≡ true). absurd (not_both _ t r.2))
      (λ (c : HoldCircle routes). c)
      (comes-or-circle r.0 (let b = range-below 0 many r.0 r.1 in omega arith))

  pub takes_all-straight : (HoldCircle routes → ⊥) → takes_all many routes ≡ true
  takes_all-straight straight = ⊎_elim
      (λ (k : takes_all many routes ≡ true). k)
      (λ (k : takes_all many routes ≡ false). absurd (straight (circle-found k)))
      (true_or_false (takes_all many routes))

-- ---- along a circle no link is taken
module _ (routes : List Route) (many : ℕ) where
  abbrev pairs' : List (ℕ × ℕ)
  pairs' = all_pairs routes

  -- a link of the order comes after those before it, and once
  pub placed : (more : ℕ) (taken front : List ℕ) (e : ℕ) (back : List ℕ) → order_from more pairs' many taken ≡ front ++ e ∷ back
      → (In e (front ++ taken) → ⊥) × ((f : ℕ) → PrecedesOnRoute routes f e → In f (front ++ taken))
  placed zero taken [] e back h = absurd (cc)
  placed zero taken (x ∷ front) e back h = absurd (cc)
  placed (suc more) taken front e back h = by (first_free pairs' taken (range_with_len 0 many)) refl front h (λ f front' k. placed more (f ∷ taken) front' e back k)
    where
      head-of : (x y : ℕ) (xs ys : List ℕ) → x ∷ xs ≡ y ∷ ys → (x ≡ y) × (xs ≡ ys)
      head-of x y xs ys h = (cc, cc)

      by : (o : Option ℕ) → first_free pairs' taken (range_with_len 0 many) ≡ o → (front : List ℕ) → with_next o (λ f. order_from more pairs' many (f ∷ taken)) ≡ front ++ e ∷ back
          → ((f : ℕ) (front' : List ℕ) → order_from more pairs' many (f ∷ taken) ≡ front' ++ e ∷ back
          → (In e (front' ++ f ∷ taken) → ⊥) × ((g : ℕ) → PrecedesOnRoute routes g e → In g (front' ++ f ∷ taken)))
          → (In e (front ++ taken) → ⊥) × ((f : ℕ) → PrecedesOnRoute routes f e → In f (front ++ taken))
      by None none [] h later = absurd (cc)
      by None none (x ∷ front) h later = absurd (cc)
      by (Some f) some [] h later =
          let same = head-of f e _ _ h in
          let free = free-parts pairs' taken f (free-some pairs' taken (range_with_len 0 many) f some).1 in (
            (λ k. not_both (is_taken taken f) (in-taken taken f (subst (λ (x : ℕ). In x taken) (sym same.0) k)) free.0),
            (λ g b. taken-in taken g (free.1 (g, e) (before-pair routes g e b) (sym same.0))),
          )
      by (Some f) some (x ∷ front) h later =
          let same = head-of f x _ _ h in
          let r = later f front same.1 in
          ((λ k. r.0 (moved e front same.0 k)), (λ g b. moved_back g front same.0 (r.1 g b)))
        where
          moved : (e : ℕ) (front : List ℕ) {f x : ℕ} → f ≡ x → In e (x ∷ front ++ taken) → In e (front ++ f ∷ taken)
          moved e front {f} {x} same (inl k) = in-back e front (f ∷ taken) (inl (k ∙ sym same))
          moved e front {f} {x} same (inr k) = ⊎_elim (λ (v : In e front). in-front e front (f ∷ taken) v)
              (λ (v : In e taken). in-back e front (f ∷ taken) (inr v)) (in-either e front taken k)

          moved_back : (e : ℕ) (front : List ℕ) {f x : ℕ} → f ≡ x → In e (front ++ f ∷ taken) → In e (x ∷ front ++ taken)
          moved_back e front {f} {x} same k = ⊎_elim
              (λ (v : In e front). inr (in-front e front taken v))
              (λ (v : In e (f ∷ taken)). ⊎_elim (λ (w : e ≡ f). inl (w ∙ same)) (λ (w : In e taken). inr (in-back e front taken w)) v)
              (in-either e front (f ∷ taken) k)

  split : (xs : List ℕ) (e : ℕ) → In e xs → (front : List ℕ) × (back : List ℕ) × (xs ≡ front ++ e ∷ back)
  split [] e h = absurd h
  split (x ∷ xs) e (inl k) = ([], xs, ap (λ (y : ℕ). y ∷ xs) (sym k))
  split (x ∷ xs) e (inr k) = let r = split xs e k in (x ∷ r.0, r.1, ap (λ (l : List ℕ). x ∷ l) r.2)

  joined : (a : List ℕ) (x : ℕ) (b c : List ℕ) → (a ++ x ∷ b) ++ c ≡ a ++ x ∷ (b ++ c)
  joined [] x b c = refl
  joined (y ∷ a) x b c = ap (λ (l : List ℕ). y ∷ l) (joined a x b c)

  -- the links that lead to a link of the order precede it
  led : (between : List ℕ) (e w : ℕ) (front back : List ℕ) → order_from many pairs' many [] ≡ front ++ w ∷ back → LeadsOverRoutes routes e between w → In e front
  led [] e w front back h way = subst (In e) (append-nil front) ((placed many [] front w back h).1 e way)
  led (g ∷ between) e w front back h way =
      let s = split front g (led between g w front back h way.1) in
      let there : order_from many pairs' many [] ≡ s.0 ++ g ∷ (s.1 ++ w ∷ back) = h ∙ ap (λ (l : List ℕ). l ++ w ∷ back) s.2 ∙ joined s.0 g s.1 (w ∷ back) in
      subst (In e) (sym s.2) (in-front e s.0 (g ∷ s.1) (subst (In e) (append-nil s.0) ((placed many [] s.0 g (s.1 ++ w ∷ back) there).1 e way.0)))

  pub circle-left : (e : ℕ) (between : List ℕ) → e < many → LeadsOverRoutes routes e between e → takes_all many routes ≡ true → ⊥
  unfolding takes_all loading_order
  circle-left e between h way all =
      let s = split (order_from many pairs' many []) e (taken-in (order_from many pairs' many []) e
      (all-at (λ f. is_taken (order_from many pairs' many []) f) (range_with_len 0 many) e all
      (in-range 0 many e (omega arith) (let n : e < 0 + many = omega arith in n)))) in
      (placed many [] s.0 e s.1 s.2).0 (in-front e s.0 [] (led between e e s.0 s.1 s.2 way))

pub none-circle : (net : Network) (routes : List Route) → AreRoutes net routes → takes_all (length net.links) routes ≡ true → HoldCircle routes → ⊥
none-circle net routes are all (e, [], way) = circle-left routes (length net.links) e [] (link-below net routes are e e way) way all
none-circle net routes are all (e, g ∷ between, way) = circle-left routes (length net.links) e (g ∷ between) (link-below net routes are e g way.0) way all
