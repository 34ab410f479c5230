-- Curves restored one after the other: the curves so far precede the remaining ones.
use Rattle.std.proofs.Common.{◌≡◌, ℕ, suc, ◌+◌, ◌≤◌, List, [], ◌∷◌, ◌++◌, length, take, drop, map, refl, sym, ap, subst, ◌∙◌, arith, Some, slice_get}
use Rattle.std.proofs.Common.{Result, Ok, Err}
use Rattle.nf_phase_curves.proofs.Common.{map-append, ℚ, Passing, Curve, PassedAt, each, at_part, Point, Trace, GrowingCurve, LinkCurves, link_curves_of}
use Rattle.nf_phase_curves.proofs.Common.{growing, after_err, after_ok, each_goes, each_stops, each_ends, err_before, ok_before, take_pushed, drop_entry}
use Rattle.nf_phase_curves.proofs.Common.{Roomy, all_grown, of_link, of_links}
use Rattle.std.proofs.Math.ListN.{drop_of_length-le}
use Rattle.nf_frac_def.specs.declared.Passed.{Passed}
use Rattle.nf_frac_def.proofs.Each.{with_front}

-- ---- one value after the other
module _ {A B : Type 0} (f : A → Result B (Passed ℚ)) (xs : List A) where
  abbrev pub SoFar : List B → ℕ → Type 0
  SoFar front i = with_front front (each f (drop i xs)) ≡ each f xs

  no_front : (r : Result (List B) (Passed ℚ)) → with_front [] r ≡ r
  no_front (Ok ys) = refl
  no_front (Err p) = refl

  pub none_yet : SoFar [] 0
  none_yet = no_front (each f xs)

  module _ (front : List B) (i : ℕ) (x : A) (at : slice_get xs i ≡ Some x) (so : SoFar front i) where
    so_now : with_front front (each f (x ∷ drop (suc i) xs)) ≡ each f xs
    so_now = ap (λ (rest : List A). with_front front (each f rest)) (sym (drop_entry xs i x at)) ∙ so

    pub one_more : (y : B) → at_part Curve (f x) ≡ Ok y → SoFar (front ++ y ∷ []) (i + 1)
    one_more y said =
        let later : suc i ≡ i + 1 = omega arith in
        subst (SoFar (front ++ y ∷ [])) later (each_goes Curve f front (each f xs) x (drop (suc i) xs) so_now y said)

    pub one_passes : (p : PassedAt ℚ) → at_part Curve (f x) ≡ Err p → at_part Curve (each f xs) ≡ Err p
    one_passes p said = each_stops Curve f front (each f xs) x (drop (suc i) xs) so_now p said

  pub all_done : (front : List B) (i : ℕ) → length xs ≤ i → SoFar front i → at_part Curve (each f xs) ≡ Ok front
  all_done front i end so = each_ends f front (each f xs) Curve (ap (λ (rest : List A). with_front front (each f rest)) (sym (drop_of_length-le xs end)) ∙ so)

-- ---- the curves of links
pub record LinksSoFar (passes : Passing) (inflows outflows : List Trace) (queues : List (List Point)) (front : List LinkCurves) (e : ℕ) : Type 0 where
  pub entering : map (λ c. c.inflow) front ≡ take e inflows
  pub leaving : map (λ c. c.outflow) front ≡ take e outflows
  pub waiting : SoFar (growing passes) queues (map (λ c. c.queue) front) e

again : (front : List LinkCurves) → link_curves_of (map (λ c. c.inflow) front) (map (λ c. c.outflow) front) (map (λ c. c.queue) front) ≡ front
again [] = refl
again (c ∷ front) = ap (λ (l : List LinkCurves). c ∷ l) (again front)

all_taken : {A : Type 0} (xs : List A) (n : ℕ) → n ≡ length xs → take n xs ≡ xs
all_taken {A = A} xs n e = ap (λ (k : ℕ). take k xs) e ∙ whole xs
  where
    whole : (xs : List A) → take (length xs) xs ≡ xs
    whole [] = refl
    whole (x ∷ xs) = ap (λ (l : List A). x ∷ l) (whole xs)

module _ (passes : Passing) (inflows outflows : List Trace) (queues : List (List Point)) where
  pub no_links : LinksSoFar passes inflows outflows queues [] 0
  no_links = record { entering = refl; leaving = refl; waiting = none_yet (growing passes) queues }

  module _ (front : List LinkCurves) (e : ℕ) (inflow outflow : Trace) (queue : List Point) (i : slice_get inflows e ≡ Some inflow)
      (o : slice_get outflows e ≡ Some outflow) (q : slice_get queues e ≡ Some queue)
      (so : LinksSoFar passes inflows outflows queues front e) where
    pub one_link : (next : LinkCurves) → at_part Curve (of_link passes inflow outflow queue) ≡ Ok next → LinksSoFar passes inflows outflows queues (front ++ next ∷ []) (e + 1)
    one_link next said =
        let w = ok_before Curve (growing passes queue) (λ (grown : GrowingCurve). record { inflow = inflow; outflow = outflow; queue = grown }) next said in
        let is_inflow : next.inflow ≡ inflow = ap (λ (c : LinkCurves). c.inflow) (sym w.2) in
        let is_outflow : next.outflow ≡ outflow = ap (λ (c : LinkCurves). c.outflow) (sym w.2) in
        let is_queue : w.0 ≡ next.queue = ap (λ (c : LinkCurves). c.queue) w.2 in
        record {
          entering = take_pushed inflows (map (λ c. c.inflow) front) (map (λ c. c.inflow) (front ++ next ∷ [])) e inflow i so.entering
              (map-append (λ (c : LinkCurves). c.inflow) front (next ∷ []) ∙ ap (λ (t : Trace). map (λ (c : LinkCurves). c.inflow) front ++ t ∷ []) is_inflow);
          leaving = take_pushed outflows (map (λ c. c.outflow) front) (map (λ c. c.outflow) (front ++ next ∷ [])) e outflow o so.leaving
              (map-append (λ (c : LinkCurves). c.outflow) front (next ∷ []) ∙ ap (λ (t : Trace). map (λ (c : LinkCurves). c.outflow) front ++ t ∷ []) is_outflow);
          waiting = subst (λ (l : List GrowingCurve). SoFar (growing passes) queues l (e + 1)) (sym (map-append (λ (c : LinkCurves). c.queue) front (next ∷ [])))
              (one_more (growing passes) queues (map (λ c. c.queue) front) e queue q so.waiting next.queue (ap (at_part Curve) w.1 ∙ ap (λ (c : GrowingCurve). Ok c) is_queue));
        }

    pub link_passes : (p : PassedAt ℚ) → at_part Curve (of_link passes inflow outflow queue) ≡ Err p → at_part Curve (of_links passes inflows outflows queues) ≡ Err p
    link_passes p said =
        after_err Curve (each (growing passes) queues) (λ (grown : List GrowingCurve). Ok (link_curves_of inflows outflows grown)) p
        (one_passes (growing passes) queues (map (λ c. c.queue) front) e queue q so.waiting p
        (err_before Curve (growing passes queue) (λ (grown : GrowingCurve). record { inflow = inflow; outflow = outflow; queue = grown }) p said))

  pub links_done : (front : List LinkCurves) (e : ℕ) → e ≡ length inflows → e ≡ length outflows → e ≡ length queues → LinksSoFar passes inflows outflows queues front e
      → at_part Curve (of_links passes inflows outflows queues) ≡ Ok front
  links_done front e i o q so =
      let end : length queues ≤ e = omega arith in
      let by_inflows : map (λ c. c.inflow) front ≡ inflows = so.entering ∙ all_taken inflows e i in
      let by_outflows : map (λ c. c.outflow) front ≡ outflows = so.leaving ∙ all_taken outflows e o in
      after_ok Curve (each (growing passes) queues) (λ (grown : List GrowingCurve). Ok (link_curves_of inflows outflows grown)) (map (λ c. c.queue) front)
      (all_done (growing passes) queues (map (λ c. c.queue) front) e end so.waiting)
      ∙ ap (λ (l : List LinkCurves). Ok l) (ap (λ (l : List Trace). link_curves_of l outflows (map (λ c. c.queue) front)) (sym by_inflows)
      ∙ ap (λ (l : List Trace). link_curves_of (map (λ c. c.inflow) front) l (map (λ c. c.queue) front)) (sym by_outflows) ∙ again front)

-- ---- lists that grow by one value
pub mapped_pushed : {A B : Type 0} (f : A → B) (xs : List A) (ys pushed : List B) (i : ℕ) (x : A) (y : B) → slice_get xs i ≡ Some x → ys ≡ map f (take i xs)
    → y ≡ f x → pushed ≡ ys ++ y ∷ []
    → pushed ≡ map f (take (i + 1) xs)
mapped_pushed {A = A} {B = B} f xs ys pushed i x y at is e more =
    more ∙ ap (λ (l : List B). l ++ y ∷ []) is ∙ ap (λ (z : B). map f (take i xs) ++ z ∷ []) e ∙ sym (map-append f (take i xs) (x ∷ []))
    ∙ ap (map f) (take_pushed xs (take i xs) (take i xs ++ x ∷ []) i x at refl refl)

-- A list that grows.
pub grown_pushed : {A B : Type 0} (f : A → B) (xs : List (Roomy A)) (ys pushed : List B) (i : ℕ) (x : Roomy A) (y : B) → slice_get xs i ≡ Some x
    → ys ≡ map f (all_grown (take i xs)) → y ≡ f x.grown → pushed ≡ ys ++ y ∷ []
    → pushed ≡ map f (all_grown (take (i + 1) xs))
grown_pushed {A = A} {B = B} f xs ys pushed i x y at is e more =
    more ∙ ap (λ (l : List B). l ++ y ∷ []) is ∙ ap (λ (z : B). map f (all_grown (take i xs)) ++ z ∷ []) e ∙ sym (map-append f (all_grown (take i xs)) (x.grown ∷ []))
    ∙ ap (map f) (mapped_pushed (λ (r : Roomy A). r.grown) xs (all_grown (take i xs)) (all_grown (take i xs) ++ x.grown ∷ []) i x x.grown at refl refl refl)

-- The same for a list that is taken apart.
pub yielded_pushed : {A B : Type 0} (f : A → B) (xs : List (Roomy A)) (ys pushed : List B) (x : Roomy A) (y : B) → ys ≡ map f (all_grown xs) → y ≡ f x.grown → pushed ≡ ys ++ y ∷ []
    → pushed ≡ map f (all_grown (xs ++ x ∷ []))
yielded_pushed {A = A} {B = B} f xs ys pushed x y is e more =
    more ∙ ap (λ (l : List B). l ++ y ∷ []) is ∙ ap (λ (z : B). map f (all_grown xs) ++ z ∷ []) e ∙ sym (map-append f (all_grown xs) (x.grown ∷ []))
    ∙ ap (map f) (sym (map-append (λ (r : Roomy A). r.grown) xs (x ∷ [])))
