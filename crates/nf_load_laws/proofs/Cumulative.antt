-- The cumulative amount of pieces, as a curve: at every time up to the last it is the amount that they supply.
use Rattle.std.proofs.Common.{◌≡◌, List, [], ◌∷◌, ◌++◌, ⊎_elim, Bool, true, false, refl, sym, ap, subst, ◌∙◌, Ok}
use Rattle.nf_load_laws.proofs.Common.{ℚ, 0ℚ, ◌+ℚ◌, ◌-ℚ◌, ◌*ℚ◌, ◌≤ℚ◌, ◌<ℚ◌, lt_ℚ, min_ℚ, max_ℚ, reading_of, le, lt, eq, eq_times, linear_lt, linear_eq}
use Rattle.nf_load_laws.proofs.Common.{≤ℚ_of_lt, ≤ℚ_of_same, ≤ℚ_antisymm, lt_or_le_ℚ, not_both_ℚ, less_nn, Passing, Checked, checked, ◌>>=◌, Sum, Difference}
use Rattle.nf_load_laws.proofs.Common.{Product, Point, IsCurve, NeverFalls, IsAffine, NeverFalls-value, is_same, IsCumulative, then_ok, is_same_cases}
use Rattle.nf_load_laws.proofs.Common.{checked-is, FollowsFrom, ends, goes, follows-point, value-follows_past, ≤ℚ_refl, ≤ℚ_trans, same_Ok}
use Rattle.nf_rational_laws.proofs.Tests.{lt_ℚ_cases, max0_of}
use Rattle.nf_model.specs.Network.{Piece, ArePieces, time_in, supplied}
use Rattle.nf_model_laws.specs.CurveLaws.{ValuesRise}
use Rattle.nf_model_laws.proofs.Supply.{StartsRise, StartsRise-pieces, NextFrom, supplied-none, supplied-rises, supplied-begins, StartsRise-rest}
use Rattle.nf_load_def.specs.Cumulative.{piece_end, point_after_0, point_if_after_0, with_piece, cumulative_from, checked_cumulative}
use Rattle.nf_curve_laws.proofs.Values.{follows-curve, follows-values}
use Rattle.nf_rational_laws.proofs.Extremes.{min_is_left, min_is_right, min_left, min_keeps}
use Rattle.nf_rational_laws.proofs.Facts.{zero_plus}

-- ---- points after time 0
after_0 : (t y : ℚ) → 0ℚ <ℚ t → point_if_after_0 t y ≡ (t, y) ∷ []
after_0 t y h = ⊎_elim
    (λ (w : (is_same t 0ℚ ≡ true) × (t ≡ 0ℚ)). absurd (not_both_ℚ 0ℚ t h (≤ℚ_of_same t 0ℚ w.1)))
    (λ (w : (is_same t 0ℚ ≡ false) × (¬ (t ≡ 0ℚ))). ap (λ (b : Bool). point_after_0 b t y) w.0)
    (is_same_cases t 0ℚ)

pub at_0 : (t y : ℚ) → t ≡ 0ℚ → point_if_after_0 t y ≡ []
at_0 t y e = ⊎_elim
    (λ (w : (is_same t 0ℚ ≡ true) × (t ≡ 0ℚ)). ap (λ (b : Bool). point_after_0 b t y) w.0)
    (λ (w : (is_same t 0ℚ ≡ false) × (¬ (t ≡ 0ℚ))). absurd (w.1 e))
    (is_same_cases t 0ℚ)

-- ---- the points from a piece on, by whether it starts before the last time
module _ (passes : Passing) (so_far : ℚ) (piece : Piece) (later : List Piece) (last : ℚ) (points : List Point) where
  abbrev pub with_more : Checked (List Point)
  with_more = with_piece passes so_far piece (piece_end later last) >>= λ sum. cumulative_from passes sum later last >>= λ rest. Ok (point_if_after_0 piece.start so_far ++ rest)

  abbrev by_start : Bool → Checked (List Point)
  by_start b = elim b [
    | true ↦ with_more
    | false ↦ Ok (point_if_after_0 last so_far)
  ]

  pub cumulative_more : lt_ℚ piece.start last ≡ true → cumulative_from passes so_far (piece ∷ later) last ≡ Ok points → with_more ≡ Ok points
  cumulative_more t e = sym (ap by_start t) ∙ e

  pub cumulative_done : lt_ℚ piece.start last ≡ false → cumulative_from passes so_far (piece ∷ later) last ≡ Ok points → point_if_after_0 last so_far ≡ points
  cumulative_done t e = same_Ok _ _ (sym (ap by_start t) ∙ e)

-- ---- how long a piece is the latest, up to the next start and after it

time_in-up_to : (start : ℚ) (later : List Piece) (t : ℚ) → start ≤ℚ t → NextFrom later t → time_in start later t ≡ t -ℚ start
time_in-up_to start [] t h n = max0_of _ (less_nn start t h)
time_in-up_to start (next ∷ later) t h n = ap (λ (x : ℚ). max_ℚ 0ℚ (x -ℚ start)) (min_is_left t next.start n) ∙ max0_of _ (less_nn start t h)

time_in-after : (start : ℚ) (next : Piece) (later : List Piece) (t : ℚ) → start ≤ℚ next.start → next.start ≤ℚ t → time_in start (next ∷ later) t ≡ next.start -ℚ start
time_in-after start next later t h k = ap (λ (x : ℚ). max_ℚ 0ℚ (x -ℚ start)) (min_is_right t next.start k) ∙ max0_of _ (less_nn start next.start h)

-- ---- the end of a piece
end_next : (later : List Piece) (last : ℚ) → NextFrom later (piece_end later last)
end_next [] last = tt
end_next (next ∷ later) last = min_left next.start last

end_after : (start : ℚ) (later : List Piece) (last : ℚ) → start <ℚ last → ((next : Piece) (rest : List Piece) → later ≡ next ∷ rest → start <ℚ next.start) → start <ℚ piece_end later last
end_after start [] last h k = h
end_after start (next ∷ later) last h k = min_keeps (λ (x : ℚ). start <ℚ x) next.start last (k next later refl) h

next_up_to : (later : List Piece) (s t : ℚ) → s ≤ℚ t → NextFrom later t → NextFrom later s
next_up_to [] s t h n = tt
next_up_to (next ∷ later) s t h n = ≤ℚ_trans _ _ _ h n

-- numbers: the amount at t, if `so_far` was supplied before the piece
so_much : (so_far rate span later y t s : ℚ) → span ≡ t -ℚ s → later ≡ 0ℚ → y ≡ so_far +ℚ (rate *ℚ span +ℚ later) → y ≡ so_far +ℚ rate *ℚ (t -ℚ s)
so_much so_far rate span later y t s e f g = linear_eq (so_far ∷ rate ∷ span ∷ later ∷ y ∷ t ∷ s ∷ []) (eq_times rate e ∷ eq f ∷ eq g ∷ []) (search reading_of) tt tt

so_on : (so_far rate span later y n s sum : ℚ) → span ≡ n -ℚ s → sum ≡ so_far +ℚ rate *ℚ (n -ℚ s) → y ≡ so_far +ℚ (rate *ℚ span +ℚ later) → y ≡ sum +ℚ later
so_on so_far rate span later y n s sum e f g = linear_eq (so_far ∷ rate ∷ span ∷ later ∷ y ∷ n ∷ s ∷ sum ∷ []) (eq_times rate e ∷ eq f ∷ eq g ∷ []) (search reading_of) tt tt

module _ (passes : Passing) (f : ℚ → ℚ) (last : ℚ) where
  with_piece-is : (so_far : ℚ) (piece : Piece) (end y : ℚ) → with_piece passes so_far piece end ≡ Ok y → y ≡ so_far +ℚ piece.rate *ℚ (end -ℚ piece.start)
  with_piece-is so_far piece end y e =
      let d = then_ok (checked passes Difference end piece.start) _ y e in
      let p = then_ok (checked passes Product piece.rate d.between) _ y d.next in
      checked-is passes Sum so_far p.between y p.next
      ∙ ap (λ (x : ℚ). so_far +ℚ x) (checked-is passes Product piece.rate d.between p.between p.first
      ∙ ap (λ (x : ℚ). piece.rate *ℚ x) (checked-is passes Difference end piece.start d.between d.first))

  -- the amount supplied by then and the remaining pieces make the whole amount
  abbrev GoesOn : ℚ → List Piece → Type 0
  GoesOn so_far [] = Unit {0}
  GoesOn so_far (piece ∷ later) = (t : ℚ) → piece.start ≤ℚ t → f t ≡ so_far +ℚ supplied (piece ∷ later) t

  -- a piece, from its start to its end
  over_piece : (so_far : ℚ) (piece : Piece) (later : List Piece) → StartsRise (piece ∷ later) → GoesOn so_far (piece ∷ later) → (t : ℚ) → piece.start ≤ℚ t → t ≤ℚ piece_end later last
      → f t ≡ so_far +ℚ piece.rate *ℚ (t -ℚ piece.start)
  over_piece so_far piece later s on t i j =
      let n : NextFrom later t = next_up_to later t (piece_end later last) j (end_next later last) in
      so_much so_far piece.rate _ _ (f t) t piece.start (time_in-up_to piece.start later t i n) (supplied-none later t (StartsRise-rest piece later s) n) (on t i)

  next_goes_on : (so_far sum : ℚ) (piece : Piece) (later : List Piece) → StartsRise (piece ∷ later) → GoesOn so_far (piece ∷ later) → piece.start ≤ℚ last
      → sum ≡ so_far +ℚ piece.rate *ℚ (piece_end later last -ℚ piece.start)
      → ((next : Piece) (rest : List Piece) → later ≡ next ∷ rest → next.start ≤ℚ last) → GoesOn sum later
  next_goes_on so_far sum piece [] s on h e k = tt
  next_goes_on so_far sum piece (next ∷ rest) s on h e k = λ t i.
      so_on so_far piece.rate _ _ (f t) next.start piece.start sum (time_in-after piece.start next rest t (≤ℚ_of_lt _ _ s.0) i)
      (e ∙ ap (λ (x : ℚ). so_far +ℚ piece.rate *ℚ (x -ℚ piece.start)) (min_is_left next.start last (k next rest refl))) (on t (≤ℚ_trans _ _ _ (≤ℚ_of_lt _ _ s.0) i))

  -- the condition is needed only for a piece that starts before the last time
  abbrev Goes : ℚ → List Piece → Type 0
  Goes so_far later = ((next : Piece) (rest : List Piece) → later ≡ next ∷ rest → next.start ≤ℚ last) → GoesOn so_far later

  first_of : (piece : Piece) (later : List Piece) → (next : Piece) (rest : List Piece) → piece ∷ later ≡ next ∷ rest → piece.start ≡ next.start
  first_of piece later next rest e = ap start e
    where
      start : List Piece → ℚ
      start [] = 0ℚ
      start (p ∷ rest) = p.start

  -- from a point on, up to the end of the piece in which it lies
  from_point : (p : Point) (k so_far : ℚ) (pieces : List Piece) (points : List Point) → f p.0 ≡ p.1 → 0ℚ ≤ℚ p.0 → p.0 <ℚ piece_end pieces last
      → IsAffine f p.0 (piece_end pieces last) k → f (piece_end pieces last) ≡ so_far
      → StartsRise pieces → Goes so_far pieces → cumulative_from passes so_far pieces last ≡ Ok points → FollowsFrom f last p points
  from_point p k so_far [] points at n h line e s on g =
      subst (λ (l : List Point). FollowsFrom f last p l) (sym (after_0 last so_far (zero_lt p.0 last n h)) ∙ same_Ok _ _ g) (goes k at h line (ends e refl))
    where
      zero_lt : (x y : ℚ) → 0ℚ ≤ℚ x → x <ℚ y → 0ℚ <ℚ y
      zero_lt x y h k = linear_lt (x ∷ y ∷ []) (le h ∷ lt k ∷ []) (search reading_of) tt
  from_point p k so_far (piece ∷ later) points at n h line e s on g = ⊎_elim
      (λ (w : (lt_ℚ piece.start last ≡ true) × (piece.start <ℚ last)).
      let here : piece_end (piece ∷ later) last ≡ piece.start = min_is_left piece.start last (≤ℚ_of_lt _ _ w.1) in
      let goes_on : GoesOn so_far (piece ∷ later) = on (λ next rest q. subst (λ (x : ℚ). x ≤ℚ last) (first_of piece later next rest q) (≤ℚ_of_lt _ _ w.1)) in
      let g' = cumulative_more passes so_far piece later last points w.0 g in
      let sum = then_ok (with_piece passes so_far piece (piece_end later last)) _ points g' in
      let rest = then_ok (cumulative_from passes sum.between later last) _ points sum.next in
      let start_0 : 0ℚ <ℚ piece.start = zero_lt p.0 piece.start n (subst (λ (x : ℚ). p.0 <ℚ x) here h) in
      let at_start : f piece.start ≡ so_far = subst (λ (x : ℚ). f x ≡ so_far) here e in
      let later_start = later_than piece later s in
      let end_later : piece.start <ℚ piece_end later last = end_after piece.start later last w.1 later_start in
      let line' : IsAffine f piece.start (piece_end later last) piece.rate = record {
        line = λ t i j. over_piece so_far piece later s goes_on t i j ∙ ap (λ (x : ℚ). x +ℚ piece.rate *ℚ (t -ℚ piece.start)) (sym at_start);
      } in
      let sum_is = with_piece-is so_far piece (piece_end later last) sum.between sum.first in
      subst (λ (l : List Point). FollowsFrom f last p l) (ap (λ (l : List Point). l ++ rest.between) (sym (after_0 piece.start so_far start_0)) ∙ same_Ok _ _ rest.next)
      (goes k at (subst (λ (x : ℚ). p.0 <ℚ x) here h) (subst (λ (x : ℚ). IsAffine f p.0 x k) here line)
      (from_point (piece.start, so_far) piece.rate sum.between later rest.between at_start (≤ℚ_of_lt _ _ start_0) end_later line'
      (over_piece so_far piece later s goes_on (piece_end later last) (≤ℚ_of_lt _ _ end_later) (≤ℚ_refl _) ∙ sym sum_is) (StartsRise-rest piece later s)
      (λ q. next_goes_on so_far sum.between piece later s goes_on (≤ℚ_of_lt _ _ w.1) sum_is q) rest.first)))
      (λ (w : (lt_ℚ piece.start last ≡ false) × (last ≤ℚ piece.start)).
      let here : piece_end (piece ∷ later) last ≡ last = min_is_right piece.start last w.1 in
      subst (λ (l : List Point). FollowsFrom f last p l) (sym (after_0 last so_far (zero_lt p.0 last n (subst (λ (x : ℚ). p.0 <ℚ x) here h)))
      ∙ cumulative_done passes so_far piece later last points w.0 g)
      (goes k at (subst (λ (x : ℚ). p.0 <ℚ x) here h) (subst (λ (x : ℚ). IsAffine f p.0 x k) here line) (ends (subst (λ (x : ℚ). f x ≡ so_far) here e) refl)))
      (lt_ℚ_cases piece.start last)
    where
      zero_lt : (x y : ℚ) → 0ℚ ≤ℚ x → x <ℚ y → 0ℚ <ℚ y
      zero_lt x y h k = linear_lt (x ∷ y ∷ []) (le h ∷ lt k ∷ []) (search reading_of) tt

      later_than : (piece : Piece) (later : List Piece) → StartsRise (piece ∷ later) → (next : Piece) (rest : List Piece) → later ≡ next ∷ rest → piece.start <ℚ next.start
      later_than piece [] s next rest q = absurd (cc)
      later_than piece (x ∷ xs) s next rest q = subst (λ (y : ℚ). piece.start <ℚ y) (first_of x xs next rest q) s.0

-- ---- from time 0 on
pub follows-values_rise : (f : ℚ → ℚ) (last : ℚ) (p : Point) (rest : List Point) → 0ℚ ≤ℚ p.0 → NeverFalls f → FollowsFrom f last p rest → ValuesRise (p ∷ rest)
follows-values_rise f last p [] n rises w = tt
follows-values_rise f last p (q ∷ rest) n rises (goes k e h line later) = (
  subst (λ (x : ℚ). x ≤ℚ q.1) e (subst (λ (x : ℚ). f p.0 ≤ℚ x) (follows-point f last q rest later) (rises p.0 q.0 n (≤ℚ_of_lt _ _ h))),
  follows-values_rise f last q rest (≤ℚ_trans _ _ _ n (≤ℚ_of_lt _ _ h)) rises later,
)

module _ (passes : Passing) (pieces : List Piece) (last : ℚ) (good : ArePieces pieces) (from_0 : 0ℚ ≤ℚ last) where
  begins_0 : supplied pieces 0ℚ ≡ 0ℚ
  begins_0 = supplied-begins pieces good

  flat_0 : (t : ℚ) → 0ℚ ≡ 0ℚ +ℚ 0ℚ *ℚ (t -ℚ 0ℚ)
  flat_0 t = linear_eq (t ∷ []) [] (search reading_of) tt tt

  -- before the first start nothing is supplied
  none_up_to : (end : ℚ) → NextFrom pieces end → IsAffine (λ t. supplied pieces t) 0ℚ end 0ℚ
  none_up_to end n = record {
    line = λ t i j. supplied-none pieces t (StartsRise-pieces pieces good) (next_up_to pieces t end j n) ∙ flat_0 t ∙ ap (λ (x : ℚ). x +ℚ 0ℚ *ℚ (t -ℚ 0ℚ)) (sym begins_0);
  }

  goes_from_0 : (l : List Piece) → l ≡ pieces → GoesOn passes (λ t. supplied pieces t) last 0ℚ l
  goes_from_0 [] e = tt
  goes_from_0 (piece ∷ later) e = λ t i. subst (λ (l : List Piece). supplied l t ≡ 0ℚ +ℚ supplied (piece ∷ later) t) e (zero_plus (supplied (piece ∷ later) t))

  starts_nn : (l : List Piece) (piece : Piece) (later : List Piece) → l ≡ pieces → l ≡ piece ∷ later → 0ℚ ≤ℚ piece.start
  starts_nn l piece later e f = let a : ArePieces (piece ∷ later) = subst (λ (m : List Piece). ArePieces m) (sym e ∙ f) good in a.starts 0 piece refl

  -- the first piece starts after time 0, or there is none
  later_start : (points : List Point) → 0ℚ <ℚ piece_end pieces last → cumulative_from passes 0ℚ pieces last ≡ Ok points → FollowsFrom (λ t. supplied pieces t) last (0ℚ, 0ℚ) points
  later_start points h g = from_point passes (λ t. supplied pieces t) last (0ℚ, 0ℚ) 0ℚ 0ℚ pieces points begins_0 (≤ℚ_refl 0ℚ) h (none_up_to (piece_end pieces last) (end_next pieces last))
      (supplied-none pieces (piece_end pieces last) (StartsRise-pieces pieces good) (end_next pieces last)) (StartsRise-pieces pieces good) (λ _. goes_from_0 pieces refl) g

  at_start : (piece : Piece) (later : List Piece) (points : List Point) → piece ∷ later ≡ pieces → piece.start ≡ 0ℚ → 0ℚ <ℚ last
      → cumulative_from passes 0ℚ (piece ∷ later) last ≡ Ok points
      → FollowsFrom (λ t. supplied pieces t) last (0ℚ, 0ℚ) points
  at_start piece later points e z h g = ⊎_elim
      (λ (w : (lt_ℚ piece.start last ≡ true) × (piece.start <ℚ last)).
      let rise : StartsRise (piece ∷ later) = subst StartsRise (sym e) (StartsRise-pieces pieces good) in
      let on : GoesOn passes (λ t. supplied pieces t) last 0ℚ (piece ∷ later) = goes_from_0 (piece ∷ later) e in
      let g' = cumulative_more passes 0ℚ piece later last points w.0 g in
      let sum = then_ok (with_piece passes 0ℚ piece (piece_end later last)) _ points g' in
      let rest = then_ok (cumulative_from passes sum.between later last) _ points sum.next in
      let end_later : piece.start <ℚ piece_end later last = end_after piece.start later last w.1 (start_later piece later rise) in
      let sum_is = with_piece-is passes (λ t. supplied pieces t) last 0ℚ piece (piece_end later last) sum.between sum.first in
      subst (λ (l : List Point). FollowsFrom (λ t. supplied pieces t) last (0ℚ, 0ℚ) l) (ap (λ (l : List Point). l ++ rest.between) (sym (at_0 piece.start 0ℚ z)) ∙ same_Ok _ _ rest.next)
      (from_point passes (λ t. supplied pieces t) last (0ℚ, 0ℚ) piece.rate sum.between later rest.between begins_0 (≤ℚ_refl 0ℚ) (subst (λ (x : ℚ). x <ℚ piece_end later last) z end_later)
      (subst (λ (x : ℚ). IsAffine (λ t. supplied pieces t) x (piece_end later last) piece.rate) z (record {
        line = λ t i j. over_piece passes (λ t. supplied pieces t) last 0ℚ piece later rise on t i j
            ∙ ap (λ (x : ℚ). x +ℚ piece.rate *ℚ (t -ℚ piece.start)) (sym (ap (λ (x : ℚ). supplied pieces x) z ∙ begins_0));
      }))
      (over_piece passes (λ t. supplied pieces t) last 0ℚ piece later rise on (piece_end later last) (≤ℚ_of_lt _ _ end_later) (≤ℚ_refl _) ∙ sym sum_is) (StartsRise-rest piece later rise)
      (λ q. next_goes_on passes (λ t. supplied pieces t) last 0ℚ sum.between piece later rise on (≤ℚ_of_lt _ _ w.1) sum_is q) rest.first))
      (λ (w : (lt_ℚ piece.start last ≡ false) × (last ≤ℚ piece.start)). absurd (not_both_ℚ 0ℚ last h (subst (λ (x : ℚ). last ≤ℚ x) z w.1)))
      (lt_ℚ_cases piece.start last)
    where
      start_later : (piece : Piece) (later : List Piece) → StartsRise (piece ∷ later) → (next : Piece) (rest : List Piece) → later ≡ next ∷ rest → piece.start <ℚ next.start
      start_later piece [] s next rest q = absurd (cc)
      start_later piece (x ∷ xs) s next rest q = subst (λ (y : ℚ). piece.start <ℚ y) (first_of passes (λ t. supplied pieces t) last x xs next rest q) s.0

  from_start : (l : List Piece) (points : List Point) → l ≡ pieces → 0ℚ <ℚ last → cumulative_from passes 0ℚ l last ≡ Ok points → FollowsFrom (λ t. supplied pieces t) last (0ℚ, 0ℚ) points
  from_start [] points e h g = later_start points (subst (λ (l : List Piece). 0ℚ <ℚ piece_end l last) e h) (ap (λ (l : List Piece). cumulative_from passes 0ℚ l last) (sym e) ∙ g)
  from_start (piece ∷ later) points e h g = ⊎_elim
      (λ (l : 0ℚ <ℚ piece.start). later_start points (subst (λ (l : List Piece). 0ℚ <ℚ piece_end l last) e (both piece.start last l h))
      (ap (λ (l : List Piece). cumulative_from passes 0ℚ l last) (sym e) ∙ g))
      (λ (l : piece.start ≤ℚ 0ℚ). at_start piece later points e (≤ℚ_antisymm _ _ l (starts_nn (piece ∷ later) piece later e refl)) h g)
      (lt_or_le_ℚ 0ℚ piece.start)
    where
      both : (x y : ℚ) → 0ℚ <ℚ x → 0ℚ <ℚ y → 0ℚ <ℚ min_ℚ x y
      both x y h k = min_keeps (λ (z : ℚ). 0ℚ <ℚ z) x y h k

  -- without further pieces there is one point
  at_once : (l : List Piece) (points : List Point) → l ≡ pieces → last ≡ 0ℚ → cumulative_from passes 0ℚ l last ≡ Ok points → FollowsFrom (λ t. supplied pieces t) last (0ℚ, 0ℚ) points
  at_once [] points e z g = subst (λ (l : List Point). FollowsFrom (λ t. supplied pieces t) last (0ℚ, 0ℚ) l) (sym (at_0 last 0ℚ z) ∙ same_Ok _ _ g) (ends begins_0 (sym z))
  at_once (piece ∷ later) points e z g = ⊎_elim
      (λ (w : (lt_ℚ piece.start last ≡ true) × (piece.start <ℚ last)).
      absurd (not_both_ℚ piece.start last w.1 (subst (λ (x : ℚ). x ≤ℚ piece.start) (sym z) (starts_nn (piece ∷ later) piece later e refl))))
      (λ (w : (lt_ℚ piece.start last ≡ false) × (last ≤ℚ piece.start)).
      subst (λ (l : List Point). FollowsFrom (λ t. supplied pieces t) last (0ℚ, 0ℚ) l)
      (sym (at_0 last 0ℚ z) ∙ cumulative_done passes 0ℚ piece later last points w.0 g) (ends begins_0 (sym z)))
      (lt_ℚ_cases piece.start last)

  -- if no operation passes, the curve is the amount supplied by the pieces up to the last time
  pub checked_cumulative-is : (points : List Point) → checked_cumulative passes pieces last ≡ Ok points → IsCumulative pieces last points
  unfolding checked_cumulative
  checked_cumulative-is points e =
      let rest = then_ok (cumulative_from passes 0ℚ pieces last) _ points e in
      let w : FollowsFrom (λ t. supplied pieces t) last (0ℚ, 0ℚ) rest.between = ⊎_elim
      (λ (l : 0ℚ <ℚ last). from_start pieces rest.between refl l rest.first)
      (λ (l : last ≤ℚ 0ℚ). at_once pieces rest.between refl (≤ℚ_antisymm last 0ℚ l from_0) rest.first)
      (lt_or_le_ℚ 0ℚ last) in
      let c : IsCurve ((0ℚ, 0ℚ) ∷ rest.between) = follows-curve (λ t. supplied pieces t) last (0ℚ, 0ℚ) rest.between refl w in
      subst (λ (l : List Point). IsCumulative pieces last l) (same_Ok _ _ rest.next) (record {
        curve = c;
        begins = follows-values (λ t. supplied pieces t) last (0ℚ, 0ℚ) rest.between 0ℚ refl w (≤ℚ_refl 0ℚ) from_0 ∙ begins_0;
        rises = NeverFalls-value ((0ℚ, 0ℚ) ∷ rest.between) c (follows-values_rise (λ t. supplied pieces t) last (0ℚ, 0ℚ) rest.between (≤ℚ_refl 0ℚ) (supplied-rises pieces good) w);
        values = λ t u. follows-values (λ t. supplied pieces t) last (0ℚ, 0ℚ) rest.between t refl w u.0 u.1;
        after = λ t h. value-follows_past (λ t. supplied pieces t) last (0ℚ, 0ℚ) rest.between t w h;
      })
