-- The lists of a flow extended by a tail, entry by entry.
use Rattle.std.proofs.Common.{◌≡◌, ℕ, zero, suc, List, [], ◌∷◌, ◌++◌, length, ap, refl, ◌∙◌, arith, Some, slice_get}
use Rattle.nf_forever_laws.proofs.Common.{none-some, same_Some, ℚ, number_at, Point, Link, hop_of, slack, Trace, extended_value, labels_then, queue_then, with_end}
use Rattle.nf_forever_laws.proofs.Common.{trace_with_end, labels_with_end, traces_with_end, queues_with_end}
use Rattle.nf_rational.specs.Signs.{is_positive}

pub labels_then_at : (w : ℚ) (slopes : List ℚ) (curves : List (List Point)) (v : ℕ) (r : ℚ) (ps : List Point) → slice_get slopes v ≡ Some r → slice_get curves v ≡ Some ps
    → slice_get (labels_then w slopes curves) v ≡ Some (extended_value ps w r)
labels_then_at w [] curves v r ps h k = absurd (none-some r h)
labels_then_at w (q ∷ slopes) [] v r ps h k = absurd (none-some ps k)
labels_then_at w (q ∷ slopes) (d ∷ curves) zero r ps h k =
    ap (λ (r : ℚ). Some (extended_value d w r)) (same_Some q r h) ∙ ap (λ (d : List Point). Some (extended_value d w r)) (same_Some d ps k)
labels_then_at w (q ∷ slopes) (d ∷ curves) (suc v) r ps h k = labels_then_at w slopes curves v r ps h k

pub labels_with_end_at : (until : ℚ) (labels : List ℚ) (curves : List (List Point)) (v : ℕ) (x : ℚ) (ps : List Point) → slice_get labels v ≡ Some x → slice_get curves v ≡ Some ps
    → slice_get (labels_with_end until labels curves) v ≡ Some (ps ++ (until, x) ∷ [])
labels_with_end_at until [] curves v x ps h k = absurd (none-some x h)
labels_with_end_at until (y ∷ labels) [] v x ps h k = absurd (none-some ps k)
labels_with_end_at until (y ∷ labels) (d ∷ curves) zero x ps h k =
    ap (λ (x : ℚ). Some (d ++ (until, x) ∷ [])) (same_Some y x h) ∙ ap (λ (d : List Point). Some (d ++ (until, x) ∷ [])) (same_Some d ps k)
labels_with_end_at until (y ∷ labels) (d ∷ curves) (suc v) x ps h k = labels_with_end_at until labels curves v x ps h k

pub labels_with_end-length : (until : ℚ) (labels : List ℚ) (curves : List (List Point)) (n : ℕ) → length labels ≡ n → length curves ≡ n → length (labels_with_end until labels curves) ≡ n
labels_with_end-length until [] curves n h k = h
labels_with_end-length until (y ∷ labels) [] n h k = k
labels_with_end-length until (y ∷ labels) (d ∷ curves) zero h k = absurd (omega arith)
labels_with_end-length until (y ∷ labels) (d ∷ curves) (suc n) h k = ap suc (labels_with_end-length until labels curves n (omega arith) (omega arith))

pub labels_then-length : (w : ℚ) (slopes : List ℚ) (curves : List (List Point)) (n : ℕ) → length slopes ≡ n → length curves ≡ n → length (labels_then w slopes curves) ≡ n
labels_then-length w [] curves n h k = h
labels_then-length w (y ∷ slopes) [] n h k = k
labels_then-length w (y ∷ slopes) (d ∷ curves) zero h k = absurd (omega arith)
labels_then-length w (y ∷ slopes) (d ∷ curves) (suc n) h k = ap suc (labels_then-length w slopes curves n (omega arith) (omega arith))

module _ (w : ℚ) (slopes labels : List ℚ) where
  -- the trace of a link at one of its ends
  abbrev pub trace_new : (Link → ℕ) → Link → ℚ → Trace → Trace
  trace_new end link flow trace = trace_with_end (is_positive (number_at slopes (end link))) trace (number_at labels (end link), extended_value trace.points w flow)

  abbrev pub queue_new : Link → List Point → List Point
  queue_new link points = with_end (is_positive (number_at slopes link.tail)) points (number_at labels link.tail, queue_then link.capacity (slack labels (hop_of link)))

  pub traces_at : (end : Link → ℕ) (links : List Link) (flows : List ℚ) (traces : List Trace) (e : ℕ) (link : Link) (x : ℚ) (t : Trace)
      → slice_get links e ≡ Some link → slice_get flows e ≡ Some x → slice_get traces e ≡ Some t
      → slice_get (traces_with_end w slopes labels end links flows traces) e ≡ Some (trace_new end link x t)
  traces_at end [] flows traces e link x t h k j = absurd (none-some link h)
  traces_at end (l ∷ links) [] traces e link x t h k j = absurd (none-some x k)
  traces_at end (l ∷ links) (y ∷ flows) [] e link x t h k j = absurd (none-some t j)
  traces_at end (l ∷ links) (y ∷ flows) (d ∷ traces) zero link x t h k j = ap (λ (l : Link). Some (trace_new end l y d)) (same_Some l link h)
      ∙ ap (λ (y : ℚ). Some (trace_new end link y d)) (same_Some y x k) ∙ ap (λ (d : Trace). Some (trace_new end link x d)) (same_Some d t j)
  traces_at end (l ∷ links) (y ∷ flows) (d ∷ traces) (suc e) link x t h k j = traces_at end links flows traces e link x t h k j

  pub traces-length : (end : Link → ℕ) (links : List Link) (flows : List ℚ) (traces : List Trace) → length flows ≡ length links → length traces ≡ length links
      → length (traces_with_end w slopes labels end links flows traces) ≡ length links
  traces-length end [] flows traces k j = refl
  traces-length end (l ∷ links) [] traces k j = k
  traces-length end (l ∷ links) (y ∷ flows) [] k j = j
  traces-length end (l ∷ links) (y ∷ flows) (d ∷ traces) k j = ap suc (traces-length end links flows traces (omega arith) (omega arith))

  pub queues_at : (links : List Link) (curves : List (List Point)) (e : ℕ) (link : Link) (ps : List Point) → slice_get links e ≡ Some link → slice_get curves e ≡ Some ps
      → slice_get (queues_with_end w slopes labels links curves) e ≡ Some (queue_new link ps)
  queues_at [] curves e link ps h j = absurd (none-some link h)
  queues_at (l ∷ links) [] e link ps h j = absurd (none-some ps j)
  queues_at (l ∷ links) (d ∷ curves) zero link ps h j = ap (λ (l : Link). Some (queue_new l d)) (same_Some l link h) ∙ ap (λ (d : List Point). Some (queue_new link d)) (same_Some d ps j)
  queues_at (l ∷ links) (d ∷ curves) (suc e) link ps h j = queues_at links curves e link ps h j

  pub queues-length : (links : List Link) (curves : List (List Point)) → length curves ≡ length links → length (queues_with_end w slopes labels links curves) ≡ length links
  queues-length [] curves j = refl
  queues-length (l ∷ links) [] j = j
  queues-length (l ∷ links) (d ∷ curves) j = ap suc (queues-length links curves (omega arith))
