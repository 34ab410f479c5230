-- The ends of curves, and the curves of a link in a flow.
use Rattle.std.proofs.Common.{◌≡◌, ℕ, zero, suc, ◌+◌, ◌<◌, List, [], ◌∷◌, length, get_or, refl, sym, ap, ◌∙◌, arith, Option, Some, None, slice_get, map}
use Rattle.nf_resume.proofs.Common.{ℚ, 0ℚ, Passing, Point, Link, points_at, Grown, seen_trace, Trace, value_at_end, OfLink, links_with, cut_link}
use Rattle.nf_resume.proofs.Common.{slice_get-image, of_link, links_with-at, points_of_each, cut_ends}
use Rattle.std.specs.List.{last_or}
use Rattle.std.specs.Option.{option_map_or}
use Rattle.std.proofs.lemmas.Option.{slice_get_read}
use Rattle.nf_phase_laws.proofs.WellRun.{points_is}

last_is : (points : List Point) (k : ℕ) (p : Point) → slice_get points k ≡ Some p → k + 1 ≡ length points → last_or None points ≡ Some p
last_is [] k p e n = absurd (cc)
last_is (x ∷ []) zero p e n = let same : x ≡ p = cc in ap (λ (z : Point). Some z) same
last_is (x ∷ []) (suc k) p e n = absurd (omega arith)
last_is (x ∷ y ∷ rest) zero p e n = absurd (omega arith)
last_is (x ∷ y ∷ rest) (suc k) p e n = last_is (y ∷ rest) k p e (omega arith)

-- the value of the last point
pub end_is : (points : List Point) (k : ℕ) (p : Point) → slice_get points k ≡ Some p → k + 1 ≡ length points → p.1 ≡ value_at_end points
end_is points k p e n = sym (ap (λ (o : Option Point). option_map_or (λ (p : Point). p.1) o 0ℚ) (last_is points k p e n))

-- an entry of a list of curves
pub curve_there : (curves : List Grown) (i : ℕ) (curve : Grown) → i < length curves → curve ≡ get_or curves i curve → slice_get (points_of_each curves) i ≡ Some curve.points
curve_there curves i curve h is = slice_get-image (λ (c : Grown). c.points) curves i curve (slice_get_read curves _ i curve refl h is)

pub curve_at_is : (curves : List Grown) (i : ℕ) (curve : Grown) → i < length curves → curve ≡ get_or curves i curve → points_at (points_of_each curves) i ≡ curve.points
curve_at_is curves i curve h is = points_is (points_of_each curves) i curve.points (curve_there curves i curve h is)

-- a link with its curves
pub link_there : (links : List Link) (inflows outflows : List Trace) (queues : List Grown) (e : ℕ) (link : Link) (inflow outflow : Trace) (queue : Grown) → slice_get links e ≡ Some link
    → e < length inflows → inflow ≡ get_or inflows e inflow → e < length outflows → outflow ≡ get_or outflows e outflow → e < length queues → queue ≡ get_or queues e queue
    → slice_get (links_with links (map seen_trace inflows) (map seen_trace outflows) (points_of_each queues)) e ≡ Some (of_link link (seen_trace inflow) (seen_trace outflow) queue.points)
link_there links inflows outflows queues e link inflow outflow queue at hi i ho o hq q =
    links_with-at links (map seen_trace inflows) (map seen_trace outflows) (points_of_each queues) e link (seen_trace inflow) (seen_trace outflow) queue.points at
    (slice_get-image seen_trace inflows e inflow (slice_get_read inflows _ e inflow refl hi i))
    (slice_get-image seen_trace outflows e outflow (slice_get_read outflows _ e outflow refl ho o))
    (curve_there queues e queue hq q)

-- The same with its curves cut at the labels of its ends.
pub link_cut : (passes : Passing) (labels : List (List Point)) (links : List Link) (inflows outflows : List Trace) (queues : List Grown) (e : ℕ)
    (link : Link) (inflow outflow : Trace) (queue : Grown) (tail head : ℚ)
    → slice_get links e ≡ Some link → tail ≡ value_at_end (points_at labels link.tail) → head ≡ value_at_end (points_at labels link.head)
    → e < length inflows → inflow ≡ get_or inflows e inflow → e < length outflows → outflow ≡ get_or outflows e outflow → e < length queues → queue ≡ get_or queues e queue
    → (entry : OfLink) × (slice_get (links_with links (map seen_trace inflows) (map seen_trace outflows) (points_of_each queues)) e ≡ Some entry)
    × (cut_ends passes tail head inflow.curve.points outflow.curve.points queue.points ≡ cut_link passes labels entry)
link_cut passes labels links inflows outflows queues e link inflow outflow queue tail head at t h hi i ho o hq q = (
  of_link link (seen_trace inflow) (seen_trace outflow) queue.points,
  link_there links inflows outflows queues e link inflow outflow queue at hi i ho o hq q,
  ap (λ (x : ℚ). cut_ends passes x head inflow.curve.points outflow.curve.points queue.points) t
      ∙ ap (λ (x : ℚ). cut_ends passes (value_at_end (points_at labels link.tail)) x inflow.curve.points outflow.curve.points queue.points) h,
)
