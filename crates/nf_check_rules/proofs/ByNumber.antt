-- Curves by their numbers.
use Rattle.std.proofs.Common.{◌≡◌, ◌≢◌, ℕ, ◌+◌, ◌<◌, List, [], ◌∷◌, ◌++◌, take, length, map, get_or, Some, Option, slice_get, unwrap_or, ⊎_elim, true}
use Rattle.std.proofs.Common.{false, eqb, refl, sym, ap, subst, ◌∙◌, arith}
use Rattle.nf_check_rules.proofs.Common.{take_more, slice_get_read, slice_get_within, get_or_from_slice_get, Point, IsCurve, points_at, points_of}
use Rattle.nf_check_rules.proofs.Common.{loaded_at, Grown, seen_trace, Trace, loaded_of, Loaded, slice_get-image, points_of_each, loadings_of}
use Rattle.std.proofs.lemmas.Bool.Decides.{eqb_tells}
use Rattle.nf_model.specs.Equilibrium as model
use Rattle.nf_load_def.specs.Loading as lists
use Rattle.nf_check_def.specs.CheckList as lists_of_check

module _ (curves : List Grown) (k : ℕ) (curve : Grown) (is : slice_get curves k ≡ Some curve) where
  pub curve_there : curve.points ≡ points_at (points_of_each curves) k
  curve_there = sym (ap (λ (o : Option (List Point)). unwrap_or o []) (slice_get-image (λ (c : Grown). c.points) curves k curve is))

-- one more of the first curves
pub curves_more : (curves : List Grown) (k : ℕ) (curve : Grown) → slice_get curves k ≡ Some curve
    → take (k + 1) (points_of_each curves) ≡ take k (points_of_each curves) ++ points_at (points_of_each curves) k ∷ []
curves_more curves k curve is =
    let there : slice_get (points_of_each curves) k ≡ Some curve.points = slice_get-image (λ (c : Grown). c.points) curves k curve is in
    take_more (points_of_each curves) k [] (slice_get_within (points_of_each curves) k curve.points there)
    ∙ ap (λ (x : List Point). take k (points_of_each curves) ++ x ∷ []) (get_or_from_slice_get (points_of_each curves) k curve.points [] there ∙ curve_there curves k curve is)

module _ (traces : List Trace) (k : ℕ) (trace : Trace) (is : slice_get traces k ≡ Some trace) where
  pub trace_there : slice_get (map seen_trace traces) k ≡ Some (seen_trace trace)
  trace_there = slice_get-image seen_trace traces k trace is

  pub trace_same : seen_trace trace ≡ lists_of_check.trace_of (map seen_trace traces) k
  trace_same = sym (ap (λ (o : Option model.Trace). unwrap_or o (record { points = []; rates = [] })) trace_there)

  pub trace_points : trace.curve.points ≡ points_at (points_of (map seen_trace traces)) k
  trace_points = sym (ap (λ (o : Option (List Point)). unwrap_or o []) (slice_get-image (λ (t : model.Trace). t.points) (map seen_trace traces) k (seen_trace trace) trace_there))

module _ (loaded : List Loaded) (k : ℕ) (one : Loaded) (is : slice_get loaded k ≡ Some one) where
  pub loaded_there : loaded_of one ≡ loaded_at (loadings_of loaded) k
  loaded_there = sym (ap (λ (o : Option lists.Loaded). unwrap_or o (record { queue = []; outflow = []; exit = [] })) (slice_get-image loaded_of loaded k one is))

-- ---- one more of the first ones
one_more : (P : ℕ → Type 0) (i : ℕ) → ((k : ℕ) → k < i → P k) → P i → (k : ℕ) → k < i + 1 → P k
one_more P i all here k h = ⊎_elim
    (λ (w : (eqb k i ≡ true) × (k ≡ i)). subst P (sym w.1) here)
    (λ (w : (eqb k i ≡ false) × (k ≢ i)). all k (let n = w.1 in omega arith))
    (eqb_tells k i)

pub next_curve : (P : List Point → Type 0) (curves : List Grown) (i : ℕ) (curve : Grown) → i < length curves → curve ≡ get_or curves i curve
    → P curve.points → ((k : ℕ) → k < i → P (points_at (points_of_each curves) k))
    → (k : ℕ) → k < i + 1 → P (points_at (points_of_each curves) k)
next_curve P curves i curve h is c all = one_more (λ k. P (points_at (points_of_each curves) k)) i all
    (subst P (curve_there curves i curve (slice_get_read curves _ i curve refl h is)) c)

pub next_trace : (traces : List Trace) (i : ℕ) (trace : Trace) → i < length traces → trace ≡ get_or traces i trace → IsCurve trace.curve.points
    → ((k : ℕ) → k < i → IsCurve (points_at (points_of (map seen_trace traces)) k))
    → (k : ℕ) → k < i + 1 → IsCurve (points_at (points_of (map seen_trace traces)) k)
next_trace traces i trace h is c all = one_more (λ k. IsCurve (points_at (points_of (map seen_trace traces)) k)) i all
    (subst (λ (l : List Point). IsCurve l) (trace_points traces i trace (slice_get_read traces _ i trace refl h is)) c)
