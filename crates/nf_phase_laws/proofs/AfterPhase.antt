-- The lists of curves after a phase, entry by entry.
use Rattle.std.proofs.Common.{◌≡◌, ℕ, zero, suc, List, [], ◌∷◌, length, ap, refl, ◌∙◌, arith, Some, slice_get}
use Rattle.nf_phase_laws.proofs.Common.{none-some, same_Some, ℚ, Link, LinkStep, GrowingCurve, LinkCurves, curve_with, label_curves_after, curves_after}
use Rattle.nf_phase_laws.proofs.Common.{link_curves_after}

pub label_after_at : (time : ℚ) (labels slopes : List ℚ) (curves : List GrowingCurve) (v : ℕ) (x r : ℚ) (c : GrowingCurve) → slice_get labels v ≡ Some x
    → slice_get slopes v ≡ Some r → slice_get curves v ≡ Some c
    → slice_get (label_curves_after time labels slopes curves) v ≡ Some (curve_with c (time, x) r)
label_after_at time [] slopes curves v x r c h k j = absurd (none-some x h)
label_after_at time (y ∷ labels) [] curves v x r c h k j = absurd (none-some r k)
label_after_at time (y ∷ labels) (q ∷ slopes) [] v x r c h k j = absurd (none-some c j)
label_after_at time (y ∷ labels) (q ∷ slopes) (d ∷ curves) zero x r c h k j =
    ap (λ (x : ℚ). Some (curve_with d (time, x) q)) (same_Some y x h) ∙ ap (λ (r : ℚ). Some (curve_with d (time, x) r)) (same_Some q r k)
    ∙ ap (λ (c : GrowingCurve). Some (curve_with c (time, x) r)) (same_Some d c j)
label_after_at time (y ∷ labels) (q ∷ slopes) (d ∷ curves) (suc v) x r c h k j = label_after_at time labels slopes curves v x r c h k j

pub label_after-length : (time : ℚ) (labels slopes : List ℚ) (curves : List GrowingCurve) (n : ℕ) → length labels ≡ n → length slopes ≡ n
    → length curves ≡ n → length (label_curves_after time labels slopes curves) ≡ n
label_after-length time [] slopes curves n h k j = h
label_after-length time (y ∷ labels) [] curves n h k j = k
label_after-length time (y ∷ labels) (q ∷ slopes) [] n h k j = j
label_after-length time (y ∷ labels) (q ∷ slopes) (d ∷ curves) zero h k j = absurd (omega arith)
label_after-length time (y ∷ labels) (q ∷ slopes) (d ∷ curves) (suc n) h k j = ap suc (label_after-length time labels slopes curves n (omega arith) (omega arith) (omega arith))

pub link_after_at : (labels : List ℚ) (links : List Link) (curves : List LinkCurves) (steps : List LinkStep) (e : ℕ) (link : Link) (c : LinkCurves)
    (t : LinkStep) → slice_get links e ≡ Some link
    → slice_get curves e ≡ Some c → slice_get steps e ≡ Some t → slice_get (link_curves_after labels links curves steps) e ≡ Some (curves_after labels link c t)
link_after_at labels [] curves steps e link c t h k j = absurd (none-some link h)
link_after_at labels (l ∷ links) [] steps e link c t h k j = absurd (none-some c k)
link_after_at labels (l ∷ links) (d ∷ curves) [] e link c t h k j = absurd (none-some t j)
link_after_at labels (l ∷ links) (d ∷ curves) (u ∷ steps) zero link c t h k j =
    ap (λ (l : Link). Some (curves_after labels l d u)) (same_Some l link h)
    ∙ ap (λ (d : LinkCurves). Some (curves_after labels link d u)) (same_Some d c k)
    ∙ ap (λ (u : LinkStep). Some (curves_after labels link c u)) (same_Some u t j)
link_after_at labels (l ∷ links) (d ∷ curves) (u ∷ steps) (suc e) link c t h k j = link_after_at labels links curves steps e link c t h k j

pub link_after-length : (labels : List ℚ) (links : List Link) (curves : List LinkCurves) (steps : List LinkStep) → length curves ≡ length links → length steps ≡ length links
    → length (link_curves_after labels links curves steps) ≡ length links
link_after-length labels [] curves steps k j = refl
link_after-length labels (l ∷ links) [] steps k j = k
link_after-length labels (l ∷ links) (d ∷ curves) [] k j = j
link_after-length labels (l ∷ links) (d ∷ curves) (u ∷ steps) k j = ap suc (link_after-length labels links curves steps (omega arith) (omega arith))
