-- The lesser of two curves, from one time to the next.
use Rattle.std.proofs.Common.{◌≡◌, List, [], ◌∷◌, ◌++◌, refl, sym, ap, ◌∙◌, append_assoc, Ok, Err}
use Rattle.nf_curve.proofs.Common.{ℚ, Passing, Part, PassedAt, Checked, at_part, ◌>>=◌, with_front, Point, Sides, sides_at, is_crossed, least_point}
use Rattle.nf_curve.proofs.Common.{crossing, least_after, least_from, lesser_step}
use Rattle.nf_curve.proofs.Exits.{after_err, after_ok, was_ok, err_before, ok_before, front_err, front_more}

more_points : (between rest : List Point) (p : Point) (r : Checked (List Point)) → (r >>= λ rest. Ok (between ++ p ∷ rest)) ≡ (r >>= λ rest. Ok ((between ++ p ∷ []) ++ rest))
more_points between rest p (Ok ys) = ap Ok (sym (append_assoc between (p ∷ []) ys))
more_points between rest p (Err q) = refl

module _ (passes : Passing) (part : Part) (left right : List Point) where
  -- the first time
  pub first_stops : (time : ℚ) (times all : List ℚ) → all ≡ time ∷ times → (p : PassedAt ℚ) → at_part part (sides_at passes left right time) ≡ Err p
      → at_part part (least_from passes left right all) ≡ Err p
  first_stops time times all a p e = ap (λ (l : List ℚ). at_part part (least_from passes left right l)) a ∙ after_err part (sides_at passes left right time) _ p e

  pub first_goes : (time : ℚ) (times all : List ℚ) → all ≡ time ∷ times → (first : Sides) → at_part part (sides_at passes left right time) ≡ Ok first
      → with_front (least_point first ∷ []) (least_after passes left right first times) ≡ least_from passes left right all
  first_goes time times all a first e =
      one (least_after passes left right first times)
      ∙ sym (ap (λ (l : List ℚ). least_from passes left right l) a ∙ ap (λ (r : Checked Sides). r >>= λ first. least_after passes left right first
      times >>= λ rest. Ok (least_point first ∷ rest)) (was_ok part (sides_at passes left right time) first e))
    where
      one : (r : Checked (List Point)) → with_front (least_point first ∷ []) r ≡ (r >>= λ rest. Ok (least_point first ∷ rest))
      one (Ok ys) = refl
      one (Err q) = refl

  -- each later time
  module _ (front : List Point) (before : Sides) (time : ℚ) (times : List ℚ) (all : Checked (List Point))
      (so_far : with_front front (least_after passes left right before (time ∷ times)) ≡ all) where
    pub sides_stop : (p : PassedAt ℚ) → at_part part (sides_at passes left right time) ≡ Err p → at_part part all ≡ Err p
    sides_stop p e = ap (at_part part) (sym so_far) ∙ front_err part front _ p (after_err part (sides_at passes left right time) _ p e)

    module _ (now : Sides) (is_now : at_part part (sides_at passes left right time) ≡ Ok now) where
      pub step_stops : (p : PassedAt ℚ) → at_part part (lesser_step passes front before now) ≡ Err p → at_part part all ≡ Err p
      step_stops p e = ap (at_part part) (sym so_far) ∙ front_err part front _ p (after_ok part (sides_at passes left right time) _ now is_now
          ∙ after_err part (crossing passes (is_crossed before now) before now) _ p
          (err_before part (crossing passes (is_crossed before now) before now) (λ (between : List Point). front ++ (between ++ least_point now ∷ [])) p e))

      pub step_goes : (points : List Point) → at_part part (lesser_step passes front before now) ≡ Ok points → with_front points (least_after passes left right now times) ≡ all
      step_goes points e =
          let w = ok_before part (crossing passes (is_crossed before now) before now) (λ (between : List Point). front ++ (between ++ least_point now ∷ [])) points e in
          ap (λ (l : List Point). with_front l (least_after passes left right now times)) (sym w.2)
          ∙ sym (front_more front (w.0 ++ least_point now ∷ []) (least_after passes left right now times))
          ∙ ap (with_front front) (sym (more_points w.0 [] (least_point now) (least_after passes left right now times)))
          ∙ ap (λ (r : Checked (List Point)). with_front front (r >>= λ between. least_after passes left right now times >>= λ rest. Ok (between ++ least_point now ∷ rest))) (sym w.1)
          ∙ ap (λ (r : Checked Sides). with_front front (r >>= λ now. crossing passes
          (is_crossed before now) before now >>= λ between. least_after passes left right now times >>= λ rest. Ok (between ++ least_point now ∷ rest)))
          (sym (was_ok part (sides_at passes left right time) now is_now))
          ∙ so_far
