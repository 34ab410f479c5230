-- The sum of two inflows is an inflow, and the greatest value of its queue's curve is the greatest queue.
use Rattle.std.proofs.Common.{◌≡◌, List, [], ◌∷◌, Option, subst}
use Rattle.nf_rational.specs.Rational.{ℚ}
use Rattle.nf_rational.specs.Operations.{0ℚ, ◌+ℚ◌}
use Rattle.nf_rational.specs.Order.{◌≤ℚ◌}
use Rattle.nf_rational_laws.proofs.Polynomial.{reading_of}
use Rattle.nf_rational_laws.proofs.Linear.{le, eq, linear_le, linear_eq}
use Rattle.nf_rational_laws.proofs.Chains.{≤ℚ_refl, ≤ℚ_trans}
use Rattle.nf_model.specs.Curve.{Point, Within, IsGreatest, NeverFalls, value}
use Rattle.nf_model.specs.Queue.{IsQueue}
use Rattle.nf_model_laws.proofs.Queues.{IsQueue-unique, IsQueue-same}
use Rattle.nf_curve_def.specs.Meanings.{IsSumOf}
use Rattle.nf_load_def.specs.Loading.{Loaded}
use Rattle.nf_load_def.specs.Meanings.{IsLoaded}
use Rattle.library_callers.specs.Greatest.{IsInflow, both, IsGreatestQueue}

none_plus_none : (x a b : ℚ) → x ≡ a +ℚ b → a ≡ 0ℚ → b ≡ 0ℚ → x ≡ 0ℚ
none_plus_none x a b e f g = linear_eq (x ∷ a ∷ b ∷ []) (eq e ∷ eq f ∷ eq g ∷ []) (search reading_of depth 12) tt tt

more_plus_more : (x y a b d e : ℚ) → x ≡ a +ℚ b → y ≡ d +ℚ e → a ≤ℚ d → b ≤ℚ e → x ≤ℚ y
more_plus_more x y a b d e i j h k = linear_le (x ∷ y ∷ a ∷ b ∷ d ∷ e ∷ []) (eq i ∷ eq j ∷ le h ∷ le k ∷ []) (search reading_of depth 12) tt

pub sum_begins : (first second inflow : List Point) → IsInflow first → IsInflow second → IsSumOf first second inflow → value inflow 0ℚ ≡ 0ℚ
sum_begins first second inflow f g s = none_plus_none _ _ _ (s.values 0ℚ (≤ℚ_refl 0ℚ)) f.begins g.begins

pub sum_rises : (first second inflow : List Point) → IsInflow first → IsInflow second → IsSumOf first second inflow → NeverFalls (value inflow)
sum_rises first second inflow f g s earlier later h k =
    more_plus_more _ _ _ _ _ _ (s.values earlier h) (s.values later (≤ℚ_trans 0ℚ earlier later h k)) (f.rises earlier later h k) (g.rises earlier later h k)

pub is_greatest_queue : (transit : ℚ) (capacity : Option ℚ) (first second inflow : List Point) (last : ℚ) (loaded : Loaded) (y : ℚ)
    → IsSumOf first second inflow → IsLoaded transit capacity inflow last loaded → IsGreatest (value loaded.queue) 0ℚ last y
    → IsGreatestQueue capacity (both first second) last y
is_greatest_queue transit capacity first second inflow last loaded y s l g = record {
  taken = (g.taken.0, g.taken.1, same g.taken.0 y (subst (λ (z : ℚ). IsQueue capacity (value inflow) g.taken.0 z) g.taken.2 (l.queue_values g.taken.0 g.taken.1)));
  bound = λ time queue w q. subst (λ (z : ℚ). z ≤ℚ y)
      (IsQueue-unique capacity (both first second) time (value loaded.queue time) queue (same time (value loaded.queue time) (l.queue_values time w)) q)
      (g.bound time w);
}
  where
    same : (time queue : ℚ) → IsQueue capacity (value inflow) time queue → IsQueue capacity (both first second) time queue
    same time queue q = IsQueue-same capacity (value inflow) (both first second) time queue (λ t w. s.values t w.0) q
