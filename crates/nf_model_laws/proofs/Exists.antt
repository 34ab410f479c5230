-- A link whose inflow is a curve has a queue, an exit and an outflow at each time from 0 on.
use Rattle.std.proofs.Common.{◌≡◌, List, [], ◌∷◌, ◌++◌, ⊎_elim, Option, sym, subst, refl, ◌∙◌, append_assoc}
use Rattle.nf_model_laws.proofs.Common.{ℚ, 0ℚ, ◌+ℚ◌, ◌-ℚ◌, ◌≤ℚ◌, ◌<ℚ◌, reading_of, ≤ℚ_of_lt, lt_or_le_ℚ, less_nn, linear_eq, value, slope, IsCurve, IsQueue}
use Rattle.nf_model_laws.proofs.Common.{IsExit, IsOutflow, waiting, IsAffine, queue_after, ≤ℚ_refl, plus_zero_times}
use Rattle.nf_model_laws.proofs.Curves.{IsCurve-rises, TimesRise-rest, value-last, value-affine}
use Rattle.nf_model_laws.proofs.Queues.{IsOutflow-early, IsOutflow-from_IsQueue}
use Rattle.nf_model_laws.proofs.Step.{IsQueue-at_0, IsQueue-after}

abbrev pub HasQueue : Option ℚ → (ℚ → ℚ) → ℚ → Type 0
HasQueue capacity amount time = (queue : ℚ) × IsQueue capacity amount time queue

-- along an affine piece
over_piece : (capacity : Option ℚ) (amount : ℚ → ℚ) (start end rate time : ℚ) → IsAffine amount start end rate → HasQueue capacity amount start → start ≤ℚ time → time ≤ℚ end
    → HasQueue capacity amount time
over_piece capacity amount start end rate time line was h k = (queue_after capacity rate was.0 (time -ℚ start), IsQueue-after capacity amount start end rate was.0 time line was.1 h k)

-- after the last point the curve is affine with the slope 0
pub IsAffine-last : (front : List (ℚ × ℚ)) (p : ℚ × ℚ) (end : ℚ) → IsCurve (front ++ p ∷ []) → IsAffine (value (front ++ p ∷ [])) p.0 end 0ℚ
IsAffine-last front p end c = record {
  line = λ t h k. value-last front p t (IsCurve-rises _ c) h ∙ sym (value-last front p p.0 (IsCurve-rises _ c) (≤ℚ_refl p.0)) ∙ plus_zero_times _ (t -ℚ p.0);
}

-- from a point on, piece by piece
from_point : (capacity : Option ℚ) (rest : List (ℚ × ℚ)) (front : List (ℚ × ℚ)) (p : ℚ × ℚ) (time : ℚ) → IsCurve (front ++ p ∷ rest) → HasQueue capacity (value (front ++ p ∷ rest)) p.0
    → p.0 ≤ℚ time → HasQueue capacity (value (front ++ p ∷ rest)) time
from_point capacity [] front p time c was h = over_piece capacity _ p.0 time 0ℚ time (IsAffine-last front p time c) was h (≤ℚ_refl time)
from_point capacity (q ∷ rest) front p time c was h =
    let line : IsAffine (value (front ++ p ∷ q ∷ rest)) p.0 q.0 (slope p q) = value-affine front p q rest (IsCurve-rises _ c) in
    let order : p.0 ≤ℚ q.0 = ≤ℚ_of_lt _ _ (TimesRise-rest front p (q ∷ rest) (IsCurve-rises _ c)).0 in
    let same : (front ++ p ∷ []) ++ q ∷ rest ≡ front ++ p ∷ q ∷ rest = append_assoc front (p ∷ []) (q ∷ rest) in
    ⊎_elim
    (λ (l : time <ℚ q.0). over_piece capacity _ p.0 q.0 (slope p q) time line was h (≤ℚ_of_lt _ _ l))
    (λ (l : q.0 ≤ℚ time). subst (λ (g : List (ℚ × ℚ)). HasQueue capacity (value g) time) same
    (from_point capacity rest (front ++ p ∷ []) q time (subst (λ (g : List (ℚ × ℚ)). IsCurve g) (sym same) c)
    (subst (λ (g : List (ℚ × ℚ)). HasQueue capacity (value g) q.0) (sym same) (over_piece capacity _ p.0 q.0 (slope p q) q.0 line was order (≤ℚ_refl q.0))) l))
    (lt_or_le_ℚ time q.0)

pub HasQueue-curve : (capacity : Option ℚ) (points : List (ℚ × ℚ)) (time : ℚ) → IsCurve points → 0ℚ ≤ℚ time → HasQueue capacity (value points) time
HasQueue-curve capacity [] time c h = absurd c
HasQueue-curve capacity (p ∷ rest) time c h = from_point capacity rest [] p time c
    (0ℚ, subst (λ (t : ℚ). IsQueue capacity (value (p ∷ rest)) t 0ℚ) (sym c.0) (IsQueue-at_0 capacity (value (p ∷ rest)))) (subst (λ (t : ℚ). t ≤ℚ time) (sym c.0) h)

pub HasExit-curve : (transit : ℚ) (capacity : Option ℚ) (points : List (ℚ × ℚ)) (time : ℚ) → IsCurve points → 0ℚ ≤ℚ time → (exit : ℚ) × IsExit transit capacity (value points) time exit
HasExit-curve transit capacity points time c h =
    let q : HasQueue capacity (value points) time = HasQueue-curve capacity points time c h in
    (time +ℚ transit +ℚ waiting capacity q.0, record { queue = q.0; is_queue = q.1; is_sum = refl })

back_on : (time transit : ℚ) → time ≡ time -ℚ transit +ℚ transit
back_on time transit = linear_eq (time ∷ transit ∷ []) [] (search reading_of) tt tt

pub HasOutflow-curve : (transit : ℚ) (capacity : Option ℚ) (points : List (ℚ × ℚ)) (time : ℚ) → IsCurve points → 0ℚ ≤ℚ time
    → (out : ℚ) × IsOutflow transit capacity (value points) time out
HasOutflow-curve transit capacity points time c h = ⊎_elim
    (λ (l : time <ℚ transit). (0ℚ, IsOutflow-early transit capacity (value points) time l))
    (λ (l : transit ≤ℚ time).
    let q : HasQueue capacity (value points) (time -ℚ transit) = HasQueue-curve capacity points (time -ℚ transit) c (less_nn transit time l) in
    (value points (time -ℚ transit) -ℚ q.0, IsOutflow-from_IsQueue transit capacity (value points) (time -ℚ transit) time q.0 (back_on time transit) (less_nn transit time l) q.1))
    (lt_or_le_ℚ time transit)
