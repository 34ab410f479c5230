use Rattle.std.proofs.Common.{◌≡◌, List, map, option_map, sym, subst, ◌∙◌}
use Rattle.nf_load.proofs.Common.{map-map, ℚ, Load, passes_Q, at_part, Gives, Point, IsCurve, checked_short, Exit, queue_point, moments_of, change_of}
use Rattle.nf_load.proofs.Common.{AreKnownSlopes}
use Rattle.nf_curve.specs.declared.curve.Curve.{Curve}
use Rattle.nf_load.proofs.curves.queue_curve.Goals as goal

fused : (all : List Exit) → map queue_point (moments_of all) ≡ map (λ (one : Exit). queue_point one.waits) all
fused all = map-map queue_point (λ (one : Exit). one.waits) all

pub known_short-requires-clause-curve : goal.known_short-requires-clause-curve
known_short-requires-clause-curve c = rw (c.deref.ensures.value, c.in_ok-points.ensures) (subst IsCurve (fused c.args.all.now) c.requires.curve)

pub known_short-requires-clause-slopes : goal.known_short-requires-clause-slopes
known_short-requires-clause-slopes c =
    rw (c.deref.ensures.value, c.deref-2.ensures.value, c.in_ok-points.ensures, c.in_ok-slopes.ensures)
    (subst (λ (l : List Point). AreKnownSlopes l (map (option_map change_of) c.args.paces.now)) (fused c.args.all.now) c.requires.slopes)

pub returns : goal.returns
returns c =
    subst (λ (l : List Point). Gives {S = ℚ} {X = Curve} {A = List Point} (λ c. c.points) (λ q. q) c.known_short.result (at_part Load (checked_short passes_Q l)))
    (c.deref.ensures.value ∙ c.in_ok-points.ensures ∙ sym (fused c.args.all.now)) c.known_short.ensures
