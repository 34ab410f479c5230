use Rattle.std.proofs.Common.{◌≡◌, drop}
use Rattle.nf_curve.proofs.Common.{filter, lt_ℚ, passes_Q, each, corner_at, behind}
use Rattle.nf_curve.proofs.composed.add_corners_up.Given as goal

abbrev pub invariant-loop-corner : goal.invariant-loop-corner
invariant-loop-corner l = behind l.composed.items (each (corner_at passes_Q l.p l.q) (filter (λ c. lt_ℚ c.0 l.q.1) (drop l.corner-index l.between)))
    ≡ behind l.fn.composed.items (each (corner_at passes_Q l.p l.q) (filter (λ c. lt_ℚ c.0 l.q.1) l.between))
