use Rattle.std.proofs.Common.{List, sym, subst}
use Rattle.nf_routes_links.proofs.Common.{Point, IsCurve}
use Rattle.nf_routes_links.proofs.composing.copied.Goals as goal

pub of_points-requires : goal.of_points-requires
of_points-requires c = subst (λ (l : List Point). IsCurve l) (sym c.in_ok-points.ensures) c.as_points.ensures.curve
