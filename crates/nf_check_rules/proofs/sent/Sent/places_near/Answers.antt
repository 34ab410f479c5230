use Rattle.std.proofs.Common.{arith}
use Rattle.nf_check_rules.proofs.Common.{place_within}
use Rattle.nf_check_rules.proofs.sent.Sent.places_near.Goals as goal

pub returns-clause-within : goal.returns-clause-within
returns-clause-within c =
    let a = place_within c.args.time c.args.self.now.taken.points in
    let b = place_within c.args.time c.args.self.now.exits.points in
    let d = place_within c.args.time c.args.self.now.labels.points in
    let taken = rw c.as_points.ensures.points at c.place_near.ensures in
    let exits = rw c.as_points-2.ensures.points at c.place_near-2.ensures in
    let labels = rw c.as_points-3.ensures.points at c.place_near-3.ensures in
    record { taken = omega (arith, taken); exits = omega (arith, exits); labels = omega (arith, labels) }
