-- The label of the sink.
use Rattle.std.proofs.Common.{◌≡◌, ℕ, ◌<◌, List, length, get_or, Option, Some, slice_get, unwrap_or, refl, ap, subst, arith}
use Rattle.std.proofs.lemmas.Option.{slice_get_read}
use Rattle.nf_rational.specs.Rational.{ℚ}
use Rattle.nf_rational.specs.Operations.{0ℚ}
use Rattle.nf_model.specs.Entries.{number_at}
use Rattle.nf_model.specs.Walk.{IsLeastTransit}
use Rattle.nf_model.specs.Network.{Network, hops}
use Rattle.nf_model.specs.Phases.{AreStartLabels}

pub sink_label : (net : Network) (labels : List ℚ) (v : ℕ) (label : ℚ) → AreStartLabels net labels → v ≡ net.sink → v < net.nodes
    → label ≡ get_or labels v label → IsLeastTransit (hops net) net.source net.sink label
sink_label net labels v label a e below is =
    let within : v < length labels = omega (arith, a.count) in
    let read : slice_get labels v ≡ Some label = slice_get_read labels _ v label refl within is in
    let value : number_at labels v ≡ label = ap (λ (o : Option ℚ). unwrap_or o 0ℚ) read in
    subst (λ (w : ℕ). IsLeastTransit (hops net) net.source w label) e
    (subst (λ (q : ℚ). IsLeastTransit (hops net) net.source v q) value (a.each v below))
