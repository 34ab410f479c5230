-- A pattern of sets of a network that is read.
use Rattle.std.proofs.Common.{ℕ}
use Rattle.nf_thin_one.proofs.Common.{Has, unbounded, Sets, Pattern, IsPattern, Named, IsNamed, IsPatternIn}
use Rattle.nf_thin_laws.specs.ActiveLinks.{AreSets}

pub pattern_in : (n : Named) (sets : Sets) (pattern : Pattern) → IsNamed n → AreSets n.net sets → ((e : ℕ) → Has (unbounded n.net) e → Has sets.resetting e → ⊥)
    → IsPattern sets (unbounded n.net) pattern → IsPatternIn n.net sets pattern
pattern_in n sets pattern named sets_are bounded is = record {
  network = named.network;
  sets_are = sets_are;
  bounded = bounded;
  pattern_is = is;
}
