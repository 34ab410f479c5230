-- The listing of a network's patterns, for a search.
use Rattle.std.proofs.Common.{◌≡◌, subst, Option, Some, None, IfSome}
use Rattle.nf_thin_rank.proofs.Common.{Network, IsNetwork, Sets, Pattern, IsListedIn, Question, Given, IsListedBy, Enumerates, IsPatternIn, AreSetsOf}
use Rattle.nf_thin_rank.proofs.Common.{AsksOf, question_of}

-- a listed pattern is one of the network's
pub listed_in : (net : Network) (sets : Sets) (q : Question) (pattern : Pattern) → IsNetwork net → AreSetsOf net sets → q ≡ question_of net sets q.base
    → IsListedBy q pattern → IsPatternIn net sets pattern
listed_in net sets q pattern good sets_are asked listed = record {
  network = good;
  sets_are = sets_are.sets_are;
  bounded = sets_are.bounded;
  pattern_is = (let l : IsListedBy (question_of net sets q.base) pattern = subst (λ (x : Question). IsListedBy x pattern) asked listed in l.states);
}

-- The first enumerated pattern is listed.
pub first_asked : (net : Network) (sets : Sets) (given after : Given) → AsksOf net sets given
    → (found : Option Pattern) → Enumerates given found after → IfSome found (λ (first : Pattern). IsListedIn net sets first)
first_asked net sets given after asks (Some first) gives = subst (λ (q : Question). IsListedBy q first) asks.asked gives.0.listed
first_asked net sets given after asks None gives = tt
