-- Questions of listings, and how far a listing is enumerated.
use Rattle.std.specs.Prelude.{◌≡◌, ◌⊎◌, ℕ, ◌+◌, ◌-◌, ◌^◌, ◌<◌, min, Bool, List, length, take, Option, Some, None, refl}
use Rattle.std.specs.Coded.{Coded, code_by, coded×, coded_ℕ, coded_bool, coded_list, coded_option}
use Rattle.nf_model.specs.Codes.{coded_hop, coded_sets, coded_pattern}
use Rattle.nf_model.specs.Walk.{Hop}
use Rattle.nf_model.specs.ThinFlow.{Sets}
use Rattle.nf_model.specs.Pattern.{Pattern, IsPattern, IsListed, IsBefore}
use Rattle.nf_graph.specs.Graph.{AreBelow}

-- What a listing depends on.
pub record Question : Type 0 where
  pub nodes : ℕ
  pub source : ℕ
  pub hops : List Hop
  pub sets : Sets
  pub unbounded : List Bool
  pub base : Pattern

-- All lists have one entry for each hop, hops join the nodes, and the base has a state for exactly the links that need one.
pub record IsQuestion (question : Question) : Type 0 where
  pub ends : AreBelow question.nodes question.hops
  pub active : length question.sets.active ≡ length question.hops
  pub resetting : length question.sets.resetting ≡ length question.hops
  pub unbounded : length question.unbounded ≡ length question.hops
  pub base : IsPattern question.sets question.unbounded question.base
  pub fewer : length question.hops < 2 ^ 32
  pub nodes : question.nodes < 2 ^ 32

abbrev pub IsListedBy : Question → Pattern → Type 0
IsListedBy question pattern = IsListed question.nodes question.source question.hops question.sets question.unbounded pattern

-- No listed pattern has the same states as this one at the first n links.
abbrev pub IsBarren : Question → ℕ → Pattern → Type 0
IsBarren question n pattern = (other : Pattern) → IsListedBy question other → take n other ≡ take n pattern → ⊥

-- Pattern r is p or comes after it.
abbrev pub IsFrom : Pattern → Pattern → Pattern → Type 0
IsFrom base p r = (r ≡ p) ⊎ IsBefore base p r

-- Pattern q is the first listed pattern from p on.
pub record IsFirstFrom (question : Question) (p q : Pattern) : Type 0 where
  pub listed : IsListedBy question q
  pub after : IsFrom question.base p q
  pub first : (r : Pattern) → IsListedBy question r → IsFrom question.base p r → IsBefore question.base r q → ⊥

abbrev pub NoneFrom : Question → Pattern → Type 0
NoneFrom question p = (r : Pattern) → IsListedBy question r → IsFrom question.base p r → ⊥

-- ---- how far a listing is enumerated
pub data Last : Type 0 where
  -- Nothing is enumerated.
  AtStart : Last
  -- The listing is enumerated up to this pattern.
  UpTo : (pattern : Pattern) → Last
  -- The whole listing is enumerated.
  AtEnd : Last

-- Pattern r comes after the enumerated ones.
abbrev pub IsLater : Pattern → Last → Pattern → Type 0
IsLater base AtStart r = Unit {0}
IsLater base (UpTo p) r = IsBefore base p r
IsLater base AtEnd r = ⊥

-- Pattern p is the least listed pattern after the enumerated ones.
pub record IsNext (question : Question) (last : Last) (p : Pattern) : Type 0 where
  pub listed : IsListedBy question p
  pub later : IsLater question.base last p
  pub least : (r : Pattern) → IsListedBy question r → IsLater question.base last r → IsBefore question.base r p → ⊥

abbrev pub NoneLeft : Question → Last → Type 0
NoneLeft question last = (r : Pattern) → IsListedBy question r → IsLater question.base last r → ⊥

-- A question, its last enumerated pattern, and the count so far, capped at 2^64 - 1.
pub record Given : Type 0 where
  pub question : Question
  pub last : Last
  pub place : ℕ

abbrev pub next_place : ℕ → ℕ
next_place place = min (place + 1) (2 ^ 64 - 1)

-- One more pattern is enumerated, or none exactly if none is left.
abbrev pub Enumerates : Given → Option Pattern → Given → Type 0
Enumerates given None after = NoneLeft given.question given.last
    × (after ≡ record { question = given.question; last = AtEnd; place = given.place })
Enumerates given (Some p) after = IsNext given.question given.last p
    × (after ≡ record { question = given.question; last = UpTo p; place = next_place given.place })

-- ---- codes of these values
abbrev pub coded_question : Coded Question
coded_question = code_by (ℕ × (ℕ × (List Hop × (Sets × (List Bool × Pattern)))))
    (coded× coded_ℕ (coded× coded_ℕ (coded× (coded_list coded_hop) (coded× coded_sets (coded× (coded_list coded_bool) coded_pattern)))))
    (λ q. (q.nodes, (q.source, (q.hops, (q.sets, (q.unbounded, q.base))))))
    (λ p. record { nodes = p.0; source = p.1.0; hops = p.1.1.0; sets = p.1.1.1.0; unbounded = p.1.1.1.1.0; base = p.1.1.1.1.1 }) (λ _. refl)

abbrev last_code : Last → Option (Option Pattern)
last_code AtStart = None
last_code AtEnd = Some None
last_code (UpTo p) = Some (Some p)

abbrev last_from : Option (Option Pattern) → Last
last_from None = AtStart
last_from (Some None) = AtEnd
last_from (Some (Some p)) = UpTo p

pub last_from-code : (l : Last) → last_from (last_code l) ≡ l
last_from-code AtStart = refl
last_from-code AtEnd = refl
last_from-code (UpTo p) = refl

abbrev pub coded_last : Coded Last
coded_last = code_by (Option (Option Pattern)) (coded_option (coded_option coded_pattern)) last_code last_from last_from-code

abbrev pub coded_given : Coded Given
coded_given = code_by (Question × (Last × ℕ)) (coded× coded_question (coded× coded_last coded_ℕ))
    (λ g. (g.question, (g.last, g.place))) (λ p. record { question = p.0; last = p.1.0; place = p.1.1 }) (λ _. refl)
