-- Links that close a cycle of Tight links.
use Rattle.std.specs.Prelude.{ℕ, ◌<◌, Bool, List}
use Rattle.nf_model.specs.declared.State.TheVariants.{Tight}
use Rattle.nf_model.specs.Walk.{Hop, IsHop}
use Rattle.nf_model.specs.Pattern.{Pattern, HasState, IsTrail}

-- Allowed hops, taken without direction, lead from v to w.
abbrev pub AreJoined : List Hop → (ℕ → Type 0) → ℕ → ℕ → Type 0
AreJoined hops Allowed v w = (steps : List (ℕ × Bool)) × IsTrail hops Allowed steps v w

-- Link e is Tight and before number n.
abbrev pub TightBefore : Pattern → ℕ → ℕ → Type 0
TightBefore pattern n e = (e < n) × HasState pattern e Tight

-- Tight links before link e lead from its head to its tail.
pub record LeadsBack (hops : List Hop) (pattern : Pattern) (e : ℕ) : Type 0 where
  pub hop : Hop
  pub is_hop : IsHop hops e hop
  pub joined : AreJoined hops (TightBefore pattern e) hop.head hop.tail

-- Link e is Tight, and closes a cycle with Tight links before it.
abbrev pub Closes : List Hop → Pattern → ℕ → Type 0
Closes hops pattern e = HasState pattern e Tight × LeadsBack hops pattern e

-- No link before number n closes a cycle.
abbrev pub NoneCloses : List Hop → Pattern → ℕ → Type 0
NoneCloses hops pattern n = (e : ℕ) → e < n → Closes hops pattern e → ⊥
