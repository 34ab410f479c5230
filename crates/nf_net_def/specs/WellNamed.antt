-- Properties of the network of each accepted file.
use Rattle.std.specs.Prelude.{◌≡◌, ◌≢◌, ◌⊎◌, ℕ, ◌≤◌, true, false, List, [], ◌∷◌, ◌++◌, length, Option, Some, None}
use Rattle.std.specs.List.{AllByRecursion}
use Rattle.nf_rational.specs.Rational.{ℚ}
use Rattle.nf_rational.specs.Operations.{0ℚ}
use Rattle.nf_rational.specs.Order.{◌≤ℚ◌, ◌<ℚ◌}
use Rattle.nf_frac_def.specs.Passing.{is_wide, passes_Q}
use Rattle.nf_frac_def.specs.declared.Op.TheVariants.{Sum}
use Rattle.nf_model.specs.Walk.{Hop, IsHop, IsWalk, transit_sum, IsLeastTransit}
use Rattle.nf_model.specs.Network.{Piece, IsNetwork, hops}
use Rattle.nf_net_def.specs.Names.{is_name, has_name, name_at, with_names, without, AreNames}
use Rattle.nf_net_def.specs.Numbers.{greatest}
use Rattle.nf_net_def.specs.Named.{NamedLink, Named, active_links, all_links, all_nodes, all_hops, ends, names_of}
use Rattle.nf_net_def.specs.Limits.{most_nodes, most_links, most_pieces}

-- neither the numerator nor the denominator exceeds `greatest` in magnitude
abbrev pub IsFraction : ℚ → Type 0
IsFraction q = is_wide greatest q ≡ false

-- the capacity is a positive fraction, or from version 2 on also missing
abbrev pub IsCapacity : ℕ → Option ℚ → Type 0
IsCapacity version None = version ≢ 1
IsCapacity version (Some capacity) = IsFraction capacity × (0ℚ <ℚ capacity)

pub record IsNamedLink (version : ℕ) (l : NamedLink) : Type 0 where
  pub name : is_name l.name ≡ true
  pub tail : is_name l.tail ≡ true
  pub head : is_name l.head ≡ true
  pub fraction : IsFraction l.transit
  pub transit : 0ℚ ≤ℚ l.transit
  pub capacity : IsCapacity version l.capacity

pub record IsFractionPiece (piece : Piece) : Type 0 where
  pub start : IsFraction piece.start
  pub rate : IsFraction piece.rate

-- the network satisfies the limits of a file
pub record IsWithinLimits (n : Named) : Type 0 where
  pub nodes : length (all_nodes n) ≤ most_nodes
  pub links : length (all_links n) ≤ most_links
  pub pieces : length n.net.pieces ≤ most_pieces

-- The source is node 0 and the sink node 1. The other nodes are numbered by first appearance in the lines of links. Unreached nodes are
-- listed by first appearance in the lines of links out of unreached nodes.
pub record IsNumbered (n : Named) : Type 0 where
  pub source : n.net.source ≡ 0
  pub sink : n.net.sink ≡ 1
  pub nodes : length n.node_names ≡ n.net.nodes
  pub links : length n.link_names ≡ length n.net.links
  pub order : n.node_names ≡ with_names (name_at n.node_names 0 ∷ name_at n.node_names 1 ∷ []) (ends (active_links n))
  pub idle_order : n.idle_nodes ≡ without n.node_names (with_names [] (ends n.idle_links))

-- for each link, the sum of its tail's least transit sum (if that is a fraction) and its own transit time does not pass
abbrev pub SumsFit : Named → Type 0
SumsFit n = (e : ℕ) (hop : Hop) (least : ℚ) → IsHop (hops n.net) e hop → IsLeastTransit (hops n.net) n.net.source hop.tail least
    → IsFraction least → passes_Q Sum least hop.transit ≡ false

-- The network of an accepted file has these properties.
pub record IsNamed (n : Named) : Type 0 where
  pub network : IsNetwork n.net
  pub version : (n.version ≡ 1) ⊎ (n.version ≡ 2)
  pub numbered : IsNumbered n
  pub limits : IsWithinLimits n
  pub node_names : AreNames (all_nodes n)
  pub link_names : AreNames (n.link_names ++ names_of n.idle_links)
  pub links : AllByRecursion (IsNamedLink n.version) (all_links n)
  pub pieces : AllByRecursion IsFractionPiece n.net.pieces
  -- version 1 has no idle link, and the tail of an idle link is an idle node
  pub idle : n.version ≡ 1 → n.idle_links ≡ []
  pub idle_tails : AllByRecursion (λ l. has_name n.node_names l.tail ≡ false) n.idle_links
  -- each cycle has a positive transit sum, also through idle links
  pub cycles : (e : ℕ) (walk : List ℕ) (v : ℕ) → IsWalk (all_hops n) (e ∷ walk) v v → 0ℚ <ℚ transit_sum (all_hops n) (e ∷ walk)
  pub sums_fit : SumsFit n
