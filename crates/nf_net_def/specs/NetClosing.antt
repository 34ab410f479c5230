-- A network file as a whole.
use Rattle.std.specs.Prelude.{◌≡◌, ◌⊎◌, ℕ, ◌<◌, Bool, true, false, not, ◌||◌, ◌==◌, List, [], ◌∷◌, length, map, is_none, unwrap_or}
use Rattle.std.specs.Bool.{Decides, MatchBool}
use Rattle.std.specs.List.{AllByRecursion, AllZip}
use Rattle.nf_rational.specs.Rational.{ℚ}
use Rattle.nf_rational.specs.Operations.{0ℚ}
use Rattle.nf_frac_def.specs.Passing.{is_wide, passes_Q}
use Rattle.nf_frac_def.specs.declared.Op.TheVariants.{Sum}
use Rattle.nf_model.specs.Walk.{Hop, IsHop, IsWalk, transit_of, IsLeastTransit}
use Rattle.nf_net_def.specs.declared.NetRule.{NetRule}
use Rattle.nf_net_def.specs.declared.NetRule.TheVariants.{N17, N18, N19, N20, N21, N22}
use Rattle.nf_net_def.specs.Names.{Name, place_of, with_names, without}
use Rattle.nf_net_def.specs.Numbers.{greatest}
use Rattle.nf_net_def.specs.Named.{NamedLink, Named, numbered, hops_among, ends, names_of}
use Rattle.nf_net_def.specs.NetLines.{Draft}

-- ---- numbers of the file: a node's number is its index among the nodes that the file names
abbrev pub draft_hops : Draft → List Hop
draft_hops draft = hops_among draft.nodes draft.links

abbrev pub source_name : Draft → Name
source_name draft = unwrap_or draft.source []

abbrev pub sink_name : Draft → Name
sink_name draft = unwrap_or draft.sink []

abbrev pub source_place : Draft → ℕ
source_place draft = place_of draft.nodes (source_name draft)

-- a walk from the source leads to this node
abbrev pub IsReached : Draft → ℕ → Type 0
IsReached draft v = (walk : List ℕ) × IsWalk (draft_hops draft) walk (source_place draft) v

-- ---- the rules
-- in version 1 some node is not reachable from the source; in version 2 the sink is not
abbrev pub LeavesUnreached : Draft → Type 0
LeavesUnreached draft = MatchBool (draft.version == 1)
    ((v : ℕ) × (v < length draft.nodes) × (¬ IsReached draft v))
    (¬ IsReached draft (place_of draft.nodes (sink_name draft)))

-- a cycle of links of transit time 0
pub record HasZeroCycle (draft : Draft) : Type 0 where
  pub first : ℕ
  pub walk : List ℕ
  pub node : ℕ
  pub closed : IsWalk (draft_hops draft) (first ∷ walk) node node
  pub zero : AllByRecursion (λ e. transit_of (draft_hops draft) e ≡ 0ℚ) (first ∷ walk)

-- for some link, the sum of its tail's least transit sum (if that is a fraction) and its own transit time passes
pub record HasPassingSum (draft : Draft) : Type 0 where
  pub link : ℕ
  pub hop : Hop
  pub least : ℚ
  pub is_hop : IsHop (draft_hops draft) link hop
  pub is_least : IsLeastTransit (draft_hops draft) (source_place draft) hop.tail least
  pub is_fraction : is_wide greatest least ≡ false
  pub passes : passes_Q Sum least hop.transit ≡ true

abbrev pub BreaksRule : Draft → NetRule → Type 0
BreaksRule draft N17 = draft.ended ≡ false
BreaksRule draft N18 = (is_none draft.source || is_none draft.sink) ≡ true
BreaksRule draft N19 = draft.source ≡ draft.sink
BreaksRule draft N20 = LeavesUnreached draft
BreaksRule draft N21 = HasZeroCycle draft
BreaksRule draft N22 = HasPassingSum draft
BreaksRule draft rule = ⊥

abbrev pub closing_rules : List NetRule
closing_rules = N17 ∷ N18 ∷ N19 ∷ N20 ∷ N21 ∷ N22 ∷ []

-- `first` is the first broken rule of the list
abbrev pub IsFirst : (NetRule → Type 0) → List NetRule → NetRule → Type 0
IsFirst Broken [] first = ⊥
IsFirst Broken (rule ∷ rest) first = (Broken rule × (first ≡ rule)) ⊎ ((¬ Broken rule) × IsFirst Broken rest first)

-- ---- the network
-- selects the links whose flag is set
abbrev pub marked : List Bool → List NamedLink → List NamedLink
marked (true ∷ flags) (l ∷ links) = l ∷ marked flags links
marked (false ∷ flags) (l ∷ links) = marked flags links
marked flags links = []

-- The nodes of the network are the source, the sink, and the others by first appearance in the lines of its links. Links and pieces are
-- numbered in the order of their lines. The idle nodes are listed by first appearance in the lines of idle links.
abbrev pub network_of : Draft → List NamedLink → List NamedLink → Named
network_of draft active idle =
    let nodes = with_names (source_name draft ∷ sink_name draft ∷ []) (ends active) in
    record {
      version = draft.version;
      net = record { nodes = length nodes; source = 0; sink = 1; links = map (numbered nodes) active; pieces = draft.pieces };
      node_names = nodes;
      link_names = names_of active;
      idle_nodes = without nodes (with_names [] (ends idle));
      idle_links = idle;
    }

-- each link has a flag, which states whether its tail is reached
abbrev pub AreActive : Draft → List Bool → Type 0
AreActive draft flags = AllZip (λ flag l. Decides flag (IsReached draft (place_of draft.nodes l.tail))) flags draft.links

-- the file stands for this network: links whose tails are not reached are idle
pub record StandsFor (draft : Draft) (n : Named) : Type 0 where
  pub flags : List Bool
  pub active : AreActive draft flags
  pub network : n ≡ network_of draft (marked flags draft.links) (marked (map not flags) draft.links)
