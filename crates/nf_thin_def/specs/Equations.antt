-- The equations of a pattern, as the rows of a table. The columns are the unknowns: the slope of each node, in node order, and then the
-- flow of each active link, in link order.
use Rattle.std.specs.Prelude.{ℕ, suc, Bool, true, false, not, ◌==◌, if◌then◌else◌, List, [], ◌∷◌, ◌++◌, take, drop, map, filter, Option, Some, None, slice_get, unwrap_or}
use Rattle.std.specs.List.{range_with_len, flat_map, enumerate_from}
use Rattle.nf_rational.specs.Rational.{ℚ}
use Rattle.nf_rational.specs.Operations.{0ℚ, 1ℚ, neg_ℚ, ◌-ℚ◌}
use Rattle.nf_model.specs.declared.State.{State}
use Rattle.nf_model.specs.declared.State.TheVariants.{Tight, Full, Zero}
use Rattle.nf_model.specs.Network.{Link, Network}
use Rattle.nf_model.specs.ThinFlow.{Sets}
use Rattle.nf_model.specs.Pattern.{Pattern}
use Rattle.nf_linear_def.specs.Table.{Row}

-- An unknown is the slope of a node or the flow of a link.
pub data Unknown : Type 0 where
  SlopeOf : ℕ → Unknown
  FlowOn : ℕ → Unknown

-- The numbers of the active links, from number e on.
abbrev pub active_from : ℕ → List Bool → List ℕ
active_from e [] = []
active_from e (active ∷ rest) = if active then e ∷ active_from (suc e) rest else active_from (suc e) rest

abbrev pub unknowns : Network → Sets → List Unknown
unknowns net sets = map SlopeOf (range_with_len 0 net.nodes) ++ map FlowOn (active_from 0 sets.active)

-- A row has the coefficient of each unknown, and then the right side.
abbrev pub row : List Unknown → (Unknown → ℚ) → ℚ → Row
row unknowns factor right = map factor unknowns ++ right ∷ []

abbrev pub one_if : Bool → ℚ
one_if holds = if holds then 1ℚ else 0ℚ

-- ---- the slope of the source is 1
abbrev pub source_factor : ℕ → Unknown → ℚ
source_factor source (SlopeOf v) = one_if (v == source)
source_factor source (FlowOn e) = 0ℚ

-- ---- at a node: its outflow less its inflow, in which a link from the node to itself cancels
abbrev pub leaves_less_enters : Option Link → ℕ → ℚ
leaves_less_enters None v = 0ℚ
leaves_less_enters (Some link) v = one_if (link.tail == v) -ℚ one_if (link.head == v)

abbrev pub node_factor : Network → ℕ → Unknown → ℚ
node_factor net v (SlopeOf w) = 0ℚ
node_factor net v (FlowOn e) = leaves_less_enters (slice_get net.links e) v

-- The row of a node. Its outflow less its inflow is the rate at the source, and 0 elsewhere.
abbrev pub node_row : Network → Sets → ℚ → ℕ → Row
node_row net sets rate v = row (unknowns net sets) (node_factor net v) (if v == net.source then rate else 0ℚ)

-- ---- the row of a link, by its state; an active link without a state is resetting

-- The flow less the capacity times the slope of the head.
abbrev pub fills_factor : ℕ → Link → Unknown → ℚ
fills_factor e link (SlopeOf v) = if v == link.head then neg_ℚ (unwrap_or link.capacity 0ℚ) else 0ℚ
fills_factor e link (FlowOn f) = one_if (f == e)

abbrev pub link_factor : ℕ → Link → Option State → Unknown → ℚ
link_factor e link (Some Tight) (SlopeOf v) = one_if (v == link.head) -ℚ one_if (v == link.tail)
link_factor e link (Some Tight) (FlowOn f) = 0ℚ
link_factor e link (Some Full) u = fills_factor e link u
link_factor e link (Some Zero) (SlopeOf v) = 0ℚ
link_factor e link (Some Zero) (FlowOn f) = one_if (f == e)
link_factor e link None u = fills_factor e link u

-- The row of an active link, with right side 0. A link that is not active has no row.
abbrev pub link_rows : Network → Sets → Pattern → ℕ × Link → List Row
link_rows net sets pattern (e, link) = if unwrap_or (slice_get sets.active e) false
    then row (unknowns net sets) (link_factor e link (unwrap_or (slice_get pattern e) None)) 0ℚ ∷ [] else []

-- ---- all rows: the source's slope, each node except the sink in node order, and each active link in link order
unfoldable pub equations : Network → Sets → ℚ → Pattern → List Row
equations net sets rate pattern =
    row (unknowns net sets) (source_factor net.source) 1ℚ
    ∷ map (node_row net sets rate) (filter (λ v. not (v == net.sink)) (range_with_len 0 net.nodes))
    ++ flat_map (link_rows net sets pattern) (enumerate_from 0 net.links)

-- ---- the values of the unknowns as slopes and as the flows of all links, which are 0 on links that are not active
abbrev pub slopes_in : ℕ → List ℚ → List ℚ
slopes_in nodes values = take nodes values

abbrev pub onto_links : List Bool → List ℚ → List ℚ
onto_links [] flows = []
onto_links (true ∷ active) (x ∷ flows) = x ∷ onto_links active flows
onto_links (active ∷ rest) flows = 0ℚ ∷ onto_links rest flows

abbrev pub link_flows_in : ℕ → List Bool → List ℚ → List ℚ
link_flows_in nodes active values = onto_links active (drop nodes values)
