-- The rules of an equilibrium, as tests.
use Rattle.std.specs.Prelude.{◌≡◌, ◌≢◌, ◌⊎◌, ℕ, suc, ◌+◌, ◌*◌, ◌<◌, ◌==◌, not, if◌then◌else◌, List, [], ◌∷◌, ◌++◌, length, filter, Some, slice_get, pos}
use Rattle.std.specs.List.{range_with_len, AllByRecursion}
use Rattle.nf_rational.specs.Rational.{ℚ}
use Rattle.nf_rational.specs.Operations.{0ℚ, whole, ◌+ℚ◌, ◌/ℚ◌}
use Rattle.nf_rational.specs.Order.{◌≤ℚ◌, ◌<ℚ◌}
use Rattle.nf_model.specs.Curve.{Within, NeverFalls, value, slope, IsCurve, AreSlopes, IsCorner}
use Rattle.nf_model.specs.Network.{Link, Network, IsLink, sum_in, sum_out, supply}
use Rattle.nf_model.specs.Queue.{IsQueue, IsExit, IsOutflow}
use Rattle.nf_model.specs.Equilibrium.{Trace, Flow, points_at, points_of, label, inflow, outflow, queue, Balances, TakesFlow}
use Rattle.nf_curve_def.specs.Lines.{Sides}
use Rattle.nf_curve_def.specs.Values.{points_before}
use Rattle.nf_curve_def.specs.Meanings.{DifferFirst}
use Rattle.nf_check_def.specs.declared.CheckRule.{CheckRule}
use Rattle.nf_check_def.specs.declared.CheckRule.TheVariants.{C1, C2, C3, C4, C5, C6, C7, C8}
use Rattle.nf_check_def.specs.declared.Subject.{Subject}
use Rattle.nf_check_def.specs.declared.Subject.TheVariants.{Node, Link as OfLink}
use Rattle.nf_check_def.specs.declared.Answer.{Answer}
use Rattle.nf_check_def.specs.declared.Answer.TheVariants.{Yes, No}

-- ---- the tests, each of a node or a link by number
pub data Test : Type 0 where
  Label : ℕ → Test
  Inflow : ℕ → Test
  InflowRates : ℕ → Test
  OutflowRates : ℕ → Test
  Arrivals : ℕ → Test
  Outflow : ℕ → Test
  Queue : ℕ → Test
  Balance : ℕ → Test
  SinkBefore : Test
  SinkAfter : Test
  Route : ℕ → Test

abbrev pub rule_of : Test → CheckRule
rule_of (Label v) = C1
rule_of (Inflow e) = C1
rule_of (InflowRates e) = C2
rule_of (OutflowRates e) = C2
rule_of (Arrivals v) = C3
rule_of (Outflow e) = C4
rule_of (Queue e) = C5
rule_of (Balance v) = C6
rule_of SinkBefore = C7
rule_of SinkAfter = C7
rule_of (Route e) = C8

abbrev pub subject_of : Network → Test → Subject ℕ ℕ
subject_of net (Label v) = Node v
subject_of net (Inflow e) = OfLink e
subject_of net (InflowRates e) = OfLink e
subject_of net (OutflowRates e) = OfLink e
subject_of net (Arrivals v) = Node v
subject_of net (Outflow e) = OfLink e
subject_of net (Queue e) = OfLink e
subject_of net (Balance v) = Node v
subject_of net SinkBefore = Node net.sink
subject_of net SinkAfter = Node net.sink
subject_of net (Route e) = OfLink e

-- the tests of a network
abbrev pub IsTest : Network → Test → Type 0
IsTest net (Label v) = v < net.nodes
IsTest net (Inflow e) = e < length net.links
IsTest net (InflowRates e) = e < length net.links
IsTest net (OutflowRates e) = e < length net.links
IsTest net (Arrivals v) = v < net.nodes
IsTest net (Outflow e) = e < length net.links
IsTest net (Queue e) = e < length net.links
IsTest net (Balance v) = (v < net.nodes) × (v ≢ net.sink)
IsTest net SinkBefore = Unit {0}
IsTest net SinkAfter = Unit {0}
IsTest net (Route e) = e < length net.links

-- ---- the order of the tests: by group, and within a group by number
abbrev pub group_of : Test → ℕ
group_of (Label v) = 0
group_of (Inflow e) = 1
group_of (InflowRates e) = 2
group_of (OutflowRates e) = 2
group_of (Arrivals v) = 3
group_of (Outflow e) = 4
group_of (Queue e) = 5
group_of (Balance v) = 6
group_of SinkBefore = 7
group_of SinkAfter = 7
group_of (Route e) = 8

-- a link's inflow rates precede its outflow rates; the source is the first of the arrivals
abbrev pub test_number : Network → Test → ℕ
test_number net (Label v) = v
test_number net (Inflow e) = e
test_number net (InflowRates e) = 2 * e
test_number net (OutflowRates e) = 2 * e + 1
test_number net (Arrivals v) = if v == net.source then 0 else suc v
test_number net (Outflow e) = e
test_number net (Queue e) = e
test_number net (Balance v) = v
test_number net SinkBefore = 0
test_number net SinkAfter = 1
test_number net (Route e) = e

abbrev pub ComesBefore : Network → Test → Test → Type 0
ComesBefore net test other = (group_of test < group_of other)
    ⊎ ((group_of test ≡ group_of other) × (test_number net test < test_number net other))

-- ---- nodes and links in order
abbrev pub numbers_of_nodes : Network → List ℕ
numbers_of_nodes net = range_with_len 0 net.nodes

abbrev pub numbers_of_links : Network → List ℕ
numbers_of_links net = range_with_len 0 (length net.links)

abbrev pub nodes_but : ℕ → Network → List ℕ
nodes_but v net = filter (λ w. not (w == v)) (numbers_of_nodes net)

-- ---- the values that break a test: a time, and two values there that differ
-- the first point with a negative value, of a curve cut at the time `last`
pub record IsNegative (points : List (ℚ × ℚ)) (last : ℚ) (sides : Sides) : Type 0 where
  pub front : List (ℚ × ℚ)
  pub p : ℚ × ℚ
  pub rest : List (ℚ × ℚ)
  pub split : points_before last points ++ (last, value points last) ∷ [] ≡ front ++ p ∷ rest
  pub time : sides.time ≡ p.0
  pub left : sides.left ≡ p.1
  pub right : sides.right ≡ 0ℚ
  pub negative : sides.left <ℚ 0ℚ
  pub first : AllByRecursion (λ q. 0ℚ ≤ℚ q.1) front

-- the curve is not 0 at time 0
pub record Begins (points : List (ℚ × ℚ)) (sides : Sides) : Type 0 where
  pub time : sides.time ≡ 0ℚ
  pub left : sides.left ≡ value points 0ℚ
  pub right : sides.right ≡ 0ℚ
  pub differ : sides.left ≢ sides.right

-- no value exceeds the next
abbrev pub NoneFalls : List (ℚ × ℚ) → Type 0
NoneFalls (p ∷ q ∷ rest) = (p.1 ≤ℚ q.1) × NoneFalls (q ∷ rest)
NoneFalls rest = Unit {0}

-- the curve is 0 at time 0, and `sides` holds the first value that exceeds the next
pub record Falls (points : List (ℚ × ℚ)) (sides : Sides) : Type 0 where
  pub begins : value points 0ℚ ≡ 0ℚ
  pub front : List (ℚ × ℚ)
  pub p : ℚ × ℚ
  pub q : ℚ × ℚ
  pub rest : List (ℚ × ℚ)
  pub split : points ≡ front ++ p ∷ q ∷ rest
  pub time : sides.time ≡ p.0
  pub left : sides.left ≡ p.1
  pub right : sides.right ≡ q.1
  pub falls : sides.right <ℚ sides.left
  pub first : NoneFalls (front ++ p ∷ [])

-- the rates are the slopes, for as many points as there are
abbrev pub RatesFit : List (ℚ × ℚ) → List ℚ → Type 0
RatesFit (p ∷ q ∷ rest) (rate ∷ rates) = (rate ≡ slope p q) × RatesFit (q ∷ rest) rates
RatesFit points rates = Unit {0}

-- the first printed rate that is not the slope
pub record HasOtherRate (trace : Trace) (sides : Sides) : Type 0 where
  pub front : List (ℚ × ℚ)
  pub p : ℚ × ℚ
  pub q : ℚ × ℚ
  pub rest : List (ℚ × ℚ)
  pub split : trace.points ≡ front ++ p ∷ q ∷ rest
  pub time : sides.time ≡ p.0
  pub rate : slice_get trace.rates (length front) ≡ Some sides.left
  pub slope_is : sides.right ≡ slope p q
  pub differ : sides.left ≢ sides.right
  pub first : RatesFit (front ++ p ∷ []) trace.rates

-- the first difference between a curve and a right curve, of which `Right` gives the values up to `last`
abbrev pub DiffersFromRight : List (ℚ × ℚ) → (ℚ → ℚ → Type 0) → ℚ → Sides → Type 0
DiffersFromRight points Right last sides =
    (right : List (ℚ × ℚ)) × IsCurve right × ((time : ℚ) → Within 0ℚ last time → Right time (value right time))
    × DifferFirst points right last sides

-- the first difference between two curves, of which `Left` and `Right` give the values up to `last`
abbrev pub DifferFirstBy : (ℚ → ℚ → Type 0) → (ℚ → ℚ → Type 0) → ℚ → Sides → Type 0
DifferFirstBy Left Right last sides =
    (left : List (ℚ × ℚ)) × IsCurve left × ((time : ℚ) → Within 0ℚ last time → Left time (value left time))
    × DiffersFromRight left Right last sides

-- ---- rules of a flow
-- the exit of a link by departure: a departure enters the link at its tail's label
abbrev pub ExitAt : Flow → ℕ → Link → ℚ → ℚ → Type 0
ExitAt flow e link departure exit = IsExit link.transit link.capacity (inflow flow e) (label flow link.tail departure) exit

-- the least exit of the links into a node
pub record IsLeastExit (net : Network) (flow : Flow) (v : ℕ) (departure exit : ℚ) : Type 0 where
  pub taken : (e : ℕ) × (link : Link) × IsLink net e link × (link.head ≡ v) × ExitAt flow e link departure exit
  pub least : (e : ℕ) (link : Link) (other : ℚ) → IsLink net e link → link.head ≡ v → ExitAt flow e link departure other → exit ≤ℚ other

-- the departure at the source, and the least exit at any other node
pub record IsArrival (net : Network) (flow : Flow) (v : ℕ) (departure arrival : ℚ) : Type 0 where
  pub source : v ≡ net.source → arrival ≡ departure
  pub other : v ≢ net.source → IsLeastExit net flow v departure arrival

-- the sum of the outflows of the links into a node by a time, plus `extra`
pub record IsInflowSum (net : Network) (flow : Flow) (v : ℕ) (time extra sum : ℚ) : Type 0 where
  pub outs : ℕ → ℚ
  pub outflows : (e : ℕ) (link : Link) → IsLink net e link → link.head ≡ v
      → IsOutflow link.transit link.capacity (inflow flow e) time (outs e)
  pub sum_is : sum ≡ sum_in net.links outs v +ℚ extra

-- the sum of the inflows of the links out of a node by a time, plus `extra`
abbrev pub IsOut : Network → Flow → ℕ → ℚ → ℚ → ℚ → Type 0
IsOut net flow v time extra sum = sum ≡ sum_out net.links (λ e. inflow flow e time) v +ℚ extra

-- the supply at the source, and 0 at any other node
pub record IsExtra (net : Network) (v : ℕ) (time extra : ℚ) : Type 0 where
  pub source : v ≡ net.source → extra ≡ supply net time
  pub other : v ≢ net.source → extra ≡ 0ℚ

abbrev pub IsInWithSupply : Network → Flow → ℕ → ℚ → ℚ → Type 0
IsInWithSupply net flow v time sum = (extra : ℚ) × IsExtra net v time extra × IsInflowSum net flow v time extra sum

-- ---- intervals of departures between consecutive corners of three curves
abbrev pub IsStretch : List (List (ℚ × ℚ)) → ℚ → ℚ → ℚ → Type 0
IsStretch curves last first next = IsCorner curves last first × IsCorner curves last next × (first <ℚ next)
    × ((time : ℚ) → IsCorner curves last time → first <ℚ time → time <ℚ next → ⊥)

-- The first curve rises on the interval, and the other two differ. The time is the interval's start, or its middle if they are equal at the
-- start.
pub record LeavesRoute (taken exits labels : List (ℚ × ℚ)) (first next : ℚ) (sides : Sides) : Type 0 where
  pub rises : value taken first <ℚ value taken next
  pub left : sides.left ≡ value exits sides.time
  pub right : sides.right ≡ value labels sides.time
  pub differ : sides.left ≢ sides.right
  pub time : (sides.time ≡ first) ⊎ ((value exits first ≡ value labels first) × (sides.time ≡ (first +ℚ next) /ℚ whole (pos 2)))

-- the first interval on which a link takes flow although its exit is not the label of its head
pub record TakesDetour (flow : Flow) (e : ℕ) (link : Link) (sides : Sides) : Type 0 where
  pub taken : List (ℚ × ℚ)
  pub exits : List (ℚ × ℚ)
  pub labels : List (ℚ × ℚ)
  pub curves : IsCurve taken × IsCurve exits × IsCurve labels
  pub taken_is : (departure : ℚ) → Within 0ℚ flow.reached departure → value taken departure ≡ inflow flow e (label flow link.tail departure)
  pub exits_are : (departure : ℚ) → Within 0ℚ flow.reached departure → ExitAt flow e link departure (value exits departure)
  pub labels_are : (departure : ℚ) → Within 0ℚ flow.reached departure → value labels departure ≡ label flow link.head departure
  pub first : ℚ
  pub next : ℚ
  pub stretch : IsStretch (taken ∷ exits ∷ labels ∷ []) flow.reached first next
  pub leaves : LeavesRoute taken exits labels first next sides
  pub none_before : (a b : ℚ) (other : Sides) → IsStretch (taken ∷ exits ∷ labels ∷ []) flow.reached a b → b ≤ℚ first
      → ¬ LeavesRoute taken exits labels a b other

-- the last time of the test at a node: the departure reached at the source, the last label at any other node
abbrev pub end_at : Network → Flow → ℕ → ℚ
end_at net flow v = if v == net.source then flow.reached else label flow v flow.reached

-- the trace of this number
abbrev pub IsTrace : List Trace → ℕ → Trace → Type 0
IsTrace traces e trace = slice_get traces e ≡ Some trace

-- `sides` breaks the test
abbrev pub Breaks : Network → Flow → Test → Sides → Type 0
Breaks net flow (Label v) sides = IsNegative (points_at flow.labels v) flow.reached sides
Breaks net flow (Inflow e) sides = Begins (points_at (points_of flow.inflows) e) sides ⊎ Falls (points_at (points_of flow.inflows) e) sides
Breaks net flow (InflowRates e) sides = (trace : Trace) × IsTrace flow.inflows e trace × HasOtherRate trace sides
Breaks net flow (OutflowRates e) sides = (trace : Trace) × IsTrace flow.outflows e trace × HasOtherRate trace sides
Breaks net flow (Arrivals v) sides = DifferFirstBy (λ departure arrival. arrival ≡ label flow v departure)
    (IsArrival net flow v) flow.reached sides
Breaks net flow (Outflow e) sides = (link : Link) × IsLink net e link
    × DiffersFromRight (points_at (points_of flow.outflows) e) (IsOutflow link.transit link.capacity (inflow flow e))
    (label flow link.head flow.reached) sides
Breaks net flow (Queue e) sides = (link : Link) × IsLink net e link
    × DiffersFromRight (points_at flow.queues e) (IsQueue link.capacity (inflow flow e)) (label flow link.tail flow.reached) sides
Breaks net flow (Balance v) sides = DifferFirstBy (IsInWithSupply net flow v) (λ time sum. IsOut net flow v time 0ℚ sum)
    (end_at net flow v) sides
Breaks net flow SinkBefore sides =
    DifferFirstBy (λ time sum. IsInflowSum net flow net.sink time 0ℚ sum) (λ time sum. IsOut net flow net.sink time 0ℚ sum)
    (label flow net.sink 0ℚ) sides
Breaks net flow SinkAfter sides =
    DifferFirstBy (λ departure sum. IsInflowSum net flow net.sink (label flow net.sink departure) 0ℚ sum)
    (λ departure sum. IsOut net flow net.sink (label flow net.sink departure) (supply net departure) sum) flow.reached sides
Breaks net flow (Route e) sides = (link : Link) × IsLink net e link × TakesDetour flow e link sides

-- ---- the condition that holds if a test is not broken
abbrev pub Holds : Network → Flow → Test → Type 0
Holds net flow (Label v) = (departure : ℚ) → Within 0ℚ flow.reached departure → 0ℚ ≤ℚ label flow v departure
Holds net flow (Inflow e) = (inflow flow e 0ℚ ≡ 0ℚ) × NeverFalls (inflow flow e)
Holds net flow (InflowRates e) = (trace : Trace) → IsTrace flow.inflows e trace → AreSlopes trace.points trace.rates
Holds net flow (OutflowRates e) = (trace : Trace) → IsTrace flow.outflows e trace → AreSlopes trace.points trace.rates
Holds net flow (Arrivals v) = (departure : ℚ) → Within 0ℚ flow.reached departure → IsArrival net flow v departure (label flow v departure)
Holds net flow (Outflow e) = (link : Link) (time : ℚ) → IsLink net e link → Within 0ℚ (label flow link.head flow.reached) time
    → IsOutflow link.transit link.capacity (inflow flow e) time (outflow flow e time)
Holds net flow (Queue e) = (link : Link) (time : ℚ) → IsLink net e link → Within 0ℚ (label flow link.tail flow.reached) time
    → IsQueue link.capacity (inflow flow e) time (queue flow e time)
Holds net flow (Balance v) = (time extra : ℚ) → Within 0ℚ (end_at net flow v) time → IsExtra net v time extra
    → Balances net (inflow flow) v time extra 0ℚ
Holds net flow SinkBefore = (time : ℚ) → Within 0ℚ (label flow net.sink 0ℚ) time → Balances net (inflow flow) net.sink time 0ℚ 0ℚ
Holds net flow SinkAfter = (departure : ℚ) → Within 0ℚ flow.reached departure
    → Balances net (inflow flow) net.sink (label flow net.sink departure) 0ℚ (supply net departure)
Holds net flow (Route e) = (link : Link) (departure : ℚ) → IsLink net e link → 0ℚ ≤ℚ departure → departure <ℚ flow.reached
    → TakesFlow (inflow flow) (label flow) flow.reached e link.tail departure
    → ExitAt flow e link departure (label flow link.head departure)

-- ---- the answer
-- the test is broken, and all tests before it hold
pub record BreaksFirst (net : Network) (flow : Flow) (test : Test) (sides : Sides) : Type 0 where
  pub is_test : IsTest net test
  pub before : (other : Test) → IsTest net other → ComesBefore net other test → Holds net flow other
  pub broken : Breaks net flow test sides
  pub differ : sides.left ≢ sides.right

abbrev pub Checks : Network → Flow → Answer ℕ ℕ ℚ → Type 0
Checks net flow Yes = (test : Test) → IsTest net test → Holds net flow test
Checks net flow (No rule subject time left right) =
    (test : Test) × (rule ≡ rule_of test) × (subject ≡ subject_of net test)
    × BreaksFirst net flow test (record { time = time; left = left; right = right })
