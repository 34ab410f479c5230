-- The curves of a flow in the order of a report, and the lines of a report by these.
use Rattle.std.proofs.Common.{◌≡◌, ℕ, zero, suc, ◌+◌, Bool, false, cond, List, [], ◌∷◌, ◌++◌, length, map, filter, flat_map, None, slice_get, unwrap_or}
use Rattle.std.proofs.Common.{refl, sym, ap, ◌∙◌, codes, bytes_eq, arith, append_assoc, append-nil}
use Rattle.nf_report_laws.proofs.Common.{AllByRecursion, range_with_len, ℚ, Point, IsCurve, Trace, Flow, points_at, Pattern, digits_of, printed, Name}
use Rattle.nf_report_laws.proofs.Common.{name_at, Named, cause_words, IsFraction, Report, point_lines, trace_lines, trace_at, written_state, report_lines}
use Rattle.nf_report_laws.proofs.Common.{Kind, OfLabel, OfNever, OfInflow, OfOutflow, OfQueue, key_word, key_of, ReadCurve, curves_of_kind, points_read}
use Rattle.nf_report_laws.proofs.Common.{traces_read, AreFractionPoints, flat_map-append}
use Rattle.std.proofs.lemmas.List.Elements.{filter-append}

-- ---- a curve that was read, and its lines
abbrev pub lines_of_kind : Kind → Name → List Point → List ℚ → List (List (List ℕ))
lines_of_kind OfLabel name points rates = point_lines (codes "label") name points
lines_of_kind OfNever name points rates = (codes "never" ∷ name ∷ []) ∷ []
lines_of_kind OfInflow name points rates = trace_lines (codes "inflow") name points rates
lines_of_kind OfOutflow name points rates = trace_lines (codes "outflow") name points rates
lines_of_kind OfQueue name points rates = point_lines (codes "queue") name points

abbrev pub curve_lines : ReadCurve → List (List (List ℕ))
curve_lines curve = lines_of_kind curve.key.kind curve.key.name curve.points curve.rates

abbrev pub IsReadPoints : List Point → Type 0
IsReadPoints points = IsCurve points × AreFractionPoints points

pub record IsReadTrace (trace : Trace) : Type 0 where
  pub curve : IsCurve trace.points
  pub points : AreFractionPoints trace.points
  pub rates : AllByRecursion IsFraction trace.rates
  pub count : length trace.points ≡ suc (length trace.rates)

abbrev pub IsOfKind : Kind → List Point → List ℚ → Type 0
IsOfKind OfLabel points rates = IsReadPoints points × (rates ≡ [])
IsOfKind OfNever points rates = (points ≡ []) × (rates ≡ [])
IsOfKind OfInflow points rates = IsReadTrace (record { points = points; rates = rates })
IsOfKind OfOutflow points rates = IsReadTrace (record { points = points; rates = rates })
IsOfKind OfQueue points rates = IsReadPoints points × (rates ≡ [])

abbrev pub IsRead : ReadCurve → Type 0
IsRead curve = IsOfKind curve.key.kind curve.points curve.rates

-- ---- the curves of a flow, in order
abbrev pub plain_curve : Kind → Name → List Point → ReadCurve
plain_curve kind name points = record { key = key_of kind name; points = points; rates = [] }

abbrev pub trace_curve : Kind → Name → Trace → ReadCurve
trace_curve kind name trace = record { key = key_of kind name; points = trace.points; rates = trace.rates }

abbrev pub label_curves : List Name → List (List Point) → List ReadCurve
label_curves (name ∷ names) (points ∷ labels) = plain_curve OfLabel name points ∷ label_curves names labels
label_curves names labels = []

abbrev pub never_curves : List Name → List ReadCurve
never_curves names = map (λ name. plain_curve OfNever name []) names

abbrev pub link_curves : List Name → List Trace → List Trace → List (List Point) → List ReadCurve
link_curves (name ∷ names) (i ∷ inflows) (o ∷ outflows) (q ∷ queues) =
    trace_curve OfInflow name i ∷ trace_curve OfOutflow name o ∷ plain_curve OfQueue name q ∷ link_curves names inflows outflows queues
link_curves names inflows outflows queues = []

abbrev pub curves_from : Named → Flow → List ReadCurve
curves_from n flow = label_curves n.node_names flow.labels ++ never_curves n.idle_nodes ++ link_curves n.link_names flow.inflows flow.outflows flow.queues

-- what holds of a flow that was read
pub record AreRead (n : Named) (flow : Flow) : Type 0 where
  pub label_count : length flow.labels ≡ length n.node_names
  pub inflow_count : length flow.inflows ≡ length n.link_names
  pub outflow_count : length flow.outflows ≡ length n.link_names
  pub queue_count : length flow.queues ≡ length n.link_names
  pub labels : AllByRecursion IsReadPoints flow.labels
  pub inflows : AllByRecursion IsReadTrace flow.inflows
  pub outflows : AllByRecursion IsReadTrace flow.outflows
  pub queues : AllByRecursion IsReadPoints flow.queues

-- ---- a list for each number below a count
later_numbers : (f : ℕ → List (List (List ℕ))) (a c : ℕ) → flat_map f (range_with_len (a + 1) c) ≡ flat_map (λ i. f (suc i)) (range_with_len a c)
later_numbers f a zero = refl
later_numbers f a (suc c) = let e : a + 1 ≡ suc a = omega arith in (λ i. f (e i) ++ later_numbers f (a + 1) c i)

labels_by_name : (names : List Name) (labels : List (List Point)) (c : ℕ) → length names ≡ c → length labels ≡ c
    → flat_map (λ v. point_lines (codes "label") (name_at names v) (points_at labels v)) (range_with_len 0 c) ≡ flat_map curve_lines (label_curves names labels)
labels_by_name [] [] zero e f = refl
labels_by_name [] [] (suc c) e f = absurd (omega arith)
labels_by_name [] (points ∷ labels) c e f = absurd (omega arith)
labels_by_name (name ∷ names) [] c e f = absurd (omega arith)
labels_by_name (name ∷ names) (points ∷ labels) zero e f = absurd (omega arith)
labels_by_name (name ∷ names) (points ∷ labels) (suc c) e f =
    ap (λ ls. point_lines (codes "label") name points ++ ls)
    (later_numbers (λ v. point_lines (codes "label") (name_at (name ∷ names) v) (points_at (points ∷ labels) v)) 0 c
    ∙ labels_by_name names labels c (omega arith) (omega arith))

nevers_by_name : (names : List Name) → map (λ name. codes "never" ∷ name ∷ []) names ≡ flat_map curve_lines (never_curves names)
nevers_by_name [] = refl
nevers_by_name (name ∷ names) = ap (λ ls. (codes "never" ∷ name ∷ []) ∷ ls) (nevers_by_name names)

abbrev lines_of_link : List Name → List Trace → List Trace → List (List Point) → ℕ → List (List (List ℕ))
lines_of_link names inflows outflows queues e =
    trace_lines (codes "inflow") (name_at names e) (trace_at inflows e).points (trace_at inflows e).rates
    ++ trace_lines (codes "outflow") (name_at names e) (trace_at outflows e).points (trace_at outflows e).rates
    ++ point_lines (codes "queue") (name_at names e) (points_at queues e)

links_by_name : (names : List Name) (inflows outflows : List Trace) (queues : List (List Point)) (c : ℕ)
    → length names ≡ c → length inflows ≡ c → length outflows ≡ c → length queues ≡ c
    → flat_map (lines_of_link names inflows outflows queues) (range_with_len 0 c) ≡ flat_map curve_lines (link_curves names inflows outflows queues)
links_by_name [] inflows outflows queues zero e f g h = refl
links_by_name [] inflows outflows queues (suc c) e f g h = absurd (omega arith)
links_by_name (name ∷ names) [] outflows queues c e f g h = absurd (omega arith)
links_by_name (name ∷ names) (i ∷ inflows) [] queues c e f g h = absurd (omega arith)
links_by_name (name ∷ names) (i ∷ inflows) (o ∷ outflows) [] c e f g h = absurd (omega arith)
links_by_name (name ∷ names) (i ∷ inflows) (o ∷ outflows) (q ∷ queues) zero e f g h = absurd (omega arith)
links_by_name (name ∷ names) (i ∷ inflows) (o ∷ outflows) (q ∷ queues) (suc c) e f g h =
    ap (λ ls. (trace_lines (codes "inflow") name i.points i.rates ++ trace_lines (codes "outflow") name o.points o.rates ++ point_lines (codes "queue") name q) ++ ls)
    (later_numbers (lines_of_link (name ∷ names) (i ∷ inflows) (o ∷ outflows) (q ∷ queues)) 0 c
    ∙ links_by_name names inflows outflows queues c (omega arith) (omega arith) (omega arith) (omega arith))
    ∙ append_assoc (trace_lines (codes "inflow") name i.points i.rates ++ trace_lines (codes "outflow") name o.points o.rates) (point_lines (codes "queue") name q) (flat_map curve_lines (link_curves names inflows outflows queues))
    ∙ append_assoc (trace_lines (codes "inflow") name i.points i.rates) (trace_lines (codes "outflow") name o.points o.rates) (point_lines (codes "queue") name q ++ flat_map curve_lines (link_curves names inflows outflows queues))

-- ---- the lines of states
abbrev pub state_lines_of : List Name → Pattern → List (List (List ℕ))
state_lines_of (name ∷ names) (state ∷ states) = written_state name state ++ state_lines_of names states
state_lines_of names states = []

states_by_name : (names : List Name) (pattern : Pattern) (c : ℕ) → length names ≡ c → length pattern ≡ c
    → flat_map (λ e. written_state (name_at names e) (unwrap_or (slice_get pattern e) None)) (range_with_len 0 c) ≡ state_lines_of names pattern
states_by_name [] pattern zero e f = refl
states_by_name [] pattern (suc c) e f = absurd (omega arith)
states_by_name (name ∷ names) [] c e f = absurd (omega arith)
states_by_name (name ∷ names) (state ∷ pattern) zero e f = absurd (omega arith)
states_by_name (name ∷ names) (state ∷ pattern) (suc c) e f =
    ap (λ ls. written_state name state ++ ls)
    (later_numbers (λ v. written_state (name_at (name ∷ names) v) (unwrap_or (slice_get (state ∷ pattern) v) None)) 0 c
    ∙ states_by_name names pattern c (omega arith) (omega arith))

-- ---- the lines of a report
abbrev pub end_lines : List (List (List ℕ))
end_lines = (codes "end" ∷ []) ∷ []

abbrev pub head_lines : ℕ → ℚ → ℚ → List (List ℕ) → List (List (List ℕ)) → List (List (List ℕ))
head_lines version horizon reached cause rest =
    (codes "report" ∷ digits_of version ∷ []) ∷ (codes "horizon" ∷ printed horizon ∷ []) ∷ (codes "reached" ∷ printed reached ∷ []) ∷ (codes "cause" ∷ cause) ∷ rest

pub lines_by_curves : (n : Named) (report : Report) → AreRead n report.flow → length n.node_names ≡ n.net.nodes → length n.link_names ≡ length n.net.links
    → length report.last ≡ length n.net.links
    → report_lines n report ≡ head_lines n.version report.horizon report.flow.reached (cause_words report.stop)
    (flat_map curve_lines (curves_from n report.flow) ++ state_lines_of n.link_names report.last ++ end_lines)
lines_by_curves n report h nodes links states =
    let flow = report.flow in
    let a = label_curves n.node_names flow.labels in
    let b = never_curves n.idle_nodes in
    let c = link_curves n.link_names flow.inflows flow.outflows flow.queues in
    let e1 = labels_by_name n.node_names flow.labels n.net.nodes nodes (h.label_count ∙ nodes) in
    let e2 = nevers_by_name n.idle_nodes in
    let e3 = links_by_name n.link_names flow.inflows flow.outflows flow.queues (length n.net.links) links (h.inflow_count ∙ links) (h.outflow_count ∙ links) (h.queue_count ∙ links) in
    let e4 = states_by_name n.link_names report.last (length n.net.links) links states in
    let parts : flat_map curve_lines (a ++ b ++ c) ≡ flat_map curve_lines a ++ flat_map curve_lines b ++ flat_map curve_lines c =
    flat_map-append curve_lines (a ++ b) c ∙ ap (λ ls. ls ++ flat_map curve_lines c) (flat_map-append curve_lines a b) in
    ap (λ ls. head_lines n.version report.horizon report.flow.reached (cause_words report.stop) ls)
    ((λ i. e1 i ++ e2 i ++ e3 i ++ e4 i ++ end_lines) ∙ (λ i. sym parts i ++ state_lines_of n.link_names report.last ++ end_lines))

-- ---- the curves of a kind among them

no_label : (kind : Kind) (names : List Name) (labels : List (List Point)) → bytes_eq (codes "label") (key_word kind) ≡ false → curves_of_kind kind (label_curves names labels) ≡ []
no_label kind [] labels e = refl
no_label kind (name ∷ names) [] e = refl
no_label kind (name ∷ names) (points ∷ labels) e =
    ap (λ (b : Bool). cond b (plain_curve OfLabel name points ∷ curves_of_kind kind (label_curves names labels)) (curves_of_kind kind (label_curves names labels))) e ∙ no_label kind names labels e

no_never : (kind : Kind) (names : List Name) → bytes_eq (codes "never") (key_word kind) ≡ false → curves_of_kind kind (never_curves names) ≡ []
no_never kind [] e = refl
no_never kind (name ∷ names) e =
    ap (λ (b : Bool). cond b (plain_curve OfNever name [] ∷ curves_of_kind kind (never_curves names)) (curves_of_kind kind (never_curves names))) e ∙ no_never kind names e

no_link : (names : List Name) (inflows outflows : List Trace) (queues : List (List Point)) → curves_of_kind OfLabel (link_curves names inflows outflows queues) ≡ []
no_link [] inflows outflows queues = refl
no_link (name ∷ names) [] outflows queues = refl
no_link (name ∷ names) (i ∷ inflows) [] queues = refl
no_link (name ∷ names) (i ∷ inflows) (o ∷ outflows) [] = refl
no_link (name ∷ names) (i ∷ inflows) (o ∷ outflows) (q ∷ queues) = no_link names inflows outflows queues

the_labels : (names : List Name) (labels : List (List Point)) → length labels ≡ length names → points_read OfLabel (label_curves names labels) ≡ labels
the_labels [] [] e = refl
the_labels [] (points ∷ labels) e = absurd (omega arith)
the_labels (name ∷ names) [] e = refl
the_labels (name ∷ names) (points ∷ labels) e = ap (λ l. points ∷ l) (the_labels names labels (omega arith))

the_inflows : (names : List Name) (inflows outflows : List Trace) (queues : List (List Point)) → length inflows ≡ length names
    → length outflows ≡ length names → length queues ≡ length names
    → traces_read OfInflow (link_curves names inflows outflows queues) ≡ inflows
the_inflows [] [] outflows queues e f g = refl
the_inflows [] (i ∷ inflows) outflows queues e f g = absurd (omega arith)
the_inflows (name ∷ names) [] outflows queues e f g = refl
the_inflows (name ∷ names) (i ∷ inflows) [] queues e f g = absurd (omega arith)
the_inflows (name ∷ names) (i ∷ inflows) (o ∷ outflows) [] e f g = absurd (omega arith)
the_inflows (name ∷ names) (i ∷ inflows) (o ∷ outflows) (q ∷ queues) e f g = ap (λ l. i ∷ l) (the_inflows names inflows outflows queues (omega arith) (omega arith) (omega arith))

the_outflows : (names : List Name) (inflows outflows : List Trace) (queues : List (List Point)) → length inflows ≡ length names
    → length outflows ≡ length names → length queues ≡ length names
    → traces_read OfOutflow (link_curves names inflows outflows queues) ≡ outflows
the_outflows [] inflows [] queues e f g = refl
the_outflows [] inflows (o ∷ outflows) queues e f g = absurd (omega arith)
the_outflows (name ∷ names) [] outflows queues e f g = absurd (omega arith)
the_outflows (name ∷ names) (i ∷ inflows) [] queues e f g = absurd (omega arith)
the_outflows (name ∷ names) (i ∷ inflows) (o ∷ outflows) [] e f g = absurd (omega arith)
the_outflows (name ∷ names) (i ∷ inflows) (o ∷ outflows) (q ∷ queues) e f g = ap (λ l. o ∷ l) (the_outflows names inflows outflows queues (omega arith) (omega arith) (omega arith))

the_queues : (names : List Name) (inflows outflows : List Trace) (queues : List (List Point)) → length inflows ≡ length names
    → length outflows ≡ length names → length queues ≡ length names
    → points_read OfQueue (link_curves names inflows outflows queues) ≡ queues
the_queues [] inflows outflows [] e f g = refl
the_queues [] inflows outflows (q ∷ queues) e f g = absurd (omega arith)
the_queues (name ∷ names) [] outflows queues e f g = absurd (omega arith)
the_queues (name ∷ names) (i ∷ inflows) [] queues e f g = absurd (omega arith)
the_queues (name ∷ names) (i ∷ inflows) (o ∷ outflows) [] e f g = absurd (omega arith)
the_queues (name ∷ names) (i ∷ inflows) (o ∷ outflows) (q ∷ queues) e f g = ap (λ l. q ∷ l) (the_queues names inflows outflows queues (omega arith) (omega arith) (omega arith))

-- the flow of these curves is that flow
pub record GivesFlow (curves : List ReadCurve) (flow : Flow) : Type 0 where
  pub labels : points_read OfLabel curves ≡ flow.labels
  pub inflows : traces_read OfInflow curves ≡ flow.inflows
  pub outflows : traces_read OfOutflow curves ≡ flow.outflows
  pub queues : points_read OfQueue curves ≡ flow.queues

pub gives_flow : (n : Named) (flow : Flow) → AreRead n flow → GivesFlow (curves_from n flow) flow
gives_flow n flow h =
    let a = label_curves n.node_names flow.labels in
    let b = never_curves n.idle_nodes in
    let c = link_curves n.link_names flow.inflows flow.outflows flow.queues in
    let parts : (kind : Kind) → curves_of_kind kind (a ++ b ++ c) ≡ curves_of_kind kind a ++ curves_of_kind kind b ++ curves_of_kind kind c =
    λ kind. filter-append (λ curve. bytes_eq (key_word curve.key.kind) (key_word kind)) (a ++ b) c
    ∙ ap (λ l. l ++ curves_of_kind kind c) (filter-append (λ curve. bytes_eq (key_word curve.key.kind) (key_word kind)) a b) in
    let of_links : (kind : Kind) → bytes_eq (codes "label") (key_word kind) ≡ false → bytes_eq (codes "never") (key_word kind) ≡ false → curves_of_kind kind (a ++ b ++ c) ≡ curves_of_kind kind c =
    λ kind e f. parts kind ∙ (λ i. no_label kind n.node_names flow.labels e i ++ no_never kind n.idle_nodes f i ++ curves_of_kind kind c) in
    record {
      labels = ap (map (λ curve. curve.points)) (parts OfLabel ∙ (λ i. curves_of_kind OfLabel a ++ no_never OfLabel n.idle_nodes refl i ++ no_link n.link_names
          flow.inflows flow.outflows flow.queues i) ∙ append-nil (curves_of_kind OfLabel a ++ []) ∙ append-nil (curves_of_kind OfLabel a))
          ∙ the_labels n.node_names flow.labels h.label_count;
      inflows = ap (map (λ curve. record { points = curve.points; rates = curve.rates })) (of_links OfInflow refl refl)
          ∙ the_inflows n.link_names flow.inflows flow.outflows flow.queues h.inflow_count h.outflow_count h.queue_count;
      outflows = ap (map (λ curve. record { points = curve.points; rates = curve.rates })) (of_links OfOutflow refl refl)
          ∙ the_outflows n.link_names flow.inflows flow.outflows flow.queues h.inflow_count h.outflow_count h.queue_count;
      queues = ap (map (λ curve. curve.points)) (of_links OfQueue refl refl)
          ∙ the_queues n.link_names flow.inflows flow.outflows flow.queues h.inflow_count h.outflow_count h.queue_count;
    }
