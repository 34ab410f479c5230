-- The curves of a flow have the keys of the network, no two neighbours of which are the same.
use Rattle.std.proofs.Common.{◌≡◌, ℕ, ◌==◌, Bool, true, false, List, [], ◌∷◌, ◌++◌, length, map, flat_map, Option, Some, None, refl, sym, ap, subst, ◌∙◌}
use Rattle.std.proofs.Common.{arith, bytes_eq, append_assoc}
use Rattle.nf_report_laws.proofs.Common.{AllByRecursion, eqb-true, map-append, Point, Trace, Flow, Name, with_names, without, Named, ends, IsNamed}
use Rattle.nf_report_laws.proofs.Common.{bytes_eq-self, Kind, OfLabel, OfNever, OfInflow, OfOutflow, OfQueue, CurveKey, key_of, curve_keys, ReadCurve}
use Rattle.nf_report_laws.proofs.Common.{every_append, not_both, distinct_left}
use Rattle.std.specs.List.{IsDistinct}
use Rattle.nf_report_laws.proofs.ReportShape.{IsReadPoints, IsReadTrace, IsRead, label_curves, never_curves, link_curves, curves_from, AreRead}
use Rattle.nf_report_laws.proofs.CurvesBack.{IsAllowed, Differ, Adjacent, keys_of}

-- ---- keys
label_keys : (names : List Name) (labels : List (List Point)) → length labels ≡ length names → keys_of (label_curves names labels) ≡ map (key_of OfLabel) names
label_keys [] labels e = refl
label_keys (name ∷ names) [] e = absurd (omega arith)
label_keys (name ∷ names) (points ∷ labels) e = ap (λ l. key_of OfLabel name ∷ l) (label_keys names labels (omega arith))

never_keys : (names : List Name) → keys_of (never_curves names) ≡ map (key_of OfNever) names
never_keys [] = refl
never_keys (name ∷ names) = ap (λ l. key_of OfNever name ∷ l) (never_keys names)

abbrev pub link_keys : List Name → List CurveKey
link_keys names = flat_map (λ name. key_of OfInflow name ∷ key_of OfOutflow name ∷ key_of OfQueue name ∷ []) names

the_link_keys : (names : List Name) (inflows outflows : List Trace) (queues : List (List Point)) → length inflows ≡ length names
    → length outflows ≡ length names → length queues ≡ length names
    → keys_of (link_curves names inflows outflows queues) ≡ link_keys names
the_link_keys [] inflows outflows queues e f g = refl
the_link_keys (name ∷ names) [] outflows queues e f g = absurd (omega arith)
the_link_keys (name ∷ names) (i ∷ inflows) [] queues e f g = absurd (omega arith)
the_link_keys (name ∷ names) (i ∷ inflows) (o ∷ outflows) [] e f g = absurd (omega arith)
the_link_keys (name ∷ names) (i ∷ inflows) (o ∷ outflows) (q ∷ queues) e f g =
    ap (λ l. key_of OfInflow name ∷ key_of OfOutflow name ∷ key_of OfQueue name ∷ l) (the_link_keys names inflows outflows queues (omega arith) (omega arith) (omega arith))

pub keys_from : (n : Named) (flow : Flow) → AreRead n flow → keys_of (curves_from n flow) ≡ curve_keys n
keys_from n flow h =
    let a = label_curves n.node_names flow.labels in
    let b = never_curves n.idle_nodes in
    let c = link_curves n.link_names flow.inflows flow.outflows flow.queues in
    map-append (λ curve. curve.key) (a ++ b) c ∙ ap (λ l. l ++ keys_of c) (map-append (λ curve. curve.key) a b)
    ∙ (λ i. label_keys n.node_names flow.labels h.label_count i ++ never_keys n.idle_nodes i ++ the_link_keys n.link_names flow.inflows flow.outflows
    flow.queues h.inflow_count h.outflow_count h.queue_count i)

-- ---- neighbours
apart : (kind : Kind) (x y : Name) → bytes_eq x y ≡ false → key_of kind x ≡ key_of kind y → ⊥
apart kind x y e same = not_both (bytes_eq x y) (subst (λ (z : Name). bytes_eq x z ≡ true) (ap (λ key. key.name) same) (bytes_eq-self x)) e

names_adjacent : (kind : Kind) (x : Name) (names : List Name) (rest : List CurveKey) → IsDistinct bytes_eq (x ∷ names) → ((y : Name) → Adjacent (Some (key_of kind y)) rest)
    → Adjacent (Some (key_of kind x)) (map (key_of kind) names ++ rest)
unfolding IsDistinct
names_adjacent kind x [] rest d h = h x
names_adjacent kind x (y ∷ names) rest d h = (apart kind x y d.0.0, names_adjacent kind y names rest d.1 h)

abbrev code : Kind → ℕ
code OfLabel = 0
code OfNever = 1
code OfInflow = 2
code OfOutflow = 3
code OfQueue = 4

other_kind : (a b : CurveKey) → (code a.kind ≡ code b.kind → ⊥) → a ≡ b → ⊥
other_kind a b h e = h (ap (λ key. code key.kind) e)

links_adjacent : (before : Option CurveKey) (names : List Name) → ((name : Name) → Differ before (key_of OfInflow name)) → Adjacent before (link_keys names)
links_adjacent before [] h = tt
links_adjacent before (name ∷ names) h = (
  h name,
  (
    other_kind (key_of OfInflow name) (key_of OfOutflow name) (λ e. absurd (omega arith)),
    (
      other_kind (key_of OfOutflow name) (key_of OfQueue name) (λ e. absurd (omega arith)),
      links_adjacent (Some (key_of OfQueue name)) names (λ other. other_kind (key_of OfQueue name) (key_of OfInflow other) (λ e. absurd (omega arith))),
    ),
  ),
)

distinct_right : (xs ys : List Name) → IsDistinct bytes_eq (xs ++ ys) → IsDistinct bytes_eq ys
unfolding IsDistinct
distinct_right [] ys d = d
distinct_right (x ∷ xs) ys d = distinct_right xs ys d.1

nevers_adjacent : (before : Option CurveKey) (idle names : List Name) → IsDistinct bytes_eq idle → ((name : Name) → Differ before (key_of OfNever name))
    → ((name : Name) → Differ before (key_of OfInflow name))
    → Adjacent before (map (key_of OfNever) idle ++ link_keys names)
nevers_adjacent before [] names d h k = links_adjacent before names k
nevers_adjacent before (x ∷ idle) names d h k = (
  h x,
  names_adjacent OfNever x idle (link_keys names) d (λ y. links_adjacent (Some (key_of OfNever y)) names
      (λ name. other_kind (key_of OfNever y) (key_of OfInflow name) (λ e. absurd (omega arith)))),
)

all_adjacent : (nodes idle names : List Name) → IsDistinct bytes_eq (nodes ++ idle) → Adjacent None (map (key_of OfLabel) nodes ++ (map (key_of OfNever) idle ++ link_keys names))
all_adjacent [] idle names d = nevers_adjacent None idle names d (λ name. tt) (λ name. tt)
all_adjacent (x ∷ nodes) idle names d = (
  tt,
  names_adjacent OfLabel x nodes (map (key_of OfNever) idle ++ link_keys names) (distinct_left (x ∷ nodes) idle d) (λ y.
      nevers_adjacent (Some (key_of OfLabel y)) idle names (distinct_right (x ∷ nodes) idle d)
      (λ name. other_kind (key_of OfLabel y) (key_of OfNever name) (λ e. absurd (omega arith)))
      (λ name. other_kind (key_of OfLabel y) (key_of OfInflow name) (λ e. absurd (omega arith)))),
)

pub keys_adjacent : (n : Named) → IsNamed n → Adjacent None (curve_keys n)
keys_adjacent n h = subst (Adjacent None) (sym (append_assoc (map (key_of OfLabel) n.node_names) (map (key_of OfNever) n.idle_nodes) (link_keys n.link_names)))
    (all_adjacent n.node_names n.idle_nodes n.link_names h.node_names.distinct)

-- ---- what holds of each curve
labels_are : (names : List Name) (labels : List (List Point)) → AllByRecursion IsReadPoints labels → AllByRecursion IsRead (label_curves names labels)
labels_are [] labels h = tt
labels_are (name ∷ names) [] h = tt
labels_are (name ∷ names) (points ∷ labels) h = ((h.0, refl), labels_are names labels h.1)

nevers_are : (names : List Name) → AllByRecursion IsRead (never_curves names)
nevers_are [] = tt
nevers_are (name ∷ names) = ((refl, refl), nevers_are names)

links_are : (names : List Name) (inflows outflows : List Trace) (queues : List (List Point)) → AllByRecursion IsReadTrace inflows
    → AllByRecursion IsReadTrace outflows → AllByRecursion IsReadPoints queues
    → AllByRecursion IsRead (link_curves names inflows outflows queues)
links_are [] inflows outflows queues h k l = tt
links_are (name ∷ names) [] outflows queues h k l = tt
links_are (name ∷ names) (i ∷ inflows) [] queues h k l = tt
links_are (name ∷ names) (i ∷ inflows) (o ∷ outflows) [] h k l = tt
links_are (name ∷ names) (i ∷ inflows) (o ∷ outflows) (q ∷ queues) h k l = (h.0, (k.0, ((l.0, refl), links_are names inflows outflows queues h.1 k.1 l.1)))

pub curves_are : (n : Named) (flow : Flow) → AreRead n flow → AllByRecursion IsRead (curves_from n flow)
curves_are n flow h =
    every_append IsRead (label_curves n.node_names flow.labels ++ never_curves n.idle_nodes) (link_curves n.link_names flow.inflows flow.outflows flow.queues)
    (every_append IsRead (label_curves n.node_names flow.labels) (never_curves n.idle_nodes) (labels_are n.node_names flow.labels h.labels) (nevers_are n.idle_nodes))
    (links_are n.link_names flow.inflows flow.outflows flow.queues h.inflows h.outflows h.queues)

-- ---- `never` stands in version 2 alone
abbrev Allowed : ℕ → ReadCurve → Type 0
Allowed version c = IsAllowed version c.key.kind

labels_allowed : (version : ℕ) (names : List Name) (labels : List (List Point)) → AllByRecursion (Allowed version) (label_curves names labels)
labels_allowed version [] labels = tt
labels_allowed version (name ∷ names) [] = tt
labels_allowed version (name ∷ names) (points ∷ labels) = (tt, labels_allowed version names labels)

links_allowed : (version : ℕ) (names : List Name) (inflows outflows : List Trace) (queues : List (List Point))
    → AllByRecursion (Allowed version) (link_curves names inflows outflows queues)
links_allowed version [] inflows outflows queues = tt
links_allowed version (name ∷ names) [] outflows queues = tt
links_allowed version (name ∷ names) (i ∷ inflows) [] queues = tt
links_allowed version (name ∷ names) (i ∷ inflows) (o ∷ outflows) [] = tt
links_allowed version (name ∷ names) (i ∷ inflows) (o ∷ outflows) (q ∷ queues) = (tt, (tt, (tt, links_allowed version names inflows outflows queues)))

nevers_allowed : (version : ℕ) (names : List Name) → (version == 1) ≡ false → AllByRecursion (Allowed version) (never_curves names)
nevers_allowed version [] e = tt
nevers_allowed version (name ∷ names) e = (e, nevers_allowed version names e)

idle_allowed : (n : Named) → IsNamed n → (b : Bool) → (n.version == 1) ≡ b → AllByRecursion (Allowed n.version) (never_curves n.idle_nodes)
idle_allowed n h true e =
    let none : n.idle_nodes ≡ [] = h.numbered.idle_order ∙ ap (λ links. without n.node_names (with_names [] (ends links))) (h.idle (eqb-true n.version 1 e)) in
    subst (λ (names : List Name). AllByRecursion (Allowed n.version) (never_curves names)) (sym none) tt
idle_allowed n h false e = nevers_allowed n.version n.idle_nodes e

pub curves_allowed : (n : Named) (flow : Flow) → IsNamed n → AllByRecursion (λ c. IsAllowed n.version c.key.kind) (curves_from n flow)
curves_allowed n flow h =
    every_append (Allowed n.version) (label_curves n.node_names flow.labels ++ never_curves n.idle_nodes) (link_curves n.link_names flow.inflows flow.outflows flow.queues)
    (every_append (Allowed n.version) (label_curves n.node_names flow.labels) (never_curves n.idle_nodes)
    (labels_allowed n.version n.node_names flow.labels) (idle_allowed n h (n.version == 1) refl))
    (links_allowed n.version n.link_names flow.inflows flow.outflows flow.queues)
