-- Curves with the keys of a network are the curves of a flow.
use Rattle.std.proofs.Common.{◌≡◌, suc, List, [], ◌∷◌, ◌++◌, length, map, refl, sym, ap, subst, ◌∙◌, append_assoc}
use Rattle.nf_report_laws.proofs.Common.{AllByRecursion, ℚ, Point, Trace, Flow, Name, Named, Kind, OfLabel, OfNever, OfInflow, OfOutflow, OfQueue, CurveKey}
use Rattle.nf_report_laws.proofs.Common.{key_of, curve_keys, ReadCurve}
use Rattle.nf_report_laws.proofs.ReportShape.{IsReadPoints, IsReadTrace, IsOfKind, IsRead, plain_curve, trace_curve, label_curves, never_curves, link_curves}
use Rattle.nf_report_laws.proofs.ReportShape.{curves_from, AreRead}
use Rattle.nf_report_laws.proofs.CurvesBack.{keys_of}
use Rattle.nf_report_laws.proofs.KeysBack.{link_keys}

first_is : (c : ReadCurve) (cs : List ReadCurve) (key : CurveKey) (keys : List CurveKey) → keys_of (c ∷ cs) ≡ key ∷ keys → (c.key ≡ key) × (keys_of cs ≡ keys)
first_is c cs key keys e = (cc, cc)

none_there : (key : CurveKey) (keys : List CurveKey) → [] ≡ key ∷ keys → ⊥
none_there key keys e = absurd (cc)

of_kind : (kind : Kind) (name : Name) (c : ReadCurve) → c.key ≡ key_of kind name → IsRead c → IsOfKind kind c.points c.rates
of_kind kind name c e h = subst (λ (key : CurveKey). IsOfKind key.kind c.points c.rates) e h

plain_is : (kind : Kind) (name : Name) (c : ReadCurve) → c.key ≡ key_of kind name → c.rates ≡ [] → c ≡ plain_curve kind name c.points
plain_is kind name c e f = λ i. record { key = e i; points = c.points; rates = f i }

trace_is : (kind : Kind) (name : Name) (c : ReadCurve) → c.key ≡ key_of kind name → c ≡ trace_curve kind name (record { points = c.points; rates = c.rates })
trace_is kind name c e = λ i. record { key = e i; points = c.points; rates = c.rates }

-- ---- labels
record Labels (names : List Name) (rest : List CurveKey) (cs : List ReadCurve) : Type 0 where
  pub labels : List (List Point)
  pub others : List ReadCurve
  pub is : cs ≡ label_curves names labels ++ others
  pub count : length labels ≡ length names
  pub read : AllByRecursion IsReadPoints labels
  pub others_read : AllByRecursion IsRead others
  pub keys : keys_of others ≡ rest

the_labels : (names : List Name) (rest : List CurveKey) (cs : List ReadCurve) → keys_of cs ≡ map (key_of OfLabel) names ++ rest → AllByRecursion IsRead cs → Labels names rest cs
the_labels [] rest cs e h = record { labels = []; others = cs; is = refl; count = refl; read = tt; others_read = h; keys = e }
the_labels (name ∷ names) rest [] e h = absurd (none_there _ _ e)
the_labels (name ∷ names) rest (c ∷ cs) e h =
    let f = first_is c cs (key_of OfLabel name) (map (key_of OfLabel) names ++ rest) e in
    let k = of_kind OfLabel name c f.0 h.0 in
    let w = the_labels names rest cs f.1 h.1 in
    record {
      labels = c.points ∷ w.labels;
      others = w.others;
      is = (λ i. plain_is OfLabel name c f.0 k.1 i ∷ w.is i);
      count = ap suc w.count;
      read =
          (k.0, w.read);
      others_read = w.others_read;
      keys = w.keys;
    }

-- ---- idle nodes
record Nevers (names : List Name) (rest : List CurveKey) (cs : List ReadCurve) : Type 0 where
  pub others : List ReadCurve
  pub is : cs ≡ never_curves names ++ others
  pub others_read : AllByRecursion IsRead others
  pub keys : keys_of others ≡ rest

the_nevers : (names : List Name) (rest : List CurveKey) (cs : List ReadCurve) → keys_of cs ≡ map (key_of OfNever) names ++ rest → AllByRecursion IsRead cs → Nevers names rest cs
the_nevers [] rest cs e h = record { others = cs; is = refl; others_read = h; keys = e }
the_nevers (name ∷ names) rest [] e h = absurd (none_there _ _ e)
the_nevers (name ∷ names) rest (c ∷ cs) e h =
    let f = first_is c cs (key_of OfNever name) (map (key_of OfNever) names ++ rest) e in
    let k = of_kind OfNever name c f.0 h.0 in
    let w = the_nevers names rest cs f.1 h.1 in
    record { others = w.others; is = (λ i. record { key = f.0 i; points = k.0 i; rates = k.1 i } ∷ w.is i); others_read = w.others_read; keys = w.keys }

-- ---- links
record Links (names : List Name) (cs : List ReadCurve) : Type 0 where
  pub inflows : List Trace
  pub outflows : List Trace
  pub queues : List (List Point)
  pub is : cs ≡ link_curves names inflows outflows queues
  pub inflow_count : length inflows ≡ length names
  pub outflow_count : length outflows ≡ length names
  pub queue_count : length queues ≡ length names
  pub inflows_read : AllByRecursion IsReadTrace inflows
  pub outflows_read : AllByRecursion IsReadTrace outflows
  pub queues_read : AllByRecursion IsReadPoints queues

no_more : (cs : List ReadCurve) → keys_of cs ≡ [] → cs ≡ []
no_more [] e = refl
no_more (c ∷ cs) e = absurd (none_there c.key (keys_of cs) (sym e))

the_links : (names : List Name) (cs : List ReadCurve) → keys_of cs ≡ link_keys names → AllByRecursion IsRead cs → Links names cs
the_links [] cs e h =
    record {
      inflows = [];
      outflows = [];
      queues = [];
      is = no_more cs e;
      inflow_count = refl;
      outflow_count = refl;
      queue_count = refl;
      inflows_read =
          tt;
      outflows_read = tt;
      queues_read = tt;
    }
the_links (name ∷ names) [] e h = absurd (none_there _ _ e)
the_links (name ∷ names) (a ∷ []) e h = absurd (none_there _ _ (first_is a [] _ _ e).1)
the_links (name ∷ names) (a ∷ b ∷ []) e h = absurd (none_there _ _ (first_is b [] _ _ (first_is a (b ∷ []) _ _ e).1).1)
the_links (name ∷ names) (a ∷ b ∷ c ∷ cs) e h =
    let f = first_is a (b ∷ c ∷ cs) (key_of OfInflow name) (key_of OfOutflow name ∷ key_of OfQueue name ∷ link_keys names) e in
    let g = first_is b (c ∷ cs) (key_of OfOutflow name) (key_of OfQueue name ∷ link_keys names) f.1 in
    let j = first_is c cs (key_of OfQueue name) (link_keys names) g.1 in
    let i_read = of_kind OfInflow name a f.0 h.0 in
    let o_read = of_kind OfOutflow name b g.0 h.1.0 in
    let q_read = of_kind OfQueue name c j.0 h.1.1.0 in
    let w = the_links names cs j.1 h.1.1.1 in
    record {
      inflows = record { points = a.points; rates = a.rates } ∷ w.inflows;
      outflows = record { points = b.points; rates = b.rates } ∷ w.outflows;
      queues = c.points ∷ w.queues;
      is = (λ i. trace_is OfInflow name a f.0 i ∷ trace_is OfOutflow name b g.0 i ∷ plain_is OfQueue name c j.0 q_read.1 i ∷ w.is i);
      inflow_count = ap suc w.inflow_count;
      outflow_count = ap suc w.outflow_count;
      queue_count = ap suc w.queue_count;
      inflows_read = (i_read, w.inflows_read);
      outflows_read = (o_read, w.outflows_read);
      queues_read = (q_read.0, w.queues_read);
    }

-- ---- all of them
pub record AreOfFlow (n : Named) (reached : ℚ) (cs : List ReadCurve) : Type 0 where
  pub flow : Flow
  pub reached_is : flow.reached ≡ reached
  pub is : cs ≡ curves_from n flow
  pub read : AreRead n flow

pub are_of_flow : (n : Named) (reached : ℚ) (cs : List ReadCurve) → keys_of cs ≡ curve_keys n → AllByRecursion IsRead cs → AreOfFlow n reached cs
are_of_flow n reached cs e h =
    let a = the_labels n.node_names (map (key_of OfNever) n.idle_nodes ++ link_keys n.link_names) cs
    (e ∙ append_assoc (map (key_of OfLabel) n.node_names) (map (key_of OfNever) n.idle_nodes) (link_keys n.link_names)) h in
    let b = the_nevers n.idle_nodes (link_keys n.link_names) a.others a.keys a.others_read in
    let c = the_links n.link_names b.others b.keys b.others_read in
    record {
      flow = record { reached = reached; labels = a.labels; inflows = c.inflows; outflows = c.outflows; queues = c.queues };
      reached_is = refl;
      is = a.is ∙ ap (λ l. label_curves n.node_names a.labels ++ l) (b.is ∙ ap (λ l. never_curves n.idle_nodes ++ l) c.is)
          ∙ sym (append_assoc (label_curves n.node_names a.labels) (never_curves n.idle_nodes) (link_curves n.link_names c.inflows c.outflows c.queues));
      read = record {
        label_count = a.count;
        inflow_count = c.inflow_count;
        outflow_count = c.outflow_count;
        queue_count = c.queue_count;
        labels = a.read;
        inflows = c.inflows_read;
        outflows = c.outflows_read;
        queues = c.queues_read;
      };
    }
