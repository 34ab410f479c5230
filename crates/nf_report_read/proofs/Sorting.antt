-- Curves that are put behind the others of their kind.
use Rattle.std.proofs.Common.{◌≡◌, ℕ, ◌<◌, Bool, true, false, cond, List, [], ◌∷◌, ◌++◌, length, map, Option, Some, None, option_map, refl, sym, ap, subst}
use Rattle.std.proofs.Common.{◌∙◌, arith, append-nil, bytes_eq, unwrap_or}
use Rattle.nf_report_read.proofs.Common.{slice_get_within, map-append, Trace, Named, IsNamed, CurveKey, ReadCurve, key_of, key_word, curve_keys, OfNever}
use Rattle.nf_report_read.proofs.Common.{curves_of_kind, key_at, key_of_number, seen_key, seen_kind, seen_curve, seen_done, AreSorted, pushed}
use Rattle.nf_rational_laws.proofs.Entries.{entry}
use Rattle.nf_curve.specs.Flows.{seen_trace}
use Rattle.nf_curve.specs.declared.flow.Flow.{Flow}
use Rattle.nf_net.proofs.Limits.{few_nodes, few_idle_nodes, few_link_names}
use Rattle.nf_report_def.specs.ReportLines as lines
use Rattle.nf_report_lines.specs.declared.keys.Key.{Key}
use Rattle.nf_report_lines.proofs.KeyNumbers.{length_curve_keys}

-- the key of a number that has one
module _ (n : Named) (index : ℕ) (key : Key) (is : option_map seen_key (Some key) ≡ key_of_number n index) where
  pub kind_here : (key_at n index).kind ≡ seen_kind key.kind
  kind_here = sym (ap (λ (o : Option CurveKey). (unwrap_or o (key_of OfNever [])).kind) is)

  pub few_here : IsNamed n → index < 1000
  few_here h =
      let within : index < length (curve_keys n) = slice_get_within (curve_keys n) index (seen_key key) (sym is) in
      let a = few_nodes n h in
      let b = few_idle_nodes n h in
      let d = few_link_names n h in
      let e = length_curve_keys n in
      omega (arith, within, a, b, d, e)

-- each curve of a network has a key
pub key_there : (n : Named) (index : ℕ) → index < length (curve_keys n) → None ≡ key_of_number n index → ⊥
key_there n index inside none = by_entry (entry (curve_keys n) index inside)
  where
    by_entry : (key : CurveKey) × (key_of_number n index ≡ Some key) → ⊥
    by_entry w = other w.0 (none ∙ w.1)
      where
        other : (key : CurveKey) → None ≡ Some key → ⊥
        other key e = cc

pub one_more_sorted : (n : Named) (curves : List (Option Trace)) (curve : Option Trace) (index : ℕ) (flow : Flow) → index ≡ length curves
    → AreSorted (seen_done n 0 curves ++ seen_curve (key_at n index) curve ∷ []) flow → AreSorted (seen_done n 0 (curves ++ curve ∷ [])) flow
one_more_sorted n curves curve index flow at h =
    subst (λ (l : List ReadCurve). AreSorted l flow)
    (ap (λ (k : ℕ). seen_done n 0 curves ++ seen_curve (key_at n k) curve ∷ []) at ∙ sym (pushed n curves curve)) h

-- ---- a curve behind those of its kind
is_kind : lines.Kind → ReadCurve → Bool
is_kind kind curve = bytes_eq (key_word curve.key.kind) (key_word kind)

curves_of_kind-push : (kind : lines.Kind) (curves : List ReadCurve) (curve : ReadCurve) (found : Bool) → is_kind kind curve ≡ found
    → curves_of_kind kind (curves ++ curve ∷ []) ≡ curves_of_kind kind curves ++ cond found (curve ∷ []) []
unfolding is_kind
curves_of_kind-push kind [] curve found e = ap (λ (b : Bool). cond b (curve ∷ []) []) e
curves_of_kind-push kind (x ∷ curves) curve found e = step (bytes_eq (key_word x.key.kind) (key_word kind)) _ _ _ (curves_of_kind-push kind curves curve found e)
  where
    step : (b : Bool) (more all rest : List ReadCurve) → more ≡ all ++ rest → cond b (x ∷ more) more ≡ cond b (x ∷ all) all ++ rest
    step true more all rest h = ap (λ (l : List ReadCurve). x ∷ l) h
    step false more all rest h = h

module _ {A : Type 0} (f : ReadCurve → A) (kind : lines.Kind) (curves : List ReadCurve) (curve : ReadCurve) (items : List A) (so_far : items ≡ map f (curves_of_kind kind curves)) where
  with_it : is_kind kind curve ≡ true → items ++ f curve ∷ [] ≡ map f (curves_of_kind kind (curves ++ curve ∷ []))
  with_it e = sym (ap (map f) (curves_of_kind-push kind curves curve true e) ∙ map-append f (curves_of_kind kind curves) (curve ∷ []) ∙ ap (λ (l : List A). l ++ f curve ∷ []) (sym so_far))

  without_it : is_kind kind curve ≡ false → items ≡ map f (curves_of_kind kind (curves ++ curve ∷ []))
  without_it e = so_far ∙ sym (ap (map f) (curves_of_kind-push kind curves curve false e ∙ append-nil (curves_of_kind kind curves)))

module _ (curves : List ReadCurve) (key : CurveKey) (trace : Trace) (old now : Flow) (are : AreSorted curves old) where
  abbrev here : ReadCurve
  here = seen_curve key (Some trace)

  tells : (kind other : lines.Kind) (b : Bool) → key.kind ≡ kind → bytes_eq (key_word kind) (key_word other) ≡ b → is_kind other here ≡ b
  unfolding is_kind
  tells kind other b k e = ap (λ (kind : lines.Kind). bytes_eq (key_word kind) (key_word other)) k ∙ e

  pub label_put : key.kind ≡ lines.OfLabel → now.labels.items ≡ old.labels.items ++ trace.curve ∷ []
      → AreSorted (curves ++ here ∷ []) (record { reached = old.reached; labels = now.labels; inflows = old.inflows; outflows = old.outflows; queues = old.queues })
  label_put k e = record {
    all_labels = ap (map (λ c. c.points)) e ∙ map-append (λ c. c.points) old.labels.items (trace.curve ∷ [])
        ∙ with_it (λ (c : ReadCurve). c.points) lines.OfLabel curves here _ are.all_labels (tells lines.OfLabel lines.OfLabel true k refl);
    all_inflows = without_it (λ (c : ReadCurve). record { points = c.points; rates = c.rates }) lines.OfInflow curves here _ are.all_inflows
        (tells lines.OfLabel lines.OfInflow false k refl);
    all_outflows = without_it (λ (c : ReadCurve). record { points = c.points; rates = c.rates }) lines.OfOutflow curves here _ are.all_outflows
        (tells lines.OfLabel lines.OfOutflow false k refl);
    all_queues = without_it (λ (c : ReadCurve). c.points) lines.OfQueue curves here _ are.all_queues (tells lines.OfLabel lines.OfQueue false k refl);
  }

  pub inflow_put : key.kind ≡ lines.OfInflow → now.inflows.items ≡ old.inflows.items ++ trace ∷ []
      → AreSorted (curves ++ here ∷ []) (record { reached = old.reached; labels = old.labels; inflows = now.inflows; outflows = old.outflows; queues = old.queues })
  inflow_put k e = record {
    all_labels = without_it (λ (c : ReadCurve). c.points) lines.OfLabel curves here _ are.all_labels (tells lines.OfInflow lines.OfLabel false k refl);
    all_inflows = ap (map seen_trace) e ∙ map-append seen_trace old.inflows.items (trace ∷ [])
        ∙ with_it (λ (c : ReadCurve). record { points = c.points; rates = c.rates }) lines.OfInflow curves here _ are.all_inflows (tells lines.OfInflow lines.OfInflow true k refl);
    all_outflows = without_it (λ (c : ReadCurve). record { points = c.points; rates = c.rates }) lines.OfOutflow curves here _ are.all_outflows
        (tells lines.OfInflow lines.OfOutflow false k refl);
    all_queues = without_it (λ (c : ReadCurve). c.points) lines.OfQueue curves here _ are.all_queues (tells lines.OfInflow lines.OfQueue false k refl);
  }

  pub outflow_put : key.kind ≡ lines.OfOutflow → now.outflows.items ≡ old.outflows.items ++ trace ∷ []
      → AreSorted (curves ++ here ∷ []) (record { reached = old.reached; labels = old.labels; inflows = old.inflows; outflows = now.outflows; queues = old.queues })
  outflow_put k e = record {
    all_labels = without_it (λ (c : ReadCurve). c.points) lines.OfLabel curves here _ are.all_labels (tells lines.OfOutflow lines.OfLabel false k refl);
    all_inflows = without_it (λ (c : ReadCurve). record { points = c.points; rates = c.rates }) lines.OfInflow curves here _ are.all_inflows
        (tells lines.OfOutflow lines.OfInflow false k refl);
    all_outflows = ap (map seen_trace) e ∙ map-append seen_trace old.outflows.items (trace ∷ [])
        ∙ with_it (λ (c : ReadCurve). record { points = c.points; rates = c.rates }) lines.OfOutflow curves here _ are.all_outflows (tells lines.OfOutflow lines.OfOutflow true k refl);
    all_queues = without_it (λ (c : ReadCurve). c.points) lines.OfQueue curves here _ are.all_queues (tells lines.OfOutflow lines.OfQueue false k refl);
  }

  pub queue_put : key.kind ≡ lines.OfQueue → now.queues.items ≡ old.queues.items ++ trace.curve ∷ []
      → AreSorted (curves ++ here ∷ []) (record { reached = old.reached; labels = old.labels; inflows = old.inflows; outflows = old.outflows; queues = now.queues })
  queue_put k e = record {
    all_labels = without_it (λ (c : ReadCurve). c.points) lines.OfLabel curves here _ are.all_labels (tells lines.OfQueue lines.OfLabel false k refl);
    all_inflows = without_it (λ (c : ReadCurve). record { points = c.points; rates = c.rates }) lines.OfInflow curves here _ are.all_inflows
        (tells lines.OfQueue lines.OfInflow false k refl);
    all_outflows = without_it (λ (c : ReadCurve). record { points = c.points; rates = c.rates }) lines.OfOutflow curves here _ are.all_outflows
        (tells lines.OfQueue lines.OfOutflow false k refl);
    all_queues = ap (map (λ c. c.points)) e ∙ map-append (λ c. c.points) old.queues.items (trace.curve ∷ [])
        ∙ with_it (λ (c : ReadCurve). c.points) lines.OfQueue curves here _ are.all_queues (tells lines.OfQueue lines.OfQueue true k refl);
  }
