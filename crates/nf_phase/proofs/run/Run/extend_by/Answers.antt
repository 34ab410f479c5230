use Rattle.std.proofs.Common.{◌≡◌, ◌+◌, List, length, suc, add-one, refl, sym, ap, ◌∙◌, arith}
use Rattle.nf_phase.proofs.Common.{length-map, with_items_is, ℚ, passes_Q, number_at, LinkStep, GrowingCurve, LinkCurves, Standing, nothing_given}
use Rattle.nf_phase.proofs.Common.{holds_anyway, Roomy, all_grown}
use Rattle.std.specs.Vec.{with_items}
use Rattle.nf_phase.specs.contracts.run.Run.{the_view}
use Rattle.nf_phase.proofs.Standings.{same_standing}
use Rattle.nf_phase.proofs.Stepped.{curve_count, link_count, new_label_count, slope_count, step_count, source_next, labels_later, links_later, new_standing}
use Rattle.nf_phase.proofs.run.Run.extend_by.Goals as goal

pub returns-in_err-reserve_labels-clause-kept : goal.returns-in_err-reserve_labels-clause-kept
returns-in_err-reserve_labels-clause-kept c = holds_anyway c.from_residual.result _
    (same_standing (the_view c.self.inside) c.args.self.now (all_grown (with_items c.self.inside.label_curves c.reserve_labels.new.curves).items)
    (all_grown c.self.inside.link_curves.items)
    (ap all_grown (with_items_is c.self.inside.label_curves c.reserve_labels.new.curves (c.reserve_labels.auto.curves ∙ c.deref_mut.ensures.len))
    ∙ c.in_err-reserve_labels.ensures.same ∙ ap all_grown c.deref_mut.ensures.value)
    refl c.self.view_is)

pub returns-in_err-reserve_links-clause-kept : goal.returns-in_err-reserve_links-clause-kept
returns-in_err-reserve_links-clause-kept c = holds_anyway c.from_residual-in_err-reserve_links.result _
    (same_standing (the_view c.self.inside) c.args.self.now (all_grown (with_items c.self.inside.label_curves c.reserve_labels.new.curves).items)
    (all_grown (with_items c.self.inside.link_curves c.reserve_links.new.curves).items)
    (ap all_grown (with_items_is c.self.inside.label_curves c.reserve_labels.new.curves (c.reserve_labels.auto.curves ∙ c.deref_mut.ensures.len))
    ∙ c.in_ok-reserve_labels.ensures.same ∙ ap all_grown c.deref_mut.ensures.value)
    (ap all_grown (with_items_is c.self.inside.link_curves c.reserve_links.new.curves (c.reserve_links.auto.curves ∙ c.deref_mut-2.ensures.len))
    ∙ c.in_err-reserve_links.ensures.same ∙ ap all_grown c.deref_mut-2.ensures.value)
    c.self.view_is)

pub returns-in_err-reserve_labels-clause-made : goal.returns-in_err-reserve_labels-clause-made
returns-in_err-reserve_labels-clause-made c = nothing_given c.from_residual.result _ c.from_residual.ensures.0

pub returns-in_err-reserve_links-clause-made : goal.returns-in_err-reserve_links-clause-made
returns-in_err-reserve_links-clause-made c = nothing_given c.from_residual-in_err-reserve_links.result _ c.from_residual-in_err-reserve_links.ensures.0

pub departure_in-reached-requires : goal.departure_in-reached-requires
departure_in-reached-requires c =
    ap (λ (l : List ℚ). length l) c.deref.ensures.value ∙ new_label_count passes_Q c.args.net.now.net c.requires.named.network c.requires.leads.0
    c.requires.leads.1 c.args.self.now c.requires.reaches c.args.phase c.requires.leads.2

pub extend_labels-requires-clause-labels : goal.extend_labels-requires-clause-labels
extend_labels-requires-clause-labels c =
    ap (λ (l : List ℚ). length l) c.deref-2.ensures.value ∙ new_label_count passes_Q c.args.net.now.net c.requires.named.network c.requires.leads.0
    c.requires.leads.1 c.args.self.now c.requires.reaches c.args.phase c.requires.leads.2
    ∙ sym (curve_count passes_Q c.args.net.now.net c.requires.named.network c.requires.leads.0 c.requires.leads.1 c.args.self.now c.requires.reaches
    c.args.phase c.requires.leads.2) ∙ ap (λ (l : List GrowingCurve). length l)
    (sym (ap all_grown (c.deref_mut-3.ensures.value ∙ with_items_is c.self.inside.label_curves c.reserve_labels.new.curves
    (c.reserve_labels.auto.curves ∙ c.deref_mut.ensures.len)) ∙ c.in_ok-reserve_labels.ensures.same ∙ ap all_grown c.deref_mut.ensures.value
    ∙ ap (λ (s : Standing). s.label_curves) c.self.view_is))
    ∙ length-map c.deref_mut-3.result.now (λ (r : Roomy GrowingCurve). r.grown)

pub extend_labels-requires-clause-slopes : goal.extend_labels-requires-clause-slopes
extend_labels-requires-clause-slopes c =
    ap (λ (l : List ℚ). length l) c.deref-3.ensures.value ∙ slope_count passes_Q c.args.net.now.net c.requires.named.network c.requires.leads.0
    c.requires.leads.1 c.args.self.now c.requires.reaches c.args.phase c.requires.leads.2
    ∙ sym (curve_count passes_Q c.args.net.now.net c.requires.named.network c.requires.leads.0 c.requires.leads.1 c.args.self.now c.requires.reaches
    c.args.phase c.requires.leads.2) ∙ ap (λ (l : List GrowingCurve). length l)
    (sym (ap all_grown (c.deref_mut-3.ensures.value ∙ with_items_is c.self.inside.label_curves c.reserve_labels.new.curves
    (c.reserve_labels.auto.curves ∙ c.deref_mut.ensures.len)) ∙ c.in_ok-reserve_labels.ensures.same ∙ ap all_grown c.deref_mut.ensures.value
    ∙ ap (λ (s : Standing). s.label_curves) c.self.view_is))
    ∙ length-map c.deref_mut-3.result.now (λ (r : Roomy GrowingCurve). r.grown)

pub extend_labels-requires-clause-room : goal.extend_labels-requires-clause-room
extend_labels-requires-clause-room c =
    rw (c.deref_mut-3.ensures.value ∙ with_items_is c.self.inside.label_curves c.reserve_labels.new.curves
    (c.reserve_labels.auto.curves ∙ c.deref_mut.ensures.len)) c.in_ok-reserve_labels.ensures.room

pub extend_labels-requires-clause-later : goal.extend_labels-requires-clause-later
extend_labels-requires-clause-later c =
    rw ((ap all_grown (c.deref_mut-3.ensures.value ∙ with_items_is c.self.inside.label_curves c.reserve_labels.new.curves
    (c.reserve_labels.auto.curves ∙ c.deref_mut.ensures.len)) ∙ c.in_ok-reserve_labels.ensures.same ∙ ap all_grown c.deref_mut.ensures.value
    ∙ ap (λ (s : Standing). s.label_curves) c.self.view_is)) (labels_later passes_Q c.args.net.now.net c.requires.named.network c.requires.leads.0
    c.requires.leads.1 c.args.self.now c.requires.reaches c.args.phase c.requires.leads.2 c.departure_in-reached.result
    (c.departure_in-reached.ensures ∙ ap (λ (l : List ℚ). number_at l c.args.net.now.net.source) c.deref.ensures.value
    ∙ source_next passes_Q c.args.net.now.net c.requires.named.network c.requires.leads.0 c.requires.leads.1 c.args.self.now c.requires.reaches
    c.args.phase c.requires.leads.2))

pub extend_links-requires-clause-labels : goal.extend_links-requires-clause-labels
extend_links-requires-clause-labels c =
    ap (λ (l : List ℚ). length l) c.deref-4.ensures.value ∙ new_label_count passes_Q c.args.net.now.net c.requires.named.network c.requires.leads.0
    c.requires.leads.1 c.args.self.now c.requires.reaches c.args.phase c.requires.leads.2

pub extend_links-requires-clause-curves : goal.extend_links-requires-clause-curves
extend_links-requires-clause-curves c =
    sym (length-map c.deref_mut-4.result.now (λ (r : Roomy LinkCurves). r.grown))
    ∙ ap (λ (l : List LinkCurves). length l) (ap all_grown (c.deref_mut-4.ensures.value
    ∙ with_items_is c.self.inside.link_curves c.reserve_links.new.curves (c.reserve_links.auto.curves ∙ c.deref_mut-2.ensures.len))
    ∙ c.in_ok-reserve_links.ensures.same ∙ ap all_grown c.deref_mut-2.ensures.value ∙ ap (λ (s : Standing). s.link_curves) c.self.view_is)
    ∙ link_count passes_Q c.args.net.now.net c.requires.named.network c.requires.leads.0 c.requires.leads.1 c.args.self.now c.requires.reaches
    c.args.phase c.requires.leads.2

pub extend_links-requires-clause-steps : goal.extend_links-requires-clause-steps
extend_links-requires-clause-steps c =
    ap (λ (l : List LinkStep). length l) c.deref-5.ensures.value ∙ step_count passes_Q c.args.net.now.net c.requires.named.network c.requires.leads.0
    c.requires.leads.1 c.args.self.now c.requires.reaches c.args.phase c.requires.leads.2

pub extend_links-requires-clause-room : goal.extend_links-requires-clause-room
extend_links-requires-clause-room c =
    rw (c.deref_mut-4.ensures.value ∙ with_items_is c.self.inside.link_curves c.reserve_links.new.curves
    (c.reserve_links.auto.curves ∙ c.deref_mut-2.ensures.len)) c.in_ok-reserve_links.ensures.room

pub extend_links-requires-clause-later : goal.extend_links-requires-clause-later
extend_links-requires-clause-later c =
    rw (
      c.deref-4.ensures.value,
      c.deref-5.ensures.value,
      (ap all_grown (c.deref_mut-4.ensures.value
          ∙ with_items_is c.self.inside.link_curves c.reserve_links.new.curves (c.reserve_links.auto.curves ∙ c.deref_mut-2.ensures.len))
          ∙ c.in_ok-reserve_links.ensures.same ∙ ap all_grown c.deref_mut-2.ensures.value ∙ ap (λ (s : Standing). s.link_curves) c.self.view_is),
    )
    (links_later passes_Q c.args.net.now.net c.requires.named.network c.requires.leads.0 c.requires.leads.1 c.args.self.now c.requires.reaches
    c.args.phase c.requires.leads.2)

pub returns-clause-made : goal.returns-clause-made
returns-clause-made c =
    new_standing passes_Q c.args.net.now.net c.requires.named.network c.requires.leads.0 c.requires.leads.1 c.args.self.now c.requires.reaches c.args.phase
    c.requires.leads.2 c.departure_in-reached.result (all_grown (with_items
    (with_items c.self.inside.label_curves c.reserve_labels.new.curves) c.extend_labels.new.curves).items)
    (all_grown (with_items (with_items c.self.inside.link_curves c.reserve_links.new.curves) c.extend_links.new.curves).items)
    (c.self.inside.made + 1) c.args.phase.thin.pattern
    (c.departure_in-reached.ensures ∙ ap (λ (l : List ℚ). number_at l c.args.net.now.net.source) c.deref.ensures.value
    ∙ source_next passes_Q c.args.net.now.net c.requires.named.network c.requires.leads.0 c.requires.leads.1 c.args.self.now c.requires.reaches
    c.args.phase c.requires.leads.2)
    (ap all_grown (with_items_is (with_items c.self.inside.label_curves c.reserve_labels.new.curves) c.extend_labels.new.curves
    (c.extend_labels.auto.curves ∙ c.deref_mut-3.ensures.len)) ∙ c.extend_labels.ensures
    ∙ rw (
      c.deref-2.ensures.value,
      c.deref-3.ensures.value,
      (ap all_grown
          (c.deref_mut-3.ensures.value ∙ with_items_is c.self.inside.label_curves c.reserve_labels.new.curves
          (c.reserve_labels.auto.curves ∙ c.deref_mut.ensures.len)) ∙ c.in_ok-reserve_labels.ensures.same ∙ ap all_grown c.deref_mut.ensures.value
          ∙ ap (λ (s : Standing). s.label_curves) c.self.view_is),
    ) refl)
    (ap all_grown (with_items_is (with_items c.self.inside.link_curves c.reserve_links.new.curves) c.extend_links.new.curves
    (c.extend_links.auto.curves ∙ c.deref_mut-4.ensures.len)) ∙ c.extend_links.ensures
    ∙ rw (
      c.deref-4.ensures.value,
      c.deref-5.ensures.value,
      (ap all_grown
          (c.deref_mut-4.ensures.value ∙ with_items_is c.self.inside.link_curves c.reserve_links.new.curves
          (c.reserve_links.auto.curves ∙ c.deref_mut-2.ensures.len)) ∙ c.in_ok-reserve_links.ensures.same ∙ ap all_grown c.deref_mut-2.ensures.value
          ∙ ap (λ (s : Standing). s.link_curves) c.self.view_is),
    ) refl)
    (add-one c.self.inside.made ∙ ap (λ (s : Standing). suc s.made) c.self.view_is) refl

pub overflow_add-self : goal.overflow_add-self
overflow_add-self c =
    let same : c.self.inside.made ≡ c.args.self.now.made = ap (λ (s : Standing). s.made) c.self.view_is in
    let more = c.requires.more in
    omega arith
