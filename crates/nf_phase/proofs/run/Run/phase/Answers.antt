use Rattle.std.proofs.Common.{List, length, Ok, refl, sym, ap, ◌∙◌}
use Rattle.nf_phase.proofs.Common.{IfOk-from_err, ℚ, passes_Q, Sets, Advanced, Standing, all_grown, StepFault}
use Rattle.nf_phase.proofs.Found.{by_fault}
use Rattle.nf_phase.proofs.Reached.{active_count}
use Rattle.nf_phase.proofs.PhaseFound.{slack_count, thin_slope_count, thin_flow_count, pattern_count, counts_agree, amounts_count, extension_stops}
use Rattle.nf_phase.proofs.PhaseFound.{advance_stops, end_count, curve_stops, lasts, lists_go, leads_on}
use Rattle.nf_phase.proofs.run.Run.phase.Goals as goal

pub extension-requires-clause-slacks : goal.extension-requires-clause-slacks
extension-requires-clause-slacks c =
    slack_count passes_Q c.args.net.now.net c.requires.found.0 c.args.self.now c.args.found c.requires.found.1 c.deref.result.now c.deref.ensures.value

pub extension-requires-clause-slopes : goal.extension-requires-clause-slopes
extension-requires-clause-slopes c =
    thin_slope_count passes_Q c.args.net.now.net c.requires.found.0 c.args.self.now c.args.found c.requires.found.1 c.deref-2.result.now
    c.deref-2.ensures.value

pub returns-in_err-extension-clause-cause : goal.returns-in_err-extension-clause-cause
returns-in_err-extension-clause-cause c =
    extension_stops passes_Q c.args.net.now.net c.requires.named.network c.args.horizon c.requires.found.0 c.args.self.now c.requires.reaches c.args.found c.requires.found.1
    c.deref.result.now c.deref-2.result.now c.self.inside.reached c.deref.ensures.value c.deref-2.ensures.value
    (ap (λ (s : Standing). s.time) c.self.view_is) c.in_err-extension.field-0.0 c.in_err-extension.ensures.list c.from_residual.result
    c.from_residual.ensures.1

pub advance-requires : goal.advance-requires
advance-requires c =
    counts_agree passes_Q c.args.net.now.net c.requires.named.network c.args.horizon c.requires.found.0 c.args.self.now c.requires.reaches c.args.found
    c.requires.found.1 c.deref-3.result.now c.deref-4.result.now
    (c.deref-3.ensures.value ∙ ap (λ (s : Standing). s.labels) c.self.view_is) c.deref-4.ensures.value

pub returns-in_err-end-clause-cause : goal.returns-in_err-end-clause-cause
returns-in_err-end-clause-cause c =
    advance_stops passes_Q c.args.net.now.net c.requires.named.network c.args.horizon c.requires.found.0 c.args.self.now c.requires.reaches c.args.found c.requires.found.1
    c.deref.result.now c.deref-2.result.now c.self.inside.reached c.deref.ensures.value c.deref-2.ensures.value
    (ap (λ (s : Standing). s.time) c.self.view_is) c.in_ok-extension.extension c.in_ok-extension.ensures.list
    c.deref-3.result.now c.deref-4.result.now (c.deref-3.ensures.value ∙ ap (λ (s : Standing). s.labels) c.self.view_is) c.deref-4.ensures.value
    c.in_err-end.field-0.0 c.in_err-end.ensures c.from_residual-in_err-end.result c.from_residual-in_err-end.ensures.1

pub returns-in_err-amounts-clause-cause : goal.returns-in_err-amounts-clause-cause
returns-in_err-amounts-clause-cause c = by_fault c.from_residual-in_err-amounts.result StepFault.Memory _ c.from_residual-in_err-amounts.ensures.1 tt

pub invariant_of-phase : goal.invariant_of-phase
invariant_of-phase c = record {
  set_count = ap (λ (s : Sets). length s.active) c.requires.found.1.sets ∙ active_count c.args.net.now.net c.args.self.now.labels;
  state_count =
      pattern_count passes_Q c.args.net.now.net c.requires.named.network c.args.horizon c.requires.found.0 c.args.self.now c.requires.reaches
      c.args.found c.requires.found.1;
  flow_count = thin_flow_count passes_Q c.args.net.now.net c.requires.found.0 c.args.self.now c.args.found c.requires.found.1 c.deref-6.result.now c.deref-6.ensures.value;
  slope_count = thin_slope_count passes_Q c.args.net.now.net c.requires.found.0 c.args.self.now c.args.found c.requires.found.1 c.deref-7.result.now c.deref-7.ensures.value;
  label_count =
      ap (λ (l : List ℚ). length l) c.deref-8.ensures.value ∙ end_count passes_Q c.args.net.now.net c.requires.named.network c.args.horizon
      c.requires.found.0 c.args.self.now c.requires.reaches c.args.found c.requires.found.1
      c.deref.result.now c.deref-2.result.now c.self.inside.reached c.deref.ensures.value c.deref-2.ensures.value
      (ap (λ (s : Standing). s.time) c.self.view_is) c.in_ok-extension.extension c.in_ok-extension.ensures.list
      c.deref-3.result.now c.deref-4.result.now (c.deref-3.ensures.value ∙ ap (λ (s : Standing). s.labels) c.self.view_is) c.deref-4.ensures.value
      (record { length = c.end.inside.length; labels = c.end.inside.labels.items }) (c.in_ok-end.ensures ∙ ap (λ (a : Advanced). Ok a) (sym c.end.view_is));
}

pub link_steps-requires : goal.link_steps-requires
link_steps-requires c =
    amounts_count passes_Q c.args.net.now.net c.requires.named.network c.args.horizon c.requires.found.0 c.args.self.now c.requires.reaches c.args.found
    c.requires.found.1 c.deref-9.result.now (all_grown c.deref-5.result.now)
    (c.deref-9.ensures.value ∙ c.in_ok-amounts.ensures) (ap all_grown c.deref-5.ensures.value ∙ ap (λ (s : Standing). s.link_curves) c.self.view_is)

pub returns-in_err-steps-clause-cause : goal.returns-in_err-steps-clause-cause
returns-in_err-steps-clause-cause c =
    curve_stops passes_Q c.args.net.now.net c.requires.named.network c.args.horizon c.requires.found.0 c.args.self.now c.requires.reaches c.args.found c.requires.found.1
    c.deref.result.now c.deref-2.result.now c.self.inside.reached c.deref.ensures.value c.deref-2.ensures.value
    (ap (λ (s : Standing). s.time) c.self.view_is) c.in_ok-extension.extension c.in_ok-extension.ensures.list
    c.deref-3.result.now c.deref-4.result.now (c.deref-3.ensures.value ∙ ap (λ (s : Standing). s.labels) c.self.view_is) c.deref-4.ensures.value
    (record { length = c.end.inside.length; labels = c.end.inside.labels.items }) (c.in_ok-end.ensures ∙ ap (λ (a : Advanced). Ok a) (sym c.end.view_is))
    c.args.found.sets c.deref-6.result.now c.deref-7.result.now c.deref-8.result.now c.deref-9.result.now
    (all_grown c.deref-5.result.now) refl c.deref-6.ensures.value c.deref-7.ensures.value c.deref-8.ensures.value
    (c.deref-9.ensures.value ∙ c.in_ok-amounts.ensures) (ap all_grown c.deref-5.ensures.value ∙ ap (λ (s : Standing). s.link_curves) c.self.view_is)
    c.in_err-steps.field-0.0 c.in_err-steps.ensures c.from_residual-in_err-steps.result c.from_residual-in_err-steps.ensures.1

pub returns-clause-leads : goal.returns-clause-leads
returns-clause-leads c = λ patterns is.
    leads_on passes_Q c.args.net.now.net c.requires.named.network c.args.horizon patterns c.args.self.now c.requires.reaches c.args.found is
    c.requires.below (record { length = c.end.inside.length; labels = c.end.inside.labels.items }) _
    (lists_go passes_Q c.args.net.now.net c.requires.named.network c.args.horizon patterns c.args.self.now c.requires.reaches c.args.found is
    c.deref.result.now c.deref-2.result.now c.self.inside.reached c.deref.ensures.value c.deref-2.ensures.value
    (ap (λ (s : Standing). s.time) c.self.view_is) c.in_ok-extension.extension c.in_ok-extension.ensures.list
    c.deref-3.result.now c.deref-4.result.now (c.deref-3.ensures.value ∙ ap (λ (s : Standing). s.labels) c.self.view_is) c.deref-4.ensures.value
    (record { length = c.end.inside.length; labels = c.end.inside.labels.items }) (c.in_ok-end.ensures ∙ ap (λ (a : Advanced). Ok a) (sym c.end.view_is))
    c.args.found.sets c.deref-6.result.now c.deref-7.result.now c.deref-8.result.now c.deref-9.result.now
    (all_grown c.deref-5.result.now) refl c.deref-6.ensures.value c.deref-7.ensures.value c.deref-8.ensures.value
    (c.deref-9.ensures.value ∙ c.in_ok-amounts.ensures) (ap all_grown c.deref-5.ensures.value ∙ ap (λ (s : Standing). s.link_curves) c.self.view_is)
    c.in_ok-steps.steps.items c.in_ok-steps.ensures)
    (lasts passes_Q c.args.net.now.net c.requires.named.network c.args.horizon patterns c.args.self.now c.requires.reaches c.args.found is
    c.deref.result.now c.deref-2.result.now c.self.inside.reached c.deref.ensures.value c.deref-2.ensures.value
    (ap (λ (s : Standing). s.time) c.self.view_is) c.in_ok-extension.extension c.in_ok-extension.ensures.list
    c.deref-3.result.now c.deref-4.result.now (c.deref-3.ensures.value ∙ ap (λ (s : Standing). s.labels) c.self.view_is) c.deref-4.ensures.value
    (record { length = c.end.inside.length; labels = c.end.inside.labels.items }) (c.in_ok-end.ensures ∙ ap (λ (a : Advanced). Ok a) (sym c.end.view_is)) c.in_ok-extension.ensures.length) refl refl

pub returns-in_err-extension-clause-leads : goal.returns-in_err-extension-clause-leads
returns-in_err-extension-clause-leads c = λ patterns is. IfOk-from_err c.from_residual.result _ c.from_residual.ensures.0

pub returns-in_err-extension-clause-thin : goal.returns-in_err-extension-clause-thin
returns-in_err-extension-clause-thin c = IfOk-from_err c.from_residual.result _ c.from_residual.ensures.0

pub returns-in_err-end-clause-leads : goal.returns-in_err-end-clause-leads
returns-in_err-end-clause-leads c = λ patterns is. IfOk-from_err c.from_residual-in_err-end.result _ c.from_residual-in_err-end.ensures.0

pub returns-in_err-end-clause-thin : goal.returns-in_err-end-clause-thin
returns-in_err-end-clause-thin c = IfOk-from_err c.from_residual-in_err-end.result _ c.from_residual-in_err-end.ensures.0

pub returns-in_err-amounts-clause-leads : goal.returns-in_err-amounts-clause-leads
returns-in_err-amounts-clause-leads c = λ patterns is. IfOk-from_err c.from_residual-in_err-amounts.result _ c.from_residual-in_err-amounts.ensures.0

pub returns-in_err-amounts-clause-thin : goal.returns-in_err-amounts-clause-thin
returns-in_err-amounts-clause-thin c = IfOk-from_err c.from_residual-in_err-amounts.result _ c.from_residual-in_err-amounts.ensures.0

pub returns-in_err-steps-clause-leads : goal.returns-in_err-steps-clause-leads
returns-in_err-steps-clause-leads c = λ patterns is. IfOk-from_err c.from_residual-in_err-steps.result _ c.from_residual-in_err-steps.ensures.0

pub returns-in_err-steps-clause-thin : goal.returns-in_err-steps-clause-thin
returns-in_err-steps-clause-thin c = IfOk-from_err c.from_residual-in_err-steps.result _ c.from_residual-in_err-steps.ensures.0
