use Rattle.std.proofs.Common.{refl, sym, ap, subst, ◌∙◌, Option, Ok}
use Rattle.nf_phase.proofs.Common.{false≢true, MatchOption-at_some, IfOk-from_err, ℚ, ◌<ℚ◌, passes_Q, Standing, GoesToEnd, holds_anyway, Reaches, goes_on}
use Rattle.nf_phase.proofs.Common.{StepFault}
use Rattle.nf_phase.proofs.Found.{by_fault}
use Rattle.nf_phase.proofs.PhaseFound.{slack_count, thin_slope_count}
use Rattle.nf_phase.proofs.RunStates.{state_reached}
use Rattle.nf_phase.proofs.ToEnd.{found_none_on, end_passes, goes_forever, lists_pass, goes_to_end}
use Rattle.nf_phase.proofs.run.Run.step_to_end.Goals as goal

pub returns-in_err-found-clause-cause : goal.returns-in_err-found-clause-cause
returns-in_err-found-clause-cause c =
    found_none_on passes_Q c.args.net.now.net c.args.patterns c.args.self.now c.from_residual.result c.in_err-found.field-0.0 c.from_residual.ensures.1 c.in_err-found.ensures.cause

pub end_of-requires-clause-slacks : goal.end_of-requires-clause-slacks
end_of-requires-clause-slacks c =
    slack_count passes_Q c.args.net.now.net c.args.patterns c.args.self.now c.in_ok-found.found c.in_ok-found.ensures.found c.deref.result.now
    c.deref.ensures.value

pub end_of-requires-clause-slopes : goal.end_of-requires-clause-slopes
end_of-requires-clause-slopes c =
    thin_slope_count passes_Q c.args.net.now.net c.args.patterns c.args.self.now c.in_ok-found.found c.in_ok-found.ensures.found c.deref-2.result.now
    c.deref-2.ensures.value

pub returns-in_err-end-clause-cause : goal.returns-in_err-end-clause-cause
returns-in_err-end-clause-cause c =
    end_passes passes_Q c.args.net.now.net c.args.patterns c.args.self.now c.in_ok-found.found c.in_ok-found.ensures.found c.deref.result.now c.deref-2.result.now c.self.inside.reached
    c.deref.ensures.value c.deref-2.ensures.value (ap (λ (s : Standing). s.time) c.self.view_is)
    c.in_err-end.field-0.0 c.in_err-end.ensures.list c.from_residual-in_err-end.result c.from_residual-in_err-end.ensures.1

pub returns-in_default-clause-phase : goal.returns-in_default-clause-phase
returns-in_default-clause-phase c =
    goes_forever passes_Q c.args.net.now.net c.args.patterns c.args.self.now c.in_ok-found.found c.in_ok-found.ensures.found c.deref.result.now c.deref-2.result.now c.self.inside.reached
    c.deref.ensures.value c.deref-2.ensures.value (ap (λ (s : Standing). s.time) c.self.view_is)
    (ap (λ (o : Option ℚ). Ok o) (sym c.in_default.is) ∙ c.in_ok-end.ensures.list)

pub returns-in_err-phase-clause-cause : goal.returns-in_err-phase-clause-cause
returns-in_err-phase-clause-cause c =
    lists_pass passes_Q c.args.net.now.net c.args.patterns c.args.self.now c.in_ok-found.found c.in_ok-found.ensures.found c.deref.result.now c.deref-2.result.now c.self.inside.reached
    c.deref.ensures.value c.deref-2.ensures.value (ap (λ (s : Standing). s.time) c.self.view_is)
    c.in-Some.end (ap (λ (o : Option ℚ). Ok o) (sym c.in-Some.is) ∙ c.in_ok-end.ensures.list)
    c.from_residual-in_err-phase.result c.in_err-phase.field-0.0 c.from_residual-in_err-phase.ensures.1 c.in_err-phase.ensures.cause

pub returns-in_err-extend_by-clause-cause : goal.returns-in_err-extend_by-clause-cause
returns-in_err-extend_by-clause-cause c = by_fault c.from_residual-in_err-extend_by.result StepFault.Memory _ c.from_residual-in_err-extend_by.ensures.1 tt

pub returns-clause-phase : goal.returns-clause-phase
returns-clause-phase c =
    goes_to_end passes_Q c.args.net.now.net c.args.patterns c.args.self.now c.in_ok-found.found c.in_ok-found.ensures.found c.deref.result.now c.deref-2.result.now c.self.inside.reached
    c.deref.ensures.value c.deref-2.ensures.value (ap (λ (s : Standing). s.time) c.self.view_is)
    c.in-Some.end (ap (λ (o : Option ℚ). Ok o) (sym c.in-Some.is) ∙ c.in_ok-end.ensures.list)
    c.in_ok-phase.phase (c.in_ok-phase.ensures.leads c.args.patterns c.in_ok-found.ensures.found) c.in_ok-phase.ensures.thin c.extend_by.new.self c.in_ok-extend_by.ensures.made

pub phase-requires-clause-reaches : goal.phase-requires-clause-reaches
phase-requires-clause-reaches c = c.requires.reaches

pub phase-requires-clause-named : goal.phase-requires-clause-named
phase-requires-clause-named c = c.in_ok-found.ensures.named

pub phase-requires-clause-found : goal.phase-requires-clause-found
phase-requires-clause-found c = (c.args.patterns, c.in_ok-found.ensures.found)

pub phase-requires-clause-below : goal.phase-requires-clause-below
phase-requires-clause-below c =
    subst (λ (s : Standing). s.time <ℚ c.in-Some.end) c.self.view_is (MatchOption-at_some _
    (λ (end : ℚ). c.self.inside.reached <ℚ end) c.in-Some.end c.in-Some.is c.in_ok-end.ensures.later)

pub extend_by-requires-clause-reaches : goal.extend_by-requires-clause-reaches
extend_by-requires-clause-reaches c = c.requires.reaches

pub extend_by-requires-clause-named : goal.extend_by-requires-clause-named
extend_by-requires-clause-named c = c.in_ok-found.ensures.named

pub extend_by-requires-clause-more : goal.extend_by-requires-clause-more
extend_by-requires-clause-more c = c.requires.more

pub extend_by-requires-clause-leads : goal.extend_by-requires-clause-leads
extend_by-requires-clause-leads c = (c.in-Some.end, c.args.patterns, c.in_ok-phase.ensures.leads c.args.patterns c.in_ok-found.ensures.found)

pub returns-in_err-end-clause-kept : goal.returns-in_err-end-clause-kept
returns-in_err-end-clause-kept c = holds_anyway c.from_residual-in_err-end.result _ refl

pub returns-in_err-phase-clause-kept : goal.returns-in_err-phase-clause-kept
returns-in_err-phase-clause-kept c = holds_anyway c.from_residual-in_err-phase.result _ refl

pub returns-in_default-clause-stays : goal.returns-in_default-clause-stays
returns-in_default-clause-stays c = λ some. refl

pub returns-in_err-extend_by-clause-kept : goal.returns-in_err-extend_by-clause-kept
returns-in_err-extend_by-clause-kept c = holds_anyway c.from_residual-in_err-extend_by.result _ c.in_err-extend_by.ensures.kept

pub returns-clause-stays : goal.returns-clause-stays
returns-clause-stays c = λ some. absurd (false≢true some)

pub returns-in_err-end-clause-phase : goal.returns-in_err-end-clause-phase
returns-in_err-end-clause-phase c = IfOk-from_err c.from_residual-in_err-end.result _ c.from_residual-in_err-end.ensures.0

pub returns-in_err-end-clause-stays : goal.returns-in_err-end-clause-stays
returns-in_err-end-clause-stays c = IfOk-from_err c.from_residual-in_err-end.result _ c.from_residual-in_err-end.ensures.0

pub returns-in_err-phase-clause-phase : goal.returns-in_err-phase-clause-phase
returns-in_err-phase-clause-phase c = IfOk-from_err c.from_residual-in_err-phase.result _ c.from_residual-in_err-phase.ensures.0

pub returns-in_err-phase-clause-stays : goal.returns-in_err-phase-clause-stays
returns-in_err-phase-clause-stays c = IfOk-from_err c.from_residual-in_err-phase.result _ c.from_residual-in_err-phase.ensures.0

pub returns-in_err-extend_by-clause-phase : goal.returns-in_err-extend_by-clause-phase
returns-in_err-extend_by-clause-phase c = IfOk-from_err c.from_residual-in_err-extend_by.result _ c.from_residual-in_err-extend_by.ensures.0

pub returns-in_err-extend_by-clause-stays : goal.returns-in_err-extend_by-clause-stays
returns-in_err-extend_by-clause-stays c = IfOk-from_err c.from_residual-in_err-extend_by.result _ c.from_residual-in_err-extend_by.ensures.0

pub same-self-in_err-end : goal.same-self-in_err-end
same-self-in_err-end c = refl

pub same-self-in_default : goal.same-self-in_default
same-self-in_default c = refl

pub same-self-2 : goal.same-self-2
same-self-2 c = refl

-- ---- facts on the run state; without a phase it is unchanged
pub returns-clause-state : goal.returns-clause-state
returns-clause-state c =
    let g : GoesToEnd passes_Q c.args.net.now.net c.args.patterns c.args.self.now c.extend_by.new.self = returns-clause-phase c in
    state_reached passes_Q c.args.net.now.net c.find.ensures.named.network _ (goes_on g.end c.args.patterns c.requires.reaches g.goes)

pub returns-in_default-clause-state : goal.returns-in_default-clause-state
returns-in_default-clause-state c = state_reached passes_Q c.args.net.now.net c.find.ensures.named.network _ c.requires.reaches

pub returns-in_err-found-clause-state : goal.returns-in_err-found-clause-state
returns-in_err-found-clause-state c = state_reached passes_Q c.args.net.now.net c.find.ensures.named.network _ c.requires.reaches

pub returns-in_err-end-clause-state : goal.returns-in_err-end-clause-state
returns-in_err-end-clause-state c = state_reached passes_Q c.args.net.now.net c.find.ensures.named.network _ c.requires.reaches

pub returns-in_err-phase-clause-state : goal.returns-in_err-phase-clause-state
returns-in_err-phase-clause-state c = state_reached passes_Q c.args.net.now.net c.find.ensures.named.network _ c.requires.reaches

pub returns-in_err-extend_by-clause-state : goal.returns-in_err-extend_by-clause-state
returns-in_err-extend_by-clause-state c = state_reached passes_Q c.args.net.now.net c.find.ensures.named.network _
    (subst (λ (s : Standing). Reaches passes_Q c.args.net.now.net s) (sym c.in_err-extend_by.ensures.kept) c.requires.reaches)
