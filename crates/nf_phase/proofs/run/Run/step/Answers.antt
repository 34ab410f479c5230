use Rattle.std.proofs.Common.{suc, sym, subst, ◌∙◌}
use Rattle.nf_phase.proofs.Common.{passes_Q, Fails, Reaches, IsCause, FindsNone, ListsPass}
use Rattle.nf_phase.proofs.Found.{by_fault, stands_as, none_below, lists_below}
use Rattle.nf_phase.proofs.Stepped.{reaches_step, only_step, begin_step, steps_made}
use Rattle.nf_phase.proofs.RunStates.{state_reached}
use Rattle.nf_phase.proofs.run.Run.step.Goals as goal

pub returns-clause-goes : goal.returns-clause-goes
returns-clause-goes c =
    steps_made passes_Q c.args.net.now.net c.find.ensures.named.network c.args.horizon c.args.patterns c.args.self.now c.requires.reaches
    c.in_ok-phase.phase (c.in_ok-phase.ensures.leads c.args.patterns c.in_ok-found.ensures.found) c.continues-rests.result c.continues-rests.ensures
    c.extend_by_next.new.self c.in_ok-extend_by_next.ensures.made

pub returns-clause-begins : goal.returns-clause-begins
returns-clause-begins c = λ none. begin_step passes_Q c.args.net.now.net c.args.horizon c.args.patterns c.args.self.now c.extend_by_next.new.self none (returns-clause-goes c)

pub returns-clause-only : goal.returns-clause-only
returns-clause-only c = only_step passes_Q c.args.net.now.net c.find.ensures.named.network c.args.self.now c.requires.reaches c.args.horizon c.args.patterns _ (returns-clause-goes c)

pub returns-clause-state : goal.returns-clause-state
returns-clause-state c = state_reached passes_Q c.args.net.now.net c.find.ensures.named.network _
    (reaches_step passes_Q c.args.net.now.net c.find.ensures.named.network c.args.self.now c.requires.reaches c.args.horizon c.args.patterns _ (returns-clause-goes c))

pub extend_by_next-requires-clause-leads : goal.extend_by_next-requires-clause-leads
extend_by_next-requires-clause-leads c = (c.args.horizon, c.args.patterns, c.in_ok-phase.ensures.leads c.args.patterns c.in_ok-found.ensures.found)

pub phase-requires-clause-found : goal.phase-requires-clause-found
phase-requires-clause-found c = (c.args.patterns, c.in_ok-found.ensures.found)

pub returns-in_err-found-clause-cause : goal.returns-in_err-found-clause-cause
returns-in_err-found-clause-cause c =
    by_fault c.from_residual.result c.in_err-found.field-0.0 (IsCause passes_Q c.args.net.now.net c.args.horizon c.args.patterns c.args.self.now) c.from_residual.ensures.1
    (stands_as (FindsNone passes_Q c.args.net.now.net c.args.patterns c.args.self.now)
    (Fails passes_Q c.args.net.now.net c.args.horizon c.args.patterns c.args.self.now) (suc c.args.self.now.made) c.in_err-found.field-0.0
    (none_below passes_Q c.args.net.now.net c.args.patterns c.args.self.now c.args.horizon c.requires.below) c.in_err-found.ensures.cause)

pub continues-rests-requires-clause-slacks : goal.continues-rests-requires-clause-slacks
continues-rests-requires-clause-slacks c = c.deref.ensures.value ∙ c.in_ok-found.ensures.found.slacks

pub returns-in_err-phase-clause-cause : goal.returns-in_err-phase-clause-cause
returns-in_err-phase-clause-cause c =
    by_fault c.from_residual-in_err-phase.result c.in_err-phase.field-0.0
    (IsCause passes_Q c.args.net.now.net c.args.horizon c.args.patterns c.args.self.now) c.from_residual-in_err-phase.ensures.1
    (stands_as (ListsPass passes_Q c.args.net.now.net c.args.horizon c.args.self.now c.in_ok-found.found.thin.pattern c.in_ok-found.found.thin.flows.items
    c.in_ok-found.found.thin.slopes.items)
    (Fails passes_Q c.args.net.now.net c.args.horizon c.args.patterns c.args.self.now) (suc c.args.self.now.made) c.in_err-phase.field-0.0
    (lists_below passes_Q c.args.net.now.net c.args.patterns c.args.self.now c.in_ok-found.ensures.found.seeks.0 c.in_ok-found.found.thin.pattern
    c.in_ok-found.found.thin.flows.items c.in_ok-found.found.thin.slopes.items
    c.in_ok-found.ensures.found.seeks.1 c.args.horizon c.requires.below) c.in_err-phase.ensures.cause)

-- ---- if the step refuses, the run state is unchanged
pub returns-in_err-found-clause-state : goal.returns-in_err-found-clause-state
returns-in_err-found-clause-state c = state_reached passes_Q c.args.net.now.net c.find.ensures.named.network _ c.requires.reaches

pub returns-in_err-phase-clause-state : goal.returns-in_err-phase-clause-state
returns-in_err-phase-clause-state c = state_reached passes_Q c.args.net.now.net c.find.ensures.named.network _ c.requires.reaches

pub returns-in_err-extend_by_next-clause-state : goal.returns-in_err-extend_by_next-clause-state
returns-in_err-extend_by_next-clause-state c = state_reached passes_Q c.args.net.now.net c.find.ensures.named.network _
    (subst (Reaches passes_Q c.args.net.now.net) (sym c.in_err-extend_by_next.ensures.kept) c.requires.reaches)
