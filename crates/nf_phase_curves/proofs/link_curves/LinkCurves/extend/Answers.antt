use Rattle.std.proofs.Common.{sym, ap, subst, ◌∙◌, IsSome}
use Rattle.nf_phase_curves.proofs.Common.{◌<ℚ◌, time_of_last, LinkStep, LinkCurves, trace_after, queue_curve_after, Roomy, HasReserve}
use Rattle.nf_phase_curves.proofs.Spare.{each_room}
use Rattle.nf_phase_curves.proofs.link_curves.LinkCurves.extend.Goals as goal

pub extend_or_hold-requires-clause-room : goal.extend_or_hold-requires-clause-room
extend_or_hold-requires-clause-room c = (each_room _ _ _ (subst (λ (r : Roomy LinkCurves). HasReserve r) (sym c.self.view_is) c.requires.room)).0

pub extend_or_hold-requires-clause-later : goal.extend_or_hold-requires-clause-later
extend_or_hold-requires-clause-later c =
    subst (λ (s : LinkStep). IsSome s.inflow_rate → time_of_last c.self.inside.inflow.grown.points <ℚ c.args.tail_label) (sym c.step.view_is)
    (subst (λ (r : Roomy LinkCurves). IsSome c.args.step.now.inflow_rate → time_of_last r.grown.inflow.points <ℚ c.args.tail_label) (sym c.self.view_is) c.requires.inflow)

pub extend_or_hold-requires-2-clause-room : goal.extend_or_hold-requires-2-clause-room
extend_or_hold-requires-2-clause-room c = (each_room _ _ _ (subst (λ (r : Roomy LinkCurves). HasReserve r) (sym c.self.view_is) c.requires.room)).1

pub extend_or_hold-requires-2-clause-later : goal.extend_or_hold-requires-2-clause-later
extend_or_hold-requires-2-clause-later c =
    subst (λ (s : LinkStep). IsSome s.outflow_rate → time_of_last c.self.inside.outflow.grown.points <ℚ c.args.head_label) (sym c.step.view_is)
    (subst (λ (r : Roomy LinkCurves). IsSome c.args.step.now.outflow_rate → time_of_last r.grown.outflow.points <ℚ c.args.head_label) (sym c.self.view_is) c.requires.outflow)

pub extend_or_hold-requires-3-clause-room : goal.extend_or_hold-requires-3-clause-room
extend_or_hold-requires-3-clause-room c = (each_room _ _ _ (subst (λ (r : Roomy LinkCurves). HasReserve r) (sym c.self.view_is) c.requires.room)).2

pub extend_or_hold-requires-3-clause-later : goal.extend_or_hold-requires-3-clause-later
extend_or_hold-requires-3-clause-later c =
    subst (λ (s : LinkStep). IsSome s.queue → time_of_last c.self.inside.queue.grown.points <ℚ c.args.tail_label) (sym c.step.view_is)
    (subst (λ (r : Roomy LinkCurves). IsSome c.args.step.now.queue → time_of_last r.grown.queue.points <ℚ c.args.tail_label) (sym c.self.view_is) c.requires.queue)

pub returns-clause-inflow : goal.returns-clause-inflow
returns-clause-inflow c =
    c.extend_or_hold.ensures
    ∙ ap (λ (r : Roomy LinkCurves). trace_after r.grown.inflow c.args.tail_label c.step.inside.amount c.step.inside.inflow_rate) c.self.view_is
    ∙ ap (λ (s : LinkStep). trace_after c.args.self.now.grown.inflow c.args.tail_label s.amount s.inflow_rate) c.step.view_is

pub returns-clause-outflow : goal.returns-clause-outflow
returns-clause-outflow c =
    c.extend_or_hold-2.ensures
    ∙ ap (λ (r : Roomy LinkCurves). trace_after r.grown.outflow c.args.head_label c.step.inside.amount c.step.inside.outflow_rate) c.self.view_is
    ∙ ap (λ (s : LinkStep). trace_after c.args.self.now.grown.outflow c.args.head_label s.amount s.outflow_rate) c.step.view_is

pub returns-clause-queue : goal.returns-clause-queue
returns-clause-queue c =
    c.extend_or_hold-3.ensures
    ∙ ap (λ (r : Roomy LinkCurves). queue_curve_after r.grown.queue c.args.tail_label c.step.inside.queue) c.self.view_is
    ∙ ap (λ (s : LinkStep). queue_curve_after c.args.self.now.grown.queue c.args.tail_label s.queue) c.step.view_is
