use Rattle.std.proofs.Common.{◌≡◌, suc, ap, ◌∙◌, rules}
use Rattle.nf_phase.proofs.Common.{0ℚ, passes_Q, Standing, label_count_at, below_nodes, of_halt, of_search, IsFaultOf, FindsNone}
use Rattle.nf_phase.proofs.Reached.{Stands-reached}
use Rattle.nf_phase.proofs.Found.{by_fault, search_cause, slacks_cause, slacks_made}
use Rattle.nf_phase.proofs.PhaseFound.{found_here}
use Rattle.nf_phase.proofs.run.Run.find.Goals as goal

pub slacks-requires : goal.slacks-requires
slacks-requires c =
    let good = c.hops.ensures.named.network in
    let stands = Stands-reached passes_Q c.args.net.now.net good c.args.self.now c.requires.reaches in
    let labels : c.deref.result.now ≡ c.args.self.now.labels = c.deref.ensures.value ∙ ap (λ (s : Standing). s.labels) c.self.view_is in
    rw (labels, c.hops.ensures.value, label_count_at c.args.net.now.net good c.args.self.now stands.well) (below_nodes c.args.net.now.net good)

pub returns-in_err-slacks-clause-cause : goal.returns-in_err-slacks-clause-cause
returns-in_err-slacks-clause-cause c =
    by_fault c.from_residual.result (of_halt c.in_err-slacks.field-0.0) (IsFaultOf (FindsNone passes_Q c.args.net.now.net c.args.patterns c.args.self.now)
    (suc c.args.self.now.made)) c.from_residual.ensures.1
    (slacks_cause passes_Q c.args.net.now.net c.args.patterns c.args.self.now c.hops.result.now c.deref.result.now c.hops.ensures.value
    (c.deref.ensures.value ∙ ap (λ (s : Standing). s.labels) c.self.view_is) c.in_err-slacks.field-0.0 c.in_err-slacks.ensures.list)

pub returns-in_err-thin-clause-cause : goal.returns-in_err-thin-clause-cause
returns-in_err-thin-clause-cause c =
    by_fault c.from_residual-in_err-thin.result (of_search c.in_err-thin.field-0.0)
    (IsFaultOf (FindsNone passes_Q c.args.net.now.net c.args.patterns c.args.self.now) (suc c.args.self.now.made))
    c.from_residual-in_err-thin.ensures.1
    (search_cause passes_Q c.args.net.now.net c.args.patterns c.args.self.now
    (slacks_made passes_Q c.args.net.now.net 0 c.args.self.now c.hops.result.now c.deref.result.now c.in_ok-slacks.slacks.items c.hops.ensures.value
    (c.deref.ensures.value ∙ ap (λ (s : Standing). s.labels) c.self.view_is) c.in_ok-slacks.ensures.list).1 0ℚ c.in_err-thin.field-0.0 (c.in_err-thin.ensures 0ℚ))

pub returns-clause-found : goal.returns-clause-found
returns-clause-found c =
    found_here passes_Q c.args.net.now.net c.args.patterns c.args.self.now
    (slacks_made passes_Q c.args.net.now.net 0 c.args.self.now c.hops.result.now c.deref.result.now c.in_ok-slacks.slacks.items c.hops.ensures.value
    (c.deref.ensures.value ∙ ap (λ (s : Standing). s.labels) c.self.view_is) c.in_ok-slacks.ensures.list).1 0ℚ _
    (slacks_made passes_Q c.args.net.now.net 0 c.args.self.now c.hops.result.now c.deref.result.now c.in_ok-slacks.slacks.items c.hops.ensures.value
    (c.deref.ensures.value ∙ ap (λ (s : Standing). s.labels) c.self.view_is) c.in_ok-slacks.ensures.list).0 (search rules) (c.in_ok-thin.ensures 0ℚ)
