use Rattle.std.proofs.Common.{ap, sym, subst}
use Rattle.nf_quick_walks.proofs.Common.{0ℚ, passes_Q, IsSound, QuickStanding}
use Rattle.nf_quick_walks.proofs.OnePush.{next_listed, next_shortest}
use Rattle.nf_quick_walks.proofs.pushes.QuickStanding.next.Goals as goal

pub returns-clause-list : goal.returns-clause-list
returns-clause-list c =
    λ amount. next_listed passes_Q c.args.net.now.net amount c.args.self.now c.self.inside.flow
    (ap (λ (s : QuickStanding). s.flows) c.self.view_is) c.in_ok-found.found c.if_early.result
    (c.if_early.ensures c.args.net.now.net amount) c.in_ok-found.ensures.list

pub returns-clause-shortest : goal.returns-clause-shortest
returns-clause-shortest c =
    next_shortest passes_Q c.args.net.now.net 0ℚ c.args.self.now c.self.inside.flow
    (ap (λ (s : QuickStanding). s.flows) c.self.view_is) c.in_ok-found.found c.if_early.result
    (c.if_early.ensures c.args.net.now.net 0ℚ) c.in_ok-found.ensures.first

pub shortest-requires-clause-sound : goal.shortest-requires-clause-sound
shortest-requires-clause-sound c = subst (IsSound c.args.net.now.net) (sym (ap (λ (s : QuickStanding). s.flows) c.self.view_is)) c.requires.sound
