use Rattle.std.proofs.Common.{List, refl, sym, ap, subst, ◌∙◌}
use Rattle.nf_quick_walks.proofs.Common.{err_from_is_err_and, ℚ, 0ℚ, ◌≤ℚ◌, ◌<ℚ◌, passes_Q, Walk, IsSound, IsShortestWalk, Times, QuickStanding}
use Rattle.nf_rational_laws.proofs.Chains.{≤ℚ_refl}
use Rattle.nf_quick_walks.proofs.OnePush.{move_passes, time_passes, push_made}
use Rattle.nf_quick_walks.proofs.pushes.QuickStanding.push_on.Goals as goal

pub push-requires-clause-sound : goal.push-requires-clause-sound
push-requires-clause-sound c = subst (IsSound c.args.net.now.net) (sym (ap (λ (s : QuickStanding). s.flows) c.self.view_is)) c.requires.sound

pub push-requires-clause-walk : goal.push-requires-clause-walk
push-requires-clause-walk c = subst (λ (flows : List ℚ). IsShortestWalk c.args.net.now.net flows c.args.walk) (sym (ap (λ (s : QuickStanding). s.flows) c.self.view_is)) c.requires.walk

pub push-requires-clause-some : goal.push-requires-clause-some
push-requires-clause-some c = subst (λ (room : ℚ). 0ℚ <ℚ room) (sym (ap (λ (w : Walk). w.room) c.walk.view_is)) c.requires.walk.room_is.some

pub push-requires-clause-room : goal.push-requires-clause-room
push-requires-clause-room c = subst (λ (room : ℚ). c.walk.inside.room ≤ℚ room) (ap (λ (w : Walk). w.room) c.walk.view_is) (≤ℚ_refl c.walk.inside.room)

pub returns-in_err-push-clause-list : goal.returns-in_err-push-clause-list
returns-in_err-push-clause-list c =
    let p = err_from_is_err_and c.from_residual.result c.from_residual.ensures.1 in
    rw (p.1, p.2) (move_passes passes_Q c.args.net.now.net c.args.amount _ c.args.self.now _ c.args.walk c.self.view_is c.walk.view_is c.in_err-push.field-0.0 c.in_err-push.ensures.list)

pub returns-in_err-push-clause-sound : goal.returns-in_err-push-clause-sound
returns-in_err-push-clause-sound c = subst (IsSound c.args.net.now.net) (sym (c.in_err-push.ensures.as_it_was ∙ ap (λ (s : QuickStanding). s.flows) c.self.view_is)) c.requires.sound

pub returns-in_err-push-clause-rate : goal.returns-in_err-push-clause-rate
returns-in_err-push-clause-rate c = subst (λ (rate : ℚ). 0ℚ ≤ℚ rate) (sym (ap (λ (s : QuickStanding). s.rate) c.self.view_is)) c.requires.rate

pub time_with-requires-clause-so_far : goal.time_with-requires-clause-so_far
time_with-requires-clause-so_far c = subst (λ (rate : ℚ). 0ℚ ≤ℚ rate) (sym (ap (λ (s : QuickStanding). s.rate) c.self.view_is)) c.requires.rate

pub time_with-requires-clause-some : goal.time_with-requires-clause-some
time_with-requires-clause-some c = subst (λ (room : ℚ). 0ℚ <ℚ room) (sym (ap (λ (w : Walk). w.room) c.walk.view_is)) c.requires.walk.room_is.some

pub returns-in_err-times-clause-list : goal.returns-in_err-times-clause-list
returns-in_err-times-clause-list c =
    let p = err_from_is_err_and c.from_residual-in_err-times.result c.from_residual-in_err-times.ensures.1 in
    rw (p.1, p.2) (time_passes passes_Q c.args.net.now.net c.args.amount _ c.args.self.now _ c.args.walk c.self.view_is c.walk.view_is c.push.new.self
    c.in_ok-push.ensures.list c.in_err-times.field-0.0 c.in_err-times.ensures.list)

pub returns-in_err-push-2-clause-list : goal.returns-in_err-push-2-clause-list
returns-in_err-push-2-clause-list c = let p = err_from_is_err_and c.from_residual-in_err-push-2.result c.from_residual-in_err-push-2.ensures.1 in rw (p.1, p.2) tt

pub returns-clause-sound : goal.returns-clause-sound
returns-clause-sound c = c.in_ok-push.ensures.sound

pub returns-clause-rate : goal.returns-clause-rate
returns-clause-rate c = subst (λ (rate : ℚ). 0ℚ ≤ℚ rate) (sym (ap (λ (t : Times). t.rate) c.times.view_is)) c.in_ok-times.ensures.rate

pub returns-clause-list : goal.returns-clause-list
returns-clause-list c =
    push_made passes_Q c.args.net.now.net c.args.amount _ c.args.self.now _ c.args.walk c.self.view_is c.walk.view_is c.push.new.self
    c.in_ok-push.ensures.list c.in_ok-times.times _ c.in_ok-times.ensures.list
    c.times.view_is c.push-2.new.self.items c.in_ok-push-2.ensures.items

pub same-walk : goal.same-walk
same-walk c = refl

pub returns-in_err-push-2-clause-rate : goal.returns-in_err-push-2-clause-rate
returns-in_err-push-2-clause-rate c = subst (λ (rate : ℚ). 0ℚ ≤ℚ rate) (sym (ap (λ (s : QuickStanding). s.rate) c.self.view_is)) c.requires.rate

pub returns-in_err-push-2-clause-sound : goal.returns-in_err-push-2-clause-sound
returns-in_err-push-2-clause-sound c = c.in_ok-push.ensures.sound

pub returns-in_err-times-clause-rate : goal.returns-in_err-times-clause-rate
returns-in_err-times-clause-rate c = subst (λ (rate : ℚ). 0ℚ ≤ℚ rate) (sym (ap (λ (s : QuickStanding). s.rate) c.self.view_is)) c.requires.rate

pub returns-in_err-times-clause-sound : goal.returns-in_err-times-clause-sound
returns-in_err-times-clause-sound c = c.in_ok-push.ensures.sound

-- ---- where it is refused
pub returns-in_err-push-clause-refused : goal.returns-in_err-push-clause-refused
returns-in_err-push-clause-refused c =
    let p = err_from_is_err_and c.from_residual.result c.from_residual.ensures.1 in
    rw p.1 (record {
      pushed = ap (λ (s : QuickStanding). s.pushed) c.self.view_is;
      rate = ap (λ (s : QuickStanding). s.rate) c.self.view_is;
      cost = ap (λ (s : QuickStanding). s.cost) c.self.view_is;
      time = ap (λ (s : QuickStanding). s.time) c.self.view_is;
    })

pub returns-in_err-times-clause-refused : goal.returns-in_err-times-clause-refused
returns-in_err-times-clause-refused c =
    let p = err_from_is_err_and c.from_residual-in_err-times.result c.from_residual-in_err-times.ensures.1 in
    rw p.1 (record {
      pushed = ap (λ (s : QuickStanding). s.pushed) c.self.view_is;
      rate = ap (λ (s : QuickStanding). s.rate) c.self.view_is;
      cost = ap (λ (s : QuickStanding). s.cost) c.self.view_is;
      time = ap (λ (s : QuickStanding). s.time) c.self.view_is;
    })

pub returns-in_err-push-2-clause-refused : goal.returns-in_err-push-2-clause-refused
returns-in_err-push-2-clause-refused c =
    let p = err_from_is_err_and c.from_residual-in_err-push-2.result c.from_residual-in_err-push-2.ensures.1 in
    rw p.1 (record {
      pushed = c.in_err-push-2.ensures.items ∙ ap (λ (s : QuickStanding). s.pushed) c.self.view_is;
      rate = ap (λ (s : QuickStanding). s.rate) c.self.view_is;
      cost = ap (λ (s : QuickStanding). s.cost) c.self.view_is;
      time = ap (λ (s : QuickStanding). s.time) c.self.view_is;
    })
