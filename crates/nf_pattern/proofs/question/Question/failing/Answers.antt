use Rattle.std.proofs.Common.{ℕ, ◌+◌, ◌≤◌, Bool, List, length, ap, sym, subst, ◌∙◌, arith}
use Rattle.nf_pattern.proofs.Common.{Hop, Pattern, Question, IsBarren, AreStated, DoEndsCarry}
use Rattle.nf_pattern.proofs.Stating.{stated_too}
use Rattle.nf_pattern.proofs.Passing.{ends_carry}
use Rattle.nf_pattern.proofs.OnTrail.{gone_on, listed_on, barren_on, barren_from_start, follows_seen, follows_given, fails_seen, all_seen, count_links}
use Rattle.nf_pattern.proofs.question.Question.failing.Goals as goal

pub returns-then-is_lost-clause-found : goal.returns-then-is_lost-clause-found
returns-then-is_lost-clause-found c =
    barren_from_start c.args.self.now c.requires.question c.args.states.now c.args.trail.now c.requires.trail (sym c.is_lost.ensures ∙ c.if-is_lost.true)

pub extend-requires-clause-states : goal.extend-requires-clause-states
extend-requires-clause-states c = count_links c.args.self.now c.requires.question c.args.states.now c.requires.assigned
    ∙ sym (all_seen _ c.args.self.now c.self.view_is c.deref.result.now c.deref-2.result.now c.deref.ensures.value c.deref-2.ensures.value)

pub returns-then-extend-clause-found : goal.returns-then-extend-clause-found
returns-then-extend-clause-found c =
    listed_on c.args.self.now c.requires.question c.args.states.now c.extend.new.self
    (gone_on c.args.self.now c.args.states.now c.args.trail.now c.extend.new.self c.requires.trail
    (follows_seen _ c.args.self.now c.self.view_is c.deref.result.now c.deref-2.result.now c.deref.ensures.value c.deref-2.ensures.value c.args.states.now
    c.extend.new.self c.extend.ensures.follows)
    c.extend.ensures.way)
    c.requires.assigned (c.extend.ensures.way.lost ∙ (sym c.is_lost.ensures ∙ c.if-is_lost.false))
    (c.if-extend.ensures.extended ∙ all_seen _ c.args.self.now c.self.view_is c.deref.result.now c.deref-2.result.now c.deref.ensures.value c.deref-2.ensures.value)

pub returns-clause-found : goal.returns-clause-found
returns-clause-found c =
    let fails = fails_seen _ c.args.self.now c.self.view_is c.deref.result.now c.deref-2.result.now c.deref.ensures.value c.deref-2.ensures.value
    c.args.states.now c.extend.new.self.ends.items c.extend.new.self.depth c.if-extend.ensures.extended in
    subst (λ (n : ℕ). (n + 1 ≤ length c.args.self.now.base) × IsBarren c.args.self.now (n + 1) c.args.states.now) (sym c.depth.ensures)
    (barren_on c.args.self.now c.requires.question c.args.states.now c.extend.new.self
    (gone_on c.args.self.now c.args.states.now c.args.trail.now c.extend.new.self c.requires.trail
    (follows_seen _ c.args.self.now c.self.view_is c.deref.result.now c.deref-2.result.now c.deref.ensures.value c.deref-2.ensures.value c.args.states.now
    c.extend.new.self c.extend.ensures.follows)
    c.extend.ensures.way)
    fails.0 fails.1)

pub returns-then-is_lost-clause-trail : goal.returns-then-is_lost-clause-trail
returns-then-is_lost-clause-trail c = c.requires.trail

pub extend-requires-clause-resetting : goal.extend-requires-clause-resetting
extend-requires-clause-resetting c = ap (λ (l : List Bool). length l) c.deref-2.ensures.value ∙ c.self.invariant.0.resetting ∙ sym (ap (λ (l : List Hop). length l) c.deref.ensures.value)

pub extend-requires-clause-fewer : goal.extend-requires-clause-fewer
extend-requires-clause-fewer c = let count = ap (λ (l : List Hop). length l) c.deref.ensures.value in let few = c.self.invariant.0.fewer in omega arith

pub extend-requires-clause-follows : goal.extend-requires-clause-follows
extend-requires-clause-follows c =
    follows_given _ c.args.self.now c.self.view_is c.deref.result.now c.deref-2.result.now c.deref.ensures.value c.deref-2.ensures.value c.args.states.now
    c.args.trail.now c.requires.trail.follows

pub returns-then-extend-clause-trail : goal.returns-then-extend-clause-trail
returns-then-extend-clause-trail c =
    gone_on c.args.self.now c.args.states.now c.args.trail.now c.extend.new.self c.requires.trail
    (follows_seen _ c.args.self.now c.self.view_is c.deref.result.now c.deref-2.result.now c.deref.ensures.value c.deref-2.ensures.value c.args.states.now
    c.extend.new.self c.extend.ensures.follows)
    c.extend.ensures.way

pub returns-clause-trail : goal.returns-clause-trail
returns-clause-trail c =
    gone_on c.args.self.now c.args.states.now c.args.trail.now c.extend.new.self c.requires.trail
    (follows_seen _ c.args.self.now c.self.view_is c.deref.result.now c.deref-2.result.now c.deref.ensures.value c.deref-2.ensures.value c.args.states.now
    c.extend.new.self c.extend.ensures.follows)
    c.extend.ensures.way

pub extend-requires-clause-stated : goal.extend-requires-clause-stated
extend-requires-clause-stated c = stated_too c.args.self.now.base c.args.self.now.unbounded c.args.states.now c.self.inside.stated c.requires.assigned
    (subst (λ (base : Pattern). AreStated base c.self.inside.stated) (ap (λ (q : Question). q.base) c.self.view_is) c.self.invariant.1)

pub extend-requires-clause-ends : goal.extend-requires-clause-ends
extend-requires-clause-ends c =
    subst (λ (resetting : List Bool). DoEndsCarry resetting c.args.states.now c.args.trail.now.ends.items)
    (ap (λ (q : Question). q.sets.resetting) (sym c.self.view_is) ∙ sym c.deref-2.ensures.value)
    (ends_carry c.args.self.now.hops c.args.self.now.sets.resetting c.args.self.now.base c.args.self.now.unbounded c.args.states.now
    c.args.trail.now.ends.items c.requires.trail.ends c.requires.assigned)
