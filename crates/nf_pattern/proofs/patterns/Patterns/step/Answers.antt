use Rattle.std.proofs.Common.{rules, sym, subst, ◌∙◌}
use Rattle.nf_pattern.proofs.Common.{with_items_is, Pattern, IsNext, Listed, End, IsPlaced, IsStanding, last_of}
use Rattle.nf_pattern.proofs.Seeking.{gives_next}
use Rattle.nf_pattern.proofs.patterns.Patterns.step.Goals as goal

pub returns-then-find : goal.returns-then-find
returns-then-find c =
    gives_next c.self.inside.question (last_of c.self.inside.stand c.self.inside.current) c.self.inside.place c.args.self.now c.self.view_is
    c.find.new.states _ c.saturating_add-self-inside.result
    (subst (λ (x : Pattern). IsNext c.self.inside.question (last_of c.self.inside.stand x) c.find.new.states) (c.deref_mut.ensures.value ∙ c.current.view_is) c.if-find.ensures.found)
    (with_items_is c.current.inside.states c.find.new.states (c.find.auto.states ∙ c.deref_mut.ensures.len)) c.saturating_add-self-inside.ensures

pub find-requires-clause-start : goal.find-requires-clause-start
find-requires-clause-start c = λ s. c.deref_mut.ensures.value ∙ c.current.view_is ∙ c.self.invariant.start s

pub find-requires-clause-placed : goal.find-requires-clause-placed
find-requires-clause-placed c =
    subst (λ (x : Pattern). IsPlaced c.self.inside.question x c.self.inside.trail c.self.inside.quiet) (sym (c.deref_mut.ensures.value ∙ c.current.view_is)) c.self.invariant.placed

pub invariant_of-self : goal.invariant_of-self
invariant_of-self c =
    subst (λ (x : Pattern). IsStanding c.self.inside.question Listed x c.find.new.trail c.find.new.quiet)
    (sym (with_items_is c.current.inside.states c.find.new.states (c.find.auto.states ∙ c.deref_mut.ensures.len)))
    (record { placed = c.if-find.ensures.placed; start = λ s. search rules })

pub invariant_of-self-2 : goal.invariant_of-self-2
invariant_of-self-2 c =
    subst (λ (x : Pattern). IsStanding c.self.inside.question End x c.find.new.trail c.find.new.quiet)
    (sym (with_items_is c.current.inside.states c.find.new.states (c.find.auto.states ∙ c.deref_mut.ensures.len)))
    (record { placed = c.if-find.ensures.placed; start = λ s. search rules })
