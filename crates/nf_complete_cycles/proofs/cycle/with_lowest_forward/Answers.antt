use Rattle.std.proofs.Common.{ℕ, List, [], Bool, None, sym, ap, subst, ◌∙◌}
use Rattle.nf_complete_cycles.proofs.Common.{not-true, IsFirstCycle, round_onto, lowest_from}
use Rattle.nf_complete_cycles.proofs.Cycling.{lowest-none, kept-forward, turned-forward, if-ok, not_false}
use Rattle.nf_complete_cycles.proofs.cycle.with_lowest_forward.Goals as goal
use Rattle.nf_complete_cycles.proofs.cycle.with_lowest_forward.Goals.{in-Some+else-not-least, in_default}

pub returns-then-not-least : goal.returns-then-not-least
returns-then-not-least c = λ hops chosen closed. if-ok c.rounded.result _ (λ all. IsFirstCycle hops chosen all.items)
    (λ all h. subst (λ (s : List (ℕ × Bool)). IsFirstCycle hops chosen s) (sym (h ∙ ap (round_onto []) c.deref-then-not-least.ensures.value))
    (turned-forward hops chosen c.args.steps.items c.in-Some.least closed
    (ap (lowest_from None) (sym c.deref.ensures.value) ∙ sym c.lowest.ensures ∙ c.in-Some.is)
    (ap (λ (p : ℕ × Bool). p.1) (sym c.least.view_is) ∙ not-true c.least.inside.forward c.if-not-least.true)))
    c.rounded.ensures

pub returns : goal.returns
returns c = λ hops chosen closed. elim c.match-lowest.branch [
  | in-Some+else-not-least w ↦ kept-forward hops chosen c.args.steps.items w.in-Some.least closed
      (ap (lowest_from None) (sym c.deref.ensures.value) ∙ sym c.lowest.ensures ∙ w.in-Some.is)
      (ap (λ (p : ℕ × Bool). p.1) (sym w.least.view_is) ∙ not_false w.least.inside.forward w.if-not-least.false)
  | in_default w ↦ absurd (lowest-none hops chosen c.args.steps.items closed (ap (lowest_from None) (sym c.deref.ensures.value) ∙ sym c.lowest.ensures ∙ w.in_default.is))
]
