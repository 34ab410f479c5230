use Rattle.std.proofs.Common.{Bool, List, ◌≤◌, length, sym, ap, subst, ◌∙◌}
use Rattle.nf_pattern.proofs.Common.{Pattern, Question, IsQuestion, AreSpared, IsAssignment, IsQuiet, next_assignment, AreStated}
use Rattle.nf_pattern.proofs.OnTrail.{valid_base, unbounded_base, few_base, count_base}
use Rattle.nf_pattern.proofs.Seeking.{spares_all, advances_by, none_advances_by}
use Rattle.nf_pattern.proofs.question.Question.advance.Goals as goal

pub returns-clause-quiet : goal.returns-clause-quiet
returns-clause-quiet c =
    subst (λ (base : Pattern). IsQuiet base c.in_ok-raised.raised.quiet c.advance.new.states) (c.states.ensures ∙ ap (λ (q : Question). q.base) c.self.view_is) c.in_ok-raised.ensures.2

pub returns-in_err-raised-clause-quiet : goal.returns-in_err-raised-clause-quiet
returns-in_err-raised-clause-quiet c =
    subst (λ (states : Pattern). IsQuiet c.args.self.now.base c.args.quiet.now states) (sym c.in_err-raised.ensures.1) c.requires.quiet

pub returns-in_err-raised-clause-found : goal.returns-in_err-raised-clause-found
returns-in_err-raised-clause-found c =
    let base = ap (λ (q : Question). q.base) (sym c.self.view_is) ∙ sym c.states.ensures in
    let unbounded = ap (λ (q : Question). q.unbounded) (sym c.self.view_is) ∙ sym c.deref.ensures.value in
    let sole = sym c.deref-2.ensures.value in
    let is = subst IsQuestion c.self.view_is c.self.invariant.0 in
    let are = subst (λ (q : Question). AreSpared q c.self.inside.sole.items) c.self.view_is c.self.invariant.2 in
    rw c.from_residual.ensures (
      none_advances_by c.args.self.now is c.self.inside.sole.items (spares_all c.args.self.now is c.self.inside.sole.items are) c.args.same c.args.states.now
          ((λ i. next_assignment c.args.same (base i) (unbounded i) (sole i) c.args.states.now) ∙ c.in_err-raised.ensures.0),
      c.in_err-raised.ensures.1,
    )

pub returns-clause-found : goal.returns-clause-found
returns-clause-found c =
    let base = ap (λ (q : Question). q.base) (sym c.self.view_is) ∙ sym c.states.ensures in
    let unbounded = ap (λ (q : Question). q.unbounded) (sym c.self.view_is) ∙ sym c.deref.ensures.value in
    let sole = sym c.deref-2.ensures.value in
    let is = subst IsQuestion c.self.view_is c.self.invariant.0 in
    let are = subst (λ (q : Question). AreSpared q c.self.inside.sole.items) c.self.view_is c.self.invariant.2 in (
      advances_by c.args.self.now is c.self.inside.sole.items (spares_all c.args.self.now is c.self.inside.sole.items are) c.args.same c.args.states.now
          c.advance.new.states c.requires.assigned
          ((λ i. next_assignment c.args.same (base i) (unbounded i) (sole i) c.args.states.now) ∙ c.in_ok-raised.ensures.0),
      c.in_ok-raised.ensures.1,
    )

pub advance-requires-clause-may : goal.advance-requires-clause-may
advance-requires-clause-may c =
    let base = ap (λ (q : Question). q.base) (sym c.self.view_is) ∙ sym c.states.ensures in
    let unbounded = ap (λ (q : Question). q.unbounded) (sym c.self.view_is) ∙ sym c.deref.ensures.value in
    record {
      is_order = record {
        unbounded = unbounded_base _ c.args.self.now c.self.view_is c.self.invariant.0 c.states.result.now c.deref.result.now c.states.ensures c.deref.ensures.value;
        sole = ap (λ (l : List Bool). length l) c.deref-2.ensures.value ∙ (c.self.invariant.2.count ∙ sym (ap (λ (p : Pattern). length p) c.states.ensures));
        fewer = few_base _ c.args.self.now c.self.view_is c.self.invariant.0 c.states.result.now c.states.ensures;
        valid = valid_base _ c.args.self.now c.self.view_is c.self.invariant.0 c.states.result.now c.deref.result.now c.states.ensures c.deref.ensures.value;
        stated = subst (λ (b : Pattern). AreStated b c.self.inside.stated) (sym c.states.ensures) c.self.invariant.1;
      };
      within = subst (λ (b : Pattern). c.args.same ≤ length b) base c.requires.same;
      count = count_base _ c.args.self.now c.self.view_is c.self.invariant.0 c.args.states.now c.requires.assigned c.states.result.now c.states.ensures;
      assigned = subst (λ (b : Pattern). IsAssignment b c.deref.result.now c.args.states.now) base
          (subst (λ (us : List Bool). IsAssignment c.args.self.now.base us c.args.states.now) unbounded c.requires.assigned);
    }
