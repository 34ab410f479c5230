use Rattle.std.proofs.Common.{◌≡◌, ℕ, suc, ap, subst, refl, ◌∙◌, add-one, arith, Some, None}
use Rattle.nf_pattern.proofs.Common.{changes, free, earliest}
use Rattle.nf_pattern.proofs.Counting.{none_earliest, else_other, else_first}
use Rattle.nf_pattern.proofs.assignments.Order.advance.Goals as goal

pub returns-in-Some : goal.returns-in-Some
returns-in-Some c = (
  else_first c.args.same c.args.self.now.base.now c.args.self.now.unbounded.now c.args.self.now.sole.now c.args.states.now c.raise.new.states
      c.in-Some.ensures.0,
  c.in-Some.ensures.1,
  c.in-Some.ensures.2,
)

pub returns-then-changes-more : goal.returns-then-changes-more
returns-then-changes-more c =
    let stays = c.in_default.ensures.1 in
    let counted : c.count_changes-changes.result ≡ changes c.args.self.now.base.now c.args.states.now = c.count_changes-changes.ensures.changes
    ∙ ap (changes c.args.self.now.base.now) stays in
    let all : c.count_free-more.result ≡ free c.args.self.now.base.now = c.count_free-more.ensures.free in (
      else_other c.args.same c.args.self.now.base.now c.args.self.now.unbounded.now c.args.self.now.sole.now c.args.states.now None c.in_default.ensures.0
          (none_earliest c.args.self.now.base.now c.args.self.now.unbounded.now (suc (changes c.args.self.now.base.now c.args.states.now)) c.requires.may.is_order.valid (omega arith)),
      stays,
    )

pub returns : goal.returns
returns c =
    let counted : c.count_changes-changes.result ≡ changes c.args.self.now.base.now c.args.states.now = c.count_changes-changes.ensures.changes
    ∙ ap (changes c.args.self.now.base.now) c.in_default.ensures.1 in (
      else_other c.args.same c.args.self.now.base.now c.args.self.now.unbounded.now c.args.self.now.sole.now c.args.states.now (Some c.fill-quiet.new.states) c.in_default.ensures.0
          (subst (λ (n : ℕ). earliest c.args.self.now.base.now c.args.self.now.unbounded.now n ≡ Some c.fill-quiet.new.states)
          (add-one c.count_changes-changes.result ∙ ap suc counted) c.fill-quiet.ensures.filled),
      (omega arith, refl),
      c.fill-quiet.ensures.quiet,
    )

pub fill-quiet-requires-clause-unbounded : goal.fill-quiet-requires-clause-unbounded
fill-quiet-requires-clause-unbounded c = c.requires.may.is_order.unbounded

pub raise-requires-clause-may : goal.raise-requires-clause-may
raise-requires-clause-may c = c.requires.may
