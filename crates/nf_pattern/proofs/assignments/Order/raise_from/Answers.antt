use Rattle.std.proofs.Common.{◌≡◌, suc, ◌<◌, ◌+◌, length, get_or, drop, None, ap, subst, refl, ◌∙◌, arith}
use Rattle.nf_pattern.proofs.Common.{Pattern, change, RaisesAt, raised_at}
use Rattle.nf_pattern.proofs.Counting.{few_changes}
use Rattle.nf_pattern.proofs.Quiet.{free_few}
use Rattle.nf_pattern.proofs.Raising.{last_from, free_behind, raised_later, raised_same, last_kept, last_stated, last_all}
use Rattle.nf_pattern.proofs.assignments.Order.raise_from.Goals as goal

pub loop-i-init : goal.loop-i-init
loop-i-init c = record {
  kept = refl;
  below = omega arith;
  last = last_from c.args.self.now.base.now c.args.self.now.unbounded.now c.args.self.now.sole.now c.args.states.now c.args.same c.args.changes c.args.more c.requires.may.within
      c.requires.counted (few_changes (drop c.args.same c.args.self.now.base.now) (drop c.args.same c.args.states.now) c.args.changes c.requires.counted)
      c.requires.free (let f = c.requires.free in let few = free_few (drop c.args.same c.args.self.now.base.now) in omega arith);
}

pub slice_copy_out-change : goal.slice_copy_out-change
slice_copy_out-change c =
    let k = ap length c.loop-i.invariant.kept in let w = c.loop-i.invariant.last.within in
    let l = (c.up_to-i.ensures c.args.self.now.base.now c.requires.may.is_order.stated).0 in let n = c.requires.may.count in omega arith

pub overflow_add-changes : goal.overflow_add-changes
overflow_add-changes c = let f = c.loop-i.invariant.last.few in let s = c.change-changes.ensures.small in omega arith

pub raise_at-requires-clause-free : goal.raise_at-requires-clause-free
raise_at-requires-clause-free c =
    let last = last_stated c.args.self.now.base.now c.args.self.now.unbounded.now c.args.self.now.sole.now c.args.states.now c.args.same c.up_to-i.result
    c.loop-i.i c.loop-i.changes c.loop-i.more c.loop-i.invariant.last
    (let some = c.loop-i-test.true in omega arith) c.loop-i.invariant.below c.requires.may.assigned c.requires.may.is_order.unbounded
    c.requires.may.is_order.sole (c.up_to-i.ensures c.args.self.now.base.now c.requires.may.is_order.stated) in
    free_behind c.args.self.now.base.now c.args.self.now.unbounded.now c.args.self.now.sole.now c.args.states.now c.args.same c.up_to-i.result
    (suc c.up_to-i.result) c.loop-i.changes c.loop-i.more last refl
    c.requires.may.count c.requires.may.is_order.unbounded c.requires.may.is_order.sole

pub returns-in-Some : goal.returns-in-Some
returns-in-Some c =
    let last = last_stated c.args.self.now.base.now c.args.self.now.unbounded.now c.args.self.now.sole.now c.args.states.now c.args.same c.up_to-i.result
    c.loop-i.i c.loop-i.changes c.loop-i.more c.loop-i.invariant.last
    (let some = c.loop-i-test.true in omega arith) c.loop-i.invariant.below c.requires.may.assigned c.requires.may.is_order.unbounded
    c.requires.may.is_order.sole (c.up_to-i.ensures c.args.self.now.base.now c.requires.may.is_order.stated) in
    let less : c.up_to-i.result < c.args.same = (let b = c.loop-i.invariant.below in
    let l = (c.up_to-i.ensures c.args.self.now.base.now c.requires.may.is_order.stated).0 in omega arith) in
    let raised : RaisesAt c.args.self.now.base.now c.args.self.now.unbounded.now c.args.self.now.sole.now c.args.states.now c.up_to-i.result
    (c.loop-i.changes + c.change-changes.result) c.raise_at.new.states =
    subst (λ (x : Pattern). RaisesAt c.args.self.now.base.now c.args.self.now.unbounded.now c.args.self.now.sole.now x c.up_to-i.result
    (c.loop-i.changes + c.change-changes.result) c.raise_at.new.states) c.loop-i.invariant.kept c.in-Some.ensures.0 in (
      raised_later c.args.self.now.base.now c.args.self.now.unbounded.now c.args.self.now.sole.now c.args.states.now c.args.same c.up_to-i.result
          (suc c.up_to-i.result) c.loop-i.changes c.loop-i.more last refl
          c.requires.may.count c.requires.may.is_order.unbounded c.requires.may.is_order.sole c.change-changes.result (c.loop-i.changes + c.change-changes.result)
          (subst (λ (x : Pattern). c.change-changes.result ≡ change (get_or c.args.self.now.base.now c.up_to-i.result None)
          (get_or x c.up_to-i.result None)) c.loop-i.invariant.kept c.change-changes.ensures.value) refl
          c.raise_at.new.states less raised,
      raised_same c.args.self.now.base.now c.args.self.now.unbounded.now c.args.self.now.sole.now c.args.states.now c.args.same c.up_to-i.result
          (c.loop-i.changes + c.change-changes.result) c.raise_at.new.states less
          (let w = c.loop-i.invariant.last.within in let l = (c.up_to-i.ensures c.args.self.now.base.now c.requires.may.is_order.stated).0 in
          let n = c.requires.may.count in omega arith) raised,
      c.in-Some.ensures.1,
    )

pub overflow_add-more : goal.overflow_add-more
overflow_add-more c = let f = c.loop-i.invariant.last.few_free in let s = c.change-more.ensures.small in omega arith

pub loop-i-preserved : goal.loop-i-preserved
loop-i-preserved c =
    let last = last_stated c.args.self.now.base.now c.args.self.now.unbounded.now c.args.self.now.sole.now c.args.states.now c.args.same c.up_to-i.result
    c.loop-i.i c.loop-i.changes c.loop-i.more c.loop-i.invariant.last
    (let some = c.loop-i-test.true in omega arith) c.loop-i.invariant.below c.requires.may.assigned c.requires.may.is_order.unbounded
    c.requires.may.is_order.sole (c.up_to-i.ensures c.args.self.now.base.now c.requires.may.is_order.stated) in
    let is : c.change-changes.result ≡ change (get_or c.args.self.now.base.now c.up_to-i.result None) (get_or c.args.states.now c.up_to-i.result None) =
    subst (λ (x : Pattern). c.change-changes.result ≡ change (get_or c.args.self.now.base.now c.up_to-i.result None) (get_or x c.up_to-i.result None))
    c.loop-i.invariant.kept c.change-changes.ensures.value in
    record {
      kept = c.in_default.ensures.1 ∙ c.loop-i.invariant.kept;
      below = (let b = c.loop-i.invariant.below in let l = (c.up_to-i.ensures c.args.self.now.base.now c.requires.may.is_order.stated).0 in omega arith);
      last = last_kept c.args.self.now.base.now c.args.self.now.unbounded.now c.args.self.now.sole.now c.args.states.now c.args.same c.up_to-i.result
          (suc c.up_to-i.result) c.loop-i.changes c.loop-i.more last refl
          c.requires.may.count c.requires.may.is_order.unbounded c.requires.may.is_order.sole c.change-changes.result
          (c.loop-i.changes + c.change-changes.result) is refl c.change-more.result
          (c.loop-i.more + c.change-more.result) c.change-more.ensures.value refl
          (subst (λ (x : Pattern). raised_at c.args.self.now.base.now c.args.self.now.unbounded.now c.args.self.now.sole.now x c.up_to-i.result
          (c.loop-i.changes + c.change-changes.result) ≡ None) c.loop-i.invariant.kept c.in_default.ensures.0)
          (let b = c.loop-i.invariant.below in let l = (c.up_to-i.ensures c.args.self.now.base.now c.requires.may.is_order.stated).0 in omega arith)
          c.change-changes.ensures.small c.change-more.ensures.small;
    }

pub returns : goal.returns
returns c = (
  last_all c.args.self.now.base.now c.args.self.now.unbounded.now c.args.self.now.sole.now c.args.states.now c.args.same c.loop-i.i c.loop-i.changes
      c.loop-i.more (omega arith) c.loop-i.invariant.last,
  c.loop-i.invariant.kept,
)

pub raise_at-requires-clause-order : goal.raise_at-requires-clause-order
raise_at-requires-clause-order c = c.requires.may.is_order
