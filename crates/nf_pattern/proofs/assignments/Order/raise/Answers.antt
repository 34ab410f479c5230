use Rattle.std.proofs.Common.{◌∙◌, drop, length-drop, arith}
use Rattle.nf_pattern.proofs.Quiet.{changes_to_quiet, free_to_quiet, free_few, raised_up_to}
use Rattle.nf_pattern.proofs.assignments.Order.raise.Goals as goal

pub returns-then-quiet-same : goal.returns-then-quiet-same
returns-then-quiet-same c =
    raised_up_to c.args.self.now.base.now c.args.self.now.unbounded.now c.args.self.now.sole.now c.args.states.now c.raise_from.new.states c.args.quiet
    c.args.same c.raise_from.result c.if-quiet-same.true
    c.requires.may.count c.requires.quiet c.raise_from.ensures

pub raise_from-requires-else-quiet-same-clause-counted : goal.raise_from-requires-else-quiet-same-clause-counted
raise_from-requires-else-quiet-same-clause-counted c =
    c.count_changes-changes.ensures.changes ∙ changes_to_quiet c.args.self.now.base.now c.args.states.now c.args.quiet c.requires.quiet c.args.same
    (let past = c.if-quiet-same.false in omega arith) c.requires.may.count

pub raise_from-requires-else-quiet-same-clause-free : goal.raise_from-requires-else-quiet-same-clause-free
raise_from-requires-else-quiet-same-clause-free c =
    let counted = c.count_free.ensures.free in
    let all = free_to_quiet c.args.self.now.base.now c.args.states.now c.args.quiet c.requires.quiet c.args.same (let past = c.if-quiet-same.false in omega arith) in omega arith

pub overflow_add-more : goal.overflow_add-more
overflow_add-more c =
    let counted = c.count_free.ensures.free in
    let all = free_to_quiet c.args.self.now.base.now c.args.states.now c.args.quiet c.requires.quiet c.args.same (let past = c.if-quiet-same.false in omega arith) in
    let few = free_few (drop c.args.same c.args.self.now.base.now) in
    let count = length-drop c.args.same c.args.self.now.base.now in
    let fewer = c.requires.may.is_order.fewer in omega arith

pub raise_from-requires-else-quiet-same-clause-may : goal.raise_from-requires-else-quiet-same-clause-may
raise_from-requires-else-quiet-same-clause-may c = c.requires.may

pub raise_from-requires-clause-may : goal.raise_from-requires-clause-may
raise_from-requires-clause-may c = record { is_order = c.requires.may.is_order; within = c.requires.quiet.within; count = c.requires.may.count; assigned = c.requires.may.assigned }
