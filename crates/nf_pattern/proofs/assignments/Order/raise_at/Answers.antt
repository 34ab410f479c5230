use Rattle.std.proofs.Common.{◌≡◌, ◌+◌, ◌-◌, ℕ, suc, List, ◌++◌, Bool, length, set, take, drop, Some, ap, subst, refl, sym, ◌∙◌, add-one, length-drop}
use Rattle.std.proofs.Common.{arith}
use Rattle.nf_pattern.proofs.Common.{length-set, Pattern, earliest, IsQuiet}
use borrow.Rule.Slice.PartMut.{put_mid}
use Rattle.nf_pattern.proofs.Raising.{from_one, put_end, valid_after, chosen_fits, raises, not_raised}
use Rattle.nf_pattern.proofs.Each.{as_many_from}
use Rattle.nf_pattern.proofs.Quiet.{quiet_behind}
use Rattle.nf_pattern.proofs.assignments.Order.raise_at.Goals as goal

pub overflow_sub-left : goal.overflow_sub-left
overflow_sub-left c =
    (chosen_fits c.args.self.now.base.now c.args.self.now.unbounded.now c.args.self.now.sole.now c.args.states.now c.args.link c.args.changes c.args.more
    c.requires.free c.in-Some.state c.change.result
    (sym c.in-Some.is ∙ c.next_choice.ensures) c.change.ensures.value).0

pub fill-quiet-requires-clause-valid : goal.fill-quiet-requires-clause-valid
fill-quiet-requires-clause-valid c = rw (from_one c.args.self.now.base.now c.args.link, from_one c.args.self.now.unbounded.now c.args.link)
    (valid_after (suc c.args.link) c.args.self.now.base.now c.args.self.now.unbounded.now c.requires.order.valid)

pub fill-quiet-requires-clause-free : goal.fill-quiet-requires-clause-free
fill-quiet-requires-clause-free c = rw (from_one c.args.self.now.base.now c.args.link) c.requires.free

pub fill-quiet-requires-clause-changes : goal.fill-quiet-requires-clause-changes
fill-quiet-requires-clause-changes c =
    (chosen_fits c.args.self.now.base.now c.args.self.now.unbounded.now c.args.self.now.sole.now c.args.states.now c.args.link c.args.changes c.args.more
    c.requires.free c.in-Some.state c.change.result
    (sym c.in-Some.is ∙ c.next_choice.ensures) c.change.ensures.value).1

pub returns-in-Some : goal.returns-in-Some
returns-in-Some c =
    let filled : earliest (drop (suc c.args.link) c.args.self.now.base.now) (drop (suc c.args.link) c.args.self.now.unbounded.now)
    (c.args.changes - c.change.result) ≡ Some c.fill-quiet.new.states =
    subst (λ (x : Pattern). earliest x (drop (suc c.args.link) c.args.self.now.unbounded.now)
    (c.args.changes - c.change.result) ≡ Some c.fill-quiet.new.states) (from_one c.args.self.now.base.now c.args.link)
    (subst (λ (x : List Bool). earliest (take (length c.args.self.now.base.now - (c.args.link + 1)) (drop (c.args.link + 1) c.args.self.now.base.now)) x
    (c.args.changes - c.change.result) ≡ Some c.fill-quiet.new.states)
    (from_one c.args.self.now.unbounded.now c.args.link) c.fill-quiet.ensures.filled) in
    let stays : put_mid (c.args.link + 1) (length (set c.args.states.now c.args.link c.in-Some.state) - (c.args.link + 1))
    (set c.args.states.now c.args.link c.in-Some.state) c.fill-quiet.new.states
    ≡ take (suc c.args.link) (set c.args.states.now c.args.link c.in-Some.state) ++ c.fill-quiet.new.states =
    put_end (set c.args.states.now c.args.link c.in-Some.state) c.fill-quiet.new.states (c.args.link + 1)
    (length (set c.args.states.now c.args.link c.in-Some.state) - (c.args.link + 1)) (omega arith)
    ∙ ap (λ (n : ℕ). take n (set c.args.states.now c.args.link c.in-Some.state) ++ c.fill-quiet.new.states) (add-one c.args.link) in (
      raises c.args.self.now.base.now c.args.self.now.unbounded.now c.args.self.now.sole.now c.args.states.now c.args.link c.args.changes c.args.more
          c.requires.free c.in-Some.state c.fill-quiet.new.states _ c.change.result
          (let r = c.requires.states in let l = c.requires.link in omega arith) (sym c.in-Some.is ∙ c.next_choice.ensures) c.change.ensures.value filled stays,
      quiet_behind c.args.self.now.base.now (set c.args.states.now c.args.link c.in-Some.state) c.fill-quiet.new.states _
          (suc c.args.link) c.fill-quiet.result _ (let l = c.requires.link in omega arith)
          (length-set c.args.states.now c.args.link c.in-Some.state ∙ c.requires.states) stays
          (subst (λ (x : Pattern). IsQuiet x c.fill-quiet.result c.fill-quiet.new.states) (from_one c.args.self.now.base.now c.args.link) c.fill-quiet.ensures.quiet) (omega arith) refl,
    )

pub returns-in-None : goal.returns-in-None
returns-in-None c = (
  not_raised c.args.self.now.base.now c.args.self.now.unbounded.now c.args.self.now.sole.now c.args.states.now c.args.link c.args.changes c.args.more
      c.requires.free (sym c.in-None.is ∙ c.next_choice.ensures),
  refl,
)

pub fill-quiet-requires-clause-states : goal.fill-quiet-requires-clause-states
fill-quiet-requires-clause-states c =
    as_many_from (set c.args.states.now c.args.link c.in-Some.state) c.args.self.now.base.now (c.args.link + 1)
    (length-set c.args.states.now c.args.link c.in-Some.state ∙ c.requires.states)

pub fill-quiet-requires-clause-unbounded : goal.fill-quiet-requires-clause-unbounded
fill-quiet-requires-clause-unbounded c = as_many_from c.args.self.now.unbounded.now c.args.self.now.base.now (c.args.link + 1) c.requires.order.unbounded

pub overflow_add-result : goal.overflow_add-result
overflow_add-result c = let within = c.fill-quiet.ensures.quiet.within in let count = length-drop (c.args.link + 1) c.args.self.now.base.now in omega arith
