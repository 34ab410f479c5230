use Rattle.std.proofs.Common.{◌≡◌, ap, refl, sym, ◌∙◌, arith, get_or, length, ◌+◌, ◌-◌, ◌<◌, ◌≤◌, false, subst, ℕ, suc, drop, Some, None}
use Rattle.nf_pattern.proofs.Common.{Pattern, change, fits_count, choices, first_good, free}
use Rattle.nf_pattern.proofs.Filling.{none_filled, all_filled, rest_free, has_choice, more_filled, idle_filled, no_state, rest_filled}
use Rattle.nf_pattern.proofs.Quiet.{quiet_rest, quiet_end}
use Rattle.nf_pattern.proofs.assignments.fill.Goals as goal
use Rattle.nf_pattern.proofs.assignments.fill.Goals.{in-Some, in_default}

pub loop-i-init : goal.loop-i-init
loop-i-init c = record {
  filled = none_filled c.args.base.now c.args.unbounded.now c.args.changes c.args.more c.args.states.now c.requires.states c.requires.valid c.requires.free c.requires.changes;
  small = omega arith;
}

pub loop-i-preserved : goal.loop-i-preserved
loop-i-preserved c =
    let less : c.saturating_sub-later.result ≡ c.loop-i.later - change None (get_or c.args.base.now c.loop-i.i None) =
    (let v = c.change.ensures.value in let s = c.saturating_sub-later.ensures in omega arith) in
    let below : c.loop-i.i < length c.args.base.now = omega arith in
    let is_more : c.saturating_sub-later.result ≡ free (drop (suc c.loop-i.i) c.args.base.now) =
    rest_free c.args.base.now c.args.unbounded.now c.args.changes c.loop-i.states c.loop-i.i c.loop-i.left c.loop-i.later _ _ c.loop-i.invariant.filled
    below c.requires.unbounded None refl false refl c.saturating_sub-later.result less in
    let small : c.saturating_sub-later.result ≤ c.args.more = (let s = c.loop-i.invariant.small in omega arith) in
    let chosen : c.first_choice.result ≡ first_good (fits_count (get_or c.args.base.now c.loop-i.i None) c.loop-i.left
    (free (drop (suc c.loop-i.i) c.args.base.now))) (choices (get_or c.args.base.now c.loop-i.i None) (get_or c.args.unbounded.now c.loop-i.i false)) =
    subst (λ (m : ℕ). c.first_choice.result ≡ first_good (fits_count (get_or c.args.base.now c.loop-i.i None) c.loop-i.left m)
    (choices (get_or c.args.base.now c.loop-i.i None) (get_or c.args.unbounded.now c.loop-i.i false))) is_more c.first_choice.ensures in
    record {
      filled = elim c.match-first_choice.branch [
        | in-Some w ↦ rw w.states-is (more_filled c.args.base.now c.args.unbounded.now c.args.changes c.loop-i.states c.loop-i.i c.loop-i.left
            c.loop-i.later _ _ c.loop-i.invariant.filled below c.requires.unbounded None refl false refl
            w.in-Some.state (sym chosen ∙ w.in-Some.is) (c.loop-i.i + 1) c.match-first_choice.left c.saturating_sub-later.result (omega arith)
            (let v = w.change-left.ensures.value in let l = w.left-is in omega arith) is_more)
        | in_default w ↦ absurd (has_choice c.args.base.now c.args.unbounded.now c.args.changes c.loop-i.states c.loop-i.i c.loop-i.left c.loop-i.later _ _
            c.loop-i.invariant.filled below c.requires.unbounded None refl false refl
            (sym chosen ∙ w.in_default.is))
      ];
      small = small;
    }

pub returns : goal.returns
returns c = record {
  filled = all_filled c.args.base.now c.args.unbounded.now c.args.changes c.loop-i.states c.loop-i.i c.loop-i.left c.loop-i.later (omega arith) c.loop-i.invariant.filled;
  quiet = quiet_end c.args.base.now c.loop-i.states _ refl refl;
}

pub returns-then-left-eq0 : goal.returns-then-left-eq0
returns-then-left-eq0 c = record {
  filled = rest_filled c.args.base.now c.args.unbounded.now c.args.changes c.loop-i.states c.loop-i.i c.loop-i.left c.loop-i.later c.if-left-eq0.true c.loop-i.invariant.filled
      ∙ ap (λ (x : Pattern). Some x) (sym c.copy_rest.ensures);
  quiet = quiet_rest c.args.base.now c.loop-i.states c.copy_rest.new.states _ (omega arith) c.loop-i.invariant.filled.count c.copy_rest.ensures c.loop-i.invariant.filled.all_free;
}

pub bounds-states-i : goal.bounds-states-i
bounds-states-i c = subst (λ (n : ℕ). c.loop-i.i < n) (sym c.loop-i.invariant.filled.count) c.loop-i-test.true

pub loop-i-preserved-then-is_none : goal.loop-i-preserved-then-is_none
loop-i-preserved-then-is_none c = record {
  filled =
      idle_filled c.args.base.now c.args.unbounded.now c.args.changes c.loop-i.states c.loop-i.i c.loop-i.left c.loop-i.later _ _ c.loop-i.invariant.filled
      (omega arith) c.requires.unbounded None refl false refl
      (c.loop-i.i + 1) (omega arith) (no_state (get_or c.args.base.now c.loop-i.i None) c.if-is_none.ensures);
  small = c.loop-i.invariant.small;
}
