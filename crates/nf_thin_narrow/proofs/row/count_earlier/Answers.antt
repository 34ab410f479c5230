use Rattle.std.proofs.Common.{◌≡◌, ◌+◌, ◌-◌, ◌<◌, ℕ, suc, Bool, true, false, length, get_or, drop, refl, subst, ◌∙◌, arith, Some, slice_get}
use Rattle.nf_thin_narrow.proofs.Common.{slice_get-get_or, changes, change, states_of, few_changes, CountsCapped}
use Rattle.nf_thin_narrow.proofs.Stepping.{changes_behind, changes_step_at, row_more, earlier_more, earlier_at, ways_from, earlier_from, ways_step}
use Rattle.nf_thin_narrow.proofs.Stepping.{earlier_step}
use Rattle.nf_thin_narrow.proofs.row.count_earlier.Goals as goal

pub overflow_add-made : goal.overflow_add-made
overflow_add-made c =
    let step = changes_step_at c.args.base.now c.args.pattern.now (c.loop-e.e - 1) c.loop-e.e c.state-here.result c.state-state.result
    (omega arith) c.state-here.ensures c.state-state.ensures in
    let value = c.change-made.ensures.value in
    let made = c.loop-e.invariant.made_is in
    let few = changes_behind c.args.base.now c.args.pattern.now (c.loop-e.e - 1) in
    let all = few_changes c.args.base.now c.args.pattern.now (changes c.args.base.now c.args.pattern.now) refl in
    let fewer = c.requires.fewer in
    omega arith

pub ways_under-under-requires : goal.ways_under-under-requires
ways_under-under-requires c =
    let step = changes_step_at c.args.base.now c.args.pattern.now (c.loop-e.e - 1) c.loop-e.e c.state-here.result c.state-state.result
    (omega arith) c.state-here.ensures c.state-state.ensures in
    let value = c.change-made.ensures.value in
    let made = c.loop-e.invariant.made_is in
    let few = changes_behind c.args.base.now c.args.pattern.now (c.loop-e.e - 1) in
    let count = c.loop-e.invariant.count in
    omega arith

pub loop-e-preserved : goal.loop-e-preserved
loop-e-preserved c =
    let within = c.loop-e.invariant.within in
    let at : c.loop-e.e ≡ suc (c.loop-e.e - 1) = omega arith in
    let step = changes_step_at c.args.base.now c.args.pattern.now (c.loop-e.e - 1) c.loop-e.e c.state-here.result c.state-state.result at c.state-here.ensures c.state-state.ensures in
    let value = c.change-made.ensures.value in
    let made = c.loop-e.invariant.made_is in
    let now : c.loop-e.made + c.change-made.result ≡ changes (drop (c.loop-e.e - 1) c.args.base.now) (drop (c.loop-e.e - 1) c.args.pattern.now) = omega arith in
    let few = changes_behind c.args.base.now c.args.pattern.now (c.loop-e.e - 1) in
    let count = c.loop-e.invariant.count in
    let less : c.loop-e.made + c.change-made.result < length c.loop-e.row = omega arith in
    let tells : CountsCapped c.loop-e.row (ways_from c.args.base.now c.args.unbounded.now c.args.sole.now (suc (c.loop-e.e - 1))) =
    subst (λ (n : ℕ). CountsCapped c.loop-e.row (ways_from c.args.base.now c.args.unbounded.now c.args.sole.now n)) at c.loop-e.invariant.tells in
    let unbounded : Bool = get_or c.args.unbounded.now (c.loop-e.e - 1) false in
    let sole : Bool = get_or c.args.sole.now (c.loop-e.e - 1) false in
    let behind = changes_step_at c.args.base.now c.args.pattern.now (c.loop-e.e - 1)
    (suc (c.loop-e.e - 1)) c.state-here.result c.state-state.result refl c.state-here.ensures c.state-state.ensures in
    let split : c.loop-e.made + c.change-made.result ≡ change c.state-here.result c.state-state.result + changes
    (drop (suc (c.loop-e.e - 1)) c.args.base.now) (drop (suc (c.loop-e.e - 1)) c.args.pattern.now) = omega arith in
    let at_u : slice_get c.args.unbounded.now (c.loop-e.e - 1) ≡ Some (get_or c.args.unbounded.now (c.loop-e.e - 1) false) =
    slice_get-get_or c.args.unbounded.now (c.loop-e.e - 1) false (let n = c.requires.unbounded in omega arith) in
    let at_o : slice_get c.args.sole.now (c.loop-e.e - 1) ≡ Some (get_or c.args.sole.now (c.loop-e.e - 1) false) =
    slice_get-get_or c.args.sole.now (c.loop-e.e - 1) false (let n = c.requires.sole in omega arith) in
    record {
      within = omega arith;
      count = c.add_link.ensures.count ∙ c.loop-e.invariant.count;
      made_is = now;
      tells = row_more (states_of c.state-here.result unbounded sole) c.state-here.result c.state-state.result
          (ways_from c.args.base.now c.args.unbounded.now c.args.sole.now (suc (c.loop-e.e - 1))) c.loop-e.row tells
          (ways_from c.args.base.now c.args.unbounded.now c.args.sole.now (c.loop-e.e - 1))
          (ways_step c.args.base.now c.args.pattern.now c.args.unbounded.now c.args.sole.now
          (c.loop-e.e - 1) c.state-here.result c.state-state.result unbounded sole c.state-here.ensures c.state-state.ensures at_u at_o)
          c.add_link.new.row c.add_link.ensures.count c.add_link.ensures.ways;
      earlier_is = earlier_more (states_of c.state-here.result unbounded sole) c.state-here.result c.state-state.result
          (ways_from c.args.base.now c.args.unbounded.now c.args.sole.now (suc (c.loop-e.e - 1))) c.loop-e.row tells
          true (earlier_from c.args.base.now c.args.unbounded.now c.args.sole.now c.args.pattern.now (suc (c.loop-e.e - 1)))
          (earlier_from c.args.base.now c.args.unbounded.now c.args.sole.now c.args.pattern.now (c.loop-e.e - 1) (c.loop-e.made + c.change-made.result))
          (changes (drop (suc (c.loop-e.e - 1)) c.args.base.now) (drop (suc (c.loop-e.e - 1)) c.args.pattern.now)) (c.loop-e.made + c.change-made.result)
          (earlier_step c.args.base.now c.args.pattern.now c.args.unbounded.now c.args.sole.now
          (c.loop-e.e - 1) c.state-here.result c.state-state.result unbounded sole c.state-here.ensures c.state-state.ensures at_u at_o
          (c.loop-e.made + c.change-made.result))
          split less c.loop-e.earlier c.ways_under-under.result c.loop-e.earlier c.saturating_add-earlier.result
          (earlier_at (earlier_from c.args.base.now c.args.unbounded.now c.args.sole.now c.args.pattern.now) c.args.base.now c.args.pattern.now c.loop-e.e
          (suc (c.loop-e.e - 1)) c.loop-e.made c.loop-e.earlier at made c.loop-e.invariant.earlier_is)
          (c.ways_under-under.ensures sole) refl c.saturating_add-earlier.ensures;
    }
