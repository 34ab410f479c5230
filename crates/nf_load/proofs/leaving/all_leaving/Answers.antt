use Rattle.std.proofs.Common.{◌≡◌, suc, ◌+◌, ◌-◌, ◌<◌, List, length, refl, sym, ap, subst, ◌∙◌, arith, Option, slice_get}
use Rattle.nf_load.proofs.Common.{length_push, slice_get_read, same_Some, Exit, AreLeaving, IsLeavingIf, IsPaceIf, Pace, Leaving}
use Rattle.nf_load.proofs.Alongs.{along_none, along_flat, along_push}
use Rattle.nf_load.proofs.leaving.all_leaving.Goals as goal

pub loop-i-init : goal.loop-i-init
loop-i-init c = record {
  count = ap (λ (l : List (Option Leaving)). length l + 1) c.in_ok-leaving.ensures.items;
  leaving = subst (λ (l : List (Option Leaving)). AreLeaving c.args.all.now l) (sym c.in_ok-leaving.ensures.items) (along_none IsLeavingIf c.args.all.now);
}

pub leaves-slopes-requires-clause-pace : goal.leaves-slopes-requires-clause-pace
leaves-slopes-requires-clause-pace c =
    let inside : c.loop-i.i < length c.args.all.now = c.loop-i-test.true in
    let before : c.loop-i.i - 1 < length c.args.all.now = omega arith in
    let e = slice_get_read c.args.all.now _ (c.loop-i.i - 1) c.index-all-i.result refl before c.index-all-i.is in
    let g = slice_get_read c.args.all.now _ c.loop-i.i c.index-all-i-in-loop-i.result refl inside c.index-all-i-in-loop-i.is in
    subst (λ (o : Option Pace). IsPaceIf c.args.capacity.now o c.index-all-i.result.waits c.index-all-i-in-loop-i.result.waits) (sym c.known_at.ensures)
    (along_flat (λ (pace : Option Pace) (before after : Exit). IsPaceIf c.args.capacity.now pace before.waits after.waits) c.args.all.now c.args.paces.now (c.loop-i.i - 1) c.loop-i.i
    c.index-all-i.result c.index-all-i-in-loop-i.result tt c.requires.exits.known e (omega (arith, c.loop-i.invariant.count)) g)

pub leaves-slopes-requires-clause-exits : goal.leaves-slopes-requires-clause-exits
leaves-slopes-requires-clause-exits c =
    let inside : c.loop-i.i < length c.args.all.now = c.loop-i-test.true in
    let before : c.loop-i.i - 1 < length c.args.all.now = omega arith in
    record {
      transit = c.requires.exits.transit;
      first = c.requires.exits.exits (c.loop-i.i - 1) c.index-all-i.result (slice_get_read c.args.all.now _ (c.loop-i.i - 1) c.index-all-i.result refl before c.index-all-i.is);
      second = c.requires.exits.exits c.loop-i.i c.index-all-i-in-loop-i.result
          (slice_get_read c.args.all.now _ c.loop-i.i c.index-all-i-in-loop-i.result refl inside c.index-all-i-in-loop-i.is);
    }

pub loop-i-preserved : goal.loop-i-preserved
loop-i-preserved c =
    let inside : c.loop-i.i < length c.args.all.now = c.loop-i-test.true in
    let before : c.loop-i.i - 1 < length c.args.all.now = omega arith in
    let e = slice_get_read c.args.all.now _ (c.loop-i.i - 1) c.index-all-i.result refl before c.index-all-i.is in
    let g = slice_get_read c.args.all.now _ c.loop-i.i c.index-all-i-in-loop-i.result refl inside c.index-all-i-in-loop-i.is in
    let old : List (Option Leaving) = c.loop-i.leaving.items in
    let slopes : Option Leaving = c.leaves-slopes.result in
    let first : c.loop-i.i - 1 ≡ length old = omega (arith, c.loop-i.invariant.count) in
    let second : c.loop-i.i ≡ suc (length old) = omega (arith, c.loop-i.invariant.count) in
    record {
      count = omega (arith, c.loop-i.invariant.count, ap (λ (l : List (Option Leaving)). length l) c.in_ok-push.ensures.items, length_push old slopes);
      leaving = subst (λ (l : List (Option Leaving)). AreLeaving c.args.all.now l) (sym c.in_ok-push.ensures.items)
          (along_push IsLeavingIf c.args.all.now old slopes c.loop-i.invariant.leaving (λ x y at there.
          subst (λ (a : Exit). IsLeavingIf slopes a y) (same_Some c.index-all-i.result x (sym e ∙ ap (slice_get c.args.all.now) first ∙ at))
          (subst (λ (b : Exit). IsLeavingIf slopes c.index-all-i.result b) (same_Some c.index-all-i-in-loop-i.result y
          (sym g ∙ ap (slice_get c.args.all.now) second ∙ there)) c.leaves-slopes.ensures)));
    }
