use Rattle.std.proofs.Common.{ℕ, ◌<◌, [], ◌∷◌, length, Some, slice_get, refl, sym, ap, ◌∙◌, length-append, arith}
use Rattle.nf_report_read.proofs.Common.{slice_get_read, curve_keys, key_at, seen_done}
use Rattle.std.proofs.lemmas.Iterator.Adapters.{YieldsList-from_vec}
use Rattle.std.proofs.lemmas.Iterator.Consumers.{YieldsList-turn}
use Rattle.nf_report_read.proofs.Sorting.{kind_here, few_here, key_there, one_more_sorted}
use Rattle.nf_report_read.proofs.report.by_kind.Goals as goal

pub loop-curve-preserved : goal.loop-curve-preserved
loop-curve-preserved c =
    let more = length-append c.loop-curve.yielded (c.in-Some.curve ∷ []) in (
      omega (arith, more, c.loop-curve.invariant.0),
      c.in_ok-put.ensures.reached ∙ c.loop-curve.invariant.1,
      one_more_sorted c.args.net.now c.loop-curve.yielded c.in-Some.curve c.loop-curve.index c.put.new.flow c.loop-curve.invariant.0
          (c.in_ok-put.ensures.sorted (seen_done c.args.net.now 0 c.loop-curve.yielded) (key_at c.args.net.now c.loop-curve.index)
          (kind_here c.args.net.now c.loop-curve.index c.in-Some-key_at.key c.in-Some-key_at.ensures) c.loop-curve.invariant.2),
    )

pub overflow_add-index : goal.overflow_add-index
overflow_add-index c =
    let few = few_here c.args.net.now c.loop-curve.index c.in-Some-key_at.key c.in-Some-key_at.ensures c.recall.ensures in omega (arith, few)

pub put-requires : goal.put-requires
put-requires c =
    let all = YieldsList-from_vec c.args.curves.items c.into_iter-curve-iterator.ensures.into_iter_gives.0
    (omega (arith, c.into_iter-curve-iterator.ensures.into_iter_gives.1, c.args.curves.ok.0)) in
    let turn = YieldsList-turn all c.loop-curve.yielded c.loop-curve.curve-iterator c.loop-curve.yielded_by c.next.result c.next.new.self c.in-Some.curve
    c.in-Some.is c.next.ensures.steps in
    λ none. sym (kind_here c.args.net.now c.loop-curve.index c.in-Some-key_at.key c.in-Some-key_at.ensures)
    ∙ c.requires.idle c.loop-curve.index
    (ap (λ (k : ℕ). slice_get c.args.curves.items k) c.loop-curve.invariant.0
    ∙ slice_get_read c.args.curves.items _ (length c.loop-curve.yielded) c.in-Some.curve refl turn.0 turn.1 ∙ ap Some none)

pub unreachable-requires : goal.unreachable-requires
unreachable-requires c =
    let all = YieldsList-from_vec c.args.curves.items c.into_iter-curve-iterator.ensures.into_iter_gives.0
    (omega (arith, c.into_iter-curve-iterator.ensures.into_iter_gives.1, c.args.curves.ok.0)) in
    let turn = YieldsList-turn all c.loop-curve.yielded c.loop-curve.curve-iterator c.loop-curve.yielded_by c.next.result c.next.new.self c.in-Some.curve
    c.in-Some.is c.next.ensures.steps in
    let inside : c.loop-curve.index < length (curve_keys c.args.net.now) = omega (arith, turn.0, c.requires.count, c.loop-curve.invariant.0) in
    key_there c.args.net.now c.loop-curve.index inside c.in-None-key_at.ensures
