use Rattle.std.proofs.Common.{◌<◌, ◌≤◌, List, length, get_or, set, ap, ◌∙◌, arith}
use Rattle.nf_routes_links.proofs.Common.{length-set, slice_get-get_or, err_from_is_err_and, Point}
use Rattle.nf_routes_links.proofs.Alone.{turned_next, turned_all}
use Rattle.nf_routes_links.proofs.keeping.keep_last_all.Goals as goal

pub bounds-entries-i : goal.bounds-entries-i
bounds-entries-i c = let kept = c.loop-i.invariant.1 in omega arith

pub returns-in_err-keep_last : goal.returns-in_err-keep_last
returns-in_err-keep_last c =
    let p = err_from_is_err_and c.from_residual.result c.from_residual.ensures.1 in
    rw p.1 tt

pub loop-i-preserved : goal.loop-i-preserved
loop-i-preserved c =
    let kept = c.loop-i.invariant.1 in
    let there : c.loop-i.i < length c.loop-i.entries = omega arith in
    let old = get_or c.loop-i.entries c.loop-i.i c.index-entries-i.result in (
      ap (λ (s : List (List Point)). set c.loop-i.entries c.loop-i.i s) c.in_ok-keep_last.ensures
          ∙ turned_next c.args.entries.now c.loop-i.entries c.loop-i.i old c.loop-i.invariant.0 (slice_get-get_or c.loop-i.entries c.loop-i.i c.index-entries-i.result there),
      length-set c.loop-i.entries c.loop-i.i c.keep_last.new.self ∙ kept,
    )

pub returns : goal.returns
returns c =
    let past : length c.args.entries.now ≤ c.loop-i.i = omega arith in
    turned_all c.args.entries.now c.loop-i.entries c.loop-i.i c.loop-i.invariant.0 past
