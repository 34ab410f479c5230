use Rattle.std.proofs.Common.{sym, ◌∙◌, arith}
use Rattle.nf_curve.proofs.Common.{≤ℚ_of_lt, ≤ℚ_trans}
use Rattle.nf_curve.proofs.Placing.{place-rises}
use Rattle.nf_curve.proofs.Walking.{walk-ends, walk-goes, time-first, earlier-left, earlier-right}
use Rattle.nf_curve.proofs.walk.next_moment.Goals as goal

pub returns-in_default-clause-times : goal.returns-in_default-clause-times
returns-in_default-clause-times c =
    walk-ends c.args.left.now c.args.right.now c.requires.left c.requires.right c.args.now.now c.requires.there c.time_at.result c.time_at-2.result
    c.earlier.result
    c.time_at.ensures c.time_at-2.ensures c.earlier.ensures c.in_default.is

pub place_next-requires-clause-from : goal.place_next-requires-clause-from
place_next-requires-clause-from c =
    let w = walk-goes c.args.left.now c.args.right.now c.requires.left c.requires.right c.args.now.now c.requires.there c.time_at.result c.time_at-2.result c.earlier.result
    c.time_at.ensures c.time_at-2.ensures c.earlier.ensures c.in-Some.time c.in-Some.is in
    let h = place-rises c.args.now.now.time c.in-Some.time c.args.left.now (≤ℚ_of_lt _ _ w.0) in
    let k = c.requires.there.left_place in omega arith

pub place_next-requires-2-clause-from : goal.place_next-requires-2-clause-from
place_next-requires-2-clause-from c =
    let w = walk-goes c.args.left.now c.args.right.now c.requires.left c.requires.right c.args.now.now c.requires.there c.time_at.result c.time_at-2.result c.earlier.result
    c.time_at.ensures c.time_at-2.ensures c.earlier.ensures c.in-Some.time c.in-Some.is in
    let h = place-rises c.args.now.now.time c.in-Some.time c.args.right.now (≤ℚ_of_lt _ _ w.0) in
    let k = c.requires.there.right_place in omega arith

pub returns-clause-there : goal.returns-clause-there
returns-clause-there c =
    let w = walk-goes c.args.left.now c.args.right.now c.requires.left c.requires.right c.args.now.now c.requires.there c.time_at.result c.time_at-2.result c.earlier.result
    c.time_at.ensures c.time_at-2.ensures c.earlier.ensures c.in-Some.time c.in-Some.is in
    record { time = ≤ℚ_trans _ _ _ c.requires.there.time (≤ℚ_of_lt _ _ w.0); left_place = c.place_next.ensures; right_place = c.place_next-2.ensures }

pub returns-clause-times : goal.returns-clause-times
returns-clause-times c = (walk-goes c.args.left.now c.args.right.now c.requires.left c.requires.right c.args.now.now c.requires.there c.time_at.result c.time_at-2.result c.earlier.result
    c.time_at.ensures c.time_at-2.ensures c.earlier.ensures c.in-Some.time c.in-Some.is).1

pub returns-clause-later : goal.returns-clause-later
returns-clause-later c = (walk-goes c.args.left.now c.args.right.now c.requires.left c.requires.right c.args.now.now c.requires.there c.time_at.result c.time_at-2.result c.earlier.result
    c.time_at.ensures c.time_at-2.ensures c.earlier.ensures c.in-Some.time c.in-Some.is).0

pub place_next-requires-clause-next : goal.place_next-requires-clause-next
place_next-requires-clause-next c = time-first c.args.left.now c.args.now.now.left c.time_at.result c.in-Some.time c.time_at.ensures
    (earlier-left c.time_at.result c.time_at-2.result c.in-Some.time (sym c.earlier.ensures ∙ c.in-Some.is))

pub place_next-requires-2-clause-next : goal.place_next-requires-2-clause-next
place_next-requires-2-clause-next c = time-first c.args.right.now c.args.now.now.right c.time_at-2.result c.in-Some.time c.time_at-2.ensures
    (earlier-right c.time_at.result c.time_at-2.result c.in-Some.time (sym c.earlier.ensures ∙ c.in-Some.is))
