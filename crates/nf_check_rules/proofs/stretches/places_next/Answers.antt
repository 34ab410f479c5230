use Rattle.nf_check_rules.proofs.Merging.{some_next, next_from, next_there}
use Rattle.nf_check_rules.proofs.stretches.places_next.Goals as goal

pub place_next-requires-clause-from : goal.place_next-requires-clause-from
place_next-requires-clause-from c =
    let next = some_next c.args.sent.now c.requires.curves c.args.here.now.places c.args.here.now.time c.requires.here.places c.args.time c.requires.next in
    rw c.as_points.ensures.points (next_from c.args.sent.now c.requires.curves c.args.here.now.places c.args.here.now.time c.requires.here.places
    c.args.time c.args.sent.now.taken.points c.args.here.now.places.taken c.requires.here.places.taken next.later)

pub place_next-requires-clause-next : goal.place_next-requires-clause-next
place_next-requires-clause-next c =
    let next = some_next c.args.sent.now c.requires.curves c.args.here.now.places c.args.here.now.time c.requires.here.places c.args.time c.requires.next in
    rw c.as_points.ensures.points (next_there c.args.sent.now c.requires.curves c.args.here.now.places c.args.here.now.time c.requires.here.places
    c.args.time c.args.sent.now.taken.points c.args.here.now.places.taken c.requires.here.places.taken next.taken_at)

pub place_next-requires-2-clause-from : goal.place_next-requires-2-clause-from
place_next-requires-2-clause-from c =
    let next = some_next c.args.sent.now c.requires.curves c.args.here.now.places c.args.here.now.time c.requires.here.places c.args.time c.requires.next in
    rw c.as_points-2.ensures.points (next_from c.args.sent.now c.requires.curves c.args.here.now.places c.args.here.now.time c.requires.here.places
    c.args.time c.args.sent.now.exits.points c.args.here.now.places.exits c.requires.here.places.exits next.later)

pub place_next-requires-2-clause-next : goal.place_next-requires-2-clause-next
place_next-requires-2-clause-next c =
    let next = some_next c.args.sent.now c.requires.curves c.args.here.now.places c.args.here.now.time c.requires.here.places c.args.time c.requires.next in
    rw c.as_points-2.ensures.points (next_there c.args.sent.now c.requires.curves c.args.here.now.places c.args.here.now.time c.requires.here.places
    c.args.time c.args.sent.now.exits.points c.args.here.now.places.exits c.requires.here.places.exits next.exits_at)

pub place_next-requires-3-clause-from : goal.place_next-requires-3-clause-from
place_next-requires-3-clause-from c =
    let next = some_next c.args.sent.now c.requires.curves c.args.here.now.places c.args.here.now.time c.requires.here.places c.args.time c.requires.next in
    rw c.as_points-3.ensures.points (next_from c.args.sent.now c.requires.curves c.args.here.now.places c.args.here.now.time c.requires.here.places
    c.args.time c.args.sent.now.labels.points c.args.here.now.places.labels c.requires.here.places.labels next.later)

pub place_next-requires-3-clause-next : goal.place_next-requires-3-clause-next
place_next-requires-3-clause-next c =
    let next = some_next c.args.sent.now c.requires.curves c.args.here.now.places c.args.here.now.time c.requires.here.places c.args.time c.requires.next in
    rw c.as_points-3.ensures.points (next_there c.args.sent.now c.requires.curves c.args.here.now.places c.args.here.now.time c.requires.here.places
    c.args.time c.args.sent.now.labels.points c.args.here.now.places.labels c.requires.here.places.labels next.labels_at)
