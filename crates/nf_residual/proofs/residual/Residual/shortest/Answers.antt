use Rattle.std.proofs.Common.{length, ap, ◌∙◌}
use Rattle.nf_residual.proofs.Common.{ℚ, err_from_is_err_and, passes_Q}
use Rattle.nf_residual.proofs.Finishing.{shortest_stops, room_passes, walk_listed, walk_first, walk_there}
use Rattle.nf_residual.proofs.residual.Residual.shortest.Goals as goal

pub returns-in_err-known-clause-list : goal.returns-in_err-known-clause-list
returns-in_err-known-clause-list c =
    let p = err_from_is_err_and c.from_residual.result c.from_residual.ensures.1 in
    rw (p.1, p.2) (shortest_stops passes_Q c.args.net.now.net c.args.self.now c.as_slice-flows.result.now
    (c.as_slice-flows.ensures.value ∙ c.self.view_is) c.source.result c.source.ensures.value
    c.in_err-known.field-0.0 c.in_err-known.ensures.list)

pub with_room-requires-clause-walk : goal.with_room-requires-clause-walk
with_room-requires-clause-walk c =
    walk_there passes_Q c.args.net.now.net c.args.self.now c.as_slice-flows.result.now
    (c.as_slice-flows.ensures.value ∙ c.self.view_is) c.source.result c.source.ensures.value
    c.in_ok-known.known c.in_ok-known.ensures.list c.in_ok-way.way c.sink.result c.sink.ensures.value c.in_ok-way.ensures c.recall.ensures.network c.requires.sound

pub returns-in_err-walk-clause-list : goal.returns-in_err-walk-clause-list
returns-in_err-walk-clause-list c =
    let p = err_from_is_err_and c.from_residual-in_err-walk.result c.from_residual-in_err-walk.ensures.1 in
    rw (p.1, p.2) (room_passes passes_Q c.args.net.now.net c.args.self.now c.as_slice-flows.result.now
    (c.as_slice-flows.ensures.value ∙ c.self.view_is) c.source.result c.source.ensures.value
    c.in_ok-known.known c.in_ok-known.ensures.list c.in_ok-way.way c.sink.result c.sink.ensures.value c.in_ok-way.ensures c.in_err-walk.field-0.0 c.in_err-walk.ensures)

pub returns-clause-list : goal.returns-clause-list
returns-clause-list c =
    walk_listed passes_Q c.args.net.now.net c.args.self.now c.as_slice-flows.result.now
    (c.as_slice-flows.ensures.value ∙ c.self.view_is) c.source.result c.source.ensures.value
    c.in_ok-known.known c.in_ok-known.ensures.list c.in_ok-way.way c.sink.result c.sink.ensures.value c.in_ok-way.ensures c.in_ok-walk.walk c.in_ok-walk.ensures

pub returns-clause-first : goal.returns-clause-first
returns-clause-first c =
    walk_first passes_Q c.args.net.now.net c.args.self.now c.as_slice-flows.result.now
    (c.as_slice-flows.ensures.value ∙ c.self.view_is) c.source.result c.source.ensures.value
    c.in_ok-known.known c.in_ok-known.ensures.list c.in_ok-way.way c.sink.result c.sink.ensures.value c.in_ok-way.ensures c.recall.ensures.network c.requires.sound c.requires.limited
    c.in_ok-walk.walk c.in_ok-walk.ensures

pub with_room-requires-clause-limited : goal.with_room-requires-clause-limited
with_room-requires-clause-limited c = c.requires.limited

pub with_room-requires-clause-flows : goal.with_room-requires-clause-flows
with_room-requires-clause-flows c = ap (length {A = ℚ}) (c.as_slice-flows.ensures.value ∙ c.self.view_is) ∙ c.requires.sound.flow.count

pub reaches-requires-clause-flows : goal.reaches-requires-clause-flows
reaches-requires-clause-flows c = ap (length {A = ℚ}) (c.as_slice-flows.ensures.value ∙ c.self.view_is) ∙ c.requires.sound.flow.count
