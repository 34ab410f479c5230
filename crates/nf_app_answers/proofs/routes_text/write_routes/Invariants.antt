use Rattle.std.proofs.Common.{[], take, length, Ok, flat_map}
use Rattle.nf_app_answers.proofs.Common.{range_with_len, SinkFault, state_of, route_lines, WroteLines, with_kept_entries}
use Rattle.nf_app_answers.proofs.routes_text.write_routes.Given as goal

-- the curves of the routes before this one
abbrev pub invariant-loop-route : goal.invariant-loop-route
invariant-loop-route g l = let out = g.O.Sink in
    WroteLines {E = SinkFault} (state_of out l.initial.out) (state_of out l.out)
    (flat_map (route_lines l.routes (with_kept_entries [] l.routed)) (take l.route (range_with_len 0 (length l.routes)))) (Ok tt)
