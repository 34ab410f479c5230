use Rattle.std.proofs.Common.{length, ap, ◌∙◌}
use Rattle.nf_residual.proofs.Common.{ℚ, err_from_is_err_and, passes_Q}
use Rattle.nf_residual.proofs.Finishing.{distances_stop, distances_listed, distances_least}
use Rattle.nf_residual.proofs.residual.Residual.distances.Goals as goal

pub returns-in_err-known-clause-list : goal.returns-in_err-known-clause-list
returns-in_err-known-clause-list c =
    let p = err_from_is_err_and c.from_residual.result c.from_residual.ensures.1 in
    rw (p.1, p.2) (distances_stop passes_Q c.args.net.now.net c.args.self.now c.as_slice-flows.result.now (c.as_slice-flows.ensures.value ∙ c.self.view_is) c.args.from
    c.in_err-known.field-0.0 c.in_err-known.ensures.list)

pub returns-clause-list : goal.returns-clause-list
returns-clause-list c = distances_listed passes_Q c.args.net.now.net c.args.self.now c.as_slice-flows.result.now (c.as_slice-flows.ensures.value ∙ c.self.view_is) c.args.from
    c.in_ok-known.known c.in_ok-known.ensures.list c.in_ok-distances.distances.items
    c.in_ok-distances.ensures

pub returns-clause-least : goal.returns-clause-least
returns-clause-least c = distances_least passes_Q c.args.net.now.net c.args.self.now c.as_slice-flows.result.now (c.as_slice-flows.ensures.value ∙ c.self.view_is) c.args.from
    c.in_ok-known.known c.in_ok-known.ensures.list c.in_ok-distances.distances.items
    c.in_ok-distances.ensures c.recall.ensures.network c.requires.sound c.requires.from

pub reaches-requires-clause-flows : goal.reaches-requires-clause-flows
reaches-requires-clause-flows c = ap (length {A = ℚ}) (c.as_slice-flows.ensures.value ∙ c.self.view_is) ∙ c.requires.sound.flow.count
