use Rattle.std.proofs.Common.{List, Some, sym, ap, ◌∙◌, Option, Ok, option_map}
use Rattle.nf_check.proofs.Common.{err_from_is_err_and, passes_Q, Check, Point, Grown, C3, Node, arrivals, labels_in, loaded_in, in_view, compared_by}
use Rattle.nf_check.proofs.Common.{part_goes, part_stops, tries_as}
use Rattle.nf_check_def.specs.Curves.{least_exits}
use Rattle.nf_check.proofs.arrivals.check_arrival.Goals as goal

pub least_exits-requires : goal.least_exits-requires
least_exits-requires c = c.requires.kept

pub compare-requires : goal.compare-requires
compare-requires c = c.args.worked.now.known.reached

pub returns-in_err-least-clause-tries : goal.returns-in_err-least-clause-tries
returns-in_err-least-clause-tries c =
    let p = err_from_is_err_and c.from_residual.result c.from_residual.ensures.1 in
    rw (p.1, p.2) (part_stops Check (least_exits passes_Q (labels_in c.args.worked.now)
    (loaded_in c.args.worked.now) c.args.worked.now.flow.now.reached c.args.worked.now.net.now.net.links c.args.node) _ c.in_err-least.field-0.0
    c.in_err-least.ensures.list)

pub returns-clause-tries : goal.returns-clause-tries
returns-clause-tries c =
    tries_as (λ _. tt) c.compare.result (in_view arrivals c.args.worked.now c.args.node) _
    (part_goes Check (least_exits passes_Q (labels_in c.args.worked.now) (loaded_in c.args.worked.now) c.args.worked.now.flow.now.reached
    c.args.worked.now.net.now.net.links c.args.node) _ (Some c.in-Some.least.points)
    (c.in_ok-least.ensures.list ∙ ap (λ (o : Option Grown). Ok (option_map (λ (g : Grown). g.points) o)) c.in-Some.is)
    ∙ ap (λ (l : List Point). compared_by passes_Q C3 (Node c.args.node) l c.in-Some.least.points c.args.worked.now.flow.now.reached) (sym c.label_at-label.ensures.points))
    c.compare.ensures
