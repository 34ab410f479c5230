use Rattle.std.proofs.Common.{ℕ, List, ◌++◌, refl, sym, ap, ◌∙◌, append_assoc, codes}
use Rattle.nf_app_answers.proofs.Common.{point_lines, loaded_lines, loaded_of, Line, wrote_next, wrote_failed, wrote_then_failed}
use Rattle.nf_load_def.specs.Loading as lists
use Rattle.nf_app_answers.proofs.load_text.write_curves.Goals as goal

abbrev queue_lines : List ℕ → lists.Loaded → List Line
queue_lines name l = point_lines (codes "queue") name l.queue

abbrev outflow_lines : List ℕ → lists.Loaded → List Line
outflow_lines name l = point_lines (codes "outflow") name l.outflow

abbrev exit_lines : List ℕ → lists.Loaded → List Line
exit_lines name l = point_lines (codes "exit") name l.exit

abbrev lines_of : List ℕ → lists.Loaded → List Line
lines_of name l = (queue_lines name l ++ outflow_lines name l) ++ exit_lines name l

pub returns-in_err-write_curve : goal.returns-in_err-write_curve
returns-in_err-write_curve g c =
    let l = loaded_of c.args.loaded.now in
    let n = c.as_bytes-name.result.now in
    wrote_failed (queue_lines n l) (outflow_lines n l ++ exit_lines n l) (loaded_lines c.args.net.now.link_names (c.args.link, l)) c.from_residual.result
    (sym (append_assoc (queue_lines n l) (outflow_lines n l) (exit_lines n l)) ∙ ap (λ (m : List ℕ). lines_of m l) (c.as_bytes-name.ensures.value ∙ c.link_name.ensures))
    c.from_residual.ensures.0 c.in_err-write_curve.ensures

pub returns-in_err-write_curve-2 : goal.returns-in_err-write_curve-2
returns-in_err-write_curve-2 g c =
    let l = loaded_of c.args.loaded.now in
    let n = c.as_bytes-name.result.now in
    wrote_then_failed (queue_lines n l) (outflow_lines n l) (exit_lines n l) (loaded_lines c.args.net.now.link_names (c.args.link, l)) c.from_residual-in_err-write_curve-2.result
    (ap (λ (m : List ℕ). lines_of m l) (c.as_bytes-name.ensures.value ∙ c.link_name.ensures))
    c.from_residual-in_err-write_curve-2.ensures.0 c.in_ok-write_curve.ensures c.in_err-write_curve-2.ensures

pub returns : goal.returns
returns g c =
    let l = loaded_of c.args.loaded.now in
    let n = c.as_bytes-name.result.now in
    wrote_next (queue_lines n l ++ outflow_lines n l) (exit_lines n l) (loaded_lines c.args.net.now.link_names (c.args.link, l))
    (ap (λ (m : List ℕ). lines_of m l) (c.as_bytes-name.ensures.value ∙ c.link_name.ensures))
    (wrote_next (queue_lines n l) (outflow_lines n l) (queue_lines n l ++ outflow_lines n l) refl c.in_ok-write_curve.ensures c.in_ok-write_curve-2.ensures) c.write_curve-3.ensures
