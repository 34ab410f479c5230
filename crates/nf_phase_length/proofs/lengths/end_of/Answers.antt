use Rattle.std.proofs.Common.{sym, ◌∙◌}
use Rattle.nf_phase_length.proofs.Common.{err_from_is_err_and, passes_Q, Extend, extend_list, end_after}
use Rattle.nf_phase_def.specs.ToEnd.{end_list}
use Rattle.nf_curve.proofs.Exits.{after_err, after_ok}
use Rattle.nf_phase_length.proofs.LaterEnds.{end_later}
use Rattle.nf_phase_length.proofs.lengths.end_of.Goals as goal

pub returns-in_err-length-clause-list : goal.returns-in_err-length-clause-list
unfolding end_list
returns-in_err-length-clause-list c =
    let p = err_from_is_err_and c.from_residual.result c.from_residual.ensures.1 in
    rw (p.1, p.2) (sym (after_err Extend (extend_list passes_Q c.args.net.now.net c.args.slacks.now c.args.slopes.now c.args.time)
    (end_after passes_Q c.args.time) c.in_err-length.field-0.0 (sym c.in_err-length.ensures.list)))

pub returns-clause-list : goal.returns-clause-list
unfolding end_list
returns-clause-list c =
    c.end_after.ensures ∙ sym (after_ok Extend (extend_list passes_Q c.args.net.now.net c.args.slacks.now c.args.slopes.now c.args.time)
    (end_after passes_Q c.args.time) c.in_ok-length.length (sym c.in_ok-length.ensures.list))

pub returns-clause-later : goal.returns-clause-later
returns-clause-later c =
    end_later passes_Q c.args.net.now.net c.args.slacks.now c.args.slopes.now c.args.time c.in_ok-length.length c.in_ok-length.ensures.length c.end_after.result c.end_after.ensures
