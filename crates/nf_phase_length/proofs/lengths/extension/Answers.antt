use Rattle.nf_phase_length.proofs.Common.{passes_Q}
use Rattle.nf_phase_length.proofs.Meaning.{length_means, whole_list}
use Rattle.nf_phase_length.proofs.lengths.extension.Goals as goal

pub returns-clause-list : goal.returns-clause-list
returns-clause-list c =
    whole_list passes_Q c.args.net.now.net c.args.slacks.now c.args.slopes.now c.args.time c.in_ok-least.least c.next_change.result c.until_change.result
    c.in_ok-least.ensures c.next_change.ensures.change c.until_change.ensures

pub returns-clause-length : goal.returns-clause-length
returns-clause-length c =
    length_means passes_Q c.args.net.now.net c.args.slacks.now c.args.slopes.now c.args.time c.next_change.ensures.pieces c.until_change.result
    (whole_list passes_Q c.args.net.now.net c.args.slacks.now c.args.slopes.now c.args.time c.in_ok-least.least c.next_change.result c.until_change.result
    c.in_ok-least.ensures c.next_change.ensures.change c.until_change.ensures)
