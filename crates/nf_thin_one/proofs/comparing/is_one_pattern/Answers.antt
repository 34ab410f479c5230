use Rattle.std.proofs.Common.{length, ap, sym, ◌∙◌, arith, Option, Some}
use Rattle.nf_thin_one.proofs.Common.{State}
use Rattle.nf_thin_laws.proofs.Bases.{same_entries}
use Rattle.nf_thin_one.proofs.Alike.{alike_more}
use Rattle.nf_thin_one.proofs.comparing.is_one_pattern.Goals as goal

pub loop-e-preserved : goal.loop-e-preserved
loop-e-preserved c = alike_more c.args.one.now c.args.other.now c.loop-e.e c.loop-e.invariant
    (c.state.ensures ∙ (ap (λ (s : Option State). Some s) (c.is_one_state.ensures c.if-not-is_one_state.false) ∙ sym c.state-in-loop-e.ensures))

pub returns : goal.returns
returns c alike = same_entries (length c.args.net.now.net.links) c.args.one.now c.args.other.now c.requires.one c.requires.other
    (λ e less. c.loop-e.invariant e (let n = c.link_count-e-end.ensures in let end = c.loop-e-test.false in omega arith))
