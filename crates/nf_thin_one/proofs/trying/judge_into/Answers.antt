use Rattle.std.proofs.Common.{sym, ◌∙◌, arith}
use Rattle.nf_thin_one.proofs.Common.{length-take-le}
use Rattle.nf_thin_one.proofs.trying.judge_into.Goals as goal

pub returns-clause-flows : goal.returns-clause-flows
returns-clause-flows c = assumption

pub copy_from_slice-requires : goal.copy_from_slice-requires
copy_from_slice-requires c =
    c.requires.slopes ∙ (sym c.node_count.ensures ∙ sym (length-take-le c.node_count.result c.args.values.now (omega (arith, c.node_count.ensures, c.requires.values))))

pub judge-requires-clause-states : goal.judge-requires-clause-states
judge-requires-clause-states c = c.requires.pattern.pattern_is.count ∙ c.requires.pattern.sets_are.count
