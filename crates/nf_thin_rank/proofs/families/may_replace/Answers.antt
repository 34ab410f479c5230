use Rattle.std.proofs.Common.{sym, ap, ◌∙◌}
use Rattle.nf_thin_rank.proofs.Common.{Link}
use Rattle.nf_thin_rank.proofs.Keepers.{may_keep_by}
use Rattle.nf_thin_rank.proofs.families.may_replace.Goals as goal

pub returns-clause-differs : goal.returns-clause-differs
returns-clause-differs c told = c.is_other.ensures c.if-not-is_other.false

pub returns-clause-keeps : goal.returns-clause-keeps
returns-clause-keeps c told sets =
    may_keep_by c.args.net.now.net sets c.args.listed.now c.args.link c.args.node c.link-here.result c.state.result c.link-here.ensures.link
    (sym (ap (λ (l : Link). l.head) c.here.view_is) ∙ c.is_one_node.ensures c.if-not-is_one_node.false) c.state.ensures (c.leads.ensures.leads told)
