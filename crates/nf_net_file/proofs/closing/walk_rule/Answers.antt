use Rattle.nf_net_file.proofs.Common.{seen_draft}
use Rattle.nf_net_file.proofs.FirstRule.{first_unreached, first_cycle, first_passing, none_broken}
use Rattle.nf_net_file.proofs.FileWalks.{when_true, when_false}
use Rattle.nf_net_file.proofs.closing.walk_rule.Goals as goal

pub returns-then-leaves_nodes : goal.returns-then-leaves_nodes
returns-then-leaves_nodes c = first_unreached (seen_draft c.args.draft.now) c.requires.ends c.if-leaves_nodes.ensures

pub returns-then-cycle : goal.returns-then-cycle
returns-then-cycle c =
    first_cycle (seen_draft c.args.draft.now) c.requires.ends c.if-leaves_nodes.ensures (when_true _ _ _ c.if-cycle.true c.in_ok-cycle.ensures)

pub returns-then-passing : goal.returns-then-passing
returns-then-passing c =
    first_passing (seen_draft c.args.draft.now) c.requires.ends c.if-leaves_nodes.ensures (when_false _ _ _ c.if-cycle.false c.in_ok-cycle.ensures)
    (when_true _ _ _ c.if-passing.true c.in_ok-passing.ensures)

pub returns : goal.returns
returns c =
    none_broken (seen_draft c.args.draft.now) c.requires.ends c.if-leaves_nodes.ensures (when_false _ _ _ c.if-cycle.false c.in_ok-cycle.ensures)
    (when_false _ _ _ c.if-passing.false c.in_ok-passing.ensures)
