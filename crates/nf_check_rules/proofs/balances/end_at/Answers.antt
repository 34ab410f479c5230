use Rattle.nf_check_rules.proofs.balances.end_at.Goals as goal

pub last_label-requires : goal.last_label-requires
last_label-requires c = c.requires

pub returns-then-eq-clause-nonnegative : goal.returns-then-eq-clause-nonnegative
returns-then-eq-clause-nonnegative c = c.args.worked.now.known.reached
