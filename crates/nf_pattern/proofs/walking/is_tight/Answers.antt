use Rattle.std.proofs.Common.{Some, None, ap, ◌∙◌, rules}
use Rattle.nf_pattern.proofs.Common.{State, Tight}
use Rattle.nf_pattern.proofs.Each.{entry_at}
use Rattle.nf_pattern.proofs.Tests.{no_state, other_state}
use Rattle.nf_pattern.proofs.walking.is_tight.Goals as goal

pub returns-in_default : goal.returns-in_default
returns-in_default c =
    other_state c.args.states.now c.args.link Tight c.in_default.field-0 (entry_at c.args.states.now None _ c.args.link c.index.result c.requires
    c.index.ensures c.in_default.is) (search rules)

pub returns-in_default-2 : goal.returns-in_default-2
returns-in_default-2 c =
    no_state c.args.states.now c.args.link Tight (entry_at c.args.states.now None _ c.args.link c.index.result c.requires c.index.ensures c.in_default.is)

pub returns-in-Some-Tight : goal.returns-in-Some-Tight
returns-in-Some-Tight c =
    entry_at c.args.states.now None _ c.args.link c.index.result c.requires c.index.ensures
    (c.in-Some-Tight.is ∙ ap (λ (s : State). Some s) (rw c.in-Some-Tight.is at c.in-Some-Tight.field-0-is))
