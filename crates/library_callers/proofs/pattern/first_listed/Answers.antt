use Rattle.library_callers.proofs.Patterns.{first_base}
use Rattle.library_callers.proofs.pattern.first_listed.Goals as goal

pub new-requires-clause-base : goal.new-requires-clause-base
new-requires-clause-base c =
    first_base c.args.links.now c.args.sets.now c.args.unbounded.now c.in_ok-before.before c.in_ok-first.first c.in_ok-before.ensures c.requires.active c.in_ok-first.ensures
