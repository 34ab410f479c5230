use Rattle.std.proofs.Common.{rules}
use Rattle.nf_routes_links.proofs.entries.with_entry.Goals as goal

pub returns-then-goes_over : goal.returns-then-goes_over
returns-then-goes_over c = search rules
