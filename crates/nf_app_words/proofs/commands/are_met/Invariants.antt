use Rattle.std.proofs.Common.{◌≡◌, drop}
use Rattle.nf_app_words.proofs.Common.{rows_in}
use Rattle.nf_app_words.proofs.Table.{all_met}
use Rattle.nf_app_words.proofs.commands.are_met.Given as goal

abbrev pub invariant-loop-name : goal.invariant-loop-name
invariant-loop-name l = all_met (rows_in l.matches) l.wanted (drop l.name-index l.names) ≡ all_met (rows_in l.matches) l.wanted l.names
