use Rattle.std.proofs.Common.{◌≡◌, drop}
use Rattle.nf_app_words.proofs.Table.{need_in}
use Rattle.nf_app_words.proofs.commands.need_of.Given as goal

abbrev pub invariant-loop-option : goal.invariant-loop-option
invariant-loop-option l = need_in l.name (drop l.option-index l.options) ≡ need_in l.name l.options
