use Rattle.std.proofs.Common.{sym, ◌∙◌}
use Rattle.nf_net_file.proofs.NameText.{name_front, kept_name}
use Rattle.nf_net_file.proofs.name.Name.read.Goals as goal

pub invariant_of-result : goal.invariant_of-result
invariant_of-result c = kept_name c.args.word.now c.copy_from_slice.new.self _ c.copy_from_slice.ensures.after (sym c.is_name.ensures ∙ c.if-not-is_name.false)

pub returns : goal.returns
returns c = (sym c.is_name.ensures ∙ c.if-not-is_name.false, name_front c.args.word.now c.copy_from_slice.new.self _ c.copy_from_slice.ensures.after)
