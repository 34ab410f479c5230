use Rattle.std.proofs.Common.{◌==◌}
use Rattle.nf_net_laws.proofs.Common.{slice_split}
use Rattle.nf_net_laws.proofs.Wholes.{text_whole, parts_numbered}
use Rattle.nf_net_laws.proofs.text_is_its_lines.Goals as goal

pub returns : goal.returns
returns c = record { whole = text_whole; numbered = λ text. parts_numbered 1 (slice_split (λ b. b == 10) text) }
