use Rattle.std.proofs.Common.{◌≡◌, take}
use Rattle.nf_text.proofs.Common.{list_all, is_allowed}
use Rattle.nf_text.proofs.reading.is_text.Given as goal

abbrev pub invariant-loop-byte : goal.invariant-loop-byte
invariant-loop-byte l = l.fine ≡ list_all is_allowed (take l.byte-index l.bytes)
