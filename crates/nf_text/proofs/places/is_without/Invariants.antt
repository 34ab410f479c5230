use Rattle.std.proofs.Common.{◌≡◌, ◌==◌, take, not}
use Rattle.nf_text.proofs.Common.{list_all}
use Rattle.nf_text.proofs.places.is_without.Given as goal

abbrev pub invariant-loop-byte : goal.invariant-loop-byte
invariant-loop-byte l = l.without ≡ list_all (λ b. not (b == l.wanted)) (take l.byte-index l.bytes)
