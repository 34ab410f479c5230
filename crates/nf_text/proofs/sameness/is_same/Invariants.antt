use Rattle.std.proofs.Common.{◌≡◌, drop}
use Rattle.nf_text.proofs.Common.{bytes_eq}
use Rattle.nf_text.proofs.sameness.is_same.Given as goal

abbrev pub invariant-loop-place : goal.invariant-loop-place
invariant-loop-place l = bytes_eq l.left l.right ≡ bytes_eq (drop l.place l.left) (drop l.place l.right)
