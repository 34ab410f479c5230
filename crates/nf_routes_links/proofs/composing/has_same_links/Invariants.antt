use Rattle.std.proofs.Common.{◌≡◌, drop}
use Rattle.nf_routes_links.proofs.composing.has_same_links.Given as goal

-- if the links to come are the same, all are
abbrev pub invariant-loop-i : goal.invariant-loop-i
invariant-loop-i l = drop l.i l.left ≡ drop l.i l.right → l.left ≡ l.right
