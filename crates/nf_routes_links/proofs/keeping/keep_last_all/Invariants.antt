use Rattle.std.proofs.Common.{◌≡◌, ◌++◌, length, map, take, drop}
use Rattle.nf_routes_links.proofs.Common.{last_alone}
use Rattle.nf_routes_links.proofs.keeping.keep_last_all.Given as goal

abbrev pub invariant-loop-i : goal.invariant-loop-i
invariant-loop-i l = (l.entries ≡ map last_alone (take l.i l.fn.entries) ++ drop l.i l.fn.entries) × (length l.entries ≡ length l.fn.entries)
