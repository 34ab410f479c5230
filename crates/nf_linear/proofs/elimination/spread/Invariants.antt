use Rattle.std.proofs.Common.{◌≡◌, drop}
use Rattle.nf_linear.proofs.Common.{spread, meant}
use Rattle.nf_linear.proofs.elimination.spread.Given as goal

abbrev pub invariant-loop-entry : goal.invariant-loop-entry
invariant-loop-entry g l =
    spread l.rows (drop l.entry-index (meant g.S.Scalar.means l.entries)) l.columns ≡ spread l.rows (meant g.S.Scalar.means l.entries) l.fn.columns
