use Rattle.std.proofs.Common.{◌≡◌, length, take}
use Rattle.nf_linear.proofs.Common.{Covers, AreTaken}
use Rattle.nf_linear.proofs.Stages.{Stage}
use Rattle.nf_linear.proofs.elimination.clear_columns.Given as goal

abbrev pub invariant-loop-column : goal.invariant-loop-column
invariant-loop-column g l =
    Stage g.C.Number.Scalar.passes l.fn.rows l.rows (take l.column l.pivots) l.column × AreTaken l.taken (take l.column l.pivots)
    × (length l.entries ≡ length l.fn.entries) × (length l.taken ≡ length l.fn.taken) × (length l.pivots ≡ length l.fn.pivots) × Covers l.columns l.rows
    × (length l.columns ≡ length l.fn.columns)
