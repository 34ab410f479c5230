use Rattle.std.proofs.Common.{◌≡◌, drop}
use Rattle.nf_side_def.specs.Frame.{add_lines}
use Rattle.nf_side.proofs.drafting.add_lines.Given as goal

abbrev pub invariant-loop-line : goal.invariant-loop-line
invariant-loop-line g l =
    (add_lines (g.D.SideDraft.frame l.net).add l.draft (drop l.line-index l.lines) ≡ add_lines (g.D.SideDraft.frame l.net).add l.fn.draft l.lines) × g.D.SideDraft.fits l.net l.draft
