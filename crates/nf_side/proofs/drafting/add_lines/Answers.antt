use Rattle.std.proofs.Common.{refl, sym, ap, ◌∙◌}
use Rattle.std.proofs.Math.ListN.{drop_of_length-le}
use Rattle.nf_side_def.specs.Frame.{add_lines}
use Rattle.nf_side.proofs.Frame.{line_added, line_refused}
use Rattle.nf_side.proofs.drafting.add_lines.Goals as goal

pub loop-line-init : goal.loop-line-init
loop-line-init g c = (refl, c.requires)

pub returns-in-Err-clause-adds : goal.returns-in-Err-clause-adds
returns-in-Err-clause-adds g c =
    line_refused (g.D.SideDraft.frame c.args.net.now).add c.loop-line.draft c.args.lines.now c.loop-line.line-index c.line-item.result c.loop-line-test.true
    c.line-item.is _ c.loop-line.invariant.0
    c.in-Err.fault c.number.result c.in_line.result c.in_line.ensures c.number.ensures c.in-Err.ensures.adds

pub loop-line-preserved : goal.loop-line-preserved
loop-line-preserved g c = (
  line_added (g.D.SideDraft.frame c.args.net.now).add c.loop-line.draft c.args.lines.now c.loop-line.line-index c.line-item.result c.loop-line-test.true
      c.line-item.is _ c.loop-line.invariant.0
      c.add_line.new.self c.in_default.ensures.adds,
  c.in_default.ensures.fits,
)

pub returns-clause-adds : goal.returns-clause-adds
returns-clause-adds g c =
    sym c.loop-line.invariant.0 ∙ ap (add_lines (g.D.SideDraft.frame c.args.net.now).add c.loop-line.draft)
    (drop_of_length-le c.args.lines.now c.loop-line-test.false)
