use Rattle.nf_report_pages.proofs.Common.{Grown, AreFractionPoints}
use Rattle.nf_report_pages.proofs.Entries.{one_read, up_to_end, all_image}
use Rattle.nf_report_pages.proofs.known.know_curves.Goals as goal

abbrev HasFractions : Grown → Type 0
HasFractions curve = AreFractionPoints curve.points

pub loop-curve-preserved : goal.loop-curve-preserved
loop-curve-preserved c =
    one_read HasFractions c.args.curves.now c.loop-curve.curve-index c.curve-item.result c.loop-curve-test.true c.curve-item.is c.know_points.ensures c.loop-curve.invariant

pub returns : goal.returns
returns c =
    all_image AreFractionPoints HasFractions (λ (curve : Grown). curve.points) (λ curve h. h) c.args.curves.now
    (up_to_end HasFractions c.args.curves.now c.loop-curve.curve-index c.loop-curve-test.false c.loop-curve.invariant)
