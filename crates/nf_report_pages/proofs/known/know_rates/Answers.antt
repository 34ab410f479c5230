use Rattle.nf_report_pages.proofs.Common.{IsFraction}
use Rattle.nf_report_pages.proofs.Entries.{one_read, up_to_end}
use Rattle.nf_report_pages.proofs.known.know_rates.Goals as goal

pub loop-rate-preserved : goal.loop-rate-preserved
loop-rate-preserved c =
    one_read IsFraction c.args.rates.now c.loop-rate.rate-index c.rate-item.result c.loop-rate-test.true c.rate-item.is c.recall.ensures c.loop-rate.invariant

pub returns : goal.returns
returns c = up_to_end IsFraction c.args.rates.now c.loop-rate.rate-index c.loop-rate-test.false c.loop-rate.invariant
