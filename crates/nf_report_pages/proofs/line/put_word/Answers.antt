use Rattle.std.proofs.Common.{refl}
use Rattle.nf_report_pages.proofs.Gathering.{gathered_both, gathered_front}
use Rattle.nf_report_pages.proofs.line.put_word.Goals as goal

pub returns-in_err-put_byte : goal.returns-in_err-put_byte
returns-in_err-put_byte g c = gathered_front c.args.word.now _ _ refl c.from_residual.ensures.0 c.in_err-put_byte.ensures

pub returns : goal.returns
returns g c = gathered_both _ refl c.in_ok-put_byte.ensures c.put.ensures
