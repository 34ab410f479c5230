use Rattle.std.proofs.Common.{refl}
use Rattle.nf_report_pages.proofs.Written.{wrote_both, wrote_front}
use Rattle.nf_app_answers.specs.QuickText.{arrival_text}
use Rattle.nf_app_files.proofs.output.write_quick.Goals as goal

pub returns-in_err-write_text : goal.returns-in_err-write_text
returns-in_err-write_text g c = wrote_front (arrival_text c.args.arrival.now) _ _ refl c.from_residual.ensures.0 c.in_err-write_text.ensures

pub returns : goal.returns
returns g c = wrote_both _ refl c.in_ok-write_text.ensures c.write_arrival.ensures
