use Rattle.std.proofs.Common.{ℕ, Ok, Err, sym, ap, ◌∙◌}
use Rattle.nf_report_read.proofs.Common.{in_report_line}
use Rattle.nf_report_read.proofs.reading.add_line.Goals as goal

pub returns-in_ok-add-in-Ok-clause-adds : goal.returns-in_ok-add-in-Ok-clause-adds
returns-in_ok-add-in-Ok-clause-adds c = ap (in_report_line c.args.line.now.number) c.in-Ok.ensures.says ∙ ap Ok (sym c.in_ok-add-in-Ok.ensures.draft)

pub returns-in-Err-clause-adds : goal.returns-in-Err-clause-adds
returns-in-Err-clause-adds c =
    ap (in_report_line c.args.line.now.number) c.in-Err.ensures.says ∙ ap (λ (line : ℕ). Err (record { rule = c.in-Err.rule; line = line })) (sym c.number.ensures)
