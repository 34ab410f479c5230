use Rattle.std.proofs.Common.{rules, sym, ap, ◌∙◌, take}
use Rattle.nf_report_lines.proofs.Common.{digits_of}
use Rattle.nf_frac_words.proofs.Counts.{plain_is_digits}
use Rattle.nf_report_lines.proofs.plain_numbers.plain_to.Goals as goal

pub returns-then-is_plain_to-clause-digits : goal.returns-then-is_plain_to-clause-digits
returns-then-is_plain_to-clause-digits c =
    sym (plain_is_digits (take c.args.end c.args.bytes.now) (search rules)) ∙ ap digits_of c.requires.number
