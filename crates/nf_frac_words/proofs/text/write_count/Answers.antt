use Rattle.nf_frac_words.proofs.Printing.{digits_are_decimal}
use Rattle.std.proofs.Common.{ℕ, arith, ◌<◌, ◌^◌, List, ◌++◌, sym, ap, ◌∙◌}
use Rattle.nf_frac_words.proofs.text.write_count.Goals as goal

pub returns : goal.returns
returns c =
    let fits : c.args.count < 2 ^ 127 = omega arith in
    c.push.ensures ∙ ap (λ (l : List ℕ). l ++ c.as_bytes.result.now) c.clear.ensures ∙ c.as_bytes.ensures.value ∙ c.format.ensures.text ∙ sym (digits_are_decimal c.args.count fits)
