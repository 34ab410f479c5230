use Rattle.std.proofs.Common.{◌≡◌, ◌==◌, ◌+◌, ◌-◌, take, drop, arith, sym, ap, ◌∙◌, not}
use Rattle.nf_text.proofs.Common.{list_all}
use Rattle.nf_text.proofs.places.is_row_without.Goals as goal

pub returns : goal.returns
returns c = λ yes.
    let row : c.args.at + 16 - c.args.at ≡ 16 = omega arith in (
      omega (arith, c.requires, c.if-bytes-at-lt-ROW.false),
      sym (ap (λ n. list_all (λ b. not (b == c.args.wanted)) (take n (drop c.args.at c.args.bytes.now))) row) ∙ sym c.is_without.ensures ∙ yes,
    )
