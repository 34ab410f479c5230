use Rattle.std.proofs.Common.{arith, ◌<◌, length}
use Rattle.nf_report_lines.proofs.PlainNumbers.{whole_is, ratio_is}
use Rattle.nf_report_lines.proofs.plain_numbers.unsigned_parts.Goals as goal

pub returns-then-end-word : goal.returns-then-end-word
returns-then-end-word c = whole_is c.args.word.now c.in_ok-num.num c.in_ok-num.end c.if-end-word.true c.in_ok-num.ensures.digits

pub returns : goal.returns
returns c =
    let before_end : c.in_ok-num.end < length c.args.word.now = omega (arith, c.in_ok-num.ensures.within, c.if-end-word.false) in
    ratio_is c.args.word.now c.behind-rest.result.now c.in_ok-num.num c.in_ok-den.den c.in_ok-num.end c.in_ok-den.rest_end before_end c.if-word-end-ne47.false
    c.in_ok-num.ensures.digits c.behind-rest.ensures (omega (arith, c.if-rest_end-rest.false)) c.in_ok-den.ensures.digits (λ one. omega (arith, c.if-den-lt-LEAST.false))
