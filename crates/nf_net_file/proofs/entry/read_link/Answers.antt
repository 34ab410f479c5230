use Rattle.std.proofs.Common.{sym, ◌∙◌}
use Rattle.nf_net_file.proofs.Common.{err_from_is_err_and}
use Rattle.nf_net_file.proofs.LineWords.{name_not_read, tail_not_read, head_not_read, transit_not_read, capacity_not_read, link_read}
use Rattle.nf_net_file.proofs.entry.read_link.Goals as goal

pub returns-in_err-name : goal.returns-in_err-name
returns-in_err-name c =
    let p = err_from_is_err_and c.from_residual.result c.from_residual.ensures.1 in
    rw (p.1, p.2) (name_not_read c.args.version c.args.line.now.words (sym c.len.ensures ∙ c.if-len-ne6.false) c.at.result.now c.in_err-name.field-0.0 c.at.ensures c.in_err-name.ensures)

pub returns-in_err-tail : goal.returns-in_err-tail
returns-in_err-tail c =
    let p = err_from_is_err_and c.from_residual-in_err-tail.result c.from_residual-in_err-tail.ensures.1 in
    rw (p.1, p.2) (tail_not_read c.args.version c.args.line.now.words (sym c.len.ensures ∙ c.if-len-ne6.false) c.at-2.result.now c.in_err-tail.field-0.0
    c.at-2.ensures c.in_err-tail.ensures)

pub returns-in_err-head : goal.returns-in_err-head
returns-in_err-head c =
    let p = err_from_is_err_and c.from_residual-in_err-head.result c.from_residual-in_err-head.ensures.1 in
    rw (p.1, p.2) (head_not_read c.args.version c.args.line.now.words (sym c.len.ensures ∙ c.if-len-ne6.false) c.at-3.result.now c.in_err-head.field-0.0
    c.at-3.ensures c.in_err-head.ensures)

pub returns-in_default : goal.returns-in_default
returns-in_default c =
    transit_not_read c.args.version c.args.line.now.words (sym c.len.ensures ∙ c.if-len-ne6.false) c.in_ok-name.name c.in_ok-tail.tail c.in_ok-head.head
    c.at.result.now c.at-2.result.now c.at-3.result.now
    c.at.ensures c.at-2.ensures c.at-3.ensures c.in_ok-name.ensures c.in_ok-tail.ensures c.in_ok-head.ensures
    c.at-4.result.now c.read_number.result c.at-4.ensures c.read_number.ensures c.in_default.is

pub returns-in_default-read_capacity : goal.returns-in_default-read_capacity
returns-in_default-read_capacity c =
    capacity_not_read c.args.version c.args.line.now.words (sym c.len.ensures ∙ c.if-len-ne6.false) c.in_ok-name.name c.in_ok-tail.tail c.in_ok-head.head
    c.at.result.now c.at-2.result.now c.at-3.result.now
    c.at.ensures c.at-2.ensures c.at-3.ensures c.in_ok-name.ensures c.in_ok-tail.ensures c.in_ok-head.ensures
    c.at-4.result.now c.at-5.result.now c.in-Some.transit c.read_number.result c.read_capacity.result c.at-4.ensures c.at-5.ensures c.read_number.ensures
    c.in-Some.is c.read_capacity.ensures c.in_default-read_capacity.is

pub returns : goal.returns
returns c =
    link_read c.args.version c.args.line.now.words (sym c.len.ensures ∙ c.if-len-ne6.false) c.in_ok-name.name c.in_ok-tail.tail c.in_ok-head.head
    c.at.result.now c.at-2.result.now c.at-3.result.now
    c.at.ensures c.at-2.ensures c.at-3.ensures c.in_ok-name.ensures c.in_ok-tail.ensures c.in_ok-head.ensures
    c.at-4.result.now c.at-5.result.now c.in-Some.transit c.in-Some-read_capacity.capacity c.read_number.result c.read_capacity.result c.at-4.ensures
    c.at-5.ensures c.read_number.ensures c.in-Some.is
    c.read_capacity.ensures c.in-Some-read_capacity.is
