use Rattle.std.proofs.Common.{◌<◌, length, sym, ◌∙◌, arith}
use Rattle.nf_net_file.proofs.Common.{err_from_is_err_and}
use Rattle.nf_net_file.proofs.LineWords.{sink_line, link_line_is, inflow_line_is, end_line_is, no_line}
use Rattle.nf_net_file.proofs.entry.read_entry.Goals as goal

pub returns-in_err-read_link : goal.returns-in_err-read_link
returns-in_err-read_link c =
    let some : 0 < length c.args.line.now.words = omega arith in
    let p = err_from_is_err_and c.from_residual-in_err-read_link.result c.from_residual-in_err-read_link.ensures.1 in
    rw (p.1, p.2) (link_line_is c.args.version c.args.line.now.words c.at-key.result.now some c.at-key.ensures (sym c.is_word.ensures ∙ c.if-is_word.false)
    (sym c.is_word-2.ensures ∙ c.if-is_word-2.false) (sym c.is_word-3.ensures ∙ c.if-is_word-3.true)
    ∙ c.in_err-read_link.ensures)

pub returns-then-is_word-3 : goal.returns-then-is_word-3
returns-then-is_word-3 c =
    let some : 0 < length c.args.line.now.words = omega arith in
    link_line_is c.args.version c.args.line.now.words c.at-key.result.now some c.at-key.ensures (sym c.is_word.ensures ∙ c.if-is_word.false)
    (sym c.is_word-2.ensures ∙ c.if-is_word-2.false) (sym c.is_word-3.ensures ∙ c.if-is_word-3.true) ∙ c.in_ok-read_link.ensures

pub returns-in_err-read_inflow : goal.returns-in_err-read_inflow
returns-in_err-read_inflow c =
    let some : 0 < length c.args.line.now.words = omega arith in
    let p = err_from_is_err_and c.from_residual-in_err-read_inflow.result c.from_residual-in_err-read_inflow.ensures.1 in
    rw (p.1, p.2) (inflow_line_is c.args.version c.args.line.now.words c.at-key.result.now some c.at-key.ensures
    (sym c.is_word.ensures ∙ c.if-is_word.false) (sym c.is_word-2.ensures ∙ c.if-is_word-2.false) (sym c.is_word-3.ensures ∙ c.if-is_word-3.false)
    (sym c.is_word-4.ensures ∙ c.if-is_word-4.true)
    ∙ c.in_err-read_inflow.ensures)

pub returns-then-is_word-4 : goal.returns-then-is_word-4
returns-then-is_word-4 c =
    let some : 0 < length c.args.line.now.words = omega arith in
    inflow_line_is c.args.version c.args.line.now.words c.at-key.result.now some c.at-key.ensures (sym c.is_word.ensures ∙ c.if-is_word.false)
    (sym c.is_word-2.ensures ∙ c.if-is_word-2.false) (sym c.is_word-3.ensures ∙ c.if-is_word-3.false) (sym c.is_word-4.ensures ∙ c.if-is_word-4.true)
    ∙ c.in_ok-read_inflow.ensures

pub returns-in_err-read_end : goal.returns-in_err-read_end
returns-in_err-read_end c =
    let some : 0 < length c.args.line.now.words = omega arith in
    let p = err_from_is_err_and c.from_residual-in_err-read_end.result c.from_residual-in_err-read_end.ensures.1 in
    rw (p.1, p.2) (end_line_is c.args.version c.args.line.now.words c.at-key.result.now some c.at-key.ensures (sym c.is_word.ensures ∙ c.if-is_word.false)
    (sym c.is_word-2.ensures ∙ c.if-is_word-2.false) (sym c.is_word-3.ensures ∙ c.if-is_word-3.false) (sym c.is_word-4.ensures ∙ c.if-is_word-4.false)
    (sym c.is_word-5.ensures ∙ c.if-is_word-5.true)
    ∙ c.in_err-read_end.ensures)

pub returns-then-is_word-5 : goal.returns-then-is_word-5
returns-then-is_word-5 c =
    let some : 0 < length c.args.line.now.words = omega arith in
    end_line_is c.args.version c.args.line.now.words c.at-key.result.now some c.at-key.ensures (sym c.is_word.ensures ∙ c.if-is_word.false)
    (sym c.is_word-2.ensures ∙ c.if-is_word-2.false) (sym c.is_word-3.ensures ∙ c.if-is_word-3.false) (sym c.is_word-4.ensures ∙ c.if-is_word-4.false)
    (sym c.is_word-5.ensures ∙ c.if-is_word-5.true) ∙ c.in_ok-read_end.ensures

pub returns-then-is_word-2 : goal.returns-then-is_word-2
returns-then-is_word-2 c =
    let some : 0 < length c.args.line.now.words = omega arith in
    sink_line c.args.version c.args.line.now.words c.at-key.result.now some c.at-key.ensures (sym c.is_word.ensures ∙ c.if-is_word.false)
    (sym c.is_word-2.ensures ∙ c.if-is_word-2.true) ∙ c.in_ok-read_node-2.ensures.sink

pub returns-in_err-read_node-2 : goal.returns-in_err-read_node-2
returns-in_err-read_node-2 c =
    let some : 0 < length c.args.line.now.words = omega arith in
    let p = err_from_is_err_and c.from_residual-in_err-read_node-2.result c.from_residual-in_err-read_node-2.ensures.1 in
    rw (p.1, p.2) (sink_line c.args.version c.args.line.now.words c.at-key.result.now some c.at-key.ensures (sym c.is_word.ensures ∙ c.if-is_word.false)
    (sym c.is_word-2.ensures ∙ c.if-is_word-2.true) ∙ c.in_err-read_node-2.ensures.sink)

pub returns : goal.returns
returns c =
    let some : 0 < length c.args.line.now.words = omega arith in
    no_line c.args.version c.args.line.now.words c.at-key.result.now some c.at-key.ensures (sym c.is_word.ensures ∙ c.if-is_word.false)
    (sym c.is_word-2.ensures ∙ c.if-is_word-2.false) (sym c.is_word-3.ensures ∙ c.if-is_word-3.false) (sym c.is_word-4.ensures ∙ c.if-is_word-4.false)
    (sym c.is_word-5.ensures ∙ c.if-is_word-5.false)
