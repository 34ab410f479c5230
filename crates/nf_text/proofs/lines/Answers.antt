use Rattle.std.proofs.Common.{arith, ℕ, ◌≡◌, ◌≤◌, ◌+◌, ◌++◌, length, map, sym, ap, ◌∙◌, append-nil, vec_len}
use Rattle.nf_text.proofs.Common.{drop_all, err_from_is_err_and, read_line, read_lines, lines_from, first_fault, first_fault_of, seen_line}
use Rattle.nf_text.proofs.LineSteps.{words_are_in, step_read, step_fault, step_rise, stops_at_fault}
use Rattle.nf_text.proofs.lines.Goals as goal

pub returns-in_err-line-clause-fault : goal.returns-in_err-line-clause-fault
returns-in_err-line-clause-fault c =
    let p = err_from_is_err_and c.from_residual.result c.from_residual.ensures.1 in
    let n : ℕ = c.len.result + 1 in
    let before : vec_len c.loop-start.lines + 1 ≡ n = omega (arith, c.len.ensures) in
    rw (p.1, p.2) (stops_at_fault c.args.text.now (first_fault c.args.text.now) c.in_err-line.field-0.0 (vec_len c.loop-start.lines + 1) n c.loop-start.start
    c.loop-start-test.true before c.in_err-line.ensures.fault c.loop-start.invariant.fault)

pub loop-start-preserved : goal.loop-start-preserved
loop-start-preserved c =
    let text = c.args.text.now in let lines = c.loop-start.lines.items in let start = c.loop-start.start in let next = c.in_ok-line.next in
    let known = c.in_ok-line.ensures in
    let n : ℕ = c.len.result + 1 in
    let before : vec_len c.loop-start.lines + 1 ≡ n = omega (arith, c.len.ensures) in
    let after : vec_len c.push.new.self + 1 ≡ n + 1 = omega (arith, c.len.ensures, c.in_ok-push.ensures.len) in
    rw c.in_ok-push.ensures.items (record {
      read = step_read text lines c.in_ok-line.line (read_lines text) (vec_len c.loop-start.lines + 1) n (vec_len c.push.new.self + 1) start next
          c.loop-start-test.true before after known.next known.line c.loop-start.invariant.read;
      fault = step_fault text (first_fault text) (vec_len c.loop-start.lines + 1) n (vec_len c.push.new.self + 1) start next
          c.loop-start-test.true before after known.next known.none c.loop-start.invariant.fault;
      rise = step_rise lines c.in_ok-line.line start next (omega (arith, known.more)) c.loop-start.invariant.rise known.rise;
      within = known.within;
      number = omega (arith, c.loop-start.invariant.number, known.more, c.in_ok-push.ensures.len);
    })

pub returns-clause-within : goal.returns-clause-within
returns-clause-within c = words_are_in c.args.text.now c.loop-start.start c.loop-start.lines.items c.loop-start.invariant.within c.loop-start.invariant.rise

pub returns-clause-lines : goal.returns-clause-lines
returns-clause-lines c = sym (c.loop-start.invariant.read
    ∙ ap (λ rest. map (seen_line c.args.text.now) c.loop-start.lines.items ++ map read_line (lines_from (vec_len c.loop-start.lines + 1) rest))
    (drop_all c.loop-start.start c.args.text.now c.loop-start-test.false)
    ∙ append-nil (map (seen_line c.args.text.now) c.loop-start.lines.items))

pub returns-clause-none : goal.returns-clause-none
returns-clause-none c =
    let past : length c.args.text.now ≤ c.loop-start.start = omega arith in
    c.loop-start.invariant.fault ∙ ap (λ rest. first_fault_of (lines_from (vec_len c.loop-start.lines + 1) rest)) (drop_all c.loop-start.start c.args.text.now past)
