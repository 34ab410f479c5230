use Rattle.std.proofs.Common.{◌≡◌, ◌<◌, suc, ◌∷◌, length, map, Option, option_map, Err, refl, sym, ap, subst, ◌∙◌, arith}
use Rattle.std.proofs.lemmas.Result.{err_from_is_err_and}
use Rattle.nf_report_read.proofs.Common.{ReadLine, read_line, LineFault, first_fault_of, as_report_rule, report_by_bytes, report_lines_from, words_behind}
use Rattle.nf_report_read.proofs.Common.{seen_draft, closed_by}
use Rattle.nf_report_read.proofs.LineByLine.{from_line, count_from, broken_more, next_lines, next_faults, next_ends, next_behind, next_count, line_adds}
use Rattle.nf_report_read.proofs.LineByLine.{line_breaks, fault_breaks, loop_ends}
use Rattle.nf_report_read.proofs.reading.add_lines.Goals as goal

pub loop-line-init : goal.loop-line-init
loop-line-init c = (refl, refl, tt, c.requires)

pub returns-in_err-next-clause-fault : goal.returns-in_err-next-clause-fault
returns-in_err-next-clause-fault c =
    let p = err_from_is_err_and c.from_residual.result c.from_residual.ensures.1 in
    rw (p.1, p.2) (broken_more _ _ _ (λ broken h. fault_breaks (first_fault_of c.args.cursor.now) broken _
    (ap (option_map as_report_rule) (sym c.loop-line.invariant.1) ∙ h)) c.in_err-next.ensures.fault)

pub add_line-requires : goal.add_line-requires
add_line-requires c = c.loop-line.invariant.3

pub returns-in-Err-clause-fault : goal.returns-in-Err-clause-fault
returns-in-Err-clause-fault c =
    let n = c.args.net.now in
    let whole = report_lines_from n (seen_draft n c.args.draft.now) (c.args.first ∷ map read_line c.args.cursor.now) in
    let draft = seen_draft n c.loop-line.draft in
    let so : report_lines_from n draft (c.in-Some.current ∷ map read_line c.loop-line.cursor) ≡ whole =
    subst (λ (o : Option ReadLine). report_lines_from n draft (from_line o c.loop-line.cursor) ≡ whole) c.in-Some.is c.loop-line.invariant.0 in
    let same = ap words_behind c.as_ref.ensures.value ∙ next_behind c.loop-line.cursor c.next_line.new.cursor c.in_ok-next.next c.in_ok-next.ensures.line in
    let faults = next_faults c.loop-line.cursor c.next_line.new.cursor c.in_ok-next.next c.in_ok-next.ensures.fine ∙ c.loop-line.invariant.1 in
    broken_more c.first_broken.result
    (λ broken. report_by_bytes (first_fault_of c.next_line.new.cursor) (closed_by whole) ≡ Err broken)
    (λ broken. report_by_bytes (first_fault_of c.args.cursor.now) (closed_by whole) ≡ Err broken)
    (λ broken h. ap (λ (o : Option LineFault). report_by_bytes o (closed_by whole)) (sym faults) ∙ h)
    (c.first_broken.ensures (closed_by whole)
    (broken_more _ _ _ (λ broken h. ap closed_by (sym so ∙ line_breaks n draft c.in-Some.current (map read_line c.loop-line.cursor) _ broken same h)) c.in-Err.ensures.adds))

pub loop-line-smaller : goal.loop-line-smaller
loop-line-smaller c =
    let there : count_from c.loop-line.line c.loop-line.cursor ≡ suc (length c.loop-line.cursor) = ap (λ (o : Option ReadLine). count_from o c.loop-line.cursor) c.in-Some.is in
    let now = next_count c.loop-line.cursor c.next_line.new.cursor c.in_ok-next.next c.in_ok-next.ensures.line c.in_ok-next.ensures.fine in
    let smaller : count_from c.in_ok-next.next c.next_line.new.cursor < count_from c.loop-line.line c.loop-line.cursor = omega (arith, there, now) in
    smaller

pub loop-line-preserved : goal.loop-line-preserved
loop-line-preserved c =
    let n = c.args.net.now in
    let whole = report_lines_from n (seen_draft n c.args.draft.now) (c.args.first ∷ map read_line c.args.cursor.now) in
    let draft = seen_draft n c.loop-line.draft in
    let next = seen_draft n c.add_line.new.draft in
    let so : report_lines_from n draft (c.in-Some.current ∷ map read_line c.loop-line.cursor) ≡ whole =
    subst (λ (o : Option ReadLine). report_lines_from n draft (from_line o c.loop-line.cursor) ≡ whole) c.in-Some.is c.loop-line.invariant.0 in
    let same = ap words_behind c.as_ref.ensures.value ∙ next_behind c.loop-line.cursor c.next_line.new.cursor c.in_ok-next.next c.in_ok-next.ensures.line in (
      ap (report_lines_from n next) (next_lines c.loop-line.cursor c.next_line.new.cursor c.in_ok-next.next c.in_ok-next.ensures.line c.in_ok-next.ensures.fine)
          ∙ sym (line_adds n draft c.in-Some.current (map read_line c.loop-line.cursor) _ next same c.in-Ok.ensures.adds) ∙ so,
      next_faults c.loop-line.cursor c.next_line.new.cursor c.in_ok-next.next c.in_ok-next.ensures.fine ∙ c.loop-line.invariant.1,
      next_ends c.loop-line.cursor c.next_line.new.cursor c.in_ok-next.next c.in_ok-next.ensures.line c.in_ok-next.ensures.fine,
      c.in-Ok.ensures.within,
    )

pub returns-clause-draft : goal.returns-clause-draft
returns-clause-draft c =
    sym c.loop-line.invariant.0
    ∙ (loop_ends c.args.net.now (seen_draft c.args.net.now c.loop-line.draft) c.loop-line.line c.loop-line.cursor c.in_default.is c.loop-line.invariant.2).0

pub returns-clause-within : goal.returns-clause-within
returns-clause-within c = c.loop-line.invariant.3

pub returns-clause-fine : goal.returns-clause-fine
returns-clause-fine c =
    sym c.loop-line.invariant.1
    ∙ (loop_ends c.args.net.now (seen_draft c.args.net.now c.loop-line.draft) c.loop-line.line c.loop-line.cursor c.in_default.is c.loop-line.invariant.2).1
