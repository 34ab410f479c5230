use Rattle.std.proofs.Common.{◌≡◌, ◌+◌, ◌<◌, false, length, sym, subst, ◌∙◌}
use Rattle.nf_linear.proofs.Common.{lt_of_lt_of_le, Row, row_at}
use Rattle.nf_linear.proofs.Clearing.{row_read}
use Rattle.nf_linear.proofs.Columns.{candidate_read, pivot_here, pivot_later, pivot_nowhere}
use Rattle.nf_linear.proofs.Skips.{pivot_skipped}
use Rattle.nf_linear.proofs.elimination.pivot_of.Goals as goal

pub loop-i-init : goal.loop-i-init
loop-i-init g c =
    let from = c.next-i.ensures.later.0 in
    let end = c.next-i.ensures.later.1 in (
      λ pivots noted. pivot_skipped c.args.rows.now pivots c.args.column 0 c.next-i.result from end (λ k after before. c.requires.marked k (c.next-i.ensures.free k after before)),
      end,
    )

pub returns-then-is_candidate : goal.returns-then-is_candidate
returns-then-is_candidate g c =
    let row : c.index-rows-i.result ≡ row_at c.args.rows.now c.loop-i.i = row_read c.args.rows.now c.loop-i.i c.index-rows-i.result c.loop-i-test.true c.index-rows-i.is in
    let here : c.loop-i.i < length c.args.taken.now = lt_of_lt_of_le c.loop-i-test.true c.requires.taken in
    λ pivots noted. pivot_here c.args.rows.now pivots c.args.column c.loop-i.i c.is_candidate.result c.loop-i-test.true
    (candidate_read c.args.rows.now pivots c.args.taken.now c.args.column c.loop-i.i c.index-rows-i.result false c.is_candidate.result noted here row
    c.is_candidate.ensures) c.if-is_candidate.true
    ∙ c.loop-i.invariant.0 pivots noted

pub loop-i-preserved : goal.loop-i-preserved
loop-i-preserved g c =
    let row : c.index-rows-i.result ≡ row_at c.args.rows.now c.loop-i.i = row_read c.args.rows.now c.loop-i.i c.index-rows-i.result c.loop-i-test.true c.index-rows-i.is in
    let here : c.loop-i.i < length c.args.taken.now = lt_of_lt_of_le c.loop-i-test.true c.requires.taken in
    let from = c.next-i-in-loop-i.ensures.later.0 in
    let end = c.next-i-in-loop-i.ensures.later.1 in (
      λ pivots noted. pivot_skipped c.args.rows.now pivots c.args.column (c.loop-i.i + 1) c.next-i-in-loop-i.result from end
          (λ k after before. c.requires.marked k (c.next-i-in-loop-i.ensures.free k after before))
          ∙ pivot_later c.args.rows.now pivots c.args.column c.loop-i.i c.is_candidate.result c.loop-i-test.true
          (candidate_read c.args.rows.now pivots c.args.taken.now c.args.column c.loop-i.i c.index-rows-i.result false c.is_candidate.result noted here row
          c.is_candidate.ensures) c.if-is_candidate.false
          ∙ c.loop-i.invariant.0 pivots noted,
      end,
    )

pub returns : goal.returns
returns g c = λ pivots noted. pivot_nowhere c.args.rows.now pivots c.args.column c.loop-i.i c.loop-i-test.false ∙ c.loop-i.invariant.0 pivots noted

pub is_candidate-requires : goal.is_candidate-requires
is_candidate-requires g c =
    let row : c.index-rows-i.result ≡ row_at c.args.rows.now c.loop-i.i = row_read c.args.rows.now c.loop-i.i c.index-rows-i.result c.loop-i-test.true c.index-rows-i.is in
    subst (λ (r : Row). c.args.column < length r) (sym row) (c.requires.column c.loop-i.i c.loop-i-test.true)
