use Rattle.std.proofs.Common.{◌≡◌, ℕ, ◌<◌, ◌≤◌, List, length, get_or, ⊎_elim, sym, ap, subst, ◌∙◌, arith}
use Rattle.nf_linear.proofs.Common.{cases_eq, cases_lt, ℚ, number_at, row_at, IsFree}
use Rattle.nf_linear.proofs.Clearing.{row_read}
use Rattle.nf_linear.proofs.Covering.{past_rows}
use Rattle.nf_linear.proofs.Bits.{free_within}
use Rattle.nf_linear.proofs.elimination.mark_rows.Goals as goal

pub loop-i-preserved : goal.loop-i-preserved
loop-i-preserved g c = λ column b k before free.
    let row : c.index-rows-i.result ≡ row_at c.args.rows.now c.loop-i.i = row_read c.args.rows.now c.loop-i.i c.index-rows-i.result c.loop-i-test.true c.index-rows-i.is in
    let inside : column < length c.loop-i.columns = subst (λ (n : ℕ). column < n) c.mark_row.auto.columns b in
    ⊎_elim
    (λ (same : k ≡ c.loop-i.i).
    ap (λ (n : ℕ). number_at (row_at c.args.rows.now n) column) same ∙ ap (λ (r : List ℚ). number_at r column) (sym row)
    ∙ c.mark_row.ensures.marked column inside (subst (IsFree (get_or c.mark_row.new.columns column 0)) same free))
    (λ (apart : k ≡ c.loop-i.i → ⊥).
    c.loop-i.invariant column inside k
    (⊎_elim (λ (low : k < c.loop-i.i). low) (λ (high : c.loop-i.i ≤ k). absurd (apart (omega arith))) (cases_lt k c.loop-i.i))
    (free_within (get_or c.loop-i.columns column 0) (get_or c.mark_row.new.columns column 0) k (c.mark_row.ensures.kept column) free))
    (cases_eq k c.loop-i.i)

pub returns : goal.returns
returns g c = λ column b i free.
    ⊎_elim
    (λ (here : i < length c.args.rows.now). let end = c.loop-i-test.false in c.loop-i.invariant column b i (omega arith) free)
    (λ (past : length c.args.rows.now ≤ i). past_rows c.args.rows.now i column past)
    (cases_lt i (length c.args.rows.now))
