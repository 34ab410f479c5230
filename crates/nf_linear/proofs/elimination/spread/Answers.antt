use Rattle.std.proofs.Common.{ℕ, ◌+◌, List, drop, refl, sym, ap, ◌∙◌}
use Rattle.nf_linear.proofs.Common.{drop_of_length-le, ℚ, spread, meant}
use Rattle.nf_linear.proofs.Taken.{next_other, meant_below, meant_read, meant_past}
use Rattle.nf_linear.proofs.elimination.spread.Goals as goal

pub loop-entry-preserved : goal.loop-entry-preserved
loop-entry-preserved g c =
    ap (λ (columns : List ℕ). spread c.args.rows (drop (c.loop-entry.entry-index + 1) (meant g.S.Scalar.means c.args.entries.now)) columns) c.join_at.ensures
    ∙ sym (ap (λ (others : List (ℕ × ℚ)). spread c.args.rows others c.loop-entry.columns)
    (next_other (meant g.S.Scalar.means c.args.entries.now) c.loop-entry.entry-index
    (c.entry-item.result.0, g.S.Scalar.means c.entry-item.result.1) c.entry-item.result.0 (g.S.Scalar.means c.entry-item.result.1)
    (meant_below g.S.Scalar.means c.args.entries.now c.loop-entry.entry-index c.loop-entry-test.true)
    (meant_read g.S.Scalar.means c.args.entries.now c.loop-entry.entry-index c.entry-item.result c.entry-item.is) refl))
    ∙ c.loop-entry.invariant

pub returns : goal.returns
returns g c =
    ap (λ (others : List (ℕ × ℚ)). spread c.args.rows others c.loop-entry.columns)
    (sym (drop_of_length-le (meant g.S.Scalar.means c.args.entries.now) (meant_past g.S.Scalar.means c.args.entries.now c.loop-entry.entry-index c.loop-entry-test.false)))
    ∙ c.loop-entry.invariant
