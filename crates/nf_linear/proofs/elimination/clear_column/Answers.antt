use Rattle.std.proofs.Common.{ℕ, ◌<◌, length, take, sym, subst, ◌∙◌}
use Rattle.nf_linear.proofs.Common.{lt_of_lt_of_le, take_more_set, err_from_is_err_and, IfOk-from_err, IsZeroUnless}
use Rattle.nf_frac_def.specs.declared.Halt.TheVariants as Halt
use Rattle.nf_linear.proofs.Covering.{set_read}
use Rattle.nf_linear.proofs.Noted.{taken_more}
use Rattle.nf_linear.proofs.Stages.{pivot_within, pivot_some, column_cleared, column_stops}
use Rattle.nf_linear.proofs.elimination.clear_column.Goals as goal

pub eliminate-requires : goal.eliminate-requires
eliminate-requires g c =
    let found = sym (c.pivot_of.ensures (take c.args.column c.args.pivots.now) c.requires.taken) ∙ c.in-Some.is in
    record {
      square = c.requires.square;
      pivot = pivot_within c.args.rows.now (take c.args.column c.args.pivots.now) c.args.column c.in-Some.pivot found;
      column = c.requires.column;
      some = pivot_some c.args.rows.now (take c.args.column c.args.pivots.now) c.args.column c.in-Some.pivot found;
      entries = c.requires.entries;
      sets = c.requires.sets;
      covers = c.requires.covers;
    }

pub bounds-columns-column : goal.bounds-columns-column
bounds-columns-column g c = lt_of_lt_of_le c.requires.column c.requires.sets

pub pivot_of-requires-clause-marked : goal.pivot_of-requires-clause-marked
pivot_of-requires-clause-marked g c =
    let here : c.args.column < length c.args.columns.now = lt_of_lt_of_le c.requires.column c.requires.sets in
    subst (λ (word : ℕ). IsZeroUnless word c.args.rows.now c.args.column) (sym (set_read c.args.columns.now c.args.column c.index-columns-column.result here c.index-columns-column.is))
    (c.requires.covers c.args.column here)

pub returns-clause-covers : goal.returns-clause-covers
returns-clause-covers g c = c.in_ok-eliminate.ensures.covers

pub returns-in_err-eliminate-clause-covers : goal.returns-in_err-eliminate-clause-covers
returns-in_err-eliminate-clause-covers g c = IfOk-from_err c.from_residual.result _ c.from_residual.ensures.0

pub bounds-pivots-column : goal.bounds-pivots-column
bounds-pivots-column g c = lt_of_lt_of_le c.requires.column c.requires.count

pub bounds-taken-pivot : goal.bounds-taken-pivot
bounds-taken-pivot g c =
    let found = sym (c.pivot_of.ensures (take c.args.column c.args.pivots.now) c.requires.taken) ∙ c.in-Some.is in
    lt_of_lt_of_le (pivot_within c.args.rows.now (take c.args.column c.args.pivots.now) c.args.column c.in-Some.pivot found) c.requires.flags

pub returns-clause-list : goal.returns-clause-list
returns-clause-list g c =
    let found = sym (c.pivot_of.ensures (take c.args.column c.args.pivots.now) c.requires.taken) ∙ c.in-Some.is in
    let here : c.args.column < length c.args.pivots.now = lt_of_lt_of_le c.requires.column c.requires.count in
    sym (column_cleared c.args.rows.now (take c.args.column c.args.pivots.now) c.args.column c.in-Some.pivot found g.C.Number.Scalar.passes
    c.eliminate.new.rows _ (sym c.in_ok-eliminate.ensures.list)
    (take_more_set c.args.pivots.now c.args.column c.in-Some.pivot here))

pub returns-clause-taken : goal.returns-clause-taken
returns-clause-taken g c =
    let found = sym (c.pivot_of.ensures (take c.args.column c.args.pivots.now) c.requires.taken) ∙ c.in-Some.is in
    let here : c.args.column < length c.args.pivots.now = lt_of_lt_of_le c.requires.column c.requires.count in
    let flag : c.in-Some.pivot < length c.args.taken.now = lt_of_lt_of_le
    (pivot_within c.args.rows.now (take c.args.column c.args.pivots.now) c.args.column c.in-Some.pivot found) c.requires.flags in
    λ _. taken_more c.args.taken.now (take c.args.column c.args.pivots.now) c.in-Some.pivot _ flag (take_more_set c.args.pivots.now c.args.column c.in-Some.pivot here) c.requires.taken

pub returns-in_err-eliminate-clause-list : goal.returns-in_err-eliminate-clause-list
returns-in_err-eliminate-clause-list g c =
    let found = sym (c.pivot_of.ensures (take c.args.column c.args.pivots.now) c.requires.taken) ∙ c.in-Some.is in
    let p = err_from_is_err_and c.from_residual.result c.from_residual.ensures.1 in
    rw (p.1, p.2) (sym (column_stops c.args.rows.now (take c.args.column c.args.pivots.now) c.args.column c.in-Some.pivot found g.C.Number.Scalar.passes
    g.C.Number.Scalar.means (Halt.Passed c.in_err-eliminate.field-0.0) (sym c.in_err-eliminate.ensures.list)))
