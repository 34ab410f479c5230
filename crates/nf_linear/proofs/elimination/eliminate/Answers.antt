use Rattle.std.proofs.Common.{◌≡◌, ℕ, ◌+◌, ◌<◌, List, length, take, drop, get_or, sym, ap, subst, ◌∙◌, arith, length-take-le}
use Rattle.nf_linear.proofs.Common.{lt_of_lt_of_le, err_from_is_err_and, IfOk-from_err, ℚ, at_part, part_ok, number_at, row_at, IsZeroUnless, Covers, meant}
use Rattle.nf_linear.proofs.Common.{some_from}
use Rattle.nf_frac_def.specs.declared.Part.TheVariants as Part
use Rattle.nf_linear.proofs.Clearing.{row_got, later_fit, eliminated, within_row}
use Rattle.nf_linear.proofs.Covering.{covered_after, set_read}
use Rattle.nf_linear.proofs.elimination.eliminate.Goals as goal

pub clear_rows-requires : goal.clear_rows-requires
clear_rows-requires g c =
    let first : get_or c.args.rows.now c.args.pivot c.index-rows-pivot.result ≡ row_at c.args.rows.now c.args.pivot =
    row_got c.args.rows.now c.args.pivot c.index-rows-pivot.result c.requires.pivot in
    let row : get_or c.args.rows.now c.args.pivot c.index-rows-pivot-2.result ≡ row_at c.args.rows.now c.args.pivot =
    row_got c.args.rows.now c.args.pivot c.index-rows-pivot-2.result c.requires.pivot in
    let items : meant g.C.Number.Scalar.means (take c.later-count.result c.later-count.new.entries) ≡ some_from (c.args.column + 1)
    (drop (c.args.column + 1) (get_or c.args.rows.now c.args.pivot c.index-rows-pivot-2.result)) = c.later-count.ensures.value in
    let same : meant g.C.Number.Scalar.means (take c.later-count.result c.later-count.new.entries) ≡ some_from (c.args.column + 1)
    (drop (c.args.column + 1) (row_at c.args.rows.now c.args.pivot)) =
    items ∙ ap (λ (r : List ℚ). some_from (c.args.column + 1) (drop (c.args.column + 1) r)) row in
    let own : g.C.Number.Scalar.means c.at-own.result ≡ number_at (row_at c.args.rows.now c.args.pivot) c.args.column = c.at-own.ensures
    ∙ ap (λ (r : List ℚ). number_at r c.args.column) first in
    let here : c.args.column < length c.args.columns.now = lt_of_lt_of_le c.requires.column c.requires.sets in
    record {
      own = λ zero. c.requires.some (sym own ∙ zero);
      column = λ i b. let wide = c.requires.square i b in let within = c.requires.column in omega arith;
      marked = subst (λ (word : ℕ). IsZeroUnless word c.args.rows.now c.args.column)
          (sym (set_read c.args.columns.now c.args.column c.index-columns-column.result here c.index-columns-column.is))
          (c.requires.covers c.args.column here);
      later = later_fit c.args.rows.now c.args.pivot c.args.column c.requires.square c.requires.pivot c.requires.column (g.C.Number.Scalar.means c.at-own.result)
          (meant g.C.Number.Scalar.means (take c.later-count.result c.later-count.new.entries)) same;
    }

pub returns-clause-list : goal.returns-clause-list
returns-clause-list g c =
    let first : get_or c.args.rows.now c.args.pivot c.index-rows-pivot.result ≡ row_at c.args.rows.now c.args.pivot =
    row_got c.args.rows.now c.args.pivot c.index-rows-pivot.result c.requires.pivot in
    let row : get_or c.args.rows.now c.args.pivot c.index-rows-pivot-2.result ≡ row_at c.args.rows.now c.args.pivot =
    row_got c.args.rows.now c.args.pivot c.index-rows-pivot-2.result c.requires.pivot in
    let items : meant g.C.Number.Scalar.means (take c.later-count.result c.later-count.new.entries) ≡ some_from (c.args.column + 1)
    (drop (c.args.column + 1) (get_or c.args.rows.now c.args.pivot c.index-rows-pivot-2.result)) = c.later-count.ensures.value in
    let same : meant g.C.Number.Scalar.means (take c.later-count.result c.later-count.new.entries) ≡ some_from (c.args.column + 1)
    (drop (c.args.column + 1) (row_at c.args.rows.now c.args.pivot)) =
    items ∙ ap (λ (r : List ℚ). some_from (c.args.column + 1) (drop (c.args.column + 1) r)) row in
    let own : g.C.Number.Scalar.means c.at-own.result ≡ number_at (row_at c.args.rows.now c.args.pivot) c.args.column = c.at-own.ensures
    ∙ ap (λ (r : List ℚ). number_at r c.args.column) first in
    c.in_ok-cleared.ensures.list
    ∙ ap (at_part Part.Table) (eliminated c.args.rows.now c.args.pivot c.args.column c.requires.square c.requires.pivot c.requires.column (g.C.Number.Scalar.means c.at-own.result)
    (meant g.C.Number.Scalar.means (take c.later-count.result c.later-count.new.entries)) same g.C.Number.Scalar.passes own)

pub returns-in_err-cleared-clause-list : goal.returns-in_err-cleared-clause-list
returns-in_err-cleared-clause-list g c =
    let first : get_or c.args.rows.now c.args.pivot c.index-rows-pivot.result ≡ row_at c.args.rows.now c.args.pivot =
    row_got c.args.rows.now c.args.pivot c.index-rows-pivot.result c.requires.pivot in
    let row : get_or c.args.rows.now c.args.pivot c.index-rows-pivot-2.result ≡ row_at c.args.rows.now c.args.pivot =
    row_got c.args.rows.now c.args.pivot c.index-rows-pivot-2.result c.requires.pivot in
    let items : meant g.C.Number.Scalar.means (take c.later-count.result c.later-count.new.entries) ≡ some_from (c.args.column + 1)
    (drop (c.args.column + 1) (get_or c.args.rows.now c.args.pivot c.index-rows-pivot-2.result)) = c.later-count.ensures.value in
    let same : meant g.C.Number.Scalar.means (take c.later-count.result c.later-count.new.entries) ≡ some_from (c.args.column + 1)
    (drop (c.args.column + 1) (row_at c.args.rows.now c.args.pivot)) =
    items ∙ ap (λ (r : List ℚ). some_from (c.args.column + 1) (drop (c.args.column + 1) r)) row in
    let own : g.C.Number.Scalar.means c.at-own.result ≡ number_at (row_at c.args.rows.now c.args.pivot) c.args.column = c.at-own.ensures
    ∙ ap (λ (r : List ℚ). number_at r c.args.column) first in
    let p = err_from_is_err_and c.from_residual.result c.from_residual.ensures.1 in
    rw (p.1, p.2)
    (c.in_err-cleared.ensures.list
    ∙ ap (at_part Part.Table) (eliminated c.args.rows.now c.args.pivot c.args.column c.requires.square c.requires.pivot c.requires.column (g.C.Number.Scalar.means c.at-own.result)
    (meant g.C.Number.Scalar.means (take c.later-count.result c.later-count.new.entries)) same g.C.Number.Scalar.passes own))

pub bounds-rows-pivot : goal.bounds-rows-pivot
bounds-rows-pivot g c = c.requires.pivot

pub bounds-rows-pivot-2 : goal.bounds-rows-pivot-2
bounds-rows-pivot-2 g c = c.requires.pivot

pub at-own-requires : goal.at-own-requires
at-own-requires g c = within_row c.args.rows.now c.args.pivot c.args.column c.index-rows-pivot.result c.requires.square c.requires.pivot c.requires.column

pub later-count-requires : goal.later-count-requires
later-count-requires g c =
    let row = ap length (row_got c.args.rows.now c.args.pivot c.index-rows-pivot-2.result c.requires.pivot) in
    let wide = c.requires.square c.args.pivot c.requires.pivot in
    let column = c.requires.column in
    let room = c.requires.entries in
    record { column = column; right = omega arith; room = room }

pub slice_bounds-later-end : goal.slice_bounds-later-end
slice_bounds-later-end g c = c.later-count.ensures.within

pub slice_bounds-later-end-2 : goal.slice_bounds-later-end-2
slice_bounds-later-end-2 g c = sym (length-take-le c.later-count.result c.later-count.new.entries c.later-count.ensures.within)

pub bounds-columns-column : goal.bounds-columns-column
bounds-columns-column g c = lt_of_lt_of_le c.requires.column c.requires.sets

pub returns-clause-covers : goal.returns-clause-covers
returns-clause-covers g c =
    subst (λ (columns : List ℕ). Covers columns c.clear_rows.new.rows) (sym c.spread.ensures)
    (covered_after g.C.Number.Scalar.passes c.args.column c.args.pivot (g.C.Number.Scalar.means c.at-own.result)
    (meant g.C.Number.Scalar.means (take c.later-count.result c.later-count.new.entries))
    c.in_ok-cleared.cleared c.args.columns.now c.args.rows.now c.clear_rows.new.rows c.requires.covers
    (part_ok Part.Table _ c.clear_rows.new.rows c.in_ok-cleared.ensures.list) c.in_ok-cleared.ensures.kept)

pub returns-in_err-cleared-clause-covers : goal.returns-in_err-cleared-clause-covers
returns-in_err-cleared-clause-covers g c = IfOk-from_err c.from_residual.result _ c.from_residual.ensures.0
