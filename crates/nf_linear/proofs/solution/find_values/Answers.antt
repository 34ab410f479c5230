use Rattle.std.proofs.Common.{◌≡◌, ℕ, suc, ◌+◌, ◌<◌, ◌≤◌, List, [], ◌∷◌, length, map, take, Ok, get_or, subst, sym, ◌∙◌, ap, refl, length-set, arith}
use Rattle.nf_linear.proofs.Common.{err_from_is_err_and, map-append, take_more_set, take_all, ℚ, seen_passed_at, number_at}
use Rattle.nf_linear.proofs.Clearing.{row_read}
use Rattle.nf_linear.proofs.Values.{ValuesSoFar, values_stop, values_more, values_all}
use Rattle.nf_linear.proofs.solution.find_values.Goals as goal

pub returns-in_err-value : goal.returns-in_err-value
returns-in_err-value g c =
    let p = err_from_is_err_and c.from_residual.result c.from_residual.ensures.1 in
    let inside : c.loop-column.column < length c.args.pivots.now = c.loop-column-test.true in
    let below : get_or c.args.pivots.now c.loop-column.column 0 < length c.args.rows.now =
    c.requires.pivots.within c.loop-column.column (subst (λ (n : ℕ). c.loop-column.column < n) c.requires.pivots.count c.loop-column-test.true) in
    let row = row_read c.args.rows.now (get_or c.args.pivots.now c.loop-column.column 0) c.index-rows-pivot.result below c.index-rows-pivot.is in
    rw (p.1, p.2) (sym (values_stop g.C.Number.Scalar.passes c.args.rows.now c.args.pivots.now
    (map g.C.Number.Scalar.means (take c.loop-column.column c.loop-column.found)) c.loop-column.column inside c.loop-column.invariant.0
    c.index-rows-pivot.result (length c.args.rows.now) row refl (seen_passed_at g.C.Number.Scalar.means c.in_err-value.field-0.0) c.in_err-value.ensures))

pub loop-column-preserved : goal.loop-column-preserved
loop-column-preserved g c =
    let inside : c.loop-column.column < length c.args.pivots.now = c.loop-column-test.true in
    let below : get_or c.args.pivots.now c.loop-column.column 0 < length c.args.rows.now =
    c.requires.pivots.within c.loop-column.column (subst (λ (n : ℕ). c.loop-column.column < n) c.requires.pivots.count c.loop-column-test.true) in
    let row = row_read c.args.rows.now (get_or c.args.pivots.now c.loop-column.column 0) c.index-rows-pivot.result below c.index-rows-pivot.is in
    let room = subst (λ (n : ℕ). c.loop-column.column < n) (sym (c.loop-column.invariant.1 ∙ c.requires.room)) c.loop-column-test.true in (
      subst (λ (xs : List ℚ). ValuesSoFar g.C.Number.Scalar.passes c.args.rows.now c.args.pivots.now xs (c.loop-column.column + 1))
          (sym (ap (map g.C.Number.Scalar.means) (take_more_set c.loop-column.found c.loop-column.column c.in_ok-value.value room)
          ∙ map-append g.C.Number.Scalar.means (take c.loop-column.column c.loop-column.found) (c.in_ok-value.value ∷ [])))
          (values_more g.C.Number.Scalar.passes c.args.rows.now c.args.pivots.now
          (map g.C.Number.Scalar.means (take c.loop-column.column c.loop-column.found)) c.loop-column.column inside c.loop-column.invariant.0
          c.index-rows-pivot.result (length c.args.rows.now) row refl (g.C.Number.Scalar.means c.in_ok-value.value) c.in_ok-value.ensures),
      length-set c.loop-column.found c.loop-column.column c.in_ok-value.value ∙ c.loop-column.invariant.1,
    )

pub value_of-requires : goal.value_of-requires
value_of-requires g c =
    let inside : c.loop-column.column < length c.args.rows.now = subst (λ (n : ℕ). c.loop-column.column < n) c.requires.pivots.count c.loop-column-test.true in
    let below = c.requires.pivots.within c.loop-column.column inside in
    let row = row_read c.args.rows.now (get_or c.args.pivots.now c.loop-column.column 0) c.index-rows-pivot.result below c.index-rows-pivot.is in
    let long : length c.index-rows-pivot.result ≡ suc (length c.args.rows.now) = ap length row ∙ c.requires.pivots.square (get_or c.args.pivots.now c.loop-column.column 0) below in
    record {
      column = inside;
      right = omega arith;
      own = λ zero. c.requires.pivots.some c.loop-column.column inside (ap (λ (r : List ℚ). number_at r c.loop-column.column) (sym row) ∙ zero);
    }

pub bounds-rows-pivot : goal.bounds-rows-pivot
bounds-rows-pivot g c = c.requires.pivots.within c.loop-column.column (subst (λ (n : ℕ). c.loop-column.column < n) c.requires.pivots.count c.loop-column-test.true)

pub bounds-found-column : goal.bounds-found-column
bounds-found-column g c = subst (λ (n : ℕ). c.loop-column.column < n) (sym (c.loop-column.invariant.1 ∙ c.requires.room)) c.loop-column-test.true

pub returns : goal.returns
returns g c =
    let whole = take_all c.loop-column.column c.loop-column.found (subst (λ (n : ℕ). n ≤ c.loop-column.column)
    (sym (c.loop-column.invariant.1 ∙ c.requires.room)) c.loop-column-test.false) in
    ap (λ found. Ok (map g.C.Number.Scalar.means found)) (sym whole)
    ∙ sym (values_all g.C.Number.Scalar.passes c.args.rows.now c.args.pivots.now
    (map g.C.Number.Scalar.means (take c.loop-column.column c.loop-column.found)) c.loop-column.column c.loop-column-test.false
    c.loop-column.invariant.0)
