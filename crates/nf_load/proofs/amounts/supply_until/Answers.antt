use Rattle.std.proofs.Common.{◌≡◌, ◌+◌, ◌<◌, ◌≤◌, true, false, List, ◌++◌, length, drop, refl, sym, ap, subst, ◌∙◌, arith, Ok}
use Rattle.nf_load.proofs.Common.{take_rest, drop_all, err_from_is_err_and, slice_get_read, ℚ, lt_ℚ, Load, bound_of, passes_Q, is_wide, at_part, with_front}
use Rattle.nf_load.proofs.Common.{Piece, piece_end, point_if_after_0, with_piece, cumulative_from, checked_cumulative, was_ok, rate_if_after_0}
use Rattle.nf_load.proofs.Supplying.{within_next, begins_with, ends_before_at, ends_there, goes_on_at, stops_at, one_on}
use Rattle.nf_load.proofs.RatesInTurn.{are_rates, as_many, first_rates, pushed_rates, RatesSoFar, next_rates, up_to_start, up_to_late, up_to_last}
use Rattle.nf_load.proofs.amounts.supply_until.Goals as goal

pub loop-index-init : goal.loop-index-init
loop-index-init c = record {
  points = begins_with passes_Q c.args.pieces.now c.args.last c.zero-so_far.result _ _ c.in_ok-supply.supply.points.items c.zero-so_far.ensures refl refl c.in_ok-supply.ensures.points;
  rates =
      first_rates c.in_ok-supply.supply.points.items c.in_ok-supply.supply.rates.items c.zero-so_far.result c.zero-rate.result _ _ _
      c.in_ok-supply.ensures.points c.in_ok-supply.ensures.rates
      refl refl c.zero-so_far.ensures c.zero-rate.ensures;
}

pub returns-then-not-is_below-clause-list : goal.returns-then-not-is_below-clause-list
returns-then-not-is_below-clause-list c =
    let inside : c.loop-index.index < length c.args.pieces.now = c.loop-index-test.true in
    let g = slice_get_read c.args.pieces.now _ c.loop-index.index c.index-pieces-index.result refl inside c.index-pieces-index.is in
    let late : lt_ℚ c.index-pieces-index.result.start c.args.last ≡ false =
    sym (c.is_below.ensures ∙ ap (λ (p : Piece). lt_ℚ p.start c.args.last) c.piece.view_is) ∙ c.if-not-is_below.true in
    ends_before_at passes_Q Load c.loop-index.supply.points.items c.loop-index.so_far c.args.last c.args.pieces.now c.loop-index.index
    (c.loop-index.index + 1) c.index-pieces-index.result
    g (one_on c.loop-index.index) c.loop-index.invariant.points late ∙ ap Ok (sym c.in_ok-ended.ensures.points)

pub returns-then-not-is_below-clause-rates : goal.returns-then-not-is_below-clause-rates
returns-then-not-is_below-clause-rates c =
    let inside : c.loop-index.index < length c.args.pieces.now = c.loop-index-test.true in
    let g = slice_get_read c.args.pieces.now _ c.loop-index.index c.index-pieces-index.result refl inside c.index-pieces-index.is in
    let late : lt_ℚ c.index-pieces-index.result.start c.args.last ≡ false =
    sym (c.is_below.ensures ∙ ap (λ (p : Piece). lt_ℚ p.start c.args.last) c.piece.view_is) ∙ c.if-not-is_below.true in
    are_rates _ _ _ (pushed_rates c.loop-index.supply.points.items _ c.loop-index.supply.rates.items _ c.loop-index.so_far c.loop-index.rate c.args.last c.recall.ensures
    c.in_ok-ended.ensures.points c.in_ok-ended.ensures.rates
    (up_to_late c.loop-index.supply.points.items c.loop-index.supply.rates.items c.loop-index.so_far c.loop-index.rate c.args.last c.args.pieces.now
    c.loop-index.index c.loop-index.invariant.rates
    c.index-pieces-index.result g late))

pub returns-then-not-is_below-clause-all : goal.returns-then-not-is_below-clause-all
returns-then-not-is_below-clause-all c =
    let inside : c.loop-index.index < length c.args.pieces.now = c.loop-index-test.true in
    let g = slice_get_read c.args.pieces.now _ c.loop-index.index c.index-pieces-index.result refl inside c.index-pieces-index.is in
    let late : lt_ℚ c.index-pieces-index.result.start c.args.last ≡ false =
    sym (c.is_below.ensures ∙ ap (λ (p : Piece). lt_ℚ p.start c.args.last) c.piece.view_is) ∙ c.if-not-is_below.true in
    as_many _ _ _ (pushed_rates c.loop-index.supply.points.items _ c.loop-index.supply.rates.items _ c.loop-index.so_far c.loop-index.rate c.args.last c.recall.ensures
    c.in_ok-ended.ensures.points c.in_ok-ended.ensures.rates
    (up_to_late c.loop-index.supply.points.items c.loop-index.supply.rates.items c.loop-index.so_far c.loop-index.rate c.args.last c.args.pieces.now
    c.loop-index.index c.loop-index.invariant.rates
    c.index-pieces-index.result g late))

pub loop-index-preserved : goal.loop-index-preserved
loop-index-preserved c =
    let inside : c.loop-index.index < length c.args.pieces.now = c.loop-index-test.true in
    let g = slice_get_read c.args.pieces.now _ c.loop-index.index c.index-pieces-index.result refl inside c.index-pieces-index.is in
    let below : lt_ℚ c.index-pieces-index.result.start c.args.last ≡ true =
    sym (c.is_below.ensures ∙ ap (λ (p : Piece). lt_ℚ p.start c.args.last) c.piece.view_is) ∙ c.if-not-is_below.false in
    let end : c.end_of.result ≡ piece_end (drop (c.loop-index.index + 1) c.args.pieces.now) c.args.last =
    c.end_of.ensures ∙ ap (λ (l : List Piece). piece_end l c.args.last) (take_rest c.args.pieces.now (c.loop-index.index + 1)) in
    let sum : at_part Load (with_piece passes_Q c.loop-index.so_far c.index-pieces-index.result
    (piece_end (drop (c.loop-index.index + 1) c.args.pieces.now) c.args.last)) ≡ Ok c.in_ok-sum.sum =
    ap (λ (z : ℚ). at_part Load (with_piece passes_Q c.loop-index.so_far c.index-pieces-index.result z)) (sym end) ∙ sym c.in_ok-sum.ensures in
    record {
      points =
          ap (λ (l : List (ℚ × ℚ)). with_front l (cumulative_from passes_Q c.in_ok-sum.sum (drop (c.loop-index.index + 1) c.args.pieces.now) c.args.last))
          (c.in_ok-push.ensures.points ∙ ap (λ (p : Piece). c.loop-index.supply.points.items ++ point_if_after_0 p.start c.loop-index.so_far) c.piece.view_is)
          ∙ goes_on_at passes_Q Load c.loop-index.supply.points.items c.loop-index.so_far c.args.last c.args.pieces.now c.loop-index.index
          (c.loop-index.index + 1) c.index-pieces-index.result
          g (one_on c.loop-index.index) c.loop-index.invariant.points c.in_ok-sum.sum below sum;
      rates = subst (λ (p : Piece). RatesSoFar c.push.new.self.points.items c.push.new.self.rates.items c.in_ok-sum.sum p.rate
          (piece_end (drop (c.loop-index.index + 1) c.args.pieces.now) c.args.last))
          (sym c.piece.view_is) (next_rates c.args.pieces.now c.loop-index.index
          (c.loop-index.index + 1) c.index-pieces-index.result c.args.last c.loop-index.so_far c.in_ok-sum.sum _ _ c.requires g
          (one_on c.loop-index.index)
          below (subst (λ (p : Piece). is_wide (bound_of 127) p.rate ≡ false) c.piece.view_is c.recall-in-loop-index-2.ensures)
          (was_ok Load (with_piece passes_Q c.loop-index.so_far c.index-pieces-index.result
          (piece_end (drop (c.loop-index.index + 1) c.args.pieces.now) c.args.last)) c.in_ok-sum.sum sum)
          (pushed_rates c.loop-index.supply.points.items _ c.loop-index.supply.rates.items _ c.loop-index.so_far c.loop-index.rate
          c.index-pieces-index.result.start (subst (λ (p : Piece). is_wide (bound_of 127) p.start ≡ false) c.piece.view_is
          c.recall-in-loop-index.ensures)
          (c.in_ok-push.ensures.points ∙ ap (λ (p : Piece). c.loop-index.supply.points.items ++ point_if_after_0 p.start c.loop-index.so_far) c.piece.view_is)
          (c.in_ok-push.ensures.rates ∙ ap (λ (p : Piece). c.loop-index.supply.rates.items ++ rate_if_after_0 p.start c.loop-index.rate) c.piece.view_is)
          (up_to_start c.loop-index.supply.points.items c.loop-index.supply.rates.items c.loop-index.so_far c.loop-index.rate c.args.last c.args.pieces.now
          c.loop-index.index c.loop-index.invariant.rates
          c.index-pieces-index.result g below)));
    }

pub returns-clause-list : goal.returns-clause-list
returns-clause-list c =
    let past : length c.args.pieces.now ≤ c.loop-index.index = omega arith in
    ends_there passes_Q Load c.loop-index.supply.points.items c.loop-index.so_far c.args.last (checked_cumulative passes_Q c.args.pieces.now c.args.last)
    (ap (λ (l : List Piece). with_front c.loop-index.supply.points.items (cumulative_from passes_Q c.loop-index.so_far l c.args.last))
    (sym (drop_all c.loop-index.index c.args.pieces.now past)) ∙ c.loop-index.invariant.points)
    ∙ ap Ok (sym c.in_ok-ended-2.ensures.points)

pub returns-clause-rates : goal.returns-clause-rates
returns-clause-rates c =
    let past : length c.args.pieces.now ≤ c.loop-index.index = omega arith in
    are_rates _ _ _ (pushed_rates c.loop-index.supply.points.items _ c.loop-index.supply.rates.items _ c.loop-index.so_far c.loop-index.rate c.args.last c.recall.ensures
    c.in_ok-ended-2.ensures.points c.in_ok-ended-2.ensures.rates
    (up_to_last c.loop-index.supply.points.items c.loop-index.supply.rates.items c.loop-index.so_far c.loop-index.rate c.args.last c.args.pieces.now
    c.loop-index.index c.loop-index.invariant.rates
    (drop_all c.loop-index.index c.args.pieces.now past)))

pub returns-clause-all : goal.returns-clause-all
returns-clause-all c =
    let past : length c.args.pieces.now ≤ c.loop-index.index = omega arith in
    as_many _ _ _ (pushed_rates c.loop-index.supply.points.items _ c.loop-index.supply.rates.items _ c.loop-index.so_far c.loop-index.rate c.args.last c.recall.ensures
    c.in_ok-ended-2.ensures.points c.in_ok-ended-2.ensures.rates
    (up_to_last c.loop-index.supply.points.items c.loop-index.supply.rates.items c.loop-index.so_far c.loop-index.rate c.args.last c.args.pieces.now
    c.loop-index.index c.loop-index.invariant.rates
    (drop_all c.loop-index.index c.args.pieces.now past)))

pub returns-in_err-sum-clause-list : goal.returns-in_err-sum-clause-list
returns-in_err-sum-clause-list c =
    let p = err_from_is_err_and c.from_residual-in_err-sum.result c.from_residual-in_err-sum.ensures.1 in
    let inside : c.loop-index.index < length c.args.pieces.now = c.loop-index-test.true in
    let g = slice_get_read c.args.pieces.now _ c.loop-index.index c.index-pieces-index.result refl inside c.index-pieces-index.is in
    let below : lt_ℚ c.index-pieces-index.result.start c.args.last ≡ true =
    sym (c.is_below.ensures ∙ ap (λ (p : Piece). lt_ℚ p.start c.args.last) c.piece.view_is) ∙ c.if-not-is_below.false in
    let end : c.end_of.result ≡ piece_end (drop (c.loop-index.index + 1) c.args.pieces.now) c.args.last =
    c.end_of.ensures ∙ ap (λ (l : List Piece). piece_end l c.args.last) (take_rest c.args.pieces.now (c.loop-index.index + 1)) in
    rw (p.1, p.2) (stops_at passes_Q Load c.loop-index.supply.points.items c.loop-index.so_far c.args.last c.args.pieces.now c.loop-index.index
    (c.loop-index.index + 1) c.index-pieces-index.result
    g (one_on c.loop-index.index) c.loop-index.invariant.points c.in_err-sum.field-0.0 below
    (ap (λ (z : ℚ). at_part Load (with_piece passes_Q c.loop-index.so_far c.index-pieces-index.result z)) (sym end) ∙ sym c.in_err-sum.ensures))

pub slice_bounds-end_of-count : goal.slice_bounds-end_of-count
slice_bounds-end_of-count c = within_next c.loop-index.index (length c.args.pieces.now) c.loop-index-test.true

pub slice_bounds-end_of-start : goal.slice_bounds-end_of-start
slice_bounds-end_of-start c = within_next c.loop-index.index (length c.args.pieces.now) c.loop-index-test.true

pub bounds-pieces-index : goal.bounds-pieces-index
bounds-pieces-index c = c.loop-index-test.true
