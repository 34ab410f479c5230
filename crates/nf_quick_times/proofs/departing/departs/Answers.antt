use Rattle.std.proofs.Common.{◌≡◌, ◌+◌, List, Some, None, slice_get, option_map, refl, sym, ap, subst, ◌∙◌}
use Rattle.nf_quick_times.proofs.Common.{slice_get_read, err_from_is_err_and, passes_Q, at_part, Piece, checked_supply}
use Rattle.nf_frac_def.specs.declared.Part.TheVariants as Part
use Rattle.nf_quick_times.proofs.PieceByPiece.{comes_first, in_last_piece, next_passes, rate_is_some, in_this_piece, comes_on}
use Rattle.nf_quick_times.proofs.departing.departs.Goals as goal

pub loop-index-init : goal.loop-index-init
loop-index-init c = comes_first passes_Q c.args.net.now.net c.args.amount c.pieces-pieces.ensures.named.network.pieces c.zero-known.result c.zero-known.ensures c.requires

pub returns-in_default : goal.returns-in_default
returns-in_default c =
    let here = subst (λ (ps : List Piece). slice_get ps c.loop-index.index ≡ Some c.index-pieces-index.result) c.pieces-pieces.ensures.value
    (slice_get_read c.pieces-pieces.result.now _ c.loop-index.index c.index-pieces-index.result refl c.loop-index-test.true c.index-pieces-index.is) in
    c.in_last.ensures (checked_supply passes_Q c.args.net.now.net) ∙ ap (at_part Part.Quick)
    (sym (in_last_piece passes_Q c.args.net.now.net c.args.amount c.pieces-pieces.ensures.named.network.pieces c.loop-index.known c.loop-index.index
    c.loop-index.invariant
    c.index-pieces-index.result here (subst (λ (ps : List Piece). None ≡ option_map (λ (p : Piece). p.start) (slice_get ps (c.loop-index.index + 1)))
    c.pieces-pieces.ensures.value c.in_default.ensures)))

pub returns-in_err-by_next : goal.returns-in_err-by_next
returns-in_err-by_next c =
    let here = subst (λ (ps : List Piece). slice_get ps c.loop-index.index ≡ Some c.index-pieces-index.result) c.pieces-pieces.ensures.value
    (slice_get_read c.pieces-pieces.result.now _ c.loop-index.index c.index-pieces-index.result refl c.loop-index-test.true c.index-pieces-index.is) in
    let p = err_from_is_err_and c.from_residual.result c.from_residual.ensures.1 in
    rw (p.1, p.2) (next_passes passes_Q c.args.net.now.net c.args.amount c.pieces-pieces.ensures.named.network.pieces c.loop-index.known c.loop-index.index c.loop-index.invariant
    c.index-pieces-index.result here c.in-Some.next (subst (λ (ps : List Piece). Some c.in-Some.next ≡ option_map (λ (p : Piece). p.start)
    (slice_get ps (c.loop-index.index + 1))) c.pieces-pieces.ensures.value c.in-Some.ensures)
    c.in_err-by_next.field-0.0 c.in_err-by_next.ensures)

pub within-requires : goal.within-requires
within-requires c =
    let here = subst (λ (ps : List Piece). slice_get ps c.loop-index.index ≡ Some c.index-pieces-index.result) c.pieces-pieces.ensures.value
    (slice_get_read c.pieces-pieces.result.now _ c.loop-index.index c.index-pieces-index.result refl c.loop-index-test.true c.index-pieces-index.is) in
    rate_is_some passes_Q c.args.net.now.net c.args.amount c.pieces-pieces.ensures.named.network.pieces c.loop-index.known c.loop-index.index c.loop-index.invariant
    c.index-pieces-index.result here c.in-Some.next (subst (λ (ps : List Piece). Some c.in-Some.next ≡ option_map (λ (p : Piece). p.start)
    (slice_get ps (c.loop-index.index + 1))) c.pieces-pieces.ensures.value c.in-Some.ensures)
    c.in_ok-by_next.by_next c.in_ok-by_next.ensures (sym c.is_at_most.ensures ∙ c.if-is_at_most.true)

pub returns-then-is_at_most : goal.returns-then-is_at_most
returns-then-is_at_most c =
    let here = subst (λ (ps : List Piece). slice_get ps c.loop-index.index ≡ Some c.index-pieces-index.result) c.pieces-pieces.ensures.value
    (slice_get_read c.pieces-pieces.result.now _ c.loop-index.index c.index-pieces-index.result refl c.loop-index-test.true c.index-pieces-index.is) in
    c.within.ensures (checked_supply passes_Q c.args.net.now.net) ∙ ap (at_part Part.Quick)
    (sym (in_this_piece passes_Q c.args.net.now.net c.args.amount c.pieces-pieces.ensures.named.network.pieces c.loop-index.known c.loop-index.index
    c.loop-index.invariant
    c.index-pieces-index.result here c.in-Some.next (subst (λ (ps : List Piece). Some c.in-Some.next ≡ option_map (λ (p : Piece). p.start)
    (slice_get ps (c.loop-index.index + 1))) c.pieces-pieces.ensures.value c.in-Some.ensures)
    c.in_ok-by_next.by_next c.in_ok-by_next.ensures (sym c.is_at_most.ensures ∙ c.if-is_at_most.true)))

pub loop-index-preserved : goal.loop-index-preserved
loop-index-preserved c =
    let here = subst (λ (ps : List Piece). slice_get ps c.loop-index.index ≡ Some c.index-pieces-index.result) c.pieces-pieces.ensures.value
    (slice_get_read c.pieces-pieces.result.now _ c.loop-index.index c.index-pieces-index.result refl c.loop-index-test.true c.index-pieces-index.is) in
    comes_on passes_Q c.args.net.now.net c.args.amount c.pieces-pieces.ensures.named.network.pieces c.loop-index.known c.loop-index.index c.loop-index.invariant
    c.index-pieces-index.result here c.in-Some.next (subst (λ (ps : List Piece). Some c.in-Some.next ≡ option_map (λ (p : Piece). p.start)
    (slice_get ps (c.loop-index.index + 1))) c.pieces-pieces.ensures.value c.in-Some.ensures)
    c.in_ok-by_next.by_next c.in_ok-by_next.ensures (sym c.is_at_most.ensures ∙ c.if-is_at_most.false)
