use Rattle.std.proofs.Common.{◌≡◌, Bool, true, sym, ap, ◌∙◌}
use Rattle.nf_quick_times.proofs.Common.{ℚ, 0ℚ, lt_ℚ, less_of_test, passes_Q, at_part, Piece, last_piece}
use Rattle.nf_frac_def.specs.declared.Part.TheVariants as Part
use Rattle.nf_quick_times.proofs.departing.in_last.Goals as goal

pub within-requires : goal.within-requires
within-requires c = less_of_test 0ℚ c.args.piece.now.rate
    (sym (c.is_below.ensures ∙ ap (λ (p : Piece). lt_ℚ c.zero.result p.rate) c.piece.view_is ∙ ap (λ (z : ℚ). lt_ℚ z c.args.piece.now.rate) c.zero.ensures) ∙ c.if-not-is_below.false)

pub returns : goal.returns
returns c = λ supply_at.
    let some : lt_ℚ 0ℚ c.args.piece.now.rate ≡ true =
    sym (c.is_below.ensures ∙ ap (λ (p : Piece). lt_ℚ c.zero.result p.rate) c.piece.view_is ∙ ap (λ (z : ℚ). lt_ℚ z c.args.piece.now.rate) c.zero.ensures) ∙ c.if-not-is_below.false in
    c.within.ensures supply_at ∙ ap (λ (b : Bool). at_part Part.Quick (last_piece passes_Q supply_at c.args.amount b c.args.known c.args.piece.now)) (sym some)
