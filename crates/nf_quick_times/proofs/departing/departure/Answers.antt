use Rattle.std.proofs.Common.{◌≡◌, true, false, sym, ap, ◌∙◌}
use Rattle.nf_quick_times.proofs.Common.{ℚ, 0ℚ, le_ℚ, lt_of_test, passes_Q}
use Rattle.nf_quick_times.proofs.PieceByPiece.{departure_of_none, departure_found}
use Rattle.nf_quick_times.proofs.departing.departure.Goals as goal

pub returns-then-is_at_most-clause-least : goal.returns-then-is_at_most-clause-least
returns-then-is_at_most-clause-least c =
    let none : le_ℚ c.args.amount 0ℚ ≡ true = sym (c.is_at_most.ensures ∙ ap (λ (z : ℚ). le_ℚ c.args.amount z) c.zero.ensures) ∙ c.if-is_at_most.true in
    departure_of_none passes_Q c.args.net.now.net c.args.amount c.zero-then-is_at_most.result c.recall.ensures.network.pieces c.requires.amount none c.zero-then-is_at_most.ensures

pub departs-requires : goal.departs-requires
departs-requires c = lt_of_test c.args.amount 0ℚ (sym (c.is_at_most.ensures ∙ ap (λ (z : ℚ). le_ℚ c.args.amount z) c.zero.ensures) ∙ c.if-is_at_most.false)

pub returns-clause-least : goal.returns-clause-least
returns-clause-least c =
    let some : le_ℚ c.args.amount 0ℚ ≡ false = sym (c.is_at_most.ensures ∙ ap (λ (z : ℚ). le_ℚ c.args.amount z) c.zero.ensures) ∙ c.if-is_at_most.false in
    departure_found passes_Q c.args.net.now.net c.args.amount c.departs.result c.recall.ensures.network.pieces c.requires.amount some c.departs.ensures
