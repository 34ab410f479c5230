use Rattle.std.proofs.Common.{◌<◌, ◌∙◌, ap, length, arith}
use Rattle.std.proofs.lemmas.Bool.Decides.{nat_tests}
use Rattle.nf_rational.specs.Order.{le_ℚ}
use Rattle.nf_model.specs.Network.{Piece}
use Rattle.nf_net_file.proofs.LastPiece.{late_by_last}
use Rattle.nf_side.proofs.pieces.is_not_after.Goals as goal

pub returns : goal.returns
returns c =
    let some : 0 < length c.args.before.now = grind (arith, nat_tests) in
    c.is_at_most.ensures
    ∙ ap (λ (p : Piece). le_ℚ c.args.start p.start) c.last.view_is
    ∙ late_by_last c.args.start c.args.before.now c.index-before-before.result some c.index-before-before.is
