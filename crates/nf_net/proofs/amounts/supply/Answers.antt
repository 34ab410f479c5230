use Rattle.std.proofs.Common.{◌∙◌, ap, List}
use Rattle.nf_net.proofs.Common.{0ℚ, passes_Q, Piece, supplied_after}
use Rattle.nf_net.proofs.Supplied.{value_supplied}
use Rattle.nf_net.proofs.amounts.supply.Goals as goal

pub returns-clause-value : goal.returns-clause-value
returns-clause-value c =
    value_supplied passes_Q c.args.time c.amount_of.result c.args.net.now.net.pieces c.pieces.ensures.named.network.pieces
    (c.amount_of.ensures ∙ ap (λ (pieces : List Piece). supplied_after passes_Q 0ℚ pieces c.args.time) c.pieces.ensures.value)
