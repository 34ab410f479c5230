use Rattle.std.proofs.Common.{[], ◌∷◌, ◌∙◌, ap, codes}
use Rattle.nf_net.proofs.Common.{inflow_words, same_line}
use Rattle.nf_net.proofs.printing.push_piece.Goals as goal

pub returns : goal.returns
returns c =
    same_line c.push_line.result c.args.out.now.items c.push_line.new.text.items (codes "inflow" ∷ c.text.result.now ∷ c.text-2.result.now ∷ []) (inflow_words c.args.piece.now)
    ((λ i. codes "inflow" ∷ (c.text.ensures ∙ c.write.ensures.text) i ∷ (c.text-2.ensures ∙ c.write-2.ensures.text) i ∷ []) ∙ ap inflow_words c.piece.view_is)
    c.push_line.ensures
