use Rattle.std.proofs.Common.{[], ◌∷◌, codes}
use Rattle.nf_gen.proofs.Common.{digits_of}
use Rattle.nf_text.proofs.Pushed.{same_line}
use Rattle.nf_gen.proofs.lines.push_piece_line.Goals as goal

pub returns : goal.returns
returns c =
    same_line c.push_line.result c.args.out.now.items c.push_line.new.text.items (codes "inflow" ∷ c.text.result.now ∷ c.text-2.result.now ∷ [])
    (codes "inflow" ∷ digits_of c.args.start ∷ digits_of c.args.rate ∷ []) (cc) c.push_line.ensures
