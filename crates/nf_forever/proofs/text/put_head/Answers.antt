use Rattle.std.proofs.Common.{List, [], ◌∷◌, ◌++◌, refl, codes}
use Rattle.nf_forever.proofs.Common.{option_copied, printed, Line, gathered_next, gathered_failed, gathered_then_failed}
use Rattle.nf_net_def.specs.Causes.{cause_words}
use Rattle.nf_forever.proofs.text.put_head.Goals as goal

pub returns-in_err-put_line : goal.returns-in_err-put_line
returns-in_err-put_line g c =
    let first : List Line = (codes "forever" ∷ codes "1" ∷ []) ∷ [] in
    let second : List Line = (codes "reached" ∷ printed c.args.reached ∷ []) ∷ [] in
    let third : List Line = (codes "cause" ∷ cause_words (option_copied c.args.stopped)) ∷ [] in
    gathered_failed first (second ++ third) (first ++ second ++ third) _ refl c.from_residual.ensures.0 c.in_err-put_line.ensures

pub returns-in_err-put_number : goal.returns-in_err-put_number
returns-in_err-put_number g c =
    let first : List Line = (codes "forever" ∷ codes "1" ∷ []) ∷ [] in
    let second : List Line = (codes "reached" ∷ printed c.args.reached ∷ []) ∷ [] in
    let third : List Line = (codes "cause" ∷ cause_words (option_copied c.args.stopped)) ∷ [] in
    gathered_then_failed first second third (first ++ second ++ third) _ refl c.from_residual-in_err-put_number.ensures.0 c.in_ok-put_line.ensures c.in_err-put_number.ensures

pub returns : goal.returns
returns g c =
    let first : List Line = (codes "forever" ∷ codes "1" ∷ []) ∷ [] in
    let second : List Line = (codes "reached" ∷ printed c.args.reached ∷ []) ∷ [] in
    let third : List Line = (codes "cause" ∷ cause_words (option_copied c.args.stopped)) ∷ [] in
    gathered_next (first ++ second) third (first ++ second ++ third) refl
    (gathered_next first second (first ++ second) refl c.in_ok-put_line.ensures c.in_ok-put_number.ensures) c.put_cause.ensures
