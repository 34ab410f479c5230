use Rattle.std.proofs.Common.{List, [], ◌∷◌, ◌++◌, length, refl, codes}
use Rattle.nf_forever.proofs.Common.{for_each, state_lines, Line, gathered_next, gathered_failed, gathered_then_failed, right_first, tail_lines, forever_in}
use Rattle.nf_forever.proofs.text.put_end.Goals as goal

pub put_states-requires : goal.put_states-requires
put_states-requires g c = c.requires.states

pub put_tail_of-requires : goal.put_tail_of-requires
put_tail_of-requires g c = c.requires.tail

pub returns-in_err-put_states : goal.returns-in_err-put_states
returns-in_err-put_states g c =
    let first : List Line = for_each (length c.args.net.now.net.links) (state_lines c.args.net.now c.args.forever.now.last) in
    let second : List Line = tail_lines c.args.net.now (forever_in c.args.forever.now).tail in
    let third : List Line = (codes "end" ∷ []) ∷ [] in
    gathered_failed first (second ++ third) (first ++ second ++ third) _ (right_first first second third) c.from_residual.ensures.0 c.in_err-put_states.ensures

pub returns-in_err-put_tail_of : goal.returns-in_err-put_tail_of
returns-in_err-put_tail_of g c =
    let first : List Line = for_each (length c.args.net.now.net.links) (state_lines c.args.net.now c.args.forever.now.last) in
    let second : List Line = tail_lines c.args.net.now (forever_in c.args.forever.now).tail in
    let third : List Line = (codes "end" ∷ []) ∷ [] in
    gathered_then_failed first second third (first ++ second ++ third) _ refl c.from_residual-in_err-put_tail_of.ensures.0 c.in_ok-put_states.ensures c.in_err-put_tail_of.ensures

pub returns : goal.returns
returns g c =
    let first : List Line = for_each (length c.args.net.now.net.links) (state_lines c.args.net.now c.args.forever.now.last) in
    let second : List Line = tail_lines c.args.net.now (forever_in c.args.forever.now).tail in
    let third : List Line = (codes "end" ∷ []) ∷ [] in
    gathered_next (first ++ second) third (first ++ second ++ third) refl
    (gathered_next first second (first ++ second) refl c.in_ok-put_states.ensures c.in_ok-put_tail_of.ensures) c.put_line.ensures
