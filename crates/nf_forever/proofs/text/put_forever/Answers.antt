use Rattle.std.proofs.Common.{◌≡◌, List, [], ◌∷◌, ◌++◌, length, refl, ap, ◌∙◌, codes}
use Rattle.nf_forever.proofs.Common.{option_copied, Line, flow_lines, gathered_next, gathered_failed, gathered_then_failed, same_gathered, right_first}
use Rattle.nf_forever.proofs.Common.{Forever, tail_lines, forever_lines, for_each, state_lines, forever_in}
use Rattle.nf_net_def.specs.Named.{Named}
use Rattle.nf_forever.specs.Parts.{head_lines, end_lines}
use Rattle.nf_forever.proofs.Joined.{one_by_one}
use Rattle.nf_forever.proofs.text.put_forever.Goals as goal

-- The parts make the whole text.
whole : (n : Named) (f : Forever) → head_lines f.flow.reached f.stop ++ flow_lines n f.flow ++ end_lines n f ≡ forever_lines n f
whole n f = one_by_one (head_lines f.flow.reached f.stop) (flow_lines n f.flow) (for_each (length n.net.links) (state_lines n f.last)) (tail_lines n f.tail) ((codes "end" ∷ []) ∷ [])

pub put_flow-requires : goal.put_flow-requires
put_flow-requires g c = c.requires.shape

pub returns-in_err-put_head : goal.returns-in_err-put_head
returns-in_err-put_head g c =
    let f = c.args.forever.now in
    let told = forever_in f in
    let first : List Line = head_lines f.flow.reached f.stopped in
    let second : List Line = flow_lines c.args.net.now told.flow in
    let third : List Line = end_lines c.args.net.now told in
    let stop : option_copied c.as_ref.result ≡ f.stopped = cc (c.as_ref.ensures.value) in
    let same : head_lines f.flow.reached (option_copied c.as_ref.result) ≡ first = ap (head_lines f.flow.reached) stop in
    gathered_failed first (second ++ third) (forever_lines c.args.net.now told) _ (right_first first second third ∙ whole c.args.net.now told) c.from_residual.ensures.0
    (same_gathered (head_lines f.flow.reached (option_copied c.as_ref.result)) first same c.in_err-put_head.ensures)

pub returns-in_err-put_flow : goal.returns-in_err-put_flow
returns-in_err-put_flow g c =
    let f = c.args.forever.now in
    let told = forever_in f in
    let first : List Line = head_lines f.flow.reached f.stopped in
    let second : List Line = flow_lines c.args.net.now told.flow in
    let third : List Line = end_lines c.args.net.now told in
    let stop : option_copied c.as_ref.result ≡ f.stopped = cc (c.as_ref.ensures.value) in
    let same : head_lines f.flow.reached (option_copied c.as_ref.result) ≡ first = ap (head_lines f.flow.reached) stop in
    gathered_then_failed first second third (forever_lines c.args.net.now told) _ (whole c.args.net.now told) c.from_residual-in_err-put_flow.ensures.0
    (same_gathered (head_lines f.flow.reached (option_copied c.as_ref.result)) first same c.in_ok-put_head.ensures) c.in_err-put_flow.ensures

pub returns : goal.returns
returns g c =
    let f = c.args.forever.now in
    let told = forever_in f in
    let first : List Line = head_lines f.flow.reached f.stopped in
    let second : List Line = flow_lines c.args.net.now told.flow in
    let third : List Line = end_lines c.args.net.now told in
    let stop : option_copied c.as_ref.result ≡ f.stopped = cc (c.as_ref.ensures.value) in
    let same : head_lines f.flow.reached (option_copied c.as_ref.result) ≡ first = ap (head_lines f.flow.reached) stop in
    gathered_next (first ++ second) third (forever_lines c.args.net.now told) (whole c.args.net.now told)
    (gathered_next first second (first ++ second) refl (same_gathered (head_lines f.flow.reached (option_copied c.as_ref.result)) first same
    c.in_ok-put_head.ensures) c.in_ok-put_flow.ensures) c.put_end.ensures
