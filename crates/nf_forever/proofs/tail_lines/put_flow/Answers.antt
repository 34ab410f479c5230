use Rattle.std.proofs.Common.{◌≡◌, ℕ, List, [], ◌∷◌, ap, ◌∙◌, codes}
use Rattle.nf_forever.proofs.Common.{ℚ, printed, number_at, name_at, same_gathered, flow_line, tail_in}
use mathlib.Core.Path.{ap₂}
use Rattle.nf_forever.proofs.tail_lines.put_flow.Goals as goal

pub returns : goal.returns
returns g c =
    let name : c.as_bytes-name.result.now ≡ name_at c.args.net.now.link_names c.args.link = c.as_bytes-name.ensures.value ∙ c.link_name.ensures in
    let number : c.at_place-flow.result ≡ number_at c.args.tail.now.flows.items c.args.link = c.at_place-flow.ensures
    ∙ ap (λ (l : List ℚ). number_at l c.args.link) c.deref.ensures.value in
    same_gathered ((codes "flow" ∷ c.as_bytes-name.result.now ∷ printed c.at_place-flow.result ∷ []) ∷ []) (flow_line c.args.net.now (tail_in c.args.tail.now) c.args.link)
    (ap₂ (λ (m : List ℕ) (x : ℚ). (codes "flow" ∷ m ∷ printed x ∷ []) ∷ []) name number) c.put_named.ensures
