use Rattle.std.proofs.Common.{◌≡◌, ℕ, List, [], ◌∷◌, ap, ◌∙◌, codes}
use Rattle.nf_forever.proofs.Common.{ℚ, printed, number_at, name_at, same_gathered, slope_line, tail_in}
use mathlib.Core.Path.{ap₂}
use Rattle.nf_forever.proofs.tail_lines.put_slope.Goals as goal

pub returns : goal.returns
returns g c =
    let name : c.as_bytes-name.result.now ≡ name_at c.args.net.now.node_names c.args.node = c.as_bytes-name.ensures.value ∙ c.node_name.ensures in
    let number : c.at_place-slope.result ≡ number_at c.args.tail.now.slopes.items c.args.node = c.at_place-slope.ensures
    ∙ ap (λ (l : List ℚ). number_at l c.args.node) c.deref.ensures.value in
    same_gathered ((codes "slope" ∷ c.as_bytes-name.result.now ∷ printed c.at_place-slope.result ∷ []) ∷ []) (slope_line c.args.net.now (tail_in c.args.tail.now) c.args.node)
    (ap₂ (λ (m : List ℕ) (x : ℚ). (codes "slope" ∷ m ∷ printed x ∷ []) ∷ []) name number) c.put_named.ensures
