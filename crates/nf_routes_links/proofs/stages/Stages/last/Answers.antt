use Rattle.std.proofs.Common.{◌≡◌, ◌-◌, ◌<◌, List, length, map, refl, sym, ap, ◌∙◌, arith}
use Rattle.nf_routes_links.proofs.Common.{length-map, slice_get_read, ℚ, Grown, slice_get-image, last_entry}
use Rattle.nf_routes_links.proofs.Lists.{last_at}
use Rattle.nf_routes_links.proofs.stages.Stages.last.Goals as goal

pub returns : goal.returns
returns c =
    let count : length (map (λ (g : Grown). g.points) c.self.inside.curves.items) ≡ length c.self.inside.curves.items = length-map c.self.inside.curves.items (λ (g : Grown). g.points) in
    let seen : length (map (λ (g : Grown). g.points) c.self.inside.curves.items) ≡ length c.args.self.now = ap (λ (l : List (List (ℚ × ℚ))). length l) c.self.view_is in
    let here : c.len.result - 1 < length c.self.inside.curves.items = omega arith in
    let at = slice_get_read c.self.inside.curves.items _ (c.len.result - 1) c.index.result.now refl here c.index.ensures in
    sym (ap last_entry (sym c.self.view_is)
    ∙ last_at (map (λ (g : Grown). g.points) c.self.inside.curves.items) (c.len.result - 1) c.index.result.now.points
    (slice_get-image (λ (g : Grown). g.points) c.self.inside.curves.items (c.len.result - 1) c.index.result.now at) (omega arith))
