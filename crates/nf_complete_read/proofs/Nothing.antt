-- Drafts in which nothing is given.
use Rattle.std.proofs.Common.{◌≡◌, ℕ, false, List, length, map, replicate, Option, None, ◌∙◌}
use Rattle.nf_complete_read.proofs.Common.{ℚ, Name, Named, FlowsDraft, empty_flows}
use Rattle.std.proofs.lemmas.Simd.{splat_is_map}
use Rattle.nf_net_def.specs.WellNamed.{IsNamed}

none_each : (names : List Name) (numbers : List (Option ℚ)) (count : ℕ) → length names ≡ count → numbers ≡ replicate count None → numbers ≡ map (λ _. None) names
none_each names numbers count many e = e ∙ splat_is_map names count None many

pub nothing_given : (n : Named) (flows slopes : List (Option ℚ)) → IsNamed n → flows ≡ replicate (length n.net.links) None → slopes ≡ replicate n.net.nodes None
    → ◌≡◌ {A = FlowsDraft} (record { flows = flows; slopes = slopes; ended = false }) (empty_flows n)
nothing_given n flows slopes h e f =
    let a = none_each n.link_names flows (length n.net.links) h.numbered.links e in
    let b = none_each n.node_names slopes n.net.nodes h.numbered.nodes f in
    λ i. record { flows = a i; slopes = b i; ended = false }
