-- The rows of a pattern's table: their conditions on values are the pattern's equations on flows and slopes.
use Rattle.std.proofs.Common.{◌≡◌, ℕ, ◌+◌, ◌<◌, List, [], ◌∷◌, length, take, drop, map, Some, unwrap_or, refl, ap, ◌∙◌, arith}
use Rattle.std.specs.List.{range_with_len}
use Rattle.std.proofs.lemmas.List.{length-map, length-append}
use Rattle.std.proofs.lemmas.List.FromFn.{length-range_with_len}
use Rattle.nf_rational.specs.Rational.{ℚ}
use Rattle.nf_rational.specs.Operations.{0ℚ, 1ℚ, neg_ℚ, ◌+ℚ◌, ◌-ℚ◌, ◌*ℚ◌}
use Rattle.nf_rational_laws.proofs.Polynomial.{reading_of}
use Rattle.nf_rational_laws.proofs.Linear.{linear_eq}
use Rattle.nf_rational_laws.proofs.Facts.{first_and_zero}
use Rattle.nf_rational_laws.proofs.Field.{one-*ℚ}
use Rattle.nf_rational_laws.proofs.Signs.{first_is_zero}
use Rattle.nf_model.specs.declared.State.TheVariants.{Tight, Zero}
use Rattle.nf_model.specs.Entries.{number_at}
use Rattle.nf_model.specs.Network.{Link, Network, IsNetwork, IsLink}
use Rattle.nf_model.specs.ThinFlow.{Sets, surplus}
use Rattle.nf_thin_def.specs.Equations.{Unknown, SlopeOf, FlowOn, active_from, unknowns, source_factor, node_factor, fills_factor, link_factor, slopes_in, link_flows_in}
use Rattle.nf_thin_laws.specs.ActiveLinks.{AreSets}
use Rattle.nf_thin_equation_laws.proofs.Dots.{dot, dot-append, dot-zero, dot-less, dot-map, only, range-only, active-only, node-dot}
use Rattle.nf_thin_equation_laws.proofs.Packed.{front-length, rest-length}

both_once : (x y : ℚ) → 1ℚ *ℚ x -ℚ 1ℚ *ℚ y ≡ x -ℚ y
both_once x y = linear_eq (x ∷ y ∷ []) [] (search reading_of) tt tt

-- ---- the unknowns
module _ (net : Network) (sets : Sets) where
  abbrev pub flow_count : ℕ
  flow_count = length (active_from 0 sets.active)

  slope_unknowns : length (map SlopeOf (range_with_len 0 net.nodes)) ≡ net.nodes
  slope_unknowns = length-map (range_with_len 0 net.nodes) SlopeOf ∙ length-range_with_len 0 net.nodes

  pub unknowns-length : length (unknowns net sets) ≡ net.nodes + flow_count
  unknowns-length =
      let a = length-append (map SlopeOf (range_with_len 0 net.nodes)) (map FlowOn (active_from 0 sets.active)) in
      let b = slope_unknowns in
      let c : length (map FlowOn (active_from 0 sets.active)) ≡ flow_count = length-map (active_from 0 sets.active) FlowOn in
      omega arith

  -- ---- the condition of a row on values
  module _ (good : IsNetwork net) (sets_are : AreSets net sets) (xs : List ℚ) (count : length xs ≡ net.nodes + flow_count) where
    abbrev pub slopes : List ℚ
    slopes = slopes_in net.nodes xs

    abbrev pub flows : List ℚ
    flows = link_flows_in net.nodes sets.active xs

    slopes-length : length (take net.nodes xs) ≡ net.nodes
    slopes-length = front-length xs net.nodes flow_count count

    flows-length : length (drop net.nodes xs) ≡ flow_count
    flows-length = rest-length xs net.nodes flow_count count

    abbrev pub total : (Unknown → ℚ) → ℚ
    total f = dot f (unknowns net sets) xs

    in_parts : (f : Unknown → ℚ) → total f ≡ dot (λ v. f (SlopeOf v)) (range_with_len 0 net.nodes) (take net.nodes xs) +ℚ dot (λ e. f (FlowOn e))
        (active_from 0 sets.active) (drop net.nodes xs)
    in_parts f =
        dot-append f (map SlopeOf (range_with_len 0 net.nodes)) (map FlowOn (active_from 0 sets.active)) xs
        ∙ ap (λ (n : ℕ). dot f (map SlopeOf (range_with_len 0 net.nodes)) (take n xs) +ℚ dot f (map FlowOn (active_from 0 sets.active)) (drop n xs)) slope_unknowns
        ∙ ap (λ (s : ℚ). s +ℚ dot f (map FlowOn (active_from 0 sets.active)) (drop net.nodes xs)) (dot-map f SlopeOf (range_with_len 0 net.nodes) (take net.nodes xs))
        ∙ ap (λ (s : ℚ). dot (λ v. f (SlopeOf v)) (range_with_len 0 net.nodes) (take net.nodes xs) +ℚ s) (dot-map f FlowOn (active_from 0 sets.active) (drop net.nodes xs))

    slope_alone : (w : ℕ) (c : ℚ) → w < net.nodes → dot (only w c) (range_with_len 0 net.nodes) (take net.nodes xs) ≡ c *ℚ number_at slopes w
    slope_alone w c h = range-only net.nodes 0 w w c (take net.nodes xs) (omega arith) h slopes-length

    flow_alone : (e : ℕ) (c : ℚ) → dot (only e c) (active_from 0 sets.active) (drop net.nodes xs) ≡ c *ℚ number_at flows e
    flow_alone e c = active-only sets.active 0 e e c (drop net.nodes xs) (omega arith) flows-length

    no_slopes : dot (λ (v : ℕ). 0ℚ) (range_with_len 0 net.nodes) (take net.nodes xs) ≡ 0ℚ
    no_slopes = dot-zero (λ (v : ℕ). 0ℚ) (λ v. refl) (range_with_len 0 net.nodes) (take net.nodes xs)

    no_flows : dot (λ (e : ℕ). 0ℚ) (active_from 0 sets.active) (drop net.nodes xs) ≡ 0ℚ
    no_flows = dot-zero (λ (e : ℕ). 0ℚ) (λ e. refl) (active_from 0 sets.active) (drop net.nodes xs)

    pub source_total : total (source_factor net.source) ≡ number_at slopes net.source
    source_total = in_parts (source_factor net.source) ∙ first_and_zero _ _ _ (slope_alone net.source 1ℚ good.source ∙ one-*ℚ (number_at slopes net.source)) no_flows

    pub node_total : (v : ℕ) → total (node_factor net v) ≡ surplus net flows v
    node_total v = in_parts (node_factor net v) ∙ first_is_zero _ _ no_slopes
        ∙ node-dot net.links sets.active 0 (λ e. node_factor net v (FlowOn e)) (drop net.nodes xs) v sets_are.count flows-length
        (λ i e same. ap (λ (j : ℕ). node_factor net v (FlowOn j)) (let s : e ≡ i = omega arith in s))

    module _ (e : ℕ) (link : Link) (is_link : IsLink net e link) where
      head_in : link.head < net.nodes
      head_in = good.heads e link is_link

      pub tight_total : total (link_factor e link (Some Tight)) ≡ number_at slopes link.head -ℚ number_at slopes link.tail
      tight_total = in_parts (link_factor e link (Some Tight)) ∙ first_and_zero _ _ _
          (dot-less (λ v. link_factor e link (Some Tight) (SlopeOf v)) (only link.head 1ℚ) (only link.tail 1ℚ) (λ v. refl) (range_with_len 0 net.nodes) (take net.nodes xs)
          ∙ ap (λ (s : ℚ). s -ℚ dot (only link.tail 1ℚ) (range_with_len 0 net.nodes) (take net.nodes xs)) (slope_alone link.head 1ℚ head_in)
          ∙ ap (λ (s : ℚ). 1ℚ *ℚ number_at slopes link.head -ℚ s) (slope_alone link.tail 1ℚ (good.tails e link is_link))
          ∙ both_once (number_at slopes link.head) (number_at slopes link.tail)) no_flows

      pub fills_total : total (fills_factor e link) ≡ neg_ℚ (unwrap_or link.capacity 0ℚ) *ℚ number_at slopes link.head +ℚ number_at flows e
      fills_total = in_parts (fills_factor e link)
          ∙ ap (λ (s : ℚ). s +ℚ dot (λ f. fills_factor e link (FlowOn f)) (active_from 0 sets.active) (drop net.nodes xs))
          (slope_alone link.head (neg_ℚ (unwrap_or link.capacity 0ℚ)) head_in)
          ∙ ap (λ (s : ℚ). neg_ℚ (unwrap_or link.capacity 0ℚ) *ℚ number_at slopes link.head +ℚ s) (flow_alone e 1ℚ ∙ one-*ℚ (number_at flows e))

      pub zero_total : total (link_factor e link (Some Zero)) ≡ number_at flows e
      zero_total = in_parts (link_factor e link (Some Zero)) ∙ first_is_zero _ _ no_slopes ∙ flow_alone e 1ℚ ∙ one-*ℚ (number_at flows e)
