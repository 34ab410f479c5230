-- The remainder of an interrupted phase: the base pattern derived from the phase's pattern, its solution and its length.
use Rattle.std.proofs.Common.{◌≡◌, ℕ, List, length, subst, ◌∙◌}
use Rattle.nf_resume_laws.proofs.Common.{ℚ, 0ℚ, ◌+ℚ◌, ◌-ℚ◌, ◌*ℚ◌, ◌<ℚ◌, ≤ℚ_of_lt, number_at, Link, Network, IsNetwork, IsLink, hops, hop_of, slack}
use Rattle.nf_resume_laws.proofs.Common.{slacks_of, sets_at, Pattern, IsListedIn, IsBase, IsSolution, IsExtension, Standing, IsOpen}
use Rattle.nf_thin_laws.proofs.ActiveLinks.{AreSets-sets_at}
use Rattle.nf_resume_laws.specs.ResumeLaws.{IsPartOf, IsRestOf}
use Rattle.nf_resume_laws.proofs.CutPhase.{IsOpen-cut, IsExtension-left, stays-below, stays-above, slack-moves}
use Rattle.nf_resume_laws.proofs.Restricted.{IsSolution-restricted, IsListed-restricted}

pub rest-goes : (net : Network) (time : ℚ) (labels slopes : List ℚ) (pattern : Pattern) (done : ℚ) (s : Standing) → IsNetwork net → IsPartOf net time labels slopes pattern done s
    → (rate whole : ℚ) (flows : List ℚ) (base : Pattern) → IsListedIn net (sets_at net labels) pattern → IsSolution net (sets_at net labels) rate pattern flows slopes
    → IsExtension net (slacks_of (hops net) labels) slopes time whole → 0ℚ <ℚ done → done <ℚ whole → IsBase (hops net) (sets_at net s.labels) s.last base
    → IsRestOf net rate done whole flows slopes s base
rest-goes net time labels slopes pattern done s good part rate whole flows base listed solution extension some short is_base = record {
  listed = IsListed-restricted net good labels s.labels slopes flows rate done pattern base some moves below above listed solution count same_count based;
  solution = IsSolution-restricted net good labels s.labels slopes flows rate done pattern base some moves below above listed solution count same_count based;
  length =
      IsExtension-left net good labels slopes time done pattern part.is_pattern part.count part.not_negative s part.labels_are part.time_is part.last_is
      whole opened (≤ℚ_of_lt _ _ short) extension;
}
  where
    moves : (e : ℕ) (link : Link) → IsLink net e link → slack s.labels (hop_of link) ≡ slack labels (hop_of link) +ℚ done *ℚ (number_at slopes link.head -ℚ number_at slopes link.tail)
    moves = slack-moves net good labels slopes time done pattern part.is_pattern part.count part.not_negative s part.labels_are part.time_is part.last_is

    below : (e : ℕ) (link : Link) → IsLink net e link → slack labels (hop_of link) <ℚ 0ℚ → slack s.labels (hop_of link) <ℚ 0ℚ
    below = stays-below net good labels slopes time done pattern part.is_pattern part.count part.not_negative s part.labels_are part.time_is part.last_is whole extension.lasts short

    above : (e : ℕ) (link : Link) → IsLink net e link → 0ℚ <ℚ slack labels (hop_of link) → 0ℚ <ℚ slack s.labels (hop_of link)
    above = stays-above net good labels slopes time done pattern part.is_pattern part.count part.not_negative s part.labels_are part.time_is part.last_is whole extension.lasts short

    opened : IsOpen net s
    opened = IsOpen-cut net good labels slopes time done pattern part.is_pattern part.count part.not_negative s part.labels_are part.time_is part.last_is whole extension.lasts some short

    based : IsBase (hops net) (sets_at net s.labels) pattern base
    based = subst (λ (p : Pattern). IsBase (hops net) (sets_at net s.labels) p base) part.last_is is_base

    count : length base ≡ length net.links
    count = is_base.count ∙ (AreSets-sets_at net s.labels).count

    same_count : length pattern ≡ length net.links
    same_count = part.is_pattern.count ∙ (AreSets-sets_at net labels).count
