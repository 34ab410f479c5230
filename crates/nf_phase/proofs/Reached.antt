-- Facts on every reachable run state, and the preconditions of the search for the next phase.
use Rattle.std.proofs.Common.{◌≡◌, ℕ, List, length, true, sym, ap, subst, ◌∙◌, None, is_none}
use Rattle.nf_phase.proofs.Common.{length-map, length-replicate, ℚ, 0ℚ, lt_ℚ, not_both_ℚ, None_of_test, Passing, Has, Link, Network, IsNetwork, IsLink}
use Rattle.nf_phase.proofs.Common.{hop_of, hops, unbounded, slack, slacks_of, sets_at, Pattern, HasState, IsPattern, IsListedIn, IsBase, slack_of_resetting}
use Rattle.nf_phase.proofs.Common.{Standing, IsStart, Goes, from_map, NoneResetsUnbounded, AreSetsOf, WellRun, WellRun-start, WellRun-counted, WellRun-goes}
use Rattle.nf_phase.proofs.Common.{unbounded_slack_at, with_last, IsRestored, Reaches, starts, restored, goes_on, keeps_on, well_restored, last_restored}
use Rattle.nf_model.specs.declared.State.TheVariants.{Full}
use Rattle.nf_pattern.proofs.FirstPatterns.{base_is_pattern, none_full}
use Rattle.nf_thin_laws.proofs.ActiveLinks.{AreSets-sets_at}

-- The curves are those of a run, and the last pattern is a pattern of the network's links.
pub record Stands (net : Network) (s : Standing) : Type 0 where
  pub well : WellRun net s
  pub last_count : length s.last ≡ length net.links
  pub no_full : (e : ℕ) → Has (unbounded net) e → HasState s.last e Full → ⊥

Stands-start : (net : Network) (good : IsNetwork net) (s : Standing) → IsStart net s → Stands net s
Stands-start net good s h = record {
  well = WellRun-start net good s h;
  last_count = ap length h.last ∙ length-replicate (length net.links) None;
  no_full = λ e u full. none_full (length net.links) e (subst (λ (p : Pattern). HasState p e Full) h.last full);
}

-- An unbounded link by its number.
unbounded_link : (net : Network) (e : ℕ) → Has (unbounded net) e → (link : Link) × IsLink net e link × (link.capacity ≡ None)
unbounded_link net e u = let l = from_map (λ (link : Link). is_none link.capacity) net.links e true u in (l.0, l.1, None_of_test l.0.capacity l.2)

Stands-restored : (passes : Passing) (net : Network) (good : IsNetwork net) (s : Standing) → IsRestored passes net s → Stands net s
Stands-restored passes net good s r = record {
  well = well_restored passes net good s r;
  last_count = ap length (last_restored passes net good s r) ∙ r.states;
  no_full = λ e u full. (let l = unbounded_link net e u in r.no_full e l.0 l.1 l.2 (subst (λ (p : Pattern). HasState p e Full) (last_restored passes net good s r) full));
}

pub active_count : (net : Network) (labels : List ℚ) → length (sets_at net labels).active ≡ length net.links
active_count net labels = (AreSets-sets_at net labels).count

pub slacks_count : (net : Network) (labels : List ℚ) → length (slacks_of (hops net) labels) ≡ length net.links
slacks_count net labels = length-map (hops net) (slack labels) ∙ length-map net.links hop_of

module _ (passes : Passing) (net : Network) (good : IsNetwork net) where
  Stands-goes : (horizon : ℚ) (patterns : ℕ) (s t : Standing) → Goes passes net horizon patterns s t → Stands net s → Stands net t
  Stands-goes horizon patterns s t g stands =
      let first = g.finds.search.is_search.answers in
      let listed : IsListedIn net (sets_at net s.labels) g.pattern = g.finds.search.is_search.is_listing.listed g.place g.pattern first.has_place in
      record {
        well = WellRun-goes passes net good (record { horizon = horizon; phases = 0; patterns = patterns }) s t g stands.well;
        last_count = ap (λ (n : Standing). length n.last) g.new_is ∙ listed.states.count ∙ active_count net s.labels;
        no_full = λ e u full. listed.states.no_full e u (subst (λ (n : Standing). HasState n.last e Full) g.new_is full);
      }

  -- The last pattern may be that of an earlier phase.
  Stands-last : (horizon : ℚ) (patterns : ℕ) (s t : Standing) → Stands net s → Stands net t → Stands net (with_last s.last t)
  Stands-last horizon patterns s t before after = record {
    well = WellRun-counted net t t.made s.last after.well;
    last_count = before.last_count;
    no_full = before.no_full;
  }

  pub Stands-reached : (s : Standing) → Reaches passes net s → Stands net s
  Stands-reached s (starts h) = Stands-start net good s h
  Stands-reached s (restored r) = Stands-restored passes net good s r
  Stands-reached s (goes_on horizon patterns {s = before} earlier g) = Stands-goes horizon patterns before s g (Stands-reached before earlier)
  Stands-reached _ (keeps_on horizon patterns {s = before} {new = t} earlier c g) =
      let there : Stands net before = Stands-reached before earlier in
      Stands-last horizon patterns before t there (Stands-goes horizon patterns before t g there)

-- ---- the preconditions of the search
module _ (net : Network) (good : IsNetwork net) (s : Standing) (stands : Stands net s) where
  pub none_resets : NoneResetsUnbounded net (sets_at net s.labels)
  none_resets e u r =
      let l = unbounded_link net e u in
      not_both_ℚ 0ℚ (slack s.labels (hop_of l.0)) (slack_of_resetting net s.labels e l.0 l.1 r) (unbounded_slack_at net good s stands.well e l.0 l.1 l.2)

  pub sets_fit : AreSetsOf net (sets_at net s.labels)
  sets_fit = record {
    sets_are = AreSets-sets_at net s.labels;
    count = length-map (slacks_of (hops net) s.labels) (lt_ℚ 0ℚ) ∙ slacks_count net s.labels;
    bounded = none_resets;
  }

  pub base_fits : (base : Pattern) → IsBase (hops net) (sets_at net s.labels) s.last base → IsPattern (sets_at net s.labels) (unbounded net) base
  base_fits base is = base_is_pattern (hops net) (sets_at net s.labels) (unbounded net) s.last base is (stands.last_count ∙ sym (active_count net s.labels)) stands.no_full
