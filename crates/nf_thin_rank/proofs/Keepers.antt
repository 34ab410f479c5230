-- Keepers of nodes, and the combinable states of links by them.
use Rattle.std.proofs.Common.{◌≡◌, ◌≢◌, ◌⊎◌, inl, inr, ℕ, ◌+◌, ◌<◌, Bool, true, false, not, List, length, replicate, refl, sym, ap, subst, ◌∙◌, arith}
use Rattle.std.proofs.Common.{Option, Some, None, slice_get, slice_set, map, is_some, is_none}
use Rattle.nf_thin_rank.proofs.Common.{true≢false, get_or_from_slice_get, none-some, same_Some, slice_get_within, State, Tight, Full, Hop, IsHop, Link}
use Rattle.nf_thin_rank.proofs.Common.{Network, hop_of, hops, Sets, Pattern, HasState, IsPattern, IsListedIn, rank, entry, slice_get-image, IsKeeper}
use Rattle.nf_thin_rank.proofs.Common.{EachEntry, Firm, HaveFirm, MayKeep, AreKeepers, IsFirmOf, AreFirmBy, AreSetsOf, hops_length}
use Rattle.std.proofs.lemmas.List.{get_or-replicate, length-map, length-replicate}
use Rattle.nf_model.specs.Entries.{Has}
use Rattle.nf_thin_laws.proofs.Ending.{from_map}
use Rattle.nf_rational_laws.proofs.Naturals.{before_or_at}
use Rattle.nf_thin_guess.proofs.Changing.{still_pattern}

-- no link
pub none_kept : (net : Network) (sets : Sets) (listed : Pattern) (count : ℕ) (keepers : List (Option ℕ)) → keepers ≡ replicate {A = Option ℕ} count None → count ≡ net.nodes
    → AreKeepers net sets listed 0 keepers
none_kept net sets listed count keepers is same = record {
  count = ap (λ (l : List (Option ℕ)). length l) is ∙ (counted ∙ same);
  keeps = λ v e at. absurd (none-some e (alike v (Some e) (sym (ap (λ (l : List (Option ℕ)). slice_get l v) is) ∙ at)));
  there = λ v e less may none. omega arith;
}
  where
    counted : length (replicate {A = Option ℕ} count None) ≡ count
    counted = length-replicate count None

    alike : (v : ℕ) (keeper : Option ℕ) → slice_get (replicate {A = Option ℕ} count None) v ≡ Some keeper → None ≡ keeper
    alike v keeper at =
        let within = slice_get_within (replicate {A = Option ℕ} count None) v keeper at in
        let n = counted in
        sym (get_or-replicate count v None None (omega arith)) ∙ get_or_from_slice_get (replicate {A = Option ℕ} count None) v keeper None at

-- one link more
module _ (net : Network) (sets : Sets) (listed : Pattern) (n node : ℕ) (old new : List (Option ℕ)) (resets leads : Bool) (state : Option State) (hop : Hop)
    (is_hop : IsHop (hops net) n hop) (head : hop.head ≡ node)
    (flag : slice_get sets.resetting n ≡ Some resets) (at : slice_get listed n ≡ Some state) (so : leads ≡ true → (state ≡ Some Tight) ⊎ (state ≡ Some Full))
    (back : (state ≡ Some Tight) ⊎ (state ≡ Some Full) → leads ≡ true) (are : AreKeepers net sets listed n old) (count : length new ≡ length old)
    (keeps : (v e : ℕ) → slice_get new v ≡ Some (Some e) → (slice_get old v ≡ Some (Some e)) ⊎ ((v ≡ node) × (e ≡ n) × ((resets ≡ true) ⊎ (leads ≡ true))))
    (there : (v : ℕ) → slice_get new v ≡ Some None → slice_get old v ≡ Some None) (kept : slice_get new node ≡ Some None → (resets ≡ true) ⊎ (leads ≡ true) → ⊥) where
  has : (s : State) → state ≡ Some s → HasState listed n s
  has s is = at ∙ ap (λ (x : Option State). Some x) is

  here : (resets ≡ true) ⊎ (leads ≡ true) → MayKeep net sets listed n node
  here (inl r) = (hop, is_hop, head, inl (flag ∙ ap (λ (x : Bool). Some x) r))
  here (inr l) = (hop, is_hop, head, inr (by (so l)))
    where
      by : (state ≡ Some Tight) ⊎ (state ≡ Some Full) → HasState listed n Tight ⊎ HasState listed n Full
      by (inl t) = inl (has Tight t)
      by (inr f) = inr (has Full f)

  is_state : (s : State) → HasState listed n s → state ≡ Some s
  is_state s h = same_Some state (Some s) (sym at ∙ h)

  why : Has sets.resetting n ⊎ (HasState listed n Tight ⊎ HasState listed n Full) → (resets ≡ true) ⊎ (leads ≡ true)
  why (inl r) = inl (same_Some resets true (sym flag ∙ r))
  why (inr (inl t)) = inr (back (inl (is_state Tight t)))
  why (inr (inr f)) = inr (back (inr (is_state Full f)))

  keeps_by : (v e : ℕ) → (slice_get old v ≡ Some (Some e)) ⊎ ((v ≡ node) × (e ≡ n) × ((resets ≡ true) ⊎ (leads ≡ true))) → MayKeep net sets listed e v
  keeps_by v e (inl before) = are.keeps v e before
  keeps_by v e (inr w) = subst (λ (x : ℕ). MayKeep net sets listed x v) (sym w.1) (subst (λ (x : ℕ). MayKeep net sets listed n x) (sym w.0) (here w.2))

  none_here : (v : ℕ) → slice_get new v ≡ Some None → MayKeep net sets listed n v → ⊥
  none_here v none may =
      let same : may.0 ≡ hop = same_Some may.0 hop (sym may.1 ∙ is_hop) in
      let at_node : v ≡ node = sym may.2 ∙ (ap (λ (x : Hop). x.head) same ∙ head) in
      kept (ap (slice_get new) (sym at_node) ∙ none) (why may.3)

  there_by : (v e : ℕ) → (e < n) ⊎ (e ≡ n) → MayKeep net sets listed e v → slice_get new v ≡ Some None → ⊥
  there_by v e (inl less) may none = are.there v e less may (there v none)
  there_by v e (inr same) may none = none_here v none (subst (λ (x : ℕ). MayKeep net sets listed x v) same may)

  pub one_more : AreKeepers net sets listed (n + 1) new
  one_more = record {
    count = count ∙ are.count;
    keeps = λ v e h. keeps_by v e (keeps v e h);
    there = λ v e less may none. there_by v e (before_or_at e n less) may none;
  }

-- The combinable states of a link.
pub none_some : {A : Type 0} (o p : Option A) (b : Bool) → o ≡ p → is_some o ≡ b → b ≡ true → is_none p ≡ true → ⊥
none_some None p b same is set none = true≢false (sym set ∙ sym is)
none_some (Some x) p b same is set none = true≢false (sym none ∙ ap is_none (sym same))

-- With a keeper for each node, the states are freely combinable.
module _ (net : Network) (sets : Sets) (listed : Pattern) (sets_are : AreSetsOf net sets) (is_listed : IsListedIn net sets listed) (keepers : List (Option ℕ)) (firm : List Firm)
    (are : AreKeepers net sets listed (length net.links) keepers) (count : length firm ≡ length net.links) (each : EachEntry (IsFirmOf net listed keepers) firm) where
  counts : (g : Firm → Bool) → length (map g firm) ≡ length sets.active
  counts g = length-map firm g ∙ (count ∙ sym sets_are.sets_are.count)

  keeper : (v e : ℕ) → slice_get keepers v ≡ Some (Some e) → (hop : Hop) → IsHop (hops net) e hop → hop.head ≡ v
      → Has sets.resetting e ⊎ (HasState listed e Tight ⊎ HasState listed e Full)
      → IsKeeper sets (map (λ f. f.zero) firm) e
  keeper v e at hop is_hop head (inl r) = inl r
  keeper v e at hop is_hop head (inr w) =
      inr (needs w, λ h. let f = from_map (λ (f : Firm). f.zero) firm e true h in (each e f.0 f.1).zero hop is_hop (ap (slice_get keepers) head ∙ at) f.2)
    where
      needs : HasState listed e Tight ⊎ HasState listed e Full → Has sets.active e × (Has sets.resetting e → ⊥)
      needs (inl t) = (is_listed.states.states e).1 (Tight, t)
      needs (inr f) = (is_listed.states.states e).1 (Full, f)

  kept : (v : ℕ) → v < net.nodes → v ≢ net.source → (e : ℕ) × (hop : Hop) × IsHop (hops net) e hop × (hop.head ≡ v) × IsKeeper sets (map (λ f. f.zero) firm) e
  kept v less other =
      let w = is_listed.entered v less other in
      let o = entry keepers v (let c = are.count in omega arith) in
      go o.0 o.1 w.0 (let l = slice_get_within (hops net) w.0 w.1 w.2 in let c = hops_length net in omega arith) (w.1, w.2, w.3, w.4)
    where
      go : (o : Option ℕ) → slice_get keepers v ≡ Some o → (e : ℕ) → e < length net.links → MayKeep net sets listed e v
          → (e : ℕ) × (hop : Hop) × IsHop (hops net) e hop × (hop.head ≡ v) × IsKeeper sets (map (λ f. f.zero) firm) e
      go None at e within may = absurd (are.there v e within may at)
      go (Some k) at e within may = let w = are.keeps v k at in (k, w.0, w.1, w.2, keeper v k at w.0 w.1 w.2 w.3)

  pub have_firm : HaveFirm net sets listed firm
  have_firm = record {
    tight_count = counts (λ (f : Firm). f.tight);
    full_count = counts (λ (f : Firm). f.full);
    zero_count = counts (λ (f : Firm). f.zero);
    tight_there = λ e h. let f = from_map (λ (f : Firm). f.tight) firm e true h in (each e f.0 f.1).tight f.2;
    bounded = λ e h. let f = from_map (λ (f : Firm). f.full) firm e true h in (each e f.0 f.1).full f.2;
    kept = kept;
  }

-- The combinable states of one link, which may only be Zero if it is `out`.
abbrev pub IsFirmBy : Network → Pattern → List (Option ℕ) → ℕ → ℕ → Firm → Type 0
IsFirmBy net listed keepers out e f = IsFirmOf net listed keepers e f × (e ≡ out → (f.tight ≡ true → ⊥) × (f.full ≡ true → ⊥))

pub firm_by : (net : Network) (sets : Sets) (listed : Pattern) (keepers : List (Option ℕ)) (out : ℕ) (firm : List Firm) → AreSetsOf net sets → IsListedIn net sets listed
    → AreKeepers net sets listed (length net.links) keepers → length firm ≡ length net.links → EachEntry (IsFirmBy net listed keepers out) firm
    → AreFirmBy net sets listed keepers out firm
firm_by net sets listed keepers out firm sets_are is_listed are count each = record {
  have = have_firm net sets listed sets_are is_listed keepers firm are count (λ k f at. (each k f at).0);
  count = count;
  kept = λ v e f at at_f set. let w = are.keeps v e at in (each e f at_f).0.zero w.0 w.1 (ap (slice_get keepers) w.2 ∙ at) set;
  only = λ less.
      let f = entry firm out (omega arith) in
      let w = (each out f.0 f.1).1 refl in (f.0, f.1, w.0, w.1);
}

-- The combinable states of one link.
module _ (net : Network) (listed : Pattern) (keepers : List (Option ℕ)) (e : ℕ) (link : Link) (at_link : slice_get net.links e ≡ Some link) (head : ℕ) (head_is : link.head ≡ head)
    (state : Option State) (at : slice_get listed e ≡ Some state) (tight full keeper : Bool) (is_tight : tight ≡ true → state ≡ Some Tight)
    (is_full : full ≡ true → is_none link.capacity ≡ true → ⊥) (is_keeper : slice_get keepers head ≡ Some (Some e) → keeper ≡ true) where
  no_keeper : (b : Bool) → b ≡ true → not b ≡ true → ⊥
  no_keeper b on off = true≢false (sym off ∙ ap not on)

  pub firm_of : IsFirmOf net listed keepers e (record { tight = tight; full = full; zero = not keeper })
  firm_of = record {
    tight = λ h. at ∙ ap (λ (x : Option State). Some x) (is_tight h);
    full = λ h u. is_full h (same_Some (is_none link.capacity) true (sym (slice_get-image (λ (l : Link). is_none l.capacity) net.links e link at_link) ∙ u));
    zero = λ hop is_hop at_keeper off. no_keeper keeper
        (is_keeper (ap (slice_get keepers) (sym head_is ∙ ap (λ (h : Hop). h.head)
        (same_Some (hop_of link) hop (sym (slice_get-image hop_of net.links e link at_link) ∙ is_hop))) ∙ at_keeper)) off;
  }

-- A link with a state may become Tight.
pub still_so : (sets : Sets) (flags : List Bool) (pattern : Pattern) (e : ℕ) (old : Option State) → IsPattern sets flags pattern → slice_get pattern e ≡ Some old → is_none old ≡ false
    → IsPattern sets flags (slice_set pattern e (Some Tight))
still_so sets flags pattern e None is at some = absurd (true≢false some)
still_so sets flags pattern e (Some old) is at some =
    still_pattern sets flags pattern is e old Tight at (λ full. absurd (let h = ap rank (ap (λ (s : State). Some s) full) in omega arith))

-- A Tight or Full link into a node may keep it.
pub may_keep_by : (net : Network) (sets : Sets) (listed : Pattern) (e node : ℕ) (link : Link) (state : Option State) → slice_get net.links e ≡ Some link
    → link.head ≡ node → slice_get listed e ≡ Some state
    → (state ≡ Some Tight) ⊎ (state ≡ Some Full) → MayKeep net sets listed e node
may_keep_by net sets listed e node link state at head at_state so = (hop_of link, slice_get-image hop_of net.links e link at, head, inr (by so))
  where
    by : (state ≡ Some Tight) ⊎ (state ≡ Some Full) → HasState listed e Tight ⊎ HasState listed e Full
    by (inl t) = inl (at_state ∙ ap (λ (x : Option State). Some x) t)
    by (inr f) = inr (at_state ∙ ap (λ (x : Option State). Some x) f)

pub some_state : (o : Option State) → is_some o ≡ true → (s : State) × (o ≡ Some s)
some_state None h = absurd (true≢false (sym h))
some_state (Some s) h = (s, refl)
