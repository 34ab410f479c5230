-- Labels of a network that are right link by link are the least transit sums, and conversely: crossing a hop takes just its
-- transit time.
use Rattle.std.proofs.Common.{◌≡◌, ◌≢◌, ℕ, ◌<◌, List, [], ◌∷◌, sym, ap, subst, refl, ◌∙◌}
use Rattle.nf_model_laws.proofs.Common.{ℚ, 0ℚ, ◌+ℚ◌, ◌≤ℚ◌, reading_of, ≤ℚ_of_same, le, eq, linear_le, linear_eq, zero_plus, Hop, IsHop, transit_of, transit_sum}
use Rattle.nf_model_laws.proofs.Common.{IsLeastTransit, Link, Network, IsNetwork, IsLink, hop_of, hops, AreTransitLabels}
use Rattle.nf_model_laws.proofs.Networks.{transit_of-hop, transit_of-is, hop_at, by_link}
use Rattle.nf_model_laws.proofs.EarliestWalks.{AreLabelsBy, CanCross, Comes, IsFirst, IsFirst-label, AreLabelsBy-first}
use Rattle.nf_model_laws.proofs.Earliest.{AreHops-net}

-- ---- steps over plain numbers
kept : (s t x y r : ℚ) → s ≤ℚ t → x ≡ s +ℚ r → y ≡ t +ℚ r → x ≤ℚ y
kept s t x y r h e f = linear_le (s ∷ t ∷ x ∷ y ∷ r ∷ []) (le h ∷ eq e ∷ eq f ∷ []) (search reading_of) tt

none_more : (t a : ℚ) → t ≡ a → a ≡ t +ℚ 0ℚ
none_more t a e = linear_eq (t ∷ a ∷ []) (eq e ∷ []) (search reading_of) tt tt

one_more : (t x a r l : ℚ) → x ≡ t +ℚ r → a ≡ x +ℚ l → a ≡ t +ℚ (r +ℚ l)
one_more t x a r l e f = linear_eq (t ∷ x ∷ a ∷ r ∷ l ∷ []) (eq e ∷ eq f ∷ []) (search reading_of) tt tt

from_none : (l a : ℚ) → a ≡ 0ℚ +ℚ l → l ≡ a
from_none l a e = linear_eq (l ∷ a ∷ []) (eq e ∷ []) (search reading_of) tt tt

-- ---- walks
abbrev pub Takes : List Hop → ℕ → ℚ → ℚ → Type 0
Takes hops e time exit = exit ≡ time +ℚ transit_of hops e

Comes-sum : (hops : List Hop) (walk : List ℕ) (t a : ℚ) → Comes (Takes hops) walk t a → a ≡ t +ℚ transit_sum hops walk
Comes-sum hops [] t a c = none_more t a c
Comes-sum hops (e ∷ walk) t a c = one_more t c.0 a (transit_of hops e) (transit_sum hops walk) c.1 (Comes-sum hops walk c.0 a c.2)

sum-comes : (hops : List Hop) (walk : List ℕ) (t a : ℚ) → a ≡ t +ℚ transit_sum hops walk → Comes (Takes hops) walk t a
sum-comes hops [] t a e = linear_eq (t ∷ a ∷ []) (eq e ∷ []) (search reading_of) tt tt
sum-comes hops (f ∷ walk) t a e = (t +ℚ transit_of hops f, refl, sum-comes hops walk (t +ℚ transit_of hops f) a (by_sum t a (transit_of hops f) (transit_sum hops walk) e))
  where
    by_sum : (t a r l : ℚ) → a ≡ t +ℚ (r +ℚ l) → a ≡ (t +ℚ r) +ℚ l
    by_sum t a r l e = linear_eq (t ∷ a ∷ r ∷ l ∷ []) (eq e ∷ []) (search reading_of) tt tt

IsLeastTransit-first : (hops : List Hop) (source v : ℕ) (least : ℚ) → IsFirst hops source (Takes hops) v 0ℚ least → IsLeastTransit hops source v least
IsLeastTransit-first hops source v least f = record {
  taken = (f.taken.0, f.taken.1, from_none _ _ (Comes-sum hops f.taken.0 0ℚ least f.taken.2));
  bound = λ walk w. f.least walk (transit_sum hops walk) w (sum-comes hops walk 0ℚ (transit_sum hops walk) (zero_plus _));
}

IsFirst-least : (hops : List Hop) (source v : ℕ) (least : ℚ) → IsLeastTransit hops source v least → IsFirst hops source (Takes hops) v 0ℚ least
IsFirst-least hops source v least d = record {
  taken = (d.taken.0, d.taken.1, sum-comes hops d.taken.0 0ℚ least (sym d.taken.2 ∙ zero_plus _));
  least = λ walk other w c. subst (λ (x : ℚ). least ≤ℚ x) (from_none _ _ (Comes-sum hops walk 0ℚ other c)) (d.bound walk w);
}

CanCross-takes : (hops : List Hop) → CanCross hops (Takes hops)
CanCross-takes hops = record {
  takes = λ e hop time exit p c. ≤ℚ_of_same _ _ (ap (λ (r : ℚ). time +ℚ r) (sym (transit_of-hop hops e hop p)) ∙ sym c);
  keeps = λ e hop s t x y p h c d. kept s t x y (transit_of hops e) h c d;
}

module _ (net : Network) (label : ℕ → ℚ) where
  -- the label of the tail and the transit time, as a link and as a hop have it
  same_sum : (e : ℕ) (link : Link) → IsLink net e link → label link.tail +ℚ link.transit ≡ label link.tail +ℚ transit_of (hops net) e
  same_sum e link p = ap (λ (r : ℚ). label link.tail +ℚ r) (sym (transit_of-is net e link p))

  by_hops : AreTransitLabels net label → AreLabelsBy (hops net) net.nodes net.source (Takes (hops net)) 0ℚ label
  by_hops labels = record {
    starts = labels.source;
    not_before = λ e hop p. by_link net (λ (h : Hop). h.head ≢ net.source → (exit : ℚ) × Takes (hops net) e (label h.tail) exit × (label h.head ≤ℚ exit)) e
        (λ link q other. (label link.tail +ℚ link.transit, same_sum e link q, labels.none_shorter e link q other)) hop p;
    entered = λ v h other.
        let x : (e : ℕ) × (link : Link) × IsLink net e link × (link.head ≡ v) × (label v ≡ label link.tail +ℚ link.transit) = labels.entered v h other in
        (x.0, hop_of x.1, hop_at net x.0 x.1 x.2, x.3, ap label x.3 ∙ x.4 ∙ same_sum x.0 x.1 x.2);
  }

  abbrev Entry : ℕ → Type 0
  Entry v = (e : ℕ) × (link : Link) × IsLink net e link × (link.head ≡ v) × (label v ≡ label link.tail +ℚ link.transit)

  by_entry : (v e : ℕ) (hop : Hop) → IsHop (hops net) e hop → hop.head ≡ v → Takes (hops net) e (label hop.tail) (label hop.head) → Entry v
  by_entry v e hop p = by_link net (λ (h : Hop). h.head ≡ v → Takes (hops net) e (label h.tail) (label h.head) → Entry v) e
      (λ link q at c. (e, link, q, at, sym (ap label at) ∙ c ∙ sym (same_sum e link q))) hop p

  from_hops : AreLabelsBy (hops net) net.nodes net.source (Takes (hops net)) 0ℚ label → AreTransitLabels net label
  from_hops labels = record {
    source = labels.starts;
    none_shorter = λ e link p other.
        let x : (exit : ℚ) × Takes (hops net) e (label link.tail) exit × (label link.head ≤ℚ exit) = labels.not_before e (hop_of link) (hop_at net e link p) other in
        subst (λ (y : ℚ). label link.head ≤ℚ y) (x.1 ∙ sym (same_sum e link p)) x.2;
    entered = λ v h other.
        let x : (e : ℕ) × (hop : Hop) × IsHop (hops net) e hop × (hop.head ≡ v) × Takes (hops net) e (label hop.tail) (label hop.head) = labels.entered v h other in
        by_entry v x.0 x.1 x.2 x.3 x.4;
  }

  pub IsLeastTransit-label : IsNetwork net → AreTransitLabels net label → (v : ℕ) → v < net.nodes → IsLeastTransit (hops net) net.source v (label v)
  IsLeastTransit-label good labels v h = IsLeastTransit-first (hops net) net.source v (label v)
      (IsFirst-label (hops net) net.nodes net.source (Takes (hops net)) 0ℚ label (AreHops-net net good) (CanCross-takes (hops net)) (by_hops labels) v h)

  pub AreTransitLabels-least : IsNetwork net → ((v : ℕ) → v < net.nodes → IsLeastTransit (hops net) net.source v (label v)) → AreTransitLabels net label
  AreTransitLabels-least good least = from_hops
      (AreLabelsBy-first (hops net) net.nodes net.source (Takes (hops net)) 0ℚ label (AreHops-net net good) (CanCross-takes (hops net)) good.source
      (λ e hop p _. (label hop.tail +ℚ transit_of (hops net) e, refl))
      (λ v h. IsFirst-least (hops net) net.source v (label v) (least v h)))
