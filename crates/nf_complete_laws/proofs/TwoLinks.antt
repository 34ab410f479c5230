-- Two links from source to sink, of which one is resetting and the other unbounded.
use Rattle.std.proofs.Common.{◌≡◌, ℕ, zero, suc, ◌<◌, List, [], ◌∷◌, Some, None, sym, ap, subst, refl, ◌∙◌, arith}
use Rattle.nf_complete_laws.proofs.Common.{none-some, same_Some, ℚ, 0ℚ, 1ℚ, ◌≤ℚ◌, ◌<ℚ◌, reading_of, not_both_ℚ, linear_le, linear_lt, Has, Hop, IsHop}
use Rattle.nf_complete_laws.proofs.Common.{IsWalk, Link, IsNetwork, IsLink, hops, hop_of, slack, EachIsEntered, AreSets-sets_at, HoldNoCycle-sets_at}
use Rattle.nf_complete_laws.proofs.Common.{ResetsAreBounded, active_of_slack, resetting_of_slack, slack_of_resetting, ThinFlowExists}
use Rattle.nf_model_laws.proofs.MemberLink.{node_cases}
use Rattle.nf_complete_laws.specs.TwoLinks.{bounded_link, unbounded_link, two_links, queue_labels, queue_sets, TwoLinksHaveThinFlow}

-- A property of both links is a property of each link.
by_link : (P : ℕ → Link → Type 0) (e : ℕ) (link : Link) → IsLink two_links e link → P 0 bounded_link → P 1 unbounded_link → P e link
by_link P zero link p a b = subst (λ (l : Link). P 0 l) (same_Some bounded_link link p) a
by_link P (suc zero) link p a b = subst (λ (l : Link). P 1 l) (same_Some unbounded_link link p) b
by_link P (suc (suc e)) link p a b = absurd (none-some link p)

zero_one : {X : Type 0} → ◌≡◌ {A = ℕ} zero (suc zero) → X
zero_one e = absurd (cc)

-- Both links lead from 0 to 1.
ends_of : (e : ℕ) (hop : Hop) → IsHop (hops two_links) e hop → (0 ≡ hop.tail) × (hop.head ≡ 1)
ends_of zero hop p = let s : hop_of bounded_link ≡ hop = same_Some _ hop p in (ap (λ (h : Hop). h.tail) s, sym (ap (λ (h : Hop). h.head) s))
ends_of (suc zero) hop p = let s : hop_of unbounded_link ≡ hop = same_Some _ hop p in (ap (λ (h : Hop). h.tail) s, sym (ap (λ (h : Hop). h.head) s))
ends_of (suc (suc e)) hop p = absurd (none-some hop p)

-- no link leaves the sink
from_sink : (walk : List ℕ) (v : ℕ) → IsWalk (hops two_links) walk 1 v → 1 ≡ v
from_sink [] v w = w
from_sink (e ∷ walk) v w = zero_one ((ends_of e w.0 w.1).0 ∙ w.2)

no_cycle : (e : ℕ) (walk : List ℕ) (v : ℕ) → IsWalk (hops two_links) (e ∷ walk) v v → ⊥
no_cycle e walk v w =
    let o : (0 ≡ w.0.tail) × (w.0.head ≡ 1) = ends_of e w.0 w.1 in
    zero_one (o.0 ∙ w.2 ∙ sym (from_sink walk v (subst (λ (h : ℕ). IsWalk (hops two_links) walk h v) o.1 w.3)))

zero_one_ℚ : 0ℚ ≤ℚ 1ℚ
zero_one_ℚ = linear_le [] [] (search reading_of) tt

one_positive : 0ℚ <ℚ 1ℚ
one_positive = linear_lt [] [] (search reading_of) tt

zero_zero : 0ℚ ≤ℚ 0ℚ
zero_zero = linear_le [] [] (search reading_of) tt

IsNetwork-two_links : IsNetwork two_links
IsNetwork-two_links = record {
  source = omega arith;
  sink = omega arith;
  apart = λ e. zero_one e;
  tails = λ e link p. by_link (λ _ (l : Link). l.tail < 2) e link p (omega arith) (omega arith);
  heads = λ e link p. by_link (λ _ (l : Link). l.head < 2) e link p (omega arith) (omega arith);
  transits = λ e link p. by_link (λ _ (l : Link). 0ℚ ≤ℚ l.transit) e link p zero_zero zero_one_ℚ;
  capacities = λ e link rate p some. by_link (λ _ (l : Link). l.capacity ≡ Some rate → 0ℚ <ℚ rate) e link p
      (λ s. subst (λ (c : ℚ). 0ℚ <ℚ c) (same_Some 1ℚ rate s) one_positive) (λ s. absurd (none-some rate s)) some;
  pieces = record {
    starts = λ i piece p. absurd (none-some piece p);
    rise = λ i piece next p q. absurd (none-some piece p);
    rates = λ i piece p. absurd (none-some piece p);
  };
  cycles = λ e walk v w. absurd (no_cycle e walk v w);
  reached = λ v h. node_cases (λ (v : ℕ). (walk : List ℕ) × IsWalk (hops two_links) walk 0 v) v h ([], refl) (0 ∷ [], (hop_of bounded_link, refl, refl, refl));
}

-- ---- the slacks: 1 of the bounded link, and 0 of the other
first_slack : 0ℚ <ℚ slack queue_labels (hop_of bounded_link)
first_slack = linear_lt [] [] (search reading_of) tt

second_slack : 0ℚ ≤ℚ slack queue_labels (hop_of unbounded_link)
second_slack = linear_le [] [] (search reading_of) tt

second_not_above : slack queue_labels (hop_of unbounded_link) ≤ℚ 0ℚ
second_not_above = linear_le [] [] (search reading_of) tt

second_active : Has queue_sets.active 1
second_active = active_of_slack two_links queue_labels 1 unbounded_link refl second_slack

EachIsEntered-two_links : EachIsEntered two_links queue_sets
EachIsEntered-two_links v h other = (
  1,
  unbounded_link,
  record {
    is_link = refl;
    active = second_active;
    head =
        node_cases (λ (v : ℕ). (v ≡ 0 → ⊥) → 1 ≡ v) v h (λ o. absurd (o refl)) (λ _. refl) other;
  },
)

ResetsAreBounded-two_links : ResetsAreBounded two_links queue_sets
ResetsAreBounded-two_links e link p = by_link (λ e (l : Link). l.capacity ≡ None → Has queue_sets.resetting e → ⊥) e link p
    (λ none _. none-some 1ℚ (sym none))
    (λ none r. not_both_ℚ _ _ (slack_of_resetting two_links queue_labels 1 unbounded_link refl r) second_not_above)

pub two_links-thin : ThinFlowExists → TwoLinksHaveThinFlow
two_links-thin exists = record {
  resetting = resetting_of_slack two_links queue_labels 0 bounded_link refl first_slack;
  unbounded = second_active;
  network = IsNetwork-two_links;
  sets = AreSets-sets_at two_links queue_labels;
  acyclic = HoldNoCycle-sets_at two_links queue_labels IsNetwork-two_links;
  entered = EachIsEntered-two_links;
  bounded = ResetsAreBounded-two_links;
  thin = λ rate nn. exists two_links queue_sets rate IsNetwork-two_links (AreSets-sets_at two_links queue_labels) (HoldNoCycle-sets_at two_links queue_labels IsNetwork-two_links)
      EachIsEntered-two_links ResetsAreBounded-two_links nn;
}
