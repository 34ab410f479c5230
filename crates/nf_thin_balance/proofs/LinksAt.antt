-- The links at each node: added link by link from the last one, and passed over where none is at the node.
use Rattle.std.proofs.Common.{◌≡◌, ◌≢◌, ℕ, zero, suc, ◌+◌, ◌<◌, ◌≤◌, List, length, replicate, ⊎_elim, sym, ap, subst, ◌∙◌, arith, Some, slice_get}
use Rattle.std.proofs.Common.{slice_set}
use Rattle.nf_thin_balance.proofs.Common.{same_Some, slice_get_within, ne_eqb, entry, Link, Network, IsLink, set_same, set_other, tell, length_set, Range}
use Rattle.nf_thin_balance.proofs.Common.{IsInRange, BoundsFirst, IsNextAt, HasLinksFrom}
use Rattle.nf_rational_laws.proofs.Naturals.{before_or_at}
use Rattle.nf_thin_balance.proofs.Conserving.{same_surplus}
use Rattle.nf_thin_balance.proofs.Balances.{replicated}

-- ---- links that are not at the node
module _ (net : Network) (ranges : List Range) (v e : ℕ) (range : Range) (so_far : BoundsFirst net ranges v e range) where
  one_passed : (n : ℕ) → n < length net.links → ((link : Link) → IsLink net n link → (link.tail ≢ v) × (link.head ≢ v)) → BoundsFirst net ranges v n range
      → BoundsFirst net ranges v (suc n) range
  one_passed n within none so flow held =
      let here = entry net.links n within in
      let apart = none here.0 here.1 in
      subst (IsInRange range) (same_surplus net flow v n here.0 here.1 (ne_eqb (here.0).tail v apart.0 ∙ sym (ne_eqb (here.0).head v apart.1))) (so flow held)

  passed_to : (n : ℕ) → e ≤ n → n ≤ length net.links → ((k : ℕ) (link : Link) → e ≤ k → k < n → IsLink net k link → (link.tail ≢ v) × (link.head ≢ v)) → BoundsFirst net ranges v n range
  passed_to zero low high none = subst (λ (k : ℕ). BoundsFirst net ranges v k range) (let s : e ≡ zero = omega arith in s) so_far
  passed_to (suc n) low high none = ⊎_elim
      (λ (less : e < suc n). one_passed n (omega arith) (λ link is. none n link (omega arith) (omega arith) is)
      (passed_to n (omega arith) (omega arith) (λ k link below above is. none k link below (omega arith) is)))
      (λ (same : e ≡ suc n). subst (λ (k : ℕ). BoundsFirst net ranges v k range) same so_far)
      (before_or_at e (suc n) (omega arith))

  pub passed : (next : ℕ) → IsNextAt net v e next → BoundsFirst net ranges v next range
  passed next is = passed_to next is.later is.within is.none

-- ---- no link yet
none_later : (net : Network) (v next : ℕ) → length net.links ≡ next → IsNextAt net v (length net.links) next
none_later net v next is = record {
  later = omega arith;
  within = omega arith;
  none = λ k link low high at. absurd (omega arith);
}

pub none_added : (net : Network) (first at_tail at_head : List ℕ) (count nodes : ℕ) → count ≡ length net.links → nodes ≡ net.nodes → length first ≡ nodes
    → first ≡ replicate nodes count → length at_tail ≡ count → length at_head ≡ count → HasLinksFrom net count first at_tail at_head
none_added net first at_tail at_head count nodes count_is nodes_is long firsts tails heads = record {
  nodes = long ∙ nodes_is;
  tails = tails ∙ count_is;
  heads = heads ∙ count_is;
  first_are = λ v i at. subst (λ (n : ℕ). IsNextAt net v n i) (sym count_is)
      (none_later net v i (sym count_is ∙ replicated nodes v count i (sym (ap (λ (l : List ℕ). slice_get l v) firsts) ∙ at)));
  tail_are = λ k i link low is at. absurd (past k link low is);
  head_are = λ k i link low is at. absurd (past k link low is);
}
  where
    past : (k : ℕ) (link : Link) → count ≤ k → IsLink net k link → ⊥
    past k link low is = let b : k < length net.links = slice_get_within net.links k link is in omega arith

-- ---- one link more
next_here : (net : Network) (v e next : ℕ) → e < length net.links → e ≡ next → IsNextAt net v e next
next_here net v e next within is = record {
  later = omega arith;
  within = omega arith;
  none = λ k link low high at. absurd (omega arith);
}

pub next_after : (net : Network) (v e next : ℕ) → e < length net.links → next ≡ e + 1 → IsNextAt net v (suc e) next
next_after net v e next within is = record {
  later = omega arith;
  within = omega arith;
  none = λ k link low high at. absurd (omega arith);
}

module _ (net : Network) (e : ℕ) (link : Link) (is_link : IsLink net e link) (within : e < length net.links) (first at_tail at_head : List ℕ)
    (later : HasLinksFrom net (suc e) first at_tail at_head) (t h : ℕ) (tail_is : link.tail ≡ t) (head_is : link.head ≡ h) where
  still_next : (v next : ℕ) → v ≢ t → v ≢ h → IsNextAt net v (suc e) next → IsNextAt net v e next
  still_next v next not_tail not_head is = record {
    later = let l = is.later in omega arith;
    within = is.within;
    none = λ k other low high at. ⊎_elim
        (λ (less : e < k). is.none k other (omega arith) high at)
        (λ (same : e ≡ k). (let l : link ≡ other = same_Some link other (sym is_link ∙ (ap (slice_get net.links) same ∙ at)) in (
          λ (b : other.tail ≡ v). not_tail (sym b ∙ (ap (λ (o : Link). o.tail) (sym l) ∙ tail_is)),
          λ (b : other.head ≡ v). not_head (sym b ∙ (ap (λ (o : Link). o.head) (sym l) ∙ head_is)),
        )))
        (before_or_at e k (omega arith));
  }

  -- one number of a list is set
  number_set : (numbers after : List ℕ) (x : ℕ) (Holds : ℕ → Link → ℕ → Type 0) → after ≡ slice_set numbers e x → e < length numbers → Holds e link x
      → ((k i : ℕ) (other : Link) → suc e ≤ k → IsLink net k other → slice_get numbers k ≡ Some i → Holds k other i)
      → (k i : ℕ) (other : Link) → e ≤ k → IsLink net k other → slice_get after k ≡ Some i → Holds k other i
  number_set numbers after x Holds set below here others k i other low is at = ⊎_elim
      (λ (same : k ≡ e).
      let o : link ≡ other = same_Some link other (sym is_link ∙ (ap (slice_get net.links) (sym same) ∙ is)) in
      let n : x ≡ i = same_Some x i (sym (ap (λ (l : List ℕ). slice_get l e) set ∙ set_same numbers e x below) ∙ (ap (slice_get after) (sym same) ∙ at)) in
      subst (λ (m : ℕ). Holds m other i) (sym same) (subst (λ (l : Link). Holds e l i) o (subst (λ (y : ℕ). Holds e link y) n here)))
      (λ (apart : k ≢ e). others k i other (omega arith) is (sym (ap (λ (l : List ℕ). slice_get l k) set ∙ set_other numbers e k x apart) ∙ at))
      (tell k e)

  module _ (i j : ℕ) (tail_first : slice_get first t ≡ Some i) (head_first : slice_get first h ≡ Some j) (tail_below : t < length first) (head_below : h < length first)
      (tails heads once firsts : List ℕ) (tails_are : tails ≡ slice_set at_tail e i) (heads_are : heads ≡ slice_set at_head e j)
      (once_is : once ≡ slice_set first t e) (firsts_are : firsts ≡ slice_set once h e) where
    once_long : length once ≡ length first
    once_long = ap (λ (l : List ℕ). length l) once_is ∙ length_set first t e

    first_at : (v : ℕ) → v ≢ t → v ≢ h → slice_get firsts v ≡ slice_get first v
    first_at v not_tail not_head = ap (λ (l : List ℕ). slice_get l v) firsts_are
        ∙ (set_other once h v e not_head ∙ (ap (λ (l : List ℕ). slice_get l v) once_is ∙ set_other first t v e not_tail))

    at_own : (v : ℕ) → v ≡ t → v ≢ h → slice_get firsts v ≡ Some e
    at_own v own not_head = ap (λ (l : List ℕ). slice_get l v) firsts_are ∙ (set_other once h v e not_head ∙ (ap (λ (l : List ℕ). slice_get l v) once_is
        ∙ (ap (slice_get (slice_set first t e)) own ∙ set_same first t e tail_below)))

    at_last : (v : ℕ) → v ≡ h → slice_get firsts v ≡ Some e
    at_last v last = ap (λ (l : List ℕ). slice_get l v) firsts_are ∙ (ap (slice_get (slice_set once h e)) last ∙ set_same once h e (let l = once_long in omega arith))

    firsts_next : (v n : ℕ) → slice_get firsts v ≡ Some n → IsNextAt net v e n
    firsts_next v n at = ⊎_elim
        (λ (last : v ≡ h). next_here net v e n within (same_Some e n (sym (at_last v last) ∙ at)))
        (λ (not_head : v ≢ h). ⊎_elim
        (λ (own : v ≡ t). next_here net v e n within (same_Some e n (sym (at_own v own not_head) ∙ at)))
        (λ (not_tail : v ≢ t). still_next v n not_tail not_head (later.first_are v n (sym (first_at v not_tail not_head) ∙ at)))
        (tell v t))
        (tell v h)

    pub one_added : HasLinksFrom net e firsts tails heads
    one_added = record {
      nodes = ap (λ (l : List ℕ). length l) firsts_are ∙ (length_set once h e ∙ (once_long ∙ later.nodes));
      tails = ap (λ (l : List ℕ). length l) tails_are ∙ (length_set at_tail e i ∙ later.tails);
      heads = ap (λ (l : List ℕ). length l) heads_are ∙ (length_set at_head e j ∙ later.heads);
      first_are = firsts_next;
      tail_are = number_set at_tail tails i (λ (k : ℕ) (other : Link) (n : ℕ). IsNextAt net other.tail (suc k) n) tails_are (let l = later.tails in omega arith)
          (subst (λ (v : ℕ). IsNextAt net v (suc e) i) (sym tail_is) (later.first_are t i tail_first)) later.tail_are;
      head_are = number_set at_head heads j (λ (k : ℕ) (other : Link) (n : ℕ). IsNextAt net other.head (suc k) n) heads_are (let l = later.heads in omega arith)
          (subst (λ (v : ℕ). IsNextAt net v (suc e) j) (sym head_is) (later.first_are h j head_first)) later.head_are;
    }
