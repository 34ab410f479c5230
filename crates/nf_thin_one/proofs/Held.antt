-- The numbers of the equations of a pattern, which a table has to hold.
use Rattle.std.proofs.Common.{◌≡◌, ℕ, ◌+◌, ◌<◌, ◌≤◌, length, Bool, true, IsTrue, slice_get, ⊎_elim, refl, sym, ap, subst, ◌∙◌, arith, Option, Some, None}
use Rattle.std.proofs.Common.{unwrap_or}
use Rattle.nf_thin_one.proofs.Common.{same_Some, slice_get_within, ℚ, 0ℚ, neg_ℚ, Link, Network, IsLink, before_or_at, HoldsCapacity, HoldsNumbers}
use Rattle.nf_frac.specs.Parts.{IsWithin}
use Rattle.nf_frac.specs.Short.{short}
use Rattle.nf_frac.proofs.Turned.{neg_within}
use Rattle.nf_linear.specs.Holding.{takes_small, small_held, small_units}
use Rattle.nf_thin_one.proofs.LinkEntries.{minus_zero}

-- what is a number that is held is one
pub held_as : (takes : ℚ → Bool) (p q : ℚ) → q ≡ p → IsTrue (takes p) → IsTrue (takes q)
held_as takes p q e h = subst (λ (r : ℚ). IsTrue (takes r)) (sym e) h

-- where all numbers are held
pub all_held : (net : Network) (rate : ℚ) → HoldsNumbers (λ (q : ℚ). true) net rate
all_held net rate = record { supply = refl; capacities = λ e link at. refl }

-- ---- small numbers

-- the capacity of a link, with the other sign
pub capacity_held : (link : Link) (capacity : ℚ) → link.capacity ≡ Some capacity → IsWithin short capacity → HoldsCapacity takes_small link
capacity_held link capacity e w = subst (λ (o : Option ℚ). IsTrue (takes_small (neg_ℚ (unwrap_or o 0ℚ)))) (sym e) (small_held (neg_ℚ capacity) (neg_within short capacity w))

pub no_capacity_held : (link : Link) → link.capacity ≡ None → HoldsCapacity takes_small link
no_capacity_held link e = subst (λ (o : Option ℚ). IsTrue (takes_small (neg_ℚ (unwrap_or o 0ℚ)))) (sym e) (held_as takes_small 0ℚ (neg_ℚ 0ℚ) (sym minus_zero) small_units.zero)

-- the capacities of the links before number e
abbrev pub HoldToLink : Network → ℕ → Type 0
HoldToLink net e = (k : ℕ) (link : Link) → k < e → IsLink net k link → HoldsCapacity takes_small link

pub none_held : (net : Network) → HoldToLink net 0
none_held net k link before at = absurd (omega arith)

pub one_more_held : (net : Network) (e : ℕ) (here : Link) → HoldToLink net e → IsLink net e here → HoldsCapacity takes_small here → HoldToLink net (e + 1)
one_more_held net e here so at held k link before there = ⊎_elim
    (λ (less : k < e). so k link less there)
    (λ (same : k ≡ e). subst (λ (l : Link). HoldsCapacity takes_small l) (same_Some here link (sym at ∙ (ap (slice_get net.links) (sym same) ∙ there))) held)
    (before_or_at k e before)

pub all_numbers_held : (net : Network) (rate : ℚ) (e : ℕ) → length net.links ≤ e → HoldToLink net e → IsWithin short rate → HoldsNumbers takes_small net rate
all_numbers_held net rate e all so w = record {
  supply = small_held rate w;
  capacities = λ k link at. let inside : k < length net.links = slice_get_within net.links k link at in so k link (omega arith) at;
}
