-- If few assignments come before a pattern, its rank is within the budget.
use Rattle.std.proofs.Common.{◌≡◌, ⊎_elim, true, false, leb, ℕ, suc, ◌<◌, ◌≤◌, min, Bool, List, length, sym, subst, ◌∙◌, arith, nat_lt}
use Rattle.nf_thin_rank.proofs.Common.{true≢false, leb_tells, Network, IsNetwork, hops, unbounded, Sets, Pattern, IsPattern, HasPlace, AreSole, choices_of}
use Rattle.nf_thin_rank.proofs.Common.{ways_before, IsListingOf, most, AreSetsOf, question_of, hops_length, unbounded_length, below_nodes}
use Rattle.nf_thin_laws.proofs.Places.{bounded}
use Rattle.nf_thin_laws.proofs.Choosing.{listed_in}

pub from_test : (x y : ℕ) → nat_lt x y ≡ true → x < y
from_test x y told = ⊎_elim
    (λ (w : (leb (suc x) y ≡ true) × (suc x ≤ y)). let l = w.1 in omega arith)
    (λ (w : (leb (suc x) y ≡ false) × (y < suc x)). absurd (true≢false (sym told ∙ w.0)))
    (leb_tells (suc x) y)

module _ (net : Network) (sets : Sets) (base pattern : Pattern) (good : IsNetwork net) (sets_are : AreSetsOf net sets) (is_base : IsPattern sets (unbounded net) base)
    (us sole : List Bool) (us_are : us ≡ unbounded net) (count : length sole ≡ length (hops net)) (are_sole : AreSole net.source (hops net) sets sole) where
  pub early : (ways budget : ℕ) → ways ≡ min (ways_before (choices_of base us sole) base pattern) most → ways < budget → budget ≤ most
      → (listing : List Pattern) (place : ℕ) → IsListingOf (question_of net sets base) listing → HasPlace listing place pattern → place ≤ budget
  early ways budget is less small listing place listed at =
      let b = bounded net.nodes net.source (hops net) sets (unbounded net) base (choices_of base (unbounded net) sole) listing listed
      (λ q l. listed_in net.nodes net.source (hops net) sets (unbounded net) sole base q (below_nodes net good).heads sets_are.sets_are.resetting is_base
      (unbounded_length net ∙ sym sets_are.sets_are.count) (count ∙ (hops_length net ∙ sym sets_are.sets_are.count)) are_sole l) is_base.count place pattern at in
      let w : ways ≡ min (ways_before (choices_of base (unbounded net) sole) base pattern) most =
      subst (λ (flags : List Bool). ways ≡ min (ways_before (choices_of base flags sole) base pattern) most) us_are is in
      omega arith
