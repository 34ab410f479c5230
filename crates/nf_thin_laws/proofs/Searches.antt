-- A search has one answer.
use Rattle.std.proofs.Common.{◌≡◌, ℕ, ◌<◌, ◌≤◌, List, refl, sym, ap, ◌∙◌, subst, arith, inl, inr, Result, Err}
use Rattle.nf_thin_laws.proofs.Common.{IsOk-not_Err, cases_lt, ℚ, Passing, PassedAt, Network, hops, unbounded, Sets, Pattern, Solves, pattern_lists}
use Rattle.nf_thin_laws.proofs.Common.{HasPlace, SearchAnswer, Found, OverBudget, PassesAt, NoPattern, IsFirstAccepted, IsOverBudget, IsInVain}
use Rattle.nf_thin_laws.proofs.Common.{IsFirstPassing, NonePasses, Answers, IsSearch}
use Rattle.nf_thin_laws.proofs.Listings.{same_pattern, one_listing}

-- Two ranks are equal if neither is less.
same_place : (p q : ℕ) → (p < q → ⊥) → (q < p → ⊥) → p ≡ q
same_place p q not_before not_after = elim (cases_lt p q) [ inl h ↦ absurd (not_before h) | inr h ↦ at h ]
  where
    at : q ≤ p → p ≡ q
    at h = elim (cases_lt q p) [ inl k ↦ absurd (not_after k) | inr k ↦ omega arith ]

module _ (passes : Passing) (net : Network) (sets : Sets) (rate : ℚ) (listing : List Pattern) where
  module _ (budget : ℕ) where
    same_found : (p q : ℕ) (a b : Pattern) (f g k l : List ℚ) → IsFirstAccepted passes net sets rate listing budget p a f k
        → IsFirstAccepted passes net sets rate listing budget q b g l → Found p a f k ≡ Found q b g l
    same_found p q a b f g k l h i =
        let place : p ≡ q = same_place p q (λ lt. i.first p a lt h.has_place h.accepted) (λ lt. h.first q b lt i.has_place i.accepted) in
        let pattern : a ≡ b = same_pattern listing q a b (subst (λ (r : ℕ). HasPlace listing r a) place h.has_place) i.has_place in
        let there : Solves net sets rate b f k = subst (λ (c : Pattern). Solves net sets rate c f k) pattern h.solution.solves in
        let flows : f ≡ g = (i.solution.only f k there).0 in
        let slopes : k ≡ l = (i.solution.only f k there).1 in
        cc

    in_vain_not_found : (q : ℕ) (b : Pattern) (g l : List ℚ) → IsInVain passes net sets rate listing budget → IsFirstAccepted passes net sets rate listing budget q b g l → ⊥
    in_vain_not_found q b g l h i = h.none_accepted q b i.has_place i.accepted

    over_not_found : (q : ℕ) (b : Pattern) (g l : List ℚ) → IsOverBudget passes net sets rate listing budget → IsFirstAccepted passes net sets rate listing budget q b g l → ⊥
    over_not_found q b g l h i = let within = i.within in h.none_accepted q b (omega arith) i.has_place i.accepted

    over_not_in_vain : IsOverBudget passes net sets rate listing budget → IsInVain passes net sets rate listing budget → ⊥
    over_not_in_vain h i = let longer = h.longer in let not_longer = i.not_longer in omega arith

  same_passing : (p q : ℕ) (a b : PassedAt ℚ) → IsFirstPassing passes net sets rate listing p a → IsFirstPassing passes net sets rate listing q b → PassesAt p a ≡ PassesAt q b
  same_passing p q a b h i =
      let place : p ≡ q = same_place p q (λ lt. IsOk-not_Err (pattern_lists passes net sets rate h.pattern) a (i.first p h.pattern lt h.has_place) h.passed)
      (λ lt. IsOk-not_Err (pattern_lists passes net sets rate i.pattern) b (h.first q i.pattern lt i.has_place) i.passed) in
      let pattern : h.pattern ≡ i.pattern = same_pattern listing q h.pattern i.pattern (subst (λ (r : ℕ). HasPlace listing r h.pattern) place h.has_place) i.has_place in
      let there : ◌≡◌ {A = Result _ _} (Err a) (Err b) = sym h.passed ∙ (ap (pattern_lists passes net sets rate) pattern ∙ i.passed) in
      cc

  none_not_passing : (q : ℕ) (b : PassedAt ℚ) → NonePasses passes net sets rate listing → IsFirstPassing passes net sets rate listing q b → ⊥
  none_not_passing q b h i = IsOk-not_Err (pattern_lists passes net sets rate i.pattern) b (h q i.pattern i.has_place) i.passed

  same_answer : (budget : ℕ) (a b : SearchAnswer) → Answers passes net sets rate listing budget a → Answers passes net sets rate listing budget b → a ≡ b
  same_answer budget (Found p a f k) (Found q b g l) h i = same_found budget p q a b f g k l h i
  same_answer budget (Found p a f k) OverBudget h i = absurd (over_not_found budget p a f k i h)
  same_answer budget (Found p a f k) (PassesAt q b) h i = absurd (in_vain_not_found budget p a f k i.0 h)
  same_answer budget (Found p a f k) NoPattern h i = absurd (in_vain_not_found budget p a f k i.0 h)
  same_answer budget OverBudget (Found q b g l) h i = absurd (over_not_found budget q b g l h i)
  same_answer budget OverBudget OverBudget h i = refl
  same_answer budget OverBudget (PassesAt q b) h i = absurd (over_not_in_vain budget h i.0)
  same_answer budget OverBudget NoPattern h i = absurd (over_not_in_vain budget h i.0)
  same_answer budget (PassesAt p a) (Found q b g l) h i = absurd (in_vain_not_found budget q b g l h.0 i)
  same_answer budget (PassesAt p a) OverBudget h i = absurd (over_not_in_vain budget i h.0)
  same_answer budget (PassesAt p a) (PassesAt q b) h i = same_passing p q a b h.1 i.1
  same_answer budget (PassesAt p a) NoPattern h i = absurd (none_not_passing p a i.1 h.1)
  same_answer budget NoPattern (Found q b g l) h i = absurd (in_vain_not_found budget q b g l h.0 i)
  same_answer budget NoPattern OverBudget h i = absurd (over_not_in_vain budget i h.0)
  same_answer budget NoPattern (PassesAt q b) h i = absurd (none_not_passing q b h.1 i.1)
  same_answer budget NoPattern NoPattern h i = refl

pub one_answer : (passes : Passing) (net : Network) (sets : Sets) (rate : ℚ) (base : Pattern) (budget : ℕ) (a b : SearchAnswer)
    → IsSearch passes net sets rate base budget a → IsSearch passes net sets rate base budget b → a ≡ b
one_answer passes net sets rate base budget a b h i =
    let listings : h.listing ≡ i.listing = one_listing net.nodes net.source (hops net) sets (unbounded net) base h.listing i.listing h.is_listing i.is_listing in
    same_answer passes net sets rate i.listing budget a b (subst (λ (l : List Pattern). Answers passes net sets rate l budget a) listings h.answers) i.answers
