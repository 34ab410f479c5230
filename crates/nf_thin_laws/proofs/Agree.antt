-- Phase sequences agree.
use Rattle.std.proofs.Common.{◌≡◌, ℕ, ◌<◌, List, [], ◌∷◌, length, sym, ap, subst, refl, ◌∙◌}
use Rattle.nf_thin_laws.proofs.Common.{ℚ, 0ℚ, ◌+ℚ◌, Network, IsNetwork, hops, rate_at, slacks_of, sets_at, AreStartLabels, moved, IsPhaseLength, IsPhase}
use Rattle.nf_thin_laws.proofs.Common.{PhasesFrom, IsPhaseSequence, same_entries}
use mathlib.Core.Path.{ap₂}
use Rattle.nf_model_laws.proofs.OneValue.{IsLeastTransit-unique, IsPhaseLength-unique}
use Rattle.nf_thin_laws.proofs.ActiveLinks.{HoldNoCycle-sets_at}
use Rattle.nf_thin_laws.proofs.Slopes.{slopes-unique}

pub AreStartLabels-unique : (net : Network) (labels others : List ℚ) → AreStartLabels net labels → AreStartLabels net others → labels ≡ others
AreStartLabels-unique net labels others p q = same_entries 0ℚ labels others (p.count ∙ sym q.count)
    (λ v h. let k : v < net.nodes = subst (λ (n : ℕ). v < n) p.count h in IsLeastTransit-unique (hops net) net.source v _ _ (p.each v k) (q.each v k))

module _ (net : Network) (horizon : ℚ) (good : IsNetwork net) where
  -- A phase has only one vector of slopes, so only one length and one end.
  pub IsPhase-unique : (old new other : ℚ × List ℚ) → IsPhase net horizon old new → IsPhase net horizon old other → new ≡ other
  IsPhase-unique old new other p q =
      let s : p.slopes ≡ q.slopes = slopes-unique net (sets_at net old.1) (rate_at net old.0) good (HoldNoCycle-sets_at net old.1 good) p.flows p.slopes q.flows q.slopes p.thin q.thin in
      let l : p.length ≡ q.length = IsPhaseLength-unique net (slacks_of (hops net) old.1) q.slopes old.0 horizon p.length q.length
      (subst (λ (z : List ℚ). IsPhaseLength net (slacks_of (hops net) old.1) z old.0 horizon p.length) s p.is_length) q.is_length in
      λ i. ((p.time ∙ ap (λ (z : ℚ). old.0 +ℚ z) l ∙ sym q.time) i, (p.labels ∙ ap₂ (λ (z : List ℚ) (t : ℚ). moved old.1 z t) s l ∙ sym q.labels) i)

  pub PhasesFrom-agree : (old : ℚ × List ℚ) (ps qs : List (ℚ × List ℚ)) → PhasesFrom net horizon old ps → PhasesFrom net horizon old qs → length ps ≡ length qs → ps ≡ qs
  PhasesFrom-agree old [] [] p q h = refl
  PhasesFrom-agree old [] (y ∷ qs) p q h = absurd (cc)
  PhasesFrom-agree old (x ∷ ps) [] p q h = absurd (cc)
  PhasesFrom-agree old (x ∷ ps) (y ∷ qs) p q h =
      let e : x ≡ y = IsPhase-unique old x y p.0 q.0 in
      ap₂ ◌∷◌ e (PhasesFrom-agree y ps qs (subst (λ (z : ℚ × List ℚ). PhasesFrom net horizon z ps) e p.1) q.1 (cc))

  start_same : (x y : ℚ × List ℚ) → x.0 ≡ 0ℚ → AreStartLabels net x.1 → y.0 ≡ 0ℚ → AreStartLabels net y.1 → x ≡ y
  start_same x y a p b q = λ i. ((a ∙ sym b) i, AreStartLabels-unique net x.1 y.1 p q i)

  pub IsPhaseSequence-agree : (ps qs : List (ℚ × List ℚ)) → IsPhaseSequence net horizon ps → IsPhaseSequence net horizon qs → length ps ≡ length qs → ps ≡ qs
  IsPhaseSequence-agree [] qs p q h = absurd p
  IsPhaseSequence-agree (x ∷ ps) [] p q h = absurd q
  IsPhaseSequence-agree (x ∷ ps) (y ∷ qs) p q h =
      let e : x ≡ y = start_same x y p.0 p.1 q.0 q.1 in
      ap₂ ◌∷◌ e (PhasesFrom-agree y ps qs (subst (λ (z : ℚ × List ℚ). PhasesFrom net horizon z ps) e p.2) q.2 (cc))
