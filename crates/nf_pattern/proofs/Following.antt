-- The examined prefix of a pattern, when a link is added or removed.
use Rattle.std.proofs.Common.{◌≡◌, ℕ, zero, suc, ◌<◌, Bool, List, length, ⊎_elim, Option, Some, slice_get, refl, sym, ap, subst, ◌∙◌, arith}
use Rattle.nf_pattern.proofs.Common.{Hop, Pattern, Trail, NoneCloses, IsTightStack, EnteredBefore, AreChained, AreEnds, KeepsEntered, Follows, IsOnWay}
use Rattle.nf_pattern.proofs.Common.{AreCalm, before_or_at}
use Rattle.nf_pattern.proofs.Calming.{calm_fewer}

module _ (source : ℕ) (hops : List Hop) (resetting : List Bool) (p : Pattern) where
  -- one link more
  pub entered_on : {trail after : Trail} → Follows source hops resetting p trail → trail.depth < length hops → after.depth ≡ suc trail.depth
      → IsTightStack hops p (suc trail.depth) after.tight → NoneCloses hops p (suc trail.depth) → length after.tight.last.items ≡ length trail.tight.last.items
      → after.ends.items ≡ trail.ends.items → after.chain.items ≡ trail.chain.items → KeepsEntered source hops resetting p trail.ends.items trail.depth
      → AreCalm hops p (suc trail.depth) after.firm → Follows source hops resetting p after
  entered_on {trail} {after} follows more depth tight clear nodes ends chain keeps calm = record {
    depth = let d = depth in omega arith;
    tight = subst (λ (k : ℕ). IsTightStack hops p k after.tight) (sym depth) tight;
    clear = subst (λ (k : ℕ). NoneCloses hops p k) (sym depth) clear;
    calm = subst (λ (k : ℕ). AreCalm hops p k after.firm) (sym depth) calm;
    chain = subst (AreChained hops) (sym chain) follows.chain;
    count_chain = ap (λ (cs : List (Option ℕ)). length cs) chain ∙ follows.count_chain;
    count_ends = ap (λ (es : List ℕ). length es) ends ∙ (follows.count_ends ∙ sym nodes);
    entered = λ v n other at some few.
        let before : slice_get trail.ends.items v ≡ Some n = ap (λ (es : List ℕ). slice_get es v) (sym ends) ∙ at in
        ⊎_elim
        (λ (less : n < suc trail.depth). follows.entered v n other before some (omega arith))
        (λ (same : n ≡ suc trail.depth).
        let last : slice_get trail.ends.items v ≡ Some (suc trail.depth) = before ∙ ap (λ (k : ℕ). Some k) same in
        subst (λ (k : ℕ). EnteredBefore hops resetting p k v) (sym same) (keeps v other (follows.last v trail.depth last) last))
        (before_or_at n (suc trail.depth) (omega arith));
    last = λ v e at. follows.last v e (ap (λ (es : List ℕ). slice_get es v) (sym ends) ∙ at);
  }

  -- The last link is removed.
  pub left_back : {trail after : Trail} → Follows source hops resetting p trail → trail.depth ≡ suc after.depth
      → IsTightStack hops p after.depth after.tight → length after.tight.last.items ≡ length trail.tight.last.items
      → after.ends.items ≡ trail.ends.items → after.chain.items ≡ trail.chain.items → after.firm ≡ trail.firm → Follows source hops resetting p after
  left_back {trail} {after} follows depth tight nodes ends chain firm = record {
    depth = let few = follows.depth in omega arith;
    tight = tight;
    clear = λ e less closes. follows.clear e (omega arith) closes;
    calm = subst (AreCalm hops p after.depth) (sym firm) (calm_fewer hops p trail.depth trail.firm follows.calm after.depth (omega arith));
    chain = subst (AreChained hops) (sym chain) follows.chain;
    count_chain = ap (λ (cs : List (Option ℕ)). length cs) chain ∙ follows.count_chain;
    count_ends = ap (λ (es : List ℕ). length es) ends ∙ (follows.count_ends ∙ sym nodes);
    entered = λ v n other at some few. follows.entered v n other (ap (λ (es : List ℕ). slice_get es v) (sym ends) ∙ at) some (omega arith);
    last = λ v e at. follows.last v e (ap (λ (es : List ℕ). slice_get es v) (sym ends) ∙ at);
  }

  -- The first possible exception changes, for links that are not examined.
  pub calmed : {trail after : Trail} → Follows source hops resetting p trail
      → after ≡ record { depth = trail.depth; tight = trail.tight; firm = after.firm; chain = trail.chain; ends = trail.ends; lost = trail.lost }
      → AreCalm hops p trail.depth after.firm → Follows source hops resetting p after
  calmed {trail} {after} follows same calm = subst (λ (t : Trail). Follows source hops resetting p t) (sym same) (record {
    depth = follows.depth;
    tight = follows.tight;
    clear = follows.clear;
    calm = calm;
    chain = follows.chain;
    count_chain = follows.count_chain;
    count_ends = follows.count_ends;
    entered = follows.entered;
    last = follows.last;
  })

-- ---- steps of a trail
pub way_same : (trail : Trail) → IsOnWay trail trail
way_same trail = record { nodes = refl; ends = refl; lost = refl }

pub way_on : {before now after : Trail} → IsOnWay before now → IsOnWay now after → IsOnWay before after
way_on a b = record { nodes = b.nodes ∙ a.nodes; ends = b.ends ∙ a.ends; lost = b.lost ∙ a.lost }

-- ---- no link is examined
pub follows_none : (source : ℕ) (hops : List Hop) (resetting : List Bool) (base p : Pattern) (nodes : ℕ) {trail : Trail} → trail.depth ≡ zero → IsTightStack hops p zero trail.tight
    → length trail.tight.last.items ≡ nodes → AreChained hops trail.chain.items → length trail.chain.items ≡ length hops → length trail.ends.items ≡ nodes
    → AreEnds hops resetting base trail.ends.items → AreCalm hops p zero trail.firm → Follows source hops resetting p trail
follows_none source hops resetting base p nodes {trail} depth tight count chain count_chain count_ends ends calm = record {
  depth = omega arith;
  tight = subst (λ (k : ℕ). IsTightStack hops p k trail.tight) (sym depth) tight;
  clear = λ e less closes. absurd (omega arith);
  calm = subst (λ (k : ℕ). AreCalm hops p k trail.firm) (sym depth) calm;
  chain = chain;
  count_chain = count_chain;
  count_ends = count_ends ∙ sym count;
  entered = λ v n other at some few. absurd (omega arith);
  last = λ v e at. let end = (ends v (suc e) at).last e refl in (end.0, end.1, end.2);
}
