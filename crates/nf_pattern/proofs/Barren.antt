-- Prefixes without listed completion: the states of the first links rule out every listed pattern.
use Rattle.std.proofs.Common.{◌≡◌, ◌≢◌, ℕ, suc, ◌+◌, ◌<◌, Bool, List, take, Some, inl, inr, sym, ◌∙◌, arith, slice_get}
use Rattle.nf_pattern.proofs.Common.{slice_get_within, Tight, Full, Hop, IsHop, Pattern, HasState, IsForest, TightBefore, Closes, MayCarry, CanCarry}
use Rattle.nf_pattern.proofs.Common.{IsEntered, AreEnds, Strands, IsAssignment, Question, IsQuestion, IsListedBy, IsBarren}
use Rattle.nf_pattern.proofs.Forests.{no_forest}
use Rattle.nf_pattern.proofs.Trails.{trail_by}
use Rattle.nf_pattern.proofs.Choosing.{pattern_of, same_front_at}

-- A cycle among the first links is there in each pattern with the same first states.
pub closes_same : (hops : List Hop) (p r : Pattern) (n e : ℕ) → e < n → take n r ≡ take n p → Closes hops p e → Closes hops r e
closes_same hops p r n e less same closes = (
  same_front_at n e r p less same ∙ closes.0,
  record {
    hop = closes.1.hop;
    is_hop = closes.1.is_hop;
    joined = (
      closes.1.joined.0,
      trail_by hops (TightBefore p e) (TightBefore r e) closes.1.joined.0 closes.1.hop.head closes.1.hop.tail
          (λ k c t. (t.0, same_front_at n k r p (let l = t.0 in omega arith) same ∙ t.1)) closes.1.joined.1,
    );
  },
)

-- a link that may carry flow does so in each pattern that has the same state there
pub may_carry_too : (resetting : List Bool) (p other : Pattern) (n e : ℕ) → e < n → take n other ≡ take n p → MayCarry resetting other e → MayCarry resetting p e
may_carry_too resetting p other n e less same (inl resets) = inl resets
may_carry_too resetting p other n e less same (inr (inl tight)) = inr (inl (sym (same_front_at n e other p less same) ∙ tight))
may_carry_too resetting p other n e less same (inr (inr full)) = inr (inr (sym (same_front_at n e other p less same) ∙ full))

module _ (question : Question) (is : IsQuestion question) (p : Pattern) where
  pub barren_cycle : (e : ℕ) → Closes question.hops p e → IsBarren question (e + 1) p
  barren_cycle e closes other listed same = no_forest question.hops other e (closes_same question.hops p other (e + 1) e (omega arith) same closes) listed.forest

  -- A link that may carry flow in a listed pattern can carry flow by the base.
  carries : (other : Pattern) (e : ℕ) → IsListedBy question other → MayCarry question.sets.resetting other e → CanCarry question.sets.resetting question.base e
  carries other e listed (inl resetting) = inl resetting
  carries other e listed (inr (inl tight)) = inr ((is.base.states e).0 ((listed.states.states e).1 (Tight, tight)))
  carries other e listed (inr (inr full)) = inr ((is.base.states e).0 ((listed.states.states e).1 (Full, full)))

  module _ (ends : List ℕ) (are : AreEnds question.hops question.sets.resetting question.base ends) where
    -- A node that a listed pattern enters, by a link before the last possible one.
    enters : (other : Pattern) (v n : ℕ) → IsListedBy question other → v < question.nodes → v ≢ question.source → slice_get ends v ≡ Some n
        → (e : ℕ) × (hop : Hop) × IsHop question.hops e hop × (hop.head ≡ v) × MayCarry question.sets.resetting other e × (e < n)
    enters other v n listed below apart at =
        let way = listed.entered v below apart in (
          way.0,
          way.1,
          way.2,
          way.3,
          way.4,
          (are v n at).all way.0 way.1 (slice_get_within question.hops way.0 way.1 way.2) way.2 way.3 (carries other way.0 listed way.4),
        )

    pub barren_stranded : (e : ℕ) → Strands question.source question.hops question.sets.resetting p ends e → IsBarren question (e + 1) p
    barren_stranded e strands other listed same =
        let w = enters other strands.hop.head (suc e) listed (is.ends.heads e strands.hop strands.is_hop) strands.other strands.last in
        strands.unentered (w.0, w.5, (w.1, w.2, w.3, may_carry_too question.sets.resetting p other (e + 1) w.0 (let l = w.5 in omega arith) same w.4))

    pub barren_lost : (v : ℕ) → v < question.nodes → v ≢ question.source → slice_get ends v ≡ Some 0 → IsBarren question 0 p
    barren_lost v below apart at other listed same = let w = enters other v 0 listed below apart at in let l = w.5 in omega arith

  pub listed_by : IsAssignment question.base question.unbounded p → IsForest question.hops (λ e. HasState p e Tight)
      → ((v : ℕ) → v < question.nodes → v ≢ question.source → IsEntered question.hops question.sets.resetting p v) → IsListedBy question p
  listed_by assigned forest entered = record {
    states = pattern_of question.sets question.unbounded question.base is.base (is.unbounded ∙ (sym is.active ∙ sym is.base.count)) p assigned;
    forest = forest;
    entered = entered;
  }
