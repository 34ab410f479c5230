-- Flags of links that no listed pattern has Zero.
use Rattle.std.proofs.Common.{◌≡◌, ◌≢◌, ℕ, suc, ◌<◌, Bool, true, false, List, [], ◌∷◌, length, inl, inr, ⊎_elim, Some, None, Option, refl, ap, sym, subst}
use Rattle.std.proofs.Common.{◌∙◌, arith, slice_get, is_some}
use Rattle.nf_pattern.proofs.Common.{slice_get_within, before_or_at, State, Tight, Full, Zero, Has, Hop, IsHop, Pattern, HasState, state_is, Spares}
use Rattle.nf_pattern.proofs.Common.{may_raise, MayCarry, CanCarry, AreEndsBefore, AreEnds, EntersAlone, AllEnterAlone, AreSpared, Question, IsQuestion}
use Rattle.nf_pattern.proofs.Common.{IsListedBy}

-- ---- no flag at all
abbrev pub unflagged : Pattern → List Bool
unflagged [] = []
unflagged (b ∷ base) = false ∷ unflagged base

may_all : (s : Option State) → may_raise false s ≡ true
may_all None = refl
may_all (Some Tight) = refl
may_all (Some Full) = refl
may_all (Some Zero) = refl

pub none_flagged : (base r : Pattern) → length r ≡ length base → Spares (unflagged base) r
none_flagged [] [] n = tt
none_flagged [] (s ∷ r) n = absurd (omega arith)
none_flagged (b ∷ base) [] n = absurd (omega arith)
none_flagged (b ∷ base) (s ∷ r) n = (may_all s, none_flagged base r (omega arith))

-- ---- link by link
may_here : (z : Bool) (s : Option State) → (z ≡ true → s ≡ Some Zero → ⊥) → may_raise z s ≡ true
may_here z None never = refl
may_here z (Some Tight) never = refl
may_here z (Some Full) never = refl
may_here true (Some Zero) never = absurd (never refl refl)
may_here false (Some Zero) never = refl

pub spared_by : (zs : List Bool) (r : Pattern) → length zs ≡ length r → ((e : ℕ) → Has zs e → HasState r e Zero → ⊥) → Spares zs r
spared_by [] [] n never = tt
spared_by [] (s ∷ r) n never = absurd (omega arith)
spared_by (z ∷ zs) [] n never = absurd (omega arith)
spared_by (z ∷ zs) (s ∷ r) n never = (
  may_here z s (λ flag zero. never 0 (ap (λ (x : Bool). Some x) flag) (ap (λ (x : Option State). Some x) zero)),
  spared_by zs r (omega arith) (λ e has zero. never (suc e) has zero),
)

-- ---- a link that alone can enter its head
module _ (question : Question) (is : IsQuestion question) (r : Pattern) (listed : IsListedBy question r) where
  can_too : (k : ℕ) → MayCarry question.sets.resetting r k → CanCarry question.sets.resetting question.base k
  can_too k (inl on) = inl on
  can_too k (inr (inl tight)) = inr ((is.base.states k).0 ((listed.states.states k).1 (Tight, tight)))
  can_too k (inr (inr full)) = inr ((is.base.states k).0 ((listed.states.states k).1 (Full, full)))

  not_zero : (e : ℕ) → EntersAlone question.source question.hops question.sets.resetting question.base e → MayCarry question.sets.resetting r e → HasState r e Zero → ⊥
  not_zero e sole (inl on) zero = let needs = (is.base.states e).1 sole.stated in needs.1 on
  not_zero e sole (inr (inl tight)) zero = let same = state_is r e Tight Zero tight zero in cc
  not_zero e sole (inr (inr full)) zero = let same = state_is r e Full Zero full zero in cc

  pub never_zero : (e : ℕ) → EntersAlone question.source question.hops question.sets.resetting question.base e → HasState r e Zero → ⊥
  never_zero e sole zero =
      let way = listed.entered sole.hop.head (is.ends.heads e sole.hop sole.is_hop) sole.other in
      let same = sole.only way.0 (way.1, way.2, way.3) (can_too way.0 way.4) in
      not_zero e sole (subst (λ (k : ℕ). MayCarry question.sets.resetting r k) same way.4) zero

pub are_spared : (question : Question) → IsQuestion question → (sole : List Bool) → length sole ≡ length question.hops
    → AllEnterAlone question.source question.hops question.sets.resetting question.base sole → AreSpared question sole
are_spared question is sole count are = record {
  count = count ∙ (sym is.active ∙ sym is.base.count);
  never = λ r listed e has zero. never_zero question is r listed e (are e has) zero;
}

-- ---- the flag of a link
stated_there : (base : Pattern) (e : ℕ) (o : Option State) → is_some o ≡ true → slice_get base e ≡ Some o → (state : State) × HasState base e state
stated_there base e None some at = absurd (cc)
stated_there base e (Some state) some at = (state, at)

pub sole_told : (hops : List Hop) (resetting : List Bool) (base : Pattern) (source e : ℕ) (hop : Hop) → IsHop hops e hop → (i : ℕ) → i ≡ hop.head
    → (o : Option State) → is_some o ≡ true → slice_get base e ≡ Some o
    → (before all : List ℕ) → i ≢ source → slice_get before i ≡ Some 0 → slice_get all i ≡ Some (suc e) → AreEndsBefore hops resetting base e before → AreEnds hops resetting base all
    → EntersAlone source hops resetting base e
sole_told hops resetting base source e hop is_hop i at o some read before all other none last before_are all_are = record {
  hop = hop;
  is_hop = is_hop;
  other = λ same. other (at ∙ same);
  stated = stated_there base e o some read;
  only = λ k leads can.
      let few = (all_are i (suc e) last).all k leads.0 (slice_get_within hops k leads.0 leads.1) leads.1 (leads.2 ∙ sym at) can in
      ⊎_elim
      (λ (less : k < e). absurd (let no = (before_are i 0 none).all k leads.0 less leads.1 (leads.2 ∙ sym at) can in omega arith))
      (λ (same : k ≡ e). same)
      (before_or_at k e (omega arith));
}
