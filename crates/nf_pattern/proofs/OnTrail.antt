-- What a trail decides: its pattern is listed, or no pattern with the same first links is.
use Rattle.std.proofs.Common.{◌≡◌, ◌≢◌, ℕ, zero, suc, ◌+◌, ◌^◌, ◌<◌, ◌≤◌, ◌⊎◌, ⊎_elim, Bool, true, false, List, length, take, Some, sym, ap, subst, ◌∙◌}
use Rattle.std.proofs.Common.{arith, slice_get, get_or, Result, Ok, Err, IfOk}
use Rattle.nf_pattern.proofs.Common.{slice_get-get_or, slice_get_within, take-take, Hop, Pattern, Trail, Closes, IsEntered, EnteredBefore, AreEnds, IsLost}
use Rattle.nf_pattern.proofs.Common.{Strands, Follows, IsLeftBy, IsTrailOf, IsOnWay, AreStated, StatedLinks, IsAssignment, Question, IsQuestion, IsListedBy}
use Rattle.nf_pattern.proofs.Common.{IsBarren}
use Rattle.nf_pattern.proofs.Choosing.{assigned_length}
use Rattle.nf_pattern.proofs.Seeking.{valid}
use Rattle.nf_pattern.proofs.Forests.{is_forest, closing_below}
use Rattle.nf_pattern.proofs.Holding.{holds_same, clear_same}
use Rattle.nf_pattern.proofs.Calming.{calm_same}
use Rattle.nf_pattern.proofs.Barren.{may_carry_too, barren_cycle, barren_stranded, barren_lost, listed_by}

-- ---- a pattern with the same states on the trail
module _ (hops : List Hop) (resetting : List Bool) (p r : Pattern) where
  entered_too : (m n v : ℕ) → m ≤ n → take n r ≡ take n p → EnteredBefore hops resetting p m v → EnteredBefore hops resetting r m v
  entered_too m n v few same (e, less, by) = (e, less, (by.0, by.1, by.2, may_carry_too resetting r p n e (omega arith) (sym same) by.3))

  pub follows_same : (source : ℕ) (trail : Trail) → take trail.depth r ≡ take trail.depth p → Follows source hops resetting p trail → Follows source hops resetting r trail
  follows_same source trail same follows = record {
    depth = follows.depth;
    tight = holds_same hops p r trail.depth same trail.tight.last.items trail.tight.tails.items trail.tight.heads.items follows.tight;
    clear = clear_same hops p r trail.depth same follows.clear;
    calm = calm_same hops p r trail.depth trail.firm same follows.calm;
    chain = follows.chain;
    count_chain = follows.count_chain;
    count_ends = follows.count_ends;
    entered = λ v n apart at some few. entered_too n trail.depth v few same (follows.entered v n apart at some few);
    last = follows.last;
  }

-- The trail is extended along the same pattern.
pub gone_on : (question : Question) (p : Pattern) (before after : Trail) → IsTrailOf question p before
    → Follows question.source question.hops question.sets.resetting p after → IsOnWay before after → IsTrailOf question p after
gone_on question p before after is follows way = record {
  follows = follows;
  nodes = way.nodes ∙ is.nodes;
  ends = subst (λ (x : List ℕ). AreEnds question.hops question.sets.resetting question.base x) (sym (ap (λ (x : _). x.items) way.ends)) is.ends;
  lost =
      subst (λ (b : Bool). IsLost question.source after.ends.items b) (sym way.lost)
      (subst (λ (x : List ℕ). IsLost question.source x before.lost) (sym (ap (λ (x : _). x.items) way.ends)) is.lost);
}

take_fewer : (n link : ℕ) (r p : Pattern) → n ≤ link → take link r ≡ take link p → take n r ≡ take n p
take_fewer n link r p few same = sym (take-take n link r few) ∙ (ap (take n) same ∙ take-take n link p few)

-- The trail is shortened to where another pattern has the same states.
pub come_back : (question : Question) (p r : Pattern) (link : ℕ) (before after : Trail) → IsTrailOf question p before
    → Follows question.source question.hops question.sets.resetting p after → IsOnWay before after → after.depth ≤ link → take link r ≡ take link p → IsTrailOf question r after
come_back question p r link before after is follows way few same =
    let on = gone_on question p before after is follows way in
    record {
      follows = follows_same question.hops question.sets.resetting p r question.source after (take_fewer after.depth link r p few same) follows;
      nodes = on.nodes;
      ends = on.ends;
      lost = on.lost;
    }

module _ (question : Question) (is : IsQuestion question) (p : Pattern) (trail : Trail) (here : IsTrailOf question p trail) where
  -- Each node can be entered, and all links are examined.
  entered_all : trail.lost ≡ false → trail.depth ≡ length question.hops → (v : ℕ) → v < question.nodes → v ≢ question.source → IsEntered question.hops question.sets.resetting p v
  entered_all kept whole v below apart =
      let within : v < length trail.ends.items = (let a = here.follows.count_ends in let b = here.nodes in omega arith) in
      let at = slice_get-get_or trail.ends.items v 0 within in
      let none : slice_get trail.ends.items v ≡ Some 0 → ⊥ = subst (λ (b : Bool). IsLost question.source trail.ends.items b) kept here.lost v apart in
      go (get_or trail.ends.items v 0) at none
    where
      go : (n : ℕ) → slice_get trail.ends.items v ≡ Some n → (slice_get trail.ends.items v ≡ Some 0 → ⊥) → IsEntered question.hops question.sets.resetting p v
      go zero at none = absurd (none at)
      go (suc e) at none =
          let last = here.follows.last v e at in
          let l = slice_get_within question.hops e last.0 last.1 in
          let way = here.follows.entered v (suc e) apart at (omega arith) (omega arith) in
          (way.0, way.2.0, way.2.1, way.2.2, way.2.3)

  pub listed_on : IsAssignment question.base question.unbounded p → trail.lost ≡ false → trail.depth ≡ length question.hops → IsListedBy question p
  listed_on assigned kept whole = listed_by question is p assigned
      (is_forest question.hops p (λ e closes. here.follows.clear e (let l = closing_below question.hops p e closes in omega arith) closes))
      (entered_all kept whole)

  fewer : (n : ℕ) → n ≤ length question.hops → n ≤ length question.base
  fewer n few = let a = is.base.count in let b = is.active in omega arith

  pub barren_on : trail.depth < length question.hops → Strands question.source question.hops question.sets.resetting p trail.ends.items trail.depth ⊎ Closes question.hops p trail.depth
      → (trail.depth + 1 ≤ length question.base) × IsBarren question (trail.depth + 1) p
  barren_on less fails = (
    fewer (trail.depth + 1) (omega arith),
    ⊎_elim
        (λ (s : Strands question.source question.hops question.sets.resetting p trail.ends.items trail.depth). barren_stranded question is p trail.ends.items here.ends trail.depth s)
        (λ (c : Closes question.hops p trail.depth). barren_cycle question is p trail.depth c) fails,
  )

  pub barren_from_start : trail.lost ≡ true → (0 ≤ length question.base) × IsBarren question 0 p
  barren_from_start lost =
      let w : (v : ℕ) × (v ≢ question.source) × (slice_get trail.ends.items v ≡ Some 0) = subst (λ (b : Bool). IsLost question.source trail.ends.items b) lost here.lost in (
        omega arith,
        barren_lost question is p trail.ends.items here.ends w.0 (let l = slice_get_within trail.ends.items w.0 0 w.2 in let a = here.follows.count_ends in
            let b = here.nodes in omega arith) w.1 w.2,
      )

-- ---- the components of a question
module _ (q seen : Question) (same : q ≡ seen) (hops : List Hop) (resetting : List Bool) (is_hops : hops ≡ q.hops) (is_resetting : resetting ≡ q.sets.resetting) where
  pub follows_seen : (p : Pattern) (trail : Trail) → Follows q.source hops resetting p trail → Follows seen.source seen.hops seen.sets.resetting p trail
  follows_seen p trail follows = subst (λ (x : Question). Follows x.source x.hops x.sets.resetting p trail) same
      (subst (λ (x : List Hop). Follows q.source x q.sets.resetting p trail) is_hops (subst (λ (x : List Bool). Follows q.source hops x p trail) is_resetting follows))

  pub follows_given : (p : Pattern) (trail : Trail) → Follows seen.source seen.hops seen.sets.resetting p trail → Follows q.source hops resetting p trail
  follows_given p trail follows = subst (λ (x : List Bool). Follows q.source hops x p trail) (sym is_resetting)
      (subst (λ (x : List Hop). Follows q.source x q.sets.resetting p trail) (sym is_hops)
      (subst (λ (x : Question). Follows x.source x.hops x.sets.resetting p trail) (sym same) follows))

  pub fails_seen : (p : Pattern) (ends : List ℕ) (e : ℕ) → (e < length hops) × (Strands q.source hops resetting p ends e ⊎ Closes hops p e)
      → (e < length seen.hops) × (Strands seen.source seen.hops seen.sets.resetting p ends e ⊎ Closes seen.hops p e)
  fails_seen p ends e fails = subst (λ (x : Question). (e < length x.hops) × (Strands x.source x.hops x.sets.resetting p ends e ⊎ Closes x.hops p e)) same
      (subst (λ (x : List Hop). (e < length x) × (Strands q.source x q.sets.resetting p ends e ⊎ Closes x p e)) is_hops
      (subst (λ (x : List Bool). (e < length hops) × (Strands q.source hops x p ends e ⊎ Closes hops p e)) is_resetting fails))

  pub trail_seen : {E : Type 0} (base : Pattern) → base ≡ q.base → (result : Result Trail E) → IfOk result (λ trail. (p : Pattern) → Follows q.source hops resetting p trail)
      → IfOk result (λ trail. length trail.tight.last.items ≡ q.nodes) → IfOk result (λ trail. AreEnds hops resetting base trail.ends.items)
      → IfOk result (λ trail. IsLost q.source trail.ends.items trail.lost) → IfOk result (λ trail. IsTrailOf seen seen.base trail)
  trail_seen base is_base (Err fault) follows nodes ends lost = tt
  trail_seen base is_base (Ok trail) follows nodes ends lost = subst (λ (x : Question). IsTrailOf x x.base trail) same (record {
    follows = subst (λ (x : List Hop). Follows q.source x q.sets.resetting q.base trail) is_hops
        (subst (λ (x : List Bool). Follows q.source hops x q.base trail) is_resetting (follows q.base));
    nodes = nodes;
    ends = subst (λ (x : List Hop). AreEnds x q.sets.resetting q.base trail.ends.items) is_hops
        (subst (λ (x : List Bool). AreEnds hops x q.base trail.ends.items) is_resetting (subst (λ (x : Pattern). AreEnds hops resetting x trail.ends.items) is_base ends));
    lost = lost;
  })

  pub all_seen : length hops ≡ length seen.hops
  all_seen = ap length (is_hops ∙ ap (λ (x : Question). x.hops) same)

-- A trail along the hops is a trail of the question.
module _ (q seen : Question) (same : q ≡ seen) (hops : List Hop) (is_hops : hops ≡ q.hops) where
  seen_hops : hops ≡ seen.hops
  seen_hops = is_hops ∙ ap (λ (x : Question). x.hops) same

  pub follows_on : (before after : Trail) (p : Pattern) → ((source : ℕ) (resetting : List Bool) → Follows source hops resetting p before → Follows source hops resetting p after)
      → Follows seen.source seen.hops seen.sets.resetting p before → Follows seen.source seen.hops seen.sets.resetting p after
  follows_on before after p kept follows =
      subst (λ (x : List Hop). Follows seen.source x seen.sets.resetting p after) seen_hops
      (kept seen.source seen.sets.resetting (subst (λ (x : List Hop). Follows seen.source x seen.sets.resetting p before) (sym seen_hops) follows))

  pub left_seen : (stated : StatedLinks) (p : Pattern) (trail : Trail) → AreStated p stated → Follows seen.source seen.hops seen.sets.resetting p trail → IsLeftBy hops stated trail
  left_seen stated p trail is follows =
      (seen.source, seen.sets.resetting, p, is, subst (λ (x : List Hop). Follows seen.source x seen.sets.resetting p trail) (sym seen_hops) follows)

pub count_links : (question : Question) → IsQuestion question → (p : Pattern) → IsAssignment question.base question.unbounded p → length p ≡ length question.hops
count_links question is p assigned = assigned_length question.base question.unbounded p assigned ∙ (is.base.count ∙ is.active)

-- ---- from assignment to assignment
module _ (q seen : Question) (same : q ≡ seen) (is : IsQuestion q) where
  pub valid_base : (base : Pattern) (us : List Bool) → base ≡ q.base → us ≡ q.unbounded → IsAssignment base us base
  valid_base base us e f = subst (λ (x : Pattern). IsAssignment x us x) (sym e) (subst (λ (x : List Bool). IsAssignment q.base x q.base) (sym f) (valid q is))

  pub unbounded_base : (base : Pattern) (us : List Bool) → base ≡ q.base → us ≡ q.unbounded → length us ≡ length base
  unbounded_base base us e f = ap length f ∙ (is.unbounded ∙ sym (ap length e ∙ (is.base.count ∙ is.active)))

  pub few_base : (base : Pattern) → base ≡ q.base → length base < 2 ^ 32
  few_base base e = subst (λ (n : ℕ). n < 2 ^ 32) (sym (ap length e ∙ (is.base.count ∙ is.active))) is.fewer

  pub count_base : (p : Pattern) → IsAssignment seen.base seen.unbounded p → (base : Pattern) → base ≡ q.base → length p ≡ length base
  count_base p assigned base e = assigned_length seen.base seen.unbounded p assigned ∙ ap length (sym (e ∙ ap (λ (x : Question). x.base) same))
