-- The answer of a search by forced states.
use Rattle.std.proofs.Common.{◌≡◌, ℕ, List, sym, subst, ◌∙◌, Option, Some, None, Result, Ok, Err}
use Rattle.nf_thin.proofs.Common.{ℚ, Passing, Network, IsNetwork, unbounded, Sets, Pattern, IsPattern, IsListedIn, IsSolvable, Found, IsSearch, IsQuestion}
use Rattle.nf_thin.proofs.Common.{has_listing, IsForcing, HasForced, Narrows, left_pattern, sets_count, flags_count, forced_by, HoldNoCycle, AreThinSlopes}
use Rattle.nf_thin.proofs.Common.{question_left, ThinFlow, SearchFault, AreSetsOf, question_of, NarrowFinds, FindsBy}
use Rattle.nf_thin_laws.proofs.Answered.{answer_within, answer_beyond}
use Rattle.nf_thin_laws.proofs.BySlopes.{forcing as forced_forcing, allowed as forced_allowed}

module _ (passes : Passing) (net : Network) (sets : Sets) (rate : ℚ) (base forced : Pattern) (budget : ℕ) (forcing : IsForcing sets (unbounded net) forced)
    (allowed : (pattern : Pattern) → IsListedIn net sets pattern → IsSolvable net sets rate pattern → HasForced forced pattern)
    (is_base : IsPattern sets (unbounded net) base) (asked : IsQuestion (question_of net sets base)) where
  left_asked : IsQuestion (question_left forced (question_of net sets base))
  left_asked = record {
    ends = asked.ends;
    active = sets_count sets (unbounded net) forced forcing ∙ asked.active;
    resetting = flags_count sets (unbounded net) forced forcing ∙ asked.active;
    unbounded = asked.unbounded;
    base = left_pattern sets (unbounded net) forced forcing base is_base;
    fewer = asked.fewer;
    nodes = asked.nodes;
  }

  abbrev listing : List Pattern
  listing = (has_listing (question_of net sets base) asked).0

  abbrev narrow : List Pattern
  narrow = (has_listing (question_left forced (question_of net sets base)) left_asked).0

  narrows : Narrows net sets rate base forced listing narrow
  narrows = record {
    forcing = forcing;
    starts = is_base;
    whole = (has_listing (question_of net sets base) asked).1;
    part = (has_listing (question_left forced (question_of net sets base)) left_asked).1;
    allowed = allowed;
  }

  pub by_result : (result : Result (Option ThinFlow) SearchFault) → NarrowFinds passes net sets rate base forced budget result
      → FindsBy (IsSearch passes net sets rate base budget) budget result
  by_result (Ok (Some thin)) finds =
      let f = finds listing narrow narrows in
      let w = answer_within passes net sets rate base forced listing narrow narrows budget f.place f.part f.has_place f.accepted f.first thin.flows.items
      thin.slopes.items f.solution f.within in
      (w.0, subst (λ (p : Pattern). IsSearch passes net sets rate base budget (Found w.0 p thin.flows.items thin.slopes.items)) (sym f.pattern_is) w.1)
  by_result (Ok None) finds = tt
  by_result (Err (SearchFault.Budget tried)) finds =
      let f = finds listing narrow narrows in
      (f.0, answer_beyond passes net sets rate base forced listing narrow narrows budget f.1.place f.1.part f.1.has_place f.1.none f.1.beyond)
  by_result (Err (SearchFault.Passed place at)) finds = absurd (finds listing narrow narrows)
  by_result (Err SearchFault.NoPattern) finds = absurd (finds listing narrow narrows)
  by_result (Err SearchFault.Memory) finds = tt

-- ---- the states that slopes force
module _ (net : Network) (sets : Sets) (rate : ℚ) (base forced : Pattern) (slopes : List ℚ) (good : IsNetwork net) (sets_are : AreSetsOf net sets) (acyclic : HoldNoCycle net sets)
    (thin : AreThinSlopes net sets rate slopes) (is_base : IsPattern sets (unbounded net) base) (is : forced ≡ forced_by net slopes base) where
  pub forcing_by : IsForcing sets (unbounded net) forced
  forcing_by =
      subst (λ (f : Pattern). IsForcing sets (unbounded net) f) (sym is) (forced_forcing net sets rate base thin.0 slopes good sets_are.sets_are acyclic
      sets_are.count is_base thin.1)

  pub allowed_by : (pattern : Pattern) → IsListedIn net sets pattern → IsSolvable net sets rate pattern → HasForced forced pattern
  allowed_by pattern listed solvable =
      subst (λ (f : Pattern). HasForced f pattern) (sym is) (forced_allowed net sets rate base thin.0 slopes good sets_are.sets_are acyclic sets_are.count
      is_base thin.1 pattern listed solvable)
