-- The first listed pattern from an assignment on, found by advancing over assignments that are not listed.
use Rattle.std.proofs.Common.{◌≡◌, ℕ, ◌<◌, ◌≤◌, Bool, List, length, take, take_all, inl, inr, ◌⊎◌, ⊎_elim, Some, None, refl, sym, ap, subst, ◌∙◌, arith}
use Rattle.std.proofs.Common.{MatchBool, true, false}
use Rattle.nf_pattern.proofs.Common.{Pattern, IsBefore, IsBefore-asymmetric, IsBefore-transitive, none_before, IsAssignment, Spares, next_assignment}
use Rattle.nf_pattern.proofs.Common.{Question, IsQuestion, IsListedBy, IsBarren, IsFrom, IsFirstFrom, NoneFrom, Last, AtStart, UpTo, IsNext, NoneLeft}
use Rattle.nf_pattern.proofs.Common.{Given, next_place, Start, Listed, End, Quiet, Trail, IsTrailOf, IsStanding, last_of, AreSpared, Hop}
use Rattle.nf_pattern.specs.Advancing.{Advances, NoneAdvances}
use Rattle.nf_pattern.specs.declared.question.Stand.{Stand}
use Rattle.nf_pattern.proofs.Choosing.{assigned_length, assignment_of}
use Rattle.nf_pattern.proofs.Sparing.{spared_by}
use Rattle.nf_pattern.proofs.Successors.{changes_few}
use Rattle.nf_pattern.proofs.InOrder.{next_is, next_none, next_least}
use Rattle.nf_pattern.proofs.Quiet.{quiet_end}
use Rattle.nf_pattern.proofs.Ranging.{before_or, left_after, fewer_left}

-- of the same values
pub same_question : (nodes source : ℕ) {hops hops' : List Hop} {active active' resetting resetting' unbounded unbounded' : List Bool} {base base' : Pattern}
    → hops ≡ hops' → active ≡ active' → resetting ≡ resetting' → unbounded ≡ unbounded' → base ≡ base'
    → ◌≡◌ {A = Question} (record { nodes = nodes; source = source; hops = hops; sets = record { active = active; resetting = resetting }; unbounded = unbounded; base = base })
    (record { nodes = nodes; source = source; hops = hops'; sets = record { active = active'; resetting = resetting' }; unbounded = unbounded'; base = base' })
same_question nodes source h a r u b = rw (h, a, r, u, b) refl

-- no listed pattern from the start on comes before p
pub record IsSought (question : Question) (start p : Pattern) : Type 0 where
  pub assigned : IsAssignment question.base question.unbounded p
  pub after : IsFrom question.base start p
  pub first : (r : Pattern) → IsListedBy question r → IsFrom question.base start r → IsBefore question.base r p → ⊥

module _ (question : Question) (is : IsQuestion question) where
  abbrev base : Pattern
  base = question.base

  abbrev us : List Bool
  us = question.unbounded

  pub base_count : length us ≡ length base
  base_count = is.unbounded ∙ (sym is.active ∙ sym is.base.count)

  pub valid : IsAssignment base us base
  valid = assignment_of question.sets us base is.base base_count base is.base

  pub listed_assigned : (r : Pattern) → IsListedBy question r → IsAssignment base us r
  listed_assigned r listed = assignment_of question.sets us base is.base base_count r listed.states

  same_length : (p r : Pattern) → IsAssignment base us p → IsAssignment base us r → length r ≡ length p
  same_length p r h k = assigned_length base us r k ∙ sym (assigned_length base us p h)

  itself : (p r : Pattern) → r ≡ p → IsBefore base p r → ⊥
  itself p r same before = let b : IsBefore base p p = subst (λ (x : Pattern). IsBefore base p x) same before in IsBefore-asymmetric base p p b b

  -- ---- from assignment to assignment
  pub sought_first : (start : Pattern) → IsAssignment base us start → IsSought question start start
  sought_first start h = record {
    assigned = h;
    after = inl refl;
    first = λ r listed from before. ⊎_elim
        (λ (same : r ≡ start). itself r start (sym same) before)
        (λ (later : IsBefore base start r). IsBefore-asymmetric base start r later before) from;
  }

  module _ (start p : Pattern) (sought : IsSought question start p) where
    pub sought_found : IsListedBy question p → IsFirstFrom question start p
    sought_found listed = record { listed = listed; after = sought.after; first = sought.first }

    module _ (n : ℕ) (barren : IsBarren question n p) where
      -- A listed pattern from the start on is after p, and differs from it at one of the first n links.
      later : (r : Pattern) → IsListedBy question r → IsFrom base start r → (IsBefore base p r → take n r ≡ take n p) → ⊥
      later r listed from same = ⊎_elim
          (λ (before : IsBefore base r p). sought.first r listed from before)
          (λ (w : (r ≡ p) ⊎ IsBefore base p r). ⊎_elim
          (λ (e : r ≡ p). barren r listed (ap (take n) e))
          (λ (after : IsBefore base p r). barren r listed (same after)) w)
          (before_or base r p (same_length p r sought.assigned (listed_assigned r listed)))

      pub sought_more : (q : Pattern) → Advances question n p q → IsSought question start q
      sought_more q step = record {
        assigned = step.assigned;
        after = inr (⊎_elim (λ (same : p ≡ start). subst (λ (x : Pattern). IsBefore base x q) same step.later)
            (λ (w : IsBefore base start p). IsBefore-transitive base start p q w step.later) sought.after);
        first = λ r listed from before. later r listed from (λ after. step.between r listed after before);
      }

      pub sought_none : NoneAdvances question n p → NoneFrom question start
      sought_none none r listed from = later r listed from (λ after. none r listed after)

  pub step_fewer : (n : ℕ) (p q : Pattern) → IsAssignment base us p → Advances question n p q → left_after base q < left_after base p
  step_fewer n p q h step = fewer_left base p q (sym (same_length p q h step.assigned)) (changes_few base us q step.assigned) step.later

  -- ---- by the next assignment with no flagged link raised to Zero
  pub spares_all : (sole : List Bool) → AreSpared question sole → (r : Pattern) → IsListedBy question r → Spares sole r
  spares_all sole are r listed = spared_by sole r (are.count ∙ sym (assigned_length base us r (listed_assigned r listed))) (λ e has zero. are.never r listed e has zero)

  module _ (zs : List Bool) (spares : (r : Pattern) → IsListedBy question r → Spares zs r) (n : ℕ) (p : Pattern) where
    pub advances_by : (q : Pattern) → IsAssignment base us p → next_assignment n base us zs p ≡ Some q → Advances question n p q
    advances_by q h e =
        let step = next_is n base us zs valid p q h e in
        record {
          assigned = step.0;
          later = step.1;
          between = λ r listed after before. next_least n base us zs valid p q r h e (listed_assigned r listed) (spares r listed) after before;
        }

    pub none_advances_by : next_assignment n base us zs p ≡ None → NoneAdvances question n p
    none_advances_by e r listed after = next_none n base us zs valid p r e (listed_assigned r listed) (spares r listed) after

  -- ---- after the enumerated patterns
  pub all_from_base : (r : Pattern) → IsListedBy question r → IsFrom base base r
  all_from_base r listed = ⊎_elim
      (λ (before : IsBefore base r base). absurd (none_before base r before))
      (λ (w : (r ≡ base) ⊎ IsBefore base base r). w)
      (before_or base r base (same_length base r valid (listed_assigned r listed)))

  pub next_at_start : (p : Pattern) → IsFirstFrom question base p → IsNext question AtStart p
  next_at_start p f = record { listed = f.listed; later = tt; least = λ r listed later before. f.first r listed (all_from_base r listed) before }

  pub none_at_start : NoneFrom question base → NoneLeft question AtStart
  none_at_start none r listed later = none r listed (all_from_base r listed)

  module _ (l : Pattern) (h : IsAssignment base us l) (n : ℕ) (whole : length base ≤ n) where
    same_all : (r : Pattern) → IsAssignment base us r → take n r ≡ take n l → r ≡ l
    same_all r k same =
        let a = assigned_length base us r k in let b = assigned_length base us l h in
        sym (take_all n r (omega arith)) ∙ (same ∙ take_all n l (omega arith))

    pub none_after : NoneAdvances question n l → NoneLeft question (UpTo l)
    none_after none r listed later = itself l r (same_all r (listed_assigned r listed) (none r listed later)) later

    module _ (q : Pattern) (step : Advances question n l q) where
      pub from_next : (r : Pattern) → IsListedBy question r → IsBefore base l r → IsFrom base q r
      from_next r listed later =
          let k = listed_assigned r listed in
          ⊎_elim
          (λ (before : IsBefore base r q). absurd (itself l r (same_all r k (step.between r listed later before)) later))
          (λ (w : (r ≡ q) ⊎ IsBefore base q r). w)
          (before_or base r q (same_length q r step.assigned k))

      pub next_after : (p : Pattern) → IsFirstFrom question q p → IsNext question (UpTo l) p
      next_after p f = record {
        listed = f.listed;
        later = ⊎_elim (λ (same : p ≡ q). subst (λ (x : Pattern). IsBefore base l x) (sym same) step.later)
            (λ (w : IsBefore base q p). IsBefore-transitive base l q p step.later w) f.after;
        least = λ r listed later before. f.first r listed (from_next r listed later) before;
      }

      pub none_left_after : NoneFrom question q → NoneLeft question (UpTo l)
      none_left_after none r listed later = none r listed (from_next r listed later)

  -- ---- whether one was found
  pub match_start : (start : Pattern) → start ≡ base → (p : Pattern) (found : Bool)
      → MatchBool found (IsFirstFrom question start p) (NoneFrom question start) → MatchBool found (IsNext question AtStart p) (NoneLeft question AtStart)
  match_start start same p true f = next_at_start p (subst (λ (x : Pattern). IsFirstFrom question x p) same f)
  match_start start same p false none = none_at_start (subst (λ (x : Pattern). NoneFrom question x) same none)

  pub match_after : (l q p : Pattern) (n : ℕ) (found : Bool) → IsAssignment base us l → length base ≤ n → Advances question n l q
      → MatchBool found (IsFirstFrom question q p) (NoneFrom question q)
      → MatchBool found (IsNext question (UpTo l) p) (NoneLeft question (UpTo l))
  match_after l q p n true h whole step f = next_after l h n whole q step p f
  match_after l q p n false h whole step none = none_left_after l h n whole q step none

-- ---- where a listing begins
pub standing_start : (question seen : Question) (current : Pattern) (trail : Trail) (quiet : Quiet) → question ≡ seen → IsQuestion seen
    → current ≡ seen.base → IsTrailOf question question.base trail
    → quiet.link ≡ length seen.hops → quiet.free ≡ 0 → IsStanding question Start current trail quiet
standing_start question seen current trail quiet same is at on_trail all none =
    let q : IsQuestion question = subst IsQuestion (sym same) is in
    let at_base : current ≡ question.base = at ∙ ap (λ (x : Question). x.base) (sym same) in
    record {
      placed = record {
        is_question = q;
        assigned = subst (λ (x : Pattern). IsAssignment question.base question.unbounded x) (sym at_base) (valid question q);
        on_trail = subst (λ (x : Pattern). IsTrailOf question x trail) (sym at_base) on_trail;
        is_quiet = quiet_end question.base current quiet
            (all ∙ (ap (λ (x : Question). length x.hops) (sym same) ∙ sym (q.base.count ∙ q.active))) none;
      };
      start = λ _. at_base;
    }

-- ---- one more pattern is enumerated
abbrev given_up_to : Question → Pattern → ℕ → Given
given_up_to question p place = record { question = question; last = UpTo p; place = place }

pub gives_next : (question : Question) (last : Last) (place : ℕ) (seen : Given)
    → ◌≡◌ {A = Given} (record { question = question; last = last; place = place }) seen → (p now : Pattern) (after : ℕ)
    → IsNext question last p → now ≡ p → after ≡ next_place place → (x : Pattern)
    × (IsNext seen.question seen.last x × (given_up_to question now after ≡ given_up_to seen.question x (next_place seen.place)))
gives_next question last place seen same p now after next is count = (
  p,
  (
    subst (λ (g : Given). IsNext g.question g.last p) same next,
    ap (λ (x : Pattern). given_up_to question x after) is
        ∙ (ap (λ (n : ℕ). given_up_to question p n) count ∙ ap (λ (g : Given). given_up_to g.question p (next_place g.place)) same),
  ),
)

-- The current pattern is the last enumerated one.
pub current_is : (stand : Stand) (current p : Pattern) → last_of stand current ≡ UpTo p → current ≡ p
current_is Start current p e = absurd (cc)
current_is Listed current p e = cc
current_is End current p e = absurd (cc)
