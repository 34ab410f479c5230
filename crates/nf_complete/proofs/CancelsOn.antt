-- Cycles of interior links are cancelled, one after the other.
use Rattle.std.proofs.Common.{◌≡◌, ℕ, ◌<◌, List, Bool, sym, ap, subst, refl, ◌∙◌, arith, ◌↔◌, length, Option, Some, None, Ok, Err, MatchOption}
use Rattle.nf_complete.proofs.Common.{ℚ, Passing, PassedAt, Verdict, Checked, at_part, placed, seen_passed_at, Stops, Has, Network, hops, Sets, IsThinFlow}
use Rattle.nf_complete.proofs.Common.{Pattern, IsForest, IsListedIn, IsSolution, IsInterior, IsNextCycle, IsSettledPattern, fulls_list, cancel_list}
use Rattle.nf_complete.proofs.Common.{Cancels, no_cycle, cancels, passes_at, Settles, settles, stops, AreGoodSets, IsFirstCycle, ClosesFirst}
use Rattle.nf_complete.proofs.Common.{interior_flags, set_count, fewer_set, flags_are, value_of, AreForestBelow, ClosesNext, IsThinWithFulls, GivesOneOf}
use Rattle.std.proofs.lemmas.Option.{MatchOption-at_some, MatchOption-at_none}
use Rattle.nf_rational.specs.Operations.{0ℚ}
use Rattle.nf_rational.specs.Order.{◌≤ℚ◌}
use Rattle.nf_frac_def.specs.declared.Passed.{Passed}
use Rattle.nf_frac_def.specs.declared.Halt.{Halt}
use Rattle.nf_rational_laws.proofs.Results.{same_Err}
use Rattle.nf_complete_laws.proofs.Cancelled.{IsThinFlow-cancelled, interior-before, Ended, one-ended}
use Rattle.nf_complete_laws.proofs.OneCycle.{weaker}
use Rattle.nf_complete_laws.proofs.Settled.{settles-end, IsListedIn-settled, IsSolution-settled}
use Rattle.nf_complete_cycles.proofs.Cycling.{forest-weaker}

-- ---- the first cycle of the flagged links is the next cycle, if the flags are those of interior links
module _ (net : Network) (sets : Sets) (slopes flows : List ℚ) (flags : List Bool) (are : (e : ℕ) → Has flags e ↔ IsInterior net sets slopes flows e) where
  pub next_of : (steps : List (ℕ × Bool)) → IsFirstCycle (hops net) flags steps → IsNextCycle net sets slopes flows steps
  next_of steps f = record {
    cycle = record {
      first = f.closed.first;
      rest = f.closed.rest;
      steps_are = f.closed.steps_are;
      start = f.closed.start;
      trail = weaker (hops net) (Has flags) (IsInterior net sets slopes flows) steps f.closed.start f.closed.start f.closed.trail (λ e _ h. (are e).0 h);
      differ = f.closed.differ;
    };
    last = f.closed.last;
    closes = f.closed.closes;
    highest = f.closed.highest;
    before = forest-weaker (hops net) (λ e. (e < f.closed.last) × Has flags e) (λ e. (e < f.closed.last) × IsInterior net sets slopes flows e)
        (λ e w. (w.0, (are e).1 w.1)) f.closed.before;
    lowest = f.lowest;
    grows = f.grows;
    least = f.least;
  }

  pub forest_of : IsForest (hops net) (Has flags) → IsForest (hops net) (IsInterior net sets slopes flows)
  forest_of f = forest-weaker (hops net) (Has flags) (IsInterior net sets slopes flows) (λ e i. (are e).1 i) f

  pub closes_of : (last : ℕ) (steps : List (ℕ × Bool)) → ClosesFirst (hops net) flags last steps → ClosesNext net sets slopes flows last steps
  closes_of last steps c = record {
    is_next = next_of steps c.is_first;
    before = forest-weaker (hops net) (λ e. (e < last) × Has flags e) (λ e. (e < last) × IsInterior net sets slopes flows e) (λ e w. (w.0, (are e).1 w.1)) c.before;
  }

  pub known_of : (known : ℕ) → AreForestBelow net sets slopes flows known → IsForest (hops net) (λ e. (e < known) × Has flags e)
  known_of known f = forest-weaker (hops net) (λ e. (e < known) × IsInterior net sets slopes flows e) (λ e. (e < known) × Has flags e) (λ e w. (w.0, (are e).0 w.1)) f

-- the flags of interior links
module _ (passes : Passing) (net : Network) (sets : Sets) (slopes : List ℚ) (fulls : List (Option ℚ)) (fulls_ok : fulls_list passes net sets slopes ≡ Ok fulls)
    (flows : List ℚ) (count : length flows ≡ length net.links) where
  pub interior_known : (known : ℕ) → AreForestBelow net sets slopes flows known → IsForest (hops net) (λ e. (e < known) × Has (interior_flags sets fulls flows) e)
  interior_known known f = known_of net sets slopes flows (interior_flags sets fulls flows) (flags_are passes net sets slopes fulls fulls_ok flows count) known f

  pub interior_found : {X : Type 0} (last_of : X → ℕ) (steps_of : X → List (ℕ × Bool)) (found : Option X)
      → MatchOption found (IsForest (hops net) (Has (interior_flags sets fulls flows))) (λ x. ClosesFirst (hops net) (interior_flags sets fulls flows) (last_of x) (steps_of x))
      → MatchOption found (IsForest (hops net) (IsInterior net sets slopes flows)) (λ x. ClosesNext net sets slopes flows (last_of x) (steps_of x))
  interior_found last_of steps_of (Some x) h =
      closes_of net sets slopes flows (interior_flags sets fulls flows) (flags_are passes net sets slopes fulls fulls_ok flows count) (last_of x)
      (steps_of x) h
  interior_found last_of steps_of None h = forest_of net sets slopes flows (interior_flags sets fulls flows) (flags_are passes net sets slopes fulls fulls_ok flows count) h

-- ---- an operation that passes, as an answer
pub passed_of : {A : Type 0} (list : Checked A) (p : PassedAt ℚ) → at_part Verdict list ≡ Err p → (q : Passed ℚ) × (list ≡ Err q) × (p ≡ placed Verdict q)
passed_of (Ok x) p e = absurd (cc)
passed_of {A = A} (Err q) p e = (q, refl, sym (same_Err {A = A} (placed Verdict q) p e))

pub halts_of : {A X : Type 0} (Comes : Checked (List ℚ) → Type 0) (flows_of : X → List ℚ) (list : Checked A) (halt : Halt ℚ) → ((q : Passed ℚ) → list ≡ Err q → Comes (Err q))
    → Stops (λ q. q) halt (at_part Verdict list) → GivesOneOf Comes flows_of (Err halt)
halts_of Comes flows_of list (Halt.Passed p) f said = let q = passed_of list (seen_passed_at (λ (x : ℚ). x) p) said in (q.0, f q.0 q.1, q.2)
halts_of Comes flows_of list Halt.Memory f said = tt

-- ---- as a loop sees it: it reads the flows so far
pub closes_at : {X : Type 0} (last_of : X → ℕ) (steps_of : X → List (ℕ × Bool)) (net : Network) (sets : Sets) (slopes seen flows : List ℚ)
    (found : Option X) (x : X) → seen ≡ flows → found ≡ Some x
    → MatchOption found (IsForest (hops net) (IsInterior net sets slopes seen)) (λ y. ClosesNext net sets slopes seen (last_of y) (steps_of y))
    → ClosesNext net sets slopes flows (last_of x) (steps_of x)
closes_at last_of steps_of net sets slopes seen flows found x same is h = subst (λ (f : List ℚ). ClosesNext net sets slopes f (last_of x) (steps_of x)) same
    (MatchOption-at_some (IsForest (hops net) (IsInterior net sets slopes seen)) (λ y. ClosesNext net sets slopes seen (last_of y) (steps_of y)) x is h)

pub none_at : {X : Type 0} (last_of : X → ℕ) (steps_of : X → List (ℕ × Bool)) (net : Network) (sets : Sets) (slopes seen flows : List ℚ) (found : Option X) → seen ≡ flows → found ≡ None
    → MatchOption found (IsForest (hops net) (IsInterior net sets slopes seen)) (λ y. ClosesNext net sets slopes seen (last_of y) (steps_of y))
    → IsForest (hops net) (IsInterior net sets slopes flows)
none_at last_of steps_of net sets slopes seen flows found same is h = subst (λ (f : List ℚ). IsForest (hops net) (IsInterior net sets slopes f)) same
    (MatchOption-at_none (IsForest (hops net) (IsInterior net sets slopes seen)) (λ y. ClosesNext net sets slopes seen (last_of y) (steps_of y)) is h)

pub list_at : (passes : Passing) (fulls : List (Option ℚ)) (read steps : List (ℕ × Bool)) (seen flows : List ℚ) → read ≡ steps → seen ≡ flows
    → cancel_list passes read fulls seen ≡ cancel_list passes steps fulls flows
list_at passes fulls read steps seen flows e f = ap (λ (s : List (ℕ × Bool)). cancel_list passes s fulls seen) e ∙ ap (cancel_list passes steps fulls) f

-- ---- one after the other
-- these flows are a thin flow, and the first flows have the same results
pub record CancelsOn (passes : Passing) (net : Network) (sets : Sets) (rate : ℚ) (slopes : List ℚ) (fulls : List (Option ℚ)) (first flows : List ℚ) : Type 0 where
  pub thin : IsThinFlow net sets rate flows slopes
  pub on : (result : Checked (List ℚ)) → Cancels passes net sets slopes fulls flows result → Cancels passes net sets slopes fulls first result

module _ (passes : Passing) (net : Network) (sets : Sets) (rate : ℚ) (slopes : List ℚ) (fulls : List (Option ℚ)) (first : List ℚ) where
  abbrev Comes : Checked (List ℚ) → Type 0
  Comes result = Cancels passes net sets slopes fulls first result

  abbrev On : List ℚ → Type 0
  On flows = CancelsOn passes net sets rate slopes fulls first flows

  pub cancels_first : (flows : List ℚ) → flows ≡ first → IsThinFlow net sets rate first slopes → On flows
  cancels_first flows e thin = subst On (sym e) (record { thin = thin; on = λ result c. c })

  -- before the first link there is none
  pub known_first : (flows : List ℚ) (known : ℕ) → known ≡ 0 → AreForestBelow net sets slopes flows known
  known_first flows known e first' rest v differ trail = none_below first'.0 trail.2.0
    where
      none_below : (k : ℕ) → k < known → ⊥
      none_below k h = omega arith

  pub cancels_end : (flows : List ℚ) → On flows → IsForest (hops net) (IsInterior net sets slopes flows) → Comes (Ok flows)
  cancels_end flows so forest = so.on (Ok flows) (no_cycle forest)

  module _ (flows : List ℚ) (so : On flows) (steps : List (ℕ × Bool)) (next : IsNextCycle net sets slopes flows steps) where
    pub cancels_stop : (q : Passed ℚ) → cancel_list passes steps fulls flows ≡ Err q → Comes (Err q)
    cancels_stop q e = so.on (Err q) (passes_at steps next e)

    module _ (good : AreGoodSets net sets) (fulls_ok : fulls_list passes net sets slopes ≡ Ok fulls) (new : List ℚ) (ok : cancel_list passes steps fulls flows ≡ Ok new) where
      pub cancels_more : On new
      cancels_more = record {
        thin = IsThinFlow-cancelled passes net sets rate flows slopes good.network good.acyclic so.thin fulls fulls_ok steps next.cycle new ok;
        on = λ result c. so.on result (cancels steps next ok c);
      }

      -- the interior links before `last` stay a forest after the cycle is cancelled
      pub known_on : (known : ℕ) → AreForestBelow net sets slopes flows known → AreForestBelow net sets slopes new known
      known_on known f = forest-weaker (hops net) (λ e. (e < known) × IsInterior net sets slopes flows e) (λ e. (e < known) × IsInterior net sets slopes new e)
          (λ e w. (w.0, interior-before passes net sets rate flows slopes good.network good.acyclic so.thin fulls fulls_ok steps next.cycle new ok e w.1)) f

      pub fewer_interior : set_count (interior_flags sets fulls new) < set_count (interior_flags sets fulls flows)
      fewer_interior =
          let ended : Ended passes net sets rate flows slopes good.network good.acyclic so.thin fulls fulls_ok steps next.cycle new ok =
          one-ended passes net sets rate flows slopes good.network good.acyclic so.thin fulls fulls_ok steps next.cycle new ok in
          fewer_set (interior_flags sets fulls new) (interior_flags sets fulls flows)
          (λ e h. (flags_are passes net sets slopes fulls fulls_ok flows so.thin.flow_count e).1
          (interior-before passes net sets rate flows slopes good.network good.acyclic so.thin fulls fulls_ok steps next.cycle new ok e
          ((flags_are passes net sets slopes fulls fulls_ok new cancels_more.thin.flow_count e).0 h)))
          ended.0 ((flags_are passes net sets slopes fulls fulls_ok flows so.thin.flow_count ended.0).1 ended.1)
          (λ h. ended.2 ((flags_are passes net sets slopes fulls fulls_ok new cancels_more.thin.flow_count ended.0).0 h))

-- ---- the flows that fill the links
module _ (passes : Passing) (net : Network) (sets : Sets) (slopes flows : List ℚ) where
  pub settles_stop : (q : Passed ℚ) → fulls_list passes net sets slopes ≡ Err q → Settles passes net sets slopes flows (Err q)
  settles_stop q e = stops q e

  pub settles_on : {X : Type 0} (flows_of : X → List ℚ) (fulls : List (Option ℚ)) → fulls_list passes net sets slopes ≡ Ok fulls → (halt : Halt ℚ)
      → GivesOneOf (Cancels passes net sets slopes fulls flows) flows_of (Err halt) → {Y : Type 0} (others_of : Y → List ℚ)
      → GivesOneOf (Settles passes net sets slopes flows) others_of (Err halt)
  settles_on flows_of fulls ok (Halt.Passed p) c others_of = (c.0, settles fulls (Err c.0) ok c.1, c.2)
  settles_on flows_of fulls ok Halt.Memory c others_of = tt

-- ---- the whole: the flows that fill the links are read, and all cycles are cancelled
pub fulls_read : (passes : Passing) (net : Network) (sets : Sets) (slopes : List ℚ) (read seen : List (Option ℚ))
    → at_part Verdict (fulls_list passes net sets slopes) ≡ Ok read → seen ≡ read → fulls_list passes net sets slopes ≡ Ok seen
fulls_read passes net sets slopes read seen worked same = value_of (fulls_list passes net sets slopes) read (sym worked) ∙ ap (λ (f : List (Option ℚ)). Ok f) (sym same)

pub with_fulls : (passes : Passing) (net : Network) (sets : Sets) (rate : ℚ) (flows slopes : List ℚ) → IsThinFlow net sets rate flows slopes → (read seen : List (Option ℚ))
    → at_part Verdict (fulls_list passes net sets slopes) ≡ Ok read → seen ≡ read → IsThinWithFulls passes net sets slopes seen flows
with_fulls passes net sets rate flows slopes thin read seen worked same = record { rate = rate; thin = thin; filled = fulls_read passes net sets slopes read seen worked same }

pub record IsSettled (passes : Passing) (net : Network) (sets : Sets) (rate : ℚ) (flows slopes new : List ℚ) : Type 0 where
  pub settles_it : Settles passes net sets slopes flows (Ok new)
  pub thin : IsThinFlow net sets rate new slopes
  pub forest : IsForest (hops net) (IsInterior net sets slopes new)

pub settled_by : (passes : Passing) (net : Network) (sets : Sets) (rate : ℚ) (flows slopes : List ℚ) → AreGoodSets net sets
    → IsThinFlow net sets rate flows slopes → (read seen : List (Option ℚ))
    → at_part Verdict (fulls_list passes net sets slopes) ≡ Ok read → seen ≡ read → (new : List ℚ)
    → ((slopes : List ℚ) → IsThinWithFulls passes net sets slopes seen flows → Cancels passes net sets slopes seen flows (Ok new)) → IsSettled passes net sets rate flows slopes new
settled_by passes net sets rate flows slopes good thin read seen worked same new cancelled =
    let t = with_fulls passes net sets rate flows slopes thin read seen worked same in
    let it : Settles passes net sets slopes flows (Ok new) = settles seen (Ok new) t.filled (cancelled slopes t) in
    let end = settles-end passes net sets rate flows slopes new (Ok new) good refl thin it in
    record { settles_it = it; thin = end.0; forest = end.1 }

module _ (passes : Passing) (net : Network) (sets : Sets) (rate : ℚ) (flows slopes new : List ℚ) (good : AreGoodSets net sets) (rate_nn : 0ℚ ≤ℚ rate)
    (s : IsSettled passes net sets rate flows slopes new)
    (pattern : Pattern) (seen : List ℚ) (same : seen ≡ new) (is : IsSettledPattern net sets seen slopes pattern) where
  is_new : IsSettledPattern net sets new slopes pattern
  is_new = subst (λ (f : List ℚ). IsSettledPattern net sets f slopes pattern) same is

  pub settled_listed : IsListedIn net sets pattern
  settled_listed = IsListedIn-settled net sets rate new slopes pattern good rate_nn s.thin is_new s.forest

  pub settled_solution : IsSolution net sets rate pattern new slopes
  settled_solution = IsSolution-settled net sets rate new slopes pattern good rate_nn s.thin is_new s.forest
