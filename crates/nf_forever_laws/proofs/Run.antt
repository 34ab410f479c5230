-- Runs without a horizon.
use Rattle.std.proofs.Common.{◌≡◌, ℕ, List, Bool, true, false, if◌then◌else◌, ⊎_elim, sym, subst, refl, Option, Some, None, Result, Ok, Err}
use Rattle.nf_forever_laws.proofs.Common.{ℚ, 0ℚ, ◌≤ℚ◌, ◌<ℚ◌, lt_ℚ, lt_ℚ_cases, Passing, checked, ◌>>=◌, Network, IsNetwork, hops, rate_at, slacks_of, sets_at}
use Rattle.nf_forever_laws.proofs.Common.{IsThinFlow, Pattern, IsUnending, Equilibrium, Standing, Bounds, flow_of, AreSets-sets_at, same_Ok, WellRun}
use Rattle.nf_forever_laws.proofs.Common.{WellRun-start, Tail, End, Stops, NeverEnds, forever_of, RunsForever, at_phases, fails, never_ends, goes, IsForeverRun, extended, up_to}
use Rattle.nf_forever_laws.proofs.Common.{flow_until}
use Rattle.nf_frac_def.specs.declared.Op.TheVariants.{Sum}
use Rattle.nf_frac_def.specs.declared.Passed.{Passed}
use Rattle.nf_thin_def.specs.Extend.{extend_list}
use Rattle.nf_thin_laws.proofs.Accepted.{IsThinFlow-accepted}
use Rattle.nf_phase_laws.proofs.Extension.{unending_is}
use Rattle.nf_phase_laws.proofs.Run.{HasShape-well, HasSlopes-well, Equilibrium-well, WellRun-goes}
use Rattle.nf_phase_def.specs.ToEnd.{end_after, end_list, GoesForever}
use Rattle.nf_forever_laws.proofs.Before.{Equilibrium-before}
use Rattle.nf_forever_laws.proofs.Tails.{Equilibrium-extended}

-- ---- the last flow of a run that stops or never ends
pub Equilibrium-forever_of : (net : Network) (last : Standing) (end : End) → Equilibrium net (flow_of last) → Equilibrium net (forever_of last end).flow
Equilibrium-forever_of net last (Stops cause) h = h
Equilibrium-forever_of net last (NeverEnds pattern tail) h = h

-- ---- a phase without an end has no greatest length
ok_err : {A E : Type 0} (e : E) (x : A) → ◌≡◌ {A = Result A E} (Err e) (Ok x) → ⊥
ok_err e x h = cc

some_none : {A : Type 0} (x : A) → ◌≡◌ {A = Option A} (Some x) None → ⊥
some_none x h = cc

no_end : (passes : Passing) (time length : ℚ) → end_after passes time (Some length) ≡ Ok None → ⊥
no_end passes time length h = go (checked passes Sum time length) h
  where
    go : (r : Result ℚ (Passed ℚ)) → (r >>= (λ end. Ok (Some end))) ≡ Ok None → ⊥
    go (Ok x) e = some_none x (same_Ok (Some x) None e)
    go (Err p) e = ok_err p None e

endless : (passes : Passing) (net : Network) (slacks slopes : List ℚ) (time : ℚ) → end_list passes net slacks slopes time ≡ Ok None → extend_list passes net slacks slopes time ≡ Ok None
unfolding end_list
endless passes net slacks slopes time h = go (extend_list passes net slacks slopes time) h
  where
    go : (r : Result (Option ℚ) (Passed ℚ)) → (r >>= end_after passes time) ≡ Ok None → r ≡ Ok None
    go (Ok None) e = refl
    go (Ok (Some length)) e = absurd (no_end passes time length e)
    go (Err p) e = absurd (ok_err p None e)

module _ (passes : Passing) (net : Network) (good : IsNetwork net) (phases patterns : ℕ) where
  abbrev to_end : ℚ → Bounds
  to_end end = record { horizon = end; phases = phases; patterns = patterns }

  well_on : (s last : Standing) (end : End) → WellRun net s → RunsForever passes net phases patterns s last end → WellRun net last
  well_on s last end well (at_phases e) = well
  well_on s last end well (fails may f) = well
  well_on s last end well (never_ends may t) = well
  well_on s last end well (goes {new = t} may g rest) = well_on t last end (WellRun-goes passes net good (to_end g.end) s t g.goes well) rest

  pub well_forever : (last : Standing) (end : End) → IsForeverRun passes net phases patterns last end → WellRun net last
  well_forever last end run = well_on run.first last end (WellRun-start net good run.first run.start) run.runs

  pub Equilibrium-forever : (last : Standing) (end : End) → IsForeverRun passes net phases patterns last end → Equilibrium net (flow_of last)
  Equilibrium-forever last end run = Equilibrium-well net good last (well_forever last end run)

  -- ---- the tail
  tail_on : (s last : Standing) (pattern : Pattern) (tail : Tail) (end : End) → end ≡ NeverEnds pattern tail
      → RunsForever passes net phases patterns s last end → GoesForever passes net patterns last pattern tail
  tail_on s last pattern tail _ e (at_phases h) = absurd (cc)
  tail_on s last pattern tail _ e (fails may f) = absurd (cc)
  tail_on s last pattern tail _ e (never_ends {pattern = p} {tail = t} may g) =
      subst (λ (q : Pattern). GoesForever passes net patterns s q tail) (same_pattern p pattern t tail e)
      (subst (λ (u : Tail). GoesForever passes net patterns s p u) (same_tail p pattern t tail e) g)
    where
      same_pattern : (p q : Pattern) (t u : Tail) → NeverEnds p t ≡ NeverEnds q u → p ≡ q
      same_pattern p q t u e = cc

      same_tail : (p q : Pattern) (t u : Tail) → NeverEnds p t ≡ NeverEnds q u → t ≡ u
      same_tail p q t u e = cc
  tail_on s last pattern tail end e (goes {new = t} may g rest) = tail_on t last pattern tail end e rest

  module _ (last : Standing) (pattern : Pattern) (tail : Tail) (run : IsForeverRun passes net phases patterns last (NeverEnds pattern tail)) where
    forever : GoesForever passes net patterns last pattern tail
    forever = tail_on run.first last pattern tail (NeverEnds pattern tail) refl run.runs

    well : WellRun net last
    well = well_forever last (NeverEnds pattern tail) run

    pub IsThinFlow-tail : IsThinFlow net (sets_at net last.labels) (rate_at net last.time) tail.flows tail.slopes
    IsThinFlow-tail = let first = forever.finds.is_search.answers in
        let listed = forever.finds.is_search.is_listing.listed forever.place pattern first.has_place in
        IsThinFlow-accepted net (sets_at net last.labels) (rate_at net last.time) pattern tail.flows tail.slopes good
        (AreSets-sets_at net last.labels) listed.states listed.entered first.solution.solves first.solution.meets

    pub IsUnending-tail : IsUnending net (slacks_of (hops net) last.labels) tail.slopes last.time
    IsUnending-tail = unending_is net (slacks_of (hops net) last.labels) tail.slopes last.time passes good.pieces
        (endless passes net (slacks_of (hops net) last.labels) tail.slopes last.time forever.no_end)

    after : (until : ℚ) → last.time <ℚ until → Equilibrium net (extended net (flow_of last) tail until)
    after until h = Equilibrium-extended net (flow_of last) tail until last.labels good well.grow (HasShape-well net good last well)
        (HasSlopes-well net good last well).0 (HasSlopes-well net good last well).1 IsThinFlow-tail IsUnending-tail h

    pub Equilibrium-until : (until : ℚ) → 0ℚ ≤ℚ until → Equilibrium net (flow_until net (flow_of last) tail until)
    Equilibrium-until until from_0 = ⊎_elim
        (λ (w : (lt_ℚ last.time until ≡ true) × (last.time <ℚ until)). by true w.0 (after until w.1))
        (λ (w : (lt_ℚ last.time until ≡ false) × (until ≤ℚ last.time)). by false w.0 (Equilibrium-before net (flow_of last) until good (Equilibrium-well net good last well) from_0 w.1))
        (lt_ℚ_cases last.time until)
      where
        by : (b : Bool) → lt_ℚ last.time until ≡ b → Equilibrium net (if b then extended net (flow_of last) tail until else up_to (flow_of last) until)
            → Equilibrium net (flow_until net (flow_of last) tail until)
        by b e h = subst (λ (c : Bool). Equilibrium net (if c then extended net (flow_of last) tail until else up_to (flow_of last) until)) (sym e) h
