-- The result of a run without a horizon can be written; its flow and the flow extended by its tail are equilibria.
use Rattle.std.proofs.Common.{◌≡◌, ◌↔◌, ℕ, length, sym, subst, refl, ◌∙◌, Option, Some, None, IfSome, IsSome, Result, Ok, Err, IfOk, option_map}
use Rattle.nf_forever.proofs.Common.{ℚ, Passing, Network, IsNetwork, Pattern, IsListedIn, Equilibrium, Cause, Standing, flow_of, Tail, GoesForever, End}
use Rattle.nf_forever.proofs.Common.{Stops, NeverEnds, RunsForever, at_phases, fails, never_ends, goes, IsForeverRun, Forever, forever_of, IsForever}
use Rattle.nf_forever.proofs.Common.{HasForm, tail_in, forever_in}
use Rattle.std.proofs.lemmas.Option.{none-some}
use Rattle.nf_rational.specs.Operations.{0ℚ}
use Rattle.nf_rational.specs.Order.{◌≤ℚ◌}
use Rattle.nf_model.specs.ThinFlow.{sets_at}
use Rattle.nf_net_laws.proofs.ReportFacts.{have_rates}
use Rattle.nf_thin_laws.proofs.OneRun.{length-sets, goes_knows, start_knows}
use Rattle.nf_phase_laws.proofs.WellRun.{WellRun}
use Rattle.nf_phase_laws.proofs.Run.{HasShape-well, HasSlopes-well}
use Rattle.nf_curve.specs.Flows.{seen_flow as flow_in}
use Rattle.nf_forever_def.specs.Extended.{flow_until}
use Rattle.nf_forever_laws.proofs.Run.{well_forever, Equilibrium-forever, Equilibrium-until, Equilibrium-forever_of}
use Rattle.nf_forever_laws.specs.TailGrowth.{TailGrows}
use Rattle.nf_settling_laws.proofs.Tail.{TailGrows-forever}
use Rattle.nf_forever.specs.declared.forever.Tail as code
use Rattle.nf_forever.specs.declared.forever.Forever as told

-- ---- the number of states, slopes and flows
abbrev HasCounts : Network → Standing → End → Type 0
HasCounts net last (Stops cause) = length last.last ≡ length net.links
HasCounts net last (NeverEnds pattern tail) = (length pattern ≡ length net.links) × (length tail.slopes ≡ net.nodes) × (length tail.flows ≡ length net.links)

module _ (passes : Passing) (net : Network) (phases patterns : ℕ) where
  tail_counts : (s : Standing) (pattern : Pattern) (tail : Tail) → GoesForever passes net patterns s pattern tail → HasCounts net s (NeverEnds pattern tail)
  tail_counts s pattern tail g =
      let search = g.finds.is_search in
      let listed : IsListedIn net (sets_at net s.labels) pattern = search.is_listing.listed g.place pattern search.answers.has_place in
      let solves = search.answers.solution.solves in
      (listed.states.count ∙ length-sets net s.labels, solves.slope_count, solves.flow_count)

  counts_on : (s last : Standing) (end : End) → length s.last ≡ length net.links → RunsForever passes net phases patterns s last end → HasCounts net last end
  counts_on s last end knows (at_phases e) = knows
  counts_on s last end knows (fails may f) = knows
  counts_on s last end knows (never_ends {pattern = p} {tail = t} may g) = tail_counts s p t g
  counts_on s last end knows (goes {new = t} may g rest) = counts_on t last end (goes_knows passes net g.end patterns s t g.goes) rest

-- ---- the result, by the end of the run
module _ (net : Network) (good : IsNetwork net) (last : Standing) (well : WellRun net last) where
  form_of : (end : End) → HasCounts net last end → HasForm net (forever_of last end)
  form_of (Stops cause) counts = record {
    shape = HasShape-well net good last well;
    inflow_rates = have_rates (flow_of last).inflows (HasSlopes-well net good last well).0;
    outflow_rates = have_rates (flow_of last).outflows (HasSlopes-well net good last well).1;
    states = counts;
    tail = tt;
  }
  form_of (NeverEnds pattern tail) counts = record {
    shape = HasShape-well net good last well;
    inflow_rates = have_rates (flow_of last).inflows (HasSlopes-well net good last well).0;
    outflow_rates = have_rates (flow_of last).outflows (HasSlopes-well net good last well).1;
    states = counts.0;
    tail = (counts.1, counts.2);
  }

-- The flow extended by the tail is an equilibrium up to every departure.
abbrev pub GoesOn : Network → Forever → Type 0
GoesOn net forever = IfSome forever.tail (λ tail. (until : ℚ) → 0ℚ ≤ℚ until → Equilibrium net (flow_until net forever.flow tail until))

abbrev pub StopsOrNot : Forever → Type 0
StopsOrNot forever = IsSome forever.tail ↔ (forever.stop ≡ None)

none_there : (tail : Option Tail) → tail ≡ None → IsSome tail → ⊥
none_there None e h = cc
none_there (Some t) e h = none-some t (sym e)

stops_or_not : (last : Standing) (end : End) → StopsOrNot (forever_of last end)
stops_or_not last (Stops cause) = (λ h. absurd (none_there None refl h), λ e. absurd (none-some cause (sym e)))
stops_or_not last (NeverEnds pattern tail) = (λ _. refl, λ _. refl)

module _ (passes : Passing) (net : Network) (good : IsNetwork net) (phases patterns : ℕ) where
  goes_on_of : (last : Standing) (end : End) → IsForeverRun passes net phases patterns last end → GoesOn net (forever_of last end)
  goes_on_of last (Stops cause) run = tt
  goes_on_of last (NeverEnds pattern tail) run = λ until from_0. Equilibrium-until passes net good phases patterns last pattern tail run until from_0

  module _ (forever : Forever) (is : IsForever passes net phases patterns forever) where
    pub form_told : HasForm net forever
    form_told = subst (HasForm net) (sym is.forever_is)
        (form_of net good is.last (well_forever passes net good phases patterns is.last is.end is.run) is.end
        (counts_on passes net phases patterns is.run.first is.last is.end (start_knows net is.run.first is.run.start) is.run.runs))

    pub equilibrium_told : Equilibrium net forever.flow
    equilibrium_told = subst (λ (f : Forever). Equilibrium net f.flow) (sym is.forever_is)
        (Equilibrium-forever_of net is.last is.end (Equilibrium-forever passes net good phases patterns is.last is.end is.run))

    pub goes_on_told : GoesOn net forever
    goes_on_told = subst (GoesOn net) (sym is.forever_is) (goes_on_of is.last is.end is.run)

    pub stop_told : StopsOrNot forever
    stop_told = subst StopsOrNot (sym is.forever_is) (stops_or_not is.last is.end)

-- ---- the returned values
tail_seen : (tail : Option code.Tail) (P : Tail → Type 0) → IfSome (option_map tail_in tail) P → IfSome tail (λ t. P (tail_in t))
tail_seen (Some t) P h = h
tail_seen None P h = tt

some_seen : (tail : Option code.Tail) (stop : Option (Cause ℚ)) → IsSome (option_map tail_in tail) ↔ (stop ≡ None) → IsSome tail ↔ (stop ≡ None)
some_seen (Some t) stop h = h
some_seen None stop h = h

-- The contract of solving, by the returned value.
module _ (passes : Passing) (net : Network) (good : IsNetwork net) (phases patterns : ℕ) (last : Standing) (end : End) (run : IsForeverRun passes net phases patterns last end) where
  abbrev Answered : {E : Type 0} → Result told.Forever E → Type 0
  Answered result = IfOk result (λ f. forever_in f ≡ forever_of last end)

  is_told : (f : told.Forever) → forever_in f ≡ forever_of last end → IsForever passes net phases patterns (forever_in f)
  is_told f e = record { last = last; end = end; run = run; forever_is = e }

  pub run_answered : {E : Type 0} (result : Result told.Forever E) → Answered result → IfOk result (λ f. IsForever passes net phases patterns (forever_in f))
  run_answered (Ok f) e = is_told f e
  run_answered (Err x) e = tt

  pub form_answered : {E : Type 0} (result : Result told.Forever E) → Answered result → IfOk result (λ f. HasForm net (forever_in f))
  form_answered (Ok f) e = form_told passes net good phases patterns (forever_in f) (is_told f e)
  form_answered (Err x) e = tt

  pub equilibrium_answered : {E : Type 0} (result : Result told.Forever E) → Answered result → IfOk result (λ f. Equilibrium net (flow_in f.flow))
  equilibrium_answered (Ok f) e = equilibrium_told passes net good phases patterns (forever_in f) (is_told f e)
  equilibrium_answered (Err x) e = tt

  pub tail_answered : {E : Type 0} (result : Result told.Forever E) → Answered result
      → IfOk result (λ f. IfSome f.tail (λ tail. (until : ℚ) → 0ℚ ≤ℚ until → Equilibrium net (flow_until net (flow_in f.flow) (tail_in tail) until)))
  tail_answered (Ok f) e =
      tail_seen f.tail (λ tail. (until : ℚ) → 0ℚ ≤ℚ until → Equilibrium net (flow_until net (flow_in f.flow) tail until))
      (goes_on_told passes net good phases patterns (forever_in f) (is_told f e))
  tail_answered (Err x) e = tt

  pub grows_answered : {E : Type 0} (result : Result told.Forever E) → Answered result → IfOk result (λ f. IfSome f.tail (λ tail. TailGrows net (flow_in f.flow) (tail_in tail)))
  grows_answered (Ok f) e = tail_seen f.tail (TailGrows net (flow_in f.flow)) (TailGrows-forever passes net good phases patterns (forever_in f) (is_told f e))
  grows_answered (Err x) e = tt

  pub stop_answered : {E : Type 0} (result : Result told.Forever E) → Answered result → IfOk result (λ f. IsSome f.tail ↔ (f.stopped ≡ None))
  stop_answered (Ok f) e = some_seen f.tail f.stopped (stop_told passes net good phases patterns (forever_in f) (is_told f e))
  stop_answered (Err x) e = tt
