-- What a run without a horizon gives: its tail, as the definitions see it, and how its flow ends.
use Rattle.std.proofs.Common.{◌≡◌, ℕ, refl, sym, ap, subst, ◌∙◌, ◌↔◌, Option, Some, None, IsSome, IfSome, option_map}
use Rattle.nf_app.proofs.Common.{Passing, Network, IsNetwork, Standing, IsShortFlow, flow_of, Reaches, starts, goes_on, EndsAtItsLabels, Tail, End}
use Rattle.nf_app.proofs.Common.{NeverEnds, RunsForever, at_phases, fails, never_ends, goes, Forever, forever_of, IsForever, tail_in}
use Rattle.nf_phase.proofs.ShortReached.{short_reached}
use Rattle.nf_phase.proofs.Told.{ends_told}
use Rattle.nf_forever_def.specs.ForeverRun.{Stops}
use Rattle.nf_forever.specs.declared.forever.Tail.{Tail as CodeTail}

pub stop_seen : (tail : Option CodeTail) (Stopped : Type 0) → (IsSome tail ↔ Stopped) → (IsSome (option_map tail_in tail) ↔ Stopped)
stop_seen None Stopped h = h
stop_seen (Some tail) Stopped h = h

pub tail_seen : (Holds : Tail → Type 0) (tail : Option CodeTail) → IfSome tail (λ t. Holds (tail_in t)) → IfSome (option_map tail_in tail) Holds
tail_seen Holds None h = tt
tail_seen Holds (Some tail) h = h

-- ---- how its flow ends
module _ (passes : Passing) (net : Network) (good : IsNetwork net) (phases patterns : ℕ) where
  reached_on : (s last : Standing) (end : End) → Reaches passes net s → RunsForever passes net phases patterns s last end → Reaches passes net last
  reached_on s last end reaches (at_phases e) = reaches
  reached_on s last end reaches (fails may f) = reaches
  reached_on s last end reaches (never_ends may t) = reaches
  reached_on s last end reaches (goes {new = t} may g rest) = reached_on t last end (goes_on g.end patterns reaches g.goes) rest

  flow_told : (last : Standing) (end : End) → (forever_of last end).flow ≡ flow_of last
  flow_told last (Stops c) = refl
  flow_told last (NeverEnds pattern tail) = refl

  module _ (forever : Forever) (is : IsForever passes net phases patterns forever) where
    reaches : Reaches passes net is.last
    reaches = reached_on is.run.first is.last is.end (starts is.run.start) is.run.runs

    flow_is : flow_of is.last ≡ forever.flow
    flow_is = sym (ap (λ (f : Forever). f.flow) is.forever_is ∙ flow_told is.last is.end)

    pub forever_short : IsShortFlow net forever.flow
    forever_short = subst (IsShortFlow net) flow_is (short_reached passes net good is.last reaches)

    pub forever_ends : EndsAtItsLabels net forever.flow
    forever_ends = subst (EndsAtItsLabels net) flow_is (ends_told passes net good is.last reaches)
