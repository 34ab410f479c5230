-- What of an answer is the same in every equilibrium: its flows are equilibria, and those of a network.
use Rattle.std.proofs.Common.{◌≡◌, ℕ, List, inl, inr, refl, sym, ap, subst, ◌∙◌, Option, Some, None}
use Rattle.nf_app.proofs.Common.{ℚ, 0ℚ, ◌≤ℚ◌, ≤ℚ_refl, Within, Network, IsNetwork, label, Cause, Named, Report, IsDeparture, Request, Solve, SolveForever}
use Rattle.nf_app.proofs.Common.{Show, Load, Check, Quick, Gen, Settle, Resume, Routes, Arrival, ProgramAnswer, Quickest, TooManyWalks, Passes, Unbounded}
use Rattle.nf_app.proofs.Common.{arrival_of, ArrivesIn, IsArrivalOf, IsResultOf, Run}
use Rattle.nf_unique_laws.specs.UniqueLaws.{SameInAll}
use Rattle.nf_unique_laws.proofs.Exits.{SameInAll-equilibrium}
use Rattle.nf_app.specs.Uniqueness.{SameArrival, IsSameArrival, AnswerIsSameInAll}
use Rattle.nf_app.proofs.AnswerFlows.{of_result}

-- ---- the equilibrium line
module _ (net : Network) (good : IsNetwork net) (amount departs : ℚ) (least : IsDeparture net amount (Some departs)) (arrival : Arrival) (arrives : ArrivesIn net departs arrival) where
  same_at : (stop : Option (Cause ℚ)) → arrives.report.stop ≡ stop → SameArrival net amount arrival
  same_at (Some cause) stopped =
      subst (SameArrival net amount) (sym (arrives.arrival_is ∙ ap (λ (o : Option (Cause ℚ)). arrival_of o (label arrives.report.flow net.sink departs)) stopped)) tt
  same_at None no_stop =
      subst (SameArrival net amount) (sym (arrives.arrival_is ∙ ap (λ (o : Option (Cause ℚ)). arrival_of o (label arrives.report.flow net.sink departs)) no_stop))
      (departs, least, λ other is h. (SameInAll-equilibrium net arrives.report.flow good arrives.solution.equilibrium).labels other net.sink departs is good.sink described (least.0, h))
    where
      reached : arrives.report.flow.reached ≡ departs
      reached = arrives.solution.well_formed.stop.0 no_stop ∙ ap (λ (r : Report). r.horizon) arrives.solution.run.report_is

      described : Within 0ℚ arrives.report.flow.reached departs
      described = (least.0, subst (λ (t : ℚ). departs ≤ℚ t) (sym reached) (≤ℚ_refl departs))

same_arrival : (net : Network) (amount : ℚ) (departs : Option ℚ) (arrival : Arrival) → IsNetwork net → IsDeparture net amount departs
    → IsArrivalOf net departs arrival → SameArrival net amount arrival
same_arrival net amount None arrival good least never = subst (SameArrival net amount) (sym never) tt
same_arrival net amount (Some departs) arrival good least arrives = same_at net good amount departs least arrival arrives arrives.report.stop refl

-- ---- what a request gives
module _ (n : Named) (text : List ℕ) (good : IsNetwork n.net) (answer : ProgramAnswer) where
  of_quick : (file : List ℕ) (amount : ℚ) (augments : ℕ) (other : ProgramAnswer) → answer ≡ other → IsSameArrival (Quick file amount augments) other
      → IsSameArrival (Quick file amount augments) answer
  of_quick file amount augments other e h = subst (λ (a : ProgramAnswer). IsSameArrival (Quick file amount augments) a) (sym e) h

  arrival_same : (request : Request) → IsResultOf n text request answer → IsSameArrival request answer
  arrival_same (Quick file amount augments) (inl g) =
      of_quick file amount augments (Quickest n g.quick g.arrival) g.is (same_arrival n.net amount g.departs g.arrival good g.least g.arrives)
  arrival_same (Quick file amount augments) (inr (inl g)) = of_quick file amount augments (TooManyWalks n augments g.0) g.1 tt
  arrival_same (Quick file amount augments) (inr (inr (inl g))) = of_quick file amount augments (Passes g.0) g.1 tt
  arrival_same (Quick file amount augments) (inr (inr (inr g))) = of_quick file amount augments Unbounded g.0 tt
  arrival_same (Solve file horizon phases patterns) g = tt
  arrival_same (SolveForever file phases patterns) g = tt
  arrival_same (Show file) g = tt
  arrival_same (Load file loads horizon) g = tt
  arrival_same (Check file name) g = tt
  arrival_same (Gen number rungs horizon phases patterns) g = tt
  arrival_same (Settle file flows) g = tt
  arrival_same (Resume file name horizon phases patterns) g = tt
  arrival_same (Routes file routes horizon) g = tt

pub answered_same : (run : Run) → AnswerIsSameInAll run
answered_same run answer c = record {
  flows = of_result SameInAll (λ net flow good equilibrium. SameInAll-equilibrium net flow good equilibrium) c.net c.second c.named.network answer c.request c.is_result;
  arrival = arrival_same c.net c.second c.named.network answer c.request c.is_result;
}
