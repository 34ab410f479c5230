-- A fact that holds of every equilibrium of a network holds of each flow that an answer describes.
use Rattle.std.proofs.Common.{◌≡◌, ℕ, List, inl, inr, sym, subst, Option, Some, None, IfSome, Ok}
use Rattle.nf_app.proofs.Common.{ℚ, 0ℚ, ◌≤ℚ◌, Network, IsNetwork, Flow, Equilibrium, Named, Report, Yes, No, IsExact, report_in, Forever, flow_until}
use Rattle.nf_app.proofs.Common.{Request, Solve, SolveForever, Show, Load, Check, Quick, Gen, Settle, Resume, Routes, ProgramAnswer, Solved, SolvedForever}
use Rattle.nf_app.proofs.Common.{Shown, Loaded, Checked, Quickest, TooManyWalks, Generated, Settled, Distributed, MalformedLoads, MalformedFlows}
use Rattle.nf_app.proofs.Common.{MalformedRoutes, MalformedReport, Passes, Unbounded, NotThin, Earlier, same_value, IsResultOf}
use Rattle.nf_check_def.specs.declared.Answer.{Answer as Verdict}
use Rattle.nf_app.specs.AnswerFlows.{FlowFact, OfForever, OfYes, OfEachFlow}

pub each_some : {A : Type 0} (P Q : A → Type 0) (o : Option A) → ((x : A) → P x → Q x) → IfSome o P → IfSome o Q
each_some P Q None f h = tt
each_some P Q (Some x) f h = f x h

module _ (Holds : FlowFact) (of_equilibrium : (net : Network) (flow : Flow) → IsNetwork net → Equilibrium net flow → Holds net flow) where
  of_forever : (net : Network) (forever : Forever) → IsNetwork net → Equilibrium net forever.flow
      → IfSome forever.tail (λ tail. (until : ℚ) → 0ℚ ≤ℚ until → Equilibrium net (flow_until net forever.flow tail until)) → OfForever Holds net forever
  of_forever net forever good equilibrium goes_on = (
    of_equilibrium net forever.flow good equilibrium,
    each_some (λ tail. (until : ℚ) → 0ℚ ≤ℚ until → Equilibrium net (flow_until net forever.flow tail until))
        (λ tail. (until : ℚ) → 0ℚ ≤ℚ until → Holds net (flow_until net forever.flow tail until))
        forever.tail (λ tail goes until h. of_equilibrium net (flow_until net forever.flow tail until) good (goes until h)) goes_on,
  )

  of_yes : (n : Named) (text : List ℕ) (report : Report) (verdict : Verdict ℕ ℕ ℚ) → IsNetwork n.net → report_in n text ≡ Ok report
      → IsExact n.net report.flow verdict → OfYes Holds n text verdict
  of_yes n text report Yes good reads exact = λ other is.
      subst (λ (r : Report). Holds n.net r.flow) (same_value (report_in n text) report other reads is) (of_equilibrium n.net report.flow good exact)
  of_yes n text report (No rule subject time left right) good reads exact = tt

  module _ (n : Named) (text : List ℕ) (good : IsNetwork n.net) (answer : ProgramAnswer) where
    -- it is this answer
    of_this : (request : Request) (other : ProgramAnswer) → answer ≡ other → OfEachFlow Holds text request other → OfEachFlow Holds text request answer
    of_this request other e h = subst (λ (a : ProgramAnswer). OfEachFlow Holds text request a) (sym e) h

    pub of_result : (request : Request) → IsResultOf n text request answer → OfEachFlow Holds text request answer
    of_result (Solve file horizon phases patterns) g =
        of_this (Solve file horizon phases patterns) (Solved n g.report) g.is (of_equilibrium n.net g.report.flow good g.equilibrium)
    of_result (SolveForever file phases patterns) g =
        of_this (SolveForever file phases patterns) (SolvedForever n g.forever) g.is (of_forever n.net g.forever good g.equilibrium g.goes_on)
    of_result (Show file) g = of_this (Show file) (Shown n) g.is tt
    of_result (Load file loads horizon) (inl g) = of_this (Load file loads horizon) (Loaded n horizon g.loaded) g.is tt
    of_result (Load file loads horizon) (inr (inl g)) = of_this (Load file loads horizon) (MalformedLoads g.0) g.1 tt
    of_result (Load file loads horizon) (inr (inr g)) = of_this (Load file loads horizon) (Passes g.0) g.1 tt
    of_result (Check file name) (inl g) = of_this (Check file name) (Checked n g.verdict) g.is (of_yes n text g.report g.verdict good g.read.reads g.exact)
    of_result (Check file name) (inr (inl g)) = of_this (Check file name) (MalformedReport g.0) g.1 tt
    of_result (Check file name) (inr (inr g)) = of_this (Check file name) (Passes g.0) g.1 tt
    of_result (Quick file amount augments) (inl g) = of_this (Quick file amount augments) (Quickest n g.quick g.arrival) g.is tt
    of_result (Quick file amount augments) (inr (inl g)) = of_this (Quick file amount augments) (TooManyWalks n augments g.0) g.1 tt
    of_result (Quick file amount augments) (inr (inr (inl g))) = of_this (Quick file amount augments) (Passes g.0) g.1 tt
    of_result (Quick file amount augments) (inr (inr (inr g))) = of_this (Quick file amount augments) Unbounded g.0 tt
    of_result (Gen number rungs horizon phases patterns) g =
        of_this (Gen number rungs horizon phases patterns) (Generated number rungs n g.made g.report) g.is (of_equilibrium n.net g.report.flow good g.solution.equilibrium)
    of_result (Settle file flows) (inl g) = of_this (Settle file flows) (Settled n g.pattern g.flows) g.is tt
    of_result (Settle file flows) (inr (inl g)) = of_this (Settle file flows) (MalformedFlows g.0) g.1 tt
    of_result (Settle file flows) (inr (inr (inl g))) = of_this (Settle file flows) (Passes g.0) g.1 tt
    of_result (Settle file flows) (inr (inr (inr g))) = of_this (Settle file flows) NotThin g.0 tt
    of_result (Resume file name horizon phases patterns) (inl g) =
        of_this (Resume file name horizon phases patterns) (Solved n g.new) g.is (of_equilibrium n.net g.new.flow good g.equilibrium)
    of_result (Resume file name horizon phases patterns) (inr (inl g)) = of_this (Resume file name horizon phases patterns) (MalformedReport g.0) g.1 tt
    of_result (Resume file name horizon phases patterns) (inr (inr (inl g))) = of_this (Resume file name horizon phases patterns) (Passes g.0) g.1 tt
    of_result (Resume file name horizon phases patterns) (inr (inr (inr (inl g)))) = of_this (Resume file name horizon phases patterns) Earlier g.0 tt
    of_result (Resume file name horizon phases patterns) (inr (inr (inr (inr g)))) = of_this (Resume file name horizon phases patterns) (Checked n g.0) g.1 tt
    of_result (Routes file routes horizon) (inl g) = of_this (Routes file routes horizon) (Distributed n g.routes horizon g.routed) g.is tt
    of_result (Routes file routes horizon) (inr (inl g)) = of_this (Routes file routes horizon) (MalformedRoutes g.0) g.1 tt
    of_result (Routes file routes horizon) (inr (inr g)) = of_this (Routes file routes horizon) (Passes g.0) g.1 tt
