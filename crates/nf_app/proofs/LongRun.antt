-- What an answer's network determines of all its equilibria, and what follows for the answer: by the laws of settling and growth.
use Rattle.std.proofs.Common.{◌≡◌, ◌⊎◌, ℕ, ◌<◌, List, inl, inr, refl, sym, ap, subst, ◌∙◌, Option, Some, None, IfSome}
use Rattle.nf_app.proofs.Common.{ℚ, 1ℚ, ◌≤ℚ◌, not_both_ℚ, passes_Q, Network, IsNetwork, Named, Report, Standing, Bounds, IsRunReport, Tail, Forever, End}
use Rattle.nf_app.proofs.Common.{NeverEnds, IsForeverRun, IsForever, forever_of, TailGrows, Request, Solve, SolveForever, Show, Load, Check, Quick, Gen}
use Rattle.nf_app.proofs.Common.{Settle, Resume, Routes, ProgramAnswer, bounds_to, IsResultOf, Run}
use Rattle.nf_model.specs.Entries.{number_at}
use Rattle.nf_forever_def.specs.ForeverRun.{Stops}
use Rattle.nf_settling_laws.specs.Settling.{Settles}
use Rattle.nf_settling_laws.proofs.Settles.{equilibria-settle}
use Rattle.nf_settling_laws.proofs.Runs.{settled-runs_end}
use Rattle.nf_settling_laws.proofs.Falls.{excess-falls}
use Rattle.nf_settling_growth_laws.specs.Growth.{SwaysAtMost}
use Rattle.nf_settling_growth_laws.proofs.Growth.{bottleneck-decides, growth-is_by_cuts, tail-has_growth}
use Rattle.nf_settling_growth_laws.proofs.Sways.{bottleneck-steadies}
use Rattle.nf_app.specs.LongRun.{NetworkLongRun, ExcessNeverRises, ReachesOnceSteady, TailInLongRun, ForeverInLongRun, RunInLongRun, LongRun}
use Rattle.nf_app.proofs.AnswerFlows.{of_result}

-- ---- the network
module _ (net : Network) (good : IsNetwork net) where
  network_long_run : NetworkLongRun net
  network_long_run =
      let decides = bottleneck-decides net good in
      let steadies = bottleneck-steadies net good in
      let same : steadies.0 ≡ decides.0 = (growth-is_by_cuts).only net steadies.0 decides.0 good steadies.1 decides.1 in
      record {
        growth = decides.0;
        is_growth = decides.1;
        distance = decides.2.0;
        grows = decides.2.1;
        change = steadies.2.0;
        sways = subst (λ (g : ℚ). SwaysAtMost net g steadies.2.0) same steadies.2.1;
        settles = equilibria-settle net good;
      }

  -- ---- a run to a horizon
  once_steady : (bounds : Bounds) (report : Report) → IsRunReport passes_Q net bounds report → ReachesOnceSteady net report
  once_steady bounds report is from settles passed = by ((settled-runs_end).run passes_Q net from bounds is.last is.stop good settles is.run)
    where
      reached : report.flow.reached ≡ is.last.time
      reached = ap (λ (r : Report). r.flow.reached) is.report_is

      by : (is.last.time ≤ℚ from) ⊎ (is.last.time ≡ bounds.horizon) → report.flow.reached ≡ report.horizon
      by (inl early) = absurd (not_both_ℚ _ _ passed (subst (λ (t : ℚ). t ≤ℚ from) (sym reached) early))
      by (inr e) = reached ∙ e ∙ sym (ap (λ (r : Report). r.horizon) is.report_is)

  -- ---- a run without a horizon
  module _ (phases patterns : ℕ) (last : Standing) where
    time_of : (end : End) → (forever_of last end).flow.reached ≡ last.time
    time_of (Stops cause) = refl
    time_of (NeverEnds pattern tail) = refl

    slopes_of : (end : End) → IsForeverRun passes_Q net phases patterns last end
        → IfSome (forever_of last end).tail (λ tail. (from : ℚ) → Settles net from → (v : ℕ) → v < net.nodes → number_at tail.slopes v ≡ 1ℚ)
    slopes_of (Stops cause) run = tt
    slopes_of (NeverEnds pattern tail) run = λ from settles v less. (settled-runs_end).tail passes_Q net from phases patterns last pattern tail good settles run v less

  tails : (flow : Forever) (tail : Option Tail) → IfSome tail (λ t. (from : ℚ) → Settles net from → (v : ℕ) → v < net.nodes → number_at t.slopes v ≡ 1ℚ)
      → IfSome tail (TailGrows net flow.flow)
      → IfSome tail (TailInLongRun net)
  tails flow None steady grows = tt
  tails flow (Some tail) steady grows = record { steady = steady; growth = λ growth is. tail-has_growth net flow.flow tail growth good grows is }

  forever_long_run : (phases patterns : ℕ) (forever : Forever) → IsForever passes_Q net phases patterns forever
      → IfSome forever.tail (TailGrows net forever.flow) → ForeverInLongRun net forever
  forever_long_run phases patterns forever is grows = record {
    before = λ from settles. subst (λ (t : ℚ). t ≤ℚ from) (sym (ap (λ (f : Forever). f.flow.reached) is.forever_is ∙ time_of phases patterns is.last is.end))
        ((settled-runs_end).forever passes_Q net from phases patterns is.last is.end good settles is.run);
    tail = tails forever forever.tail (subst (λ (f : Forever). IfSome f.tail
        (λ t. (from : ℚ) → Settles net from → (v : ℕ) → v < net.nodes → number_at t.slopes v ≡ 1ℚ)) (sym is.forever_is)
        (slopes_of phases patterns is.last is.end is.run)) grows;
  }

-- ---- the answer
run_long_run : (n : Named) (text : List ℕ) (request : Request) (answer : ProgramAnswer) → IsNetwork n.net → IsResultOf n text request answer → RunInLongRun request answer
run_long_run n text (Solve file horizon phases patterns) answer good g =
    subst (λ (a : ProgramAnswer). RunInLongRun (Solve file horizon phases patterns) a) (sym g.is) (once_steady n.net good (bounds_to horizon phases patterns) g.report g.run)
run_long_run n text (SolveForever file phases patterns) answer good g =
    subst (λ (a : ProgramAnswer). RunInLongRun (SolveForever file phases patterns) a) (sym g.is) (forever_long_run n.net good phases patterns g.forever g.run g.grows)
run_long_run n text (Gen number rungs horizon phases patterns) answer good g =
    subst (λ (a : ProgramAnswer). RunInLongRun (Gen number rungs horizon phases patterns) a) (sym g.is)
    (once_steady n.net good (bounds_to horizon phases patterns) g.report g.solution.run)
run_long_run n text (Show file) answer good g = tt
run_long_run n text (Load file loads horizon) answer good g = tt
run_long_run n text (Check file name) answer good g = tt
run_long_run n text (Quick file amount augments) answer good g = tt
run_long_run n text (Settle file flows) answer good g = tt
run_long_run n text (Resume file name horizon phases patterns) answer good g = tt
run_long_run n text (Routes file routes horizon) answer good g = tt

pub has_long_run : (run : Run) → LongRun run
has_long_run run = record {
  network = λ answer c. network_long_run c.net.net c.named.network;
  answer = λ answer c. record {
    excess = of_result ExcessNeverRises (λ net flow good equilibrium first later from supply. (excess-falls).falls net flow first later good equilibrium from supply)
        c.net c.second c.named.network answer c.request c.is_result;
    run = run_long_run c.net c.second c.request answer c.named.network c.is_result;
  };
}
