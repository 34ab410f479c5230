-- The answers of a checker.
use Rattle.std.proofs.Common.{◌≡◌, ◌≢◌, ◌↔◌, ℕ, ◌<◌, inl, length, refl, sym, ◌∙◌, arith, Ok}
use Rattle.nf_phase_run_laws.proofs.Common.{ℚ, Passing, Network, IsNetwork, Flow, Equilibrium, Sides, check_list, CanBeChecked, AllHold}
use Rattle.nf_phase_run_laws.proofs.Common.{Equilibrium-holding, AllHold-equilibrium, Answer, Yes, No, Test, Label, Inflow, InflowRates, OutflowRates}
use Rattle.nf_phase_run_laws.proofs.Common.{Arrivals, Outflow, Queue, Balance, SinkBefore, SinkAfter, Route, rule_of, ComesBefore, Breaks, BreaksFirst}
use Rattle.nf_phase_run_laws.proofs.Common.{not-broken, check_list-checks, AllButRoutesHold}
use Rattle.nf_net_laws.proofs.ReportFacts.{have_rates}
use Rattle.nf_check_def.specs.declared.CheckRule.{CheckRule}
use Rattle.nf_check_def.specs.declared.CheckRule.TheVariants.{C8}
use Rattle.nf_check_def.specs.declared.Subject.{Subject}
use Rattle.nf_phase_run_laws.proofs.Carried.{routes_hold}

-- ---- an equilibrium can be checked, and is answered yes
pub can_be_checked : (net : Network) (flow : Flow) → IsNetwork net → Equilibrium net flow → CanBeChecked net flow
can_be_checked net flow good eq = record {
  network = good;
  shape = eq.shape;
  inflow_rates = have_rates flow.inflows eq.inflow_rates;
  outflow_rates = have_rates flow.outflows eq.outflow_rates;
  reached = eq.reached;
}

pub answered_yes : (passes : Passing) (net : Network) (flow : Flow) (answer : Answer ℕ ℕ ℚ) → IsNetwork net → Equilibrium net flow → check_list passes net flow ≡ Ok answer → answer ≡ Yes
answered_yes passes net flow Yes good eq e = refl
answered_yes passes net flow (No rule subject time left right) good eq e =
    let given : CanBeChecked net flow = can_be_checked net flow good eq in
    let w = check_list-checks passes net flow given (No rule subject time left right) e in
    absurd (not-broken net flow given (AllHold-equilibrium net flow given eq) w.0 (record { time = time; left = left; right = right }) w.3.is_test w.3.broken)

-- ---- where all rules but the last hold, all do
module _ (net : Network) (flow : Flow) (given : CanBeChecked net flow) where
  pub all_hold : AllButRoutesHold net flow → AllHold net flow
  all_hold all (Label v) h = all (Label v) h (λ s. cc)
  all_hold all (Inflow e) h = all (Inflow e) h (λ s. cc)
  all_hold all (InflowRates e) h = all (InflowRates e) h (λ s. cc)
  all_hold all (OutflowRates e) h = all (OutflowRates e) h (λ s. cc)
  all_hold all (Arrivals v) h = all (Arrivals v) h (λ s. cc)
  all_hold all (Outflow e) h = all (Outflow e) h (λ s. cc)
  all_hold all (Queue e) h = all (Queue e) h (λ s. cc)
  all_hold all (Balance v) h = all (Balance v) h (λ s. cc)
  all_hold all SinkBefore h = all SinkBefore h (λ s. cc)
  all_hold all SinkAfter h = all SinkAfter h (λ s. cc)
  all_hold all (Route e) h = routes_hold net flow given all e

  pub are_enough : AllButRoutesHold net flow ↔ Equilibrium net flow
  are_enough = (λ all. Equilibrium-holding net flow given (all_hold all), λ eq test h other. AllHold-equilibrium net flow given eq test h)

  pub none_breaks : (e : ℕ) (sides : Sides) → AllButRoutesHold net flow → e < length net.links → ¬ Breaks net flow (Route e) sides
  none_breaks e sides all h broken = not-broken net flow given (all_hold all) (Route e) sides h broken

  -- ---- a test of the last rule comes after all others
  comes_before : (e : ℕ) (test : Test) → rule_of test ≢ C8 → ComesBefore net test (Route e)
  comes_before e (Label v) h = inl (omega arith)
  comes_before e (Inflow f) h = inl (omega arith)
  comes_before e (InflowRates f) h = inl (omega arith)
  comes_before e (OutflowRates f) h = inl (omega arith)
  comes_before e (Arrivals v) h = inl (omega arith)
  comes_before e (Outflow f) h = inl (omega arith)
  comes_before e (Queue f) h = inl (omega arith)
  comes_before e (Balance v) h = inl (omega arith)
  comes_before e SinkBefore h = inl (omega arith)
  comes_before e SinkAfter h = inl (omega arith)
  comes_before e (Route f) h = absurd (h refl)

  not_first : (test : Test) (sides : Sides) → BreaksFirst net flow test sides → rule_of test ≡ C8 → ⊥
  not_first (Label v) sides b e = cc
  not_first (Inflow f) sides b e = cc
  not_first (InflowRates f) sides b e = cc
  not_first (OutflowRates f) sides b e = cc
  not_first (Arrivals v) sides b e = cc
  not_first (Outflow f) sides b e = cc
  not_first (Queue f) sides b e = cc
  not_first (Balance v) sides b e = cc
  not_first SinkBefore sides b e = cc
  not_first SinkAfter sides b e = cc
  not_first (Route f) sides b e = none_breaks f sides (λ test is_test other. b.before test is_test (comes_before f test other)) b.is_test b.broken

  pub never_answered : (passes : Passing) (rule : CheckRule) (subject : Subject ℕ ℕ) (time left right : ℚ) → check_list passes net flow ≡ Ok (No rule subject time left right) → rule ≢ C8
  never_answered passes rule subject time left right e last =
      let w = check_list-checks passes net flow given (No rule subject time left right) e in
      not_first w.0 (record { time = time; left = left; right = right }) w.3 (sym w.1 ∙ last)
