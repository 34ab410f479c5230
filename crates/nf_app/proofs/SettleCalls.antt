-- What settling at departure 0 answers, from what its calls answer.
use Rattle.std.proofs.Common.{◌≡◌, List, refl, sym, ap, subst, ◌∙◌, Some, None, Result, Ok, Err, IsOk, is_ok}
use Rattle.nf_app.proofs.Common.{ℚ, 0ℚ, ◌≤ℚ◌, passes_Q, at_part, placed, Stops, Slack, Verdict, Passed, PassedAt, Halt, Network, IsNetwork, hops, rate_at}
use Rattle.nf_app.proofs.Common.{Sets, sets_of, sets_at, IsThinFlow, IsListedIn, IsSolution, AreStartLabels, slack_list, was_ok, NoneEntersSource, Settles}
use Rattle.nf_app.proofs.Common.{thin_list, GivenFlows, AreGoodSets, one_Err, Ok_not_Err, SlacksFit, TestFits, AreThin, PassesFirst, at_slack, at_test}
use Rattle.nf_app.proofs.Common.{at_settling, AreStartSets, SettlesAtStart}
use Rattle.nf_frac_def.specs.declared.Part.{Part}
use Rattle.nf_model.specs.Walk.{Hop}
use Rattle.nf_thin_laws.proofs.Exact.{slacks_exact}
use Rattle.nf_complete_def.specs.SettledPattern.{IsSettledPattern}
use Rattle.nf_complete.specs.FitSets.{AreFitSets}
use Rattle.nf_complete.specs.declared.settled.Settled.{Settled}
use Rattle.nf_complete.specs.Settling.{SettlesTo}
use Rattle.nf_app.proofs.Starting.{start_sets_good, start_source, start_rate}

-- ---- what a test says
-- an operation that passes in a part
passed_in : {A : Type 0} (part : Part) (r : Result A (Passed ℚ)) (at : PassedAt ℚ) → at_part part r ≡ Err at → (p : Passed ℚ) × (r ≡ Err p) × (placed part p ≡ at)
passed_in part (Ok x) at e = absurd (Ok_not_Err (Ok x) x at refl e)
passed_in part (Err p) at e = (p, refl, one_Err (Err (placed part p)) (placed part p) at refl e)

-- ---- the slacks, of the hops and labels that the call was given
module _ (net : Network) (labels : List ℚ) (are : AreStartLabels net labels) (hops_now : List Hop) (labels_now : List ℚ) (hops_are : hops_now ≡ hops net)
    (labels_are : labels_now ≡ labels) where
  list_now : {R : Type 0} (f : Result (List ℚ) (Passed ℚ) → R) → f (slack_list passes_Q hops_now labels_now) ≡ f (slack_list passes_Q (hops net) labels)
  list_now f = ap (λ (h : List Hop). f (slack_list passes_Q h labels_now)) hops_are ∙ ap (λ (l : List ℚ). f (slack_list passes_Q (hops net) l)) labels_are

  pub slacks_stopped : (halt : Halt ℚ) → Stops (λ (q : ℚ). q) halt (at_part Slack (slack_list passes_Q hops_now labels_now)) → AreStartSets net (Err halt)
  slacks_stopped (Halt.Passed at) e = (labels, are, sym (list_now (at_part Slack)) ∙ e)
  slacks_stopped Halt.Memory e = tt

  pub sets_there : (slacks slacks_now : List ℚ) (sets : Sets) → at_part Slack (slack_list passes_Q hops_now labels_now) ≡ Ok slacks → slacks_now ≡ slacks → sets ≡ sets_of slacks_now
      → AreStartSets net (Ok sets)
  sets_there slacks slacks_now sets listed same e =
      let is : slack_list passes_Q (hops net) labels ≡ Ok slacks = was_ok Slack (slack_list passes_Q (hops net) labels) slacks (sym (list_now (at_part Slack)) ∙ listed) in
      (labels, are, (ap is_ok is, sym (e ∙ ap sets_of (same ∙ slacks_exact passes_Q (hops net) labels slacks is))))

-- ---- what is then answered
pub start_stopped : (net : Network) (given : GivenFlows) (halt : Halt ℚ) → AreStartSets net (Err halt) → SettlesAtStart net given (Err halt)
start_stopped net given (Halt.Passed at) h =
    let p = passed_in Slack (slack_list passes_Q (hops net) h.0) at h.2 in
    (h.0, h.1, subst (λ (a : PassedAt ℚ). PassesFirst net h.0 given a) p.2 (at_slack p.0 p.1))
start_stopped net given Halt.Memory h = tt

pub rate_there : (net : Network) (time rate : ℚ) → time ≡ 0ℚ → rate ≡ rate_at net time → rate_at net 0ℚ ≡ rate
rate_there net time rate e r = sym (r ∙ ap (rate_at net) e)

module _ (net : Network) (given : GivenFlows) (labels : List ℚ) (are : AreStartLabels net labels) where
  -- ---- the sets, the rate and the flows that a call was given
  pub record Called (sets : Sets) (rate : ℚ) (flows slopes : List ℚ) : Type 0 where
    pub sets_same : sets_at net labels ≡ sets
    pub rate_same : rate_at net 0ℚ ≡ rate
    pub flows_same : given.flows ≡ flows
    pub slopes_same : given.slopes ≡ slopes

  module _ (sets : Sets) (rate : ℚ) (flows slopes : List ℚ) (called : Called sets rate flows slopes) where
    meant : (P : Sets → ℚ → List ℚ → List ℚ → Type 0) → P sets rate flows slopes → P (sets_at net labels) (rate_at net 0ℚ) given.flows given.slopes
    meant P h = subst (λ (s : Sets). P s (rate_at net 0ℚ) given.flows given.slopes) (sym called.sets_same)
        (subst (λ (r : ℚ). P sets r given.flows given.slopes) (sym called.rate_same)
        (subst (λ (f : List ℚ). P sets rate f given.slopes) (sym called.flows_same)
        (subst (λ (l : List ℚ). P sets rate flows l) (sym called.slopes_same) h)))

    pub sets_good : IsNetwork net → AreFitSets net sets
    sets_good good =
        let fine = subst (λ (s : Sets). AreGoodSets net s) called.sets_same (start_sets_good net good labels are) in
        record { sets_are = fine.sets_are; acyclic = fine.acyclic; bounded = fine.bounded }

    pub sets_source : IsNetwork net → NoneEntersSource net sets
    sets_source good = subst (λ (s : Sets). NoneEntersSource net s) called.sets_same (start_source net good labels are)

    pub sets_rate : IsNetwork net → 0ℚ ≤ℚ rate
    sets_rate good = subst (λ (r : ℚ). 0ℚ ≤ℚ r) called.rate_same (start_rate net good)

    pub tested : IsOk (thin_list passes_Q net sets rate flows slopes) → TestFits net labels given
    tested h = meant (λ s r f l. IsOk (thin_list passes_Q net s r f l)) h

    pub thin_there : IsThinFlow net sets rate flows slopes → AreThin net labels given
    thin_there h = meant (λ s r f l. IsThinFlow net s r f l) h

    -- they are also for the values of another call
    pub thin_again : AreThin net labels given → IsThinFlow net sets rate flows slopes
    thin_again thin = subst (λ (s : Sets). IsThinFlow net s rate flows slopes) called.sets_same
        (subst (λ (r : ℚ). IsThinFlow net (sets_at net labels) r flows slopes) called.rate_same
        (subst (λ (f : List ℚ). IsThinFlow net (sets_at net labels) (rate_at net 0ℚ) f slopes) called.flows_same
        (subst (λ (l : List ℚ). IsThinFlow net (sets_at net labels) (rate_at net 0ℚ) given.flows l) called.slopes_same thin)))

    pub not_thin : SlacksFit net labels given → IsOk (thin_list passes_Q net sets rate flows slopes) → (IsThinFlow net sets rate flows slopes → ⊥) → SettlesAtStart net given (Ok None)
    not_thin fit test none = (labels, are, record { slacks = fit; test = tested test; not_thin = meant (λ s r f l. IsThinFlow net s r f l → ⊥) none })

    test_passes : SlacksFit net labels given → (at : PassedAt ℚ) → at_part Verdict (thin_list passes_Q net sets rate flows slopes) ≡ Err at → PassesFirst net labels given at
    test_passes fit at e =
        let there = meant (λ s r f l. at_part Verdict (thin_list passes_Q net s r f l) ≡ Err at) e in
        let p = passed_in Verdict (thin_list passes_Q net (sets_at net labels) (rate_at net 0ℚ) given.flows given.slopes) at there in
        subst (λ (a : PassedAt ℚ). PassesFirst net labels given a) p.2 (at_test p.0 fit p.1)

    pub test_stopped : SlacksFit net labels given → (halt : Halt ℚ) → Stops (λ (q : ℚ). q) halt
        (at_part Verdict (thin_list passes_Q net sets rate flows slopes)) → SettlesAtStart net given (Err halt)
    test_stopped fit (Halt.Passed at) e = (labels, are, test_passes fit at e)
    test_stopped fit Halt.Memory e = tt

    -- ---- a thin flow is settled
    module _ (fit : SlacksFit net labels given) (test : TestFits net labels given) (thin : AreThin net labels given) where
      pub settling_stopped : (halt : Halt ℚ) → SettlesTo passes_Q net sets slopes flows (Err halt) → SettlesAtStart net given (Err halt)
      settling_stopped (Halt.Passed at) h =
          let there = meant (λ s r f l. Settles passes_Q net s l f (Err h.0)) h.1 in
          (labels, are, subst (λ (a : PassedAt ℚ). PassesFirst net labels given a) (sym h.2) (at_settling h.0 fit test thin there))
      settling_stopped Halt.Memory h = tt

      pub settled_there : (s : Settled) → SettlesTo passes_Q net sets slopes flows (Ok s) → IsSettledPattern net sets s.flows.items slopes s.pattern
          → IsThinFlow net sets rate s.flows.items slopes
          → IsListedIn net sets s.pattern → IsSolution net sets rate s.pattern s.flows.items slopes → SettlesAtStart net given (Ok (Some s))
      settled_there s computed pattern still listed solution = (
        labels,
        are,
        record {
          slacks = fit;
          test = test;
          thin = thin;
          computed = meant (λ o r f l. Settles passes_Q net o l f (Ok s.flows.items)) computed;
          pattern_is = meant (λ o r f l. IsSettledPattern net o s.flows.items l s.pattern) pattern;
          still_thin = meant (λ o r f l. IsThinFlow net o r s.flows.items l) still;
          listed = meant (λ o r f l. IsListedIn net o s.pattern) listed;
          solution = meant (λ o r f l. IsSolution net o r s.pattern s.flows.items l) solution;
        },
      )
