-- The answer of a check is the answer of the rules.
use Rattle.std.proofs.Common.{◌≡◌, ℕ, ◌<◌, List, length, map, refl, sym, ap, subst, ◌∙◌, Result, Ok, Err, IfOk}
use Rattle.nf_check.proofs.Common.{length-map, ℚ, 0ℚ, ◌≤ℚ◌, Passing, Gives, IsCurve, Flow, AreCurves, points_at, points_of, Checks, Trial, Passes, Breaks}
use Rattle.nf_check.proofs.Common.{answer_of, trial, Grown, seen_trace, seen_flow, IsGivenFlow, points_of_each, done}
use Rattle.nf_frac_def.specs.declared.Halt.{Halt}
use Rattle.nf_frac_def.specs.declared.PassedAt.{PassedAt}
use Rattle.nf_model.specs.Network.{Network, IsNetwork}
use Rattle.nf_model.specs.Equilibrium as model
use Rattle.nf_net_def.specs.Report.{HaveRates}
use Rattle.nf_check_def.specs.declared.Answer.{Answer}
use Rattle.nf_check_def.specs.declared.Answer.TheVariants.{Yes, No}
use Rattle.nf_check_def.specs.CheckList.{check_list}
use Rattle.nf_check_laws.specs.Laws.{CanBeChecked}
use Rattle.nf_check_laws.proofs.Holding.{Equilibrium-holding, AllHold-equilibrium}
use Rattle.nf_check_laws.proofs.Broken.{not-broken}
use Rattle.nf_check_laws.proofs.Checking.{check_list-checks}
use Rattle.nf_curve.specs.declared.flow.Flow as code
use Rattle.nf_curve.specs.declared.flow.Trace as code_trace
use Rattle.nf_check.specs.Answers.{IsExact}

answer_done : {A : Type 0} (r : Trial A) → answer_of (done r) ≡ answer_of r
answer_done (Ok x) = refl
answer_done (Err (Breaks rule subject sides)) = refl
answer_done (Err (Passes p)) = refl

pub by_list : (passes : Passing) (net : Network) (flow : Flow) (r : Result (Answer ℕ ℕ ℚ) (Halt ℚ))
    → Gives (λ (a : Answer ℕ ℕ ℚ). a) (λ (q : ℚ). q) r (answer_of (done (trial passes net flow)))
    → Gives (λ (a : Answer ℕ ℕ ℚ). a) (λ (q : ℚ). q) r (check_list passes net flow)
unfolding check_list
by_list passes net flow r g = subst (λ (said : Result (Answer ℕ ℕ ℚ) (PassedAt ℚ)). Gives (λ (a : Answer ℕ ℕ ℚ). a) (λ (q : ℚ). q) r said) (answer_done (trial passes net flow)) g

if_answered : (r : Result (Answer ℕ ℕ ℚ) (Halt ℚ)) (said : Result (Answer ℕ ℕ ℚ) (PassedAt ℚ)) (P : Answer ℕ ℕ ℚ → Type 0) → Gives (λ (a : Answer ℕ ℕ ℚ). a) (λ (q : ℚ). q) r said
    → ((answer : Answer ℕ ℕ ℚ) → said ≡ Ok answer → P answer) → IfOk r P
if_answered (Ok answer) said P g f = f answer g
if_answered (Err h) said P g f = tt

module _ (passes : Passing) (net : Network) (flow : Flow) (given : CanBeChecked net flow) where
  exact_by : (answer : Answer ℕ ℕ ℚ) → Checks net flow answer → IsExact net flow answer
  exact_by Yes all = Equilibrium-holding net flow given all
  exact_by (No rule subject time left right) w =
      (w.3.differ, λ eq. not-broken net flow given (AllHold-equilibrium net flow given eq) w.0 (record { time = time; left = left; right = right }) w.3.is_test w.3.broken)

  module _ (r : Result (Answer ℕ ℕ ℚ) (Halt ℚ)) (g : Gives (λ (a : Answer ℕ ℕ ℚ). a) (λ (q : ℚ). q) r (check_list passes net flow)) where
    pub rules_answer : IfOk r (λ answer. Checks net flow answer)
    rules_answer = if_answered r (check_list passes net flow) (λ answer. Checks net flow answer) g (λ answer e. check_list-checks passes net flow given answer e)

    pub is_exact : IfOk r (λ answer. IsExact net flow answer)
    is_exact = if_answered r (check_list passes net flow) (λ answer. IsExact net flow answer) g (λ answer e. exact_by answer (check_list-checks passes net flow given answer e))

-- ---- preconditions
are_curves : (n : ℕ) (curves : List Grown) (all : List Grown) → curves ≡ all → length all ≡ n
    → ((i : ℕ) → i < length curves → IsCurve (points_at (points_of_each curves) i)) → AreCurves n (points_of_each all)
are_curves n curves all e count known = record {
  count = length-map all (λ (c : Grown). c.points) ∙ count;
  each = λ i h. subst (λ (l : List Grown). IsCurve (points_at (points_of_each l) i)) e (known i (subst (λ (k : ℕ). i < k) (sym (ap length e ∙ count)) h));
}

are_traces : (n : ℕ) (traces : List code_trace.Trace) (all : List code_trace.Trace) → traces ≡ all → length all ≡ n
    → ((i : ℕ) → i < length traces → IsCurve (points_at (points_of (map seen_trace traces)) i)) → AreCurves n (points_of (map seen_trace all))
are_traces n traces all e count known = record {
  count = length-map (map seen_trace all) (λ (t : model.Trace). t.points) ∙ length-map all seen_trace ∙ count;
  each = λ i h. subst (λ (l : List code_trace.Trace). IsCurve (points_at (points_of (map seen_trace l)) i)) e (known i (subst (λ (k : ℕ). i < k) (sym (ap length e ∙ count)) h));
}

pub given_by : (net : Network) (flow : code.Flow) → IsNetwork net → (labels : length flow.labels.items ≡ net.nodes) (inflows : length flow.inflows.items ≡ length net.links)
    (outflows : length flow.outflows.items ≡ length net.links) (queues : length flow.queues.items ≡ length net.links) → HaveRates (seen_flow flow).inflows
    → HaveRates (seen_flow flow).outflows → 0ℚ ≤ℚ flow.reached
    → (ls qs : List Grown) (is os : List code_trace.Trace) → ls ≡ flow.labels.items → is ≡ flow.inflows.items → os ≡ flow.outflows.items → qs ≡ flow.queues.items
    → ((i : ℕ) → i < length ls → IsCurve (points_at (points_of_each ls) i)) → ((i : ℕ) → i < length is → IsCurve (points_at (points_of (map seen_trace is)) i))
    → ((i : ℕ) → i < length os → IsCurve (points_at (points_of (map seen_trace os)) i)) → ((i : ℕ) → i < length qs → IsCurve (points_at (points_of_each qs) i)) → IsGivenFlow net flow
given_by net flow good labels inflows outflows queues in_rates out_rates reached ls qs is os e f g h a b c d = record {
  labels = labels;
  inflows = inflows;
  outflows = outflows;
  queues = queues;
  checked = record {
    network = good;
    shape = record {
      labels = are_curves net.nodes ls flow.labels.items e labels a;
      inflows = are_traces (length net.links) is flow.inflows.items f inflows b;
      outflows = are_traces (length net.links) os flow.outflows.items g outflows c;
      queues = are_curves (length net.links) qs flow.queues.items h queues d;
    };
    inflow_rates = in_rates;
    outflow_rates = out_rates;
    reached = reached;
  };
}
