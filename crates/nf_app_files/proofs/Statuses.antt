-- The status of a run without a horizon, which answers have a text, and what a sink took of it.
use Rattle.std.proofs.Common.{Vec, Global, ◌≡◌, ℕ, List, refl, inl, inr, subst}
use Rattle.std.specs.Prelude.{Option, Some, None, Result, Ok, Err}
use Rattle.nf_rational.specs.Rational.{ℚ}
use Rattle.nf_net_def.specs.declared.Cause.{Cause}
use Rattle.nf_check_def.specs.declared.Answer.{Answer as Verdict}
use Rattle.nf_quick_def.specs.Quick.{Augment}
use Rattle.nf_forever.specs.declared.forever.Forever.{Forever}
use Rattle.nf_app_answers.specs.declared.status.Status.{Status}
use Rattle.nf_net_def.specs.Named.{Named}
use Rattle.nf_app_answers.specs.declared.outcome.Computed.{Computed}
use Rattle.nf_app_answers.specs.declared.outcome.Outcome.{Outcome}
use Rattle.nf_app_answers.specs.Answers.{HasOutput, out_text, err_text, text_of_stop, status_of, status_of_stop, status_of_forever}
use Rattle.nf_edge.specs.Writing.{SinkState, Wrote}
use Rattle.nf_app_files.specs.Sinks.{Took, TookText}
use Rattle.nf_app_answers.specs.Outcomes.{answer_in, answer_with, text_with, stop_of, HasTextWith}

-- the budget of phases has one of its own
pub events : (stop : Option (Cause ℚ)) → Status.Phases ≡ status_of_stop stop → Status.Events ≡ status_of_forever stop
events None e = let never : ⊥ = cc in absurd never
events (Some (Cause.Phases made)) e = refl
events (Some (Cause.Patterns phase tried)) e = let never : ⊥ = cc in absurd never
events (Some (Cause.Passed phase place at)) e = let never : ⊥ = cc in absurd never
events (Some (Cause.NoPattern phase)) e = let never : ⊥ = cc in absurd never

-- all else has the same
pub no_events : (stop : Option (Cause ℚ)) (status : Status) → status ≡ status_of_stop stop → (status ≡ Status.Phases → ⊥) → status ≡ status_of_forever stop
no_events None status e other = e
no_events (Some (Cause.Phases made)) status e other = absurd (other e)
no_events (Some (Cause.Patterns phase tried)) status e other = e
no_events (Some (Cause.Passed phase place at)) status e other = e
no_events (Some (Cause.NoPattern phase)) status e other = e

-- ---- what was found and is no run without a horizon, no verdict and no walks ends as its stop says
module _ (net : Named) where
  pub stop_status : (found : Computed) → ((forever : Forever) → found ≡ Computed.SolvedForever forever → ⊥) → ((verdict : Verdict ℕ ℕ ℚ) → found ≡ Computed.Checked verdict → ⊥)
      → ((augments : ℕ) (walks : Vec Augment Global) (text : Vec ℕ Global) → found ≡ Computed.TooManyWalks augments walks text → ⊥)
      → status_of_stop (stop_of found) ≡ status_of (answer_with net found)
  stop_status (Computed.Solved horizon s) a b w = refl
  stop_status (Computed.SolvedForever forever) a b w = absurd (a forever refl)
  stop_status (Computed.Shown text) a b w = refl
  stop_status (Computed.Loaded horizon links) a b w = refl
  stop_status (Computed.Checked verdict) a b w = absurd (b verdict refl)
  stop_status (Computed.Quickest quick arrival text) a b w = refl
  stop_status (Computed.TooManyWalks augments walks text) a b w = absurd (w augments walks text refl)
  stop_status (Computed.Generated ladder horizon s arrival) a b w = refl
  stop_status (Computed.Settled settled) a b w = refl
  stop_status (Computed.Distributed routes horizon routed) a b w = refl

  pub stop_text : (found : Computed) → ((verdict : Verdict ℕ ℕ ℚ) → found ≡ Computed.Checked verdict → ⊥)
      → ((augments : ℕ) (walks : Vec Augment Global) (text : Vec ℕ Global) → found ≡ Computed.TooManyWalks augments walks text → ⊥)
      → text_of_stop (stop_of found) ≡ err_text (answer_with net found)
  stop_text (Computed.Solved horizon s) b w = refl
  stop_text (Computed.SolvedForever forever) b w = refl
  stop_text (Computed.Shown text) b w = refl
  stop_text (Computed.Loaded horizon links) b w = refl
  stop_text (Computed.Checked verdict) b w = absurd (b verdict refl)
  stop_text (Computed.Quickest quick arrival text) b w = refl
  stop_text (Computed.TooManyWalks augments walks text) b w = absurd (w augments walks text refl)
  stop_text (Computed.Generated ladder horizon s arrival) b w = refl
  stop_text (Computed.Settled settled) b w = refl
  stop_text (Computed.Distributed routes horizon routed) b w = refl

-- an outcome has a text
writes_with : (net : Named) (found : Computed) → HasOutput (answer_with net found)
writes_with net (Computed.Solved horizon s) = tt
writes_with net (Computed.SolvedForever forever) = tt
writes_with net (Computed.Shown text) = tt
writes_with net (Computed.Loaded horizon links) = tt
writes_with net (Computed.Checked verdict) = tt
writes_with net (Computed.Quickest quick arrival text) = tt
writes_with net (Computed.TooManyWalks augments walks text) = tt
writes_with net (Computed.Generated ladder horizon s arrival) = tt
writes_with net (Computed.Settled settled) = tt
writes_with net (Computed.Distributed routes horizon routed) = tt

pub writes : (outcome : Outcome) → HasOutput (answer_in outcome)
writes outcome = writes_with outcome.net outcome.found

-- ---- its text
pub text_is : (net : Named) (found : Computed) → HasTextWith net found → text_with net found ≡ out_text (answer_with net found)
text_is net (Computed.Solved horizon s) h = refl
text_is net (Computed.SolvedForever forever) h = refl
text_is net (Computed.Shown text) h = h
text_is net (Computed.Loaded horizon links) h = refl
text_is net (Computed.Checked verdict) h = refl
text_is net (Computed.Quickest quick arrival text) h = refl
text_is net (Computed.TooManyWalks augments walks text) h = h
text_is net (Computed.Generated ladder horizon s arrival) h = refl
text_is net (Computed.Settled settled) h = refl
text_is net (Computed.Distributed routes horizon routed) h = refl

-- ---- what a sink took of a text that was written to it
pub took_same : (sink : Took) (first text : List ℕ) → first ≡ text → TookText sink first → TookText sink text
took_same sink first text same took = subst (λ (t : List ℕ). TookText sink t) same took

pub took_text : {E : Type 0} (old now : SinkState) (text : List ℕ) (r : Result (Unit {0}) E) → Wrote old now text r
    → TookText (record { before = old.took; now = now.took; faults_before = old.faults; faults_now = now.faults }) text
took_text old now text (Ok u) w = inl (record { all = w.whole; no_fault = w.no_fault })
took_text old now text (Err e) w = inr (record { front = w.front; cause = w.cause })
