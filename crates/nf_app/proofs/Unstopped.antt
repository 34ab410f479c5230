-- No run that an answer tells of stopped since no pattern was left; so that is the status of no answer.
use Rattle.std.proofs.Common.{◌≡◌, ℕ, List, inl, inr, sym, ap, subst, refl, ◌∙◌, Option, Some, None}
use Rattle.nf_app.proofs.Common.{none-some, ℚ, passes_Q, Network, IsNetwork, Cause, Named, Yes, No, bounds_of, NeverNoPattern, never_report, never_resumed}
use Rattle.nf_app.proofs.Common.{never_forever, Arrival, Status, ProgramAnswer, Solved, SolvedForever, Shown, Loaded, Checked, Quickest, TooManyWalks}
use Rattle.nf_app.proofs.Common.{Generated, Settled, Distributed, NoMemory, NoRequest, ShelfFailed, ShelfTooLong, Malformed, MalformedLoads, MalformedFlows}
use Rattle.nf_app.proofs.Common.{MalformedRoutes, MalformedReport, Passes, Unbounded, NotThin, Earlier, status_of, status_of_stop, status_of_forever}
use Rattle.nf_app.proofs.Common.{status_of_verdict, IsShown, Request, Solve, SolveForever, Show, Load, Check, Quick, Gen, Settle, Resume, Routes}
use Rattle.nf_app.proofs.Common.{usual_budgets, bounds_to, arrival_of, IsArrivalOf, IsResultOf, Call, Run, IsRefusedCall, MayAnswer, Ran}
use Rattle.nf_check_def.specs.declared.Answer.{Answer as Verdict}
use Rattle.nf_app.specs.Stops.{stop_of_arrival, stop_in, AlwaysHasPattern}

-- ---- an answer without a run
none_never : (stop : Option (Cause ℚ)) → stop ≡ None → NeverNoPattern stop
none_never stop none phase e = none-some (Cause.NoPattern phase) (sym none ∙ e)

no_run : (answer other : ProgramAnswer) → answer ≡ other → stop_in other ≡ None → NeverNoPattern (stop_in answer)
no_run answer other e none = none_never (stop_in answer) (ap stop_in e ∙ none)

with_stop : (answer other : ProgramAnswer) → answer ≡ other → NeverNoPattern (stop_in other) → NeverNoPattern (stop_in answer)
with_stop answer other e never = subst (λ (a : ProgramAnswer). NeverNoPattern (stop_in a)) (sym e) never

refused_never : (call : Call) (answer : ProgramAnswer) → IsRefusedCall call answer → NeverNoPattern (stop_in answer)
refused_never call (Solved n report) h = absurd h
refused_never call (SolvedForever n forever) h = absurd h
refused_never call (Generated number rungs n made report) h = absurd h
refused_never call (Quickest n quick arrival) h = absurd h
refused_never call answer h = none_never None refl

-- ---- the arrival beside a quickest flow
arrival_stop : (stop : Option (Cause ℚ)) (time : ℚ) → stop_of_arrival (arrival_of stop time) ≡ stop
arrival_stop None time = refl
arrival_stop (Some cause) time = refl

arrival_never : (net : Network) (departs : Option ℚ) (arrival : Arrival) → IsNetwork net → IsArrivalOf net departs arrival → NeverNoPattern (stop_of_arrival arrival)
arrival_never net None arrival good is = none_never (stop_of_arrival arrival) (ap stop_of_arrival is)
arrival_never net (Some departs) arrival good is = subst NeverNoPattern (sym (ap stop_of_arrival is.arrival_is ∙ arrival_stop is.report.stop _))
    (never_report passes_Q net (bounds_of departs usual_budgets) is.report good is.solution.run)

-- ---- what a request gives with its network
given_never : (n : Named) (text : List ℕ) (request : Request) (answer : ProgramAnswer) → IsNetwork n.net → IsResultOf n text request answer → NeverNoPattern (stop_in answer)
given_never n text (Solve file horizon phases patterns) answer good g =
    with_stop answer (Solved n g.report) g.is (never_report passes_Q n.net (bounds_to horizon phases patterns) g.report good g.run)
given_never n text (SolveForever file phases patterns) answer good g =
    with_stop answer (SolvedForever n g.forever) g.is (never_forever passes_Q n.net phases patterns g.forever good g.run)
given_never n text (Show file) answer good g = no_run answer (Shown n) g.is refl
given_never n text (Load file loads horizon) answer good (inl g) = no_run answer (Loaded n horizon g.loaded) g.is refl
given_never n text (Load file loads horizon) answer good (inr (inl g)) = no_run answer (MalformedLoads g.0) g.1 refl
given_never n text (Load file loads horizon) answer good (inr (inr g)) = no_run answer (Passes g.0) g.1 refl
given_never n text (Check file report) answer good (inl g) = no_run answer (Checked n g.verdict) g.is refl
given_never n text (Check file report) answer good (inr (inl g)) = no_run answer (MalformedReport g.0) g.1 refl
given_never n text (Check file report) answer good (inr (inr g)) = no_run answer (Passes g.0) g.1 refl
given_never n text (Quick file amount augments) answer good (inl g) = with_stop answer (Quickest n g.quick g.arrival) g.is (arrival_never n.net g.departs g.arrival good g.arrives)
given_never n text (Quick file amount augments) answer good (inr (inl g)) = no_run answer (TooManyWalks n augments g.0) g.1 refl
given_never n text (Quick file amount augments) answer good (inr (inr (inl g))) = no_run answer (Passes g.0) g.1 refl
given_never n text (Quick file amount augments) answer good (inr (inr (inr g))) = no_run answer Unbounded g.0 refl
given_never n text (Gen number rungs horizon phases patterns) answer good g =
    with_stop answer (Generated number rungs n g.made g.report) g.is (never_report passes_Q n.net (bounds_to horizon phases patterns) g.report good g.solution.run)
given_never n text (Settle file flows) answer good (inl g) = no_run answer (Settled n g.pattern g.flows) g.is refl
given_never n text (Settle file flows) answer good (inr (inl g)) = no_run answer (MalformedFlows g.0) g.1 refl
given_never n text (Settle file flows) answer good (inr (inr (inl g))) = no_run answer (Passes g.0) g.1 refl
given_never n text (Settle file flows) answer good (inr (inr (inr g))) = no_run answer NotThin g.0 refl
given_never n text (Resume file report horizon phases patterns) answer good (inl g) =
    with_stop answer (Solved n g.new) g.is (never_resumed passes_Q n.net (bounds_to horizon phases patterns) g.old g.made g.new good g.read.well_formed g.resumed)
given_never n text (Resume file report horizon phases patterns) answer good (inr (inl g)) = no_run answer (MalformedReport g.0) g.1 refl
given_never n text (Resume file report horizon phases patterns) answer good (inr (inr (inl g))) = no_run answer (Passes g.0) g.1 refl
given_never n text (Resume file report horizon phases patterns) answer good (inr (inr (inr (inl g)))) = no_run answer Earlier g.0 refl
given_never n text (Resume file report horizon phases patterns) answer good (inr (inr (inr (inr g)))) = no_run answer (Checked n g.0) g.1 refl
given_never n text (Routes file routes horizon) answer good (inl g) = no_run answer (Distributed n g.routes horizon g.routed) g.is refl
given_never n text (Routes file routes horizon) answer good (inr (inl g)) = no_run answer (MalformedRoutes g.0) g.1 refl
given_never n text (Routes file routes horizon) answer good (inr (inr g)) = no_run answer (Passes g.0) g.1 refl

pub answer_never : (call : Call) (answer : ProgramAnswer) → MayAnswer call answer → NeverNoPattern (stop_in answer)
answer_never call answer (inl h) = refused_never call answer h
answer_never call answer (inr h) = given_never h.net h.second h.request answer h.named.network h.is_result

-- ---- the status
by_stop : (stop : Option (Cause ℚ)) → NeverNoPattern stop → status_of_stop stop ≡ Status.NoPattern → ⊥
by_stop None never e = absurd (cc)
by_stop (Some (Cause.Phases made)) never e = absurd (cc)
by_stop (Some (Cause.Patterns phase tried)) never e = absurd (cc)
by_stop (Some (Cause.Passed phase place at)) never e = absurd (cc)
by_stop (Some (Cause.NoPattern phase)) never e = never phase refl

by_forever : (stop : Option (Cause ℚ)) → NeverNoPattern stop → status_of_forever stop ≡ Status.NoPattern → ⊥
by_forever None never e = absurd (cc)
by_forever (Some (Cause.Phases made)) never e = absurd (cc)
by_forever (Some (Cause.Patterns phase tried)) never e = absurd (cc)
by_forever (Some (Cause.Passed phase place at)) never e = absurd (cc)
by_forever (Some (Cause.NoPattern phase)) never e = never phase refl

by_verdict : (verdict : Verdict ℕ ℕ ℚ) → status_of_verdict verdict ≡ Status.NoPattern → ⊥
by_verdict Yes e = absurd (cc)
by_verdict (No rule subject time left right) e = absurd (cc)

by_answer : (answer : ProgramAnswer) → NeverNoPattern (stop_in answer) → status_of answer ≡ Status.NoPattern → ⊥
by_answer (Solved n report) never e = by_stop report.stop never e
by_answer (SolvedForever n forever) never e = by_forever forever.stop never e
by_answer (Generated number rungs n made report) never e = by_stop report.stop never e
by_answer (Checked n verdict) never e = by_verdict verdict e
by_answer (Shown n) never e = absurd (cc)
by_answer (Loaded n horizon loaded) never e = absurd (cc)
by_answer (Quickest n quick arrival) never e = absurd (cc)
by_answer (TooManyWalks n augments walks) never e = absurd (cc)
by_answer (Settled n pattern flows) never e = absurd (cc)
by_answer (Distributed n routes horizon routed) never e = absurd (cc)
by_answer NoMemory never e = absurd (cc)
by_answer NoRequest never e = absurd (cc)
by_answer ShelfFailed never e = absurd (cc)
by_answer ShelfTooLong never e = absurd (cc)
by_answer (Malformed broken) never e = absurd (cc)
by_answer (MalformedLoads broken) never e = absurd (cc)
by_answer (MalformedFlows broken) never e = absurd (cc)
by_answer (MalformedRoutes broken) never e = absurd (cc)
by_answer (MalformedReport broken) never e = absurd (cc)
by_answer (Passes at) never e = absurd (cc)
by_answer Unbounded never e = absurd (cc)
by_answer NotThin never e = absurd (cc)
by_answer Earlier never e = absurd (cc)

pub status_never : (call : Call) (answer : ProgramAnswer) → MayAnswer call answer → status_of answer ≡ Status.NoPattern → ⊥
status_never call answer comes = by_answer answer (answer_never call answer comes)

output_other : (status : Status) → status ≡ Status.Output → status ≡ Status.NoPattern → ⊥
output_other status o e = absurd (cc)

-- ---- a whole run
status_so : (run : Run) (answer : ProgramAnswer) → MayAnswer run.call answer → IsShown answer run.out run.err run.status → run.status ≡ Status.NoPattern → ⊥
status_so run answer comes (inl h) e = status_never run.call answer comes (sym h.status_is ∙ e)
status_so run answer comes (inr h) e = output_other run.status h.status_is e

pub always_pattern : (run : Run) → Ran run → AlwaysHasPattern run
always_pattern run ran = record { stops = answer_never run.call; not_status = status_so run ran.answer ran.comes ran.shown }
