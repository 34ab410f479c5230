-- How a call ends whose files are known, within their limits and well formed: command by command.
use Rattle.std.proofs.Common.{◌≡◌, ℕ, List, [], ◌∷◌, refl, sym, ◌∙◌, ap, subst, inl, inr, Option, Some, None, IsSome, Ok, Err}
use Rattle.nf_app.proofs.Common.{ℚ, ◌≤ℚ◌, not_both_ℚ, IsOk-not_Err, Ok_not_Err, passes_Q, PassedAt, same_value, IsNetwork, Equilibrium, Cause, Named}
use Rattle.nf_app.proofs.Common.{Report, one_report, Yes, No, loads_in, report_in, flows_in, Forever, one_forever, IsResumedReport, RoutesBroken}
use Rattle.nf_app.proofs.Common.{NamedRoute, ReadsRoutes, routes_in, only_reading, NeverNoPattern, never_report, never_resumed, never_forever, Request}
use Rattle.nf_app.proofs.Common.{Solve, SolveForever, Show, Load, Check, Quick, Gen, Settle, Resume, Routes, Status, ProgramAnswer, status_of}
use Rattle.nf_app.proofs.Common.{status_of_stop, status_of_forever, status_of_verdict, IsShownWhole, bounds_to, IsResultOf, Run, Ran, NoFault, IsOneOf}
use Rattle.nf_app.proofs.Common.{second_bytes, endings, ToldRequest, endings_of, EndsWell, IsComplete}
use Rattle.nf_check_def.specs.declared.Answer.{Answer as Verdict}
use Rattle.nf_app.proofs.Only.{whole}
use Rattle.nf_app.proofs.ToldRequests.{Answers, told_answers}

-- ---- by the stop of a run, or the verdict
abbrev RunEnds : List Status → List Status
RunEnds more = Status.Memory ∷ Status.Ok ∷ Status.Phases ∷ Status.Patterns ∷ Status.Passed ∷ more

run_ends : (more : List Status) (stop : Option (Cause ℚ)) → NeverNoPattern stop → IsOneOf (status_of_stop stop) (RunEnds more)
run_ends more None never = inr (inl refl)
run_ends more (Some (Cause.Phases made)) never = inr (inr (inl refl))
run_ends more (Some (Cause.Patterns phase tried)) never = inr (inr (inr (inl refl)))
run_ends more (Some (Cause.Passed phase place at)) never = inr (inr (inr (inr (inl refl))))
run_ends more (Some (Cause.NoPattern phase)) never = absurd (never phase refl)

forever_ends : (stop : Option (Cause ℚ)) → NeverNoPattern stop
    → IsOneOf (status_of_forever stop) (Status.Memory ∷ Status.Ok ∷ Status.Events ∷ Status.Patterns ∷ Status.Passed ∷ [])
forever_ends None never = inr (inl refl)
forever_ends (Some (Cause.Phases made)) never = inr (inr (inl refl))
forever_ends (Some (Cause.Patterns phase tried)) never = inr (inr (inr (inl refl)))
forever_ends (Some (Cause.Passed phase place at)) never = inr (inr (inr (inr (inl refl))))
forever_ends (Some (Cause.NoPattern phase)) never = absurd (never phase refl)

verdict_ends : (more : List Status) (verdict : Verdict ℕ ℕ ℚ) → IsOneOf (status_of_verdict verdict) (Status.Memory ∷ Status.Ok ∷ Status.NotEquilibrium ∷ more)
verdict_ends more Yes = inr (inl refl)
verdict_ends more (No rule subject time left right) = inr (inr (inl refl))

rest_verdict_ends : (verdict : Verdict ℕ ℕ ℚ) → IsOneOf (status_of_verdict verdict) (RunEnds (Status.NotEquilibrium ∷ Status.Earlier ∷ []))
rest_verdict_ends Yes = inr (inl refl)
rest_verdict_ends (No rule subject time left right) = inr (inr (inr (inr (inr (inl refl)))))

along : (ends : List Status) (answer other : ProgramAnswer) → answer ≡ other → IsOneOf (status_of other) ends → IsOneOf (status_of answer) ends
along ends answer other e h = subst (λ (a : ProgramAnswer). IsOneOf (status_of a) ends) (sym e) h

-- ---- the commands
module _ (n : Named) (text : List ℕ) (good : IsNetwork n.net) (answer : ProgramAnswer) where
  routes_once : (read : List NamedRoute) (broken : RoutesBroken) → ReadsRoutes n text (Ok read) → ReadsRoutes n text (Err broken) → ⊥
  routes_once read broken h k = Ok_not_Err (routes_in n text) read broken (only_reading n text (Ok read) h) (only_reading n text (Err broken) k)

  all_end : (request : Request) → (endings n text request).second_reads → IsResultOf n text request answer → IsOneOf (status_of answer) (Status.Memory ∷ (endings n text request).may)
  all_end (Solve file horizon phases patterns) reads g = along (RunEnds []) answer _ g.is
      (run_ends [] g.report.stop (never_report passes_Q n.net (bounds_to horizon phases patterns) g.report good g.run))
  all_end (SolveForever file phases patterns) reads g = along (Status.Memory ∷ Status.Ok ∷ Status.Events ∷ Status.Patterns ∷ Status.Passed ∷ []) answer _ g.is
      (forever_ends g.forever.stop (never_forever passes_Q n.net phases patterns g.forever good g.run))
  all_end (Show file) reads g = inr (inl (ap status_of g.is))
  all_end (Load file loads horizon) reads (inl g) = inr (inl (ap status_of g.is))
  all_end (Load file loads horizon) reads (inr (inl g)) = absurd (IsOk-not_Err (loads_in n text) g.0 reads g.2)
  all_end (Load file loads horizon) reads (inr (inr g)) = inr (inr (inl (ap status_of g.1)))
  all_end (Check file report) reads (inl g) = along (Status.Memory ∷ Status.Ok ∷ Status.NotEquilibrium ∷ Status.Passed ∷ []) answer _ g.is (verdict_ends (Status.Passed ∷ []) g.verdict)
  all_end (Check file report) reads (inr (inl g)) = absurd (IsOk-not_Err (report_in n text) g.0 reads g.2.breaks)
  all_end (Check file report) reads (inr (inr g)) = inr (inr (inr (inl (ap status_of g.1))))
  all_end (Quick file amount augments) reads (inl g) = inr (inl (ap status_of g.is))
  all_end (Quick file amount augments) reads (inr (inl g)) = inr (inr (inl (ap status_of g.1)))
  all_end (Quick file amount augments) reads (inr (inr (inl g))) = inr (inr (inr (inr (inl (ap status_of g.1)))))
  all_end (Quick file amount augments) reads (inr (inr (inr g))) = inr (inr (inr (inl (ap status_of g.0))))
  all_end (Gen number rungs horizon phases patterns) reads g = along (RunEnds []) answer _ g.is
      (run_ends [] g.report.stop (never_report passes_Q n.net (bounds_to horizon phases patterns) g.report good g.solution.run))
  all_end (Settle file flows) reads (inl g) = inr (inl (ap status_of g.is))
  all_end (Settle file flows) reads (inr (inl g)) = absurd (IsOk-not_Err (flows_in n text) g.0 reads g.2)
  all_end (Settle file flows) reads (inr (inr (inl g))) = inr (inr (inr (inl (ap status_of g.1))))
  all_end (Settle file flows) reads (inr (inr (inr g))) = inr (inr (inl (ap status_of g.0)))
  all_end (Resume file report horizon phases patterns) reads (inl g) = along (RunEnds (Status.NotEquilibrium ∷ Status.Earlier ∷ [])) answer _ g.is
      (run_ends (Status.NotEquilibrium ∷ Status.Earlier ∷ []) g.new.stop
      (never_resumed passes_Q n.net (bounds_to horizon phases patterns) g.old g.made g.new good g.read.well_formed g.resumed))
  all_end (Resume file report horizon phases patterns) reads (inr (inl g)) = absurd (IsOk-not_Err (report_in n text) g.0 reads g.2.breaks)
  all_end (Resume file report horizon phases patterns) reads (inr (inr (inl g))) = inr (inr (inr (inr (inl (ap status_of g.1)))))
  all_end (Resume file report horizon phases patterns) reads (inr (inr (inr (inl g)))) = inr (inr (inr (inr (inr (inr (inl (ap status_of g.0)))))))
  all_end (Resume file report horizon phases patterns) reads (inr (inr (inr (inr g)))) =
      along (RunEnds (Status.NotEquilibrium ∷ Status.Earlier ∷ [])) answer _ g.1 (rest_verdict_ends g.0)
  all_end (Routes file routes horizon) reads (inl g) = inr (inl (ap status_of g.is))
  all_end (Routes file routes horizon) reads (inr (inl g)) = absurd (routes_once reads.0 g.0 reads.1 g.2)
  all_end (Routes file routes horizon) reads (inr (inr g)) = inr (inr (inl (ap status_of g.1)))

  -- a report that is resumed; an operation that exceeds the bound is no cause
  rest_ends : (stop : Option (Cause ℚ)) → NeverNoPattern stop → ((phase : ℕ) (place : Option ℕ) (at : PassedAt ℚ) → stop ≡ Some (Cause.Passed phase place at) → ⊥)
      → IsOneOf (status_of_stop stop) (Status.Memory ∷ Status.Ok ∷ Status.Phases ∷ Status.Patterns ∷ [])
  rest_ends None never fits = inr (inl refl)
  rest_ends (Some (Cause.Phases made)) never fits = inr (inr (inl refl))
  rest_ends (Some (Cause.Patterns phase tried)) never fits = inr (inr (inr (inl refl)))
  rest_ends (Some (Cause.Passed phase place at)) never fits = absurd (fits phase place at refl)
  rest_ends (Some (Cause.NoPattern phase)) never fits = absurd (never phase refl)

  best_end : (request : Request) → (endings n text request).second_reads → (endings n text request).unhindered → IsResultOf n text request answer
      → IsOneOf (status_of answer) (Status.Memory ∷ (endings n text request).best)
  best_end (Solve file horizon phases patterns) reads can g =
      let same : g.report ≡ can.report = one_report passes_Q n.net (bounds_to horizon phases patterns) g.report can.report g.run can.is_report in
      inr (inl (ap status_of g.is ∙ ap (λ (r : Report). status_of_stop r.stop) same ∙ ap status_of_stop can.no_stop))
  best_end (SolveForever file phases patterns) reads can g =
      let same : can.forever ≡ g.forever = one_forever passes_Q n.net phases patterns can.forever g.forever can.is_run g.run in
      inr (inl (ap status_of g.is ∙ ap status_of_forever (g.tail.0 (subst (λ (f : Forever). IsSome f.tail) same can.has_tail))))
  best_end (Show file) reads can g = inr (inl (ap status_of g.is))
  best_end (Load file loads horizon) reads can (inl g) = inr (inl (ap status_of g.is))
  best_end (Load file loads horizon) reads can (inr (inl g)) = absurd (IsOk-not_Err (loads_in n text) g.0 reads g.2)
  best_end (Load file loads horizon) reads can (inr (inr g)) = absurd (can g.0 g.2)
  best_end (Check file report) reads can (inl g) = along (Status.Memory ∷ Status.Ok ∷ Status.NotEquilibrium ∷ []) answer _ g.is (verdict_ends [] g.verdict)
  best_end (Check file report) reads can (inr (inl g)) = absurd (IsOk-not_Err (report_in n text) g.0 reads g.2.breaks)
  best_end (Check file report) reads can (inr (inr g)) = absurd (can g.0 g.2)
  best_end (Quick file amount augments) reads can (inl g) = inr (inl (ap status_of g.is))
  best_end (Quick file amount augments) reads can (inr (inl g)) = inr (inr (inl (ap status_of g.1)))
  best_end (Quick file amount augments) reads can (inr (inr (inl g))) = absurd (can g.0 g.2)
  best_end (Quick file amount augments) reads can (inr (inr (inr g))) = inr (inr (inr (inl (ap status_of g.0))))
  best_end (Gen number rungs horizon phases patterns) reads can g =
      let same : g.report ≡ can.report = one_report passes_Q n.net (bounds_to horizon phases patterns) g.report can.report g.solution.run can.is_report in
      inr (inl (ap status_of g.is ∙ ap (λ (r : Report). status_of_stop r.stop) same ∙ ap status_of_stop can.no_stop))
  best_end (Settle file flows) reads can (inl g) = inr (inl (ap status_of g.is))
  best_end (Settle file flows) reads can (inr (inl g)) = absurd (IsOk-not_Err (flows_in n text) g.0 reads g.2)
  best_end (Settle file flows) reads can (inr (inr (inl g))) = absurd (can g.0 g.2)
  best_end (Settle file flows) reads can (inr (inr (inr g))) = inr (inr (inl (ap status_of g.0)))
  best_end (Resume file report horizon phases patterns) reads can (inl g) =
      let old : g.old ≡ can.old = same_value (report_in n text) g.old can.old g.read.reads can.reads in
      let resumed : IsResumedReport passes_Q n.net (bounds_to horizon phases patterns) can.old g.made g.new =
      subst (λ (r : Report). IsResumedReport passes_Q n.net (bounds_to horizon phases patterns) r g.made g.new) old g.resumed in
      along (Status.Memory ∷ Status.Ok ∷ Status.Phases ∷ Status.Patterns ∷ []) answer _ g.is (rest_ends g.new.stop
      (never_resumed passes_Q n.net (bounds_to horizon phases patterns) g.old g.made g.new good g.read.well_formed g.resumed)
      (λ phase place at e. can.never_passes g.new g.made phase place at resumed e))
  best_end (Resume file report horizon phases patterns) reads can (inr (inl g)) = absurd (IsOk-not_Err (report_in n text) g.0 reads g.2.breaks)
  best_end (Resume file report horizon phases patterns) reads can (inr (inr (inl g))) = absurd (can.fits g.0 g.2)
  best_end (Resume file report horizon phases patterns) reads can (inr (inr (inr (inl g)))) =
      let old : can.old ≡ g.1.old = same_value (report_in n text) can.old g.1.old can.reads g.1.read.reads in
      absurd (not_both_ℚ _ _ g.1.earlier (subst (λ (r : Report). r.flow.reached ≤ℚ horizon) old can.not_earlier))
  best_end (Resume file report horizon phases patterns) reads can (inr (inr (inr (inr g)))) =
      let old : can.old ≡ g.2.old = same_value (report_in n text) can.old g.2.old can.reads g.2.read.reads in
      absurd (g.2.refused.none (subst (λ (r : Report). Equilibrium n.net r.flow) old can.equilibrium))
  best_end (Routes file routes horizon) reads can (inl g) = inr (inl (ap status_of g.is))
  best_end (Routes file routes horizon) reads can (inr (inl g)) = absurd (routes_once reads.0 g.0 reads.1 g.2)
  best_end (Routes file routes horizon) reads can (inr (inr g)) = absurd (can g.0 g.2)

-- ---- a whole run
module _ (run : Run) (ran : Ran run) (no_fault : NoFault run) (t : ToldRequest run.call) where
  shown : IsShownWhole ran.answer run.out run.err run.status
  shown = whole ran.answer run.out run.err run.status no_fault.out ran.shown

  ends_so : (ends : List Status) → (IsNetwork t.net.net → IsResultOf t.net (second_bytes t.texts) t.request ran.answer → IsOneOf (status_of ran.answer) (Status.Memory ∷ ends))
      → Answers run.call t ran.answer → IsOneOf run.status (Status.Memory ∷ ends)
  ends_so ends end (inl none) = inl (shown.status_is ∙ ap status_of none)
  ends_so ends end (inr (inl h)) = absurd (no_fault.shelf h.1)
  ends_so ends end (inr (inr h)) = subst (λ (s : Status). IsOneOf s (Status.Memory ∷ ends)) (sym shown.status_is) (end h.0.network h.1)

  ends_well : EndsWell run t
  ends_well = record {
    ends = ends_so (endings_of t).may (λ good g. all_end t.net (second_bytes t.texts) good ran.answer t.request t.second_reads g) (told_answers run.call t ran.answer ran.comes);
    unhindered = λ can.
        ends_so (endings_of t).best (λ good g. best_end t.net (second_bytes t.texts) good ran.answer t.request t.second_reads can g) (told_answers run.call t ran.answer ran.comes);
  }

pub complete : (run : Run) → Ran run → IsComplete run
complete run ran no_fault t = ends_well run ran no_fault t
