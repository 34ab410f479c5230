-- What `resume` writes of the report of a run: the report of one run from the start.
use Rattle.std.proofs.Common.{◌≡◌, ℕ, List, refl, sym, ap, subst, ◌∙◌, inl, inr, None}
use Rattle.nf_app.proofs.Common.{ℚ, passes_Q, same_value, IsNetwork, Equilibrium, Named, Report, report_text, report_in, IsResumedReport, bounds_of}
use Rattle.nf_app.proofs.Common.{Request, Solve, SolveForever, Show, Load, Check, Quick, Gen, Settle, Resume, Routes, Status, ProgramAnswer, Solved}
use Rattle.nf_app.proofs.Common.{Checked, Passes, Earlier, MalformedReport, status_of, out_text, TookAll, IsShown, bounds_to, IsResultOf, ResumeAnswer, Run}
use Rattle.nf_app.proofs.Common.{Ran, second_bytes, AsksToResumeRun, WritesReportOfOneRun, ReportIsOfOneRun, AnswerIsOfOneRun, ComputesReportOfOneRun}
use Rattle.nf_phase_laws.proofs.Run.{report_equilibrium}
use Rattle.nf_phase_run_laws.proofs.Ends.{resumed-solved}
use Rattle.nf_app.proofs.ToldRequests.{Answers, told_answers}
use Rattle.nf_app.proofs.Solving.{no_stop}

-- ---- the report that was read in this call
module _ (n : Named) (text : List ℕ) (horizon : ℚ) (phases patterns : ℕ) (good : IsNetwork n.net) where
  one_run : (answer : ProgramAnswer) (g : ResumeAnswer n text (bounds_to horizon phases patterns) answer) → ReportIsOfOneRun n text (bounds_to horizon phases patterns) g.new
  one_run answer g r ended =
      let same : g.old ≡ r.old = same_value (report_in n text) g.old r.old g.read.reads r.reads in
      let on : IsResumedReport passes_Q n.net (bounds_to horizon phases patterns) r.old g.made g.new =
      subst (λ (o : Report). IsResumedReport passes_Q n.net (bounds_to horizon phases patterns) o g.made g.new) same g.resumed in
      resumed-solved passes_Q n.net good r.first_bounds (bounds_of horizon r.later_budgets) (bounds_to horizon phases patterns) r.old r.later.report g.new g.made
      r.first r.later.is_report r.later.no_stop on ended refl r.rest

  solved_one : (file name : List ℕ) (answer : ProgramAnswer) (new : Report) → answer ≡ Solved n new → IsResultOf n text (Resume file name horizon phases patterns) answer
      → ReportIsOfOneRun n text (bounds_to horizon phases patterns) new
  solved_one file name answer new e (inl g) =
      let same : g.new ≡ new = (let h : Solved n g.new ≡ Solved n new = sym g.is ∙ e in cc) in
      subst (λ (r : Report). ReportIsOfOneRun n text (bounds_to horizon phases patterns) r) same (one_run answer g)
  solved_one file name answer new e (inr (inl g)) = absurd (let h : MalformedReport g.0 ≡ Solved n new = sym g.1 ∙ e in cc)
  solved_one file name answer new e (inr (inr (inl g))) = absurd (let h : Passes g.0 ≡ Solved n new = sym g.1 ∙ e in cc)
  solved_one file name answer new e (inr (inr (inr (inl g)))) = absurd (let h : Earlier ≡ Solved n new = sym g.0 ∙ e in cc)
  solved_one file name answer new e (inr (inr (inr (inr g)))) = absurd (let h : Checked n g.0 ≡ Solved n new = sym g.1 ∙ e in cc)

given_one : (n : Named) (text : List ℕ) (request : Request) (answer : ProgramAnswer) → IsNetwork n.net → IsResultOf n text request answer → AnswerIsOfOneRun n text request answer
given_one n text (Solve file horizon phases patterns) answer good g = tt
given_one n text (SolveForever file phases patterns) answer good g = tt
given_one n text (Show file) answer good g = tt
given_one n text (Load file loads horizon) answer good g = tt
given_one n text (Check file report) answer good g = tt
given_one n text (Quick file amount augments) answer good g = tt
given_one n text (Gen number rungs horizon phases patterns) answer good g = tt
given_one n text (Settle file flows) answer good g = tt
given_one n text (Resume file name horizon phases patterns) answer good g = λ new e. solved_one n text horizon phases patterns good file name answer new e g
given_one n text (Routes file routes horizon) answer good g = tt

pub computes_report_of_one_run : (run : Run) → ComputesReportOfOneRun run
computes_report_of_one_run run answer c = given_one c.net c.second c.request answer c.named.network c.is_result

-- ---- a report that is known to proofs
module _ (run : Run) (r : AsksToResumeRun run.call) where
  abbrev n : Named
  n = r.told.net

  abbrev text : List ℕ
  text = second_bytes r.told.texts

  abbrev HasWritten : ProgramAnswer → Type 0
  HasWritten answer = out_text answer ≡ report_text n r.resumes.later.report

  ok_passed : (status : Status) → status ≡ Status.Passed → status ≡ Status.Ok → ⊥
  ok_passed status h k = cc

  ok_malformed : (status : Status) → status ≡ Status.Malformed → status ≡ Status.Ok → ⊥
  ok_malformed status h k = cc

  ok_earlier : (status : Status) → status ≡ Status.Earlier → status ≡ Status.Ok → ⊥
  ok_earlier status h k = cc

  ok_memory : (status : Status) → status ≡ Status.Memory → status ≡ Status.Ok → ⊥
  ok_memory status h k = cc

  ok_shelf : (status : Status) → status ≡ Status.Shelf → status ≡ Status.Ok → ⊥
  ok_shelf status h k = cc

  ok_output : (status : Status) → status ≡ Status.Output → status ≡ Status.Ok → ⊥
  ok_output status h k = cc

  whole_text : (answer : ProgramAnswer) → IsNetwork n.net → IsResultOf n text (Resume r.file r.report_name r.horizon r.phases r.patterns) answer
      → status_of answer ≡ Status.Ok → HasWritten answer
  whole_text answer good (inl g) e =
      let ended : g.new.stop ≡ None = no_stop g.new.stop (sym (ap status_of g.is) ∙ e) in
      let same : g.new ≡ r.resumes.later.report = one_run n text r.horizon r.phases r.patterns good answer g r.resumes ended in
      ap out_text g.is ∙ ap (report_text n) same
  whole_text answer good (inr (inl g)) e = absurd (ok_malformed (status_of answer) (ap status_of g.1) e)
  whole_text answer good (inr (inr (inl g))) e = absurd (ok_passed (status_of answer) (ap status_of g.1) e)
  whole_text answer good (inr (inr (inr (inl g)))) e = absurd (ok_earlier (status_of answer) (ap status_of g.0) e)
  whole_text answer good (inr (inr (inr (inr g)))) e =
      let same : r.resumes.old ≡ g.2.old = same_value (report_in n text) r.resumes.old g.2.old r.resumes.reads g.2.read.reads in
      absurd (g.2.refused.none (subst (λ (old : Report). Equilibrium n.net old.flow) same (report_equilibrium passes_Q n.net good r.resumes.first_bounds r.resumes.old r.resumes.first)))

  by_answer : (answer : ProgramAnswer) → status_of answer ≡ Status.Ok → Answers run.call r.told answer → HasWritten answer
  by_answer answer ok (inl none) = absurd (ok_memory (status_of answer) (ap status_of none) ok)
  by_answer answer ok (inr (inl h)) = absurd (ok_shelf (status_of answer) h.0 ok)
  by_answer answer ok (inr (inr h)) =
      whole_text answer h.0.network (subst (λ (q : Request). IsResultOf n text q answer) r.is h.1) ok

  by_shown : (ran : Ran run) → run.status ≡ Status.Ok → IsShown ran.answer run.out run.err run.status → TookAll run.out (report_text n r.resumes.later.report)
  by_shown ran ok (inl h) = subst (λ (text : List ℕ). TookAll run.out text)
      (by_answer ran.answer (sym h.status_is ∙ ok) (told_answers run.call r.told ran.answer ran.comes)) h.took.all
  by_shown ran ok (inr h) = absurd (ok_output run.status h.status_is ok)

pub writes_report_of_one_run : (run : Run) → Ran run → WritesReportOfOneRun run
writes_report_of_one_run run ran r ok = by_shown run r ran ok ran.shown
