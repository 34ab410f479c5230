-- `check` says yes of what `solve` wrote, and `resume` of one such text writes another.
use Rattle.std.proofs.Common.{◌≡◌, ◌⊎◌, ℕ, Bool, true, false, List, [], ◌∷◌, ◌++◌, refl, sym, ap, subst, ◌∙◌, inl, inr, Some, IsOk, is_ok, Result, Ok}
use Rattle.std.proofs.Common.{codes}
use Rattle.nf_app.proofs.Common.{same_Some, append_cancel_left, ℚ, passes_Q, same_value, with_more, Equilibrium, Named, Broken, Reads, Report, report_text}
use Rattle.nf_app.proofs.Common.{reads_at_most_once, Bounds, IsRunReport, Yes, No, IsExact, report_in, Status, ProgramAnswer, Solved, SolvedForever, Shown}
use Rattle.nf_app.proofs.Common.{Loaded, Checked, Quickest, TooManyWalks, Generated, Settled, Distributed, NoMemory, NoRequest, ShelfFailed, ShelfTooLong}
use Rattle.nf_app.proofs.Common.{Malformed, MalformedLoads, MalformedFlows, MalformedRoutes, MalformedReport, Passes, Unbounded, NotThin, Earlier}
use Rattle.nf_app.proofs.Common.{status_of, status_of_stop, out_text, Visit, input_file, NetworkReads, TookAll, IsShown, IsShownWhole, Request, Solve}
use Rattle.nf_app.proofs.Common.{Check, Resume, request_of, Ok_not_Err, files_of, generated_by, budgets_of, bounds_to, SolveAnswer, IsResultOf, Call, Run}
use Rattle.nf_app.proofs.Common.{IsRefusedCall, IsComputed, MayAnswer, Ran, NoFault, IsOneOf, ToldRequest, AsksToResumeRun}
use Rattle.nf_text_def.specs.Words.{line_of_words}
use Rattle.nf_check_def.specs.declared.Answer.{Answer as Verdict}
use Rattle.nf_app.specs.Chained.{WroteReport, ChecksSolved, SaysYes, ResumesSolved, ResumesSolvedText}
use Rattle.nf_app.proofs.Fetched.{reads_told}
use Rattle.nf_app.proofs.ToldRequests.{Answers, told_answers}
use Rattle.nf_app.proofs.Solving.{no_stop}
use Rattle.nf_app.proofs.Resuming.{writes_report_of_one_run}
use Rattle.nf_app.proofs.Only.{whole}

is_ok_so : {A E : Type 0} (r : Result A E) (x : A) → r ≡ Ok x → IsOk r
is_ok_so r x e = ap is_ok e

-- ---- the status of a report
abbrev of_report : Status → Bool
of_report Status.Ok = true
of_report Status.Phases = true
of_report Status.Patterns = true
of_report Status.Passed = true
of_report status = false

report_status : (status : Status) → IsOneOf status (Status.Ok ∷ Status.Phases ∷ Status.Patterns ∷ Status.Passed ∷ []) → of_report status ≡ true
report_status status (inl e) = ap of_report e
report_status status (inr (inl e)) = ap of_report e
report_status status (inr (inr (inl e))) = ap of_report e
report_status status (inr (inr (inr (inl e)))) = ap of_report e
report_status status (inr (inr (inr (inr h)))) = absurd h

not_refused : (call : Call) (answer : ProgramAnswer) → IsRefusedCall call answer → of_report (status_of answer) ≡ true → ⊥
not_refused call NoMemory h e = cc
not_refused call NoRequest h e = cc
not_refused call ShelfFailed h e = cc
not_refused call ShelfTooLong h e = cc
not_refused call (Malformed broken) h e = cc
not_refused call (Solved n report) h e = absurd h
not_refused call (Shown n) h e = absurd h
not_refused call (Loaded n horizon loaded) h e = absurd h
not_refused call (MalformedLoads broken) h e = absurd h
not_refused call (Checked n verdict) h e = absurd h
not_refused call (MalformedFlows broken) h e = absurd h
not_refused call (MalformedRoutes broken) h e = absurd h
not_refused call (MalformedReport broken) h e = absurd h
not_refused call (Passes at) h e = absurd h
not_refused call (Quickest n quick arrival) h e = absurd h
not_refused call (TooManyWalks n augments walks) h e = absurd h
not_refused call Unbounded h e = absurd h
not_refused call (Generated number rungs n made report) h e = absurd h
not_refused call (SolvedForever n forever) h e = absurd h
not_refused call (Settled n pattern flows) h e = absurd h
not_refused call NotThin h e = absurd h
not_refused call Earlier h e = absurd h
not_refused call (Distributed n routes horizon routed) h e = absurd h

output_no_report : (status : Status) → status ≡ Status.Output → of_report status ≡ true → ⊥
output_no_report status e h = let other : of_report status ≡ false = ap of_report e in cc

-- what a sink whose bytes are known took is one text
one_text : (before text other : List ℕ) → with_more (Some before) text ≡ with_more (Some before) other → text ≡ other
one_text before text other e = append_cancel_left before text other (same_Some (before ++ text) (before ++ other) e)

-- ---- what the earlier call wrote
record Written (m : Named) (text : List ℕ) (bounds : Bounds) (status : Status) : Type 0 where
  report : Report
  run : IsRunReport passes_Q m.net bounds report
  equilibrium : Equilibrium m.net report.flow
  text_is : text ≡ report_text m report
  reads_back : report_in m text ≡ Ok report
  status_is : status ≡ status_of_stop report.stop

module _ (shelf : Visit) (file text : List ℕ) (s : WroteReport shelf file text) where
  abbrev bounds : Bounds
  bounds = bounds_to s.horizon s.phases s.patterns

  whole_so : IsShown s.ran.answer s.run.out s.run.err s.run.status → IsShownWhole s.ran.answer s.run.out s.run.err s.run.status
  whole_so (inl h) = h
  whole_so (inr h) = absurd (output_no_report s.run.status h.status_is (report_status s.run.status s.ended))

  shown : IsShownWhole s.ran.answer s.run.out s.run.err s.run.status
  shown = whole_so s.ran.shown

  computed_so : MayAnswer s.run.call s.ran.answer → IsComputed s.run.call s.ran.answer
  computed_so (inl h) = absurd (not_refused s.run.call s.ran.answer h (ap of_report (sym shown.status_is) ∙ report_status s.run.status s.ended))
  computed_so (inr h) = h

  computed : IsComputed s.run.call s.ran.answer
  computed = computed_so s.ran.comes

  asked : computed.request ≡ Solve file s.horizon s.phases s.patterns
  asked =
      let one : request_of s.run.call.words ≡ Some computed.request = computed.has_network.asks in
      let other : request_of s.run.call.words ≡ Some (Solve file s.horizon s.phases s.patterns) = s.asks in
      same_Some computed.request (Solve file s.horizon s.phases s.patterns) (sym one ∙ other)

  reads : (bytes : List ℕ) → shelf.told file ≡ Some bytes → Reads bytes (Ok computed.net)
  reads bytes told = reads_told s.run.call.shelf (input_file file) bytes (s.told ∙ told) [] (Ok computed.net)
      (subst (λ (q : Request). NetworkReads s.run.call.shelf (generated_by q) (files_of q) (Ok computed.net)) asked computed.has_network.reads)

  solved : SolveAnswer computed.net bounds s.ran.answer
  solved = subst (λ (q : Request). IsResultOf computed.net computed.second q s.ran.answer) asked computed.is_result

  text_is : text ≡ report_text computed.net solved.report
  text_is = one_text s.before text (out_text s.ran.answer)
      (ap (λ o. with_more o text) (sym s.tells) ∙ sym s.took ∙ shown.took.all ∙ ap (λ o. with_more o (out_text s.ran.answer)) s.tells) ∙ ap out_text solved.is

  written : Written computed.net text bounds s.run.status
  written = record {
    report = solved.report;
    run = solved.run;
    equilibrium = solved.equilibrium;
    text_is = text_is;
    reads_back = ap (λ (t : List ℕ). report_in computed.net t) text_is ∙ solved.reads_back.reads;
    status_is = shown.status_is ∙ ap status_of solved.is;
  }

  -- of the network that the file reads as
  written_of : (bytes : List ℕ) (m : Named) → shelf.told file ≡ Some bytes → Reads bytes (Ok m) → Written m text bounds s.run.status
  written_of bytes m told read =
      let here : Result Named Broken = Ok computed.net in
      let same : computed.net ≡ m = same_value here computed.net m refl (reads_at_most_once bytes here (Ok m) (reads bytes told) read) in
      subst (λ (x : Named). Written x text bounds s.run.status) same written

-- ---- `check`
module _ (run : Run) (c : ChecksSolved run.call) where
  abbrev n : Named
  n = (computed run.call.shelf c.file c.report.text c.solved).net

  wrote : Written n c.report.text (bounds_to c.solved.horizon c.solved.phases c.solved.patterns) c.solved.run.status
  wrote = written run.call.shelf c.file c.report.text c.solved

  told_check : ToldRequest run.call
  told_check = record {
    request = Check c.file c.report_name;
    asks = c.asks;
    texts = record { network = Some c.network.text; second = Some c.report.text };
    told = record { network = c.network.told; second = c.report.told };
    fit = record { network = c.network.within; second = c.report.within };
    net = n;
    reads = reads run.call.shelf c.file c.report.text c.solved c.network.text c.network.told;
    second_reads = is_ok_so (report_in n c.report.text) wrote.report wrote.reads_back;
  }

  is_yes : (verdict : Verdict ℕ ℕ ℚ) → IsExact n.net wrote.report.flow verdict → verdict ≡ Yes
  is_yes Yes h = refl
  is_yes (No rule subject time left right) h = absurd (h.1 wrote.equilibrium)

  yes_given : (answer : ProgramAnswer) → IsResultOf n c.report.text (Check c.file c.report_name) answer → (answer ≡ Checked n Yes) ⊎ (status_of answer ≡ Status.Passed)
  yes_given answer (inl g) =
      let same : g.report ≡ wrote.report = same_value (report_in n c.report.text) g.report wrote.report g.read.reads wrote.reads_back in
      inl (g.is ∙ ap (Checked n) (is_yes g.verdict (subst (λ (r : Report). IsExact n.net r.flow g.verdict) same g.exact)))
  yes_given answer (inr (inl g)) = absurd (Ok_not_Err (report_in n c.report.text) wrote.report g.0 wrote.reads_back g.2.breaks)
  yes_given answer (inr (inr g)) = inr (ap status_of g.1)

  abbrev Says : Type 0
  Says = ((run.status ≡ Status.Ok) × TookAll run.out (line_of_words (codes "yes" ∷ []))) ⊎ (run.status ≡ Status.Passed) ⊎ (run.status ≡ Status.Memory)

  said : (answer : ProgramAnswer) → IsShownWhole answer run.out run.err run.status → (answer ≡ Checked n Yes) ⊎ (status_of answer ≡ Status.Passed) → Says
  said answer shown (inl e) = inl (shown.status_is ∙ ap status_of e, subst (λ (t : List ℕ). TookAll run.out t) (ap out_text e) shown.took.all)
  said answer shown (inr e) = inr (inl (shown.status_is ∙ e))

  says : NoFault run → (answer : ProgramAnswer) → IsShownWhole answer run.out run.err run.status → Answers run.call told_check answer → Says
  unfolding told_check
  says no_fault answer shown (inl none) = inr (inr (shown.status_is ∙ ap status_of none))
  says no_fault answer _ (inr (inl h)) = absurd (no_fault.shelf h.1)
  says no_fault answer shown (inr (inr h)) = said answer shown (yes_given answer h.1)

pub says_yes : (run : Run) → Ran run → SaysYes run
says_yes run ran c no_fault =
    says run c no_fault ran.answer (whole ran.answer run.out run.err run.status no_fault.out ran.shown) (told_answers run.call (told_check run c) ran.answer ran.comes)

-- ---- `resume`
module _ (run : Run) (r : ResumesSolved run.call) where
  first : Written r.net r.report.text (bounds_to r.first.horizon r.first.phases r.first.patterns) r.first.run.status
  first = written_of run.call.shelf r.file r.report.text r.first r.network.text r.net r.network.told r.reads

  later : Written r.net r.later_text (bounds_to r.later.horizon r.later.phases r.later.patterns) r.later.run.status
  later = written_of run.call.shelf r.file r.later_text r.later r.network.text r.net r.network.told r.reads

  asks_to_resume : AsksToResumeRun run.call
  asks_to_resume = record {
    told = record {
      request = Resume r.file r.report_name r.horizon r.phases r.patterns;
      asks = r.asks;
      texts = record { network = Some r.network.text; second = Some r.report.text };
      told = record { network = r.network.told; second = r.report.told };
      fit = record { network = r.network.within; second = r.report.within };
      net = r.net;
      reads = r.reads;
      second_reads = is_ok_so (report_in r.net r.report.text) first.report first.reads_back;
    };
    file = r.file;
    report_name = r.report_name;
    horizon = r.horizon;
    phases = r.phases;
    patterns = r.patterns;
    is = refl;
    resumes = record {
      old = first.report;
      reads = first.reads_back;
      first_bounds = bounds_to r.first.horizon r.first.phases r.first.patterns;
      first = first.run;
      later_budgets = budgets_of r.later.phases r.later.patterns;
      later = record {
        report = later.report;
        is_report = subst (λ (horizon : ℚ). IsRunReport passes_Q r.net.net (bounds_to horizon r.later.phases r.later.patterns) later.report) r.to_horizon later.run;
        no_stop = no_stop later.report.stop (sym later.status_is ∙ r.whole);
      };
      rest = r.rest first.report first.run;
    };
  }

  resumed : Ran run → run.status ≡ Status.Ok → TookAll run.out r.later_text
  unfolding asks_to_resume
  resumed ran ok = subst (λ (t : List ℕ). TookAll run.out t) (sym later.text_is) (writes_report_of_one_run run ran asks_to_resume ok)

pub resumes_solved : (run : Run) → Ran run → ResumesSolvedText run
resumes_solved run ran r ok = resumed run r ran ok
