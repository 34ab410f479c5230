-- An answer that a request gives is the one that its texts determine.
use Rattle.std.proofs.Common.{◌≡◌, ◌⊎◌, ℕ, List, sym, ap, subst, ◌∙◌, inl, inr, Option, Some, None, Result, Ok, Err}
use Rattle.nf_app.proofs.Common.{ℚ, passes_Q, PassedAt, Network, Named, Report, ReportBroken, report_in, FlowsBroken, GivenFlows, flows_in, routes_in}
use Rattle.nf_app.proofs.Common.{only_reading, Request, Solve, SolveForever, Show, Load, Check, Quick, Gen, Settle, Resume, Routes, Arrival, ProgramAnswer}
use Rattle.nf_app.proofs.Common.{Loaded, Checked, Generated, Distributed, bounds_to, flow_list, departs_list, IsArrivalOf, IsResultOf}
use Rattle.nf_quick_def.specs.Quick.{Quick as QuickFlow}
use Rattle.nf_quick_def.specs.Quick as quick
use Rattle.nf_resume_def.specs.Resuming as resuming
use Rattle.nf_app.proofs.Gives.{Arrives, DepartsGive, FlowGives, SettleGives, RestGives, ResumeGives, or_passes, load_answer, check_answer, routes_answer}
use Rattle.nf_app.proofs.Gives.{Gives}

arrives_so : (net : Network) (departs : Option ℚ) (arrival : Arrival) → IsArrivalOf net departs arrival → Arrives net departs arrival
arrives_so net None arrival is = is
arrives_so net (Some departs) arrival is = (is.report, is.solution.run, is.arrival_is)

module _ (n : Named) (text : List ℕ) (answer : ProgramAnswer) where
  quick_so : (file : List ℕ) (amount : ℚ) (augments : ℕ) → IsResultOf n text (Quick file amount augments) answer → Gives n text (Quick file amount augments) answer
  quick_so file amount augments (inl g) = inr (
    g.bounded,
    subst (λ (r : Result quick.QuickOutcome (PassedAt ℚ)). FlowGives n amount augments r answer) (sym g.computed)
        (subst (λ (r : Result (Option ℚ) (PassedAt ℚ)). DepartsGive n g.quick r answer) (sym g.departs_computed) (g.arrival, arrives_so n.net g.departs g.arrival g.arrives, g.is)),
  )
  quick_so file amount augments (inr (inl g)) = inr (g.2.no_way, subst (λ (r : Result quick.QuickOutcome (PassedAt ℚ)). FlowGives n amount augments r answer) (sym g.2.computed) g.1)
  quick_so file amount augments (inr (inr (inl g))) = inr (g.2.no_way, by g.2.passes)
    where
      by : ((flow_list n.net amount augments ≡ Err g.0) ⊎ ((flow : QuickFlow) × (flow_list n.net amount augments ≡ Ok (quick.FoundQuick flow)) × (departs_list n.net amount ≡ Err g.0)))
          → FlowGives n amount augments (flow_list n.net amount augments) answer
      by (inl e) = subst (λ (r : Result quick.QuickOutcome (PassedAt ℚ)). FlowGives n amount augments r answer) (sym e) g.1
      by (inr h) = subst (λ (r : Result quick.QuickOutcome (PassedAt ℚ)). FlowGives n amount augments r answer) (sym h.1)
          (subst (λ (r : Result (Option ℚ) (PassedAt ℚ)). DepartsGive n h.0 r answer) (sym h.2) g.1)
  quick_so file amount augments (inr (inr (inr g))) = inl (g.1, g.0)

  settle_so : (file name : List ℕ) → IsResultOf n text (Settle file name) answer → Gives n text (Settle file name) answer
  settle_so file name g = by g
    where
      so : (read : Result GivenFlows FlowsBroken) → flows_in n text ≡ read → SettleGives n read answer → SettleGives n (flows_in n text) answer
      so read e h = subst (λ (r : Result GivenFlows FlowsBroken). SettleGives n r answer) (sym e) h

      by : IsResultOf n text (Settle file name) answer → SettleGives n (flows_in n text) answer
      by (inl h) = so (Ok h.given) h.read (h.labels, h.are_start, inl (h.pattern, h.flows, h.is, h.settled))
      by (inr (inl h)) = so (Err h.0) h.2 h.1
      by (inr (inr (inl h))) = so (Ok h.2.given) h.2.read (h.2.labels, h.2.are_start, inr (inr (h.0, h.1, h.2.passes)))
      by (inr (inr (inr h))) = so (Ok h.1.given) h.1.read (h.1.labels, h.1.are_start, inr (inl (h.0, h.1.not_thin)))

  resume_so : (file name : List ℕ) (horizon : ℚ) (phases patterns : ℕ) → IsResultOf n text (Resume file name horizon phases patterns) answer
      → Gives n text (Resume file name horizon phases patterns) answer
  resume_so file name horizon phases patterns g = by g
    where
      so : (read : Result Report ReportBroken) → report_in n text ≡ read → ResumeGives n (bounds_to horizon phases patterns) read answer
          → ResumeGives n (bounds_to horizon phases patterns) (report_in n text) answer
      so read e h = subst (λ (r : Result Report ReportBroken). ResumeGives n (bounds_to horizon phases patterns) r answer) (sym e) h

      on : (old : Report) (r : Result resuming.Restart (PassedAt ℚ)) → resuming.resume_list passes_Q n.net old ≡ r → RestGives n (bounds_to horizon phases patterns) old r answer
          → RestGives n (bounds_to horizon phases patterns) old (resuming.resume_list passes_Q n.net old) answer
      on old r e h = subst (λ (s : Result resuming.Restart (PassedAt ℚ)). RestGives n (bounds_to horizon phases patterns) old s answer) (sym e) h

      by : IsResultOf n text (Resume file name horizon phases patterns) answer → ResumeGives n (bounds_to horizon phases patterns) (report_in n text) answer
      by (inl h) = so (Ok h.old) h.read.reads (inr (h.not_earlier, on h.old (Ok (resuming.Stands h.resumed.run.first)) h.resumed.run.stands (h.made, h.new, h.resumed, h.is)))
      by (inr (inl h)) = so (Err h.0) h.2.breaks h.1
      by (inr (inr (inl h))) = so (Ok h.2.old) h.2.read.reads (inr (h.2.not_earlier, on h.2.old (Err h.0) h.2.passes h.1))
      by (inr (inr (inr (inl h)))) = so (Ok h.1.old) h.1.read.reads (inl (h.1.earlier, h.0))
      by (inr (inr (inr (inr h)))) = so (Ok h.2.old) h.2.read.reads (inr (h.2.not_earlier, on h.2.old (Ok (resuming.Refused h.0)) h.2.refused.ends h.1))

  pub result_so : (request : Request) → IsResultOf n text request answer → Gives n text request answer
  result_so (Solve file horizon phases patterns) g = (g.report, g.run, g.is)
  result_so (SolveForever file phases patterns) g = (g.forever, g.run, g.is)
  result_so (Show file) g = g.is
  result_so (Load file name horizon) (inl g) = g.is ∙ sym (ap (load_answer n horizon) g.read ∙ ap (or_passes (λ loaded. Loaded n horizon loaded)) g.computed)
  result_so (Load file name horizon) (inr (inl g)) = g.1 ∙ sym (ap (load_answer n horizon) g.2)
  result_so (Load file name horizon) (inr (inr g)) = g.1 ∙ sym (ap (load_answer n horizon) g.2.read ∙ ap (or_passes (λ loaded. Loaded n horizon loaded)) g.2.passes)
  result_so (Check file name) (inl g) = g.is ∙ sym (ap (check_answer n) g.read.reads ∙ ap (or_passes (λ verdict. Checked n verdict)) g.computed)
  result_so (Check file name) (inr (inl g)) = g.1 ∙ sym (ap (check_answer n) g.2.breaks)
  result_so (Check file name) (inr (inr g)) = g.1 ∙ sym (ap (check_answer n) g.2.read.reads ∙ ap (or_passes (λ verdict. Checked n verdict)) g.2.passes)
  result_so (Quick file amount augments) g = quick_so file amount augments g
  result_so (Gen number rungs horizon phases patterns) g = (g.report, g.solution.run, g.is ∙ ap (λ (made : ℕ). Generated number rungs n made g.report) (sym g.solution.made))
  result_so (Settle file name) g = settle_so file name g
  result_so (Resume file name horizon phases patterns) g = resume_so file name horizon phases patterns g
  result_so (Routes file name horizon) (inl g) =
      let reads : routes_in n text ≡ Ok g.routes = only_reading n text (Ok g.routes) g.read in
      g.is ∙ sym (ap (routes_answer n horizon) reads ∙ ap (or_passes (λ routed. Distributed n g.routes horizon routed)) g.computed)
  result_so (Routes file name horizon) (inr (inl g)) =
      let reads : routes_in n text ≡ Err g.0 = only_reading n text (Err g.0) g.2 in
      g.1 ∙ sym (ap (routes_answer n horizon) reads)
  result_so (Routes file name horizon) (inr (inr g)) =
      let reads : routes_in n text ≡ Ok g.2.routes = only_reading n text (Ok g.2.routes) g.2.read in
      g.1 ∙ sym (ap (routes_answer n horizon) reads ∙ ap (or_passes (λ routed. Distributed n g.2.routes horizon routed)) g.2.passes)
