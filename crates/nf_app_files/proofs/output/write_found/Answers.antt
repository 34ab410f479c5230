use Rattle.std.proofs.Common.{◌≡◌, ℕ, List, [], ◌++◌, sym, ap, subst, ◌∙◌}
use Rattle.std.specs.Prelude.{map}
use Rattle.std.specs.Option.{option_copied}
use Rattle.nf_net_def.specs.Report.{Report, report_text}
use Rattle.nf_curve.specs.Flows.{seen_flow}
use Rattle.nf_app_answers.specs.Solution.{solution_report}
use Rattle.nf_report_def.specs.Texts.{load_text}
use Rattle.nf_load.specs.declared.loading.Loaded as code
use Rattle.nf_load.specs.Loadings.{loaded_of}
use Rattle.nf_complete_def.specs.SettleText.{settled_text}
use Rattle.nf_forever_def.specs.ForeverText.{forever_text}
use Rattle.nf_forever.specs.Seen.{forever_in}
use Rattle.nf_routes_def.specs.RoutesText.{routed_text}
use Rattle.nf_app_answers.specs.Carried.{with_kept_entries}
use Rattle.nf_app_answers.specs.declared.outcome.Computed.{Computed}
use Rattle.nf_app_answers.specs.QuickText.{arrival_text}
use Rattle.nf_app_answers.specs.GenText.{gen_text}
use Rattle.nf_app_answers.specs.Outcomes.{text_with, HasTextWith}
use Rattle.nf_app_answers.proofs.ErrorTexts.{same_text}
use Rattle.nf_app_files.proofs.output.write_found.Goals as goal

pub write_forever-requires : goal.write_forever-requires
write_forever-requires g c = subst (λ (f : Computed). HasTextWith c.args.net.now f) c.in-SolvedForever.is c.requires

pub returns-in-Solved : goal.returns-in-Solved
returns-in-Solved g c =
    let s = c.in-Solved.solution in
    let written : Report = record { horizon = c.in-Solved.horizon; flow = seen_flow s.flow; stop = option_copied c.as_ref.result; last = s.last } in
    let same : written ≡ solution_report c.in-Solved.horizon s = cc (c.as_ref.ensures.value) in
    same_text (report_text c.args.net.now written) (text_with c.args.net.now c.args.found.now)
    (ap (λ (r : Report). report_text c.args.net.now r) same ∙ sym (ap (text_with c.args.net.now) c.in-Solved.is))
    c.write_report.ensures.wrote

pub returns-in-Loaded : goal.returns-in-Loaded
returns-in-Loaded g c =
    same_text (load_text c.args.net.now c.in-Loaded.horizon (map loaded_of c.deref-in-Loaded.result.now)) (text_with c.args.net.now c.args.found.now)
    (ap (λ (l : List code.Loaded). load_text c.args.net.now c.in-Loaded.horizon (map loaded_of l)) c.deref-in-Loaded.ensures.value ∙ sym (ap (text_with c.args.net.now) c.in-Loaded.is))
    c.write_loads.ensures

pub returns-in-Quickest : goal.returns-in-Quickest
returns-in-Quickest g c =
    same_text (c.deref-in-Quickest.result.now ++ arrival_text c.in-Quickest.arrival) (text_with c.args.net.now c.args.found.now)
    (ap (λ (l : List ℕ). l ++ arrival_text c.in-Quickest.arrival) (c.deref-in-Quickest.ensures.value ∙ subst (λ (f : Computed). HasTextWith c.args.net.now f) c.in-Quickest.is c.requires)
    ∙ sym (ap (text_with c.args.net.now) c.in-Quickest.is)) c.write_quick.ensures

pub returns-in-Generated : goal.returns-in-Generated
returns-in-Generated g c =
    let ladder = c.in-Generated.ladder in
    let s = c.in-Generated.solution in
    same_text (gen_text ladder.number ladder.rungs c.args.net.now s.phases (solution_report c.in-Generated.horizon s)) (text_with c.args.net.now c.args.found.now)
    (sym (ap (text_with c.args.net.now) c.in-Generated.is))
    (c.write_summary.ensures.text c.in-Generated.horizon (subst (λ (f : Computed). HasTextWith c.args.net.now f) c.in-Generated.is c.requires))

pub returns-in-Settled : goal.returns-in-Settled
returns-in-Settled g c =
    same_text (settled_text c.args.net.now c.in-Settled.settled.pattern c.in-Settled.settled.flows.items) (text_with c.args.net.now c.args.found.now)
    (sym (ap (text_with c.args.net.now) c.in-Settled.is)) c.write_settled.ensures

pub returns-in-SolvedForever : goal.returns-in-SolvedForever
returns-in-SolvedForever g c =
    same_text (forever_text c.args.net.now (forever_in c.in-SolvedForever.forever)) (text_with c.args.net.now c.args.found.now)
    (sym (ap (text_with c.args.net.now) c.in-SolvedForever.is)) c.write_forever.ensures

pub returns-in-Distributed : goal.returns-in-Distributed
returns-in-Distributed g c =
    same_text (routed_text c.args.net.now c.in-Distributed.routes c.in-Distributed.horizon (with_kept_entries [] c.in-Distributed.routed)) (text_with c.args.net.now c.args.found.now)
    (sym (ap (text_with c.args.net.now) c.in-Distributed.is)) c.write_routed.ensures
