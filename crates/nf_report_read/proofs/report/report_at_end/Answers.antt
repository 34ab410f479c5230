use Rattle.std.proofs.Common.{◌≡◌, Ok, sym, ap, ◌∙◌}
use Rattle.nf_report_read.proofs.Common.{if_at_end, seen_draft, seen_stage, not_ended, done_few}
use Rattle.std.proofs.lemmas.Bool.{true≢false, false≢true}
use Rattle.nf_report_lines.specs.declared.draft.Stage.{Stage}
use Rattle.nf_report_lines.specs.declared.draft.Stage.TheVariants as stages
use Rattle.nf_report_read.proofs.report.report_at_end.Goals as goal
use Rattle.nf_report_read.proofs.report.report_at_end.Goals.{in-End, in_default}

pub returns-then-not-matches : goal.returns-then-not-matches
returns-then-not-matches c = elim c.match-matches.branch [
  | in-End w ↦ absurd (true≢false (sym w.matches-is ∙ c.if-not-matches.true))
  | in_default w ↦ not_ended c.args.draft.stage (seen_draft c.args.net.now c.args.draft) w.in_default.not-End
]

pub returns : goal.returns
returns c =
    let sorted = c.in_ok-flow.ensures.sorted in
    let ended : c.args.draft.stage ≡ stages.End = elim c.match-matches.branch [
      | in-End w ↦ w.in-End.is
      | in_default w ↦ absurd (false≢true (sym w.matches-is ∙ c.if-not-matches.false))
    ] in
    ap (λ (s : Stage). if_at_end (seen_stage s) (seen_draft c.args.net.now c.args.draft)) ended
    ∙ (λ i. Ok (record {
      horizon = c.args.draft.horizon;
      flow = record {
        reached = sym c.in_ok-flow.ensures.reached i;
        labels = sym sorted.all_labels i;
        inflows = sym sorted.all_inflows i;
        outflows = sym sorted.all_outflows i;
        queues = sym sorted.all_queues i;
      };
      stop = c.args.draft.stop;
      last = c.args.draft.states;
    }))

pub by_kind-requires-clause-count : goal.by_kind-requires-clause-count
by_kind-requires-clause-count c = done_few c.args.net.now c.args.draft c.requires

pub by_kind-requires-clause-idle : goal.by_kind-requires-clause-idle
by_kind-requires-clause-idle c = c.requires.idle
