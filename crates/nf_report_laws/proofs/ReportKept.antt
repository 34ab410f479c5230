-- A text that is read as a report is the text of that report, which is well formed and readable.
use Rattle.std.proofs.Common.{◌≡◌, inl, ℕ, zero, suc, List, [], ◌∷◌, ◌++◌, length, map, flat_map, replicate, Option, Some, None, Result, Ok, refl, sym, ap}
use Rattle.std.proofs.Common.{subst, ◌∙◌}
use Rattle.nf_report_laws.proofs.Common.{ℚ, 0ℚ, ◌≤ℚ◌, line_of_words, read_line, read_lines, State, Full, HasState, cause_words, Named, IsFraction, IsNamed}
use Rattle.nf_report_laws.proofs.Common.{Report, IsWellFormed, report_text, OfLabel, OfInflow, OfOutflow, OfQueue, Stage, AtVersion, AtHorizon, AtReached}
use Rattle.nf_report_laws.proofs.Common.{AtCause, InBody, AtEnd, ReportDraft, empty_report, IsReadable, same_Ok, TextLine, lines, LineFault, first_fault}
use Rattle.nf_report_laws.proofs.Common.{ReportBroken, as_report_rule, points_read, traces_read, report_lines_from, report_draft, report_of_draft}
use Rattle.nf_report_laws.proofs.Common.{if_at_end, report_by_bytes}
use Rattle.nf_net_laws.proofs.Wholes.{text_whole}
use Rattle.nf_report_def.specs.ReportFile.{report_in}
use Rattle.nf_report_laws.proofs.Outcomes.{both_ok, no_err}
use Rattle.nf_report_laws.proofs.ReportShape.{curve_lines, curves_from, state_lines_of, end_lines, head_lines, lines_by_curves, gives_flow}
use Rattle.nf_report_laws.proofs.ReportSteps.{next_of, words_of, lines_are_read, words_text}
use Rattle.nf_report_laws.proofs.ReportBack.{IsFit, after_head}
use Rattle.nf_report_laws.proofs.ReportFit.{well_formed, readable}
use Rattle.nf_report_laws.proofs.BodyKept.{Blank, blank_lines, IsKept, Finished, body_kept}
use Rattle.nf_report_laws.proofs.HeadKept.{HeadIs, head_is}
use Rattle.nf_report_laws.proofs.Splits.{AreOfFlow, are_of_flow}

-- ---- the parts of a reading
by_bytes : (fault : Option LineFault) (read : Result Report ReportBroken) (report : Report) → report_by_bytes fault read ≡ Ok report → read ≡ Ok report
by_bytes (Some fault) read report e = absurd (no_err (as_report_rule fault) report e)
by_bytes None read report e = e

draft_is : (n : Named) (all : List TextLine) (last : ReportDraft) → report_draft n (map read_line all) ≡ Ok last → report_lines_from n (empty_report n) (map read_line all) ≡ Ok last
draft_is n [] last e = absurd (no_err _ last e)
draft_is n (line ∷ all) last e = e

at_end : (stage : Stage) (draft : ReportDraft) (report : Report) → if_at_end stage draft ≡ Ok report → (stage ≡ AtEnd) × (report_of_draft draft ≡ report)
at_end AtVersion draft report e = absurd (no_err _ report e)
at_end AtHorizon draft report e = absurd (no_err _ report e)
at_end AtReached draft report e = absurd (no_err _ report e)
at_end AtCause draft report e = absurd (no_err _ report e)
at_end InBody draft report e = absurd (no_err _ report e)
at_end AtEnd draft report e = (refl, same_Ok (report_of_draft draft) report e)

-- ---- the draft behind the head
blank_yet : (k : ℕ) → Blank 0 (replicate k None)
blank_yet zero = tt
blank_yet (suc k) = (refl, blank_yet k)

blank_count : (k : ℕ) → length (replicate {A = Option State} k None) ≡ k
blank_count zero = refl
blank_count (suc k) = ap suc (blank_count k)

no_state : (k e : ℕ) → HasState (replicate k None) e Full → ⊥
no_state zero e h = absurd (cc)
no_state (suc k) zero h = absurd (cc)
no_state (suc k) (suc e) h = no_state k e h

start_kept : (n : Named) (next : Option (List (List ℕ))) (draft : ReportDraft) → draft ≡ after_head n draft.horizon draft.reached draft.stop → IsKept n next draft
start_kept n next draft e = subst (IsKept n next) (sym e) (record {
  curves = record { in_order = refl; read = tt; open_ = tt };
  blank = blank_yet (length n.link_names);
  count = blank_count (length n.link_names);
  no_full = λ e link is none full. no_state (length n.link_names) e full;
  phase = inl (blank_lines n.link_names (replicate (length n.link_names) None) (blank_yet (length n.link_names)));
})

-- ---- the report
abbrev Accepted : Named → List ℕ → Report → Type 0
Accepted n text report = IsWellFormed n.net report × IsReadable report × (text ≡ report_text n report)

module _ (n : Named) (named : IsNamed n) (text : List ℕ) (last : ReportDraft) (head : HeadIs n (words_of (lines text)) last)
    (done : Finished n (after_head n head.horizon head.reached head.stop) last head.rest) (curves : AreOfFlow n last.reached last.done)
    (whole : flat_map line_of_words (words_of (lines text)) ≡ text) where
  abbrev found : Report
  found = record { horizon = head.horizon; flow = curves.flow; stop = head.stop; last = last.states }

  reached : curves.flow.reached ≡ head.reached
  reached = curves.reached_is ∙ done.reached

  found_fits : IsFit n found
  found_fits = record {
    flow = curves.read;
    horizon = head.horizon_fraction;
    reached = subst IsFraction (sym reached) head.reached_fraction;
    stop = head.readable;
    starts = subst (λ (r : ℚ). 0ℚ ≤ℚ r) (sym reached) head.starts;
    ends = subst (λ (r : ℚ). r ≤ℚ head.horizon) (sym reached) head.ends;
    stops = (λ none. reached ∙ head.stops.0 none, λ same. head.stops.1 (sym reached ∙ same));
    states = done.count ∙ named.numbered.links;
    no_full = done.no_full;
  }

  is_found : report_of_draft last ≡ found
  is_found =
      let g = gives_flow n curves.flow curves.read in
      let labels = ap (points_read OfLabel) curves.is ∙ g.labels in
      let inflows = ap (traces_read OfInflow) curves.is ∙ g.inflows in
      let outflows = ap (traces_read OfOutflow) curves.is ∙ g.outflows in
      let queues = ap (points_read OfQueue) curves.is ∙ g.queues in
      λ i. record {
        horizon = done.horizon i;
        flow = record { reached = sym curves.reached_is i; labels = labels i; inflows = inflows i; outflows = outflows i; queues = queues i };
        stop = done.stop i;
        last = last.states;
      }

  body : head.rest ≡ flat_map curve_lines (curves_from n curves.flow) ++ state_lines_of n.link_names last.states ++ end_lines
  body = ap (λ l. l ++ head.rest) (sym (blank_lines n.link_names (replicate (length n.link_names) None) (blank_yet (length n.link_names)))) ∙ done.lines_are
      ∙ ap (λ cs. flat_map curve_lines cs ++ state_lines_of n.link_names last.states ++ end_lines) curves.is

  text_is : text ≡ report_text n found
  text_is = sym whole ∙ ap (flat_map line_of_words) (head.lines_are
      ∙ (λ i. head_lines n.version head.horizon (sym reached i) (cause_words head.stop) (body i))
      ∙ sym (lines_by_curves n found curves.read named.numbered.nodes named.numbered.links (done.count ∙ named.numbered.links)))

  pub found_accepted : (report : Report) → report_of_draft last ≡ report → Accepted n text report
  found_accepted report e = subst (Accepted n text) (sym is_found ∙ e) (well_formed n found named found_fits, readable n found found_fits, text_is)

pub report_kept : (n : Named) (text : List ℕ) (report : Report) → IsNamed n → report_in n text ≡ Ok report → IsWellFormed n.net report × IsReadable report × (text ≡ report_text n report)
unfolding report_in
report_kept n text report named e =
    let read = by_bytes (first_fault text) _ report e in
    let w = both_ok (report_draft n (read_lines text)) (λ draft. if_at_end draft.stage draft) report read in
    let last = w.between in
    let end = at_end last.stage last report w.next in
    let r = lines_are_read n (empty_report n) last (lines text) (draft_is n (lines text) last w.first) in
    let head = head_is n last (words_of (lines text)) end.0 r.1 in
    let start = after_head n head.horizon head.reached head.stop in
    let done = body_kept n start last head.rest refl end.0 (start_kept n (next_of head.rest None) start refl) head.reads in
    let curves = are_of_flow n last.reached last.done done.in_order done.read in
    found_accepted n named text last head done curves (words_text (lines text) r.0 ∙ text_whole text) report end.1
