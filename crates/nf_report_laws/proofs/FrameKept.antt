-- A property that each line of an accepted side file preserves is preserved by all lines.
use Rattle.std.proofs.Common.{◌≡◌, ℕ, List, [], ◌∷◌, Bool, true, false, Option, Some, None, Result, Ok, Err, refl, subst}
use Rattle.nf_report_laws.proofs.Common.{◌>>=◌, ReadLine, read_lines, content_lines, is_head, first_rule, unless_rule, same_Ok, LineFault, first_fault}
use Rattle.nf_side_def.specs.Frame.{Broken, Frame, in_line, add_lines, draft_of, broken_bytes, by_bytes, file_in}
use Rattle.nf_report_laws.proofs.Outcomes.{no_err, Both, both_ok, where_true}

-- ---- a rule that isn't broken
pub rules_out : {Rule : Type 0} (test : Bool) (rule : Rule) (rest : List (Bool × Rule)) → first_rule ((test, rule) ∷ rest) ≡ None → (test ≡ false) × (first_rule rest ≡ None)
rules_out true rule rest e = absurd (cc)
rules_out false rule rest e = (refl, e)

pub no_rule : {Draft Rule : Type 0} (o : Option Rule) (draft next : Draft) → unless_rule o draft ≡ Ok next → (o ≡ None) × (draft ≡ next)
no_rule None draft next e = (refl, same_Ok draft next e)
no_rule (Some rule) draft next e = absurd (no_err rule next e)

-- ---- lines, one after the other
line_is : {Draft Rule : Type 0} (number : ℕ) (r : Result Draft Rule) (next : Draft) → in_line number r ≡ Ok next → r ≡ Ok next
line_is number (Ok draft) next e = cc
line_is number (Err rule) next e = absurd (no_err (record { rule = rule; line = number }) next e)

module _ {Rule Draft Given : Type 0} (frame : Frame Rule Draft Given) where
  module _ (Holds : Draft → Type 0) (kept : (draft : Draft) (words : List (List ℕ)) (next : Draft) → Holds draft → frame.add draft words ≡ Ok next → Holds next) where
    lines_kept : (draft : Draft) (lines : List ReadLine) (last : Draft) → Holds draft → add_lines frame.add draft lines ≡ Ok last → Holds last
    lines_kept draft [] last h e = subst Holds (same_Ok draft last e) h
    lines_kept draft (line ∷ rest) last h e =
        let w = both_ok (in_line line.number (frame.add draft line.words)) (λ next. add_lines frame.add next rest) last e in
        lines_kept w.between rest last (kept draft line.words w.between h (line_is line.number (frame.add draft line.words) w.between w.first)) w.next

    pub draft_kept : Holds frame.empty → (lines : List ReadLine) (draft : Draft) → draft_of frame lines ≡ Ok draft → Holds draft
    draft_kept h [] draft e = absurd (no_err (record { rule = frame.no_head; line = 1 }) draft e)
    draft_kept h (line ∷ rest) draft e =
        lines_kept frame.empty rest draft h (where_true (is_head frame.keyword line.words) (record { rule = frame.no_head; line = line.number })
        (add_lines frame.add frame.empty rest) draft e).1

  -- ---- the whole file
  bytes_fine : (o : Option LineFault) (read : Result Given (Broken Rule)) (given : Given) → by_bytes frame o read ≡ Ok given → read ≡ Ok given
  bytes_fine (Some fault) read given e = absurd (no_err (broken_bytes frame fault) given e)
  bytes_fine None read given e = e

  pub file_is : (text : List ℕ) (given : Given) → file_in frame text ≡ Ok given → Both (draft_of frame (content_lines (read_lines text))) frame.close given
  file_is text given e =
      both_ok (draft_of frame (content_lines (read_lines text))) frame.close given
      (bytes_fine (first_fault text) (draft_of frame (content_lines (read_lines text)) >>= frame.close) given e)
