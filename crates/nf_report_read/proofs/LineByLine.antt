-- Reading lines in order, each together with the line after it.
use Rattle.std.proofs.Common.{◌≡◌, ℕ, suc, List, [], ◌∷◌, length, map, Option, Some, None, option_map, Result, Ok, Err, MatchOption, sym, ap, subst, ◌∙◌}
use Rattle.std.proofs.Common.{arith}
use Rattle.nf_report_read.proofs.Common.{length-map, TextLine, lines, ReadLine, read_line, read_lines, LineFault, first_fault, first_fault_of, Named}
use Rattle.nf_report_read.proofs.Common.{ReportDraft, report_line, empty_report, ReportBroken, next_words, in_report_line, report_lines_from, report_draft}
use Rattle.nf_report_read.proofs.Common.{if_at_end, as_report_rule, report_by_bytes, FileFault, ReportRule, seen_draft, seen_stage, words_behind}
use Rattle.nf_report_read.proofs.Common.{IfBroken, closed_by}
use Rattle.nf_frac_def.specs.Checked.{◌>>=◌}
use Rattle.nf_net_def.specs.Report as formats
use Rattle.nf_report_def.specs.declared.ReportRule.TheVariants.{P1, P2, P4}
use Rattle.nf_report_def.specs.ReportFile.{report_in}
use Rattle.nf_text.specs.declared.TextFault.{TextFault}
use Rattle.nf_text.specs.Reading.{MatchesFault}
use Rattle.nf_text.specs.Faults.{fault_of_text}
use Rattle.nf_report_lines.specs.declared.draft.Draft.{Draft}

-- of a rule that is broken, what follows
pub broken_more : (fault : FileFault ReportRule) (P Q : ReportBroken → Type 0) → ((broken : ReportBroken) → P broken → Q broken) → IfBroken fault P → IfBroken fault Q
broken_more (FileFault.Broken rule line) P Q f h = f (record { rule = rule; line = line }) h
broken_more FileFault.Memory P Q f h = tt

-- a line with a fault
pub text_refused : (found : Option LineFault) (fault : TextFault) (answer : FileFault ReportRule) → answer ≡ fault_of_text P1 P2 fault → MatchesFault fault found
    → IfBroken answer (λ broken. option_map as_report_rule found ≡ Some broken)
text_refused found fault answer e tells = subst (λ (f : FileFault ReportRule). IfBroken f (λ broken. option_map as_report_rule found ≡ Some broken)) (sym e) (at fault tells)
  where
    at : (fault : TextFault) → MatchesFault fault found → IfBroken (fault_of_text P1 P2 fault) (λ broken. option_map as_report_rule found ≡ Some broken)
    at (TextFault.NotAscii line) e = ap (option_map as_report_rule) e
    at (TextFault.LongLine line) e = ap (option_map as_report_rule) e
    at TextFault.Memory e = tt

-- ---- a line and those behind it
abbrev pub from_line : Option ReadLine → List TextLine → List ReadLine
from_line None rest = map read_line rest
from_line (Some line) rest = line ∷ map read_line rest

abbrev pub count_from : Option ReadLine → List TextLine → ℕ
count_from None rest = length rest
count_from (Some line) rest = suc (length rest)

abbrev pub EndsThere : Option ReadLine → List TextLine → Type 0
EndsThere None rest = rest ≡ []
EndsThere (Some line) rest = Unit {0}

module _ (before after : List TextLine) where
  pub next_lines : (next : Option ReadLine) → MatchOption next (before ≡ []) (λ line. map read_line before ≡ line ∷ map read_line after)
      → MatchOption next (after ≡ before) (λ line. first_fault_of before ≡ first_fault_of after) → from_line next after ≡ map read_line before
  next_lines None is fine = ap (map read_line) fine
  next_lines (Some line) is fine = sym is

  pub next_faults : (next : Option ReadLine) → MatchOption next (after ≡ before) (λ line. first_fault_of before ≡ first_fault_of after) → first_fault_of after ≡ first_fault_of before
  next_faults None fine = ap first_fault_of fine
  next_faults (Some line) fine = sym fine

  pub next_ends : (next : Option ReadLine) → MatchOption next (before ≡ []) (λ line. map read_line before ≡ line ∷ map read_line after)
      → MatchOption next (after ≡ before) (λ line. first_fault_of before ≡ first_fault_of after) → EndsThere next after
  next_ends None is fine = fine ∙ is
  next_ends (Some line) is fine = tt

  pub next_behind : (next : Option ReadLine) → MatchOption next (before ≡ []) (λ line. map read_line before ≡ line ∷ map read_line after)
      → words_behind next ≡ next_words (map read_line before)
  next_behind None is = sym (ap (λ (l : List TextLine). next_words (map read_line l)) is)
  next_behind (Some line) is = sym (ap next_words is)

  pub next_count : (next : Option ReadLine) → MatchOption next (before ≡ []) (λ line. map read_line before ≡ line ∷ map read_line after)
      → MatchOption next (after ≡ before) (λ line. first_fault_of before ≡ first_fault_of after) → count_from next after ≡ length before
  next_count None is fine = ap (λ (l : List TextLine). length l) fine
  next_count (Some line) is fine =
      let e : length (map read_line before) ≡ suc (length (map read_line after)) = ap (λ (l : List ReadLine). length l) is in
      let a = length-map before read_line in
      let b = length-map after read_line in
      omega (arith, e, a, b)

-- ---- a line is read
module _ (n : Named) (draft : ReportDraft) (line : ReadLine) (rest : List ReadLine) where
  abbrev read_with : Option (List (List ℕ)) → Result ReportDraft ReportBroken
  read_with words = in_report_line line.number (report_line n draft line.plain words line.words)

  pub line_adds : (words : Option (List (List ℕ))) (next : ReportDraft) → words ≡ next_words rest → read_with words ≡ Ok next
      → report_lines_from n draft (line ∷ rest) ≡ report_lines_from n next rest
  line_adds words next same e =
      ap (λ (w : Option (List (List ℕ))). read_with w >>= λ d. report_lines_from n d rest) (sym same)
      ∙ ap (λ (r : Result ReportDraft ReportBroken). r >>= λ d. report_lines_from n d rest) e

  pub line_breaks : (words : Option (List (List ℕ))) (broken : ReportBroken) → words ≡ next_words rest → read_with words ≡ Err broken
      → report_lines_from n draft (line ∷ rest) ≡ Err broken
  line_breaks words broken same e =
      ap (λ (w : Option (List (List ℕ))). read_with w >>= λ d. report_lines_from n d rest) (sym same)
      ∙ ap (λ (r : Result ReportDraft ReportBroken). r >>= λ d. report_lines_from n d rest) e

-- ---- faults come first
pub fault_breaks : (o : Option LineFault) (broken : ReportBroken) (read : Result formats.Report ReportBroken) → option_map as_report_rule o ≡ Some broken
    → report_by_bytes o read ≡ Err broken
fault_breaks None broken read e = absurd (cc)
fault_breaks (Some fault) broken read e = let same : as_report_rule fault ≡ broken = cc in ap (λ (b : ReportBroken). Err b) same

pub no_fault : (o : Option LineFault) (read : Result formats.Report ReportBroken) → o ≡ None → report_by_bytes o read ≡ read
no_fault o read e = ap (λ (f : Option LineFault). report_by_bytes f read) e

-- ---- the whole text
module _ (n : Named) (text : List ℕ) where
  pub fault_breaks_text : (broken : ReportBroken) → option_map as_report_rule (first_fault text) ≡ Some broken → report_in n text ≡ Err broken
  unfolding report_in
  fault_breaks_text broken e = fault_breaks (first_fault text) broken (closed_by (report_draft n (read_lines text))) e

  pub empty_text : lines text ≡ [] → report_in n text ≡ Err (record { rule = P4; line = 1 })
  unfolding report_in
  empty_text e = ap (λ (l : List TextLine). report_by_bytes (first_fault_of l) (closed_by (report_draft n (map read_line l)))) e

  module _ (first : ReadLine) (rest : List ReadLine) (is : read_lines text ≡ first ∷ rest) where
    by_lines : report_in n text ≡ report_by_bytes (first_fault text) (closed_by (report_lines_from n (empty_report n) (first ∷ rest)))
    unfolding report_in
    by_lines = ap (λ (l : List ReadLine). report_by_bytes (first_fault text) (closed_by (report_draft n l))) is

    pub text_closes : (draft : ReportDraft) → first_fault text ≡ None → report_lines_from n (empty_report n) (first ∷ rest) ≡ Ok draft → report_in n text ≡ if_at_end draft.stage draft
    text_closes draft fine e =
        by_lines ∙ no_fault (first_fault text) (closed_by (report_lines_from n (empty_report n) (first ∷ rest))) fine
        ∙ ap closed_by e

    pub text_breaks : (faults : Option LineFault) (broken : ReportBroken) → first_fault text ≡ faults
        → report_by_bytes faults (closed_by (report_lines_from n (empty_report n) (first ∷ rest))) ≡ Err broken → report_in n text ≡ Err broken
    text_breaks faults broken same e =
        by_lines ∙ ap (λ (o : Option LineFault). report_by_bytes o (closed_by (report_lines_from n (empty_report n) (first ∷ rest)))) same ∙ e

-- ---- the end of the lines
pub loop_ends : (n : Named) (draft : ReportDraft) (line : Option ReadLine) (rest : List TextLine) → line ≡ None → EndsThere line rest
    → (report_lines_from n draft (from_line line rest) ≡ Ok draft) × (first_fault_of rest ≡ None)
loop_ends n draft None rest is ends = (ap (λ (l : List TextLine). report_lines_from n draft (map read_line l)) ends, ap first_fault_of ends)
loop_ends n draft (Some line) rest is ends = absurd (cc)

-- ---- from the first line on
module _ (n : Named) (text : List ℕ) (before after : List TextLine) (all : before ≡ lines text) (line : Option ReadLine)
    (is : MatchOption line (before ≡ []) (λ l. map read_line before ≡ l ∷ map read_line after)) where
  pub no_line : line ≡ None → report_in n text ≡ Err (record { rule = P4; line = 1 })
  no_line none = empty_text n text (sym all ∙ subst (λ (o : Option ReadLine). MatchOption o (before ≡ []) (λ l. map read_line before ≡ l ∷ map read_line after)) none is)

  module _ (fine : MatchOption line (after ≡ before) (λ l. first_fault_of before ≡ first_fault_of after)) (first : ReadLine) (some : line ≡ Some first)
      (draft : ReportDraft) (empty : draft ≡ empty_report n) where
    lines_are : read_lines text ≡ first ∷ map read_line after
    lines_are = ap (map read_line) (sym all) ∙ subst (λ (o : Option ReadLine). MatchOption o (before ≡ []) (λ l. map read_line before ≡ l ∷ map read_line after)) some is

    faults_are : first_fault text ≡ first_fault_of after
    faults_are = ap first_fault_of (sym all) ∙ subst (λ (o : Option ReadLine). MatchOption o (after ≡ before) (λ l. first_fault_of before ≡ first_fault_of after)) some fine

    pub draft_read : (read : Draft) → report_lines_from n draft (first ∷ map read_line after) ≡ Ok (seen_draft n read) → first_fault_of after ≡ None
        → report_in n text ≡ if_at_end (seen_stage read.stage) (seen_draft n read)
    draft_read read e f =
        text_closes n text first (map read_line after) lines_are (seen_draft n read) (faults_are ∙ f)
        (ap (λ (d : ReportDraft). report_lines_from n d (first ∷ map read_line after)) (sym empty) ∙ e)

    pub fault_read : (fault : FileFault ReportRule)
        → IfBroken fault (λ broken. report_by_bytes (first_fault_of after) (closed_by (report_lines_from n draft (first ∷ map read_line after))) ≡ Err broken)
        → IfBroken fault (λ broken. report_in n text ≡ Err broken)
    fault_read fault h =
        broken_more fault
        (λ broken. report_by_bytes (first_fault_of after) (closed_by (report_lines_from n draft (first ∷ map read_line after))) ≡ Err broken)
        (λ broken. report_in n text ≡ Err broken)
        (λ broken e. text_breaks n text first (map read_line after) lines_are (first_fault_of after) broken faults_are
        (ap (λ (d : ReportDraft). report_by_bytes (first_fault_of after) (closed_by (report_lines_from n d (first ∷ map read_line after)))) (sym empty) ∙ e)) h
