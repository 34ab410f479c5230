-- The reading of a text from that of its lines and of the file as a whole.
use Rattle.std.proofs.Common.{◌≡◌, ℕ, ◌+◌, ◌-◌, ◌<◌, ◌≤◌, Bool, true, false, List, [], ◌∷◌, length, take, drop, get_or, Option, Some, None, Result, Ok, Err, MatchResult, refl, sym, ap, subst, ◌∙◌, arith}
use Rattle.std.specs.Prelude.{if◌then◌else◌}
use Rattle.std.proofs.lemmas.List.{at_drop_more, take_rest}
use Rattle.nf_frac_def.specs.Checked.{◌>>=◌}
use Rattle.nf_text_def.specs.Words.{ReadLine, read_lines, content_lines}
use Rattle.nf_text_def.specs.Faults.{LineFault as TextLineFault, NotAscii, LongLine, first_fault}
use Rattle.nf_text.specs.declared.TextFault.{TextFault}
use Rattle.nf_text.specs.declared.fault.FileFault.{FileFault}
use Rattle.nf_text.specs.declared.fault.LineFault.{LineFault}
use Rattle.nf_text.specs.Reading.{MatchesFault}
use Rattle.nf_text.specs.Faults.{IfRule, fault_in_line, fault_of_text}
use Rattle.nf_side_def.specs.Lines.{is_head}
use Rattle.nf_side_def.specs.Frame.{Broken, Frame, in_line, add_lines, draft_of, by_bytes, file_in}
use Rattle.nf_side.specs.declared.head.FileHead.{FileHead}
use Rattle.nf_side.specs.Faults.{IfBroken}
use Rattle.nf_side.specs.Heads.{IsHeadOf}
use Rattle.nf_side.specs.Drafted.{open_frame, drafted_in}

-- what follows for a broken rule
pub broken_more : {Rule : Type 0} (fault : FileFault Rule) (P Q : Broken Rule → Type 0) → ((broken : Broken Rule) → P broken → Q broken) → IfBroken fault P → IfBroken fault Q
broken_more (FileFault.Broken rule line) P Q f h = f (record { rule = rule; line = line }) h
broken_more FileFault.Memory P Q f h = tt

-- the same answer of an equal reading
pub same_read : {A B Rule : Type 0} (seen : A → B) (result : Result A (FileFault Rule)) (read other : Result B (Broken Rule)) → other ≡ read
    → MatchResult result (λ x. read ≡ Ok (seen x)) (λ fault. IfBroken fault (λ broken. read ≡ Err broken))
    → MatchResult result (λ x. other ≡ Ok (seen x)) (λ fault. IfBroken fault (λ broken. other ≡ Err broken))
same_read {B = B} {Rule = Rule} seen result read other e h =
    subst (λ (r : Result B (Broken Rule)). MatchResult result (λ x. r ≡ Ok (seen x)) (λ fault. IfBroken fault (λ broken. r ≡ Err broken))) (sym e) h

-- ---- a line among others
module _ {Draft Rule : Type 0} (add : Draft → List (List ℕ) → Result Draft Rule) (draft : Draft) (lines : List ReadLine) (i : ℕ) (line : ReadLine)
    (lt : i < length lines) (is : line ≡ get_or lines i line) where
  abbrev read_on : Result Draft (Broken Rule) → Result Draft (Broken Rule)
  read_on r = r >>= λ next. add_lines add next (drop (i + 1) lines)

  line_reads : (r : Result Draft (Broken Rule)) → in_line line.number (add draft line.words) ≡ r → add_lines add draft (drop i lines) ≡ read_on r
  line_reads r e = at_drop_more (add_lines add draft) lines i line lt ∙ ap (λ (l : ReadLine). read_on (in_line l.number (add draft l.words))) (sym is) ∙ ap read_on e

  module _ (read : Result Draft (Broken Rule)) (so_far : add_lines add draft (drop i lines) ≡ read) where
    pub line_added : (next : Draft) → add draft line.words ≡ Ok next → add_lines add next (drop (i + 1) lines) ≡ read
    line_added next e = sym (line_reads (Ok next) (ap (in_line line.number) e)) ∙ so_far

    line_breaks : (fault : LineFault Rule) → IfRule fault (λ rule. add draft line.words ≡ Err rule) → IfBroken (fault_in_line line.number fault) (λ broken. read ≡ Err broken)
    line_breaks (LineFault.Broken rule) e = sym so_far ∙ line_reads (Err (record { rule = rule; line = line.number })) (ap (in_line line.number) e)
    line_breaks LineFault.Memory e = tt

    pub line_refused : (fault : LineFault Rule) (number : ℕ) (answer : FileFault Rule) → answer ≡ fault_in_line number fault → number ≡ line.number
        → IfRule fault (λ rule. add draft line.words ≡ Err rule) → IfBroken answer (λ broken. read ≡ Err broken)
    line_refused fault number answer e same h =
        subst (λ (f : FileFault Rule). IfBroken f (λ broken. read ≡ Err broken)) (sym (e ∙ ap (λ (k : ℕ). fault_in_line k fault) same)) (line_breaks fault h)

module _ {Rule Draft Given : Type 0} (frame : Frame Rule Draft Given) where
  -- ---- the first line, and the rest
  module _ (head : FileHead Rule) (of_frame : IsHeadOf frame head) where
    pub no_first : (lines : List ReadLine) → length lines ≡ 0 → draft_of frame lines ≡ Err (record { rule = head.no_head; line = 1 })
    no_first [] none = ap (λ (r : Rule). Err (record { rule = r; line = 1 })) (sym of_frame.no_head)
    no_first (line ∷ rest) none = absurd (omega arith)

    module _ (lines : List ReadLine) (first : ReadLine) (some : 1 ≤ length lines) (is : first ≡ get_or lines 0 first) where
      abbrev by_head : List ReadLine → Bool → Result Draft (Broken Rule)
      by_head rest b = if b then add_lines frame.add frame.empty rest else Err (record { rule = frame.no_head; line = first.number })

      by_first : (b : Bool) → is_head head.keyword.now first.words ≡ b → draft_of frame lines ≡ by_head (drop 1 lines) b
      by_first b e = at lines some is
        where
          at : (lines : List ReadLine) → 1 ≤ length lines → first ≡ get_or lines 0 first → draft_of frame lines ≡ by_head (drop 1 lines) b
          at [] some is = absurd (omega arith)
          at (line ∷ rest) some is =
              ap (λ (l : ReadLine). if is_head frame.keyword l.words then add_lines frame.add frame.empty rest else Err (record { rule = frame.no_head; line = l.number })) (sym is)
              ∙ ap (by_head rest) (ap (λ (k : List ℕ). is_head k first.words) (sym of_frame.keyword) ∙ e)

      pub other_first : (number : ℕ) → number ≡ first.number → is_head head.keyword.now first.words ≡ false → draft_of frame lines ≡ Err (record { rule = head.no_head; line = number })
      other_first number same e = by_first false e ∙ λ i. Err (record { rule = sym of_frame.no_head i; line = sym same i })

      pub head_then : (draft : Draft) → draft ≡ frame.empty → is_head head.keyword.now first.words ≡ true
          → draft_of frame lines ≡ add_lines frame.add draft (take (length lines - 1) (drop 1 lines))
      head_then draft same e =
          by_first true e
          ∙ ap (λ (d : Draft). add_lines frame.add d (drop 1 lines)) (sym same)
          ∙ ap (add_lines frame.add draft) (sym (take_rest lines 1))

  -- ---- a file that is closed
  open_draft : (lines : List ReadLine) → draft_of (open_frame frame) lines ≡ draft_of frame lines
  open_draft [] = refl
  open_draft (line ∷ rest) = refl

  module _ (text : List ℕ) where
    abbrev content : List ReadLine
    content = content_lines (read_lines text)

    open_file : (fault : Option TextLineFault) → by_bytes frame fault (draft_of frame content >>= frame.close)
        ≡ (by_bytes (open_frame frame) fault (draft_of (open_frame frame) content) >>= frame.close)
    open_file (Some (NotAscii line)) = refl
    open_file (Some (LongLine line)) = refl
    open_file None = ap (λ (r : Result Draft (Broken Rule)). r >>= frame.close) (sym (open_draft content))

    pub file_closed : (read : Result Draft (Broken Rule)) → drafted_in (open_frame frame) text ≡ read → file_in frame text ≡ (read >>= frame.close)
    file_closed read e = open_file (first_fault text) ∙ ap (λ (r : Result Draft (Broken Rule)). r >>= frame.close) e

    pub drafted_lines : (draft : Draft) → drafted_in (open_frame frame) text ≡ Ok draft → draft_of frame content ≡ Ok draft
    drafted_lines draft e = at (first_fault text) e
      where
        at : (fault : Option TextLineFault) → by_bytes (open_frame frame) fault (draft_of (open_frame frame) content) ≡ Ok draft → draft_of frame content ≡ Ok draft
        at (Some fault) e = absurd (cc)
        at None e = sym (open_draft content) ∙ e

-- ---- a text, by its lines
module _ {Rule Draft : Type 0} (frame : Frame Rule Draft Draft) (text : List ℕ) where
  abbrev by_fault : Option TextLineFault → Result Draft (Broken Rule)
  by_fault fault = by_bytes frame fault (draft_of frame (content_lines (read_lines text)))

  -- a line with a fault
  pub text_refused : (head : FileHead Rule) → IsHeadOf frame head → (fault : TextFault) (answer : FileFault Rule)
      → answer ≡ fault_of_text head.not_ascii head.long_line fault → MatchesFault fault (first_fault text)
      → IfBroken answer (λ broken. drafted_in frame text ≡ Err broken)
  text_refused head of_frame fault answer e tells = subst (λ (f : FileFault Rule). IfBroken f (λ broken. drafted_in frame text ≡ Err broken)) (sym e) (at fault tells)
    where
      at : (fault : TextFault) → MatchesFault fault (first_fault text) → IfBroken (fault_of_text head.not_ascii head.long_line fault) (λ broken. drafted_in frame text ≡ Err broken)
      at (TextFault.NotAscii line) e = ap by_fault e ∙ ap (λ (r : Rule). Err (record { rule = r; line = line })) (sym of_frame.not_ascii)
      at (TextFault.LongLine line) e = ap by_fault e ∙ ap (λ (r : Rule). Err (record { rule = r; line = line })) (sym of_frame.long_line)
      at TextFault.Memory e = tt

  -- lines without a fault
  pub lines_drafted : (lines : List ReadLine) → lines ≡ content_lines (read_lines text) → first_fault text ≡ None → drafted_in frame text ≡ draft_of frame lines
  lines_drafted lines same fine = ap by_fault fine ∙ ap (draft_of frame) (sym same)
