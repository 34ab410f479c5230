-- The lines of a network file, one after the other.
use Rattle.std.proofs.Common.{◌≡◌, ℕ, ◌+◌, ◌-◌, ◌<◌, ◌≤◌, List, [], ◌∷◌, length, take, drop, get_or, Option, Some, None, Result, Ok, Err, refl, sym, ap}
use Rattle.std.proofs.Common.{subst, ◌∙◌, arith}
use Rattle.nf_net_file.proofs.Common.{at_drop_more, take_rest, NetRule, N3, Broken, Draft, empty_draft, add_line, add_lines, in_line, version_of}
use Rattle.nf_net_file.proofs.Common.{draft_after, draft_from, IfBroken}
use Rattle.nf_frac_def.specs.Checked.{◌>>=◌}
use Rattle.nf_text_def.specs.Words.{ReadLine}
use Rattle.nf_text.specs.declared.fault.FileFault.{FileFault}
use Rattle.nf_text.specs.declared.fault.LineFault.{LineFault}
use Rattle.nf_text.specs.Faults.{IfRule, fault_in_line}

-- what follows for a broken rule
pub broken_more : (fault : FileFault NetRule) (P Q : Broken → Type 0) → ((broken : Broken) → P broken → Q broken) → IfBroken fault P → IfBroken fault Q
broken_more (FileFault.Broken rule line) P Q f h = f (record { rule = rule; line = line }) h
broken_more FileFault.Memory P Q f h = tt

-- ---- a line among others
module _ (draft : Draft) (lines : List ReadLine) (i : ℕ) (line : ReadLine) (lt : i < length lines) (is : line ≡ get_or lines i line) where
  abbrev read_on : Result Draft Broken → Result Draft Broken
  read_on r = r >>= λ next. add_lines next (drop (i + 1) lines)

  line_reads : (r : Result Draft Broken) → in_line line.number (add_line draft line.words) ≡ r → add_lines draft (drop i lines) ≡ read_on r
  line_reads r e = at_drop_more (add_lines draft) lines i line lt ∙ ap (λ (l : ReadLine). read_on (in_line l.number (add_line draft l.words))) (sym is) ∙ ap read_on e

  module _ (read : Result Draft Broken) (so_far : add_lines draft (drop i lines) ≡ read) where
    pub line_added : (next : Draft) → add_line draft line.words ≡ Ok next → add_lines next (drop (i + 1) lines) ≡ read
    line_added next e = sym (line_reads (Ok next) (ap (in_line line.number) e)) ∙ so_far

    line_breaks : (fault : LineFault NetRule) → IfRule fault (λ rule. add_line draft line.words ≡ Err rule) → IfBroken (fault_in_line line.number fault) (λ broken. read ≡ Err broken)
    line_breaks (LineFault.Broken rule) e = sym so_far ∙ line_reads (Err (record { rule = rule; line = line.number })) (ap (in_line line.number) e)
    line_breaks LineFault.Memory e = tt

    pub line_refused : (fault : LineFault NetRule) (number : ℕ) (answer : FileFault NetRule) → answer ≡ fault_in_line number fault → number ≡ line.number
        → IfRule fault (λ rule. add_line draft line.words ≡ Err rule) → IfBroken answer (λ broken. read ≡ Err broken)
    line_refused fault number answer e same h =
        subst (λ (f : FileFault NetRule). IfBroken f (λ broken. read ≡ Err broken)) (sym (e ∙ ap (λ (k : ℕ). fault_in_line k fault) same)) (line_breaks fault h)

-- ---- the first line, and the rest
pub no_first : (lines : List ReadLine) → length lines ≡ 0 → draft_from lines ≡ Err (record { rule = N3; line = 1 })
no_first [] none = refl
no_first (line ∷ rest) none = absurd (omega arith)

module _ (lines : List ReadLine) (first : ReadLine) (some : 1 ≤ length lines) (is : first ≡ get_or lines 0 first) where
  by_first : (version : Option ℕ) → version ≡ version_of first.words → draft_from lines ≡ draft_after version first.number (drop 1 lines)
  by_first version e = at lines some is
    where
      at : (lines : List ReadLine) → 1 ≤ length lines → first ≡ get_or lines 0 first → draft_from lines ≡ draft_after version first.number (drop 1 lines)
      at [] some is = absurd (omega arith)
      at (line ∷ rest) some is =
          ap (λ (l : ReadLine). draft_after (version_of l.words) l.number rest) (sym is) ∙ ap (λ (v : Option ℕ). draft_after v first.number rest) (sym e)

  pub no_version : (number : ℕ) → number ≡ first.number → None ≡ version_of first.words → draft_from lines ≡ Err (record { rule = N3; line = number })
  no_version number same e = by_first None e ∙ λ i. Err (record { rule = N3; line = sym same i })

  pub version_then : (version : ℕ) (draft : Draft) → draft ≡ empty_draft version → Some version ≡ version_of first.words
      → draft_from lines ≡ add_lines draft (take (length lines - 1) (drop 1 lines))
  version_then version draft same e =
      by_first (Some version) e
      ∙ ap (λ (d : Draft). add_lines d (drop 1 lines)) (sym same)
      ∙ ap (add_lines draft) (sym (take_rest lines 1))
