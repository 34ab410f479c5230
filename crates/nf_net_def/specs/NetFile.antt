-- A text stands for a network, or breaks a first rule in some line.
use Rattle.std.specs.Prelude.{◌≡◌, ℕ, List, Option, Some, None, Result, Ok, Err}
use Rattle.std.specs.List.{AllByRecursion}
use Rattle.nf_net_def.specs.declared.NetRule.TheVariants.{N1, N2}
use Rattle.nf_text_def.specs.Words.{read_lines, content_lines}
use Rattle.nf_text_def.specs.Faults.{LineFault, NotAscii, LongLine, first_fault}
use Rattle.nf_net_def.specs.Named.{Named}
use Rattle.nf_net_def.specs.NetLines.{Broken, Draft, draft_from}
use Rattle.nf_net_def.specs.NetClosing.{BreaksRule, closing_rules, IsFirst, StandsFor}

abbrev pub as_rule : LineFault → Broken
as_rule (NotAscii line) = record { rule = N1; line = line }
as_rule (LongLine line) = record { rule = N2; line = line }

-- The result of a whole file. If the file breaks none of N17 to N22, the result is the network that it stands for. Otherwise it is the
-- first broken rule of these, with line 0.
abbrev pub ReadsAs : Draft → Result Named Broken → Type 0
ReadsAs draft (Ok n) = AllByRecursion (λ rule. ¬ BreaksRule draft rule) closing_rules × StandsFor draft n
ReadsAs draft (Err broken) = IsFirst (BreaksRule draft) closing_rules broken.rule × (broken.line ≡ 0)

-- the rules are tested in three tiers: bytes and lengths of all lines, then each line, then the file as a whole
abbrev pub by_lines : Result Draft Broken → Result Named Broken → Type 0
by_lines (Err broken) result = result ≡ Err broken
by_lines (Ok draft) result = ReadsAs draft result

abbrev pub by_bytes : Option LineFault → Result Draft Broken → Result Named Broken → Type 0
by_bytes (Some fault) lines result = result ≡ Err (as_rule fault)
by_bytes None lines result = by_lines lines result

-- The result is the network that the text stands for, or the first broken rule with its line.
abbrev pub Reads : List ℕ → Result Named Broken → Type 0
Reads text result = by_bytes (first_fault text) (draft_from (content_lines (read_lines text))) result
