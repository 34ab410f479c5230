-- The lines of a network file that have words, and their meaning.
use Rattle.std.specs.Prelude.{◌≡◌, List, Ok}
use Rattle.nf_text_def.specs.Words.{ReadLine}
use Rattle.nf_text.specs.declared.fault.FileFault.{FileFault}
use Rattle.nf_net_def.specs.declared.NetRule.{NetRule}
use Rattle.nf_net_def.specs.NetLines.{Broken, Draft, draft_from}

-- P holds for the broken rule and its line, or an allocation failed
abbrev pub IfBroken : FileFault NetRule → (Broken → Type 0) → Type 0
IfBroken (FileFault.Broken rule line) P = P (record { rule = rule; line = line })
IfBroken FileFault.Memory P = Unit {0}

-- lines say this
pub record IsRead (draft : Draft) : Type 0 where
  pub lines : List ReadLine
  pub read : draft_from lines ≡ Ok draft
