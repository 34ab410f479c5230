-- The first rule that a side file breaks.
use Rattle.nf_text.specs.declared.fault.FileFault.{FileFault}
use Rattle.nf_side_def.specs.Frame.{Broken}

-- P holds for the broken rule and its line, or an allocation failed
abbrev pub IfBroken : {Rule : Type 0} → FileFault Rule → (Broken Rule → Type 0) → Type 0
IfBroken (FileFault.Broken rule line) P = P (record { rule = rule; line = line })
IfBroken FileFault.Memory P = Unit {0}
