-- Rules that a file or a line of it breaks.
use Rattle.std.specs.Prelude.{ℕ}
use Rattle.nf_text.specs.declared.TextFault.{TextFault}
use Rattle.nf_text.specs.declared.fault.FileFault.{FileFault}
use Rattle.nf_text.specs.declared.fault.LineFault.{LineFault}

-- P holds for the rule that the line breaks, or an allocation failed
abbrev pub IfRule : {Rule : Type 0} → LineFault Rule → (Rule → Type 0) → Type 0
IfRule (LineFault.Broken rule) P = P rule
IfRule LineFault.Memory P = Unit {0}

-- the fault of the file, from the fault of the line with this number
abbrev pub fault_in_line : {Rule : Type 0} → ℕ → LineFault Rule → FileFault Rule
fault_in_line line (LineFault.Broken rule) = FileFault.Broken rule line
fault_in_line line LineFault.Memory = FileFault.Memory

-- the fault of the file, from the fault of its text, with the rules for bytes that are not allowed and for long lines
abbrev pub fault_of_text : {Rule : Type 0} → Rule → Rule → TextFault → FileFault Rule
fault_of_text not_ascii long_line (TextFault.NotAscii line) = FileFault.Broken not_ascii line
fault_of_text not_ascii long_line (TextFault.LongLine line) = FileFault.Broken long_line line
fault_of_text not_ascii long_line TextFault.Memory = FileFault.Memory
