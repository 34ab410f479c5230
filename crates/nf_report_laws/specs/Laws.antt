-- Theorems: accepted loads files and reports are well formed, and reports and their texts correspond one to one.
use Rattle.std.specs.Prelude.{◌≡◌, ℕ, List, length, Ok}
use Rattle.nf_model.specs.Network.{Piece, ArePieces}
use Rattle.nf_net_def.specs.Named.{Named}
use Rattle.nf_net_def.specs.WellNamed.{IsNamed}
use Rattle.nf_net_def.specs.Report.{Report, IsWellFormed, report_text}
use Rattle.nf_report_def.specs.LoadsFile.{loads_in, pieces_at}
use Rattle.nf_report_def.specs.ReportFile.{report_in}
use Rattle.nf_report_laws.specs.Readable.{IsReadable}

abbrev pub LoadsHavePieces : Type 0
LoadsHavePieces = (n : Named) (text : List ℕ) (pieces : List (List Piece)) → loads_in n text ≡ Ok pieces
    → (length pieces ≡ length n.link_names) × ((e : ℕ) → ArePieces (pieces_at pieces e))

-- reading the text of a well-formed report with readable numbers returns that report
abbrev pub ReportReadsBack : Type 0
ReportReadsBack = (n : Named) (report : Report) → IsNamed n → IsWellFormed n.net report → IsReadable report
    → report_in n (report_text n report) ≡ Ok report

-- an accepted text is the text of the report that it is read as; the report is well formed and has readable numbers
abbrev pub AcceptedIsItsText : Type 0
AcceptedIsItsText = (n : Named) (text : List ℕ) (report : Report) → IsNamed n → report_in n text ≡ Ok report
    → IsWellFormed n.net report × IsReadable report × (text ≡ report_text n report)

-- two such reports of a network with the same text are equal
abbrev pub TextsDiffer : Type 0
TextsDiffer = (n : Named) (one other : Report) → IsNamed n → IsWellFormed n.net one → IsReadable one → IsWellFormed n.net other
    → IsReadable other → report_text n one ≡ report_text n other → one ≡ other
