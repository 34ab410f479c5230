-- The reading of a text from that of its lines and of the file as a whole.
use Rattle.std.proofs.Common.{◌≡◌, ℕ, List, Option, Some, None, Result, Ok, Err, MatchResult, refl, sym, ap, subst, ◌∙◌}
use Rattle.nf_net.proofs.Common.{ReadLine, read_lines, content_lines, Named, Broken, Draft, draft_from, as_rule, ReadsAs, by_bytes, Reads, IfBroken}
use Rattle.nf_net.proofs.Common.{broken_more}
use Rattle.nf_text_def.specs.Faults.{LineFault, NotAscii, LongLine, first_fault}
use Rattle.nf_text.specs.declared.TextFault.{TextFault}
use Rattle.nf_text.specs.declared.fault.FileFault.{FileFault}
use Rattle.nf_text.specs.Reading.{MatchesFault}
use Rattle.nf_text.specs.Faults.{fault_of_text}
use Rattle.nf_net_def.specs.declared.NetRule.{NetRule}
use Rattle.nf_net_def.specs.declared.NetRule.TheVariants.{N1, N2}

-- a line with a fault
pub text_refused : (text : List ℕ) (fault : TextFault) (answer : FileFault NetRule) → answer ≡ fault_of_text N1 N2 fault → MatchesFault fault (first_fault text)
    → IfBroken answer (λ broken. Reads text (Err broken))
text_refused text fault answer e tells = subst (λ (f : FileFault NetRule). IfBroken f (λ broken. Reads text (Err broken))) (sym e) (at fault tells)
  where
    found : (fault : LineFault) (broken : Broken) → first_fault text ≡ Some fault → as_rule fault ≡ broken → Reads text (Err broken)
    found fault broken e same = subst (λ (o : Option LineFault). by_bytes o (draft_from (content_lines (read_lines text))) (Err broken)) (sym e) (ap (λ (b : Broken). Err b) (sym same))

    at : (fault : TextFault) → MatchesFault fault (first_fault text) → IfBroken (fault_of_text N1 N2 fault) (λ broken. Reads text (Err broken))
    at (TextFault.NotAscii line) e = found (NotAscii line) _ e refl
    at (TextFault.LongLine line) e = found (LongLine line) _ e refl
    at TextFault.Memory e = tt

module _ (text : List ℕ) (lines : List ReadLine) (same : lines ≡ content_lines (read_lines text)) (fine : first_fault text ≡ None) where
  by_parts : (d : Result Draft Broken) (r : Result Named Broken) → draft_from lines ≡ d → by_bytes None d r → Reads text r
  by_parts d r e h =
      subst (λ (fault : Option LineFault). by_bytes fault (draft_from (content_lines (read_lines text))) r) (sym fine)
      (subst (λ (x : Result Draft Broken). by_bytes None x r) (sym e ∙ ap draft_from same) h)

  pub reads_broken : (broken : Broken) → draft_from lines ≡ Err broken → Reads text (Err broken)
  reads_broken broken e = by_parts (Err broken) (Err broken) e refl

  pub reads_closed : (draft : Draft) (r : Result Named Broken) → draft_from lines ≡ Ok draft → ReadsAs draft r → Reads text r
  reads_closed draft r e h = by_parts (Ok draft) r e h

  pub reads_all : (draft : Draft) (r : Result Named (FileFault NetRule)) → draft_from lines ≡ Ok draft
      → MatchResult r (λ net. ReadsAs draft (Ok net)) (λ fault. IfBroken fault (λ broken. ReadsAs draft (Err broken)))
      → MatchResult r (λ net. Reads text (Ok net)) (λ fault. IfBroken fault (λ broken. Reads text (Err broken)))
  reads_all draft (Ok net) e h = reads_closed draft (Ok net) e h
  reads_all draft (Err fault) e h = broken_more fault (λ broken. ReadsAs draft (Err broken)) (λ broken. Reads text (Err broken)) (λ broken k. reads_closed draft (Err broken) e k) h
