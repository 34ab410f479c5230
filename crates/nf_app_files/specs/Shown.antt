-- What the two sinks took of an answer, and the status of its run.
use Rattle.std.specs.Prelude.{◌≡◌, ◌⊎◌}
use Rattle.nf_app_answers.specs.declared.status.Status.{Status}
use Rattle.nf_app_answers.specs.ErrorLines.{output_line}
use Rattle.nf_app_answers.specs.Answers.{ProgramAnswer, HasOutput, status_of, out_text, err_text}
use Rattle.nf_app_files.specs.Sinks.{Took, TookWhole, CutShort, TookText}

-- the status is that of the answer, `out` took its whole text without a fault, and `err` took its error text, whole or cut short
pub record IsShownWhole (answer : ProgramAnswer) (out err : Took) (status : Status) : Type 0 where
  pub status_is : status ≡ status_of answer
  pub took : TookWhole out (out_text answer)
  pub told : TookText err (err_text answer)

-- the status is that of a failed output, one fault of `out` cut the answer's text short, and `err` took the line that says so
pub record IsShownInPart (answer : ProgramAnswer) (out err : Took) (status : Status) : Type 0 where
  pub status_is : status ≡ Status.Output
  pub has_text : HasOutput answer
  pub took : CutShort out (out_text answer)
  pub told : TookText err output_line

-- either of the two; a fault of `err` changes no status
abbrev pub IsShown : ProgramAnswer → Took → Took → Status → Type 0
IsShown answer out err status = IsShownWhole answer out err status ⊎ IsShownInPart answer out err status
