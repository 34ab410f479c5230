-- A call shows the one answer that its words have with the known bytes of their files.
use Rattle.std.specs.Prelude.{◌≡◌}
use Rattle.nf_edge.specs.Faults.{Rose}
use Rattle.nf_app_answers.specs.declared.status.Status.{Status}
use Rattle.nf_app_answers.specs.Answers.{ProgramAnswer, NoMemory, status_of}
use Rattle.nf_app_files.specs.Shown.{IsShown, IsShownWhole}
use Rattle.nf_app.specs.Runs.{Run}
use Rattle.nf_app.specs.Told.{IsToldAnswer, TellsAll}

-- The words have one answer and no other, and the call shows it, cut short only by a failed output. Or an allocation failed, or the shelf
-- did and the call shows that.
pub data Shows (run : Run) : Type 0 where
  the_answer : (answer : ProgramAnswer) → IsToldAnswer run.call.words run.call.shelf.told answer
      → ((other : ProgramAnswer) → IsToldAnswer run.call.words run.call.shelf.told other → other ≡ answer)
      → IsShown answer run.out run.err run.status → Shows run
  no_memory : IsShownWhole NoMemory run.out run.err run.status → Shows run
  shelf_failed : (answer : ProgramAnswer) → status_of answer ≡ Status.Shelf
      → Rose run.call.shelf.faults_before run.call.shelf.faults_now
      → IsShownWhole answer run.out run.err run.status → Shows run

abbrev pub ShowsOnlyThat : Run → Type 0
ShowsOnlyThat run = TellsAll run.call.words run.call.shelf.told → Shows run
