-- The progress of a listing.
use Rattle.std.specs.Prelude.{◌≡◌}
use Rattle.nf_model.specs.Pattern.{Pattern}
use Rattle.nf_pattern.specs.declared.question.Stand.{Stand}
use Rattle.nf_pattern.specs.declared.question.Stand.TheVariants.{Start, Listed, End}
use Rattle.nf_pattern.specs.Successor.{IsAssignment, IsQuiet}
use Rattle.nf_pattern.specs.declared.assignments.Quiet.{Quiet}
use Rattle.nf_pattern.specs.declared.trail.Trail.{Trail}
use Rattle.nf_pattern.specs.Trail.{IsTrailOf}
use Rattle.nf_pattern.specs.Given.{Question, IsQuestion, Last, AtStart, UpTo, AtEnd}

-- How far the listing is enumerated, given its current pattern.
abbrev pub last_of : Stand → Pattern → Last
last_of Start current = AtStart
last_of Listed current = UpTo current
last_of End current = AtEnd

-- The states are an assignment, the trail is one along it, and `quiet` is its unchanged suffix.
pub record IsPlaced (question : Question) (states : Pattern) (trail : Trail) (quiet : Quiet) : Type 0 where
  pub is_question : IsQuestion question
  pub assigned : IsAssignment question.base question.unbounded states
  pub on_trail : IsTrailOf question states trail
  pub is_quiet : IsQuiet question.base quiet states

-- The current assignment is the base at the start, and later the last enumerated pattern.
pub record IsStanding (question : Question) (stand : Stand) (current : Pattern) (trail : Trail) (quiet : Quiet) : Type 0 where
  pub placed : IsPlaced question current trail quiet
  pub start : stand ≡ Start → current ≡ question.base
