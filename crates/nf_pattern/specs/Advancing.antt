-- A step from an assignment to a later one.
use Rattle.std.specs.Prelude.{◌≡◌, ℕ, take}
use Rattle.nf_model.specs.Pattern.{Pattern, IsBefore}
use Rattle.nf_pattern.specs.Successor.{IsAssignment}
use Rattle.nf_pattern.specs.Given.{Question, IsListedBy}

-- All listed patterns between the two agree with the first one at the first `same` links.
pub record Advances (question : Question) (same : ℕ) (before after : Pattern) : Type 0 where
  pub assigned : IsAssignment question.base question.unbounded after
  pub later : IsBefore question.base before after
  pub between : (r : Pattern) → IsListedBy question r → IsBefore question.base before r → IsBefore question.base r after
      → take same r ≡ take same before

-- All listed patterns after this one agree with it at the first `same` links.
abbrev pub NoneAdvances : Question → ℕ → Pattern → Type 0
NoneAdvances question same before = (r : Pattern) → IsListedBy question r → IsBefore question.base before r
    → take same r ≡ take same before
