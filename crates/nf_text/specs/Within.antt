-- Words of a line, by their places.
use Rattle.std.specs.Prelude.{ℕ, ◌+◌, ◌≤◌, List, [], length, slice_get, unwrap_or, All}
use Rattle.nf_text.specs.declared.Span.{Span}

-- each word lies in the bytes
pub record LieWithin (bytes : List ℕ) (spans : List Span) : Type 0 where
  pub each : All (λ (span : Span). span.start + span.len ≤ length bytes) spans

abbrev pub word_at : List (List ℕ) → ℕ → List ℕ
word_at words place = unwrap_or (slice_get words place) []
