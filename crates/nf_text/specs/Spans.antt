-- Words by their places in a text.
use Rattle.std.specs.Prelude.{◌≡◌, ◌++◌, false, Option, MatchOption, ℕ, ◌+◌, ◌-◌, ◌<◌, ◌≤◌, List, [], ◌∷◌, take, drop, Bool, if◌then◌else◌}
use Rattle.std.specs.Str.{bytes_eq}
use Rattle.nf_text.specs.declared.Span.{Span}

-- the bytes at a place
abbrev pub text_of : List ℕ → Span → List ℕ
text_of text span = take span.len (drop span.start text)

-- each place begins after the one before, from a first byte on, and none goes past a last one
abbrev pub Rise : ℕ → ℕ → List Span → Type 0
Rise first last [] = Unit {0}
Rise first last (span ∷ spans) = (first ≤ span.start) × (0 < span.len) × (span.start + span.len ≤ last)
    × Rise (span.start + span.len) last spans

-- a word, and maybe a space before it
abbrev pub space_before : Bool → List ℕ → List ℕ
space_before spaced word = if spaced then 32 ∷ word else word

-- the bytes between two places of a text
abbrev pub between : List ℕ → ℕ → ℕ → List ℕ
between text start end = take (end - start) (drop start text)

-- the line, a part of a text, begins with these bytes and goes on at a place of the text, or it doesn't begin with them: told by what
-- comparisons answer
abbrev pub ComparesPrefix : List ℕ → ℕ → List ℕ → List ℕ → Option ℕ → Type 0
ComparesPrefix text end line front next = (tail : List ℕ)
    → MatchOption next (bytes_eq line (front ++ tail) ≡ false) (λ n. bytes_eq line (front ++ tail) ≡ bytes_eq (between text n end) tail)
