-- What a sink took of a text.
use Rattle.std.specs.Prelude.{◌≡◌, ℕ, ◌<◌, List, ◌++◌, length, take, Option, option_map}

-- the bytes that a sink took, if they are known, with these appended
abbrev pub with_more : Option (List ℕ) → List ℕ → Option (List ℕ)
with_more took bytes = option_map (λ before. before ++ bytes) took

-- the sink took a proper prefix of a text
pub record TookFront (old new : Option (List ℕ)) (text : List ℕ) : Type 0 where
  pub count : ℕ
  pub not_all : count < length text
  pub front : new ≡ with_more old (take count text)
