-- Single lines of a side file.
use Rattle.std.specs.Prelude.{ℕ, Bool, false, ◌&&◌, ◌||◌, nat_le, if◌then◌else◌, List, [], ◌∷◌, length, Option, Some, None, Result, Ok, Err, codes}
use Rattle.std.specs.List.{last_or}
use Rattle.std.specs.Result.{result_ok}
use Rattle.std.specs.Str.{bytes_eq}
use Rattle.nf_rational.specs.Rational.{ℚ}
use Rattle.nf_frac_words.specs.Numbers.{number_of}
use Rattle.nf_model.specs.Network.{Piece}
use Rattle.nf_net_def.specs.Names.{Name, has_name, place_of}
use Rattle.nf_net_def.specs.Numbers.{greatest}
use Rattle.nf_net_def.specs.NetLines.{is_negative, is_not_after}

-- the first line: a keyword and the version 1
abbrev pub is_head : List ℕ → List (List ℕ) → Bool
is_head keyword (key ∷ version ∷ []) = bytes_eq key keyword && bytes_eq version (codes "1")
is_head keyword words = false

-- reads an `end` line, or refuses any further word
abbrev pub end_line : {Entry Rule : Type 0} → Entry → Rule → List (List ℕ) → Result Entry Rule
end_line end wrong_count [] = Ok end
end_line end wrong_count words = Err wrong_count

-- makes a piece, if both words are numbers
abbrev pub piece_entry : {Entry Rule : Type 0} → (Piece → Entry) → Rule → Option ℚ → Option ℚ → Result Entry Rule
piece_entry make no_number (Some start) (Some rate) = Ok (make (record { start = start; rate = rate }))
piece_entry make no_number start rate = Err no_number

-- reads `rate NAME START RATE`
abbrev pub rate_line : {Entry Rule : Type 0} → (ℕ → Piece → Entry) → Rule → Rule → Rule → List Name → List (List ℕ) → Result Entry Rule
rate_line make wrong_count unknown no_number names (name ∷ start ∷ rate ∷ []) =
    if has_name names name then piece_entry (make (place_of names name)) no_number (result_ok (number_of greatest start))
    (result_ok (number_of greatest rate)) else Err unknown
rate_line make wrong_count unknown no_number names words = Err wrong_count

-- ---- rules of a line that depend on earlier lines
-- the rule of the first true test
abbrev pub first_rule : {Rule : Type 0} → List (Bool × Rule) → Option Rule
first_rule [] = None
first_rule (test ∷ rest) = if test.0 then Some test.1 else first_rule rest

abbrev pub unless_rule : {Draft Rule : Type 0} → Option Rule → Draft → Result Draft Rule
unless_rule None draft = Ok draft
unless_rule (Some rule) draft = Err rule

-- the rule that a piece breaks, after the pieces `before`; at most `most` pieces are allowed
abbrev pub piece_rule : {Rule : Type 0} → ℕ → Rule → Rule → Rule → List Piece → Piece → Option Rule
piece_rule most negative not_after too_many before piece = first_rule (
    (is_negative piece.start || is_negative piece.rate, negative)
    ∷ (is_not_after piece.start (last_or None before), not_after)
    ∷ (nat_le most (length before), too_many) ∷ [])
