-- Numbers that are given, each at its place, and what stands where none is.
use Rattle.std.proofs.Common.{◌≡◌, ℕ, ◌<◌, Bool, true, List, length, get_or, Option, None, Ok, Err, unwrap_or, refl, sym, ap, ◌∙◌, is_some, if◌then◌else◌}
use Rattle.nf_complete_read.proofs.Common.{ℚ, S11, FlowsDraft, is_given, or_nothing, if_ended}
use Rattle.std.proofs.lemmas.List.{length-map}
use Rattle.std.proofs.lemmas.Option.{slice_get_read}
use Rattle.nf_rational.specs.Operations.{0ℚ}

-- whether a number is given, as it is read
pub given_read : (numbers : List (Option ℚ)) (place : ℕ) (found : Option ℚ) → place < length numbers → found ≡ get_or numbers place found → is_given numbers place ≡ is_some found
given_read numbers place found below is = ap (λ (o : Option (Option ℚ)). is_some (unwrap_or o None)) (slice_get_read numbers _ place found refl below is)

-- a number for each place
pub as_many : (all : List ℚ) (numbers given : List (Option ℚ)) → all ≡ or_nothing numbers → numbers ≡ given → length all ≡ length given
as_many all numbers given e same = ap length e ∙ (length-map numbers (λ (number : Option ℚ). unwrap_or number 0ℚ) ∙ ap length same)

-- a draft with an `end` line
pub ended_gives : (draft : FlowsDraft) (flows slopes : List ℚ) → draft.ended ≡ true → flows ≡ or_nothing draft.flows → slopes ≡ or_nothing draft.slopes
    → if_ended draft ≡ Ok (record { flows = flows; slopes = slopes })
ended_gives draft flows slopes e f s =
    ap (λ (b : Bool). if b then Ok (record { flows = or_nothing draft.flows; slopes = or_nothing draft.slopes }) else Err (record { rule = S11; line = 0 })) e
    ∙ (λ i. Ok (record { flows = sym f i; slopes = sym s i }))
