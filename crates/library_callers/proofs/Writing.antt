-- What a sink took, by the result of the writing.
use Rattle.std.proofs.Common.{◌≡◌, ℕ, List, Bool, true, false, is_ok, MatchBool, Result, Ok, Err}
use Rattle.nf_edge.specs.Taken.{with_more, TookFront}
use Rattle.nf_edge.specs.Writing.{SinkState, Wrote}

-- the whole text, or a proper prefix of it
pub whole_or_front : {E : Type 0} (before now : SinkState) (text : List ℕ) (result : Result (Unit {0}) E) (whole : Bool)
    → Wrote before now text result → whole ≡ is_ok result
    → MatchBool whole (now.took ≡ with_more before.took text) (TookFront before.took now.took text)
whole_or_front before now text (Ok _) true wrote says = wrote.whole
whole_or_front before now text (Ok _) false wrote says = absurd (cc)
whole_or_front before now text (Err _) true wrote says = absurd (cc)
whole_or_front before now text (Err _) false wrote says = wrote.front
