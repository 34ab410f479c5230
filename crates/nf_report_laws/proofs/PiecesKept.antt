-- Pieces that lines give one by one, each behind those before it by the rules of a piece.
use Rattle.std.proofs.Common.{◌≡◌, ℕ, zero, suc, List, [], ◌∷◌, ◌++◌, length, Bool, false, ◌||◌, nat_le, Option, Some, None, subst}
use Rattle.nf_report_laws.proofs.Common.{last_or, or_parts, ℚ, 0ℚ, ◌≤ℚ◌, ◌<ℚ◌, lt_of_test, Piece, IsPiece, ArePieces, piece_rule, none-some, same_Some}
use Rattle.nf_net_def.specs.NetLines.{is_negative, is_not_after}
use Rattle.nf_report_laws.proofs.FrameKept.{rules_out}
use Rattle.nf_net_laws.proofs.DraftKept.{from_not_negative}

abbrev pub After : Option Piece → Piece → Type 0
After None piece = Unit {0}
After (Some before) piece = before.start <ℚ piece.start

abbrev pub GoOn : Option Piece → List Piece → Type 0
GoOn before [] = Unit {0}
GoOn before (p ∷ rest) = (0ℚ ≤ℚ p.start) × (0ℚ ≤ℚ p.rate) × After before p × GoOn (Some p) rest

go_on_more : (before : Option Piece) (xs : List Piece) (piece : Piece) → GoOn before xs → 0ℚ ≤ℚ piece.start → 0ℚ ≤ℚ piece.rate
    → After (last_or before xs) piece → GoOn before (xs ++ piece ∷ [])
go_on_more before [] piece w h k a = (h, k, a, tt)
go_on_more before (x ∷ xs) piece w h k a = (w.0, w.1, w.2, go_on_more (Some x) xs piece w.3 h k a)

starts_of : (before : Option Piece) (xs : List Piece) (i : ℕ) (piece : Piece) → GoOn before xs → IsPiece xs i piece → (0ℚ ≤ℚ piece.start) × (0ℚ ≤ℚ piece.rate)
starts_of before [] i piece w is = absurd (none-some piece is)
starts_of before (x ∷ xs) zero piece w is = subst (λ (p : Piece). (0ℚ ≤ℚ p.start) × (0ℚ ≤ℚ p.rate)) (same_Some x piece is) (w.0, w.1)
starts_of before (x ∷ xs) (suc i) piece w is = starts_of (Some x) xs i piece w.3 is

rise_of : (before : Option Piece) (xs : List Piece) (i : ℕ) (piece next : Piece) → GoOn before xs → IsPiece xs i piece → IsPiece xs (suc i) next → piece.start <ℚ next.start
rise_of before [] i piece next w is then_ = absurd (none-some piece is)
rise_of before (x ∷ []) i piece next w is then_ = absurd (none-some next then_)
rise_of before (x ∷ y ∷ xs) zero piece next w is then_ =
    subst (λ (q : Piece). piece.start <ℚ q.start) (same_Some y next then_) (subst (λ (p : Piece). p.start <ℚ y.start) (same_Some x piece is) w.3.2)
rise_of before (x ∷ y ∷ xs) (suc i) piece next w is then_ = rise_of (Some x) (y ∷ xs) i piece next w.3 is then_

pub go_on_pieces : (xs : List Piece) → GoOn None xs → ArePieces xs
go_on_pieces xs w =
    record {
      starts = λ i p is. (starts_of None xs i p w is).0;
      rise = λ i p q is then_. rise_of None xs i p q w is then_;
      rates =
          λ i p is. (starts_of None xs i p w is).1;
    }

after_it : (piece : Piece) (before : Option Piece) → is_not_after piece.start before ≡ false → After before piece
after_it piece None e = tt
after_it piece (Some before) e = lt_of_test piece.start before.start e

-- with a piece that breaks no rule behind them, where there aren't too many
pub piece_kept : {Rule : Type 0} (most : ℕ) (negative not_after too_many : Rule) (before : List Piece) (piece : Piece) → GoOn None before
    → piece_rule most negative not_after too_many before piece ≡ None → GoOn None (before ++ piece ∷ []) × (nat_le most (length before) ≡ false)
piece_kept {Rule} most negative not_after too_many before piece w e =
    let many : List (Bool × Rule) = (nat_le most (length before), too_many) ∷ [] in
    let late : List (Bool × Rule) = (is_not_after piece.start (last_or None before), not_after) ∷ many in
    let a = rules_out (is_negative piece.start || is_negative piece.rate) negative late e in
    let b = rules_out (is_not_after piece.start (last_or None before)) not_after many a.1 in
    let c = or_parts (is_negative piece.start) (is_negative piece.rate) a.0 in (
      go_on_more None before piece w (from_not_negative piece.start c.0) (from_not_negative piece.rate c.1) (after_it piece (last_or None before) b.0),
      (rules_out (nat_le most (length before)) too_many [] b.1).0,
    )
