-- The equilibrium by numbers is one of those of a full link.
use Rattle.std.proofs.Common.{◌≡◌, ℕ, zero, suc, List, [], ◌∷◌, inl, Option, Some, None, subst, refl}
use Rattle.nf_model_laws.proofs.Common.{ℚ, 0ℚ, ◌≤ℚ◌, ◌<ℚ◌, reading_of, nn_whole, ps_whole, linear_le, linear_eq, Piece, IsPiece, ArePieces, NotBefore, n}
use Rattle.nf_model_laws.proofs.Common.{HasMember, ≤ℚ_refl, same_Some}
use Rattle.nf_model_laws.proofs.MemberLink.{IsNetwork-one_link}
use Rattle.nf_model_laws.proofs.MemberPoints.{Equilibrium-full}

abbrev first : Piece
first = record { start = n 0; rate = n 2 }

abbrev second : Piece
second = record { start = n 2; rate = n 0 }

abbrev later : List Piece
later = second ∷ []

no_piece : {X : Type 0} (b : Piece) → ◌≡◌ {A = Option Piece} None (Some b) → X
no_piece b q = absurd (cc)

each_piece : (P : Piece → Type 0) → P first → P second → (i : ℕ) (piece : Piece) → IsPiece (first ∷ later) i piece → P piece
each_piece P a b zero piece p = subst P (same_Some first piece p) a
each_piece P a b (suc zero) piece p = subst P (same_Some second piece p) b
each_piece P a b (suc (suc i)) piece p = no_piece piece p

pieces : ArePieces (first ∷ later)
pieces = record {
  starts = each_piece (λ (p : Piece). 0ℚ ≤ℚ p.start) (≤ℚ_refl 0ℚ) (nn_whole 2);
  rise = rise;
  rates = each_piece (λ (p : Piece). 0ℚ ≤ℚ p.rate) (nn_whole 2) (≤ℚ_refl 0ℚ);
}
  where
    rise : (i : ℕ) (piece next : Piece) → IsPiece (first ∷ later) i piece → IsPiece (first ∷ later) (suc i) next → piece.start <ℚ next.start
    rise zero piece next p q =
        subst (λ (a : Piece). a.start <ℚ next.start) (same_Some first piece p) (subst (λ (b : Piece). n 0 <ℚ b.start) (same_Some second next q) (ps_whole 1))
    rise (suc i) piece next p q = no_piece next q

alone : NotBefore (n 2) later
alone zero piece p = subst (λ (a : Piece). n 2 ≤ℚ a.start) (same_Some second piece p) (≤ℚ_refl (n 2))
alone (suc i) piece p = no_piece piece p

pub has_member : HasMember
has_member = record {
  network = IsNetwork-one_link (n 1) (Some (n 1)) (first ∷ later) (nn_whole 1) (λ rate some. subst (λ (c : ℚ). 0ℚ <ℚ c) (same (n 1) rate some) (ps_whole 0)) pieces;
  equilibrium = Equilibrium-full (n 1) (n 1) (n 2) (n 2) (n 5) (n 4) (n 2) later _ (nn_whole 1) (ps_whole 0)
      (linear_le [] [] (search reading_of) tt) (ps_whole 1) pieces alone
      (linear_eq [] [] (search reading_of) tt tt) (linear_eq [] [] (search reading_of) tt tt) (linear_eq [] [] (search reading_of) tt tt)
      (inl (ps_whole 0, refl));
  goes_on = ps_whole 1;
}
  where
    same : (a b : ℚ) → ◌≡◌ {A = Option ℚ} (Some a) (Some b) → a ≡ b
    same a b q = cc
