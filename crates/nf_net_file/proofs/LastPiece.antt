-- The last piece.
use Rattle.std.proofs.Common.{◌≡◌, ℕ, zero, suc, ◌-◌, ◌<◌, true, false, eqb, List, [], ◌∷◌, length, get_or, Option, Some, None, refl, sym, ◌∙◌, ap, arith}
use Rattle.nf_net_file.proofs.Common.{nat_tests, last_or, ℚ, le_ℚ, Piece, is_not_after}

last_is : (o : Option Piece) (pieces : List Piece) (n : ℕ) (d : Piece) → length pieces ≡ suc n → last_or o pieces ≡ Some (get_or pieces n d)
last_is o [] n d e = absurd (omega arith)
last_is o (p ∷ []) n d e = let z : n ≡ 0 = omega arith in ap (λ (k : ℕ). Some (get_or (p ∷ []) k d)) (sym z)
last_is o (p ∷ q ∷ rest) n d e = step n e (λ m f. last_is (Some p) (q ∷ rest) m d f)
  where
    step : (n : ℕ) → length (p ∷ q ∷ rest) ≡ suc n → ((m : ℕ) → length (q ∷ rest) ≡ suc m → last_or (Some p) (q ∷ rest) ≡ Some (get_or (q ∷ rest) m d))
        → last_or o (p ∷ q ∷ rest) ≡ Some (get_or (p ∷ q ∷ rest) n d)
    step zero e f = absurd (omega arith)
    step (suc m) e f = f m (omega arith)

pub late_by_last : (start : ℚ) (pieces : List Piece) (last : Piece) → 0 < length pieces → last ≡ get_or pieces (length pieces - 1) last
    → le_ℚ start last.start ≡ is_not_after start (last_or None pieces)
late_by_last start pieces last some e =
    let is : last_or None pieces ≡ Some (get_or pieces (length pieces - 1) last) = last_is None pieces (length pieces - 1) last (omega arith) in
    ap (λ (p : Piece). le_ℚ start p.start) e ∙ ap (is_not_after start) (sym is)

pub late_of_none : (start : ℚ) (pieces : List Piece) → eqb (length pieces) 0 ≡ true → false ≡ is_not_after start (last_or None pieces)
late_of_none start [] e = refl
late_of_none start (p ∷ pieces) e = absurd (grind (arith, nat_tests))
