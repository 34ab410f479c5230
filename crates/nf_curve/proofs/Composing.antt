-- A curve at the values of another, piece by piece.
use Rattle.std.proofs.Common.{◌≡◌, ℕ, zero, suc, List, [], ◌∷◌, ◌++◌, length, drop, refl, sym, ap, ◌∙◌, append_assoc, arith, Some, slice_get, Ok, Err}
use Rattle.nf_curve.proofs.Common.{ℚ, Passing, Part, PassedAt, Checked, at_part, ◌>>=◌, Point, checked_value, checked_cut, composed_piece, composed_all}
use Rattle.nf_curve.proofs.Common.{drop_entry, behind}
use Rattle.nf_curve_def.specs.Composed.{checked_composed}
use Rattle.nf_curve.proofs.Exits.{after_err, after_ok, was_ok, err_before, ok_before}
use Rattle.nf_curve.proofs.Shortening.{drop-two}

-- ---- a point first, and what comes behind it
pub point_first : (front : List Point) (p : Point) (r : Checked (List Point)) → behind front (r >>= λ more. Ok (p ∷ more)) ≡ behind (front ++ p ∷ []) r
point_first front p (Ok more) = ap Ok (sym (append_assoc front (p ∷ []) more))
point_first front p (Err e) = refl

piece_goes : (part : Part) (front : List Point) (time y : ℚ) (v : Checked ℚ) (corners : Checked (List Point)) → at_part part v ≡ Ok y
    → behind front (v >>= λ y. corners >>= λ more. Ok ((time, y) ∷ more)) ≡ behind (front ++ (time, y) ∷ []) corners
piece_goes part front time y v corners e =
    ap (λ (v : Checked ℚ). behind front (v >>= λ y. corners >>= λ more. Ok ((time, y) ∷ more))) (was_ok part v y e) ∙ point_first front (time, y) corners

-- once its first point is there, a piece goes on with its corners
pub piece_begun : (part : Part) (front begun : List Point) (time y : ℚ) (v : Checked ℚ) (corners : Checked (List Point)) → at_part part v ≡ Ok y → begun ≡ front ++ (time, y) ∷ []
    → at_part part (behind front (v >>= λ y. corners >>= λ more. Ok ((time, y) ∷ more))) ≡ at_part part (behind begun corners)
piece_begun part front begun time y v corners e h = ap (at_part part) (piece_goes part front time y v corners e ∙ ap (λ (l : List Point). behind l corners) (sym h))

-- ---- one piece, and then the others
pieces_behind : (front piece : List Point) (r : Checked (List Point)) → behind front (r >>= λ later. Ok (piece ++ later)) ≡ behind (front ++ piece) r
pieces_behind front piece (Ok later) = ap Ok (sym (append_assoc front piece later))
pieces_behind front piece (Err e) = refl

module _ (passes : Passing) (part : Part) (outer inner : List Point) (front : List Point) (all : Checked (List Point)) where
  module _ (h i : ℕ) (p q : Point) (next : i ≡ suc h) (e : slice_get inner h ≡ Some p) (f : slice_get inner i ≡ Some q)
      (so_far : behind front (composed_all passes outer (drop h inner)) ≡ all) where
    is_piece : behind front (composed_piece passes outer p q >>= λ piece. composed_all passes outer (drop i inner) >>= λ later. Ok (piece ++ later)) ≡ all
    is_piece = ap (behind front) (ap (λ (l : List Point). composed_piece passes outer p q >>= λ piece. composed_all passes outer l >>= λ later. Ok (piece ++ later)) (drop_entry inner i q f)
        ∙ ap (composed_all passes outer) (sym (drop-two inner h i p q next e f))) ∙ so_far

    pub pieces_stop : (a : PassedAt ℚ) → at_part part (behind front (composed_piece passes outer p q)) ≡ Err a → at_part part all ≡ Err a
    pieces_stop a g = ap (at_part part) (sym is_piece)
        ∙ after_err part (composed_piece passes outer p q >>= λ piece. composed_all passes outer (drop i inner) >>= λ later. Ok (piece ++ later)) _ a
        (after_err part (composed_piece passes outer p q) _ a (err_before part (composed_piece passes outer p q) (λ (piece : List Point). front ++ piece) a g))

    pub pieces_go : (points : List Point) → at_part part (behind front (composed_piece passes outer p q)) ≡ Ok points → behind points (composed_all passes outer (drop i inner)) ≡ all
    pieces_go points g =
        let w = ok_before part (composed_piece passes outer p q) (λ (piece : List Point). front ++ piece) points g in
        ap (λ (l : List Point). behind l (composed_all passes outer (drop i inner))) (sym w.2) ∙ sym (pieces_behind front w.0 (composed_all passes outer (drop i inner)))
        ∙ ap (λ (r : Checked (List Point)). behind front (r >>= λ piece. composed_all passes outer (drop i inner) >>= λ later. Ok (piece ++ later))) (sym w.1)
        ∙ is_piece

  -- the last value
  module _ (h : ℕ) (p : Point) (e : slice_get inner h ≡ Some p) (last : length inner ≡ suc h) (so_far : behind front (composed_all passes outer (drop h inner)) ≡ all) where
    none : (xs : List Point) (k : ℕ) → length xs ≡ k → drop k xs ≡ []
    none [] k e = Rattle.std.proofs.Math.Seq.drop-nil k
    none (x ∷ xs) zero e = absurd (cc)
    none (x ∷ xs) (suc k) e = none xs k (let same : length xs ≡ k = omega arith in same)

    is_last : behind front (checked_value passes outer p.1 >>= λ y. Ok ((p.0, y) ∷ [])) ≡ all
    is_last = ap (λ (l : List Point). behind front (composed_all passes outer l)) (sym (drop_entry inner h p e ∙ ap (λ (l : List Point). p ∷ l) (none inner (suc h) last))) ∙ so_far

    pub last_stops : (a : PassedAt ℚ) → at_part part (checked_value passes outer p.1) ≡ Err a → at_part part all ≡ Err a
    last_stops a g = ap (at_part part) (sym is_last) ∙ after_err part (checked_value passes outer p.1 >>= λ y. Ok ((p.0, y) ∷ [])) _ a
        (after_err part (checked_value passes outer p.1) _ a g)

    pub last_goes : (y : ℚ) → at_part part (checked_value passes outer p.1) ≡ Ok y → at_part part all ≡ Ok (front ++ (p.0, y) ∷ [])
    last_goes y g = ap (at_part part) (sym is_last ∙ ap (λ (v : Checked ℚ). behind front (v >>= λ y. Ok ((p.0, y) ∷ []))) (was_ok part (checked_value passes outer p.1) y g))

-- ---- of a cut
module _ (passes : Passing) (part : Part) (outer inner : List Point) (last : ℚ) where
  pub cut_stops : (a : PassedAt ℚ) → at_part part (checked_cut passes inner last) ≡ Err a → at_part part (checked_composed passes outer inner last) ≡ Err a
  unfolding checked_composed
  cut_stops a e = after_err part (checked_cut passes inner last) _ a e

  pub cut_goes : (cut points : List Point) → at_part part (checked_cut passes inner last) ≡ Ok cut → points ≡ cut
      → at_part part (checked_composed passes outer inner last) ≡ at_part part (composed_all passes outer points)
  unfolding checked_composed
  cut_goes cut points e f = after_ok part (checked_cut passes inner last) _ cut e ∙ ap (λ (l : List Point). at_part part (composed_all passes outer l)) (sym f)
