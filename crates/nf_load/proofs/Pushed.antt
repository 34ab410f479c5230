-- The pieces of one link among those of all.
use Rattle.std.proofs.Common.{◌≡◌, ℕ, ◌<◌, List, [], ◌∷◌, ◌++◌, length, get_or, set, refl, sym, ap, subst, ◌∙◌, Option, Some, slice_get, unwrap_or}
use Rattle.nf_load.proofs.Common.{slice_get_read, Piece, pieces_at}

pub read_at : (all : List (List Piece)) (i link : ℕ) (one : List Piece) → i ≡ link → link < length all → one ≡ get_or all i one → one ≡ pieces_at all link
read_at all i link one e lt is =
    let there : slice_get all i ≡ Some one = slice_get_read all _ i one refl (subst (λ (k : ℕ). k < length all) (sym e) lt) is in
    sym (ap (λ (o : Option (List Piece)). unwrap_or o []) there) ∙ ap (pieces_at all) e

pub pushed_at : (all : List (List Piece)) (i link : ℕ) (one more : List Piece) (piece : Piece) → i ≡ link → link < length all → one ≡ get_or all i one → more ≡ one ++ piece ∷ []
    → set all i more ≡ set all link (pieces_at all link ++ piece ∷ [])
pushed_at all i link one more piece e lt is h =
    ap (λ (k : ℕ). set all k more) e
    ∙ ap (set all link) (h ∙ ap (λ (l : List Piece). l ++ piece ∷ []) (read_at all i link one e lt is))
