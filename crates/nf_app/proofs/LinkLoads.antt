-- The links of a network with their pieces, one after the other.
use Rattle.std.proofs.Common.{◌≡◌, ℕ, zero, suc, ◌+◌, List, [], ◌∷◌, length, drop, refl, ap, add-one, arith, Some, slice_get, zip}
use Rattle.nf_app.proofs.Common.{Link, Piece, pieces_at, Some_not_None}
use Rattle.nf_app.proofs.OneValue.{same_some}

zip_suc : (links : List Link) (pieces : List (List Piece)) (e : ℕ) (link : Link) → length pieces ≡ length links → slice_get links e ≡ Some link
    → drop e (zip links pieces) ≡ (link, pieces_at pieces e) ∷ drop (suc e) (zip links pieces)
zip_suc [] pieces e link many is = absurd (Some_not_None (slice_get [] e) link is refl)
zip_suc (l ∷ links) [] e link many is = absurd (omega arith)
zip_suc (l ∷ links) (p ∷ pieces) zero link many is = let same : l ≡ link = same_some (Some l) l link refl is in ap (λ (k : Link). (k, p) ∷ zip links pieces) same
zip_suc (l ∷ links) (p ∷ pieces) (suc e) link many is = zip_suc links pieces e link (omega arith) is

-- from a link on: that link with its pieces, and the others
pub zip_next : (links : List Link) (pieces : List (List Piece)) (e : ℕ) (link : Link) → length pieces ≡ length links → slice_get links e ≡ Some link
    → drop e (zip links pieces) ≡ (link, pieces_at pieces e) ∷ drop (e + 1) (zip links pieces)
zip_next links pieces e link many is = rw add-one (zip_suc links pieces e link many is)

pub zip_ends : (links : List Link) (pieces : List (List Piece)) (e : ℕ) → length pieces ≡ length links → e ≡ length links → drop e (zip links pieces) ≡ []
zip_ends [] pieces zero many is = refl
zip_ends [] pieces (suc e) many is = refl
zip_ends (l ∷ links) [] e many is = absurd (omega arith)
zip_ends (l ∷ links) (p ∷ pieces) zero many is = absurd (omega arith)
zip_ends (l ∷ links) (p ∷ pieces) (suc e) many is = zip_ends links pieces e (omega arith) (omega arith)
