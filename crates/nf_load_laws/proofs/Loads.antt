-- The links of a network, each loaded by its pieces.
use Rattle.std.proofs.Common.{◌≡◌, ℕ, suc, List, [], ◌∷◌, length, Some, refl, subst, arith, Ok, slice_get, zip}
use Rattle.nf_load_laws.proofs.Common.{ℚ, 0ℚ, ◌≤ℚ◌, ◌<ℚ◌, Passing, each, Loaded, IsLinkLoaded, AreLoaded, then_ok, same_Ok}
use Rattle.nf_model.specs.Network.{Link, Piece, ArePieces}
use Rattle.nf_load_def.specs.Cumulative.{checked_cumulative}
use Rattle.nf_load_def.specs.Loads.{load_link_list, load_list}
use Rattle.nf_load_laws.proofs.Cumulative.{checked_cumulative-is}
use Rattle.nf_load_laws.proofs.Loading.{checked_loading-is}

module _ (passes : Passing) (last : ℚ) (from_0 : 0ℚ ≤ℚ last) where
  link_loaded : (link : Link) (pieces : List Piece) (loaded : Loaded) → 0ℚ ≤ℚ link.transit → ((rate : ℚ) → link.capacity ≡ Some rate → 0ℚ <ℚ rate) → ArePieces pieces
      → load_link_list passes last (link, pieces) ≡ Ok loaded → IsLinkLoaded last link pieces loaded
  unfolding load_link_list
  link_loaded link pieces loaded waits positive are e =
      let inflow = then_ok (checked_cumulative passes pieces last) _ loaded e in
      let amount = checked_cumulative-is passes pieces last are from_0 inflow.between inflow.first in
      record {
        inflow = inflow.between;
        cumulative = amount;
        loading = checked_loading-is passes link.transit link.capacity inflow.between last loaded amount.curve amount.begins amount.rises waits positive from_0 inflow.next;
      }

  by_link : (links : List Link) (pieces : List (List Piece)) (loaded : List Loaded) → length pieces ≡ length links
      → ((e : ℕ) (link : Link) → slice_get links e ≡ Some link → 0ℚ ≤ℚ link.transit)
      → ((e : ℕ) (link : Link) (rate : ℚ) → slice_get links e ≡ Some link → link.capacity ≡ Some rate → 0ℚ <ℚ rate)
      → ((e : ℕ) (of_link : List Piece) → slice_get pieces e ≡ Some of_link → ArePieces of_link)
      → each (load_link_list passes last) (zip links pieces) ≡ Ok loaded → AreLoaded last links pieces loaded
  by_link [] [] loaded many waits positive are e = subst (λ (l : List Loaded). AreLoaded last [] [] l) (same_Ok _ _ e) tt
  by_link [] (p ∷ more) loaded many waits positive are e = absurd (omega arith)
  by_link (link ∷ links) [] loaded many waits positive are e = absurd (omega arith)
  by_link (link ∷ links) (pieces ∷ more) loaded many waits positive are e =
      let one = then_ok (load_link_list passes last (link, pieces)) _ loaded e in
      let rest = then_ok (each (load_link_list passes last) (zip links more)) _ loaded one.next in
      subst (λ (l : List Loaded). AreLoaded last (link ∷ links) (pieces ∷ more) l) (same_Ok _ _ rest.next) (
        link_loaded link pieces one.between (waits 0 link refl) (λ rate is. positive 0 link rate refl is) (are 0 pieces refl) one.first,
        by_link links more rest.between (omega arith) (λ e l is. waits (suc e) l is) (λ e l rate is. positive (suc e) l rate is) (λ e p is. are (suc e) p is) rest.first,
      )

  pub links_loaded : (links : List Link) (pieces : List (List Piece)) (loaded : List Loaded) → length pieces ≡ length links
      → ((e : ℕ) (link : Link) → slice_get links e ≡ Some link → 0ℚ ≤ℚ link.transit)
      → ((e : ℕ) (link : Link) (rate : ℚ) → slice_get links e ≡ Some link → link.capacity ≡ Some rate → 0ℚ <ℚ rate)
      → ((e : ℕ) (of_link : List Piece) → slice_get pieces e ≡ Some of_link → ArePieces of_link)
      → load_list passes links pieces last ≡ Ok loaded → AreLoaded last links pieces loaded
  unfolding load_list
  links_loaded links pieces loaded many waits positive are e = by_link links pieces loaded many waits positive are e
