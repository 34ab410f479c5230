-- Bytes that a shelf tells of a file are those that were fetched of it.
use Rattle.std.proofs.Common.{◌≡◌, ℕ, List, [], ◌∷◌, subst, Option, Some, None, IfSome, Result}
use Rattle.nf_app.proofs.Common.{Named, Broken, Reads, Wanted, Visit, IsTold, OfLastBytes, NetworkReads}

module _ (shelf : Visit) (file : Wanted) (text : List ℕ) (told : shelf.told file.name ≡ Some text) where
  pub bytes_are : (bytes : List ℕ) → IsTold shelf file bytes → bytes ≡ text
  bytes_are bytes is = subst (λ (t : Option (List ℕ)). IfSome t (λ held. bytes ≡ held)) told is

  pub holds_of_told : (Holds : List ℕ → Type 0) → OfLastBytes shelf file Holds → Holds text
  holds_of_told Holds h = subst Holds (bytes_are h.text h.is_last.of_file.told) h.holds

  -- the network of the first file is read from them
  pub reads_told : (others : List Wanted) (read : Result Named Broken) → NetworkReads shelf None (file ∷ others) read → Reads text read
  reads_told [] read h = holds_of_told (λ (t : List ℕ). Reads t read) h
  reads_told (next ∷ others) read h = subst (λ (t : List ℕ). Reads t read) (bytes_are h.text h.of_file.told) h.holds
