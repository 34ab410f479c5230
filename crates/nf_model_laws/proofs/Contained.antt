-- Members of a list with one more number.
use Rattle.std.proofs.Common.{◌≡◌, ℕ, List, Bool, true, false, eqb, refl, Contains}
use Rattle.std.specs.List.{list_any}
use Rattle.std.proofs.lemmas.Bool.{eqb-true}
use Rattle.std.proofs.lemmas.Map.Views.{Contains-from_any}
pub use Rattle.nf_rational_laws.proofs.Contained.{contains_none, contains_first, contains_more, contains_cases}

pub not_any : (x : ℕ) (xs : List ℕ) → (Contains xs x → ⊥) → list_any (eqb x) xs ≡ false
not_any x xs n = go (list_any (eqb x) xs) refl
  where
    go : (b : Bool) → list_any (eqb x) xs ≡ b → b ≡ false
    go true e = absurd (n (Contains-from_any eqb-true x xs e))
    go false e = refl
