-- Names as this crate keeps them.
use Rattle.std.specs.Prelude.{◌≡◌, ℕ, ◌≤◌, true, take, List, IsTrue}
use Rattle.std.specs.Str.{bytes_eq}
use Rattle.std.specs.Cmp.{IsEquivalence, IsPartialEquivalence, partial_equiv_from_equiv}
use Rattle.std.specs.Cmp.Lexicographic.{nat_list_eq_equiv, bytes_decides}
use Rattle.std.specs.Hash as fed
use Rattle.std.proofs.Common.{ap}
use Rattle.nf_net_def.specs.Names.{is_name}
use Rattle.nf_net_def.specs.Limits.{longest_name}

-- the bytes in front are a name, and fit
pub record IsKeptName (bytes : List ℕ) (len : ℕ) : Type 0 where
  pub fits : len ≤ longest_name
  pub is_name : is_name (take len bytes) ≡ true

abbrev pub name_equivalence : IsEquivalence bytes_eq
name_equivalence = nat_list_eq_equiv

abbrev pub name_partial_equivalence : IsPartialEquivalence bytes_eq
name_partial_equivalence = partial_equiv_from_equiv nat_list_eq_equiv

-- equal names are hashed alike
pub same_name_hash : (x y : List ℕ) → IsTrue (bytes_eq x y) → fed.slice fed.u8 x ≡ fed.slice fed.u8 y
same_name_hash x y e = ap (fed.slice fed.u8) ((bytes_decides x y).0 e)
