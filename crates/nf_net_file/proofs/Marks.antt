-- Lists with some entries left out.
use Rattle.std.proofs.Common.{◌≡◌, ◌≢◌, ℕ, zero, suc, Bool, true, false, cond, not, eqb, List, [], ◌∷◌, get_or, refl, ap, arith}
use Rattle.nf_net_file.proofs.Common.{nat_tests, list_any, Name, has_name, without, NamedLink, marked, flag_at, some_unreached}

pub marked_with : (flag : Bool) (flags : List Bool) (l : NamedLink) (links : List NamedLink) → flag ≡ true → marked (flag ∷ flags) (l ∷ links) ≡ l ∷ marked flags links
marked_with true flags l links e = refl
marked_with false flags l links e = absurd (cc)

pub marked_past : (flag : Bool) (flags : List Bool) (l : NamedLink) (links : List NamedLink) → flag ≡ false → marked (flag ∷ flags) (l ∷ links) ≡ marked flags links
marked_past true flags l links e = absurd (cc)
marked_past false flags l links e = refl

pub kept_with : (these : List Name) (x : Name) (xs : List Name) → without these (x ∷ xs) ≡ cond (has_name these x) (without these xs) (x ∷ without these xs)
kept_with these x xs = step (has_name these x)
  where
    step : (b : Bool) → cond (not b) (x ∷ without these xs) (without these xs) ≡ cond b (without these xs) (x ∷ without these xs)
    step true = refl
    step false = refl

-- ---- flags
pub flag_read : (flags : List Bool) (v : ℕ) → flag_at flags v ≡ get_or flags v false
flag_read [] v = refl
flag_read (b ∷ flags) zero = refl
flag_read (b ∷ flags) (suc v) = flag_read flags v

pub unreached_in_one : (version : ℕ) (flags : List Bool) (sink : ℕ) → version ≡ 1 → some_unreached version flags sink ≡ list_any not flags
unreached_in_one version flags sink e = ap (λ (n : ℕ). cond (eqb n 1) (list_any not flags) (not (flag_at flags sink))) e

other_version : (version : ℕ) → version ≢ 1 → eqb version 1 ≡ false
other_version version f = grind (arith, nat_tests)

pub unreached_in_two : (version : ℕ) (flags : List Bool) (sink : ℕ) → version ≢ 1 → some_unreached version flags sink ≡ not (flag_at flags sink)
unreached_in_two version flags sink f = ap (λ (b : Bool). cond b (list_any not flags) (not (flag_at flags sink))) (other_version version f)
