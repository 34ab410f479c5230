-- Names of nodes and links, as lists of bytes.
use Rattle.std.specs.Prelude.{◌≡◌, ℕ, Bool, true, not, ◌&&◌, ◌||◌, ◌==◌, nat_le, if◌then◌else◌, List, [], ◌∷◌, ◌++◌, length, fold, filter, slice_get, unwrap_or}
use Rattle.std.specs.List.{list_all, list_any, position_or_len, IsDistinct}
use Rattle.std.specs.Char.{is_ascii_alphanumeric}
use Rattle.std.specs.Str.{bytes_eq}
use Rattle.nf_net_def.specs.Limits.{longest_name}

abbrev pub Name : Type 0
Name = List ℕ

-- letters, digits, and `_`, `-`, `.`
abbrev pub is_name_byte : ℕ → Bool
is_name_byte b = is_ascii_alphanumeric b || (b == 95 || (b == 45 || b == 46))

-- a name has at least 1 and at most `longest_name` of these characters
abbrev pub is_name : Name → Bool
is_name name = nat_le 1 (length name) && (nat_le (length name) longest_name && list_all is_name_byte name)

-- ---- a name in a list
abbrev pub has_name : List Name → Name → Bool
has_name names name = list_any (bytes_eq name) names

-- returns the index of the first appearance of a name, or the length of the list without one
abbrev pub place_of : List Name → Name → ℕ
place_of names name = position_or_len (bytes_eq name) names

-- the name at an index
abbrev pub name_at : List Name → ℕ → Name
name_at names place = unwrap_or (slice_get names place) []

-- appends a name, if the list does not contain it
abbrev pub with_name : List Name → Name → List Name
with_name names name = if has_name names name then names else names ++ name ∷ []

-- appends each of these names that the list does not contain yet, in order of first appearance
abbrev pub with_names : List Name → List Name → List Name
with_names names more = fold with_name names more

-- removes these names
abbrev pub without : List Name → List Name → List Name
without these names = filter (λ name. not (has_name these name)) names

-- the names are valid, and no two are equal
pub record AreNames (names : List Name) : Type 0 where
  pub each : list_all is_name names ≡ true
  pub distinct : IsDistinct bytes_eq names
