-- Names at their places.
use Rattle.std.specs.Prelude.{◌≡◌, ℕ, ◌<◌, true, List, length}
use Rattle.nf_net_def.specs.Names.{Name, has_name, place_of}

-- a name is there, at this place
pub record IsNameAt (names : List Name) (name : Name) (place : ℕ) : Type 0 where
  pub there : has_name names name ≡ true
  pub is_place : place_of names name ≡ place
  pub within : place < length names
