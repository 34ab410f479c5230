-- Names of files.
use Rattle.std.specs.Prelude.{ℕ, List, map, String, string_bytes}
use Rattle.std.specs.declared.alloc.Global.{Global}

-- names as lists of bytes
abbrev pub texts : List (String Global) → List (List ℕ)
texts names = map string_bytes names
