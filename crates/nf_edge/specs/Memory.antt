-- A shelf and a sink in memory, as contracts see them.
use Rattle.std.specs.Prelude.{◌≡◌, ◌⊎◌, ℕ, ◌-◌, min, Bool, if◌then◌else◌, nat_lt, List, [], ◌∷◌, ◌++◌, length, Option, Some, None, Result, Ok, Err, MatchResult, ◌==◌}
use Rattle.std.specs.declared.vec.Vec.{Vec}
use Rattle.std.specs.declared.alloc.Global.{Global}
use Rattle.std.specs.List.{list_any}
use Rattle.std.specs.Str.{bytes_eq}
use Rattle.nf_edge.specs.declared.FetchFault.{FetchFault}
use Rattle.nf_edge.specs.declared.FetchFault.TheVariants.{Failed, TooLong, Memory}
use Rattle.nf_edge.specs.Faults.{one_more}

-- ---- the shelf
-- files with their bytes, the latest first, and what was fetched
pub record MemoryShelf : Type 0 where
  pub files : List (List ℕ × List ℕ)
  -- the numbers of the fetches that fail, counted from 1
  pub failing : List ℕ
  pub calls : ℕ
  pub asked : List (List ℕ)
  pub taken : ℕ
  pub faults : ℕ

-- the bytes put under a name last
abbrev pub told_under : List (List ℕ × List ℕ) → List ℕ → Option (List ℕ)
told_under [] name = None
told_under (file ∷ files) name = if bytes_eq file.0 name then Some file.1 else told_under files name

-- whether a number is in a list
abbrev pub is_among : List ℕ → ℕ → Bool
is_among numbers n = list_any (λ m. m == n) numbers

-- the bytes, if there are no more than the limit
abbrev pub within_limit : ℕ → Option (List ℕ) → Result (List ℕ) FetchFault
within_limit limit None = Err Failed
within_limit limit (Some bytes) = if nat_lt limit (length bytes) then Err TooLong else Ok bytes

-- what the fetch of a number finds under a name
abbrev pub found : List (List ℕ × List ℕ) → List ℕ → ℕ → List ℕ → ℕ → Result (List ℕ) FetchFault
found files failing call name limit = if is_among failing call then Err Failed else within_limit limit (told_under files name)

-- the result of the next fetch if no allocation fails
abbrev pub fetched : MemoryShelf → List ℕ → ℕ → Result (List ℕ) FetchFault
fetched shelf = found shelf.files shelf.failing (one_more shelf.calls)

-- a fetch had this result, unless an allocation failed
abbrev pub Answers : Result (Vec ℕ Global) FetchFault → Result (List ℕ) FetchFault → Type 0
Answers result said = MatchResult result (λ bytes. said ≡ Ok bytes.items) (λ fault. (fault ≡ Memory) ⊎ (said ≡ Err fault))

-- ---- the sink
-- the bytes taken, and the most bytes in all and in one write
pub record MemorySink : Type 0 where
  pub bytes : List ℕ
  pub room : ℕ
  pub most : ℕ
  -- the numbers of the writes that fail, counted from 1
  pub failing : List ℕ
  pub calls : ℕ
  pub faults : ℕ

-- how many bytes of a piece the next write takes: 0 if it fails
abbrev pub next_count : MemorySink → List ℕ → ℕ
next_count sink piece = if is_among sink.failing (one_more sink.calls) then 0
    else min (length piece) (min sink.most (sink.room - length sink.bytes))

-- the sink after a write that took some bytes
abbrev pub after_write : MemorySink → List ℕ → MemorySink
after_write sink bytes = record sink { bytes = sink.bytes ++ bytes; calls = one_more sink.calls }
