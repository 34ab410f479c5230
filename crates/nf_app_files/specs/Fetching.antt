-- What fetching the files of a request answers.
use Rattle.std.specs.Prelude.{◌≡◌, ◌⊎◌, ℕ, ◌≤◌, List, [], ◌∷◌, length, Option, Some, None, IfSome, Result, Ok, Err}
use Rattle.nf_net_def.specs.Named.{Named}
use Rattle.nf_net_def.specs.NetLines.{Broken}
use Rattle.nf_net_def.specs.NetFile.{Reads}
use Rattle.nf_app_answers.specs.declared.refusal.Refusal.{Refusal}
use Rattle.nf_app_files.specs.Files.{Wanted, Visit, FetchedNone, FetchedAll, FetchedTo, Failed, HasTooMany}

-- where the shelf tells the bytes of a file, they are these
abbrev pub IsTold : Visit → Wanted → List ℕ → Type 0
IsTold shelf file text = IfSome (shelf.told file.name) (λ told. text ≡ told)

-- bytes that a file may have: no more than it may, and those that the shelf tells, where it tells them
pub record IsTextOf (shelf : Visit) (file : Wanted) (text : List ℕ) : Type 0 where
  pub within : length text ≤ file.limit
  pub told : IsTold shelf file text

-- of the file that was fetched last: they are also as many as the shelf took
pub record IsLastText (shelf : Visit) (file : Wanted) (text : List ℕ) : Type 0 where
  pub of_file : IsTextOf shelf file text
  pub taken : length text ≡ shelf.taken

-- the bytes of files that were fetched in this order
abbrev pub AreTexts : Visit → List Wanted → List (List ℕ) → Type 0
AreTexts shelf [] [] = Unit {0}
AreTexts shelf (file ∷ []) (text ∷ []) = IsLastText shelf file text
AreTexts shelf (file ∷ next ∷ files) (text ∷ texts) = IsTextOf shelf file text × AreTexts shelf (next ∷ files) texts
AreTexts shelf files texts = ⊥

-- ---- some bytes of a file, of which this holds
pub record OfBytes (shelf : Visit) (file : Wanted) (Holds : List ℕ → Type 0) : Type 0 where
  pub text : List ℕ
  pub of_file : IsTextOf shelf file text
  pub holds : Holds text

-- of the file that was fetched last
pub record OfLastBytes (shelf : Visit) (file : Wanted) (Holds : List ℕ → Type 0) : Type 0 where
  pub text : List ℕ
  pub is_last : IsLastText shelf file text
  pub holds : Holds text

-- The network is the generated one, if there is one; else the first of the files is the network's: some bytes of it, those that the
-- shelf tells where it tells them, read as this network, or break this rule first.
abbrev pub NetworkReads : Visit → Option Named → List Wanted → Result Named Broken → Type 0
NetworkReads shelf (Some n) files read = read ≡ Ok n
NetworkReads shelf None [] read = ⊥
NetworkReads shelf None (file ∷ []) read = OfLastBytes shelf file (λ text. Reads text read)
NetworkReads shelf None (file ∷ next ∷ others) read = OfBytes shelf file (λ text. Reads text read)

-- why files aren't all there
abbrev pub AreMissing : Visit → List Wanted → Refusal → Type 0
AreMissing shelf files Refusal.NoMemory = FetchedNone shelf ⊎ ((last : Wanted) × FetchedTo shelf files last)
AreMissing shelf files Refusal.ShelfFailed = (last : Wanted) × FetchedTo shelf files last × Failed shelf last
AreMissing shelf files Refusal.ShelfTooLong = (last : Wanted) × FetchedTo shelf files last × HasTooMany shelf last
AreMissing shelf files refusal = ⊥

-- the bytes of the files
abbrev pub AreFetched : Visit → List Wanted → Result (List (List ℕ)) Refusal → Type 0
AreFetched shelf files (Ok texts) = FetchedAll shelf files × AreTexts shelf files texts
AreFetched shelf files (Err refusal) = AreMissing shelf files refusal

-- the network of the first file, and the bytes of the others
abbrev pub AreRead : Visit → Wanted → List Wanted → Result (Named × List (List ℕ)) Refusal → Type 0
AreRead shelf file others (Ok read) = FetchedAll shelf (file ∷ others) × NetworkReads shelf None (file ∷ others) (Ok read.0)
    × AreTexts shelf others read.1
AreRead shelf file others (Err (Refusal.Malformed rule line)) =
    FetchedAll shelf (file ∷ others) × NetworkReads shelf None (file ∷ others) (Err (record { rule = rule; line = line }))
AreRead shelf file others (Err refusal) = AreMissing shelf (file ∷ others) refusal
