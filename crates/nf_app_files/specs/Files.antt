-- The files that a request wants, and what a shelf did for it.
use Rattle.std.specs.Prelude.{◌≡◌, ◌⊎◌, ℕ, ◌<◌, ◌≤◌, List, [], ◌∷◌, ◌++◌, length, map, Option, None, IfSome}
use Rattle.std.specs.List.{All, last_or}
use Rattle.nf_text_def.specs.Faults.{longest_text}
use Rattle.nf_edge.specs.declared.Shelf.{Ghosts}
use Rattle.nf_edge.specs.Faults.{Rose}

-- the most bytes that a file may have that isn't a report, and that a report may have
abbrev pub input_limit : ℕ
input_limit = 1048576

abbrev pub report_limit : ℕ
report_limit = longest_text

-- the name of a file that is wanted, and the most bytes that it may have
pub record Wanted : Type 0 where
  pub name : List ℕ
  pub limit : ℕ

-- a file that isn't a report: a network, loads, flows or routes file; and a report
abbrev pub input_file : List ℕ → Wanted
input_file name = record { name = name; limit = input_limit }

abbrev pub report_file : List ℕ → Wanted
report_file name = record { name = name; limit = report_limit }

abbrev pub wanted_names : List Wanted → List (List ℕ)
wanted_names files = map (λ file. file.name) files

-- what a shelf had before a call, and did in it
pub record Visit : Type 0 where
  pub told : List ℕ → Option (List ℕ)
  pub asked_before : List (List ℕ)
  pub asked_now : List (List ℕ)
  pub faults_before : ℕ
  pub faults_now : ℕ
  pub taken : ℕ

-- the same of a shelf that stood so before a call and stands so now
abbrev pub visit : {S : Type 0} → Ghosts S → S → S → Visit
visit shelf before now = record {
  told = shelf.told before;
  asked_before = shelf.asked before;
  asked_now = shelf.asked now;
  faults_before = shelf.faults before;
  faults_now = shelf.faults now;
  taken = shelf.taken now;
}

-- where the shelf tells the bytes of a file, there are at most as many as it may have
abbrev pub FitsLimit : Visit → Wanted → Type 0
FitsLimit shelf file = IfSome (shelf.told file.name) (λ text. length text ≤ file.limit)

-- no file was fetched
abbrev pub FetchedNone : Visit → Type 0
FetchedNone shelf = shelf.asked_now ≡ shelf.asked_before

-- the files were fetched, each once and in order, and no other; none has too many bytes
pub record FetchedAll (shelf : Visit) (files : List Wanted) : Type 0 where
  pub asked : shelf.asked_now ≡ shelf.asked_before ++ wanted_names files
  pub fit : All (FitsLimit shelf) files
  pub taken : IfSome (last_or None files) (λ last. shelf.taken ≤ last.limit)

-- the files up to this one were fetched, each once and in order, and no other; none before it has too many bytes
pub record FetchedTo (shelf : Visit) (files : List Wanted) (last : Wanted) : Type 0 where
  pub first : List Wanted
  pub behind : List Wanted
  pub files_are : files ≡ first ++ last ∷ behind
  pub asked : shelf.asked_now ≡ shelf.asked_before ++ wanted_names (first ++ last ∷ [])
  pub fit : All (FitsLimit shelf) first

-- the shelf failed at this file
abbrev pub Failed : Visit → Wanted → Type 0
Failed shelf file = (shelf.taken ≤ file.limit) × Rose shelf.faults_before shelf.faults_now

-- More bytes of this file were taken than it may have. Where the shelf tells them, and no fault of it was counted, there are more.
abbrev pub HasTooMany : Visit → Wanted → Type 0
HasTooMany shelf file =
    (file.limit < shelf.taken)
    × IfSome (shelf.told file.name) (λ text. Rose shelf.faults_before shelf.faults_now ⊎ (file.limit < length text))
