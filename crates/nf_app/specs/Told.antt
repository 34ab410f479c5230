-- The answer of words and of the known bytes of files alone. It speaks of nothing that was fetched, written or failed.
use Rattle.std.specs.Prelude.{◌≡◌, ℕ, ◌≤◌, List, [], length, Option, Some, None, IfSome, IsSome, IsSomeAnd, unwrap_or, Result, Ok, Err}
use Rattle.std.specs.List.{All}
use Rattle.nf_net_def.specs.Named.{Named}
use Rattle.nf_net_def.specs.NetLines.{Broken}
use Rattle.nf_net_def.specs.NetFile.{Reads}
use Rattle.nf_app_files.specs.Files.{Wanted}
use Rattle.nf_app_words.specs.Requests.{Request, request_of}
use Rattle.nf_app_answers.specs.Answers.{ProgramAnswer, NoRequest, ShelfTooLong, Malformed}
use Rattle.nf_app.specs.Requests.{files_of, network_file, other_of, generated_by}
use Rattle.nf_app.specs.Results.{IsResultOf}

-- ---- the known bytes of files
-- the known bytes of each file, by its name
abbrev pub Telling : Type 0
Telling = List ℕ → Option (List ℕ)

-- each file that the words ask for is known
abbrev pub TellsAll : List (List ℕ) → Telling → Type 0
TellsAll words telling = IfSome (request_of words) (λ request. All (λ file. IsSome (telling file.name)) (files_of request))

-- ---- the texts of a request's files
-- the text of the network's file, and that of the second file
pub record Texts : Type 0 where
  pub network : Option (List ℕ)
  pub second : Option (List ℕ)

-- the bytes of the second file; none without one
abbrev pub second_bytes : Texts → List ℕ
second_bytes texts = unwrap_or texts.second []

-- A text is there exactly if a file is wanted. It is then the known bytes of this file.
abbrev pub IsToldText : Telling → Option Wanted → Option (List ℕ) → Type 0
IsToldText telling None text = text ≡ None
IsToldText telling (Some file) text = IsSomeAnd text (λ bytes. telling file.name ≡ Some bytes)

-- the texts of the files that a request wants, and no other text
pub record AreTold (telling : Telling) (request : Request) (texts : Texts) : Type 0 where
  pub network : IsToldText telling (network_file request) texts.network
  pub second : IsToldText telling (other_of request) texts.second

-- a text is at most as long as its file may be
abbrev pub TextFits : Option Wanted → Option (List ℕ) → Type 0
TextFits wanted text = IfSome wanted (λ file. IfSome text (λ bytes. length bytes ≤ file.limit))

pub record BothFit (request : Request) (texts : Texts) : Type 0 where
  pub network : TextFits (network_file request) texts.network
  pub second : TextFits (other_of request) texts.second

-- the network is the generated one, or what the text reads as
abbrev pub NetworkIs : Option Named → Option (List ℕ) → Result Named Broken → Type 0
NetworkIs (Some n) text read = read ≡ Ok n
NetworkIs None text read = IsSomeAnd text (λ bytes. Reads bytes read)

-- ---- the answer
-- One text is too long; or the network breaks a rule; or the answer is the request's result.
pub data TextsGive (request : Request) (texts : Texts) : ProgramAnswer → Type 0 where
  too_long : ¬ BothFit request texts → TextsGive request texts ShelfTooLong
  malformed : (broken : Broken) → BothFit request texts → NetworkIs (generated_by request) texts.network (Err broken)
      → TextsGive request texts (Malformed broken)
  answered : (n : Named) (answer : ProgramAnswer) → BothFit request texts → NetworkIs (generated_by request) texts.network (Ok n)
      → IsResultOf n (second_bytes texts) request answer → TextsGive request texts answer

-- The words are no request; or they are one, and the texts of its files are known and give the answer.
pub data IsToldAnswer (words : List (List ℕ)) (telling : Telling) : ProgramAnswer → Type 0 where
  no_request : request_of words ≡ None → IsToldAnswer words telling NoRequest
  by_texts : (request : Request) (texts : Texts) (answer : ProgramAnswer) → request_of words ≡ Some request → AreTold telling request texts
      → TextsGive request texts answer → IsToldAnswer words telling answer
