-- When a run of the program gives which answer, and what its sinks then took.
use Rattle.std.specs.Prelude.{◌≡◌, ◌⊎◌, ℕ, List, [], ◌∷◌, Some, None, Result, Ok, Err, String}
use Rattle.std.specs.declared.alloc.Global.{Global}
use Rattle.nf_edge.specs.declared.Shelf.{Ghosts as ShelfGhosts}
use Rattle.nf_edge.specs.declared.Sink.{Ghosts as SinkGhosts}
use Rattle.nf_edge.specs.Faults.{Rose}
use Rattle.nf_edge.specs.Names.{texts}
use Rattle.nf_net_def.specs.Named.{Named}
use Rattle.nf_net_def.specs.NetLines.{Broken}
use Rattle.nf_net_def.specs.WellNamed.{IsNamed}
use Rattle.nf_app_answers.specs.declared.status.Status.{Status}
use Rattle.nf_app_answers.specs.Answers.{ProgramAnswer, NoMemory, NoRequest, ShelfFailed, ShelfTooLong, Malformed}
use Rattle.nf_app_files.specs.Files.{Wanted, Visit, visit, FetchedNone, FetchedAll, FetchedTo, Failed, HasTooMany}
use Rattle.nf_app_files.specs.Fetching.{NetworkReads}
use Rattle.nf_app_files.specs.Sinks.{Took, took_of}
use Rattle.nf_app_files.specs.Shown.{IsShown}
use Rattle.nf_app_words.specs.Requests.{Request, request_of}
use Rattle.nf_app.specs.Requests.{files_of, generated_by, OtherIsText}
use Rattle.nf_app.specs.Results.{IsResultOf}

-- the words of a call, and what it did with its shelf
pub record Call : Type 0 where
  pub words : List (List ℕ)
  pub shelf : Visit

-- a call of `run`: what was asked, what the shelf did, what both sinks took, and the status
pub record Run : Type 0 where
  pub call : Call
  pub out : Took
  pub err : Took
  pub status : Status

-- this call, by the states of the shelf and the sinks before it and after it
abbrev pub this_call : {S O E : Type 0} → ShelfGhosts S → SinkGhosts O → SinkGhosts E → List (String Global) → S → S → O → O → E → E
    → Status → Run
this_call shelf out err words s t o p e f status = record {
  call = record { words = texts words; shelf = visit shelf s t };
  out = took_of out o p;
  err = took_of err e f;
  status = status;
}

abbrev pub Asks : Call → Request → Type 0
Asks call request = request_of call.words ≡ Some request

-- The words are a request, and its files were fetched up to this one.
pub record FetchedUpTo (call : Call) (last : Wanted) : Type 0 where
  pub request : Request
  pub asks : Asks call request
  pub fetched : FetchedTo call.shelf (files_of request) last

-- The words are this request, all its files were fetched, and its network is this, or breaks this rule.
pub record HasNetwork (call : Call) (request : Request) (read : Result Named Broken) : Type 0 where
  pub asks : Asks call request
  pub fetched : FetchedAll call.shelf (files_of request)
  pub reads : NetworkReads call.shelf (generated_by request) (files_of request) read

-- The call is refused, so nothing is computed. An allocation may fail before any file was fetched, and after each.
abbrev pub IsRefusedCall : Call → ProgramAnswer → Type 0
IsRefusedCall call NoMemory = FetchedNone call.shelf ⊎ ((last : Wanted) × FetchedUpTo call last)
IsRefusedCall call NoRequest = (request_of call.words ≡ None) × FetchedNone call.shelf
IsRefusedCall call ShelfFailed = (last : Wanted) × FetchedUpTo call last × Failed call.shelf last
IsRefusedCall call ShelfTooLong = (last : Wanted) × FetchedUpTo call last × HasTooMany call.shelf last
IsRefusedCall call (Malformed broken) = (request : Request) × HasNetwork call request (Err broken)
IsRefusedCall call answer = ⊥

-- The request has its network, which is one that a file can give, and the bytes of its second file that were read in this call. The answer
-- is its result with both.
pub record IsComputed (call : Call) (answer : ProgramAnswer) : Type 0 where
  pub request : Request
  pub net : Named
  pub has_network : HasNetwork call request (Ok net)
  pub named : IsNamed net
  pub second : List ℕ
  pub is_second : OtherIsText call.shelf request second
  pub is_result : IsResultOf net second request answer

-- A call may give an answer by which it is refused, or one that is computed.
abbrev pub MayAnswer : Call → ProgramAnswer → Type 0
MayAnswer call answer = IsRefusedCall call answer ⊎ IsComputed call answer

-- ---- a whole run
-- the run has an answer that its call may give, and its status and its sinks show this answer
pub record Ran (run : Run) : Type 0 where
  pub answer : ProgramAnswer
  pub comes : MayAnswer run.call answer
  pub shown : IsShown answer run.out run.err run.status

-- neither the shelf nor the output counted a fault in the call
pub record NoFault (run : Run) : Type 0 where
  pub shelf : ¬ Rose run.call.shelf.faults_before run.call.shelf.faults_now
  pub out : ¬ Rose run.out.faults_before run.out.faults_now

-- the status is one of some
abbrev pub IsOneOf : Status → List Status → Type 0
IsOneOf status [] = ⊥
IsOneOf status (first ∷ others) = (status ≡ first) ⊎ IsOneOf status others
