-- Words for private functions alone: what fetching a request's files returns.
use Rattle.std.specs.Prelude.{ℕ, ◌≤◌, List, length, IfSome, Result, Ok, Err}
use Rattle.nf_net_def.specs.Named.{Named}
use Rattle.nf_app_answers.specs.declared.refusal.Refusal.{Refusal}
use Rattle.nf_app_answers.specs.Refusals.{refused_answer}
use Rattle.nf_app_words.specs.Requests.{Request}
use Rattle.nf_app.specs.Requests.{other_of, OtherIsText}
use Rattle.nf_app.specs.Runs.{Call, HasNetwork, MayAnswer}

-- the bytes of a request's second file, if it wants one, are within the limit
abbrev pub OtherFits : Request → List ℕ → Type 0
OtherFits request text = IfSome (other_of request) (λ file. length text ≤ file.limit)

-- the network and the bytes of the second file, once all files are fetched; or a refusal with which the call may answer
abbrev pub IsGathered : Call → Request → Result (Named × List ℕ) Refusal → Type 0
IsGathered call request (Ok got) = HasNetwork call request (Ok got.0) × OtherIsText call.shelf request got.1
IsGathered call request (Err refusal) = MayAnswer call (refused_answer refusal)
