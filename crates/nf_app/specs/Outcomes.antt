-- Words for private functions alone: what finding the result of a request, and answering words, return.
use Rattle.std.specs.Prelude.{◌≡◌, ◌⊎◌, ℕ, List, Result, Ok, Err}
use Rattle.nf_net_def.specs.Named.{Named}
use Rattle.nf_app_answers.specs.declared.outcome.Computed.{Computed}
use Rattle.nf_app_answers.specs.declared.outcome.Outcome.{Outcome}
use Rattle.nf_app_answers.specs.declared.refusal.Refusal.{Refusal}
use Rattle.nf_app_answers.specs.Refusals.{refused_answer}
use Rattle.nf_app_answers.specs.Outcomes.{answer_with, HasTextWith, answer_in, HasText}
use Rattle.nf_app_words.specs.Requests.{Request}
use Rattle.nf_app.specs.Results.{IsResultOf}
use Rattle.nf_app.specs.Runs.{Call, MayAnswer}

-- The value found is the request's result, with its network and the bytes of its second file, and has its text. Or the refusal is the
-- result, or an allocation failed.
abbrev pub FindsResult : Named → List ℕ → Request → Result Computed Refusal → Type 0
FindsResult n text request (Ok found) = IsResultOf n text request (answer_with n found) × HasTextWith n found
FindsResult n text request (Err refusal) = (refusal ≡ Refusal.NoMemory) ⊎ IsResultOf n text request (refused_answer refusal)

-- The outcome is an answer that the call may give, and has its text. Or the refusal is such an answer.
abbrev pub AnswersCall : Call → Result Outcome Refusal → Type 0
AnswersCall call (Ok outcome) = MayAnswer call (answer_in outcome) × HasText outcome
AnswersCall call (Err refusal) = MayAnswer call (refused_answer refusal)
