-- The results of a request that has its network. `text` is the bytes of its second file, if it has one.
use Rattle.std.specs.Prelude.{◌⊎◌, ℕ, List}
use Rattle.nf_net_def.specs.Named.{Named}
use Rattle.nf_app_words.specs.Requests.{Request, Solve, SolveForever, Show, Load, Check, Quick, Gen, Settle, Resume, Routes}
use Rattle.nf_app_answers.specs.Answers.{ProgramAnswer}
use Rattle.nf_app.specs.Requests.{bounds_to}
use Rattle.nf_app.specs.FullAnswers.{SolveAnswer, ForeverAnswer, ResumeAnswer, CheckAnswer, LoadAnswer, RoutesAnswer, QuickAnswer, GenAnswer, ShowAnswer, SettleAnswer}
use Rattle.nf_app.specs.Refused.{LoadRefused, CheckRefused, RoutesRefused, QuickRefused, SettleRefused, ResumeRefused}

abbrev pub IsResultOf : Named → List ℕ → Request → ProgramAnswer → Type 0
IsResultOf n text (Solve file horizon phases patterns) answer = SolveAnswer n (bounds_to horizon phases patterns) answer
IsResultOf n text (SolveForever file phases patterns) answer = ForeverAnswer n phases patterns answer
IsResultOf n text (Show file) answer = ShowAnswer n answer
IsResultOf n text (Load file loads horizon) answer = LoadAnswer n text horizon answer ⊎ LoadRefused n text horizon answer
IsResultOf n text (Check file report) answer = CheckAnswer n text answer ⊎ CheckRefused n text answer
IsResultOf n text (Quick file amount augments) answer = QuickAnswer n amount augments answer ⊎ QuickRefused n amount augments answer
IsResultOf n text (Gen number rungs horizon phases patterns) answer = GenAnswer number rungs n (bounds_to horizon phases patterns) answer
IsResultOf n text (Settle file flows) answer = SettleAnswer n text answer ⊎ SettleRefused n text answer
IsResultOf n text (Resume file report horizon phases patterns) answer = ResumeAnswer n text (bounds_to horizon phases patterns) answer
    ⊎ ResumeRefused n text horizon answer
IsResultOf n text (Routes file routes horizon) answer = RoutesAnswer n text horizon answer ⊎ RoutesRefused n text horizon answer
