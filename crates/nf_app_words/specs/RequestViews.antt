-- Requests of the code, as values of the definitions.
use Rattle.nf_app_words.specs.declared.request.Request as code
use Rattle.nf_app_words.specs.declared.request.Request.TheVariants as variants
use Rattle.nf_app_words.specs.Requests.{Request, Solve, SolveForever, Show, Load, Check, Quick, Gen, Settle, Resume, Routes}

abbrev pub requested : code.Request → Request
requested (variants.Solve file horizon phases patterns) = Solve file.now horizon phases patterns
requested (variants.SolveForever file phases patterns) = SolveForever file.now phases patterns
requested (variants.Show file) = Show file.now
requested (variants.Load file loads horizon) = Load file.now loads.now horizon
requested (variants.Check file report) = Check file.now report.now
requested (variants.Quick file amount augments) = Quick file.now amount augments
requested (variants.Gen number rungs horizon phases patterns) = Gen number rungs horizon phases patterns
requested (variants.Settle file flows) = Settle file.now flows.now
requested (variants.Resume file report horizon phases patterns) = Resume file.now report.now horizon phases patterns
requested (variants.Routes file routes horizon) = Routes file.now routes.now horizon
