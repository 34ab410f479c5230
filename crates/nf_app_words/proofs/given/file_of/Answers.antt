use Rattle.std.proofs.Common.{◌∙◌}
use Rattle.nf_app_words.proofs.Files.{place_is, no_place}
use Rattle.nf_app_words.proofs.given.file_of.Goals as goal

pub returns-in-Some : goal.returns-in-Some
returns-in-Some c = c.file_at.ensures ∙ place_is c.args.matches.now c.in-Some.files.now c.in-Some.ensures c.args.place

pub returns-in-None : goal.returns-in-None
returns-in-None c = no_place c.args.matches.now c.in-None.ensures c.args.place
