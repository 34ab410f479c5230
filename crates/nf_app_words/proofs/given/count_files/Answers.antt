use Rattle.nf_app_words.proofs.Files.{count_is, no_count}
use Rattle.nf_app_words.proofs.given.count_files.Goals as goal

pub returns-in-Some : goal.returns-in-Some
returns-in-Some c = count_is c.args.matches.now c.in-Some.files.now c.in-Some.ensures

pub returns-in-None : goal.returns-in-None
returns-in-None c = no_count c.args.matches.now c.in-None.ensures
