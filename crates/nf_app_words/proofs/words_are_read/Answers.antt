use Rattle.std.proofs.Common.{refl}
use Rattle.clap.proofs.OnLiterals.{clap_on_literals}
use Rattle.nf_rational.specs.Rational.{ratio}
use Rattle.nf_rational.specs.Operations.{whole}
use Rattle.nf_rational.specs.Order.{le_ℚ}
use Rattle.nf_rational.specs.Gcd.{gcd}
use Rattle.nf_frac_words.specs.Numbers.{number_of, parts_of}
use Rattle.nf_app_words.specs.CommandLine.{nfot, matches_on, word_in, files_in, file_in}
use Rattle.nf_app_words.specs.Numbers.{count_between}
use Rattle.nf_app_words.specs.Commands.{commands, fits, is_flagged, is_named, is_there}
use Rattle.nf_app_words.specs.Requests.{horizon_in, phases_in, patterns_in, amount_in, augments_in, number_asked, rungs_in, request_of}
use Rattle.nf_app_words.proofs.words_are_read.Goals as goal

pub returns : goal.returns
unfolding clap_on_literals ratio whole le_ℚ gcd number_of parts_of nfot matches_on word_in files_in count_between commands fits is_named is_there is_flagged
    file_in horizon_in phases_in patterns_in amount_in augments_in number_asked rungs_in request_of
returns c = record {
  any_order = refl;
  between = refl;
  no_files = refl;
  flag = refl;
  both = refl;
  valued = refl;
  behind = refl;
  missing = refl;
  negative = refl;
  twice = refl;
  flag_twice = refl;
  foreign_flag = refl;
  foreign = refl;
  unknown = refl;
  help = refl;
  nothing = refl;
}
