use Rattle.std.proofs.Common.{[], ◌∷◌, codes, flat_map, None}
use Rattle.nf_app_answers.proofs.Common.{line_of_words, passed_words, wrote_both, wrote_front}
use Rattle.nf_app_answers.proofs.ErrorTexts.{stopped_pieces}
use Rattle.nf_app_answers.proofs.telling.write_passed.Goals as goal

pub returns-in_err-write_text : goal.returns-in_err-write_text
returns-in_err-write_text g c =
    wrote_front (flat_map line_of_words ((codes "stopped:" ∷ passed_words None None c.args.at.now) ∷ [])) _ _ (stopped_pieces (passed_words None None c.args.at.now))
    c.from_residual.ensures.0 c.in_err-write_text.ensures

pub returns : goal.returns
returns g c = wrote_both _ (stopped_pieces (passed_words None None c.args.at.now)) c.in_ok-write_text.ensures c.write_passed_call.ensures
