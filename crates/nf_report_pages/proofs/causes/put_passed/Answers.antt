use Rattle.std.proofs.Common.{[], ◌∷◌, codes}
use Rattle.nf_report_pages.proofs.Common.{passed_words}
use Rattle.nf_report_pages.proofs.Gathering.{same_gathered}
use Rattle.nf_report_pages.proofs.causes.put_passed.Goals as goal

pub returns : goal.returns
returns g c =
    same_gathered ((c.args.key.now ∷ codes "passed" ∷ c.count_text-phase_word.result.now ∷ c.part_text-part.result.now ∷ c.count_text-place_word.result.now
    ∷ c.op_text-op.result.now ∷ c.text.result.now ∷ c.text-2.result.now ∷ []) ∷ [])
    ((c.args.key.now ∷ passed_words c.args.phase c.args.place c.args.at.now) ∷ [])
    (cc (c.count_text-phase_word.ensures, c.part_text-part.ensures, c.count_text-place_word.ensures, c.op_text-op.ensures, c.write.ensures.text, c.write-2.ensures.text))
    c.put_line.ensures
