use Rattle.std.proofs.Common.{[], ◌∷◌, codes}
use Rattle.nf_report_pages.proofs.Common.{digits_of}
use Rattle.nf_report_pages.proofs.Gathering.{same_gathered}
use Rattle.nf_report_pages.proofs.causes.put_patterns.Goals as goal

pub returns : goal.returns
returns g c =
    same_gathered ((c.args.key.now ∷ codes "patterns" ∷ c.text.result.now ∷ c.text-2.result.now ∷ []) ∷ [])
    ((c.args.key.now ∷ codes "patterns" ∷ digits_of c.args.phase ∷ digits_of c.args.tried ∷ []) ∷ []) (cc) c.put_line.ensures
