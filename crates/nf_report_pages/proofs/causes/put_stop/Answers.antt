use Rattle.std.proofs.Common.{[], ◌∷◌, ap, sym, Some, codes}
use Rattle.nf_report_pages.proofs.Common.{ℚ, digits_of, Cause, cause_words, passed_words}
use Rattle.nf_report_pages.proofs.Gathering.{same_gathered}
use Rattle.nf_report_pages.proofs.causes.put_stop.Goals as goal

pub returns-in-Patterns : goal.returns-in-Patterns
returns-in-Patterns g c =
    same_gathered ((c.args.key.now ∷ codes "patterns" ∷ digits_of c.in-Patterns.phase ∷ digits_of c.in-Patterns.tried ∷ []) ∷ []) ((c.args.key.now ∷ cause_words (Some c.args.stop.now)) ∷ [])
    (sym (ap (λ (s : Cause ℚ). (c.args.key.now ∷ cause_words (Some s)) ∷ []) c.in-Patterns.is)) c.put_patterns.ensures

pub returns-in-Passed : goal.returns-in-Passed
returns-in-Passed g c =
    same_gathered ((c.args.key.now ∷ passed_words (Some c.in-Passed.phase) c.in-Passed.place c.in-Passed.at) ∷ []) ((c.args.key.now ∷ cause_words (Some c.args.stop.now)) ∷ [])
    (sym (ap (λ (s : Cause ℚ). (c.args.key.now ∷ cause_words (Some s)) ∷ []) c.in-Passed.is)) c.put_passed.ensures

pub returns-in-NoPattern : goal.returns-in-NoPattern
returns-in-NoPattern g c =
    same_gathered ((c.args.key.now ∷ codes "nopattern" ∷ digits_of c.in-NoPattern.phase ∷ []) ∷ []) ((c.args.key.now ∷ cause_words (Some c.args.stop.now)) ∷ [])
    (sym (ap (λ (s : Cause ℚ). (c.args.key.now ∷ cause_words (Some s)) ∷ []) c.in-NoPattern.is)) c.put_counted-in-NoPattern.ensures
