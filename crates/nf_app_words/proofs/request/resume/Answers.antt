use Rattle.std.proofs.Common.{refl, sym}
use Rattle.nf_app_words.proofs.Common.{resume_request}
use Rattle.nf_app_words.proofs.Asked.{same_5}
use Rattle.nf_app_words.proofs.request.resume.Goals as goal

pub returns-in_err-file_of : goal.returns-in_err-file_of
returns-in_err-file_of c = rw (c.from_residual.ensures, sym c.in_err-file_of.ensures) refl

pub returns-in_err-file_of-2 : goal.returns-in_err-file_of-2
returns-in_err-file_of-2 c = rw (c.from_residual-in_err-file_of-2.ensures, sym c.in_ok-file_of.ensures, sym c.in_err-file_of-2.ensures) refl

pub returns-in_err-horizon_of : goal.returns-in_err-horizon_of
returns-in_err-horizon_of c = rw (c.from_residual-in_err-horizon_of.ensures, sym c.in_ok-file_of.ensures, sym c.in_ok-file_of-2.ensures, sym c.in_err-horizon_of.ensures) refl

pub returns-in_err-phases_of : goal.returns-in_err-phases_of
returns-in_err-phases_of c =
    rw (c.from_residual-in_err-phases_of.ensures, sym c.in_ok-file_of.ensures, sym c.in_ok-file_of-2.ensures, sym c.in_ok-horizon_of.ensures, sym c.in_err-phases_of.ensures) refl

pub returns-in_err-patterns_of : goal.returns-in_err-patterns_of
returns-in_err-patterns_of c =
    rw (
      c.from_residual-in_err-patterns_of.ensures,
      sym c.in_ok-file_of.ensures,
      sym c.in_ok-file_of-2.ensures,
      sym c.in_ok-horizon_of.ensures,
      sym c.in_ok-phases_of.ensures,
      sym c.in_err-patterns_of.ensures,
    ) refl

pub returns : goal.returns
returns c =
    same_5 resume_request _ _ _ _ _ _ _ _ _ _ (sym c.in_ok-file_of.ensures) (sym c.in_ok-file_of-2.ensures) (sym c.in_ok-horizon_of.ensures)
    (sym c.in_ok-phases_of.ensures) (sym c.in_ok-patterns_of.ensures)
