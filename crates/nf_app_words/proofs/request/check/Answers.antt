use Rattle.std.proofs.Common.{refl, sym}
use Rattle.nf_app_words.proofs.request.check.Goals as goal

pub returns-in_err-file_of : goal.returns-in_err-file_of
returns-in_err-file_of c = rw (c.from_residual.ensures, sym c.in_err-file_of.ensures) refl

pub returns-in_err-file_of-2 : goal.returns-in_err-file_of-2
returns-in_err-file_of-2 c = rw (c.from_residual-in_err-file_of-2.ensures, sym c.in_ok-file_of.ensures, sym c.in_err-file_of-2.ensures) refl

pub returns : goal.returns
returns c = rw (sym c.in_ok-file_of.ensures, sym c.in_ok-file_of-2.ensures) refl
