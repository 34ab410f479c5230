use Rattle.std.proofs.Common.{refl, sym}
use Rattle.nf_app_words.proofs.request.quick.Goals as goal

pub returns-in_err-file_of : goal.returns-in_err-file_of
returns-in_err-file_of c = rw (c.from_residual.ensures, sym c.in_err-file_of.ensures) refl

pub returns-in_err-amount_of : goal.returns-in_err-amount_of
returns-in_err-amount_of c = rw (c.from_residual-in_err-amount_of.ensures, sym c.in_ok-file_of.ensures, sym c.in_err-amount_of.ensures) refl

pub returns-in_err-augments_of : goal.returns-in_err-augments_of
returns-in_err-augments_of c = rw (c.from_residual-in_err-augments_of.ensures, sym c.in_ok-file_of.ensures, sym c.in_ok-amount_of.ensures, sym c.in_err-augments_of.ensures) refl

pub returns : goal.returns
returns c = rw (sym c.in_ok-file_of.ensures, sym c.in_ok-amount_of.ensures, sym c.in_ok-augments_of.ensures) refl
