use Rattle.std.proofs.Common.{refl, sym}
use Rattle.nf_app_words.proofs.request.solve.Goals as goal

pub returns-in_err-file_of : goal.returns-in_err-file_of
returns-in_err-file_of c = rw (c.from_residual.ensures, sym c.in_err-file_of.ensures) refl

pub returns-in_err-horizon_of : goal.returns-in_err-horizon_of
returns-in_err-horizon_of c = rw (c.from_residual-in_err-horizon_of.ensures, sym c.in_ok-file_of.ensures, sym c.in_err-horizon_of.ensures) refl

pub returns-in_err-phases_of : goal.returns-in_err-phases_of
returns-in_err-phases_of c = rw (c.from_residual-in_err-phases_of.ensures, sym c.in_ok-file_of.ensures, sym c.in_ok-horizon_of.ensures, sym c.in_err-phases_of.ensures) refl

pub returns-in_err-patterns_of : goal.returns-in_err-patterns_of
returns-in_err-patterns_of c =
    rw (c.from_residual-in_err-patterns_of.ensures, sym c.in_ok-file_of.ensures, sym c.in_ok-horizon_of.ensures, sym c.in_ok-phases_of.ensures, sym c.in_err-patterns_of.ensures) refl

pub returns : goal.returns
returns c = rw (sym c.in_ok-file_of.ensures, sym c.in_ok-horizon_of.ensures, sym c.in_ok-phases_of.ensures, sym c.in_ok-patterns_of.ensures) refl
