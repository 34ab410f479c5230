use Rattle.std.proofs.lemmas.Result.{err_from_is_err_and}
use Rattle.nf_app_files.specs.Files.{visit}
use Rattle.nf_app_files.proofs.Fetched.{one_missing}
use Rattle.nf_app_files.proofs.fetching.fetch_file.Goals as goal

pub returns-in_err-text-clause-fetched : goal.returns-in_err-text-clause-fetched
returns-in_err-text-clause-fetched g c =
    let p = err_from_is_err_and c.from_residual.result c.from_residual.ensures.1 in
    let e = c.in_err-text.ensures in
    rw (p.1, p.2) (one_missing (visit g.S.Shelf c.args.shelf.now c.fetch.new.self) (record { name = c.args.file.now; limit = c.args.limit }) c.in_err-text.field-0.0
    e.failed e.too_long e.long e.told_too_long e.asked)
