use Rattle.std.proofs.Common.{ℕ, ◌≤◌, List, [], ◌∷◌, length, refl, sym, subst, arith}
use Rattle.std.specs.Prelude.{Ok, Err}
use Rattle.std.proofs.lemmas.Result.{err_from_is_err_and}
use Rattle.nf_net_def.specs.NetFile.{Reads}
use Rattle.nf_net_file.specs.Contents.{IfBroken}
use Rattle.nf_text_def.specs.Faults.{longest_text}
use Rattle.nf_app_files.specs.Files.{Wanted, visit, input_limit, input_file}
use Rattle.nf_app_files.proofs.Fetched.{first_missing, second_missing, both_fetched}
use Rattle.nf_app_files.proofs.Networks.{network_read, network_refused, network_missing}
use Rattle.nf_app_files.proofs.fetching.fetch_network_with.Goals as goal

pub parse-requires : goal.parse-requires
parse-requires g c =
    let within : length c.in_ok-first.first.items ≤ input_limit = c.in_ok-first.ensures.within in
    let short : length c.in_ok-first.first.items ≤ longest_text = omega arith in
    subst (λ (t : List ℕ). length t ≤ longest_text) (sym c.deref.ensures.value) short

pub returns-in_err-first-clause-read : goal.returns-in_err-first-clause-read
returns-in_err-first-clause-read g c =
    let p = err_from_is_err_and c.from_residual.result c.from_residual.ensures.1 in
    let here = visit g.S.Shelf c.args.shelf.now c.fetch_file.new.shelf in
    let other : Wanted = record { name = c.args.other.now; limit = c.args.limit } in
    rw (p.1, p.2) (network_missing here (input_file c.args.file.now) (other ∷ []) c.in_err-first.field-0.0
    (first_missing here (input_file c.args.file.now) other c.in_err-first.field-0.0 c.in_err-first.ensures.fetched))

pub returns-in_err-more-clause-read : goal.returns-in_err-more-clause-read
returns-in_err-more-clause-read g c =
    let p = err_from_is_err_and c.from_residual-in_err-more.result c.from_residual-in_err-more.ensures.1 in
    let other : Wanted = record { name = c.args.other.now; limit = c.args.limit } in
    rw (p.1, p.2) (network_missing (visit g.S.Shelf c.args.shelf.now c.fetch_file-2.new.shelf) (input_file c.args.file.now) (other ∷ []) c.in_err-more.field-0.0
    (second_missing (visit g.S.Shelf c.args.shelf.now c.fetch_file.new.shelf) (visit g.S.Shelf c.fetch_file.new.shelf c.fetch_file-2.new.shelf) (input_file c.args.file.now) other
    (record { asked = refl; faults = refl; told = c.in_ok-first.ensures.same; rises = c.in_ok-first.ensures.never_falls; rises_more = c.in_err-more.ensures.never_falls })
    c.in_ok-first.ensures.fetched.0 c.in_err-more.field-0.0 c.in_err-more.ensures.fetched))

pub returns-in_err-net-clause-read : goal.returns-in_err-net-clause-read
returns-in_err-net-clause-read g c =
    let p = err_from_is_err_and c.from_residual-in_err-net.result c.from_residual-in_err-net.ensures.1 in
    let other : Wanted = record { name = c.args.other.now; limit = c.args.limit } in
    rw (p.1, p.2) (network_refused (visit g.S.Shelf c.args.shelf.now c.fetch_file-2.new.shelf) (input_file c.args.file.now) (other ∷ [])
    c.in_ok-first.first.items (c.in_ok-more.more.items ∷ [])
    (both_fetched (visit g.S.Shelf c.args.shelf.now c.fetch_file.new.shelf) (visit g.S.Shelf c.fetch_file.new.shelf c.fetch_file-2.new.shelf) (input_file c.args.file.now) other
    (record { asked = refl; faults = refl; told = c.in_ok-first.ensures.same; rises = c.in_ok-first.ensures.never_falls; rises_more = c.in_ok-more.ensures.never_falls })
    c.in_ok-first.ensures.fetched.0 c.in_ok-first.first.items c.in_ok-more.more.items c.in_ok-first.ensures.fetched.1.of_file c.in_ok-more.ensures.fetched)
    c.in_err-net.field-0.0 (subst (λ (t : List ℕ). IfBroken c.in_err-net.field-0.0 (λ broken. Reads t (Err broken))) c.deref.ensures.value c.in_err-net.ensures))

pub returns-clause-read : goal.returns-clause-read
returns-clause-read g c =
    let other : Wanted = record { name = c.args.other.now; limit = c.args.limit } in
    network_read (visit g.S.Shelf c.args.shelf.now c.fetch_file-2.new.shelf) (input_file c.args.file.now) (other ∷ []) c.in_ok-first.first.items (c.in_ok-more.more.items ∷ [])
    (both_fetched (visit g.S.Shelf c.args.shelf.now c.fetch_file.new.shelf) (visit g.S.Shelf c.fetch_file.new.shelf c.fetch_file-2.new.shelf) (input_file c.args.file.now) other
    (record { asked = refl; faults = refl; told = c.in_ok-first.ensures.same; rises = c.in_ok-first.ensures.never_falls; rises_more = c.in_ok-more.ensures.never_falls })
    c.in_ok-first.ensures.fetched.0 c.in_ok-first.first.items c.in_ok-more.more.items c.in_ok-first.ensures.fetched.1.of_file c.in_ok-more.ensures.fetched)
    c.in_ok-net.net (subst (λ (t : List ℕ). Reads t (Ok c.in_ok-net.net)) c.deref.ensures.value c.in_ok-net.ensures)
