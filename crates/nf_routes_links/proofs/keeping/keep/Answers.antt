use Rattle.std.proofs.Common.{◌≡◌, List, map, sym, ap, ◌∙◌}
use Rattle.nf_routes_links.proofs.Common.{with_items_is, err_from_is_err_and, SoFar, last_alone, kept_after, Kept, seen_so_far}
use Rattle.nf_routes_links.proofs.Folds.{Sent}
use Rattle.nf_routes_links.proofs.keeping.keep.Goals as goal

pub returns-in-Every : goal.returns-in-Every
returns-in-Every c = ap (λ (k : Kept). kept_after k (seen_so_far c.args.so_far.now)) (sym c.in-Every.is)

pub returns-in_err-keep_last_all-in-Last : goal.returns-in_err-keep_last_all-in-Last
returns-in_err-keep_last_all-in-Last c =
    let p = err_from_is_err_and c.from_residual.result c.from_residual.ensures.1 in
    rw p.1 tt

pub returns-in_ok-keep_last_all-in-Last : goal.returns-in_ok-keep_last_all-in-Last
returns-in_ok-keep_last_all-in-Last c =
    let items = with_items_is c.args.so_far.now.entries c.keep_last_all.new.entries (c.keep_last_all.auto.entries ∙ c.deref_mut.ensures.len) in
    let alone : c.keep_last_all.new.entries ≡ map last_alone c.args.so_far.now.entries.items = c.in_ok-keep_last_all-in-Last.ensures
    ∙ ap (λ (l : List Sent). map last_alone l) c.deref_mut.ensures.value in
    let to : List Sent → SoFar = λ l. record { links = c.args.so_far.now.links.items; entries = l } in
    ap to (items ∙ alone) ∙ ap (λ (k : Kept). kept_after k (seen_so_far c.args.so_far.now)) (sym c.in-Last.is)
