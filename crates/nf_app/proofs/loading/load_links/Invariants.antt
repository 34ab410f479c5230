use Rattle.std.proofs.Common.{◌≡◌, length, drop, zip, map}
use Rattle.nf_app.proofs.Common.{passes_Q, each, with_front, load_link_list, loaded_of}
use Rattle.nf_app.proofs.loading.load_links.Given as goal

-- the loadings so far, before those of the links from here on
abbrev pub invariant-loop-link : goal.invariant-loop-link
invariant-loop-link l = (length l.loaded.items ≡ l.link)
    × (with_front (map loaded_of l.loaded.items) (each (load_link_list passes_Q l.horizon) (drop l.link (zip l.net.net.links l.loads)))
    ≡ each (load_link_list passes_Q l.horizon) (zip l.net.net.links l.loads))
