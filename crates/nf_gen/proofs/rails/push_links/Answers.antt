use Rattle.std.proofs.Common.{◌++◌}
use Rattle.nf_gen.proofs.Common.{links_in, links_along, links_down, links_out}
use Rattle.nf_gen.proofs.Written.{writes_more}
use Rattle.nf_gen.proofs.rails.push_links.Goals as goal

pub returns : goal.returns
returns c =
    let rungs = c.args.rungs in
    writes_more (links_in ++ links_along rungs ++ links_down rungs) (links_out rungs) _ _ _ _ _ _
    (writes_more (links_in ++ links_along rungs) (links_down rungs) _ _ _ _ _ _
    (writes_more links_in (links_along rungs) _ _ _ _ _ _ c.in_ok-push_first.ensures c.in_ok-push_rails.ensures)
    c.in_ok-push_rungs.ensures)
    c.in_ok-push_last.ensures
