use Rattle.std.proofs.Common.{sym, ◌∙◌, ◌≤◌, length, arith}
use Rattle.nf_net.proofs.TextLines.{link_more, links_done}
use Rattle.nf_net.proofs.printing.push_links.Goals as goal

pub loop-index-preserved : goal.loop-index-preserved
loop-index-preserved c = link_more c.args.net.now c.loop-index.index _ _ c.in_ok-push_numbered.ensures ∙ c.loop-index.invariant

pub returns : goal.returns
returns c =
    let all : length c.args.net.now.net.links ≤ c.loop-index.index = omega arith in
    sym (links_done c.args.net.now c.loop-index.index c.loop-index.out.items c.requires all) ∙ c.loop-index.invariant
