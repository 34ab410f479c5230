use Rattle.std.proofs.Common.{◌≡◌, ◌<◌, ap, ◌∙◌, arith}
use Rattle.nf_complete_conditions.proofs.Common.{Link}
use Rattle.nf_complete_conditions.proofs.filled.full_at.Goals as goal

pub link-here-requires : goal.link-here-requires
link-here-requires c = c.requires.link

pub active-requires : goal.active-requires
active-requires c = let l = c.requires.link in let s = c.requires.sets in omega arith

pub bounds-slopes-index : goal.bounds-slopes-index
bounds-slopes-index c =
    let below : c.link-here.result.head < c.args.net.now.net.nodes = c.link-here.ensures.named.network.heads c.args.link c.link-here.result c.link-here.ensures.link in
    let is : c.index.result ≡ c.link-here.result.head = c.index.ensures ∙ ap (λ (k : Link). k.head) c.here.view_is in
    let n = c.requires.slopes in omega arith
