use Rattle.std.proofs.Common.{◌∙◌, ap}
use Rattle.nf_net.proofs.Common.{numbered}
use Rattle.nf_net.proofs.building.number.Goals as goal

pub returns : goal.returns
returns c =
    (λ i. record { tail = c.place_or_len-tail.ensures.place i; head = c.place_or_len-head.ensures.place i; transit = c.link.inside.transit; capacity = c.link.inside.capacity })
    ∙ ap (numbered c.args.nodes.now) c.link.view_is
