use Rattle.std.proofs.Common.{ℕ, ◌+◌, ap}
use Rattle.nf_gen.proofs.Written.{link_written}
use Rattle.nf_gen.proofs.rails.push_link.Goals as goal

pub returns : goal.returns
returns c =
    link_written c.args.draws.now c.draw-transit.new.self c.draw-capacity.new.self (1 + c.draw-transit.result) (1 + c.draw-capacity.result)
    c.args.name.now c.args.tail.now c.args.head.now c.args.out.now.items c.push_link_line.new.out.items
    c.draw-transit.ensures.value c.draw-capacity.ensures.value
    (ap (λ (k : ℕ). 1 + k) c.draw-transit.ensures.drawn) (ap (λ (k : ℕ). 1 + k) c.draw-capacity.ensures.drawn)
    c.in_ok-push_link_line.ensures
