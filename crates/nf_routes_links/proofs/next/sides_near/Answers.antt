use Rattle.std.proofs.Common.{sym, ap}
use Rattle.nf_routes_links.proofs.Common.{Load, at_part, sides_of}
use Rattle.nf_routes_links.proofs.Knowing.{sides_there}
use Rattle.nf_routes_links.proofs.next.sides_near.Goals as goal

pub returns-in-Some : goal.returns-in-Some
returns-in-Some c =
    sym (ap (at_part Load) (sides_there c.args.left.now c.args.right.now c.args.known.now c.args.moment.now.time
    (sides_of c.in-Some.sides) c.requires.left c.requires.known c.in-Some.ensures))
