use Rattle.std.proofs.Common.{◌≡◌, [], length, sym, ap, subst, Option, Some, IfSome, option_map}
use Rattle.nf_forever.proofs.Common.{gathered_nil, same_gathered, tail_lines, tail_in, forever_in}
use Rattle.nf_forever.specs.declared.forever.Tail.{Tail}
use Rattle.nf_forever.proofs.text.put_tail_of.Goals as goal

pub returns-in-None : goal.returns-in-None
returns-in-None g c =
    same_gathered [] (tail_lines c.args.net.now (forever_in c.args.forever.now).tail)
    (sym (ap (λ (t : Option Tail). tail_lines c.args.net.now (option_map tail_in t)) c.in-None.is)) gathered_nil

pub put_tail-requires : goal.put_tail-requires
put_tail-requires g c =
    let counts = subst (λ (t : Option Tail). IfSome (option_map tail_in t)
    (λ tail. (length tail.slopes ≡ c.args.net.now.net.nodes) × (length tail.flows ≡ length c.args.net.now.net.links))) c.in-Some.is c.requires in
    record { slopes = counts.0; flows = counts.1 }

pub returns-in-Some : goal.returns-in-Some
returns-in-Some g c =
    same_gathered (tail_lines c.args.net.now (Some (tail_in c.in-Some.tail))) (tail_lines c.args.net.now (forever_in c.args.forever.now).tail)
    (sym (ap (λ (t : Option Tail). tail_lines c.args.net.now (option_map tail_in t)) c.in-Some.is)) c.put_tail.ensures
