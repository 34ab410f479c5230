use Rattle.std.proofs.Common.{◌≡◌, ℕ, ◌<◌, length, ap, subst}
use Rattle.std.specs.Prelude.{Option, IfSome, option_map}
use Rattle.nf_curve.specs.Flows.{seen_flow}
use Rattle.nf_forever_laws.specs.TailGrowth.{TailGrows}
use Rattle.nf_forever.specs.declared.forever.Tail.{Tail}
use Rattle.nf_forever.specs.Seen.{tail_in, forever_in}
use Rattle.library_callers.proofs.Deciding.{by_slope}
use Rattle.library_callers.proofs.forever.carries_supply.Goals as goal

pub is_level-requires : goal.is_level-requires
is_level-requires c =
    let form = c.in_ok-forever.ensures.form in
    let counts = subst (λ (t : Option Tail). IfSome (option_map tail_in t)
    (λ tail. (length tail.slopes ≡ c.args.net.now.net.nodes) × (length tail.flows ≡ length c.args.net.now.net.links))) c.in-Some.is form.tail in
    counts.0

pub returns-in-Some-clause-carries : goal.returns-in-Some-clause-carries
returns-in-Some-clause-carries c =
    let net = c.args.net.now.net in
    let flow = seen_flow c.in_ok-forever.forever.flow in
    let grows = subst (λ (t : Option Tail). IfSome t (λ tail. TailGrows net flow (tail_in tail))) c.in-Some.is c.in_ok-forever.ensures.grows in
    by_slope net flow (tail_in c.in-Some.tail) c.is_level.result c.recall.ensures.network.sink grows c.is_level.ensures

pub returns-clause-none : goal.returns-clause-none
returns-clause-none c = λ _. record {
  result = forever_in c.in_ok-forever.forever;
  run = c.in_ok-forever.ensures.run;
  none = ap (λ (t : Option Tail). option_map tail_in t) c.in-None.is;
}
