use Rattle.std.proofs.Common.{◌≡◌, ℕ, ◌∙◌, ap, Bool, length, take, arith, Some, is_none}
use Rattle.nf_thin_rank.proofs.Common.{slice_get-map, Link, unbounded, take_pushed, none_flag, unbounded_length}
use Rattle.std.proofs.Math.Seq.{take-length}
use Rattle.std.specs.Option.{option_map}
use Rattle.nf_thin_rank.proofs.listings.unbounded_flags.Goals as goal

pub loop-e-preserved : goal.loop-e-preserved
loop-e-preserved c = take_pushed (unbounded c.args.net.now.net) c.loop-e.flags.items c.push.new.self.items c.loop-e.e c.is_none.result
    (slice_get-map (λ (l : Link). is_none l.capacity) c.args.net.now.net.links c.loop-e.e ∙ (ap (option_map (λ (l : Link). is_none l.capacity)) c.link-link.ensures.link
    ∙ ap (λ (b : Bool). Some b) (none_flag c.link.inside.capacity c.link-link.result.capacity c.is_none.result (ap (λ (l : Link). l.capacity) c.link.view_is) c.is_none.ensures)))
    c.loop-e.invariant c.in_ok-push.ensures.items

pub returns : goal.returns
returns c =
    let whole : c.loop-e.e ≡ length (unbounded c.args.net.now.net) = omega (arith, c.link_count-e-end.ensures, unbounded_length c.args.net.now.net) in
    c.loop-e.invariant ∙ ap (λ (n : ℕ). take n (unbounded c.args.net.now.net)) whole ∙ take-length (unbounded c.args.net.now.net)
