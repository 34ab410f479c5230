use Rattle.std.proofs.Common.{◌≡◌, ℕ, length, take, ap, ◌∙◌, arith}
use Rattle.std.proofs.Math.Seq.{take-length}
use Rattle.nf_pattern.proofs.Each.{take_pushed}
use Rattle.nf_thin.proofs.cycles.active_flags.Goals as goal

pub loop-e-preserved : goal.loop-e-preserved
loop-e-preserved c =
    take_pushed c.args.sets.now.active c.loop-e.flags.items c.push.new.self.items c.loop-e.e c.active.result c.active.ensures.flag c.loop-e.invariant
    c.in_ok-push.ensures.items

pub returns : goal.returns
returns c =
    let whole : c.loop-e.e ≡ length c.args.sets.now.active = omega (arith, c.link_count-e-end.ensures) in
    c.loop-e.invariant ∙ ap (λ (n : ℕ). take n c.args.sets.now.active) whole ∙ take-length c.args.sets.now.active
