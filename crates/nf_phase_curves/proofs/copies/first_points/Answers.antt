use Rattle.std.proofs.Common.{◌+◌, ◌<◌, List, sym, subst, arith}
use Rattle.nf_phase_curves.proofs.Common.{ℚ, ◌<ℚ◌, last_time, take_pushed}
use Rattle.nf_phase_curves.proofs.Copying.{later_than_taken}
use Rattle.nf_phase_curves.proofs.copies.first_points.Goals as goal

pub push-requires : goal.push-requires
push-requires c =
    subst (λ (l : List (ℚ × ℚ)). last_time l <ℚ c.point-time.result.0) (sym c.loop-i.invariant.0)
    (later_than_taken c.args.curve.now.points c.loop-i.i c.point-time.result c.requires.curve c.loop-i.invariant.1 c.point-time.ensures)

pub loop-i-preserved : goal.loop-i-preserved
loop-i-preserved c =
    let some : 0 < c.loop-i.i + 1 = omega arith in (
      take_pushed c.args.curve.now.points c.loop-i.points.points c.push.new.self.points c.loop-i.i c.point-time.result c.point-time.ensures
          c.loop-i.invariant.0 c.in_ok-push.ensures.ok,
      some,
    )
