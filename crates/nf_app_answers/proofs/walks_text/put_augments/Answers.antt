use Rattle.std.proofs.Common.{◌≤◌, length, refl, arith}
use Rattle.nf_app_answers.proofs.Common.{slice_get_read, IfOk-from_err, augment_line}
use Rattle.nf_app_answers.proofs.QuickLines.{part_more, part_ends}
use Rattle.nf_app_answers.proofs.walks_text.put_augments.Goals as goal

pub loop-walk-init : goal.loop-walk-init
loop-walk-init c = refl

pub returns-in_err-put_augment : goal.returns-in_err-put_augment
returns-in_err-put_augment c = IfOk-from_err c.from_residual.result _ c.from_residual.ensures.0

pub loop-walk-preserved : goal.loop-walk-preserved
loop-walk-preserved c =
    part_more (augment_line c.args.net.now.link_names) c.args.walks.now c.loop-walk.walk-index c.walk-item.result c.loop-walk.text.items _ _
    (slice_get_read c.args.walks.now (length c.args.walks.now) c.loop-walk.walk-index c.walk-item.result refl c.loop-walk-test.true c.walk-item.is)
    c.loop-walk.invariant c.in_ok-put_augment.ensures

pub returns : goal.returns
returns c =
    let end : length c.args.walks.now ≤ c.loop-walk.walk-index = omega arith in
    part_ends (augment_line c.args.net.now.link_names) c.args.walks.now c.loop-walk.walk-index c.loop-walk.text.items _ end c.loop-walk.invariant
