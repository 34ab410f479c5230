use Rattle.std.proofs.Common.{◌≡◌, drop, suc, length, refl, arith, flat_map}
use Rattle.nf_app_answers.proofs.Common.{slice_get-get_or, next_part, parts_left, all_parts, wrote_both, wrote_front}
use Rattle.nf_app_answers.proofs.ErrorTexts.{same_text}
use Rattle.nf_app_answers.proofs.telling.write_texts.Goals as goal

pub loop-text-preserved : goal.loop-text-preserved
loop-text-preserved g c =
    wrote_both _ (next_part (λ t. t.now) c.args.texts.now c.loop-text.text-index _ (slice_get-get_or c.args.texts.now c.loop-text.text-index _ c.loop-text-test.true))
    c.loop-text.invariant c.in_ok-write_text.ensures

pub returns-in_err-write_text : goal.returns-in_err-write_text
returns-in_err-write_text g c =
    wrote_front (flat_map (λ t. t.now) (drop (suc c.loop-text.text-index) c.args.texts.now)) _ _
    (parts_left (λ t. t.now) c.args.texts.now c.loop-text.text-index _ (slice_get-get_or c.args.texts.now c.loop-text.text-index _ c.loop-text-test.true))
    c.from_residual.ensures.0
    (wrote_both _ refl c.loop-text.invariant c.in_err-write_text.ensures)

pub returns : goal.returns
returns g c =
    let end : c.loop-text.text-index ≡ length c.args.texts.now = omega arith in
    same_text _ _ (all_parts (λ t. t.now) c.args.texts.now c.loop-text.text-index end) c.loop-text.invariant
