use Rattle.std.proofs.Common.{◌&&◌, sym, ap, ◌∙◌, take}
use Rattle.nf_text.proofs.Common.{list_all, list_all_more, is_allowed}
use Rattle.nf_text.proofs.reading.is_text.Goals as goal

pub loop-byte-preserved : goal.loop-byte-preserved
loop-byte-preserved c =
    ap (λ b. b && c.is_text_byte-fine.result) c.loop-byte.invariant ∙ ap (λ b. list_all is_allowed (take c.loop-byte.byte-index c.args.bytes.now) && b) c.is_text_byte-fine.ensures
    ∙ sym (list_all_more is_allowed c.args.bytes.now c.loop-byte.byte-index 0 c.loop-byte-test.true)
