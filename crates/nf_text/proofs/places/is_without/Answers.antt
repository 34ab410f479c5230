use Rattle.std.proofs.Common.{◌&&◌, ◌==◌, sym, ap, ◌∙◌, take, not}
use Rattle.nf_text.proofs.Common.{list_all, list_all_more}
use Rattle.nf_text.proofs.places.is_without.Goals as goal

pub loop-byte-preserved : goal.loop-byte-preserved
loop-byte-preserved c =
    ap (λ b. b && c.differs-without.result) c.loop-byte.invariant
    ∙ ap (λ b. list_all (λ b. not (b == c.args.wanted)) (take c.loop-byte.byte-index c.args.bytes.now) && b) c.differs-without.ensures
    ∙ sym (list_all_more (λ b. not (b == c.args.wanted)) c.args.bytes.now c.loop-byte.byte-index 0 c.loop-byte-test.true)
