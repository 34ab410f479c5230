use Rattle.std.proofs.Common.{rules, ◌≡◌, ◌∙◌, sym, true, ◌<◌, length, arith}
use Rattle.nf_side.proofs.NamesOf.{near_is_there}
use Rattle.nf_side.proofs.words.link_near.Goals as goal

pub returns-then-is_word : goal.returns-then-is_word
returns-then-is_word c =
    let lt : c.args.near < length c.args.net.now.net.links = omega (arith, c.if-near-link_count.true, c.link_count.ensures) in
    near_is_there c.args.net.now c.as_bytes.result.now c.args.word.now c.args.near c.recall.ensures lt (c.as_bytes.ensures.value ∙ c.link_name-name.ensures)
    (sym c.is_word.ensures ∙ c.if-is_word.true)
