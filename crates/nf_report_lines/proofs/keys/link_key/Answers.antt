use Rattle.std.proofs.Common.{Some, refl, sym, ◌∙◌, arith}
use Rattle.nf_report_lines.proofs.Common.{as_many_names, key_of}
use Rattle.nf_report_lines.proofs.KeyNumbers.{link_key_there, link_key_past}
use Rattle.nf_report_lines.proofs.keys.link_key.Goals as goal

pub returns-then-link-link_count : goal.returns-then-link-link_count
returns-then-link-link_count c =
    let many = as_many_names c.args.net.now c.recall.ensures in
    sym (link_key_past c.args.net.now.link_names c.args.index _ refl (omega (arith, many, c.link_count.ensures)))

pub returns : goal.returns
returns c =
    let many = as_many_names c.args.net.now c.recall.ensures in
    (λ i. Some (key_of (c.kind_of_three-kind.ensures i) ((c.as_bytes-name.ensures.value ∙ c.link_name.ensures) i)))
    ∙ sym (link_key_there c.args.net.now.link_names c.args.index _ refl (omega (arith, many, c.link_count.ensures)))
