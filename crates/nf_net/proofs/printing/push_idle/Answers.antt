use Rattle.std.proofs.Common.{◌++◌, List, ℕ, map, refl, ◌∙◌, ap}
use Rattle.nf_net.proofs.Common.{flat_map, line_of_words, NamedLink, link_words, filled, filled_all}
use Rattle.nf_net.proofs.printing.push_idle.Goals as goal

pub loop-link-preserved : goal.loop-link-preserved
loop-link-preserved c =
    let front : List ℕ = c.loop-link.out.items in
    filled (λ (ls : List NamedLink). flat_map line_of_words (map link_words ls)) c.args.links.now c.loop-link.link-index c.link-item.result front
    (line_of_words (link_words c.link-item.result)) _ _
    (c.in_ok-push_link.ensures
    ∙ (λ i. front ++ line_of_words (link_words (record {
      name = c.text-name.ensures i;
      tail = c.text-tail.ensures i;
      head = c.text-head.ensures i;
      transit =
          c.link.inside.transit;
      capacity = c.link.inside.capacity;
    })))
    ∙ ap (λ (l : NamedLink). front ++ line_of_words (link_words l)) c.link.view_is)
    c.loop-link-test.true c.link-item.is refl c.loop-link.invariant

pub returns : goal.returns
returns c =
    filled_all (λ (ls : List NamedLink). flat_map line_of_words (map link_words ls)) c.args.links.now c.loop-link.link-index c.loop-link.out.items _
    c.loop-link-test.false refl c.loop-link.invariant
