use Rattle.std.proofs.Common.{◌≡◌, ℕ, List, length, replicate, ap, ◌∙◌, arith}
use Rattle.nf_thin_balance.proofs.Common.{length-replicate}
use Rattle.nf_thin_balance.proofs.LinksAt.{none_added}
use Rattle.nf_thin_balance.proofs.links_at.LinksAt.new.Goals as goal

pub loop-link-init : goal.loop-link-init
loop-link-init c =
    let count = c.link_count-count.ensures in
    let firsts : c.in_ok-first.first.items ≡ replicate c.node_count.result c.link_count-count.result = c.in_ok-first.ensures.items_if_clones_equal (λ y e. e) in
    let tails : c.in_ok-at_tail.at_tail.items ≡ replicate c.link_count-count.result c.link_count-count.result = c.in_ok-at_tail.ensures.items_if_clones_equal (λ y e. e) in
    let heads : c.in_ok-at_head.at_head.items ≡ replicate c.link_count-count.result c.link_count-count.result = c.in_ok-at_head.ensures.items_if_clones_equal (λ y e. e) in
    record {
      within = omega arith;
      later = none_added c.args.net.now.net c.in_ok-first.first.items c.in_ok-at_tail.at_tail.items c.in_ok-at_head.at_head.items c.link_count-count.result
          c.node_count.result count c.node_count.ensures
          (ap (λ (l : List ℕ). length l) firsts ∙ length-replicate c.node_count.result c.link_count-count.result) firsts
          (ap (λ (l : List ℕ). length l) tails ∙ length-replicate c.link_count-count.result c.link_count-count.result)
          (ap (λ (l : List ℕ). length l) heads ∙ length-replicate c.link_count-count.result c.link_count-count.result);
    }
