use Rattle.std.proofs.Common.{◌≡◌, ◌<◌, ◌≤◌, ℕ, suc, length, refl, sym, ap, subst, ◌∙◌, arith, slice_get}
use Rattle.nf_thin_balance.proofs.Common.{slice_get_read, Hop, IsNextAt}
use Rattle.nf_net.proofs.Limits.{few_links}
use Rattle.nf_thin_balance.proofs.Conserving.{link_read}
use Rattle.nf_thin_balance.proofs.Balances.{test_same}
use Rattle.nf_thin_balance.proofs.links_at.LinksAt.next.Goals as goal

pub overflow_add-result : goal.overflow_add-result
overflow_add-result c = let few : length c.args.net.now.net.links ≤ 200 = few_links c.args.net.now c.hops.ensures.named in let b = c.requires.link in omega arith

pub returns-then-leaves : goal.returns-then-leaves
returns-then-leaves c =
    let f = link_read c.args.net.now.net c.hops.result.now c.args.link c.index.result c.index-hops-index.result c.hops.ensures.value c.index.ensures
    c.requires.link c.index-hops-index.is in
    let tail_is : (f.0).tail ≡ c.hop.inside.tail = f.2 ∙ ap (λ (h : Hop). h.tail) (sym c.hop.view_is) in
    let t = c.requires.links.tails in
    let l = c.requires.link in
    let k = c.index-then-leaves.ensures in
    let there : c.index-then-leaves.result < length c.args.self.now.at_tail.items = omega arith in
    subst (λ (v : ℕ). IsNextAt c.args.net.now.net v (suc c.args.link) c.index-then-leaves-2.result.now)
    (tail_is ∙ test_same c.eq-leaves.result c.hop.inside.tail c.args.node c.eq-leaves.ensures c.if-leaves.true)
    (c.requires.links.tail_are c.args.link c.index-then-leaves-2.result.now f.0 (omega arith) f.1 (ap (slice_get c.args.self.now.at_tail.items) (sym c.index-then-leaves.ensures)
    ∙ slice_get_read c.args.self.now.at_tail.items _ c.index-then-leaves.result c.index-then-leaves-2.result.now refl there c.index-then-leaves-2.ensures))

pub returns-then-enters : goal.returns-then-enters
returns-then-enters c =
    let f = link_read c.args.net.now.net c.hops.result.now c.args.link c.index.result c.index-hops-index.result c.hops.ensures.value c.index.ensures
    c.requires.link c.index-hops-index.is in
    let head_is : (f.0).head ≡ c.hop.inside.head = f.3 ∙ ap (λ (h : Hop). h.head) (sym c.hop.view_is) in
    let t = c.requires.links.heads in
    let l = c.requires.link in
    let k = c.index-then-enters.ensures in
    let there : c.index-then-enters.result < length c.args.self.now.at_head.items = omega arith in
    subst (λ (v : ℕ). IsNextAt c.args.net.now.net v (suc c.args.link) c.index-then-enters-2.result.now)
    (head_is ∙ test_same c.eq-enters.result c.hop.inside.head c.args.node c.eq-enters.ensures c.if-enters.true)
    (c.requires.links.head_are c.args.link c.index-then-enters-2.result.now f.0 (omega arith) f.1 (ap (slice_get c.args.self.now.at_head.items) (sym c.index-then-enters.ensures)
    ∙ slice_get_read c.args.self.now.at_head.items _ c.index-then-enters.result c.index-then-enters-2.result.now refl there c.index-then-enters-2.ensures))
