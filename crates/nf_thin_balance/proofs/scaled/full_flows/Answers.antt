use Rattle.std.proofs.Common.{◌≡◌, ℕ, ◌<◌, List, length, sym, ap, subst, ◌∙◌, arith, rules}
use Rattle.nf_thin_balance.proofs.Common.{number_at, Link, IsLink, each_none, each_pushed, length_pushed, Range, IsFull, AreFull}
use Rattle.nf_thin_narrow.proofs.Reading.{number_read}
use Rattle.nf_thin_balance.proofs.Conserving.{full_at}
use Rattle.nf_thin_balance.proofs.scaled.full_flows.Goals as goal

pub bounds-slopes-index : goal.bounds-slopes-index
bounds-slopes-index c =
    let good = c.link-link.ensures.named.network in
    let head : c.index.result ≡ c.link-link.result.head = c.index.ensures ∙ ap (λ (l : Link). l.head) c.link.view_is in
    let within = good.heads c.loop-e.e c.link-link.result c.link-link.ensures.link in
    let count = c.requires.slopes in
    omega arith

pub offset_bounds-slopes-index : goal.offset_bounds-slopes-index
offset_bounds-slopes-index c =
    let good = c.link-link.ensures.named.network in
    let head : c.index.result ≡ c.link-link.result.head = c.index.ensures ∙ ap (λ (l : Link). l.head) c.link.view_is in
    let within = good.heads c.loop-e.e c.link-link.result c.link-link.ensures.link in
    let count = c.requires.slopes in
    let inside : c.index.result < length c.args.slopes.now = omega arith in search rules

pub active-active-requires : goal.active-active-requires
active-active-requires c = let t = c.loop-e-test.true in let n = c.link_count-e-end.ensures in let s = c.requires.sets in omega arith

pub loop-e-init : goal.loop-e-init
loop-e-init c = record {
  count = ap (λ (l : List Range). length l) c.in_ok-full.ensures.items;
  are = each_none (λ (e : ℕ) (range : Range). (link : Link) → IsLink c.args.net.now.net e link → IsFull c.args.scale link.capacity (number_at c.args.slopes.now link.head) range)
      c.in_ok-full.full.items c.in_ok-full.ensures.items;
}

pub loop-e-preserved : goal.loop-e-preserved
loop-e-preserved c =
    let good = c.link-link.ensures.named.network in
    record {
      count = ap (λ (l : List Range). length l) c.in_ok-push.ensures.items ∙ length_pushed c.loop-e.full.items c.full_range.result c.loop-e.e c.loop-e.invariant.count;
      are = subst (λ (l : List Range). AreFull c.args.scale c.args.net.now.net c.args.slopes.now l) (sym c.in_ok-push.ensures.items)
          (each_pushed (λ (e : ℕ) (range : Range). (link : Link) → IsLink c.args.net.now.net e link → IsFull c.args.scale link.capacity (number_at c.args.slopes.now link.head) range)
          c.loop-e.full.items c.full_range.result c.loop-e.e c.loop-e.invariant.count c.loop-e.invariant.are
          (full_at c.args.scale c.args.net.now.net c.args.slopes.now c.loop-e.e c.link-link.result _ c.index-slopes-index.result c.full_range.result c.link-link.ensures.link
          (ap (λ (l : Link). l.capacity) c.link.view_is)
          (number_read c.args.slopes.now c.index.result c.link-link.result.head _ (c.index.ensures ∙ ap (λ (l : Link). l.head) c.link.view_is)
          (subst (λ (n : ℕ). c.link-link.result.head < n) (sym c.requires.slopes) (good.heads c.loop-e.e c.link-link.result c.link-link.ensures.link)) c.index-slopes-index.is)
          c.full_range.ensures));
    }

pub returns-clause-count : goal.returns-clause-count
returns-clause-count c = let n = c.link_count-e-end.ensures in let t = c.loop-e-test.false in let i = c.loop-e.invariant.count in omega arith

pub returns-clause-full : goal.returns-clause-full
returns-clause-full c = c.loop-e.invariant.are
