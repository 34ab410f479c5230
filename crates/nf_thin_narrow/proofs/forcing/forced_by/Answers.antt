use Rattle.std.proofs.Common.{◌≡◌, ◌+◌, ◌<◌, ℕ, List, length, refl, sym, ap, subst, ◌∙◌, arith, rules, Option, Some}
use Rattle.nf_thin_narrow.proofs.Common.{State, same_entries, forced_state, forced_at, forced_by, entrywise-length, entrywise-at}
use Rattle.nf_model.specs.Network.{Link}
use Rattle.nf_thin_narrow.proofs.Entries.{AreFilled, filled_more, length_set}
use Rattle.nf_thin_narrow.proofs.Reading.{number_read}
use Rattle.nf_thin_narrow.proofs.forcing.forced_by.Goals as goal

pub bounds-slopes-index : goal.bounds-slopes-index
bounds-slopes-index c =
    let good = c.link-link.ensures.named.network in
    let tail : c.index.result ≡ c.link-link.result.tail = c.index.ensures ∙ ap (λ (l : Link). l.tail) c.link.view_is in
    let within = good.tails c.loop-e.e c.link-link.result c.link-link.ensures.link in
    let count = c.requires.slopes in
    omega arith

pub bounds-slopes-index-in-loop-e : goal.bounds-slopes-index-in-loop-e
bounds-slopes-index-in-loop-e c =
    let good = c.link-link.ensures.named.network in
    let head : c.index-in-loop-e.result ≡ c.link-link.result.head = c.index-in-loop-e.ensures ∙ ap (λ (l : Link). l.head) c.link.view_is in
    let within = good.heads c.loop-e.e c.link-link.result c.link-link.ensures.link in
    let count = c.requires.slopes in
    omega arith

pub offset_bounds-slopes-index : goal.offset_bounds-slopes-index
offset_bounds-slopes-index c =
    let good = c.link-link.ensures.named.network in
    let tail : c.index.result ≡ c.link-link.result.tail = c.index.ensures ∙ ap (λ (l : Link). l.tail) c.link.view_is in
    let within = good.tails c.loop-e.e c.link-link.result c.link-link.ensures.link in
    let count = c.requires.slopes in
    let inside : c.index.result < length c.args.slopes.now = omega arith in search rules

pub offset_bounds-slopes-index-in-loop-e : goal.offset_bounds-slopes-index-in-loop-e
offset_bounds-slopes-index-in-loop-e c =
    let good = c.link-link.ensures.named.network in
    let head : c.index-in-loop-e.result ≡ c.link-link.result.head = c.index-in-loop-e.ensures ∙ ap (λ (l : Link). l.head) c.link.view_is in
    let within = good.heads c.loop-e.e c.link-link.result c.link-link.ensures.link in
    let count = c.requires.slopes in
    let inside : c.index-in-loop-e.result < length c.args.slopes.now = omega arith in search rules

pub loop-e-preserved : goal.loop-e-preserved
loop-e-preserved c =
    let good = c.link-link.ensures.named.network in
    let tail = number_read c.args.slopes.now c.index.result c.link-link.result.tail _ (c.index.ensures ∙ ap (λ (l : Link). l.tail) c.link.view_is)
    (subst (λ (n : ℕ). c.link-link.result.tail < n) (sym c.requires.slopes) (good.tails c.loop-e.e c.link-link.result c.link-link.ensures.link)) c.index-slopes-index.is in
    let head = number_read c.args.slopes.now c.index-in-loop-e.result c.link-link.result.head _ (c.index-in-loop-e.ensures ∙ ap (λ (l : Link). l.head) c.link.view_is)
    (subst (λ (n : ℕ). c.link-link.result.head < n) (sym c.requires.slopes) (good.heads c.loop-e.e c.link-link.result c.link-link.ensures.link)) c.index-slopes-index-in-loop-e.is in
    let at = entrywise-at (forced_at c.args.slopes.now) c.args.net.now.net.links c.args.base.now c.loop-e.e c.link-link.result c.state.result c.link-link.ensures.link c.state.ensures
    ∙ ap (λ (s : Option State). Some s) (sym (c.forced_state-state.ensures ∙ (λ i. forced_state c.state.result (tail i) (head i)))) in
    record {
      count = ap (λ (l : List (Option State)). length l) c.set.ensures ∙ (length_set c.loop-e.forced c.loop-e.e c.forced_state-state.result ∙ c.loop-e.invariant.count);
      so_far = subst (λ (l : List (Option State)). AreFilled (forced_by c.args.net.now.net c.args.slopes.now c.args.base.now) l (c.loop-e.e + 1)) (sym c.set.ensures)
          (filled_more (forced_by c.args.net.now.net c.args.slopes.now c.args.base.now) c.loop-e.forced c.loop-e.e c.loop-e.e c.forced_state-state.result refl
          (let n = c.loop-e.invariant.count in let m = c.link_count-e-end.ensures in omega arith) at c.loop-e.invariant.so_far);
    }

pub returns : goal.returns
returns c = same_entries (length c.args.net.now.net.links) c.loop-e.forced (forced_by c.args.net.now.net c.args.slopes.now c.args.base.now) c.loop-e.invariant.count
    (entrywise-length (forced_at c.args.slopes.now) c.args.net.now.net.links c.args.base.now (sym c.requires.base) ∙ c.requires.base)
    (λ e less. c.loop-e.invariant.so_far e (let m = c.link_count-e-end.ensures in omega arith))
