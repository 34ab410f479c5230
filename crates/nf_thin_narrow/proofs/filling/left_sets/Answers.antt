use Rattle.std.proofs.Common.{◌≡◌, ℕ, ◌≤◌, List, Bool, length, take, sym, ap, subst, ◌∙◌, arith, Some, IfOk}
use Rattle.nf_thin_narrow.proofs.Common.{take_all, Sets, take_pushed, entrywise, still_active, now_resetting, sets_left, entrywise-length, entrywise-at}
use Rattle.nf_thin_narrow.proofs.Common.{left_active, sets_count, flags_count}
use Rattle.nf_graph.specs.Sets.{AreLinkSets}
use Rattle.nf_thin_narrow.proofs.filling.left_sets.Goals as goal

-- The flags of all links.
whole : {A B C : Type 0} (f : A → B → C) (xs : List A) (ys : List B) (flags seen : List C) (n e : ℕ) → seen ≡ flags → flags ≡ take e (entrywise f xs ys)
    → length xs ≡ length ys → length ys ≡ n → n ≤ e
    → seen ≡ entrywise f xs ys
whole f xs ys flags seen n e same so_far count links end = same ∙ (so_far ∙ take_all e (entrywise f xs ys) (let all = entrywise-length f xs ys count in omega arith))

pub state-forced_here-requires : goal.state-forced_here-requires
state-forced_here-requires c = let n = c.requires.forcing.1.count in let m = c.requires.links in omega arith

pub loop-e-preserved : goal.loop-e-preserved
loop-e-preserved c = record {
  active = take_pushed (entrywise still_active c.args.forced.now c.args.sets.now.active) c.loop-e.active.items c.push.new.self.items c.loop-e.e c.still_active-stays.result
      (entrywise-at still_active c.args.forced.now c.args.sets.now.active c.loop-e.e c.state-forced_here.result c.active.result c.state-forced_here.ensures c.active.ensures.flag
      ∙ ap (λ (b : Bool). Some b) (sym c.still_active-stays.ensures))
      c.loop-e.invariant.active c.in_ok-push.ensures.items;
  resetting =
      take_pushed (entrywise now_resetting c.args.forced.now c.args.sets.now.resetting) c.loop-e.resetting.items c.push-in-loop-e.new.self.items c.loop-e.e
      c.now_resetting-resets.result
      (entrywise-at now_resetting c.args.forced.now c.args.sets.now.resetting c.loop-e.e c.state-forced_here.result c.resetting.result
      c.state-forced_here.ensures c.resetting.ensures.flag
      ∙ ap (λ (b : Bool). Some b) (sym c.now_resetting-resets.ensures))
      c.loop-e.invariant.resetting c.in_ok-push-2.ensures.items;
}

pub new-requires : goal.new-requires
new-requires c =
    let count = c.requires.forcing.1.count in
    let flags = c.requires.forcing.1.flags in
    let a = whole still_active c.args.forced.now c.args.sets.now.active c.loop-e.active.items c.deref.result.now c.args.links c.loop-e.e
    c.deref.ensures.value c.loop-e.invariant.active count c.requires.links c.loop-e-test.false in
    let r = whole now_resetting c.args.forced.now c.args.sets.now.resetting c.loop-e.resetting.items c.deref-2.result.now c.args.links c.loop-e.e
    c.deref-2.ensures.value c.loop-e.invariant.resetting (count ∙ sym flags) (flags ∙ c.requires.links) c.loop-e-test.false in
    subst (λ (flags : List Bool). AreLinkSets (record { active = flags; resetting = c.deref-2.result.now })) (sym a)
    (subst (λ (flags : List Bool). AreLinkSets (record { active = (sets_left c.args.forced.now c.args.sets.now).active; resetting = flags })) (sym r)
    (record {
      count = sets_count c.args.sets.now c.requires.forcing.0 c.args.forced.now c.requires.forcing.1
          ∙ sym (flags_count c.args.sets.now c.requires.forcing.0 c.args.forced.now c.requires.forcing.1);
      active = left_active c.args.sets.now c.requires.forcing.0 c.args.forced.now c.requires.forcing.1 c.requires.sets.active;
    }))

pub returns : goal.returns
returns c =
    let count = c.requires.forcing.1.count in
    let flags = c.requires.forcing.1.flags in
    let a = whole still_active c.args.forced.now c.args.sets.now.active c.loop-e.active.items c.deref.result.now c.args.links c.loop-e.e
    c.deref.ensures.value c.loop-e.invariant.active count c.requires.links c.loop-e-test.false in
    let r = whole now_resetting c.args.forced.now c.args.sets.now.resetting c.loop-e.resetting.items c.deref-2.result.now c.args.links c.loop-e.e
    c.deref-2.ensures.value c.loop-e.invariant.resetting (count ∙ sym flags) (flags ∙ c.requires.links) c.loop-e-test.false in
    subst (λ (flags : List Bool). IfOk c.new.result (λ (left : Sets). left ≡ record { active = (sets_left c.args.forced.now c.args.sets.now).active; resetting = flags })) r
    (subst (λ (flags : List Bool). IfOk c.new.result (λ (left : Sets). left ≡ record { active = flags; resetting = c.deref-2.result.now })) a c.new.ensures)
