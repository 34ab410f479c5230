use Rattle.std.proofs.Common.{◌≡◌, ◌+◌, ◌++◌, List, [], ◌∷◌, false, refl, sym, ap, ◌∙◌, arith, None}
use Rattle.nf_load.proofs.Common.{slice_get_read, ℚ, Point, is_same, Exit, outflow_from, apart_of, IsRate}
use Rattle.nf_load.specs.declared.waits.Exit.TheInside.{Inside}
use Rattle.nf_load.proofs.Alongs.{linked_along}
use Rattle.nf_load.proofs.ExitsInTurn.{same_exit, later_exit}
use Rattle.nf_load.proofs.Outflows.{begins, stays, leaves}
use Rattle.nf_load.proofs.curves.outflow_points.Goals as goal
use Rattle.nf_load.proofs.curves.outflow_points.Goals.{then-is_same, else-is_same+in_ok-push-2+in_ok-push-3}

pub loop-index-init : goal.loop-index-init
loop-index-init c =
    let one : c.push.new.self.items ≡ (c.zero-last.result, c.zero.result) ∷ [] =
    c.in_ok-push.ensures.items ∙ ap (λ (l : List Point). l ++ (c.zero-last.result, c.zero.result) ∷ []) c.in_ok-points.ensures.items in
    record {
      points =
          ap (λ (l : List Point). l ++ outflow_from c.zero-last.result c.args.all.now) one
          ∙ (λ j. (c.zero-last.ensures j, c.zero.ensures j) ∷ outflow_from (c.zero-last.ensures j) c.args.all.now);
      so_far = begins c.args.all.now _ c.in_ok-slopes.slopes.items c.zero-last.result c.zero.result None one c.in_ok-slopes.ensures.items refl;
    }

pub loop-index-preserved : goal.loop-index-preserved
loop-index-preserved c =
    let front : List Point = c.loop-index.points.items in
    let last : ℚ = c.loop-index.last in
    let one : Exit = c.index-all-index.result in
    let there = slice_get_read c.args.all.now _ c.loop-index.index one refl c.loop-index-test.true c.index-all-index.is in
    elim c.if-is_same.branch [
      | then-is_same w ↦ record {
        points = same_exit c.args.all.now c.loop-index.index one front _ last c.loop-index-test.true c.index-all-index.is c.loop-index.invariant.points _ _
            (ap (λ v. v.items) w.points-is) w.last-is
            (sym (ap (λ (i : Inside). is_same last i.exit) c.one-inside.view_is ∙ ap (λ (l : Exit). is_same last l.exit) c.one.view_is) ∙ sym c.is_same.ensures ∙ w.if-is_same.true);
        so_far = stays c.args.all.now front _ c.loop-index.slopes.items _ last _ c.loop-index.known _ c.loop-index.index (c.loop-index.index + 1) c.loop-index.invariant.so_far
            (ap (λ v. v.items) w.points-is) (ap (λ v. v.items) w.slopes-is) w.last-is w.known-is;
      }
      | else-is_same+in_ok-push-2+in_ok-push-3 w ↦
          let new = ap (λ v. v.items) w.points-is ∙ w.in_ok-push-2.ensures.items
          ∙ ap (λ (i : Inside). front ++ (i.exit, i.waits.amount) ∷ []) c.one-inside.view_is ∙ ap (λ (l : Exit). front ++ (l.exit, l.waits.amount) ∷ []) c.one.view_is in
          let next = w.last-is ∙ ap (λ (i : Inside). i.exit) c.one-inside.view_is ∙ ap (λ (l : Exit). l.exit) c.one.view_is in
          let apart : is_same last one.exit ≡ false =
          sym (ap (λ (i : Inside). is_same last i.exit) c.one-inside.view_is ∙ ap (λ (l : Exit). is_same last l.exit) c.one.view_is) ∙ sym c.is_same.ensures ∙ w.if-is_same.false in
          record {
            points = later_exit c.args.all.now c.loop-index.index one front _ last c.loop-index-test.true c.index-all-index.is c.loop-index.invariant.points _ _ new next apart;
            so_far = leaves c.args.all.now c.args.leaving.now front _ c.loop-index.slopes.items _ last c.loop-index.known c.loop-index.index (c.loop-index.index + 1) one _ _
                c.requires c.loop-index.invariant.so_far there (apart_of last one.exit apart) (omega arith) new (ap (λ v. v.items) w.slopes-is ∙ w.in_ok-push-3.ensures.items) next
                (w.known-is ∙ w.outflow_slope-known.ensures);
          }
    ]

pub returns-clause-slopes : goal.returns-clause-slopes
returns-clause-slopes c =
    linked_along IsRate c.loop-index.points.items c.loop-index.slopes.items
    (c.loop-index.last, c.loop-index.invariant.so_far.amount) c.loop-index.invariant.so_far.linked
