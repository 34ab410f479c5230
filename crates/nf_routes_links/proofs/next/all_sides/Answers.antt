use Rattle.std.proofs.Common.{◌≡◌, List, ◌∷◌, map, sym, ap, ◌∙◌}
use Rattle.nf_routes_links.proofs.Common.{map_push, err_from_is_err_and, ℚ, passes_Q, Load, each, with_front, both_times, sides_at, sides_of, front_none}
use Rattle.nf_routes_links.proofs.Common.{each_goes, each_stops, each_ends, Sides}
use Rattle.nf_curve.specs.Places.{times_after}
use Rattle.nf_curve.proofs.Walking.{fewer_left}
use Rattle.nf_routes_links.proofs.next.all_sides.Goals as goal

pub first_moment-requires-clause-left : goal.first_moment-requires-clause-left
first_moment-requires-clause-left c = c.requires.left

pub first_moment-requires-clause-right : goal.first_moment-requires-clause-right
first_moment-requires-clause-right c = c.requires.right

pub loop-now-init : goal.loop-now-init
loop-now-init c = record {
  there = c.first_moment.ensures.there;
  so_far =
      ap (λ (l : List Sides). with_front (map sides_of l) (each (sides_at passes_Q c.args.left.now c.args.right.now)
      (c.first_moment.result.time ∷ times_after c.first_moment.result.time c.args.left.now c.args.right.now))) c.in_ok-all.ensures.items
      ∙ front_none (each (sides_at passes_Q c.args.left.now c.args.right.now) (c.first_moment.result.time ∷ times_after c.first_moment.result.time c.args.left.now c.args.right.now))
      ∙ ap (λ (l : List ℚ). each (sides_at passes_Q c.args.left.now c.args.right.now) l) (sym c.first_moment.ensures.times);
}

pub sides_near-requires-clause-left : goal.sides_near-requires-clause-left
sides_near-requires-clause-left c = c.requires.left

pub sides_near-requires-clause-right : goal.sides_near-requires-clause-right
sides_near-requires-clause-right c = c.requires.right

pub sides_near-requires-clause-there : goal.sides_near-requires-clause-there
sides_near-requires-clause-there c = rw c.in-Some.is at c.loop-now.invariant.there

pub next_moment-now-requires-clause-left : goal.next_moment-now-requires-clause-left
next_moment-now-requires-clause-left c = c.requires.left

pub next_moment-now-requires-clause-right : goal.next_moment-now-requires-clause-right
next_moment-now-requires-clause-right c = c.requires.right

pub next_moment-now-requires-clause-there : goal.next_moment-now-requires-clause-there
next_moment-now-requires-clause-there c = rw c.in-Some.is at c.loop-now.invariant.there

pub sides_near-requires-clause-known : goal.sides_near-requires-clause-known
sides_near-requires-clause-known c = c.requires.known

pub returns-in_err-all : goal.returns-in_err-all
returns-in_err-all c =
    let p = err_from_is_err_and c.from_residual.result c.from_residual.ensures.1 in
    rw (p.1, p.2) tt

pub returns-in_err-push : goal.returns-in_err-push
returns-in_err-push c =
    let p = err_from_is_err_and c.from_residual-in_err-push.result c.from_residual-in_err-push.ensures.1 in
    rw (p.1, p.2) tt

pub returns-in_err-sides : goal.returns-in_err-sides
returns-in_err-sides c =
    let p = err_from_is_err_and c.from_residual-in_err-sides.result c.from_residual-in_err-sides.ensures.1 in
    rw (p.1, p.2) (each_stops Load (sides_at passes_Q c.args.left.now c.args.right.now) (map sides_of c.loop-now.all.items) _ c.in-Some.moment.time _
    (rw c.in-Some.is at c.loop-now.invariant.so_far) c.in_err-sides.field-0.0 (sym c.in_err-sides.ensures))

pub loop-now-preserved : goal.loop-now-preserved
loop-now-preserved c =
    let w : with_front (map sides_of c.push.new.self.items) (each (sides_at passes_Q c.args.left.now c.args.right.now)
    (times_after c.in-Some.moment.time c.args.left.now c.args.right.now))
    ≡ each (sides_at passes_Q c.args.left.now c.args.right.now) (both_times c.args.left.now c.args.right.now) =
    ap (λ l. with_front l (each (sides_at passes_Q c.args.left.now c.args.right.now) (times_after c.in-Some.moment.time c.args.left.now c.args.right.now)))
    (ap (map sides_of) c.in_ok-push.ensures.items ∙ map_push sides_of c.loop-now.all.items c.in_ok-sides.sides)
    ∙ each_goes Load (sides_at passes_Q c.args.left.now c.args.right.now) (map sides_of c.loop-now.all.items) _ c.in-Some.moment.time _
    (rw c.in-Some.is at c.loop-now.invariant.so_far) (sides_of c.in_ok-sides.sides) (sym c.in_ok-sides.ensures) in
    record { there = c.next_moment-now.ensures.there; so_far = rw c.next_moment-now.ensures.times at w }

pub loop-now-smaller : goal.loop-now-smaller
loop-now-smaller c = fewer_left c.args.left.now c.args.right.now c.loop-now.now c.in-Some.moment c.next_moment-now.result c.in-Some.is c.next_moment-now.ensures.times

pub returns : goal.returns
returns c = each_ends (sides_at passes_Q c.args.left.now c.args.right.now) (map sides_of c.loop-now.all.items) _ Load (rw c.in_default.is at c.loop-now.invariant.so_far)
