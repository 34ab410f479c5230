use Rattle.std.proofs.Common.{Bool, sym, ap, ◌∙◌, refl}
use Rattle.nf_check_rules.proofs.Common.{err_from_is_err_and, passes_Q, at_part, Check, sides_at, difference_of, after_err, after_ok, at_middle, at_end}
use Rattle.nf_check_rules.proofs.Stretching.{with_sides, on_any, stretch_rises, stretch_level}
use Rattle.nf_check_rules.proofs.stretches.on_stretch.Goals as goal

pub returns-in_err-sides-clause-list : goal.returns-in_err-sides-clause-list
returns-in_err-sides-clause-list c =
    let p = err_from_is_err_and c.from_residual.result c.from_residual.ensures.1 in
    rw (p.1, p.2) (sym (ap (at_part Check) (stretch_rises passes_Q c.args.sent.now.taken.points c.args.sent.now.exits.points c.args.sent.now.labels.points
    c.args.here.now.time c.args.there.now.time c.args.here.now.taken c.args.there.now.taken c.requires.here.taken c.requires.there.taken
    c.is_below.result c.is_below.ensures c.if-not-is_below.false)
    ∙ after_err Check (sides_at passes_Q c.args.sent.now.exits.points c.args.sent.now.labels.points c.args.here.now.time) _ c.in_err-sides.field-0.0 (sym c.in_err-sides.ensures.list)))

pub returns-then-do_differ-clause-list : goal.returns-then-do_differ-clause-list
returns-then-do_differ-clause-list c =
    sym (ap (at_part Check) (stretch_rises passes_Q c.args.sent.now.taken.points c.args.sent.now.exits.points c.args.sent.now.labels.points
    c.args.here.now.time c.args.there.now.time c.args.here.now.taken c.args.there.now.taken c.requires.here.taken c.requires.there.taken
    c.is_below.result c.is_below.ensures c.if-not-is_below.false)
    ∙ after_ok Check (sides_at passes_Q c.args.sent.now.exits.points c.args.sent.now.labels.points c.args.here.now.time) _
    (difference_of c.in_ok-sides.sides) (sym c.in_ok-sides.ensures.list)
    ∙ ap (λ (b : Bool). at_part Check (at_end passes_Q b (difference_of c.in_ok-sides.sides) c.args.sent.now.exits.points c.args.sent.now.labels.points
    c.args.here.now.time c.args.there.now.time)) (sym c.do_differ.ensures ∙ c.if-do_differ.true))

pub returns-in_err-end-clause-list : goal.returns-in_err-end-clause-list
returns-in_err-end-clause-list c =
    let p = err_from_is_err_and c.from_residual-in_err-end.result c.from_residual-in_err-end.ensures.1 in
    rw (p.1, p.2) (sym (ap (at_part Check) (stretch_rises passes_Q c.args.sent.now.taken.points c.args.sent.now.exits.points c.args.sent.now.labels.points
    c.args.here.now.time c.args.there.now.time c.args.here.now.taken c.args.there.now.taken c.requires.here.taken c.requires.there.taken
    c.is_below.result c.is_below.ensures c.if-not-is_below.false)
    ∙ after_ok Check (sides_at passes_Q c.args.sent.now.exits.points c.args.sent.now.labels.points c.args.here.now.time) _
    (difference_of c.in_ok-sides.sides) (sym c.in_ok-sides.ensures.list)
    ∙ ap (λ (b : Bool). at_part Check (at_end passes_Q b (difference_of c.in_ok-sides.sides) c.args.sent.now.exits.points c.args.sent.now.labels.points
    c.args.here.now.time c.args.there.now.time)) (sym c.do_differ.ensures ∙ c.if-do_differ.false)
    ∙ after_err Check (sides_at passes_Q c.args.sent.now.exits.points c.args.sent.now.labels.points c.args.there.now.time) _ c.in_err-end.field-0.0 (sym c.in_err-end.ensures.list)))

pub returns-then-do_differ-2-clause-list : goal.returns-then-do_differ-2-clause-list
returns-then-do_differ-2-clause-list c =
    c.at_middle.ensures ∙ sym (ap (at_part Check) (stretch_rises passes_Q c.args.sent.now.taken.points c.args.sent.now.exits.points
    c.args.sent.now.labels.points c.args.here.now.time c.args.there.now.time c.args.here.now.taken c.args.there.now.taken c.requires.here.taken
    c.requires.there.taken c.is_below.result c.is_below.ensures c.if-not-is_below.false)
    ∙ after_ok Check (sides_at passes_Q c.args.sent.now.exits.points c.args.sent.now.labels.points c.args.here.now.time) _
    (difference_of c.in_ok-sides.sides) (sym c.in_ok-sides.ensures.list)
    ∙ ap (λ (b : Bool). at_part Check (at_end passes_Q b (difference_of c.in_ok-sides.sides) c.args.sent.now.exits.points c.args.sent.now.labels.points
    c.args.here.now.time c.args.there.now.time)) (sym c.do_differ.ensures ∙ c.if-do_differ.false)
    ∙ after_ok Check (sides_at passes_Q c.args.sent.now.exits.points c.args.sent.now.labels.points c.args.there.now.time) _ (difference_of c.in_ok-end.end) (sym c.in_ok-end.ensures.list)
    ∙ ap (λ (b : Bool). at_part Check (at_middle passes_Q b c.args.sent.now.exits.points c.args.sent.now.labels.points c.args.here.now.time
    c.args.there.now.time)) (sym c.do_differ-2.ensures ∙ c.if-do_differ-2.true))

pub returns-else-do_differ-2-clause-list : goal.returns-else-do_differ-2-clause-list
returns-else-do_differ-2-clause-list c =
    sym (ap (at_part Check) (stretch_rises passes_Q c.args.sent.now.taken.points c.args.sent.now.exits.points c.args.sent.now.labels.points
    c.args.here.now.time c.args.there.now.time c.args.here.now.taken c.args.there.now.taken c.requires.here.taken c.requires.there.taken
    c.is_below.result c.is_below.ensures c.if-not-is_below.false)
    ∙ after_ok Check (sides_at passes_Q c.args.sent.now.exits.points c.args.sent.now.labels.points c.args.here.now.time) _
    (difference_of c.in_ok-sides.sides) (sym c.in_ok-sides.ensures.list)
    ∙ ap (λ (b : Bool). at_part Check (at_end passes_Q b (difference_of c.in_ok-sides.sides) c.args.sent.now.exits.points c.args.sent.now.labels.points
    c.args.here.now.time c.args.there.now.time)) (sym c.do_differ.ensures ∙ c.if-do_differ.false)
    ∙ after_ok Check (sides_at passes_Q c.args.sent.now.exits.points c.args.sent.now.labels.points c.args.there.now.time) _ (difference_of c.in_ok-end.end) (sym c.in_ok-end.ensures.list)
    ∙ ap (λ (b : Bool). at_part Check (at_middle passes_Q b c.args.sent.now.exits.points c.args.sent.now.labels.points c.args.here.now.time
    c.args.there.now.time)) (sym c.do_differ-2.ensures ∙ c.if-do_differ-2.false))

pub returns-then-do_differ-2-clause-there : goal.returns-then-do_differ-2-clause-there
returns-then-do_differ-2-clause-there c = on_any c.at_middle.result (with_sides c.args.sent.now c.args.there.now _ c.requires.there c.in_ok-end.end (sym c.in_ok-end.ensures.list) refl)

pub returns-then-do_differ-2-clause-time : goal.returns-then-do_differ-2-clause-time
returns-then-do_differ-2-clause-time c = on_any c.at_middle.result refl

pub returns-else-do_differ-2-clause-there : goal.returns-else-do_differ-2-clause-there
returns-else-do_differ-2-clause-there c = with_sides c.args.sent.now c.args.there.now _ c.requires.there c.in_ok-end.end (sym c.in_ok-end.ensures.list) refl

pub returns-then-not-is_below-clause-list : goal.returns-then-not-is_below-clause-list
returns-then-not-is_below-clause-list c =
    sym (ap (at_part Check) (stretch_level passes_Q c.args.sent.now.taken.points c.args.sent.now.exits.points c.args.sent.now.labels.points
    c.args.here.now.time c.args.there.now.time c.args.here.now.taken c.args.there.now.taken c.requires.here.taken c.requires.there.taken
    c.is_below.result c.is_below.ensures c.if-not-is_below.true))
