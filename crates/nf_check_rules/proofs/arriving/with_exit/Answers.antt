use Rattle.std.proofs.Common.{sym, ap, ◌∙◌, ℕ, ◌<◌, subst, option_map}
use Rattle.nf_check_rules.proofs.Common.{err_from_is_err_and, passes_Q, Link, Grown, Exits, AreStored, labels_in, loaded_in}
use Rattle.nf_check_rules.proofs.Attaining.{exit_left_out, exit_goes, exit_stops}
use Rattle.nf_check_rules.proofs.Keeping.{keep_kept, same_some}
use Rattle.nf_check_rules.proofs.arriving.with_exit.Goals as goal

pub returns-then-ne-clause-list : goal.returns-then-ne-clause-list
returns-then-ne-clause-list c = λ here is.
    exit_left_out passes_Q (labels_in c.args.worked.now) (loaded_in c.args.worked.now) c.args.worked.now.flow.now.reached c.args.node
    (option_map (λ (g : Grown). g.points) c.args.so_far) c.args.link
    c.link.result here (same_some c.link.result here (sym c.link.ensures.link ∙ is)) c.link-2.inside.head
    (ap (λ (l : Link). l.head) c.link-2.view_is) c.ne.result c.ne.ensures c.if-ne.true

pub returns-in_err-exit-clause-list : goal.returns-in_err-exit-clause-list
returns-in_err-exit-clause-list c = λ here is.
    let p = err_from_is_err_and c.from_residual.result c.from_residual.ensures.1 in
    rw (p.1, p.2) (exit_stops passes_Q (labels_in c.args.worked.now) (loaded_in c.args.worked.now) c.args.worked.now.flow.now.reached c.args.node
    (option_map (λ (g : Grown). g.points) c.args.so_far) c.args.link
    c.link.result here (same_some c.link.result here (sym c.link.ensures.link ∙ is)) c.link-2.inside.head
    (ap (λ (l : Link). l.head) c.link-2.view_is) c.ne.result c.ne.ensures c.if-ne.false
    c.in_err-exit.field-0.0 (c.in_err-exit.ensures c.link.result c.link.ensures.link))

pub returns-in_err-keep-clause-list : goal.returns-in_err-keep-clause-list
returns-in_err-keep-clause-list c = λ here is.
    let p = err_from_is_err_and c.from_residual-in_err-keep.result c.from_residual-in_err-keep.ensures.1 in rw (p.1, p.2) tt

pub returns-in_err-least-clause-list : goal.returns-in_err-least-clause-list
returns-in_err-least-clause-list c = λ here is.
    let p = err_from_is_err_and c.from_residual-in_err-least.result c.from_residual-in_err-least.ensures.1 in
    let goes = exit_goes passes_Q (labels_in c.args.worked.now) (loaded_in c.args.worked.now) c.args.worked.now.flow.now.reached c.args.node
    (option_map (λ (g : Grown). g.points) c.args.so_far) c.args.link
    c.link.result here (same_some c.link.result here (sym c.link.ensures.link ∙ is)) c.link-2.inside.head
    (ap (λ (l : Link). l.head) c.link-2.view_is) c.ne.result c.ne.ensures c.if-ne.false
    c.in_ok-exit.exit.points (c.in_ok-exit.ensures c.link.result c.link.ensures.link) in
    rw (p.1, p.2, goes) c.in_err-least.ensures

pub returns-clause-list : goal.returns-clause-list
returns-clause-list c = λ here is.
    exit_goes passes_Q (labels_in c.args.worked.now) (loaded_in c.args.worked.now) c.args.worked.now.flow.now.reached c.args.node
    (option_map (λ (g : Grown). g.points) c.args.so_far) c.args.link
    c.link.result here (same_some c.link.result here (sym c.link.ensures.link ∙ is)) c.link-2.inside.head
    (ap (λ (l : Link). l.head) c.link-2.view_is) c.ne.result c.ne.ensures c.if-ne.false
    c.in_ok-exit.exit.points (c.in_ok-exit.ensures c.link.result c.link.ensures.link)
    ∙ c.in_ok-least.ensures

pub returns-clause-kept : goal.returns-clause-kept
returns-clause-kept c = keep_kept c.args.worked.now c.args.exits.now c.keep.new.self c.requires.kept c.args.link c.link.result c.link.ensures.link
    c.in_ok-exit.exit.points (c.in_ok-exit.ensures c.link.result c.link.ensures.link) c.in_ok-keep.ensures.keeps

pub exit_along-requires : goal.exit_along-requires
exit_along-requires c = c.requires.link

pub keep-requires : goal.keep-requires
keep-requires c = subst (λ (n : ℕ). c.args.link < n) (sym c.requires.kept.count) c.requires.link

pub returns-in_err-keep-clause-kept : goal.returns-in_err-keep-clause-kept
returns-in_err-keep-clause-kept c = subst (λ (e : Exits). AreStored c.args.worked.now e) (sym c.in_err-keep.ensures.as_it_was) c.requires.kept

pub returns-in_err-least-clause-kept : goal.returns-in_err-least-clause-kept
returns-in_err-least-clause-kept c = keep_kept c.args.worked.now c.args.exits.now c.keep.new.self c.requires.kept c.args.link c.link.result c.link.ensures.link
    c.in_ok-exit.exit.points (c.in_ok-exit.ensures c.link.result c.link.ensures.link) c.in_ok-keep.ensures.keeps
