use Rattle.nf_load_def.specs.Loading as lists
use Rattle.std.proofs.Common.{◌==◌, Ok, ◌≡◌, ℕ, List, ◌<◌, not, sym, ap, subst, ◌∙◌}
use Rattle.nf_check_rules.proofs.Common.{Grown, checked_sum, Link, Point, Checked, Gives, at_part, Check, passes_Q, ℚ, loadings_of, loaded_at, loaded_of}
use Rattle.nf_check_rules.proofs.Attaining.{at_node, at_other}
use Rattle.nf_check_rules.proofs.Keeping.{same_some}
use Rattle.nf_check_rules.proofs.totals.with_outflow.Goals as goal

pub loaded_at-requires : goal.loaded_at-requires
loaded_at-requires c = subst (λ (n : ℕ). c.args.link < n) (sym c.requires.loaded) c.requires.link

pub returns-then-ne : goal.returns-then-ne
returns-then-ne c = λ here is.
    let one : c.link.result ≡ here = same_some c.link.result here (sym c.link.ensures.link ∙ is) in
    let test : c.ne.result ≡ not (here.head == c.args.node) = c.ne.ensures ∙ ap (λ (k : ℕ). not (k == c.args.node)) (ap (λ (l : Link). l.head) (c.link-2.view_is ∙ one)) in
    let sum : Checked (List Point) = checked_sum passes_Q c.args.so_far.points (loaded_at (loadings_of c.args.loaded.now) c.args.link).outflow in
    let stay : Checked (List Point) = Ok c.args.so_far.points in
    ap (at_part Check) (at_other here.head c.args.node c.ne.result test c.if-ne.true sum stay)

pub returns : goal.returns
returns c = λ here is.
    let one : c.link.result ≡ here = same_some c.link.result here (sym c.link.ensures.link ∙ is) in
    let test : c.ne.result ≡ not (here.head == c.args.node) = c.ne.ensures ∙ ap (λ (k : ℕ). not (k == c.args.node)) (ap (λ (l : Link). l.head) (c.link-2.view_is ∙ one)) in
    let sum : Checked (List Point) = checked_sum passes_Q c.args.so_far.points (loaded_at (loadings_of c.args.loaded.now) c.args.link).outflow in
    let stay : Checked (List Point) = Ok c.args.so_far.points in
    let told : (loaded_of c.loaded_at.result.now).outflow ≡ (loaded_at (loadings_of c.args.loaded.now) c.args.link).outflow = ap (λ (l : lists.Loaded). l.outflow) c.loaded_at.ensures in
    let summed : Gives (λ (g : Grown). g.points) (λ (q : ℚ). q) c.sum.result
    (at_part Check (checked_sum passes_Q c.args.so_far.points (loaded_at (loadings_of c.args.loaded.now) c.args.link).outflow)) =
    rw (sym told) c.sum.ensures.list in
    subst (λ (r : Checked (List Point)). Gives (λ (g : Grown). g.points) (λ (q : ℚ). q) c.sum.result (at_part Check r))
    (sym (at_node here.head c.args.node c.ne.result test c.if-ne.false sum stay)) summed
