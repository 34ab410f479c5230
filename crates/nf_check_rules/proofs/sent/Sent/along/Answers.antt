use Rattle.std.proofs.Common.{◌≡◌, Option, subst, Ok, IfSome}
use Rattle.nf_check_rules.proofs.Common.{ℚ, passes_Q, Check, Checked, Gives, at_part, Grown, points_in, exits_of}
use Rattle.nf_check_rules.proofs.Keeping.{Three, sent_known}
use Rattle.nf_check_rules.proofs.sent.Sent.along.Goals as goal

pub returns-in-Some-clause-list : goal.returns-in-Some-clause-list
returns-in-Some-clause-list c =
    let known : exits_of c.args.link.now ≡ Ok c.in-Some.exits.points =
    subst (λ (o : Option Grown). IfSome o (λ exits. exits_of c.args.link.now ≡ Ok exits.points)) c.in-Some.is c.requires in
    subst (λ (r : Checked Three). Gives points_in (λ (q : ℚ). q) c.by_exits.result (at_part Check r))
    (sent_known passes_Q c.args.link.now.inflow.now.points c.args.link.now.exit.now.points c.in-Some.exits.points c.args.link.now.tail_label.now.points
    c.args.link.now.head_label.now.points c.args.link.now.last known) c.by_exits.ensures.list
