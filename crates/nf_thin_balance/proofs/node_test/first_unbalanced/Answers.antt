use Rattle.std.proofs.Common.{List, length, sym, ap, subst, ◌∙◌}
use Rattle.nf_thin_balance.proofs.Common.{Range, AreSurpluses}
use Rattle.nf_thin_balance.proofs.node_test.first_unbalanced.Goals as goal

pub first_failing-requires : goal.first_failing-requires
first_failing-requires c = ap (λ (l : List Range). length l) c.deref.ensures.value ∙ c.in_ok-nodes.ensures.count

pub returns : goal.returns
returns c flow within conserves = c.first_failing.ensures flow
    (subst (λ (l : List Range). AreSurpluses c.args.net.now.net l flow) (sym c.deref.ensures.value) (c.in_ok-nodes.ensures.each flow within)) conserves
