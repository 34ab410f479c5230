use Rattle.std.proofs.Common.{ℕ, List, length, Some, slice_get, ◌≡◌, ap, subst, ◌∙◌, length-set}
use Rattle.nf_quick_walks.proofs.SpentLinks.{spent_up_to, spent_more}
use Rattle.nf_quick_walks.proofs.walks.next_out.Goals as goal

pub first_out-found-requires-clause-spent : goal.first_out-found-requires-clause-spent
first_out-found-requires-clause-spent c = c.requires.spent c.args.node c.spent_at-known.result
    (subst (λ (l : List ℕ). slice_get l c.args.node ≡ Some c.spent_at-known.result) c.deref.ensures.value c.spent_at-known.ensures)

pub returns-clause-spent : goal.returns-clause-spent
returns-clause-spent c = spent_more c.args.net.now.net.links c.args.flows.now c.args.spent.now.items c.put_spent.new.spent.items c.args.node c.spent_before-count.result c.requires.spent
    (spent_up_to c.args.net.now.net.links c.args.node c.args.flows.now c.first_out-found.result c.spent_before-count.result c.first_out-found.ensures.first
    c.spent_before-count.ensures) c.put_spent.ensures

pub returns-clause-count : goal.returns-clause-count
returns-clause-count c = ap length c.put_spent.ensures ∙ length-set c.args.spent.now.items c.args.node c.spent_before-count.result
