use Rattle.std.proofs.Common.{inl, sym, ◌∙◌, arith}
use Rattle.nf_complete_conditions.proofs.Common.{LeadsInto, IsLevelAt, Brings}
use Rattle.nf_complete_conditions.proofs.Deciding.{third_decides}
use Rattle.nf_complete_conditions.proofs.taken.takes.Goals as goal

pub leads_into-requires-clause-link : goal.leads_into-requires-clause-link
leads_into-requires-clause-link c = c.requires.link

pub leads_into-requires-clause-sets : goal.leads_into-requires-clause-sets
leads_into-requires-clause-sets c = c.requires.sets

pub returns-then-not-leads_into : goal.returns-then-not-leads_into
returns-then-not-leads_into c = λ t. c.if-not-leads_into.ensures t.0

pub brings-requires-clause-link : goal.brings-requires-clause-link
brings-requires-clause-link c = let l = c.requires.link in let s = c.requires.sets in omega arith

pub brings-requires-clause-flows : goal.brings-requires-clause-flows
brings-requires-clause-flows c = c.requires.flows ∙ sym c.requires.sets

pub returns-then-brings : goal.returns-then-brings
returns-then-brings c = (c.if-not-leads_into.ensures, inl c.if-brings.ensures)

pub is_level-requires-clause-link : goal.is_level-requires-clause-link
is_level-requires-clause-link c = c.requires.link

pub is_level-requires-clause-slopes : goal.is_level-requires-clause-slopes
is_level-requires-clause-slopes c = c.requires.slopes

pub returns : goal.returns
returns c =
    third_decides c.is_level.result (LeadsInto c.args.net.now.net c.args.sets.now c.args.node c.args.link)
    (Brings c.args.sets.now c.args.flows.now c.args.link) (IsLevelAt c.args.net.now.net c.args.slopes.now c.args.link)
    c.if-not-leads_into.ensures c.if-brings.ensures c.is_level.ensures
