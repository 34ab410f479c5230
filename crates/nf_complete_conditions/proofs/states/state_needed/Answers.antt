use Rattle.std.proofs.Common.{◌≡◌, Option, sym, ap, ◌∙◌, arith}
use Rattle.nf_complete_conditions.proofs.Common.{ℚ, 0ℚ, passes_Q, number_at, full_test}
use Rattle.nf_complete_conditions.proofs.Deciding.{Decides-same, not_same}
use Rattle.nf_complete_conditions.proofs.Filling.{fulls_count}
use Rattle.nf_complete_conditions.proofs.Stating.{read_full, empty_led, empty_zero, full_state, between_state}
use Rattle.nf_complete_conditions.proofs.states.state_needed.Goals as goal

pub bounds-fulls-index : goal.bounds-fulls-index
bounds-fulls-index c =
    let n = fulls_count passes_Q c.args.net.now.net c.args.sets.now c.args.slopes.now c.args.fulls.now c.requires.fulls in let i = c.index.ensures in
    let l = c.requires.link in omega arith

pub returns-then-leads_to_bare : goal.returns-then-leads_to_bare
returns-then-leads_to_bare c =
    let zero : number_at c.args.flows.now c.args.link ≡ 0ℚ = sym c.flow_of.ensures
    ∙ (Decides-same c.flow_of.result c.zero.result).0 (sym c.is_same.ensures ∙ c.if-is_same.true) ∙ c.zero.ensures in
    empty_led c.args.net.now.net c.args.sets.now c.args.flows.now c.args.slopes.now passes_Q c.args.fulls.now c.requires.fulls c.args.link c.requires.needs
    zero c.if-leads_to_bare.ensures

pub returns-else-leads_to_bare : goal.returns-else-leads_to_bare
returns-else-leads_to_bare c =
    let zero : number_at c.args.flows.now c.args.link ≡ 0ℚ = sym c.flow_of.ensures
    ∙ (Decides-same c.flow_of.result c.zero.result).0 (sym c.is_same.ensures ∙ c.if-is_same.true) ∙ c.zero.ensures in
    empty_zero c.args.net.now.net c.args.sets.now c.args.flows.now c.args.slopes.now passes_Q c.args.fulls.now c.requires.fulls c.args.link c.requires.needs
    zero c.if-leads_to_bare.ensures

pub returns-then-is_full : goal.returns-then-is_full
returns-then-is_full c =
    let filled = read_full c.args.fulls.now c.index.result c.args.link c.index-fulls-index.result c.index.ensures
    (let n = fulls_count passes_Q c.args.net.now.net c.args.sets.now c.args.slopes.now c.args.fulls.now c.requires.fulls in let l = c.requires.link in
    omega arith) c.index-fulls-index.is in
    full_state c.args.net.now.net c.args.sets.now c.args.flows.now c.args.slopes.now passes_Q c.args.fulls.now c.requires.fulls c.args.link c.requires.needs
    (λ h. not_same c.flow_of.result c.zero.result (sym c.is_same.ensures ∙ c.if-is_same.false) (c.flow_of.ensures ∙ h ∙ sym c.zero.ensures))
    (ap (λ (o : Option ℚ). full_test o (number_at c.args.flows.now c.args.link)) filled
    ∙ ap (full_test c.index-fulls-index.result) (sym c.flow_of-else-is_same.ensures) ∙ sym c.is_full.ensures ∙ c.if-is_full.true)

pub returns-else-is_full : goal.returns-else-is_full
returns-else-is_full c =
    let filled = read_full c.args.fulls.now c.index.result c.args.link c.index-fulls-index.result c.index.ensures
    (let n = fulls_count passes_Q c.args.net.now.net c.args.sets.now c.args.slopes.now c.args.fulls.now c.requires.fulls in let l = c.requires.link in
    omega arith) c.index-fulls-index.is in
    between_state c.args.net.now.net c.args.sets.now c.args.flows.now c.args.slopes.now passes_Q c.args.fulls.now c.requires.fulls c.args.link c.requires.needs
    (λ h. not_same c.flow_of.result c.zero.result (sym c.is_same.ensures ∙ c.if-is_same.false) (c.flow_of.ensures ∙ h ∙ sym c.zero.ensures))
    (ap (λ (o : Option ℚ). full_test o (number_at c.args.flows.now c.args.link)) filled
    ∙ ap (full_test c.index-fulls-index.result) (sym c.flow_of-else-is_same.ensures) ∙ sym c.is_full.ensures ∙ c.if-is_full.false)
