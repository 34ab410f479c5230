use Rattle.std.proofs.Common.{◌≡◌, ℕ, true, false, Option, Vec, Global, unwrap_or, sym, ap, subst, ◌∙◌, is_some}
use Rattle.nf_quick.proofs.Common.{err_from_is_err_and, ℚ, 0ℚ, le_ℚ, passes_Q, lt_of_test, IsUnboundedWalk, IsLimited, IsSound, QuickStanding}
use Rattle.std.proofs.lemmas.Option.{MatchOption-at_some, MatchOption-at_none}
use Rattle.nf_quick.proofs.Answering.{nothing_answered, pushes_stop, has_time, finish_stops, finish_answered}
use Rattle.nf_quick.proofs.working.work_out.Goals as goal

pub returns-then-is_at_most : goal.returns-then-is_at_most
returns-then-is_at_most c =
    let none : le_ℚ c.args.amount 0ℚ ≡ true = sym (c.is_at_most.ensures ∙ ap (λ (z : ℚ). le_ℚ c.args.amount z) c.zero.ensures) ∙ c.if-is_at_most.true in
    nothing_answered passes_Q c.args.net.now.net c.args.amount c.args.augments c.in_ok-nothing.field-0 c.requires.amount none c.in_ok-nothing.ensures

pub returns-in-Some : goal.returns-in-Some
returns-in-Some c =
    let some : le_ℚ c.args.amount 0ℚ ≡ false = sym (c.is_at_most.ensures ∙ ap (λ (z : ℚ). le_ℚ c.args.amount z) c.zero.ensures) ∙ c.if-is_at_most.false in (
      lt_of_test c.args.amount 0ℚ some,
      MatchOption-at_some (IsLimited c.args.net.now.net)
          (λ (links : Vec ℕ Global). IsUnboundedWalk c.args.net.now.net links.items c.args.net.now.net.source c.args.net.now.net.sink) c.in-Some.links
          c.in-Some.is c.in_ok-links.ensures,
    )

pub returns-in_err-standing : goal.returns-in_err-standing
returns-in_err-standing c =
    let some : le_ℚ c.args.amount 0ℚ ≡ false = sym (c.is_at_most.ensures ∙ ap (λ (z : ℚ). le_ℚ c.args.amount z) c.zero.ensures) ∙ c.if-is_at_most.false in
    let limited = MatchOption-at_none (IsLimited c.args.net.now.net) (λ (links : Vec ℕ Global). IsUnboundedWalk c.args.net.now.net links.items
    c.args.net.now.net.source c.args.net.now.net.sink) c.in_default.is c.in_ok-links.ensures in
    let p = err_from_is_err_and c.from_residual-in_err-standing.result c.from_residual-in_err-standing.ensures.1 in
    rw (p.1, p.2) (pushes_stop passes_Q c.args.net.now.net c.args.amount c.args.augments some limited c.in_err-standing.field-0.0 c.in_err-standing.ensures.pushed)

pub returns-in_err-quick : goal.returns-in_err-quick
returns-in_err-quick c =
    let some : le_ℚ c.args.amount 0ℚ ≡ false = sym (c.is_at_most.ensures ∙ ap (λ (z : ℚ). le_ℚ c.args.amount z) c.zero.ensures) ∙ c.if-is_at_most.false in
    let limited = MatchOption-at_none (IsLimited c.args.net.now.net) (λ (links : Vec ℕ Global). IsUnboundedWalk c.args.net.now.net links.items
    c.args.net.now.net.source c.args.net.now.net.sink) c.in_default.is c.in_ok-links.ensures in
    let p = err_from_is_err_and c.from_residual-in_err-quick.result c.from_residual-in_err-quick.ensures.1 in
    rw (p.1, p.2) (finish_stops passes_Q c.args.net.now.net c.args.amount c.args.augments some limited c.in_ok-standing.standing
    c.in_ok-standing.ensures.pushed c.standing.inside.flow c.unwrap-time.result
    (ap (λ (s : QuickStanding). s.flows) c.standing.view_is)
    (sym (ap (λ (o : Option ℚ). unwrap_or o 0ℚ) c.unwrap-time.ensures) ∙ ap (λ (s : QuickStanding). unwrap_or s.time 0ℚ) c.standing.view_is)
    c.in_err-quick.field-0.0 (c.in_err-quick.ensures c.args.amount))

pub returns : goal.returns
returns c =
    let some : le_ℚ c.args.amount 0ℚ ≡ false = sym (c.is_at_most.ensures ∙ ap (λ (z : ℚ). le_ℚ c.args.amount z) c.zero.ensures) ∙ c.if-is_at_most.false in
    let limited = MatchOption-at_none (IsLimited c.args.net.now.net) (λ (links : Vec ℕ Global). IsUnboundedWalk c.args.net.now.net links.items
    c.args.net.now.net.source c.args.net.now.net.sink) c.in_default.is c.in_ok-links.ensures in
    finish_answered passes_Q c.args.net.now.net c.args.amount c.args.augments some limited c.in_ok-standing.standing c.in_ok-standing.ensures.pushed
    c.standing.inside.flow c.unwrap-time.result
    (ap (λ (s : QuickStanding). s.flows) c.standing.view_is)
    (sym (ap (λ (o : Option ℚ). unwrap_or o 0ℚ) c.unwrap-time.ensures) ∙ ap (λ (s : QuickStanding). unwrap_or s.time 0ℚ) c.standing.view_is)
    c.in_ok-quick.quick (c.in_ok-quick.ensures c.args.amount)

pub unwrap-time-requires : goal.unwrap-time-requires
unwrap-time-requires c =
    let some : le_ℚ c.args.amount 0ℚ ≡ false = sym (c.is_at_most.ensures ∙ ap (λ (z : ℚ). le_ℚ c.args.amount z) c.zero.ensures) ∙ c.if-is_at_most.false in
    let limited = MatchOption-at_none (IsLimited c.args.net.now.net) (λ (links : Vec ℕ Global). IsUnboundedWalk c.args.net.now.net links.items
    c.args.net.now.net.source c.args.net.now.net.sink) c.in_default.is c.in_ok-links.ensures in
    ap (λ (s : QuickStanding). is_some s.time) c.standing.view_is
    ∙ has_time passes_Q c.args.net.now.net c.args.amount c.args.augments some limited c.requires.network c.in_ok-standing.standing c.in_ok-standing.ensures.pushed

pub push_up_to-requires : goal.push_up_to-requires
push_up_to-requires c =
    MatchOption-at_none _ (λ links. IsUnboundedWalk c.args.net.now.net links.items c.args.net.now.net.source c.args.net.now.net.sink) c.in_default.is
    c.in_ok-links.ensures

pub finish-requires : goal.finish-requires
finish-requires c = subst (λ (s : QuickStanding). IsSound c.args.net.now.net s.flows) (sym c.standing.view_is) c.in_ok-standing.ensures.sound
