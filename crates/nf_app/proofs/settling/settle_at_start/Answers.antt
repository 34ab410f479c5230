use Rattle.std.proofs.Common.{◌∙◌, sym, ap, length}
use Rattle.nf_app.proofs.Common.{err_from_is_err_and, Halt, given_of}
use Rattle.std.proofs.lemmas.Bool.{MatchBool-at_true, MatchBool-at_false}
use Rattle.nf_app.proofs.SettleCalls.{start_stopped, rate_there, Called, sets_good, sets_source, sets_rate, tested, thin_there, thin_again, not_thin}
use Rattle.nf_app.proofs.SettleCalls.{test_stopped, settling_stopped, settled_there}
use Rattle.nf_app.proofs.settling.settle_at_start.Goals as goal

pub returns-in_err-sets : goal.returns-in_err-sets
returns-in_err-sets c =
    let p = err_from_is_err_and c.from_residual.result c.from_residual.ensures.1 in
    rw (p.1, p.2) (start_stopped c.args.net.now.net (given_of c.args.flows.now) c.in_err-sets.field-0.0 c.in_err-sets.ensures)

pub is_thin-requires-clause-sets : goal.is_thin-requires-clause-sets
is_thin-requires-clause-sets c =
    let sets = c.in_ok-sets.ensures in
    let called : Called c.args.net.now.net (given_of c.args.flows.now) sets.0 sets.1 c.in_ok-sets.sets c.rate_at-rate.result c.deref.result.now c.deref-2.result.now = record {
      sets_same = sets.2.1;
      rate_same = rate_there c.args.net.now.net c.zero.result c.rate_at-rate.result c.zero.ensures c.rate_at-rate.ensures;
      flows_same = sym c.deref.ensures.value;
      slopes_same = sym c.deref-2.ensures.value;
    } in
    sets_good c.args.net.now.net (given_of c.args.flows.now) sets.0 sets.1 c.in_ok-sets.sets c.rate_at-rate.result c.deref.result.now c.deref-2.result.now called c.recall.ensures.network

pub is_thin-requires-clause-source : goal.is_thin-requires-clause-source
is_thin-requires-clause-source c =
    let sets = c.in_ok-sets.ensures in
    let called : Called c.args.net.now.net (given_of c.args.flows.now) sets.0 sets.1 c.in_ok-sets.sets c.rate_at-rate.result c.deref.result.now c.deref-2.result.now = record {
      sets_same = sets.2.1;
      rate_same = rate_there c.args.net.now.net c.zero.result c.rate_at-rate.result c.zero.ensures c.rate_at-rate.ensures;
      flows_same = sym c.deref.ensures.value;
      slopes_same = sym c.deref-2.ensures.value;
    } in
    sets_source c.args.net.now.net (given_of c.args.flows.now) sets.0 sets.1 c.in_ok-sets.sets c.rate_at-rate.result c.deref.result.now c.deref-2.result.now
    called c.recall.ensures.network

pub is_thin-requires-clause-flows : goal.is_thin-requires-clause-flows
is_thin-requires-clause-flows c = ap length c.deref.ensures.value ∙ c.requires.flows

pub is_thin-requires-clause-slopes : goal.is_thin-requires-clause-slopes
is_thin-requires-clause-slopes c = ap length c.deref-2.ensures.value ∙ c.requires.slopes

pub returns-in_err-is_thin : goal.returns-in_err-is_thin
returns-in_err-is_thin c =
    let sets = c.in_ok-sets.ensures in
    let called : Called c.args.net.now.net (given_of c.args.flows.now) sets.0 sets.1 c.in_ok-sets.sets c.rate_at-rate.result c.deref.result.now c.deref-2.result.now = record {
      sets_same = sets.2.1;
      rate_same = rate_there c.args.net.now.net c.zero.result c.rate_at-rate.result c.zero.ensures c.rate_at-rate.ensures;
      flows_same = sym c.deref.ensures.value;
      slopes_same = sym c.deref-2.ensures.value;
    } in
    let p = err_from_is_err_and c.from_residual-in_err-is_thin.result c.from_residual-in_err-is_thin.ensures.1 in
    rw (p.1, p.2) (test_stopped c.args.net.now.net (given_of c.args.flows.now) sets.0 sets.1 c.in_ok-sets.sets c.rate_at-rate.result c.deref.result.now
    c.deref-2.result.now called sets.2.0 (Halt.Passed c.in_err-is_thin.field-0.0) c.in_err-is_thin.ensures.list)

pub returns-then-not-branch : goal.returns-then-not-branch
returns-then-not-branch c =
    let sets = c.in_ok-sets.ensures in
    let called : Called c.args.net.now.net (given_of c.args.flows.now) sets.0 sets.1 c.in_ok-sets.sets c.rate_at-rate.result c.deref.result.now c.deref-2.result.now = record {
      sets_same = sets.2.1;
      rate_same = rate_there c.args.net.now.net c.zero.result c.rate_at-rate.result c.zero.ensures c.rate_at-rate.ensures;
      flows_same = sym c.deref.ensures.value;
      slopes_same = sym c.deref-2.ensures.value;
    } in
    not_thin c.args.net.now.net (given_of c.args.flows.now) sets.0 sets.1 c.in_ok-sets.sets c.rate_at-rate.result c.deref.result.now c.deref-2.result.now
    called sets.2.0 c.in_ok-is_thin.ensures.list (MatchBool-at_false _ _ c.if-not-branch.true c.in_ok-is_thin.ensures.thin)

pub settle-requires-clause-sets : goal.settle-requires-clause-sets
settle-requires-clause-sets c =
    let sets = c.in_ok-sets.ensures in
    let again : Called c.args.net.now.net (given_of c.args.flows.now) sets.0 sets.1 c.in_ok-sets.sets c.rate_at-rate.result c.deref-3.result.now c.deref-4.result.now = record {
      sets_same = sets.2.1;
      rate_same = rate_there c.args.net.now.net c.zero.result c.rate_at-rate.result c.zero.ensures c.rate_at-rate.ensures;
      flows_same = sym c.deref-3.ensures.value;
      slopes_same = sym c.deref-4.ensures.value;
    } in
    sets_good c.args.net.now.net (given_of c.args.flows.now) sets.0 sets.1 c.in_ok-sets.sets c.rate_at-rate.result c.deref-3.result.now c.deref-4.result.now
    again c.recall.ensures.network

pub settle-requires-clause-rate : goal.settle-requires-clause-rate
settle-requires-clause-rate c =
    let sets = c.in_ok-sets.ensures in
    let again : Called c.args.net.now.net (given_of c.args.flows.now) sets.0 sets.1 c.in_ok-sets.sets c.rate_at-rate.result c.deref-3.result.now c.deref-4.result.now = record {
      sets_same = sets.2.1;
      rate_same = rate_there c.args.net.now.net c.zero.result c.rate_at-rate.result c.zero.ensures c.rate_at-rate.ensures;
      flows_same = sym c.deref-3.ensures.value;
      slopes_same = sym c.deref-4.ensures.value;
    } in
    sets_rate c.args.net.now.net (given_of c.args.flows.now) sets.0 sets.1 c.in_ok-sets.sets c.rate_at-rate.result c.deref-3.result.now c.deref-4.result.now
    again c.recall.ensures.network

pub settle-requires-clause-thin : goal.settle-requires-clause-thin
settle-requires-clause-thin c =
    let sets = c.in_ok-sets.ensures in
    let called : Called c.args.net.now.net (given_of c.args.flows.now) sets.0 sets.1 c.in_ok-sets.sets c.rate_at-rate.result c.deref.result.now c.deref-2.result.now = record {
      sets_same = sets.2.1;
      rate_same = rate_there c.args.net.now.net c.zero.result c.rate_at-rate.result c.zero.ensures c.rate_at-rate.ensures;
      flows_same = sym c.deref.ensures.value;
      slopes_same = sym c.deref-2.ensures.value;
    } in
    let again : Called c.args.net.now.net (given_of c.args.flows.now) sets.0 sets.1 c.in_ok-sets.sets c.rate_at-rate.result c.deref-3.result.now c.deref-4.result.now = record {
      sets_same = sets.2.1;
      rate_same = rate_there c.args.net.now.net c.zero.result c.rate_at-rate.result c.zero.ensures c.rate_at-rate.ensures;
      flows_same = sym c.deref-3.ensures.value;
      slopes_same = sym c.deref-4.ensures.value;
    } in
    let thin = thin_there c.args.net.now.net (given_of c.args.flows.now) sets.0 sets.1 c.in_ok-sets.sets c.rate_at-rate.result c.deref.result.now
    c.deref-2.result.now called (MatchBool-at_true _ _ c.if-not-branch.false c.in_ok-is_thin.ensures.thin) in
    thin_again c.args.net.now.net (given_of c.args.flows.now) sets.0 sets.1 c.in_ok-sets.sets c.rate_at-rate.result c.deref-3.result.now c.deref-4.result.now again thin

pub returns-in_err-settled : goal.returns-in_err-settled
returns-in_err-settled c =
    let sets = c.in_ok-sets.ensures in
    let called : Called c.args.net.now.net (given_of c.args.flows.now) sets.0 sets.1 c.in_ok-sets.sets c.rate_at-rate.result c.deref.result.now c.deref-2.result.now = record {
      sets_same = sets.2.1;
      rate_same = rate_there c.args.net.now.net c.zero.result c.rate_at-rate.result c.zero.ensures c.rate_at-rate.ensures;
      flows_same = sym c.deref.ensures.value;
      slopes_same = sym c.deref-2.ensures.value;
    } in
    let again : Called c.args.net.now.net (given_of c.args.flows.now) sets.0 sets.1 c.in_ok-sets.sets c.rate_at-rate.result c.deref-3.result.now c.deref-4.result.now = record {
      sets_same = sets.2.1;
      rate_same = rate_there c.args.net.now.net c.zero.result c.rate_at-rate.result c.zero.ensures c.rate_at-rate.ensures;
      flows_same = sym c.deref-3.ensures.value;
      slopes_same = sym c.deref-4.ensures.value;
    } in
    let test = tested c.args.net.now.net (given_of c.args.flows.now) sets.0 sets.1 c.in_ok-sets.sets c.rate_at-rate.result c.deref.result.now
    c.deref-2.result.now called c.in_ok-is_thin.ensures.list in
    let thin = thin_there c.args.net.now.net (given_of c.args.flows.now) sets.0 sets.1 c.in_ok-sets.sets c.rate_at-rate.result c.deref.result.now
    c.deref-2.result.now called (MatchBool-at_true _ _ c.if-not-branch.false c.in_ok-is_thin.ensures.thin) in
    let p = err_from_is_err_and c.from_residual-in_err-settled.result c.from_residual-in_err-settled.ensures.1 in
    rw (p.1, p.2) (settling_stopped c.args.net.now.net (given_of c.args.flows.now) sets.0 sets.1 c.in_ok-sets.sets c.rate_at-rate.result
    c.deref-3.result.now c.deref-4.result.now again sets.2.0 test thin c.in_err-settled.field-0.0 c.in_err-settled.ensures.list)

pub returns : goal.returns
returns c =
    let sets = c.in_ok-sets.ensures in
    let called : Called c.args.net.now.net (given_of c.args.flows.now) sets.0 sets.1 c.in_ok-sets.sets c.rate_at-rate.result c.deref.result.now c.deref-2.result.now = record {
      sets_same = sets.2.1;
      rate_same = rate_there c.args.net.now.net c.zero.result c.rate_at-rate.result c.zero.ensures c.rate_at-rate.ensures;
      flows_same = sym c.deref.ensures.value;
      slopes_same = sym c.deref-2.ensures.value;
    } in
    let again : Called c.args.net.now.net (given_of c.args.flows.now) sets.0 sets.1 c.in_ok-sets.sets c.rate_at-rate.result c.deref-3.result.now c.deref-4.result.now = record {
      sets_same = sets.2.1;
      rate_same = rate_there c.args.net.now.net c.zero.result c.rate_at-rate.result c.zero.ensures c.rate_at-rate.ensures;
      flows_same = sym c.deref-3.ensures.value;
      slopes_same = sym c.deref-4.ensures.value;
    } in
    let test = tested c.args.net.now.net (given_of c.args.flows.now) sets.0 sets.1 c.in_ok-sets.sets c.rate_at-rate.result c.deref.result.now
    c.deref-2.result.now called c.in_ok-is_thin.ensures.list in
    let thin = thin_there c.args.net.now.net (given_of c.args.flows.now) sets.0 sets.1 c.in_ok-sets.sets c.rate_at-rate.result c.deref.result.now
    c.deref-2.result.now called (MatchBool-at_true _ _ c.if-not-branch.false c.in_ok-is_thin.ensures.thin) in
    let e = c.in_ok-settled.ensures in
    settled_there c.args.net.now.net (given_of c.args.flows.now) sets.0 sets.1 c.in_ok-sets.sets c.rate_at-rate.result c.deref-3.result.now
    c.deref-4.result.now again sets.2.0 test thin c.in_ok-settled.settled e.list e.pattern e.thin e.listed e.solution
