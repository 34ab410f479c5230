use Rattle.nf_thin_balance.proofs.scaled.scaled_flows.Goals as goal

pub returns : goal.returns
returns c = record { supply = c.scaled_range-supply.ensures; count = c.in_ok-full.ensures.count; full = c.in_ok-full.ensures.full }
