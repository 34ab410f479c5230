use Rattle.std.proofs.Common.{◌∙◌}
use Rattle.nf_pattern.proofs.Each.{take_front}
use Rattle.nf_thin_one.proofs.trying.flows_of.Goals as goal

pub spread_flows-requires-clause-active : goal.spread_flows-requires-clause-active
spread_flows-requires-clause-active c = c.requires.active

pub spread_flows-requires-clause-values : goal.spread_flows-requires-clause-values
spread_flows-requires-clause-values c = c.requires.values

pub returns : goal.returns
returns c =
    take_front c.spread_flows.new.flows _ c.in_ok-flows.flows.len (let a = c.spread_flows.auto.flows in let b = c.deref_mut.ensures.value in let d = c.in_ok-flows.flows.ok in cc)
    ∙ c.spread_flows.ensures
