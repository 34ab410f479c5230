-- Printed names of the flows file's rules.
use Rattle.std.specs.Prelude.{ℕ, List, codes}
use Rattle.nf_complete_def.specs.declared.FlowsRule.{FlowsRule}
use Rattle.nf_complete_def.specs.declared.FlowsRule.TheVariants.{S1, S2, S3, S4, S5, S6, S7, S8, S9, S10, S11}

abbrev pub flows_rule_word : FlowsRule → List ℕ
flows_rule_word S1 = codes "S1"
flows_rule_word S2 = codes "S2"
flows_rule_word S3 = codes "S3"
flows_rule_word S4 = codes "S4"
flows_rule_word S5 = codes "S5"
flows_rule_word S6 = codes "S6"
flows_rule_word S7 = codes "S7"
flows_rule_word S8 = codes "S8"
flows_rule_word S9 = codes "S9"
flows_rule_word S10 = codes "S10"
flows_rule_word S11 = codes "S11"
