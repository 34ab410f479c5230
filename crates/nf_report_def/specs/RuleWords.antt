-- Printed names of rules.
use Rattle.std.specs.Prelude.{ℕ, List, codes}
use Rattle.nf_report_def.specs.declared.LoadRule.{LoadRule}
use Rattle.nf_report_def.specs.declared.LoadRule.TheVariants.{L1, L2, L3, L4, L5, L6, L7, L8, L9, L10, L11, L12}
use Rattle.nf_report_def.specs.declared.ReportRule.{ReportRule}
use Rattle.nf_report_def.specs.declared.ReportRule.TheVariants.{P1, P2, P3, P4, P5, P6, P7, P8, P9, P10, P11, P12, P13, P14}

abbrev pub load_rule_word : LoadRule → List ℕ
load_rule_word L1 = codes "L1"
load_rule_word L2 = codes "L2"
load_rule_word L3 = codes "L3"
load_rule_word L4 = codes "L4"
load_rule_word L5 = codes "L5"
load_rule_word L6 = codes "L6"
load_rule_word L7 = codes "L7"
load_rule_word L8 = codes "L8"
load_rule_word L9 = codes "L9"
load_rule_word L10 = codes "L10"
load_rule_word L11 = codes "L11"
load_rule_word L12 = codes "L12"

abbrev pub report_rule_word : ReportRule → List ℕ
report_rule_word P1 = codes "P1"
report_rule_word P2 = codes "P2"
report_rule_word P3 = codes "P3"
report_rule_word P4 = codes "P4"
report_rule_word P5 = codes "P5"
report_rule_word P6 = codes "P6"
report_rule_word P7 = codes "P7"
report_rule_word P8 = codes "P8"
report_rule_word P9 = codes "P9"
report_rule_word P10 = codes "P10"
report_rule_word P11 = codes "P11"
report_rule_word P12 = codes "P12"
report_rule_word P13 = codes "P13"
report_rule_word P14 = codes "P14"
