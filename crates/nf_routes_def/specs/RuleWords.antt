-- Printed names of the routes file's rules.
use Rattle.std.specs.Prelude.{ℕ, List, codes}
use Rattle.nf_routes_def.specs.declared.RoutesRule.{RoutesRule}
use Rattle.nf_routes_def.specs.declared.RoutesRule.TheVariants.{G1, G2, G3, G4, G5, G6, G7, G8, G9, G10, G11, G12, G13, G14, G15, G16, G17}

abbrev pub routes_rule_word : RoutesRule → List ℕ
routes_rule_word G1 = codes "G1"
routes_rule_word G2 = codes "G2"
routes_rule_word G3 = codes "G3"
routes_rule_word G4 = codes "G4"
routes_rule_word G5 = codes "G5"
routes_rule_word G6 = codes "G6"
routes_rule_word G7 = codes "G7"
routes_rule_word G8 = codes "G8"
routes_rule_word G9 = codes "G9"
routes_rule_word G10 = codes "G10"
routes_rule_word G11 = codes "G11"
routes_rule_word G12 = codes "G12"
routes_rule_word G13 = codes "G13"
routes_rule_word G14 = codes "G14"
routes_rule_word G15 = codes "G15"
routes_rule_word G16 = codes "G16"
routes_rule_word G17 = codes "G17"
