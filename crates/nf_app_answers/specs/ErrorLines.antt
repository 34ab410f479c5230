-- The texts on standard error.
use Rattle.std.specs.Prelude.{ℕ, List, [], ◌∷◌, ◌++◌, flat_map, Some, None, codes}
use Rattle.nf_rational.specs.Rational.{ℚ}
use Rattle.nf_frac_def.specs.declared.PassedAt.{PassedAt}
use Rattle.nf_frac_words.specs.Digits.{digits_of}
use Rattle.nf_net_def.specs.declared.Cause.{Cause}
use Rattle.nf_net_def.specs.declared.NetRule.{NetRule}
use Rattle.nf_net_def.specs.declared.NetRule.TheVariants.{N1, N2, N3, N4, N5, N6, N7, N8, N9, N10, N11, N12, N13, N14, N15, N16, N17, N18, N19, N20, N21, N22}
use Rattle.nf_text_def.specs.Words.{line_of_words}
use Rattle.nf_net_def.specs.Causes.{cause_words, passed_words}
use Rattle.nf_net_def.specs.NetLines.{Broken}
use Rattle.nf_report_def.specs.LoadsFile.{LoadsBroken}
use Rattle.nf_report_def.specs.ReportFile.{ReportBroken}
use Rattle.nf_report_def.specs.RuleWords.{load_rule_word, report_rule_word}
use Rattle.nf_complete_def.specs.FlowsFile.{FlowsBroken}
use Rattle.nf_complete_def.specs.RuleWords.{flows_rule_word}
use Rattle.nf_routes_def.specs.RoutesFile.{RoutesBroken}
use Rattle.nf_routes_def.specs.RuleWords.{routes_rule_word}

-- a line that starts with the program's name
abbrev pub said : List (List ℕ) → List ℕ
said words = line_of_words (codes "nfot:" ∷ words)

abbrev pub memory_line : List ℕ
memory_line = said (codes "memory" ∷ [])

abbrev pub usage_text : List ℕ
usage_text = flat_map (λ text. text ++ 10 ∷ []) (
    codes "nfot: usage"
    ∷ codes "nfot solve NET --horizon Q [--phases N] [--patterns N]"
    ∷ codes "nfot show NET"
    ∷ codes "nfot load NET LOADS --horizon Q"
    ∷ codes "nfot check NET REPORT"
    ∷ codes "nfot quick NET --amount Q [--augments N]"
    ∷ codes "nfot gen --number N --rungs N --horizon Q [--phases N] [--patterns N]"
    ∷ codes "nfot settle NET FLOWS"
    ∷ codes "nfot solve NET --forever [--phases N] [--patterns N]"
    ∷ codes "nfot resume NET REPORT --horizon Q [--phases N] [--patterns N]"
    ∷ codes "nfot routes NET ROUTES --horizon Q"
    ∷ [])

abbrev pub shelf_failed_line : List ℕ
shelf_failed_line = said (codes "shelf" ∷ codes "failed" ∷ [])

abbrev pub shelf_too_long_line : List ℕ
shelf_too_long_line = said (codes "shelf" ∷ codes "too" ∷ codes "long" ∷ [])

abbrev pub rule_word : NetRule → List ℕ
rule_word N1 = codes "N1"
rule_word N2 = codes "N2"
rule_word N3 = codes "N3"
rule_word N4 = codes "N4"
rule_word N5 = codes "N5"
rule_word N6 = codes "N6"
rule_word N7 = codes "N7"
rule_word N8 = codes "N8"
rule_word N9 = codes "N9"
rule_word N10 = codes "N10"
rule_word N11 = codes "N11"
rule_word N12 = codes "N12"
rule_word N13 = codes "N13"
rule_word N14 = codes "N14"
rule_word N15 = codes "N15"
rule_word N16 = codes "N16"
rule_word N17 = codes "N17"
rule_word N18 = codes "N18"
rule_word N19 = codes "N19"
rule_word N20 = codes "N20"
rule_word N21 = codes "N21"
rule_word N22 = codes "N22"

-- `nfot: FILE line L: RULE`, where FILE is the kind of file
abbrev pub broken_line : List ℕ → ℕ → List ℕ → List ℕ
broken_line file number rule = said (file ∷ codes "line" ∷ (digits_of number ++ codes ":") ∷ rule ∷ [])

abbrev pub network_line : Broken → List ℕ
network_line broken = broken_line (codes "network") broken.line (rule_word broken.rule)

abbrev pub loads_line : LoadsBroken → List ℕ
loads_line broken = broken_line (codes "loads") broken.line (load_rule_word broken.rule)

abbrev pub flows_line : FlowsBroken → List ℕ
flows_line broken = broken_line (codes "flows") broken.line (flows_rule_word broken.rule)

abbrev pub routes_line : RoutesBroken → List ℕ
routes_line broken = broken_line (codes "routes") broken.line (routes_rule_word broken.rule)

abbrev pub report_fault_line : ReportBroken → List ℕ
report_fault_line broken = broken_line (codes "report") broken.line (report_rule_word broken.rule)

-- the line of a run that stopped
abbrev pub stopped_line : Cause ℚ → List ℕ
stopped_line cause = said (codes "stopped:" ∷ cause_words (Some cause))

-- the line of an operation that passes in a command without phases: it has no phase and no rank
abbrev pub passed_line : PassedAt ℚ → List ℕ
passed_line at = said (codes "stopped:" ∷ passed_words None None at)

abbrev pub output_line : List ℕ
output_line = said (codes "output" ∷ [])

abbrev pub no_equilibrium_line : List ℕ
no_equilibrium_line = said (codes "no" ∷ codes "equilibrium" ∷ [])

-- the line of a quickest flow that exceeds its budget of walks
abbrev pub augments_line : ℕ → List ℕ
augments_line budget = said (codes "augments" ∷ digits_of budget ∷ [])

abbrev pub unbounded_line : List ℕ
unbounded_line = said (codes "unbounded" ∷ [])

abbrev pub no_thin_flow_line : List ℕ
no_thin_flow_line = said (codes "no" ∷ codes "thin" ∷ codes "flow" ∷ [])

abbrev pub earlier_line : List ℕ
earlier_line = said (codes "earlier" ∷ [])
