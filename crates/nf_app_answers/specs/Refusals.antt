-- Refusals of the code, as answers of the definitions.
use Rattle.std.specs.Prelude.{ℕ}
use Rattle.nf_edge.specs.declared.FetchFault.{FetchFault}
use Rattle.nf_edge.specs.declared.FetchFault.TheVariants.{Failed, TooLong, Memory}
use Rattle.nf_rational.specs.Rational.{ℚ}
use Rattle.nf_frac_def.specs.declared.Halt.{Halt}
use Rattle.nf_text.specs.declared.fault.FileFault.{FileFault}
use Rattle.nf_net_def.specs.declared.NetRule.{NetRule}
use Rattle.nf_report_def.specs.declared.LoadRule.{LoadRule}
use Rattle.nf_report_def.specs.declared.ReportRule.{ReportRule}
use Rattle.nf_complete_def.specs.declared.FlowsRule.{FlowsRule}
use Rattle.nf_routes_def.specs.declared.RoutesRule.{RoutesRule}
use Rattle.nf_app_answers.specs.declared.refusal.Refusal.{Refusal}
use Rattle.nf_app_answers.specs.Answers.{ProgramAnswer, NoMemory, NoRequest, ShelfFailed, ShelfTooLong, Malformed, MalformedLoads, MalformedFlows, MalformedRoutes, MalformedReport, Passes, Unbounded, NotThin, Earlier}

abbrev pub refused_answer : Refusal → ProgramAnswer
refused_answer Refusal.NoMemory = NoMemory
refused_answer Refusal.NoRequest = NoRequest
refused_answer Refusal.ShelfFailed = ShelfFailed
refused_answer Refusal.ShelfTooLong = ShelfTooLong
refused_answer (Refusal.Malformed rule line) = Malformed (record { rule = rule; line = line })
refused_answer (Refusal.MalformedLoads rule line) = MalformedLoads (record { rule = rule; line = line })
refused_answer (Refusal.MalformedFlows rule line) = MalformedFlows (record { rule = rule; line = line })
refused_answer (Refusal.MalformedRoutes rule line) = MalformedRoutes (record { rule = rule; line = line })
refused_answer (Refusal.MalformedReport rule line) = MalformedReport (record { rule = rule; line = line })
refused_answer (Refusal.Passes at) = Passes at
refused_answer Refusal.Unbounded = Unbounded
refused_answer Refusal.NotThin = NotThin
refused_answer Refusal.Earlier = Earlier

abbrev pub refusal_of_fetch : FetchFault → Refusal
refusal_of_fetch Failed = Refusal.ShelfFailed
refusal_of_fetch TooLong = Refusal.ShelfTooLong
refusal_of_fetch Memory = Refusal.NoMemory

-- the refusal of a file, from its fault
abbrev pub refusal_of_file : {Rule : Type 0} → (Rule → ℕ → Refusal) → FileFault Rule → Refusal
refusal_of_file malformed (FileFault.Broken rule line) = malformed rule line
refusal_of_file malformed FileFault.Memory = Refusal.NoMemory

abbrev pub refusal_of_net : FileFault NetRule → Refusal
refusal_of_net fault = refusal_of_file (λ rule line. Refusal.Malformed rule line) fault

abbrev pub refusal_of_loads : FileFault LoadRule → Refusal
refusal_of_loads fault = refusal_of_file (λ rule line. Refusal.MalformedLoads rule line) fault

abbrev pub refusal_of_flows : FileFault FlowsRule → Refusal
refusal_of_flows fault = refusal_of_file (λ rule line. Refusal.MalformedFlows rule line) fault

abbrev pub refusal_of_routes : FileFault RoutesRule → Refusal
refusal_of_routes fault = refusal_of_file (λ rule line. Refusal.MalformedRoutes rule line) fault

abbrev pub refusal_of_report : FileFault ReportRule → Refusal
refusal_of_report fault = refusal_of_file (λ rule line. Refusal.MalformedReport rule line) fault

abbrev pub refusal_of_halt : Halt ℚ → Refusal
refusal_of_halt (Halt.Passed at) = Refusal.Passes at
refusal_of_halt Halt.Memory = Refusal.NoMemory
