-- What a sink took of the lines of a report.
use Rattle.std.specs.Prelude.{ℕ, List, [], ◌∷◌, flat_map, map, Option, Some, None, Result, codes, ◌++◌, length}
use Rattle.nf_rational.specs.Rational.{ℚ}
use Rattle.nf_model.specs.Equilibrium.{Flow}
use Rattle.nf_frac_words.specs.Printed.{printed}
use Rattle.nf_edge.specs.Writing.{SinkState, Wrote}
use Rattle.nf_text_def.specs.Words.{line_of_words}
use Rattle.nf_net_def.specs.Names.{Name}
use Rattle.nf_net_def.specs.Named.{Named}
use Rattle.nf_net_def.specs.Report.{for_each, label_lines, link_lines}

-- the words of a line
abbrev pub Line : Type 0
Line = List (List ℕ)

-- the words after the first of their line, with a space before each
abbrev pub after_words : Line → List ℕ
after_words words = flat_map (λ word. 32 ∷ word) words

-- lines were written to a sink: all of them without a fault, or a proper prefix of their text with one fault
abbrev pub WroteLines : {E : Type 0} → SinkState → SinkState → List Line → Result (Unit {0}) E → Type 0
WroteLines before now lines result = Wrote before now (flat_map line_of_words lines) result

-- ---- a line of a curve
abbrev pub written_point : List ℕ → Name → ℚ × ℚ → Line
written_point key name p = key ∷ name ∷ printed p.0 ∷ printed p.1 ∷ []

-- the rate from a point on, or `-` if there is none
abbrev pub written_rate : Option ℚ → List ℕ
written_rate None = codes "-"
written_rate (Some rate) = printed rate

abbrev pub written_trace : List ℕ → Name → ℚ × ℚ → Option ℚ → Line
written_trace key name p rate = key ∷ name ∷ printed p.0 ∷ printed p.1 ∷ written_rate rate ∷ []

-- ---- the unreached nodes of a report, and its flow
abbrev pub never_lines : List Name → List Line
never_lines names = map (λ name. codes "never" ∷ name ∷ []) names

-- the labels of the nodes, the unreached nodes, and the curves of the links
abbrev pub flow_lines : Named → Flow → List Line
flow_lines n flow = for_each n.net.nodes (label_lines n flow) ++ never_lines n.idle_nodes
    ++ for_each (length n.net.links) (link_lines n flow)
