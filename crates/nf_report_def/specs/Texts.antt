-- The texts that `load` and `check` write.
use Rattle.std.specs.Prelude.{ℕ, List, [], ◌∷◌, ◌++◌, flat_map, codes}
use Rattle.std.specs.List.{enumerate_from}
use Rattle.nf_rational.specs.Rational.{ℚ}
use Rattle.nf_text_def.specs.Words.{line_of_words}
use Rattle.nf_frac_words.specs.Printed.{printed}
use Rattle.nf_net_def.specs.Names.{Name, name_at}
use Rattle.nf_net_def.specs.Named.{Named}
use Rattle.nf_net_def.specs.Report.{point_lines}
use Rattle.nf_load_def.specs.Loading.{Loaded}
use Rattle.nf_check_def.specs.declared.CheckRule.{CheckRule}
use Rattle.nf_check_def.specs.declared.CheckRule.TheVariants.{C1, C2, C3, C4, C5, C6, C7, C8}
use Rattle.nf_check_def.specs.declared.Subject.{Subject}
use Rattle.nf_check_def.specs.declared.Subject.TheVariants.{Node, Link as OfLink}
use Rattle.nf_check_def.specs.declared.Answer.{Answer}
use Rattle.nf_check_def.specs.declared.Answer.TheVariants.{Yes, No}

-- ---- `load`
abbrev pub loaded_lines : List Name → ℕ × Loaded → List (List (List ℕ))
loaded_lines names (e, loaded) =
    point_lines (codes "queue") (name_at names e) loaded.queue
    ++ point_lines (codes "outflow") (name_at names e) loaded.outflow
    ++ point_lines (codes "exit") (name_at names e) loaded.exit

abbrev pub load_text : Named → ℚ → List Loaded → List ℕ
load_text n horizon loaded = flat_map line_of_words (
    (codes "loaded" ∷ codes "1" ∷ []) ∷ (codes "horizon" ∷ printed horizon ∷ [])
    ∷ flat_map (loaded_lines n.link_names) (enumerate_from 0 loaded) ++ (codes "end" ∷ []) ∷ [])

-- ---- `check`
abbrev pub check_rule_word : CheckRule → List ℕ
check_rule_word C1 = codes "C1"
check_rule_word C2 = codes "C2"
check_rule_word C3 = codes "C3"
check_rule_word C4 = codes "C4"
check_rule_word C5 = codes "C5"
check_rule_word C6 = codes "C6"
check_rule_word C7 = codes "C7"
check_rule_word C8 = codes "C8"

abbrev pub subject_word : Named → Subject ℕ ℕ → Name
subject_word n (Node v) = name_at n.node_names v
subject_word n (OfLink e) = name_at n.link_names e

abbrev pub answer_text : Named → Answer ℕ ℕ ℚ → List ℕ
answer_text n Yes = line_of_words (codes "yes" ∷ [])
answer_text n (No rule subject time left right) =
    line_of_words (codes "no" ∷ check_rule_word rule ∷ subject_word n subject ∷ printed time ∷ printed left ∷ printed right ∷ [])
