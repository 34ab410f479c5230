-- The printed answer of `quick`.
use Rattle.std.specs.Prelude.{ℕ, List, [], ◌∷◌, ◌++◌, if◌then◌else◌, flat_map, map, Some, codes}
use Rattle.std.specs.List.{enumerate_from}
use Rattle.nf_rational.specs.Rational.{ℚ}
use Rattle.nf_frac_words.specs.Printed.{printed}
use Rattle.nf_text_def.specs.Words.{line_of_words}
use Rattle.nf_model.specs.Quickest.{Fed}
use Rattle.nf_net_def.specs.Causes.{cause_words}
use Rattle.nf_net_def.specs.Names.{Name, name_at}
use Rattle.nf_net_def.specs.Named.{Named}
use Rattle.nf_quick_def.specs.Steps.{Step}
use Rattle.nf_quick_def.specs.Quick.{Augment, Quick}
use Rattle.nf_app_answers.specs.declared.arrival.Arrival.{Arrival}

-- ---- a quickest flow
-- `walk RATE LINK LINK ..`
abbrev pub walk_line : List Name → Fed → List ℕ
walk_line names fed = line_of_words (codes "walk" ∷ printed fed.rate ∷ map (name_at names) fed.walk)

-- `cut NODE TIME`
abbrev pub cut_line : List Name → ℕ × ℚ → List ℕ
cut_line names (v, time) = line_of_words (codes "cut" ∷ name_at names v ∷ printed time ∷ [])

-- the flow's time, its walks, its cut, and the cut's value
abbrev pub flow_text : Named → Quick → List ℕ
flow_text n quick =
    line_of_words (codes "quick" ∷ printed quick.time ∷ [])
    ++ flat_map (walk_line n.link_names) quick.walks
    ++ flat_map (cut_line n.node_names) (enumerate_from 0 quick.cut)
    ++ line_of_words (codes "value" ∷ printed quick.value ∷ [])

-- `equilibrium TIME`, `equilibrium none` or `equilibrium stopped CAUSE`
abbrev pub arrival_words : Arrival → List (List ℕ)
arrival_words Arrival.Never = codes "none" ∷ []
arrival_words (Arrival.At time) = printed time ∷ []
arrival_words (Arrival.Stopped cause) = codes "stopped" ∷ cause_words (Some cause)

abbrev pub arrival_text : Arrival → List ℕ
arrival_text arrival = line_of_words (codes "equilibrium" ∷ arrival_words arrival)

abbrev pub quick_text : Named → Quick → Arrival → List ℕ
quick_text n quick arrival = flow_text n quick ++ arrival_text arrival

-- ---- pushed walks
-- `+LINK`, or `-LINK` if the step goes backward
abbrev pub step_word : List Name → Step → List ℕ
step_word names step = (if step.forward then 43 else 45) ∷ name_at names step.link

-- `augment AMOUNT STEP STEP ..`
abbrev pub augment_line : List Name → Augment → List ℕ
augment_line names augment = line_of_words (codes "augment" ∷ printed augment.amount ∷ map (step_word names) augment.walk.steps)

abbrev pub augments_text : Named → List Augment → List ℕ
augments_text n walks = flat_map (augment_line n.link_names) walks
