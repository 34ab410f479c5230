-- Examples of flows files, by computation: two links a and b from s to t.
use Rattle.std.specs.Prelude.{◌≡◌, ℕ, List, [], ◌∷◌, ◌++◌, flat_map, map, Some, Result, Ok, Err, codes, pos, refl}
use Rattle.nf_rational.specs.Gcd.{gcd}
use Rattle.nf_rational.specs.Rational.{ratio}
use Rattle.nf_rational.specs.Operations.{whole}
use Rattle.nf_rational.specs.Order.{le_ℚ, lt_ℚ}
use Rattle.nf_frac_words.specs.Digits.{digits_of}
use Rattle.nf_frac_words.specs.Numbers.{parts_of as number_parts, number_of}
use Rattle.nf_frac_words.specs.Printed.{printed, printed_parts}
use Rattle.nf_model.specs.declared.State.TheVariants.{Tight, Zero}
use Rattle.nf_net_def.specs.Named.{Named}
use Rattle.nf_frac_def.proofs.Examples.{n, Parts, parts_of}
use Rattle.nf_thin_def.proofs.Examples.{i}
use Rattle.nf_complete_def.specs.declared.FlowsRule.{FlowsRule}
use Rattle.nf_complete_def.specs.declared.FlowsRule.TheVariants.{S1, S3, S4, S5, S6, S7, S8, S9, S10, S11}
use Rattle.nf_complete_def.specs.FlowsFile.{FlowsBroken, GivenFlows, flows_in}
use Rattle.nf_complete_def.specs.SettleText.{settled_text}
use Rattle.nf_complete_def.proofs.Examples.{two_links}

abbrev text_of : List (List ℕ) → List ℕ
text_of lines = flat_map (λ line. line ++ 10 ∷ []) lines

abbrev two_named : Named
two_named = record {
  version = 1;
  net = two_links;
  node_names = codes "s" ∷ codes "t" ∷ [];
  link_names = codes "a" ∷ codes "b" ∷ [];
  idle_nodes = [];
  idle_links = [];
}

-- the flows of the links and the slopes of the nodes, or the rule and its line
abbrev seen : Result GivenFlows FlowsBroken → Result (List Parts × List Parts) (FlowsRule × ℕ)
seen (Ok given) = Ok (map parts_of given.flows, map parts_of given.slopes)
seen (Err broken) = Err (broken.rule, broken.line)

abbrev read : List (List ℕ) → Result (List Parts × List Parts) (FlowsRule × ℕ)
read lines = seen (flows_in two_named (text_of lines))

halves : read (codes "flows 1" ∷ codes "flow a 1/2" ∷ codes "flow b 2/4" ∷ codes "slope s 1" ∷ codes "slope t 1" ∷ codes "end" ∷ []) ≡ Ok ((pos 1, 2) ∷ (pos 1, 2) ∷ [], i 1 ∷ i 1 ∷ [])
unfolding flows_in number_of number_parts whole ratio gcd le_ℚ lt_ℚ
halves = refl

-- a number that the file does not name is 0
one_named : read (codes "# b carries nothing" ∷ codes "flows 1" ∷ codes "flow a 1" ∷ codes "end" ∷ []) ≡ Ok (i 1 ∷ i 0 ∷ [], i 0 ∷ i 0 ∷ [])
unfolding flows_in number_of number_parts whole ratio gcd le_ℚ lt_ℚ
one_named = refl

-- For each rule a file that breaks it first, with the line.
abbrev Refused : Type 0
Refused = List (List ℕ) × FlowsRule × ℕ

abbrev refused : List Refused
refused =
    (codes "flows 1" ∷ codes "rate a 1" ∷ (127 ∷ []) ∷ [], S1, 3)
    ∷ (codes "# a comment" ∷ codes "flow a 1" ∷ codes "end" ∷ [], S3, 2)
    ∷ ([], S3, 1)
    ∷ (codes "flows 1" ∷ codes "end" ∷ codes "rate" ∷ [], S4, 3)
    ∷ (codes "flows 1" ∷ codes "rate a" ∷ codes "end" ∷ [], S5, 2)
    ∷ (codes "flows 1" ∷ codes "flow x" ∷ codes "end" ∷ [], S6, 2)
    ∷ (codes "flows 1" ∷ codes "flow s -1" ∷ codes "end" ∷ [], S7, 2)
    ∷ (codes "flows 1" ∷ codes "flow a 1.5" ∷ codes "end" ∷ [], S8, 2)
    ∷ (codes "flows 1" ∷ codes "slope t 0" ∷ codes "slope t -1" ∷ codes "end" ∷ [], S9, 3)
    ∷ (codes "flows 1" ∷ codes "flow a 0" ∷ codes "slope s 1" ∷ codes "flow a 0" ∷ codes "end" ∷ [], S10, 4)
    ∷ (codes "flows 1" ∷ codes "flow a 1" ∷ [], S11, 0)
    ∷ []

abbrev refusal : Refused → Result (List Parts × List Parts) (FlowsRule × ℕ)
refusal file = Err (file.1, file.2)

all_refused : map (λ (file : Refused). read file.0) refused ≡ map refusal refused
unfolding flows_in number_of number_parts whole ratio gcd le_ℚ lt_ℚ
all_refused = refl

-- ---- the printed answer if the flow of a has grown to 1 and b is empty
written : settled_text two_named (Some Tight ∷ Some Zero ∷ []) (n 1 ∷ n 0 ∷ []) ≡ text_of (codes "state a tight" ∷ codes "state b zero" ∷ codes "flow a 1" ∷ codes "flow b 0" ∷ codes "end" ∷ [])
unfolding printed printed_parts digits_of whole ratio gcd
written = refl
