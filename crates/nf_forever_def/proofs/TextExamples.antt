-- Examples of the text of a run without a horizon.
use Rattle.std.specs.Prelude.{◌≡◌, ℕ, List, [], ◌∷◌, ◌++◌, flat_map, Some, None, codes, refl}
use Rattle.nf_rational.specs.Gcd.{gcd}
use Rattle.nf_rational.specs.Rational.{ratio}
use Rattle.nf_rational.specs.Operations.{whole}
use Rattle.nf_frac_words.specs.Digits.{digits_of}
use Rattle.nf_frac_words.specs.Printed.{printed, printed_parts}
use Rattle.nf_model.specs.declared.State.TheVariants.{Full}
use Rattle.nf_net_def.specs.declared.Cause.TheVariants.{Phases}
use Rattle.nf_net_def.specs.Named.{Named}
use Rattle.nf_forever_def.specs.ForeverText.{forever_text}
use Rattle.nf_thin_def.proofs.Runs.{two_links}
use Rattle.nf_forever_def.proofs.Examples.{flow_to_1, tail_from_1}

abbrev text_of : List (List ℕ) → List ℕ
text_of lines = flat_map (λ line. line ++ 10 ∷ []) lines

abbrev named : Named
named = record {
  version = 1;
  net = two_links;
  node_names = codes "s" ∷ codes "t" ∷ [];
  link_names = codes "a" ∷ codes "b" ∷ [];
  idle_nodes = [];
  idle_links = [];
}

abbrev curves : List (List ℕ)
curves = codes "label s 0 0" ∷ codes "label s 1 1" ∷ codes "label t 0 1" ∷ codes "label t 1 4"
    ∷ codes "inflow a 0 0 3" ∷ codes "inflow a 1 3 -" ∷ codes "outflow a 0 0 0" ∷ codes "outflow a 1 0 1" ∷ codes "outflow a 4 3 -" ∷ codes "queue a 0 0" ∷ codes "queue a 1 2"
    ∷ codes "inflow b 0 0 0" ∷ codes "inflow b 1 0 -" ∷ codes "outflow b 0 0 0" ∷ codes "outflow b 4 0 -" ∷ codes "queue b 0 0" ∷ codes "queue b 1 0" ∷ []

-- The run has a tail.
goes_on : forever_text named (record { flow = flow_to_1; phases = 1; last = None ∷ Some Full ∷ []; stop = None; tail = Some tail_from_1 })
    ≡ text_of (codes "forever 1" ∷ codes "reached 1" ∷ codes "cause done" ∷ curves ++ codes "state b full" ∷ codes "slope s 1" ∷ codes "slope t 3/2" ∷ codes "flow a 3/2" ∷ codes "flow b 3/2" ∷ codes "end" ∷ [])
unfolding printed printed_parts digits_of whole ratio gcd
goes_on = refl

-- Only one phase was allowed.
stops : forever_text named (record { flow = flow_to_1; phases = 1; last = Some Full ∷ None ∷ []; stop = Some (Phases 1); tail = None })
    ≡ text_of (codes "forever 1" ∷ codes "reached 1" ∷ codes "cause phases 1" ∷ curves ++ codes "state a full" ∷ codes "end" ∷ [])
unfolding printed printed_parts digits_of whole ratio gcd
stops = refl
