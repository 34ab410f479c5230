-- Readings by computation.
use Rattle.std.specs.Prelude.{◌≡◌, ℕ, List, [], ◌∷◌, ◌++◌, flat_map, length, map, Some, None, Result, Ok, Err, codes, refl}
use Rattle.nf_rational.specs.Gcd.{gcd}
use Rattle.nf_rational.specs.Rational.{ratio}
use Rattle.nf_rational.specs.Operations.{whole}
use Rattle.nf_rational.specs.Order.{le_ℚ, lt_ℚ}
use Rattle.nf_frac_words.specs.Digits.{digits_of, count_of}
use Rattle.nf_frac_words.specs.Numbers.{parts_of, number_of}
use Rattle.nf_frac_words.specs.Printed.{printed, printed_parts}
use Rattle.nf_model.specs.Network.{Piece}
use Rattle.nf_net_def.specs.Named.{Named}
use Rattle.nf_net_def.specs.Report.{Report}
use Rattle.nf_frac_def.proofs.Examples.{n}
use Rattle.nf_thin_def.proofs.Examples.{link}
use Rattle.nf_report_def.specs.declared.LoadRule.{LoadRule}
use Rattle.nf_report_def.specs.declared.LoadRule.TheVariants.{L7, L10}
use Rattle.nf_report_def.specs.declared.ReportRule.{ReportRule}
use Rattle.nf_report_def.specs.declared.ReportRule.TheVariants.{P4, P5, P7, P8, P9, P10, P12, P13, P14}
use Rattle.nf_report_def.specs.LoadsFile.{LoadsBroken, loads_in}
use Rattle.nf_report_def.specs.ReportFile.{ReportBroken, report_in}

abbrev text_of : List (List ℕ) → List ℕ
text_of lines = flat_map (λ line. line ++ 10 ∷ []) lines

-- one link a from s to t
abbrev one_link : Named
one_link = record {
  version = 1;
  net = record { nodes = 2; source = 0; sink = 1; links = link 0 1 (n 1) (Some (n 1)) ∷ []; pieces = record { start = n 0; rate = n 2 } ∷ record { start = n 2; rate = n 0 } ∷ [] };
  node_names = codes "s" ∷ codes "t" ∷ [];
  link_names = codes "a" ∷ [];
  idle_nodes = [];
  idle_links = [];
}

-- ---- loads files: how many pieces the link gets, or the rule and its line
abbrev loads_seen : Result (List (List Piece)) LoadsBroken → Result (List ℕ) (LoadRule × ℕ)
loads_seen (Ok pieces) = Ok (map (λ p. length p) pieces)
loads_seen (Err broken) = Err (broken.rule, broken.line)

two_rates : loads_seen (loads_in one_link (text_of (codes "loads 1" ∷ codes "rate a 0 2" ∷ codes "# nothing more" ∷ codes "rate a 2 0" ∷ codes "end" ∷ []))) ≡ Ok (2 ∷ [])
unfolding loads_in number_of parts_of whole ratio gcd le_ℚ lt_ℚ
two_rates = refl

no_link : loads_seen (loads_in one_link (text_of (codes "loads 1" ∷ codes "rate x 0 1" ∷ codes "end" ∷ []))) ≡ Err (L7, 2)
unfolding loads_in number_of parts_of whole ratio gcd le_ℚ lt_ℚ
no_link = refl

not_later : loads_seen (loads_in one_link (text_of (codes "loads 1" ∷ codes "rate a 1 1" ∷ codes "rate a 2/2 1" ∷ []))) ≡ Err (L10, 3)
unfolding loads_in number_of parts_of whole ratio gcd le_ℚ lt_ℚ
not_later = refl

-- ---- reports: how many points each curve has, or the rule and its line
abbrev report_seen : Result Report ReportBroken → Result (List (List ℕ)) (ReportRule × ℕ)
report_seen (Ok report) = Ok (
    map (λ c. length c) report.flow.labels ∷ map (λ t. length t.points) report.flow.inflows ∷ map (λ t. length t.points) report.flow.outflows
    ∷ map (λ c. length c) report.flow.queues ∷ [])
report_seen (Err broken) = Err (broken.rule, broken.line)

abbrev head : List (List ℕ)
head = codes "report 1" ∷ codes "horizon 2" ∷ codes "reached 2" ∷ codes "cause done" ∷ []

abbrev labels : List (List ℕ)
labels = codes "label s 0 0" ∷ codes "label s 2 2" ∷ codes "label t 0 1" ∷ codes "label t 2 5" ∷ []

abbrev traces : List (List ℕ)
traces = codes "inflow a 0 0 2" ∷ codes "inflow a 2 4 -" ∷ codes "outflow a 0 0 0" ∷ codes "outflow a 1 0 1" ∷ codes "outflow a 5 4 -" ∷ []

abbrev rest : List (List ℕ)
rest = codes "queue a 0 0" ∷ codes "queue a 2 2" ∷ codes "state a full" ∷ codes "end" ∷ []

whole_report : report_seen (report_in one_link (text_of (head ++ labels ++ traces ++ rest))) ≡ Ok ((2 ∷ 2 ∷ []) ∷ (2 ∷ []) ∷ (3 ∷ []) ∷ (2 ∷ []) ∷ [])
unfolding report_in digits_of count_of number_of parts_of printed printed_parts whole ratio gcd le_ℚ lt_ℚ
whole_report = refl

no_label : report_seen (report_in one_link (text_of (head ++ traces ++ rest))) ≡ Err (P7, 5)
unfolding report_in digits_of count_of number_of parts_of printed printed_parts whole ratio gcd le_ℚ lt_ℚ
no_label = refl

not_printed : report_seen (report_in one_link (text_of (head ++ codes "label s 0 0/1" ∷ []))) ≡ Err (P8, 5)
unfolding report_in digits_of count_of number_of parts_of printed printed_parts whole ratio gcd le_ℚ lt_ℚ
not_printed = refl

no_last : report_seen (report_in one_link (text_of (head ++ labels ++ codes "inflow a 0 0 2" ∷ codes "outflow a 0 0 0" ∷ []))) ≡ Err (P12, 9)
unfolding report_in digits_of count_of number_of parts_of printed printed_parts whole ratio gcd le_ℚ lt_ℚ
no_last = refl

not_all : report_seen (report_in one_link (text_of (head ++ labels ++ traces ++ codes "end" ∷ []))) ≡ Err (P13, 14)
unfolding report_in digits_of count_of number_of parts_of printed printed_parts whole ratio gcd le_ℚ lt_ℚ
not_all = refl

one_more : report_seen (report_in one_link (text_of (head ++ labels ++ traces ++ rest ++ codes "end" ∷ []))) ≡ Err (P14, 18)
unfolding report_in digits_of count_of number_of parts_of printed printed_parts whole ratio gcd le_ℚ lt_ℚ
one_more = refl

cut_off : report_seen (report_in one_link (text_of (head ++ labels ++ traces))) ≡ Err (P14, 0)
unfolding report_in digits_of count_of number_of parts_of printed printed_parts whole ratio gcd le_ℚ lt_ℚ
cut_off = refl

not_done : report_seen (report_in one_link (text_of (codes "report 1" ∷ codes "horizon 2" ∷ codes "reached 1" ∷ codes "cause done" ∷ []))) ≡ Err (P10, 4)
unfolding report_in digits_of count_of number_of parts_of printed printed_parts whole ratio gcd le_ℚ lt_ℚ
not_done = refl

no_text : report_seen (report_in one_link []) ≡ Err (P4, 1)
unfolding report_in
no_text = refl

-- ---- version 2: a node that isn't reached, and an unbounded link
abbrev with_idle : Named
with_idle = record one_link { version = 2; idle_nodes = codes "w" ∷ []; idle_links = [] }

abbrev head_2 : List (List ℕ)
head_2 = codes "report 2" ∷ codes "horizon 2" ∷ codes "reached 2" ∷ codes "cause done" ∷ []

never_there : report_seen (report_in with_idle (text_of (head_2 ++ labels ++ codes "never w" ∷ [] ++ traces ++ rest))) ≡ Ok ((2 ∷ 2 ∷ []) ∷ (2 ∷ []) ∷ (3 ∷ []) ∷ (2 ∷ []) ∷ [])
unfolding report_in digits_of count_of number_of parts_of printed printed_parts whole ratio gcd le_ℚ lt_ℚ
never_there = refl

never_missing : report_seen (report_in with_idle (text_of (head_2 ++ labels ++ traces ++ rest))) ≡ Err (P7, 9)
unfolding report_in digits_of count_of number_of parts_of printed printed_parts whole ratio gcd le_ℚ lt_ℚ
never_missing = refl

never_twice : report_seen (report_in with_idle (text_of (head_2 ++ labels ++ codes "never w" ∷ codes "never w" ∷ []))) ≡ Err (P7, 10)
unfolding report_in digits_of count_of number_of parts_of printed printed_parts whole ratio gcd le_ℚ lt_ℚ
never_twice = refl

never_in_1 : report_seen (report_in one_link (text_of (head ++ labels ++ codes "never w" ∷ []))) ≡ Err (P5, 9)
unfolding report_in digits_of count_of number_of parts_of printed printed_parts whole ratio gcd le_ℚ lt_ℚ
never_in_1 = refl

other_version : report_seen (report_in with_idle (text_of head)) ≡ Err (P4, 1)
unfolding report_in digits_of count_of number_of parts_of printed printed_parts whole ratio gcd le_ℚ lt_ℚ
other_version = refl

abbrev unbounded : Named
unbounded = record one_link { version = 2; net = record one_link.net { links = link 0 1 (n 1) None ∷ [] } }

never_full : report_seen (report_in unbounded (text_of (head_2 ++ labels ++ traces ++ rest))) ≡ Err (P9, 16)
unfolding report_in digits_of count_of number_of parts_of printed printed_parts whole ratio gcd le_ℚ lt_ℚ
never_full = refl
