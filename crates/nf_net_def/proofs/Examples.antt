-- Files and texts, by computation.
use Rattle.std.proofs.Common.{◌≡◌, ℕ, List, [], ◌∷◌, ◌++◌, refl, inl}
use Rattle.std.specs.Prelude.{flat_map, map, codes, pos, Result, Ok, Err, Some, None, Bool, true, false, not}
use Rattle.nf_rational.specs.Rational.{ℚ, ratio}
use Rattle.nf_rational.specs.Gcd.{gcd}
use Rattle.nf_rational.specs.Operations.{whole}
use Rattle.nf_rational.specs.Order.{le_ℚ, lt_ℚ}
use Rattle.nf_model.specs.declared.State.TheVariants.{Full}
use Rattle.nf_frac_words.specs.Digits.{digits_of}
use Rattle.nf_frac_words.specs.Numbers.{number_of, decimal_of, parts_of, decimal_parts_of}
use Rattle.nf_frac_words.specs.Printed.{printed, printed_parts}
use Rattle.nf_net_def.specs.declared.NetRule.TheVariants.{N8, N9, N17}
use Rattle.nf_text_def.specs.Words.{read_lines, content_lines}
use Rattle.nf_text_def.specs.Faults.{first_fault}
use Rattle.nf_net_def.specs.Named.{Named}
use Rattle.nf_net_def.specs.NetLines.{Broken, Draft, draft_from}
use Rattle.nf_net_def.specs.NetClosing.{marked, network_of}
use Rattle.nf_net_def.specs.NetFile.{Reads}
use Rattle.nf_net_def.specs.NetText.{canonical}
use Rattle.nf_net_def.specs.Report.{Report, report_text}

-- lines with LF
abbrev text : List (List ℕ) → List ℕ
text lines = flat_map (λ l. l ++ 10 ∷ []) lines

-- lines with CR and LF
abbrev crlf : List (List ℕ) → List ℕ
crlf lines = flat_map (λ l. l ++ 13 ∷ 10 ∷ []) lines

-- the canonical text of what a file says, when the links at these flags are active
abbrev canonical_of : List Bool → Result Draft Broken → List ℕ
canonical_of flags (Ok draft) = canonical (network_of draft (marked flags draft.links) (marked (map not flags) draft.links))
canonical_of flags (Err broken) = []

-- ---- a file with comments, blanks, CRLF and numbers that aren't in lowest terms
abbrev commented : List ℕ
commented = crlf (
    codes "# demo" ∷ codes "nfot 1" ∷ codes "" ∷ codes "sink t" ∷ (codes "  link a" ++ 9 ∷ codes "s t 2/4 06 # the one link") ∷ codes "source s"
    ∷ codes "inflow 0 1" ∷ codes "end" ∷ [])

pub commented_bytes : first_fault commented ≡ None
commented_bytes = refl

pub commented_canonical : canonical_of (true ∷ []) (draft_from (content_lines (read_lines commented))) ≡ text (
    codes "nfot 1" ∷ codes "source s" ∷ codes "sink t" ∷ codes "link a s t 1/2 6" ∷ codes "inflow 0 1" ∷ codes "end" ∷ [])
unfolding whole ratio gcd le_ℚ lt_ℚ digits_of number_of parts_of printed printed_parts
commented_canonical = refl

-- ---- the first broken rule
abbrev head : List (List ℕ)
head = codes "nfot 1" ∷ codes "source s" ∷ codes "sink t" ∷ []

-- a number that is none, in line 4, comes before the missing end
pub no_number : Reads (text (head ++ codes "link a s t 1/0 1" ∷ codes "link a s t 1 1" ∷ [])) (Err (record { rule = N8; line = 4 }))
unfolding whole ratio gcd le_ℚ lt_ℚ digits_of number_of parts_of printed printed_parts
no_number = refl

-- two links of one name: the second
pub name_again : Reads (text (head ++ codes "link a s t 1 1" ∷ codes "link a s t 1 1" ∷ [])) (Err (record { rule = N9; line = 5 }))
unfolding whole ratio gcd le_ℚ lt_ℚ digits_of number_of parts_of printed printed_parts
name_again = refl

-- only the end is missing
pub no_end : Reads (text (head ++ codes "link b s t 1 1" ∷ codes "link a s t 1 1" ∷ [])) (Err (record { rule = N17; line = 0 }))
unfolding whole ratio gcd le_ℚ lt_ℚ digits_of number_of parts_of printed printed_parts
no_end = (inl (refl, refl), refl)

-- ---- version 2: decimals, and a link whose tail isn't reached
pub idle_canonical : canonical_of (false ∷ true ∷ []) (draft_from (content_lines (read_lines (text (
    codes "nfot 2" ∷ codes "source s" ∷ codes "sink t" ∷ codes "link x w t 1 1" ∷ codes "link a s t 0.5 1.50" ∷ codes "inflow 0 2" ∷ codes "end" ∷ []))))) ≡ text (
    codes "nfot 2" ∷ codes "source s" ∷ codes "sink t" ∷ codes "link a s t 1/2 3/2" ∷ codes "link x w t 1 1" ∷ codes "inflow 0 2" ∷ codes "end" ∷ [])
unfolding whole ratio gcd le_ℚ lt_ℚ digits_of number_of parts_of decimal_of decimal_parts_of printed printed_parts
idle_canonical = refl

-- ---- reports
abbrev n : ℕ → ℚ
n k = whole (pos k)

abbrev half : ℕ → ℚ
half k = ratio (pos k) 2

abbrev one_link : Named
one_link = record {
  version = 1;
  net = record {
    nodes = 2;
    source = 0;
    sink = 1;
    links = record { tail = 0; head = 1; transit = n 1; capacity = Some (n 1) } ∷ [];
    pieces = record { start = n 0; rate = n 2 } ∷ record { start = n 2; rate = n 0 } ∷ [];
  };
  node_names = codes "s" ∷ codes "t" ∷ [];
  link_names = codes "a" ∷ [];
  idle_nodes = [];
  idle_links = [];
}

abbrev one_link_report : Report
one_link_report = record {
  horizon = n 2;
  flow = record {
    reached = n 2;
    labels = ((n 0, n 0) ∷ (n 2, n 2) ∷ []) ∷ ((n 0, n 1) ∷ (n 2, n 5) ∷ []) ∷ [];
    inflows = record { points = (n 0, n 0) ∷ (n 2, n 4) ∷ []; rates = n 2 ∷ [] } ∷ [];
    outflows = record { points = (n 0, n 0) ∷ (n 1, n 0) ∷ (n 5, n 4) ∷ []; rates = n 0 ∷ n 1 ∷ [] } ∷ [];
    queues = ((n 0, n 0) ∷ (n 2, n 2) ∷ []) ∷ [];
  };
  stop = None;
  last = Some Full ∷ [];
}

pub one_link_text : report_text one_link one_link_report ≡ text (
    codes "report 1" ∷ codes "horizon 2" ∷ codes "reached 2" ∷ codes "cause done"
    ∷ codes "label s 0 0" ∷ codes "label s 2 2" ∷ codes "label t 0 1" ∷ codes "label t 2 5"
    ∷ codes "inflow a 0 0 2" ∷ codes "inflow a 2 4 -"
    ∷ codes "outflow a 0 0 0" ∷ codes "outflow a 1 0 1" ∷ codes "outflow a 5 4 -"
    ∷ codes "queue a 0 0" ∷ codes "queue a 2 2" ∷ codes "state a full" ∷ codes "end" ∷ [])
unfolding digits_of printed printed_parts ratio gcd whole
one_link_text = refl

abbrev two_links : Named
two_links = record {
  version = 1;
  net = record {
    nodes = 2;
    source = 0;
    sink = 1;
    links = record { tail = 0; head = 1; transit = n 1; capacity = Some (n 1) } ∷ record { tail = 0; head = 1; transit = n 3; capacity = Some (n 1) } ∷ [];
    pieces = record { start = n 0; rate = n 3 } ∷ [];
  };
  node_names = codes "s" ∷ codes "t" ∷ [];
  link_names = codes "a" ∷ codes "b" ∷ [];
  idle_nodes = [];
  idle_links = [];
}

abbrev two_links_report : Report
two_links_report = record {
  horizon = n 4;
  flow = record {
    reached = n 4;
    labels = ((n 0, n 0) ∷ (n 4, n 4) ∷ []) ∷ ((n 0, n 1) ∷ (n 1, n 4) ∷ (n 4, half 17) ∷ []) ∷ [];
    inflows = record { points = (n 0, n 0) ∷ (n 1, n 3) ∷ (n 4, half 15) ∷ []; rates = n 3 ∷ half 3 ∷ [] }
        ∷ record { points = (n 0, n 0) ∷ (n 1, n 0) ∷ (n 4, half 9) ∷ []; rates = n 0 ∷ half 3 ∷ [] } ∷ [];
    outflows = record { points = (n 0, n 0) ∷ (n 1, n 0) ∷ (half 17, half 15) ∷ []; rates = n 0 ∷ n 1 ∷ [] }
        ∷ record { points = (n 0, n 0) ∷ (n 4, n 0) ∷ (half 17, half 9) ∷ []; rates = n 0 ∷ n 1 ∷ [] } ∷ [];
    queues = ((n 0, n 0) ∷ (n 1, n 2) ∷ (n 4, half 7) ∷ []) ∷ ((n 0, n 0) ∷ (n 1, n 0) ∷ (n 4, half 3) ∷ []) ∷ [];
  };
  stop = None;
  last = None ∷ Some Full ∷ [];
}

pub two_links_text : report_text two_links two_links_report ≡ text (
    codes "report 1" ∷ codes "horizon 4" ∷ codes "reached 4" ∷ codes "cause done"
    ∷ codes "label s 0 0" ∷ codes "label s 4 4" ∷ codes "label t 0 1" ∷ codes "label t 1 4" ∷ codes "label t 4 17/2"
    ∷ codes "inflow a 0 0 3" ∷ codes "inflow a 1 3 3/2" ∷ codes "inflow a 4 15/2 -"
    ∷ codes "outflow a 0 0 0" ∷ codes "outflow a 1 0 1" ∷ codes "outflow a 17/2 15/2 -"
    ∷ codes "queue a 0 0" ∷ codes "queue a 1 2" ∷ codes "queue a 4 7/2"
    ∷ codes "inflow b 0 0 0" ∷ codes "inflow b 1 0 3/2" ∷ codes "inflow b 4 9/2 -"
    ∷ codes "outflow b 0 0 0" ∷ codes "outflow b 4 0 1" ∷ codes "outflow b 17/2 9/2 -"
    ∷ codes "queue b 0 0" ∷ codes "queue b 1 0" ∷ codes "queue b 4 3/2"
    ∷ codes "state b full" ∷ codes "end" ∷ [])
unfolding digits_of printed printed_parts ratio gcd whole
two_links_text = refl

-- in version 2, with an idle node
abbrev one_idle : Named
one_idle = record {
  version = 2;
  net = record {
    nodes = 2;
    source = 0;
    sink = 1;
    links = record { tail = 0; head = 1; transit = half 1; capacity = Some (half 3) } ∷ [];
    pieces = record { start = n 0; rate = n 2 } ∷ [];
  };
  node_names = codes "s" ∷ codes "t" ∷ [];
  link_names = codes "a" ∷ [];
  idle_nodes = codes "w" ∷ [];
  idle_links = record { name = codes "x"; tail = codes "w"; head = codes "t"; transit = n 1; capacity = Some (n 1) } ∷ [];
}

abbrev one_idle_report : Report
one_idle_report = record {
  horizon = n 3;
  flow = record {
    reached = n 3;
    labels = ((n 0, n 0) ∷ (n 3, n 3) ∷ []) ∷ ((n 0, half 1) ∷ (n 3, half 9) ∷ []) ∷ [];
    inflows = record { points = (n 0, n 0) ∷ (n 3, n 6) ∷ []; rates = n 2 ∷ [] } ∷ [];
    outflows = record { points = (n 0, n 0) ∷ (half 1, n 0) ∷ (half 9, n 6) ∷ []; rates = n 0 ∷ half 3 ∷ [] } ∷ [];
    queues = ((n 0, n 0) ∷ (n 3, half 3) ∷ []) ∷ [];
  };
  stop = None;
  last = Some Full ∷ [];
}

pub one_idle_text : report_text one_idle one_idle_report ≡ text (
    codes "report 2" ∷ codes "horizon 3" ∷ codes "reached 3" ∷ codes "cause done"
    ∷ codes "label s 0 0" ∷ codes "label s 3 3" ∷ codes "label t 0 1/2" ∷ codes "label t 3 9/2" ∷ codes "never w"
    ∷ codes "inflow a 0 0 2" ∷ codes "inflow a 3 6 -"
    ∷ codes "outflow a 0 0 0" ∷ codes "outflow a 1/2 0 3/2" ∷ codes "outflow a 9/2 6 -"
    ∷ codes "queue a 0 0" ∷ codes "queue a 3 3/2" ∷ codes "state a full" ∷ codes "end" ∷ [])
unfolding digits_of printed printed_parts ratio gcd whole
one_idle_text = refl

-- at horizon 0 each curve is one point, but for an outflow, which is 0 until the transit time
abbrev at_once : Report
at_once = record {
  horizon = n 0;
  flow = record {
    reached = n 0;
    labels = ((n 0, n 0) ∷ []) ∷ ((n 0, n 1) ∷ []) ∷ [];
    inflows = record { points = (n 0, n 0) ∷ []; rates = [] } ∷ [];
    outflows = record { points = (n 0, n 0) ∷ (n 1, n 0) ∷ []; rates = n 0 ∷ [] } ∷ [];
    queues = ((n 0, n 0) ∷ []) ∷ [];
  };
  stop = None;
  last = None ∷ [];
}

pub at_once_text : report_text one_link at_once ≡ text (
    codes "report 1" ∷ codes "horizon 0" ∷ codes "reached 0" ∷ codes "cause done" ∷ codes "label s 0 0" ∷ codes "label t 0 1"
    ∷ codes "inflow a 0 0 -" ∷ codes "outflow a 0 0 0" ∷ codes "outflow a 1 0 -" ∷ codes "queue a 0 0" ∷ codes "end" ∷ [])
unfolding digits_of printed printed_parts ratio gcd whole
at_once_text = refl
