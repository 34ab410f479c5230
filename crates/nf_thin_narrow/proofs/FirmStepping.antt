-- One more link with freely combinable states: the counts of assignments from it on, by those of the links after it.
use Rattle.std.proofs.Common.{◌≡◌, ℕ, suc, ◌+◌, List, drop, Option, Some, slice_get, if◌then◌else◌}
use Rattle.nf_thin_narrow.proofs.Common.{State, Pattern, change, left_ways, ways_by, ways_below, ways, is_in, firm_earlier, drop_entry, Firm}
use Rattle.nf_thin_narrow.proofs.Common.{states_of_firm, firm_choices}

-- The counts of assignments from link i on.
abbrev pub ways_from : Pattern → List Firm → ℕ → ℕ → ℕ
ways_from base firm i k = ways (firm_choices (drop i base) (drop i firm)) (drop i base) k

abbrev pub earlier_from : Pattern → List Firm → Pattern → ℕ → ℕ → ℕ
earlier_from base firm p i n = firm_earlier (firm_choices (drop i base) (drop i firm)) (drop i base) (drop i p) n

module _ (base p : Pattern) (firm : List Firm) (i : ℕ) (b s : Option State) (f : Firm) (at_b : slice_get base i ≡ Some b) (at_s : slice_get p i ≡ Some s)
    (at_f : slice_get firm i ≡ Some f) where
  pub ways_step : (k : ℕ) → ways_from base firm i k ≡ ways_by (states_of_firm b f) b (ways_from base firm (suc i)) k
  ways_step k = λ j. ways (firm_choices (drop_entry base i b at_b j) (drop_entry firm i f at_f j)) (drop_entry base i b at_b j) k

  pub earlier_step : (n : ℕ) → earlier_from base firm p i n
      ≡ ways_below (states_of_firm b f) b s (ways_from base firm (suc i)) n + (if is_in (states_of_firm b f) s then left_ways (change b s) (earlier_from base firm p (suc i)) n else 0)
  earlier_step n = λ j. firm_earlier (firm_choices (drop_entry base i b at_b j) (drop_entry firm i f at_f j)) (drop_entry base i b at_b j) (drop_entry p i s at_s j) n
