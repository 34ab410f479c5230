-- The row of a node, link by link.
use Rattle.std.proofs.Common.{◌≡◌, ◌≢◌, ℕ, ◌+◌, ◌<◌, ◌≤◌, length, set, ⊎_elim, true, false, eqb, Some, sym, ap, subst, ◌∙◌, add-one, arith, slice_get}
use Rattle.std.proofs.Common.{if◌then◌else◌}
use Rattle.nf_thin_one.proofs.Common.{length-set, slice_get_within, eqb_tells, ℚ, 0ℚ, number_at, Has, Network, Sets, number_at-zeros, Row, unknowns}
use Rattle.nf_thin_one.proofs.Common.{leaves_less_enters, node_factor, node_row, unknowns-length}
use Rattle.nf_thin_one.proofs.Cells.{got-same, got-other, length-copies, blank_row}
use Rattle.nf_thin_one.proofs.ActivePlaces.{active_before, one_more_before, none_more_before, before_grows, before_within, row_of_entries}

module _ (net : Network) (sets : Sets) (v : ℕ) where
  abbrev column_of : ℕ → ℕ
  column_of e = net.nodes + active_before sets.active e

  -- the numbers of the links before number e are there, and the others are 0
  pub record HasFactorsTo (numbers : Row) (e : ℕ) : Type 0 where
    pub count : length numbers ≡ length (unknowns net sets) + 1
    pub slopes : (w : ℕ) → w < net.nodes → number_at numbers w ≡ 0ℚ
    pub flows : (d : ℕ) → d < e → Has sets.active d → number_at numbers (column_of d) ≡ leaves_less_enters (slice_get net.links d) v
    pub rest : (j : ℕ) → column_of e ≤ j → number_at numbers j ≡ 0ℚ

  -- in a row of zeros
  pub factors_first : HasFactorsTo (blank_row (length (unknowns net sets))) 0
  factors_first = record {
    count = length-copies (length (unknowns net sets) + 1) 0ℚ;
    slopes = λ w b. number_at-zeros (length (unknowns net sets) + 1) w;
    flows = λ d b a. absurd (omega arith);
    rest = λ j b. number_at-zeros (length (unknowns net sets) + 1) j;
  }

  pub factors_more : (numbers : Row) (e : ℕ) (x : ℚ) → Has sets.active e → x ≡ leaves_less_enters (slice_get net.links e) v → HasFactorsTo numbers e
      → HasFactorsTo (set numbers (column_of e) x) (e + 1)
  factors_more numbers e x active is h = record {
    count = length-set numbers (column_of e) x ∙ h.count;
    slopes = λ w b. got-other numbers (column_of e) w x 0ℚ (λ s. absurd (omega arith)) ∙ h.slopes w b;
    flows = λ d b a. ⊎_elim
        (λ (s : (eqb d e ≡ true) × (d ≡ e)). ap (λ (i : ℕ). number_at (set numbers (column_of e) x) (column_of i)) s.1
        ∙ (got-same numbers (column_of e) x 0ℚ within ∙ (is ∙ ap (λ (i : ℕ). leaves_less_enters (slice_get net.links i) v) (sym s.1))))
        (λ (s : (eqb d e ≡ false) × (d ≢ e)). (let below : d < e = (let n = s.1 in omega arith) in
        got-other numbers (column_of e) (column_of d) x 0ℚ (λ t. (let g = before_grows sets.active d e a below in absurd (omega arith))) ∙ h.flows d below a))
        (eqb_tells d e);
    rest = λ j b. (let m = one_more_before sets.active e active in got-other numbers (column_of e) j x 0ℚ (λ s. absurd (omega arith)) ∙ h.rest j (omega arith));
  }
    where
      within : column_of e < length numbers
      within = let a = before_within sets.active 0 e active in let b = unknowns-length net sets in let c = h.count in omega arith

  pub factors_same : (numbers : Row) (e : ℕ) → slice_get sets.active e ≡ Some false → HasFactorsTo numbers e → HasFactorsTo numbers (e + 1)
  factors_same numbers e idle h = record {
    count = h.count;
    slopes = h.slopes;
    flows = λ d b a. h.flows d (⊎_elim
        (λ (s : (eqb d e ≡ true) × (d ≡ e)). absurd (both (subst (Has sets.active) s.1 a) idle))
        (λ (s : (eqb d e ≡ false) × (d ≢ e)). (let n = s.1 in omega arith))
        (eqb_tells d e)) a;
    rest = λ j b. (let m = none_more_before sets.active e idle in h.rest j (omega arith));
  }
    where
      both : Has sets.active e → slice_get sets.active e ≡ Some false → ⊥
      both a i = no (sym a ∙ i)
        where
          no : Some true ≡ Some false → ⊥
          no s = cc

  -- the right side completes the row
  pub row_complete : (numbers : Row) (e : ℕ) (rate right : ℚ) → length sets.active ≤ e → right ≡ (if eqb v net.source then rate else 0ℚ) → HasFactorsTo numbers e
      → set numbers (length (unknowns net sets)) right ≡ node_row net sets rate v
  row_complete numbers e rate right all is h =
      row_of_entries net sets (node_factor net v) (if eqb v net.source then rate else 0ℚ) (set numbers (length (unknowns net sets)) right)
      (length-set numbers (length (unknowns net sets)) right ∙ (h.count ∙ add-one (length (unknowns net sets))))
      (λ w b. (let c = unknowns-length net sets in got-other numbers (length (unknowns net sets)) w right 0ℚ (λ s. absurd (omega arith)) ∙ h.slopes w b))
      (λ d a. (let c = before_within sets.active 0 d a in let g = unknowns-length net sets in
      got-other numbers (length (unknowns net sets)) (column_of d) right 0ℚ (λ s. absurd (omega arith)) ∙ h.flows d (let i = slice_get_within sets.active d true a in omega arith) a))
      (got-same numbers (length (unknowns net sets)) right 0ℚ (let c = h.count in omega arith) ∙ is)
