-- The row of the source's slope, in a table that was all zero.
use Rattle.std.proofs.Common.{◌≡◌, ℕ, ◌+◌, ◌<◌, List, [], length, set, replicate, sym, ap, subst, ◌∙◌, add-one, arith}
use Rattle.nf_thin_one.proofs.Common.{length-set, ℚ, 0ℚ, 1ℚ, Network, Sets, Pattern, number_at-zeros, Row, row_at, unknowns, row, source_factor, equations}
use Rattle.nf_thin_one.proofs.Common.{unknowns-length, ChangesRow, IsFilledTo}
use Rattle.nf_thin_one.proofs.Cells.{alone, got-same, got-other, got-copies, length-copies, none_changes, number_changes, filled_first, filled_more}
use Rattle.nf_thin_one.proofs.ActivePlaces.{active_before, before_within, row_of_entries}
use Rattle.nf_thin_one.proofs.EquationRows.{source_at, as_many_rows}

module _ (net : Network) (sets : Sets) (source : net.source < net.nodes) where
  abbrev size : ℕ
  size = length (unknowns net sets)

  abbrev zeros : Row
  zeros = replicate (size + 1) 0ℚ

  started : set (set zeros net.source 1ℚ) size 1ℚ ≡ row (unknowns net sets) (source_factor net.source) 1ℚ
  started = row_of_entries net sets (source_factor net.source) 1ℚ (set (set zeros net.source 1ℚ) size 1ℚ)
      (length-set (set zeros net.source 1ℚ) size 1ℚ ∙ (length-set zeros net.source 1ℚ ∙ (length-copies (size + 1) 0ℚ ∙ add-one size)))
      (λ v b. (let u = unknowns-length net sets in got-other (set zeros net.source 1ℚ) size v 1ℚ 0ℚ (λ s. absurd (omega arith)))
      ∙ alone (size + 1) net.source v 1ℚ (let u = unknowns-length net sets in omega arith))
      (λ e a. (let u = unknowns-length net sets in let w = before_within sets.active 0 e a in
      got-other (set zeros net.source 1ℚ) size (net.nodes + active_before sets.active e) 1ℚ 0ℚ (λ s. absurd (omega arith)))
      ∙ (got-other zeros net.source (net.nodes + active_before sets.active e) 1ℚ 0ℚ (λ s. absurd (omega arith)) ∙ number_at-zeros (size + 1) (net.nodes + active_before sets.active e)))
      (got-same (set zeros net.source 1ℚ) size 1ℚ 0ℚ (let a : length (set zeros net.source 1ℚ) ≡ size + 1 = length-set zeros net.source 1ℚ ∙ length-copies (size + 1) 0ℚ in omega arith))

  module _ (sink : net.sink < net.nodes) (count : length sets.active ≡ length net.links) (table : List Row) (new : table ≡ replicate size zeros) where
    long : length table ≡ size
    long = ap length new ∙ length-copies size zeros

    pub source_inside : (column : ℕ) → column ≡ net.source → column < length table
    source_inside column e = let u = unknowns-length net sets in let l = long in omega arith

    some : 0 < length table
    some = let u = unknowns-length net sets in let l = long in omega arith

    zero_at : (k : ℕ) → k < length table → row_at table k ≡ zeros
    zero_at k b = ap (λ (t : List Row). row_at t k) new ∙ got-copies size k zeros [] (let l = long in omega arith)

    module _ (once twice : List Row) (first : once ≡ set table 0 (set (row_at table 0) net.source 1ℚ)) (second : twice ≡ set once 0 (set (row_at once 0) (length once) 1ℚ)) where
      once_changed : ChangesRow table once 0 (set zeros net.source 1ℚ)
      once_changed = subst (λ (r : Row). ChangesRow table once 0 (set r net.source 1ℚ)) (zero_at 0 some)
          (number_changes table table once 0 net.source (row_at table 0) 1ℚ some (none_changes table 0) first)

      twice_changed : ChangesRow table twice 0 (row (unknowns net sets) (source_factor net.source) 1ℚ)
      twice_changed = subst (ChangesRow table twice 0) (ap (λ (j : ℕ). set (set zeros net.source 1ℚ) j 1ℚ) (once_changed.count ∙ long) ∙ started)
          (number_changes table once twice 0 (length once) (set zeros net.source 1ℚ) 1ℚ some once_changed second)

      pub source_filled : (rate : ℚ) (pattern : Pattern) → IsFilledTo (equations net sets rate pattern) twice 1
      source_filled rate pattern =
          let many : length (equations net sets rate pattern) ≡ size = as_many_rows net sets rate pattern sink count in
          filled_more (equations net sets rate pattern) table twice 0 (row (unknowns net sets) (source_factor net.source) 1ℚ)
          (filled_first (equations net sets rate pattern) table (long ∙ sym many) (λ k b. zero_at k b ∙ ap (λ (n : ℕ). replicate (n + 1) 0ℚ) (sym many)))
          twice_changed (sym (source_at net sets rate pattern))

      pub source_long : length twice ≡ size
      source_long = twice_changed.count ∙ long
