-- The few entries of the row of a link are all that its row has.
use Rattle.std.proofs.Common.{◌≡◌, ◌≢◌, ℕ, ◌+◌, ◌<◌, ◌≤◌, [], ◌∷◌, length, set, replicate, ⊎_elim, ◌⊎◌, inl, inr, Bool, true, false, eqb, Some, None, sym}
use Rattle.std.proofs.Common.{ap, ◌∙◌, add-one, arith, if◌then◌else◌, Option, unwrap_or}
use Rattle.nf_thin_one.proofs.Common.{length-set, cases_order, ne_eqb, eqb_tells, ℚ, 0ℚ, 1ℚ, neg_ℚ, ◌-ℚ◌, State, Tight, Full, Zero, number_at, Has, Link}
use Rattle.nf_thin_one.proofs.Common.{Network, Sets, number_at-zeros, Row, unknowns, row, one_if, fills_factor, link_factor, unknowns-length, with_entries}
use Rattle.nf_thin_one.proofs.Common.{tight_entries, link_entries}
use Rattle.nf_rational_laws.proofs.Polynomial.{reading_of}
use Rattle.nf_rational_laws.proofs.Linear.{linear_eq}
use Rattle.nf_rational_laws.proofs.Facts.{zero_less_zero}
use Rattle.nf_thin_one.proofs.Cells.{alone, got-same, got-other, length-copies}
use Rattle.nf_thin_one.proofs.ActivePlaces.{active_before, before_grows, before_within, row_of_entries}

-- ---- over plain numbers
both : 0ℚ ≡ 1ℚ -ℚ 1ℚ
both = linear_eq [] [] (search reading_of depth 12) tt tt

first_alone : 1ℚ ≡ 1ℚ -ℚ 0ℚ
first_alone = linear_eq [] [] (search reading_of depth 12) tt tt

second_alone : neg_ℚ 1ℚ ≡ 0ℚ -ℚ 1ℚ
second_alone = linear_eq [] [] (search reading_of depth 12) tt tt

pub minus_zero : 0ℚ ≡ neg_ℚ 0ℚ
minus_zero = linear_eq [] [] (search reading_of depth 12) tt tt

pub no_step : (b : Bool) → 0ℚ ≡ one_if b -ℚ one_if b
no_step true = both
no_step false = zero_less_zero

-- the coefficient of a link's flow at a node that it leaves, or enters, or neither
pub unit_leaves : (leaves enters : Bool) → leaves ≡ true → enters ≡ false → 1ℚ ≡ one_if leaves -ℚ one_if enters
unit_leaves true false n e = first_alone
unit_leaves false enters n e = absurd (cc)
unit_leaves true true n e = absurd (cc)

pub unit_enters : (leaves enters : Bool) → leaves ≡ false → enters ≡ true → neg_ℚ 1ℚ ≡ one_if leaves -ℚ one_if enters
unit_enters false true n e = second_alone
unit_enters true enters n e = absurd (cc)
unit_enters false false n e = absurd (cc)

pub unit_neither : (leaves enters : Bool) → leaves ≡ false → enters ≡ false → 0ℚ ≡ one_if leaves -ℚ one_if enters
unit_neither false false n e = zero_less_zero
unit_neither true enters n e = absurd (cc)
unit_neither false true n e = absurd (cc)

less_nothing : (a : ℚ) → a ≡ a -ℚ 0ℚ
less_nothing a = linear_eq (a ∷ []) [] (search reading_of depth 12) tt tt

-- ---- the row of an active link
module _ (net : Network) (sets : Sets) (e own : ℕ) (link : Link) (active : Has sets.active e) (place : own ≡ net.nodes + active_before sets.active e)
    (tail : link.tail < net.nodes) (head : link.head < net.nodes) where
  abbrev zeros : Row
  zeros = replicate (length (unknowns net sets) + 1) 0ℚ

  abbrev column_of : ℕ → ℕ
  column_of d = net.nodes + active_before sets.active d

  wide : length zeros ≡ length (unknowns net sets) + 1
  wide = length-copies (length (unknowns net sets) + 1) 0ℚ

  zero_at : (j : ℕ) → number_at zeros j ≡ 0ℚ
  zero_at j = number_at-zeros (length (unknowns net sets) + 1) j

  own_inside : own < length (unknowns net sets)
  own_inside = let a = before_within sets.active 0 e active in let b = unknowns-length net sets in omega arith

  other_column : (d : ℕ) → Has sets.active d → d ≢ e → column_of d ≢ own
  other_column d a n = λ s. by_order s (cases_order d e)
    where
      by_order : column_of d ≡ own → (d ≡ e) ⊎ ((d < e) ⊎ (e < d)) → ⊥
      by_order s (inl t) = n t
      by_order s (inr (inl b)) = let g = before_grows sets.active d e a b in absurd (omega arith)
      by_order s (inr (inr b)) = let g = before_grows sets.active e d active b in absurd (omega arith)

  -- one number at the column of the link's flow
  flow_entry : (numbers : Row) (d : ℕ) → length numbers ≡ length (unknowns net sets) + 1 → ((c : ℕ) → net.nodes ≤ c → number_at numbers c ≡ 0ℚ) → Has sets.active d
      → number_at (set numbers own 1ℚ) (column_of d) ≡ one_if (eqb d e)
  flow_entry numbers d count none a = ⊎_elim
      (λ (s : (eqb d e ≡ true) × (d ≡ e)). ap (λ (i : ℕ). number_at (set numbers own 1ℚ) i) (ap column_of s.1 ∙ sym place)
      ∙ (got-same numbers own 1ℚ 0ℚ (let o = own_inside in omega arith) ∙ ap one_if (sym s.0)))
      (λ (s : (eqb d e ≡ false) × (d ≢ e)). got-other numbers own (column_of d) 1ℚ 0ℚ (other_column d a s.1) ∙ (none (column_of d) (omega arith) ∙ ap one_if (sym s.0)))
      (eqb_tells d e)

  -- ---- Zero
  zero_row : set zeros own 1ℚ ≡ row (unknowns net sets) (link_factor e link (Some Zero)) 0ℚ
  zero_row = row_of_entries net sets (link_factor e link (Some Zero)) 0ℚ (set zeros own 1ℚ)
      (length-set zeros own 1ℚ ∙ (wide ∙ add-one (length (unknowns net sets))))
      (λ v b. got-other zeros own v 1ℚ 0ℚ (λ s. absurd (omega arith)) ∙ zero_at v)
      (λ d a. flow_entry zeros d wide (λ c l. zero_at c) a)
      (got-other zeros own (length (unknowns net sets)) 1ℚ 0ℚ (λ s. (let o = own_inside in absurd (omega arith))) ∙ zero_at (length (unknowns net sets)))

  -- ---- a number at the head
  module _ (x : ℚ) where
    headed-else : (j : ℕ) → j ≢ link.head → number_at (set zeros link.head x) j ≡ 0ℚ
    headed-else j n = got-other zeros link.head j x 0ℚ n ∙ zero_at j

    headed-length : length (set zeros link.head x) ≡ length (unknowns net sets) + 1
    headed-length = length-set zeros link.head x ∙ wide

    headed-at : (v : ℕ) → number_at (set zeros link.head x) v ≡ (if eqb v link.head then x else 0ℚ)
    headed-at v = alone (length (unknowns net sets) + 1) link.head v x (let u = unknowns-length net sets in omega arith)

  -- ---- Full, or resetting
  abbrev filling : ℚ
  filling = neg_ℚ (unwrap_or link.capacity 0ℚ)

  full_row : set (set zeros link.head filling) own 1ℚ ≡ row (unknowns net sets) (fills_factor e link) 0ℚ
  full_row = row_of_entries net sets (fills_factor e link) 0ℚ (set (set zeros link.head filling) own 1ℚ)
      (length-set (set zeros link.head filling) own 1ℚ ∙ (headed-length filling ∙ add-one (length (unknowns net sets))))
      (λ v b. got-other (set zeros link.head filling) own v 1ℚ 0ℚ (λ s. absurd (omega arith)) ∙ headed-at filling v)
      (λ d a. flow_entry (set zeros link.head filling) d (headed-length filling) (λ c l. headed-else filling c (λ s. absurd (omega arith))) a)
      (got-other (set zeros link.head filling) own (length (unknowns net sets)) 1ℚ 0ℚ (λ s. (let o = own_inside in absurd (omega arith)))
      ∙ headed-else filling (length (unknowns net sets)) (λ s. (let u = unknowns-length net sets in absurd (omega arith))))

  -- ---- Tight
  level_row : link.head ≡ link.tail → zeros ≡ row (unknowns net sets) (link_factor e link (Some Tight)) 0ℚ
  level_row same = row_of_entries net sets (link_factor e link (Some Tight)) 0ℚ zeros
      (wide ∙ add-one (length (unknowns net sets)))
      (λ v b. zero_at v ∙ (no_step (eqb v link.head) ∙ ap (λ (t : ℕ). one_if (eqb v link.head) -ℚ one_if (eqb v t)) same))
      (λ d a. zero_at (column_of d))
      (zero_at (length (unknowns net sets)))

  stepped_at : (v : ℕ) → link.head ≢ link.tail → number_at (set (set zeros link.head 1ℚ) link.tail (neg_ℚ 1ℚ)) v ≡ one_if (eqb v link.head) -ℚ one_if (eqb v link.tail)
  stepped_at v apart = ⊎_elim
      (λ (s : (eqb v link.tail ≡ true) × (v ≡ link.tail)). ap (number_at (set (set zeros link.head 1ℚ) link.tail (neg_ℚ 1ℚ))) s.1
      ∙ (got-same (set zeros link.head 1ℚ) link.tail (neg_ℚ 1ℚ) 0ℚ (let w = headed-length 1ℚ in let u = unknowns-length net sets in omega arith)
      ∙ (second_alone ∙ (ap (λ (b : Bool). one_if b -ℚ 1ℚ) (sym (ne_eqb v link.head (λ t. apart (sym t ∙ s.1))))
      ∙ ap (λ (b : Bool). one_if (eqb v link.head) -ℚ one_if b) (sym s.0)))))
      (λ (s : (eqb v link.tail ≡ false) × (v ≢ link.tail)). got-other (set zeros link.head 1ℚ) link.tail v (neg_ℚ 1ℚ) 0ℚ s.1
      ∙ (headed-at 1ℚ v ∙ (less_nothing (one_if (eqb v link.head)) ∙ ap (λ (b : Bool). one_if (eqb v link.head) -ℚ one_if b) (sym s.0))))
      (eqb_tells v link.tail)

  stepped-else : (j : ℕ) → net.nodes ≤ j → number_at (set (set zeros link.head 1ℚ) link.tail (neg_ℚ 1ℚ)) j ≡ 0ℚ
  stepped-else j b = got-other (set zeros link.head 1ℚ) link.tail j (neg_ℚ 1ℚ) 0ℚ (λ s. absurd (omega arith)) ∙ headed-else 1ℚ j (λ s. absurd (omega arith))

  tight_row : link.head ≢ link.tail → set (set zeros link.head 1ℚ) link.tail (neg_ℚ 1ℚ) ≡ row (unknowns net sets) (link_factor e link (Some Tight)) 0ℚ
  tight_row apart = row_of_entries net sets (link_factor e link (Some Tight)) 0ℚ (set (set zeros link.head 1ℚ) link.tail (neg_ℚ 1ℚ))
      (length-set (set zeros link.head 1ℚ) link.tail (neg_ℚ 1ℚ) ∙ (headed-length 1ℚ ∙ add-one (length (unknowns net sets))))
      (λ v b. stepped_at v apart)
      (λ d a. stepped-else (column_of d) (omega arith))
      (stepped-else (length (unknowns net sets)) (let u = unknowns-length net sets in omega arith))

  entries_tight : with_entries zeros (tight_entries link) ≡ row (unknowns net sets) (link_factor e link (Some Tight)) 0ℚ
  entries_tight = ⊎_elim
      (λ (s : (eqb link.head link.tail ≡ true) × (link.head ≡ link.tail)). ap
      (λ (b : Bool). with_entries zeros (if b then [] else (link.head, 1ℚ) ∷ (link.tail, neg_ℚ 1ℚ) ∷ [])) s.0 ∙ level_row s.1)
      (λ (s : (eqb link.head link.tail ≡ false) × (link.head ≢ link.tail)). ap
      (λ (b : Bool). with_entries zeros (if b then [] else (link.head, 1ℚ) ∷ (link.tail, neg_ℚ 1ℚ) ∷ [])) s.0 ∙ tight_row s.1)
      (eqb_tells link.head link.tail)

  pub entries_row : (state : Option State) → with_entries zeros (link_entries own link state) ≡ row (unknowns net sets) (link_factor e link state) 0ℚ
  entries_row (Some Tight) = entries_tight
  entries_row (Some Full) = full_row
  entries_row (Some Zero) = zero_row
  entries_row None = full_row
