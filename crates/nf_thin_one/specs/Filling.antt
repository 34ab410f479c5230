-- How the table of a pattern is filled, row by row.
use Rattle.std.specs.Prelude.{◌≡◌, ◌≢◌, ℕ, ◌+◌, ◌<◌, ◌≤◌, ◌==◌, if◌then◌else◌, List, [], ◌∷◌, length, set, replicate, Bool, IsTrue, Option, Some, None, unwrap_or}
use Rattle.nf_rational.specs.Rational.{ℚ}
use Rattle.nf_rational.specs.Operations.{0ℚ, 1ℚ, neg_ℚ}
use Rattle.nf_model.specs.declared.State.{State}
use Rattle.nf_model.specs.declared.State.TheVariants.{Tight, Full, Zero}
use Rattle.nf_model.specs.Entries.{number_at}
use Rattle.nf_model.specs.Network.{Link, Network, IsLink}
use Rattle.nf_linear_def.specs.Table.{Row, row_at}
use Rattle.nf_thin_def.specs.Equations.{leaves_less_enters}

-- ---- rows of a table

-- as many rows as unknowns, each with a number for each unknown and its right side, all of them 0
abbrev pub all_zero : ℕ → List Row
all_zero size = replicate size (replicate (size + 1) 0ℚ)

-- this row of a table has become another, and no other row has changed
pub record ChangesRow (old new : List Row) (i : ℕ) (row : Row) : Type 0 where
  pub here : row_at new i ≡ row
  pub others : (k : ℕ) → k ≢ i → row_at new k ≡ row_at old k
  pub count : length new ≡ length old

-- the rows of a table before number i are those of these rows, and the others are all zero
pub record IsFilledTo (rows table : List Row) (i : ℕ) : Type 0 where
  pub count : length table ≡ length rows
  pub before : (k : ℕ) → k < i → row_at table k ≡ row_at rows k
  pub after : (k : ℕ) → i ≤ k → k < length table → row_at table k ≡ replicate (length rows + 1) 0ℚ

-- ---- the rows of nodes, which follow that of the source's slope

-- the row of a node: the rows are in node order, and the sink has none
pub record IsRowOf (sink v i : ℕ) : Type 0 where
  pub apart : v ≢ sink
  pub before_sink : v < sink → i ≡ v + 1
  pub past_sink : sink < v → i ≡ v

-- in the row of a node a column has become this number, and no other row has changed
pub record SetsAt (sink v column : ℕ) (number : ℚ) (old new : List Row) : Type 0 where
  pub here : (i : ℕ) → IsRowOf sink v i → row_at new i ≡ set (row_at old i) column number
  pub others : (i : ℕ) → (IsRowOf sink v i → ⊥) → row_at new i ≡ row_at old i
  pub count : length new ≡ length old

-- in the rows of all nodes a column that was 0 has become the coefficient of a link's flow, and no row but those of its ends has changed
pub record AddsFlow (sink column : ℕ) (link : Link) (old new : List Row) : Type 0 where
  pub nodes : (v i : ℕ) → IsRowOf sink v i → number_at (row_at old i) column ≡ 0ℚ
      → row_at new i ≡ set (row_at old i) column (leaves_less_enters (Some link) v)
  pub others : (i : ℕ) → (IsRowOf sink link.tail i → ⊥) → (IsRowOf sink link.head i → ⊥) → row_at new i ≡ row_at old i
  pub count : length new ≡ length old

-- ---- the row of a link, entry by entry

-- a row in which each of these columns has its number
abbrev pub with_entries : Row → List (ℕ × ℚ) → Row
with_entries row [] = row
with_entries row (entry ∷ entries) = with_entries (set row entry.0 entry.1) entries

-- The entries other than 0 of the row of a link, by its state: each is a column and a number. `own` is the column of its flow.
abbrev pub tight_entries : Link → List (ℕ × ℚ)
tight_entries link = if link.head == link.tail then [] else (link.head, 1ℚ) ∷ (link.tail, neg_ℚ 1ℚ) ∷ []

abbrev pub full_entries : ℕ → Link → List (ℕ × ℚ)
full_entries own link = (link.head, neg_ℚ (unwrap_or link.capacity 0ℚ)) ∷ (own, 1ℚ) ∷ []

abbrev pub link_entries : ℕ → Link → Option State → List (ℕ × ℚ)
link_entries own link (Some Tight) = tight_entries link
link_entries own link (Some Full) = full_entries own link
link_entries own link (Some Zero) = (own, 1ℚ) ∷ []
link_entries own link None = full_entries own link

-- ---- which numbers the table has to hold

-- the capacity of a link, as it is written into the table
abbrev pub HoldsCapacity : (ℚ → Bool) → Link → Type 0
HoldsCapacity takes link = IsTrue (takes (neg_ℚ (unwrap_or link.capacity 0ℚ)))

abbrev pub HoldsCapacities : (ℚ → Bool) → Network → Type 0
HoldsCapacities takes net = (e : ℕ) (link : Link) → IsLink net e link → HoldsCapacity takes link

-- the numbers of the equations of a pattern, but for 0, 1 and -1
pub record HoldsNumbers (takes : ℚ → Bool) (net : Network) (rate : ℚ) : Type 0 where
  pub supply : IsTrue (takes rate)
  pub capacities : HoldsCapacities takes net
