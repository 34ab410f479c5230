-- The rows of the active links one after the other.
use Rattle.std.proofs.Common.{◌≡◌, ℕ, ◌+◌, ◌<◌, ◌≤◌, List, length, false, Some, None, refl, sym, ap, ◌∙◌, arith, slice_get, unwrap_or, Option}
use Rattle.nf_thin_one.proofs.Common.{ℚ, 0ℚ, State, Has, Link, Network, IsNetwork, IsLink, Sets, Pattern, Row, row_at, unknowns, row, link_factor}
use Rattle.nf_thin_one.proofs.Common.{equations, unknowns-length, ChangesRow, IsFilledTo, with_entries, link_entries}
use Rattle.nf_thin_one.proofs.Cells.{blank_row, filled_more, filled_all}
use Rattle.nf_thin_one.proofs.ActivePlaces.{active_before, none_before, one_more_before, none_more_before, all_before, before_within}
use Rattle.nf_thin_one.proofs.EquationRows.{link_at, as_many_rows}
use Rattle.nf_thin_one.proofs.LinkEntries.{entries_row}

module _ (net : Network) (sets : Sets) (pattern : Pattern) where
  abbrev Filled : ℚ → List Row → ℕ → Type 0
  Filled rate table i = IsFilledTo (equations net sets rate pattern) table i

  -- the rows of the links before number e are there, where those of the nodes were; the next row has this number
  pub record HasLinksTo (old table : List Row) (e next : ℕ) : Type 0 where
    pub filled : (rate : ℚ) → Filled rate old net.nodes → Filled rate table next
    pub place : next ≡ net.nodes + active_before sets.active e
    pub count : length table ≡ length old

  pub links_first : (old : List Row) → HasLinksTo old old 0 net.nodes
  links_first old = record { filled = λ rate h. h; place = let n = none_before sets.active in omega arith; count = refl }

  module _ (old table : List Row) (e next : ℕ) (h : HasLinksTo old table e next) where
    pub idle_skipped : slice_get sets.active e ≡ Some false → HasLinksTo old table (e + 1) next
    idle_skipped idle = record { filled = h.filled; place = (let n = none_more_before sets.active e idle in let p = h.place in omega arith); count = h.count }

    pub links_done : length sets.active ≤ e → length old ≡ length (unknowns net sets) → (rate : ℚ) → Filled rate old net.nodes → table ≡ equations net sets rate pattern
    links_done all size rate f = filled_all (equations net sets rate pattern) table next (h.filled rate f)
        (let a = all_before sets.active 0 e all in let p = h.place in let c = h.count in let u = unknowns-length net sets in omega arith)

    module _ (size : length old ≡ length (unknowns net sets)) (active : Has sets.active e) where
      pub next_inside : next < length table
      next_inside = let b = before_within sets.active 0 e active in let p = h.place in let c = h.count in let u = unknowns-length net sets in omega arith

      pub end_inside : (v : ℕ) → v < net.nodes → v < length table
      end_inside v b = let c = h.count in let u = unknowns-length net sets in omega arith

      module _ (good : IsNetwork net) (count : length sets.active ≡ length net.links) (link : Link) (is_link : IsLink net e link) (state : Option State)
          (at : slice_get pattern e ≡ Some state) where
        row_here : (rate : ℚ) → Filled rate table next → with_entries (row_at table next) (link_entries next link state) ≡ row_at (equations net sets rate pattern) next
        row_here rate f =
            ap (λ (r : Row). with_entries r (link_entries next link state))
            (f.after next (let s : next ≤ next = omega arith in s) next_inside ∙ ap blank_row (as_many_rows net sets rate pattern good.sink count))
            ∙ (entries_row net sets e next link active h.place (good.tails e link is_link) (good.heads e link is_link) state
            ∙ (ap (λ (o : Option (Option State)). row (unknowns net sets) (link_factor e link (unwrap_or o None)) 0ℚ) (sym at)
            ∙ sym (link_at net sets rate pattern good.sink e next link is_link active h.place)))

        pub link_more : (new : List Row) → ChangesRow table new next (with_entries (row_at table next) (link_entries next link state)) → HasLinksTo old new (e + 1) (next + 1)
        link_more new changed = record {
          filled = λ rate f. filled_more (equations net sets rate pattern) table new next (with_entries (row_at table next) (link_entries next link state))
              (h.filled rate f) changed (row_here rate (h.filled rate f));
          place = let n = one_more_before sets.active e active in let p = h.place in omega arith;
          count = changed.count ∙ h.count;
        }
