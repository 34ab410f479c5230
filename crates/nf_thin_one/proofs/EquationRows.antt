-- Which row of the table of a pattern stands where, and how many rows there are.
use Rattle.std.proofs.Common.{◌≡◌, ◌≢◌, ℕ, zero, suc, ◌+◌, ◌<◌, ◌≤◌, List, [], ◌∷◌, ◌++◌, length, map, filter, ⊎_elim, ◌⊎◌, inl, inr, Bool, true, false}
use Rattle.std.proofs.Common.{not, cond, eqb, Some, None, refl, sym, ap, ◌∙◌, arith, slice_get, unwrap_or, if◌then◌else◌}
use Rattle.nf_thin_one.proofs.Common.{range_with_len, flat_map, enumerate_from, cases_order, ne_eqb, eqb_tells, length-map, length-append, none-some}
use Rattle.nf_thin_one.proofs.Common.{same_Some, ℚ, 0ℚ, 1ℚ, Has, Link, Network, IsLink, Sets, Pattern, Row, row_at, unknowns, row, source_factor, node_row}
use Rattle.nf_thin_one.proofs.Common.{link_factor, link_rows, flow_count, unknowns-length}
use Rattle.nf_thin_def.specs.Equations.{equations}
use Rattle.nf_thin_equation_laws.proofs.Rows.{filtered-length, set_rows-length}
use Rattle.nf_thin_one.proofs.Cells.{got-past}
use Rattle.nf_thin_one.proofs.ActivePlaces.{active_before}

-- ---- a row for each number but one
module _ (f : ℕ → Row) (w : ℕ) (others : List Row) where
  abbrev kept : ℕ → ℕ → List ℕ
  kept k n = filter (λ v. not (eqb v w)) (range_with_len k n)

  -- the row of number v is the first one, where v is the first number, or comes later
  first_kept : (b : Bool) (v : ℕ) (rest : List ℕ) → b ≡ false → row_at (map f (cond (not b) (v ∷ rest) rest) ++ others) 0 ≡ f v
  first_kept false v rest e = refl
  first_kept true v rest e = absurd (cc)

  past_kept : (b : Bool) (v i : ℕ) (rest : List ℕ) → b ≡ false → row_at (map f (cond (not b) (v ∷ rest) rest) ++ others) (suc i) ≡ row_at (map f rest ++ others) i
  past_kept false v i rest e = refl
  past_kept true v i rest e = absurd (cc)

  past_left_out : (b : Bool) (v i : ℕ) (rest : List ℕ) → b ≡ true → row_at (map f (cond (not b) (v ∷ rest) rest) ++ others) i ≡ row_at (map f rest ++ others) i
  past_left_out true v i rest e = refl
  past_left_out false v i rest e = absurd (cc)

  -- how many come before v
  record IsPlace (k v i : ℕ) : Type 0 where
    left_out_before : w < k → i + k ≡ v
    left_out_here : k ≤ w → w < v → i + k + 1 ≡ v
    left_out_later : v < w → i + k ≡ v

  next_place : (k v i : ℕ) → k ≢ w → IsPlace k v (suc i) → IsPlace (k + 1) v i
  next_place k v i n p = record {
    left_out_before = λ h. let a = p.left_out_before in omega arith;
    left_out_here = λ h g. let a = p.left_out_here in omega arith;
    left_out_later = λ h. let a = p.left_out_later in omega arith;
  }

  same_place : (k v i : ℕ) → k ≡ w → k < v → IsPlace k v i → IsPlace (k + 1) v i
  same_place k v i e b p = record {
    left_out_before = λ h. let a = p.left_out_here in omega arith;
    left_out_here = λ h g. absurd (omega arith);
    left_out_later = λ h. absurd (omega arith);
  }

  first_place : (k v i : ℕ) → v ≢ w → k ≡ v → IsPlace k v i → i ≡ 0
  first_place k v i n e p = by_order (cases_order v w)
    where
      by_order : (v ≡ w) ⊎ ((v < w) ⊎ (w < v)) → i ≡ 0
      by_order (inl s) = absurd (n s)
      by_order (inr (inl b)) = let a = p.left_out_later b in omega arith
      by_order (inr (inr b)) = let a : i + k ≡ v = p.left_out_before (omega arith) in omega arith

  later_place : (k v : ℕ) → v ≢ w → k ≢ w → k < v → IsPlace k v 0 → ⊥
  later_place k v n m b p = by_order (cases_order v w) (cases_order k w)
    where
      by_order : (v ≡ w) ⊎ ((v < w) ⊎ (w < v)) → (k ≡ w) ⊎ ((k < w) ⊎ (w < k)) → ⊥
      by_order (inl s) o = n s
      by_order (inr (inl l)) o = let a : 0 + k ≡ v = p.left_out_later l in absurd (omega arith)
      by_order (inr (inr l)) (inl s) = m s
      by_order (inr (inr l)) (inr (inl g)) = let a : 0 + k + 1 ≡ v = p.left_out_here (omega arith) l in absurd (omega arith)
      by_order (inr (inr l)) (inr (inr g)) = let a : 0 + k ≡ v = p.left_out_before g in absurd (omega arith)

  kept_at : (n k v i : ℕ) → k ≤ v → v < k + n → v ≢ w → IsPlace k v i → row_at (map f (kept k n) ++ others) i ≡ f v
  kept_at zero k v i low high apart p = absurd (omega arith)
  kept_at (suc n) k v i low high apart p = ⊎_elim
      (λ (h : (eqb k v ≡ true) × (k ≡ v)). here h.1)
      (λ (h : (eqb k v ≡ false) × (k ≢ v)). ⊎_elim
      (λ (g : (eqb k w ≡ true) × (k ≡ w)). past_left_out (eqb k w) k i (kept (k + 1) n) g.0
      ∙ kept_at n (k + 1) v i (let b = later h.1 in omega arith) (omega arith) apart (same_place k v i g.1 (later h.1) p))
      (λ (g : (eqb k w ≡ false) × (k ≢ w)). shifted i g.0 g.1 (later h.1) p (λ j q. kept_at n (k + 1) v j (let b = later h.1 in omega arith) (omega arith) apart q))
      (eqb_tells k w))
      (eqb_tells k v)
    where
      later : k ≢ v → k < v
      later m = omega arith

      here : k ≡ v → row_at (map f (kept k (suc n)) ++ others) i ≡ f v
      here e = ap (row_at (map f (kept k (suc n)) ++ others)) (first_place k v i apart e p)
          ∙ (first_kept (eqb k w) k (kept (k + 1) n) (ne_eqb k w (λ s. apart (sym e ∙ s))) ∙ ap f e)

      shifted : (i : ℕ) → eqb k w ≡ false → k ≢ w → k < v → IsPlace k v i → ((j : ℕ) → IsPlace (k + 1) v j
          → row_at (map f (kept (k + 1) n) ++ others) j ≡ f v) → row_at (map f (kept k (suc n)) ++ others) i ≡ f v
      shifted zero t m b q rest = absurd (later_place k v apart m b q)
      shifted (suc j) t m b q rest = past_kept (eqb k w) k j (kept (k + 1) n) t ∙ rest j (next_place k v j m q)

-- ---- a row for each link that is set
module _ (set : ℕ → Bool) (f : ℕ → Link → Row) where
  abbrev rows_if : ℕ × Link → List Row
  rows_if (e, link) = if set e then f e link ∷ [] else []

  set_at : (links : List Link) (flags : List Bool) (k i e : ℕ) (link : Link) → ((i e : ℕ) → e ≡ k + i → set e ≡ unwrap_or (slice_get flags i) false)
      → e ≡ k + i → slice_get links i ≡ Some link → Has flags i
      → row_at (flat_map rows_if (enumerate_from k links)) (active_before flags i) ≡ f e link
  set_at [] flags k i e link h same at s = absurd (none-some link at)
  set_at (l ∷ links) [] k i e link h same at s = absurd (none-some true s)
  set_at (l ∷ links) (true ∷ flags) k zero e link h same at s =
      ap (λ (b : Bool). row_at ((if b then f k l ∷ [] else []) ++ flat_map rows_if (enumerate_from (k + 1) links)) 0) (h 0 k (omega arith))
      ∙ (ap (f k) (same_Some l link at) ∙ ap (λ (j : ℕ). f j link) (let t : k ≡ e = omega arith in t))
  set_at (l ∷ links) (true ∷ flags) k (suc i) e link h same at s =
      ap (λ (b : Bool). row_at ((if b then f k l ∷ [] else []) ++ flat_map rows_if (enumerate_from (k + 1) links)) (suc (active_before flags i))) (h 0 k (omega arith))
      ∙ set_at links flags (k + 1) i e link (λ j d t. h (suc j) d (omega arith)) (omega arith) at s
  set_at (l ∷ links) (false ∷ flags) k zero e link h same at s = absurd (not_set s)
    where
      not_set : Some false ≡ Some true → ⊥
      not_set e = cc
  set_at (l ∷ links) (false ∷ flags) k (suc i) e link h same at s =
      ap (λ (b : Bool). row_at ((if b then f k l ∷ [] else []) ++ flat_map rows_if (enumerate_from (k + 1) links)) (active_before flags i)) (h 0 k (omega arith))
      ∙ set_at links flags (k + 1) i e link (λ j d t. h (suc j) d (omega arith)) (omega arith) at s

-- ---- the rows
not_first : (v w : ℕ) → v ≢ w → (v < w → 0 ≡ v + 1) → (w < v → 0 ≡ v) → ⊥
not_first v w n before after = by_order (cases_order v w)
  where
    by_order : (v ≡ w) ⊎ ((v < w) ⊎ (w < v)) → ⊥
    by_order (inl s) = n s
    by_order (inr (inl b)) = let a = before b in absurd (omega arith)
    by_order (inr (inr b)) = let a = after b in absurd (omega arith)

module _ (net : Network) (sets : Sets) (rate : ℚ) (pattern : Pattern) where
  abbrev set : ℕ → Bool
  set e = unwrap_or (slice_get sets.active e) false

  abbrev pub link_row : ℕ → Link → Row
  link_row e link = row (unknowns net sets) (link_factor e link (unwrap_or (slice_get pattern e) None)) 0ℚ

  abbrev pub source_row : Row
  source_row = row (unknowns net sets) (source_factor net.source) 1ℚ

  abbrev node_numbers : List ℕ
  node_numbers = filter (λ v. not (eqb v net.sink)) (range_with_len 0 net.nodes)

  abbrev node_rows : List Row
  node_rows = map (node_row net sets rate) node_numbers

  abbrev rows_of_links : List Row
  rows_of_links = flat_map (link_rows net sets pattern) (enumerate_from 0 net.links)

  pub source_at : row_at (equations net sets rate pattern) 0 ≡ source_row
  unfolding equations
  source_at = refl

  -- a node before the sink stands one later than its number, and one after the sink at its number
  pub node_at : (v i : ℕ) → v < net.nodes → v ≢ net.sink → (v < net.sink → i ≡ v + 1) → (net.sink < v → i ≡ v) → row_at (equations net sets rate pattern) i ≡ node_row net sets rate v
  unfolding equations
  node_at v zero inside apart before after = absurd (not_first v net.sink apart before after)
  node_at v (suc i) inside apart before after = kept_at (node_row net sets rate) net.sink rows_of_links net.nodes 0 v i (omega arith) (omega arith) apart (record {
    left_out_before = λ h. absurd (omega arith);
    left_out_here = λ h g. let a = after g in omega arith;
    left_out_later = λ h. let a = before h in omega arith;
  })

  module _ (sink : net.sink < net.nodes) where
    node_rows-length : suc (length node_rows) ≡ net.nodes
    node_rows-length =
        let b : length node_rows ≡ length node_numbers = length-map node_numbers (node_row net sets rate) in
        let c : suc (length node_numbers) ≡ net.nodes = filtered-length net.nodes 0 net.sink (omega arith) (omega arith) in
        omega arith

    pub link_at : (e i : ℕ) (link : Link) → IsLink net e link → Has sets.active e → i ≡ net.nodes + active_before sets.active e
        → row_at (equations net sets rate pattern) i ≡ link_row e link
    unfolding equations
    link_at e zero link is_link active same = let c = node_rows-length in absurd (omega arith)
    link_at e (suc i) link is_link active same =
        got-past node_rows rows_of_links i (active_before sets.active e) [] (let c = node_rows-length in omega arith)
        ∙ set_at set link_row net.links sets.active 0 e e link (λ i d s. ap set (let t : d ≡ i = omega arith in t)) (omega arith) is_link active

    module _ (count : length sets.active ≡ length net.links) where
      pub rows-length : length (equations net sets rate pattern) ≡ net.nodes + flow_count net sets
      unfolding equations
      rows-length =
          let a : length (node_rows ++ rows_of_links) ≡ length node_rows + length rows_of_links = length-append node_rows rows_of_links in
          let b = node_rows-length in
          let d : length rows_of_links ≡ flow_count net sets = set_rows-length set link_row net.links sets.active 0 0 count (λ i e same. ap set (let s : e ≡ i = omega arith in s)) in
          omega arith

      pub as_many_rows : length (equations net sets rate pattern) ≡ length (unknowns net sets)
      as_many_rows = rows-length ∙ sym (unknowns-length net sets)
