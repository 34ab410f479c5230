-- The rows of the nodes, filled link by link, the sink left out.
use Rattle.std.proofs.Common.{◌≡◌, ◌≢◌, ℕ, zero, suc, ◌+◌, ◌<◌, ◌≤◌, List, [], length, set, ◌⊎◌, inl, inr, Bool, true, false, not, eqb, Some, refl, sym, ap}
use Rattle.std.proofs.Common.{subst, ◌∙◌, arith, slice_get, if◌then◌else◌, Option}
use Rattle.nf_thin_one.proofs.Common.{cases_order, cases_lt, eqb_tells, ℚ, 0ℚ, 1ℚ, neg_ℚ, ◌-ℚ◌, number_at, Has, Link, Network, IsLink, Sets, Pattern, Row}
use Rattle.nf_thin_one.proofs.Common.{row_at, unknowns, one_if, leaves_less_enters, node_row, equations, unknowns-length, ChangesRow, IsFilledTo, IsRowOf}
use Rattle.nf_thin_one.proofs.Common.{SetsAt, AddsFlow}
use Rattle.nf_thin_one.proofs.Cells.{blank_row, set_zero}
use Rattle.nf_thin_one.proofs.LinkEntries.{no_step, unit_leaves, unit_enters, unit_neither}
use Rattle.nf_thin_one.proofs.ActivePlaces.{active_before, none_before, one_more_before, none_more_before, all_before, before_within}
use Rattle.nf_thin_one.proofs.EquationRows.{node_at, as_many_rows}
use Rattle.nf_thin_one.proofs.NodeEntries.{HasFactorsTo, factors_first, factors_more, factors_same, row_complete}

pub node_inside : (v w n : ℕ) → v ≡ w → v < n → w < n
node_inside v w n same b = omega arith

-- ---- which row is whose
module _ (sink : ℕ) where
  row_before : (v : ℕ) → v < sink → IsRowOf sink v (v + 1)
  row_before v b = record { apart = λ s. absurd (omega arith); before_sink = λ l. refl; past_sink = λ l. absurd (omega arith) }

  row_past : (v : ℕ) → sink < v → IsRowOf sink v v
  row_past v b = record { apart = λ s. absurd (omega arith); before_sink = λ l. absurd (omega arith); past_sink = λ l. refl }

  row_by : (v i : ℕ) → IsRowOf sink v i → ((v < sink) × (i ≡ v + 1)) ⊎ ((sink < v) × (i ≡ v))
  row_by v i r = by_order (cases_order v sink)
    where
      by_order : (v ≡ sink) ⊎ ((v < sink) ⊎ (sink < v)) → ((v < sink) × (i ≡ v + 1)) ⊎ ((sink < v) × (i ≡ v))
      by_order (inl s) = absurd (r.apart s)
      by_order (inr (inl b)) = inl (b, r.before_sink b)
      by_order (inr (inr b)) = inr (b, r.past_sink b)

  -- a row is that of one node
  same_node : (v w i : ℕ) → IsRowOf sink v i → IsRowOf sink w i → v ≡ w
  same_node v w i p q = go (row_by v i p) (row_by w i q)
    where
      go : ((v < sink) × (i ≡ v + 1)) ⊎ ((sink < v) × (i ≡ v)) → ((w < sink) × (i ≡ w + 1)) ⊎ ((sink < w) × (i ≡ w)) → v ≡ w
      go (inl a) (inl b) = let l = a.1 in let m = b.1 in omega arith
      go (inl a) (inr b) = let k = a.0 in let l = a.1 in let m = b.0 in let n = b.1 in absurd (omega arith)
      go (inr a) (inl b) = let k = a.0 in let l = a.1 in let m = b.0 in let n = b.1 in absurd (omega arith)
      go (inr a) (inr b) = sym a.1 ∙ b.1

  not_first : (v i : ℕ) → IsRowOf sink v i → 0 < i
  not_first v i p = go (row_by v i p)
    where
      go : ((v < sink) × (i ≡ v + 1)) ⊎ ((sink < v) × (i ≡ v)) → 0 < i
      go (inl a) = let l = a.1 in omega arith
      go (inr a) = let k = a.0 in let l = a.1 in omega arith

  row_inside : (n v i : ℕ) → sink < n → v < n → IsRowOf sink v i → i < n
  row_inside n v i s b p = go (row_by v i p)
    where
      go : ((v < sink) × (i ≡ v + 1)) ⊎ ((sink < v) × (i ≡ v)) → i < n
      go (inl a) = let k = a.0 in let l = a.1 in omega arith
      go (inr a) = let l = a.1 in omega arith

  row_of : (v : ℕ) → v ≢ sink → (i : ℕ) × IsRowOf sink v i
  row_of v apart = go (cases_order v sink)
    where
      go : (v ≡ sink) ⊎ ((v < sink) ⊎ (sink < v)) → (i : ℕ) × IsRowOf sink v i
      go (inl s) = absurd (apart s)
      go (inr (inl b)) = (v + 1, row_before v b)
      go (inr (inr b)) = (v, row_past v b)

  -- each row before number n but the first one is that of a node
  node_of : (n i : ℕ) → i < n → 0 < i → (v : ℕ) × (v < n) × IsRowOf sink v i
  node_of n zero b some = absurd (omega arith)
  node_of n (suc j) b some = go (cases_lt sink (suc j))
    where
      go : (sink < suc j) ⊎ (suc j ≤ sink) → (v : ℕ) × (v < n) × IsRowOf sink v (suc j)
      go (inl l) = (suc j, b, row_past (suc j) l)
      go (inr l) = (j, omega arith, subst (λ (i : ℕ). IsRowOf sink j i) (let s : j + 1 ≡ suc j = omega arith in s) (row_before j (omega arith)))

-- ---- the two numbers of a link
module _ (sink column : ℕ) (link : Link) (old : List Row) where
  pub flow_added : (once twice : List Row) (x y : ℚ) → not (eqb link.tail link.head) ≡ true → x ≡ 1ℚ → y ≡ neg_ℚ 1ℚ
      → SetsAt sink link.tail column x old once → SetsAt sink link.head column y once twice → AddsFlow sink column link old twice
  flow_added once twice x y told one minus a b = record { nodes = at; others = λ i t h. b.others i h ∙ a.others i t; count = b.count ∙ a.count }
    where
      apart : link.tail ≢ link.head
      apart = by_test (eqb_tells link.tail link.head)
        where
          no : true ≡ false → ⊥
          no e = cc

          by_test : ((eqb link.tail link.head ≡ true) × (link.tail ≡ link.head)) ⊎ ((eqb link.tail link.head ≡ false) × (link.tail ≢ link.head))
              → link.tail ≢ link.head
          by_test (inl s) = absurd (no (sym told ∙ ap not s.0))
          by_test (inr n) = n.1

      at : (v i : ℕ) → IsRowOf sink v i → number_at (row_at old i) column ≡ 0ℚ → row_at twice i ≡ set (row_at old i) column (leaves_less_enters (Some link) v)
      at v i r none = by_ends (eqb_tells link.tail v) (eqb_tells link.head v)
        where
          by_ends : ((eqb link.tail v ≡ true) × (link.tail ≡ v)) ⊎ ((eqb link.tail v ≡ false) × (link.tail ≢ v))
              → ((eqb link.head v ≡ true) × (link.head ≡ v)) ⊎ ((eqb link.head v ≡ false) × (link.head ≢ v))
              → row_at twice i ≡ set (row_at old i) column (leaves_less_enters (Some link) v)
          by_ends (inl t) (inl h) = absurd (apart (t.1 ∙ sym h.1))
          by_ends (inl t) (inr h) = b.others i (λ q. h.1 (same_node sink link.head v i q r))
              ∙ (a.here i (subst (λ (w : ℕ). IsRowOf sink w i) (sym t.1) r)
              ∙ ap (set (row_at old i) column) (one ∙ unit_leaves (eqb link.tail v) (eqb link.head v) t.0 h.0))
          by_ends (inr t) (inl h) = b.here i (subst (λ (w : ℕ). IsRowOf sink w i) (sym h.1) r)
              ∙ (ap (λ (row : Row). set row column y) (a.others i (λ q. t.1 (same_node sink link.tail v i q r)))
              ∙ ap (set (row_at old i) column) (minus ∙ unit_enters (eqb link.tail v) (eqb link.head v) t.0 h.0))
          by_ends (inr t) (inr h) = b.others i (λ q. h.1 (same_node sink link.head v i q r)) ∙ (a.others i (λ q. t.1 (same_node sink link.tail v i q r))
              ∙ (sym (set_zero (row_at old i) column none) ∙ ap (set (row_at old i) column) (unit_neither (eqb link.tail v) (eqb link.head v) t.0 h.0)))

  pub none_added : not (eqb link.tail link.head) ≡ false → AddsFlow sink column link old old
  none_added told = record {
    nodes = λ v i r none. sym (set_zero (row_at old i) column none)
        ∙ ap (set (row_at old i) column) (no_step (eqb link.tail v) ∙ ap (λ (w : ℕ). one_if (eqb link.tail v) -ℚ one_if (eqb w v)) same);
    others = λ i t h. refl;
    count = refl;
  }
    where
      same : link.tail ≡ link.head
      same = by_test (eqb_tells link.tail link.head)
        where
          by_test : ((eqb link.tail link.head ≡ true) × (link.tail ≡ link.head)) ⊎ ((eqb link.tail link.head ≡ false) × (link.tail ≢ link.head))
              → link.tail ≡ link.head
          by_test (inl s) = s.1
          by_test (inr n) = absurd (no (sym told ∙ ap not n.0))
            where
              no : false ≡ true → ⊥
              no e = cc

-- ---- link after link
module _ (net : Network) (sets : Sets) where
  -- the rows of the nodes have the coefficients of the links before number e, and the other rows are as they were; the next column has this number
  pub record HasFlowsTo (old now : List Row) (e column : ℕ) : Type 0 where
    pub nodes : (v i : ℕ) → v < net.nodes → IsRowOf net.sink v i → HasFactorsTo net sets v (row_at now i) e
    pub others : (i : ℕ) → ((v : ℕ) → v < net.nodes → IsRowOf net.sink v i → ⊥) → row_at now i ≡ row_at old i
    pub next : column ≡ net.nodes + active_before sets.active e
    pub count : length now ≡ length old

  module _ (rate : ℚ) (old : List Row) (sink : net.sink < net.nodes) (count : length sets.active ≡ length net.links)
      (first : (pattern : Pattern) → IsFilledTo (equations net sets rate pattern) old 1) where
    size : length old ≡ length (unknowns net sets)
    size = let f : IsFilledTo (equations net sets rate []) old 1 = first [] in f.count ∙ as_many_rows net sets rate [] sink count

    pub flows_first : HasFlowsTo old old 0 net.nodes
    flows_first = record { nodes = at; others = λ i n. refl; next = let n = none_before sets.active in omega arith; count = refl }
      where
        at : (v i : ℕ) → v < net.nodes → IsRowOf net.sink v i → HasFactorsTo net sets v (row_at old i) 0
        at v i b r =
            let f : IsFilledTo (equations net sets rate []) old 1 = first [] in
            let some = not_first net.sink v i r in
            let inside = row_inside net.sink net.nodes v i sink b r in
            let s = size in
            let u = unknowns-length net sets in
            subst (λ (row : Row). HasFactorsTo net sets v row 0)
            (sym (f.after i (omega arith) (omega arith) ∙ ap blank_row (as_many_rows net sets rate [] sink count))) (factors_first net sets v)

    module _ (now : List Row) (e column : ℕ) (h : HasFlowsTo old now e column) where
      pub end_inside : (v : ℕ) → v < net.nodes → v < length now
      end_inside v b = let c = h.count in let s = size in let u = unknowns-length net sets in omega arith

      pub column_inside : Has sets.active e → column < length now
      column_inside active =
          let a = before_within sets.active 0 e active in let u = unknowns-length net sets in let c = h.count in let n = h.next in let s = size in omega arith

      pub flow_more : (new : List Row) (link : Link) → Has sets.active e → IsLink net e link → link.tail < net.nodes → link.head < net.nodes
          → AddsFlow net.sink column link now new → HasFlowsTo old new (e + 1) (column + 1)
      flow_more new link active is_link tail head a = record {
        nodes = at;
        others = λ i n. a.others i (n link.tail tail) (n link.head head) ∙ h.others i n;
        next = let n = h.next in let m = one_more_before sets.active e active in omega arith;
        count = a.count ∙ h.count;
      }
        where
          at : (v i : ℕ) → v < net.nodes → IsRowOf net.sink v i → HasFactorsTo net sets v (row_at new i) (e + 1)
          at v i b r =
              let f : HasFactorsTo net sets v (row_at now i) e = h.nodes v i b r in
              subst (λ (row : Row). HasFactorsTo net sets v row (e + 1))
              (ap (λ (j : ℕ). set (row_at now i) j (leaves_less_enters (Some link) v)) (sym h.next)
              ∙ sym (a.nodes v i r (f.rest column (let n = h.next in omega arith))))
              (factors_more net sets v (row_at now i) e (leaves_less_enters (Some link) v) active
              (ap (λ (o : Option Link). leaves_less_enters o v) (sym is_link)) f)

      pub flow_same : slice_get sets.active e ≡ Some false → HasFlowsTo old now (e + 1) column
      flow_same idle = record {
        nodes = λ v i b r. factors_same net sets v (row_at now i) e idle (h.nodes v i b r);
        others = h.others;
        next = let n = h.next in let m = none_more_before sets.active e idle in omega arith;
        count = h.count;
      }

      -- the right side of the source's row completes the rows
      module _ (new : List Row) (all : length sets.active ≤ e) (source : net.source < net.nodes) (apart : net.source ≢ net.sink)
          (supplied : (row : ℕ) → IsRowOf net.sink net.source row → ChangesRow now new row (set (row_at now row) (length now) rate)) where
        source_row : (i : ℕ) × IsRowOf net.sink net.source i
        source_row = row_of net.sink net.source apart

        changed : ChangesRow now new source_row.0 (set (row_at now source_row.0) (length now) rate)
        changed = supplied source_row.0 source_row.1

        wide : length now ≡ length (unknowns net sets)
        wide = h.count ∙ size

        node_here : (v i : ℕ) → v < net.nodes → IsRowOf net.sink v i → row_at new i ≡ node_row net sets rate v
        node_here v i b r = by_source (eqb_tells v net.source)
          where
            factors : HasFactorsTo net sets v (row_at now i) e
            factors = h.nodes v i b r

            no_right : number_at (row_at now i) (length (unknowns net sets)) ≡ 0ℚ
            no_right = factors.rest (length (unknowns net sets)) (let a = all_before sets.active 0 e all in let u = unknowns-length net sets in omega arith)

            by_source : ((eqb v net.source ≡ true) × (v ≡ net.source)) ⊎ ((eqb v net.source ≡ false) × (v ≢ net.source))
                → row_at new i ≡ node_row net sets rate v
            by_source (inl s) =
                let c : ChangesRow now new i (set (row_at now i) (length now) rate) = supplied i (subst (λ (w : ℕ). IsRowOf net.sink w i) s.1 r) in
                c.here ∙ (ap (λ (j : ℕ). set (row_at now i) j rate) wide
                ∙ row_complete net sets v (row_at now i) e rate rate all (ap (λ (t : Bool). if t then rate else 0ℚ) (sym s.0)) factors)
            by_source (inr s) =
                changed.others i (λ t. s.1 (same_node net.sink v net.source i r (subst (λ (k : ℕ). IsRowOf net.sink net.source k) (sym t) source_row.1)))
                ∙ (sym (set_zero (row_at now i) (length (unknowns net sets)) no_right)
                ∙ row_complete net sets v (row_at now i) e rate 0ℚ all (ap (λ (t : Bool). if t then rate else 0ℚ) (sym s.0)) factors)

        pub nodes_done : (pattern : Pattern) → IsFilledTo (equations net sets rate pattern) new net.nodes
        nodes_done pattern = record { count = changed.count ∙ (h.count ∙ f.count); before = before; after = after }
          where
            f : IsFilledTo (equations net sets rate pattern) old 1
            f = first pattern

            before : (k : ℕ) → k < net.nodes → row_at new k ≡ row_at (equations net sets rate pattern) k
            before zero b = changed.others 0 (λ s. (let n = not_first net.sink net.source source_row.0 source_row.1 in absurd (omega arith)))
                ∙ (h.others 0 (λ v c r. (let n = not_first net.sink v 0 r in absurd (omega arith))) ∙ f.before 0 (let s : 0 < 1 = omega arith in s))
            before (suc j) b = node_row_at (node_of net.sink net.nodes (suc j) b (omega arith))
              where
                node_row_at : (v : ℕ) × (v < net.nodes) × IsRowOf net.sink v (suc j) → row_at new (suc j) ≡ row_at (equations net sets rate pattern) (suc j)
                node_row_at (v, inside, r) =
                    node_here v (suc j) inside r ∙ sym (node_at net sets rate pattern v (suc j) inside r.apart r.before_sink r.past_sink)

            after : (k : ℕ) → net.nodes ≤ k → k < length new → row_at new k ≡ blank_row (length (equations net sets rate pattern))
            after k low b =
                let n = row_inside net.sink net.nodes net.source source_row.0 sink source source_row.1 in
                let c = changed.count in
                let d = h.count in
                changed.others k (λ s. absurd (omega arith))
                ∙ (h.others k (λ v inside r. (let m = row_inside net.sink net.nodes v k sink inside r in absurd (omega arith)))
                ∙ f.after k (omega arith) (omega arith))

        pub size_kept : length new ≡ length old
        size_kept = changed.count ∙ h.count
