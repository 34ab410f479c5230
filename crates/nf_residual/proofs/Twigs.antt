-- The tree of paths: adding paths changes no earlier path.
use Rattle.std.proofs.Common.{◌≡◌, ℕ, zero, suc, ◌+◌, ◌-◌, ◌<◌, ◌≤◌, List, [], ◌∷◌, ◌++◌, reverse, length, ◌⊎◌, inl, inr, ⊎_elim, Option, Some, None}
use Rattle.std.proofs.Common.{option_map, refl, sym, ap, subst, ◌∙◌, append_assoc, append-nil, arith, set, map, take, get_or}
use Rattle.nf_residual.proofs.Common.{map-set, map-append, reverse-append, length_push, length-map, take_more, unwrap_or-slice_get, ℚ, Step, Reach, Known}
use Rattle.nf_residual.proofs.Common.{known_at, Twig, first_twig, twig_at, steps_back, way_at, extended_by, twig_after, IsPathTree, Places, place_at}
use Rattle.nf_residual.proofs.Common.{ArePathsBelow, known_by}

-- ---- one more path
at_end : (tree : List Twig) (twig : Twig) (i : ℕ) → (twig_at (tree ++ twig ∷ []) i ≡ twig_at tree i) ⊎ ((i ≡ length tree) × (twig_at (tree ++ twig ∷ []) i ≡ twig))
at_end [] twig zero = inr (refl, refl)
at_end [] twig (suc i) = inl refl
at_end (t ∷ tree) twig zero = inl refl
at_end (t ∷ tree) twig (suc i) = ⊎_elim (λ e. inl e) (λ (w : (i ≡ length tree) × (twig_at (tree ++ twig ∷ []) i ≡ twig)). inr (ap suc w.0, w.1)) (at_end tree twig i)

pub last_twig : (tree : List Twig) (twig : Twig) → twig_at (tree ++ twig ∷ []) (length tree) ≡ twig
last_twig [] twig = refl
last_twig (t ∷ tree) twig = last_twig tree twig

pub twig_kept : (tree more : List Twig) (i : ℕ) → i < length tree → twig_at (tree ++ more) i ≡ twig_at tree i
twig_kept [] more i h = absurd (omega arith)
twig_kept (t ∷ tree) more zero h = refl
twig_kept (t ∷ tree) more (suc i) h = twig_kept tree more i (omega arith)

-- A path with steps exists in the tree.
inside : (tree : List Twig) (i n : ℕ) → (twig_at tree i).count ≡ suc n → i < length tree
inside [] i n h = absurd (omega arith)
inside (t ∷ tree) zero n h = omega arith
inside (t ∷ tree) (suc i) n h = let k : i < length tree = inside tree i n h in omega arith

-- ---- earlier paths are unchanged
pub steps_kept : (tree more : List Twig) → IsPathTree tree → (n i : ℕ) → i < length tree → steps_back n (tree ++ more) i ≡ steps_back n tree i
steps_kept tree more good zero i h = refl
steps_kept tree more good (suc n) i h =
    let same : twig_at (tree ++ more) i ≡ twig_at tree i = twig_kept tree more i h in
    let earlier : (twig_at tree i).before ≤ i = good.earlier i in
    ap (λ (t : Twig). steps_back n (tree ++ more) t.before ++ t.last ∷ []) same
    ∙ ap (λ (s : List Step). s ++ (twig_at tree i).last ∷ []) (steps_kept tree more good n (twig_at tree i).before (omega arith))

pub way_kept : (tree more : List Twig) (i : ℕ) → IsPathTree tree → i < length tree → way_at (tree ++ more) i ≡ way_at tree i
way_kept tree more i good h =
    ap (λ (t : Twig). record { distance = t.distance; steps = steps_back t.count (tree ++ more) i }) (twig_kept tree more i h)
    ∙ ap (λ (s : List Step). record { distance = (twig_at tree i).distance; steps = s }) (steps_kept tree more good (twig_at tree i).count i h)

pub way_added : (tree : List Twig) (way : ℕ) (step : Step) (distance : ℚ) → IsPathTree tree → way < length tree
    → way_at (tree ++ twig_after tree way step distance ∷ []) (length tree) ≡ extended_by (way_at tree way) step distance
way_added tree way step distance good h =
    ap (λ (t : Twig). record { distance = t.distance; steps = steps_back t.count (tree ++ twig_after tree way step distance ∷ []) (length tree) })
    (last_twig tree (twig_after tree way step distance))
    ∙ ap (λ (t : Twig). record {
      distance = distance;
      steps = steps_back (twig_at tree way).count
          (tree ++ twig_after tree way step distance ∷ []) t.before ++ t.last ∷ [];
    }) (last_twig tree (twig_after tree way step distance))
    ∙ ap (λ (s : List Step). record { distance = distance; steps = s ++ step ∷ [] }) (steps_kept tree (twig_after tree way step distance ∷ []) good (twig_at tree way).count way h)

-- ---- the extended list is a tree
pub IsTree-first : IsPathTree (first_twig ∷ [])
IsTree-first = record {
  earlier = λ i. subst (λ (t : Twig). t.before ≤ i) (sym (everywhere i)) (omega arith);
  fewer = λ i n e. absurd (none n (sym (ap (λ (t : Twig). t.count) (everywhere i)) ∙ e));
  few = λ i. subst (λ (t : Twig). t.count ≤ i) (sym (everywhere i)) (omega arith);
}
  where
    everywhere : (i : ℕ) → twig_at (first_twig ∷ []) i ≡ first_twig
    everywhere zero = refl
    everywhere (suc i) = refl

    none : (n : ℕ) → 0 ≡ suc n → ⊥
    none n e = omega arith

module _ (tree : List Twig) (good : IsPathTree tree) (way : ℕ) (step : Step) (distance : ℚ) (h : way < length tree) where
  abbrev twig : Twig
  twig = twig_after tree way step distance

  abbrev more : List Twig
  more = tree ++ twig ∷ []

  abbrev Cases : ℕ → Type 0
  Cases i = (twig_at more i ≡ twig_at tree i) ⊎ ((i ≡ length tree) × (twig_at more i ≡ twig))

  earlier_than : (i : ℕ) → Cases i → (twig_at more i).before ≤ i
  earlier_than i (inl e) = subst (λ (t : Twig). t.before ≤ i) (sym e) (good.earlier i)
  earlier_than i (inr e) = let at : i ≡ length tree = e.0 in subst (λ (t : Twig). t.before ≤ i) (sym e.1) (omega arith)

  few_than : (i : ℕ) → Cases i → (twig_at more i).count ≤ i
  few_than i (inl e) = subst (λ (t : Twig). t.count ≤ i) (sym e) (good.few i)
  few_than i (inr e) = let at : i ≡ length tree = e.0 in let few : (twig_at tree way).count ≤ way = good.few way in subst (λ (t : Twig). t.count ≤ i) (sym e.1) (omega arith)

  same_before : (i j n : ℕ) → j < length tree → j ≡ i → (twig_at tree j).count ≡ n → (twig_at more i).count ≡ n
  same_before i j n b e f = ap (λ (k : ℕ). (twig_at more k).count) (sym e) ∙ ap (λ (t : Twig). t.count) (twig_kept tree (twig ∷ []) j b) ∙ f

  fewer_than : (i n : ℕ) → Cases i → (twig_at more i).count ≡ suc n → (twig_at more (twig_at more i).before).count ≡ n
  fewer_than i n (inl e) f =
      let count : (twig_at tree i).count ≡ suc n = sym (ap (λ (t : Twig). t.count) e) ∙ f in
      let there : i < length tree = inside tree i n count in
      let earlier : (twig_at tree i).before ≤ i = good.earlier i in
      same_before (twig_at more i).before (twig_at tree i).before n (omega arith) (sym (ap (λ (t : Twig). t.before) e)) (good.fewer i n count)
  fewer_than i n (inr e) f =
      let count : suc (twig_at tree way).count ≡ suc n = sym (ap (λ (t : Twig). t.count) e.1) ∙ f in
      same_before (twig_at more i).before way n h (sym (ap (λ (t : Twig). t.before) e.1)) (omega arith)

  pub IsTree-added : IsPathTree (tree ++ twig_after tree way step distance ∷ [])
  IsTree-added = record {
    earlier = λ i. earlier_than i (at_end tree twig i);
    fewer = λ i n f. fewer_than i n (at_end tree twig i) f;
    few = λ i. few_than i (at_end tree twig i);
  }

pub IsTree-pushed : (tree new : List Twig) (way n : ℕ) (step : Step) (distance : ℚ) → IsPathTree tree → way < length tree → n ≡ (twig_at tree way).count
    → new ≡ tree ++ record { distance = distance; count = n + 1; last = step; before = way } ∷ [] → IsPathTree new
IsTree-pushed tree new way n step distance good h e made =
    let count : n + 1 ≡ suc (twig_at tree way).count = omega arith in
    subst (λ (t : List Twig). IsPathTree t) (sym (made ∙ ap (λ (k : ℕ). tree ++ record { distance = distance; count = k; last = step; before = way } ∷ [])
    count)) (IsTree-added tree good way step distance h)

pub before_within : (tree : List Twig) (way : ℕ) → IsPathTree tree → way < length tree → (twig_at tree way).before < length tree
before_within tree way good h = let earlier : (twig_at tree way).before ≤ way = good.earlier way in omega arith

-- ---- the number of steps
pub steps_are : (n : ℕ) (tree : List Twig) (i : ℕ) → length (steps_back n tree i) ≡ n
steps_are zero tree i = refl
steps_are (suc n) tree i =
    let one : length (steps_back n tree (twig_at tree i).before ++ (twig_at tree i).last ∷ []) ≡ length (steps_back n tree (twig_at tree i).before) + 1 = length_push _ _ in
    let rest : length (steps_back n tree (twig_at tree i).before) ≡ n = steps_are n tree (twig_at tree i).before in
    omega arith

-- ---- the steps are read from the last one back
pub record ReadsOn (tree : List Twig) (way : ℕ) (steps : List Step) (here k : ℕ) : Type 0 where
  pub same : steps_back ((twig_at tree way).count - k) tree here ++ reverse steps ≡ (way_at tree way).steps
  pub within : here < length tree

module _ (tree : List Twig) (way : ℕ) where
  pub reads_first : (steps : List Step) → steps ≡ [] → way < length tree → ReadsOn tree way steps way 0
  reads_first steps e h = record {
    same = let all : (twig_at tree way).count - 0 ≡ (twig_at tree way).count = omega arith in
        ap (λ (s : List Step). steps_back ((twig_at tree way).count - 0) tree way ++ reverse s) e ∙ append-nil _ ∙ ap (λ (n : ℕ). steps_back n tree way) all;
    within = h;
  }

  module _ (steps : List Step) (here k : ℕ) (on : ReadsOn tree way steps here k) where
    pub reads_more : (next : List Step) (before : ℕ) → k < (twig_at tree way).count → next ≡ steps ++ (twig_at tree here).last ∷ []
        → before ≡ (twig_at tree here).before → before < length tree
        → ReadsOn tree way next before (k + 1)
    reads_more next before h e f b = record {
      same =
          let one : (twig_at tree way).count - k ≡ suc ((twig_at tree way).count - (k + 1)) = omega arith in
          ap (λ (i : ℕ). steps_back ((twig_at tree way).count - (k + 1)) tree i ++ reverse next) f
          ∙ ap (λ (s : List Step). steps_back ((twig_at tree way).count - (k + 1)) tree (twig_at tree here).before ++ s)
          (ap (λ (s : List Step). reverse s) e ∙ reverse-append steps ((twig_at tree here).last ∷ []))
          ∙ sym (append_assoc (steps_back ((twig_at tree way).count - (k + 1)) tree (twig_at tree here).before) ((twig_at tree here).last ∷ []) (reverse steps))
          ∙ sym (ap (λ (n : ℕ). steps_back n tree here ++ reverse steps) one)
          ∙ on.same;
      within = b;
    }

    pub reads_all : (all : List Step) → (twig_at tree way).count ≤ k → all ≡ reverse steps → all ≡ (way_at tree way).steps
    reads_all all h e = let none : (twig_at tree way).count - k ≡ 0 = omega arith in e ∙ sym (ap (λ (n : ℕ). steps_back n tree here ++ reverse steps) none) ∙ on.same

-- ---- the known table by indices
pub known_at-by : (tree : List Twig) (places : Places) (v : ℕ) → known_at (known_by tree places) v ≡ option_map (way_at tree) (place_at places v)
known_at-by tree [] v = refl
known_at-by tree (p ∷ places) zero = refl
known_at-by tree (p ∷ places) (suc v) = known_at-by tree places v

pub known_kept : (tree added : List Twig) (places : Places) → IsPathTree tree → ArePathsBelow (length tree) places → known_by (tree ++ added) places ≡ known_by tree places
known_kept tree added [] good h = refl
known_kept tree added (None ∷ places) good h = ap (λ (k : Known). None ∷ k) (known_kept tree added places good (λ v way e. h (suc v) way e))
known_kept tree added (Some way ∷ places) good h =
    ap (λ (r : Reach). Some r ∷ known_by (tree ++ added) places) (way_kept tree added way good (h 0 way refl))
    ∙ ap (λ (k : Known). Some (way_at tree way) ∷ k) (known_kept tree added places good (λ v way e. h (suc v) way e))

pub within_known : (tree : List Twig) (places : Places) (v : ℕ) → v < length places → v < length (known_by tree places)
within_known tree places v h = let long : length (known_by tree places) ≡ length places = length-map places (option_map (way_at tree)) in omega (arith, h, long)

pub known_set : (tree : List Twig) (places : Places) (v way : ℕ) → known_by tree (set places v (Some way)) ≡ set (known_by tree places) v (Some (way_at tree way))
known_set tree places v way = map-set (option_map (way_at tree)) places v (Some way)

-- The lengths of the paths, with one more.
pub distances_more : (known : Known) (so_far next : List (Option ℚ)) (k : ℕ) (distance : Option ℚ) → k < length known
    → so_far ≡ map (option_map (λ (reach : Reach). reach.distance)) (take k known)
    → distance ≡ option_map (λ (reach : Reach). reach.distance) (known_at known k) → next ≡ so_far ++ distance ∷ []
    → next ≡ map (option_map (λ (reach : Reach). reach.distance)) (take (k + 1) known)
distances_more known so_far next k distance h e d made =
    made ∙ ap (λ (x : Option ℚ). so_far ++ x ∷ []) (d ∙ ap (option_map (λ (reach : Reach). reach.distance)) (unwrap_or-slice_get known k None))
    ∙ ap (λ (l : List (Option ℚ)). l ++ option_map (λ (reach : Reach). reach.distance) (get_or known k None) ∷ []) e
    ∙ sym (ap (map (option_map (λ (reach : Reach). reach.distance))) (take_more known k None h)
    ∙ map-append (option_map (λ (reach : Reach). reach.distance)) (take k known) (get_or known k None ∷ []))
