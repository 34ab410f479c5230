-- The points of the outflow, exit by exit.
use Rattle.std.proofs.Common.{◌≡◌, ℕ, ◌+◌, ◌<◌, Bool, true, false, List, [], ◌∷◌, ◌++◌, length, get_or, drop, ap, ◌∙◌, sym, append_assoc}
use Rattle.nf_load.proofs.Common.{at_drop_more, ℚ, Point, is_same, Exit, outflow_from}

module _ (all : List Exit) (i : ℕ) (one : Exit) (front whole : List Point) (last : ℚ) (below : i < length all) (is : one ≡ get_or all i one)
    (so_far : front ++ outflow_from last (drop i all) ≡ whole) where
  abbrev by_test : Bool → List Point
  by_test b = elim b [
    | true ↦ outflow_from last (drop (i + 1) all)
    | false ↦ (one.exit, one.waits.amount) ∷ outflow_from one.exit (drop (i + 1) all)
  ]

  with_test : (b : Bool) → is_same last one.exit ≡ b → front ++ by_test b ≡ whole
  with_test b e =
      ap (λ (t : Bool). front ++ by_test t) (sym e)
      ∙ ap (λ (l : Exit). front ++ outflow_from last (l ∷ drop (i + 1) all)) is
      ∙ sym (at_drop_more (λ (l : List Exit). front ++ outflow_from last l) all i one below)
      ∙ so_far

  -- an exit that is the one before
  pub same_exit : (new : List Point) (next : ℚ) → new ≡ front → next ≡ last → is_same last one.exit ≡ true → new ++ outflow_from next (drop (i + 1) all) ≡ whole
  same_exit new next points still e = (λ j. points j ++ outflow_from (still j) (drop (i + 1) all)) ∙ with_test true e

  -- a later exit
  pub later_exit : (new : List Point) (next : ℚ) → new ≡ front ++ (one.exit, one.waits.amount) ∷ [] → next ≡ one.exit → is_same last one.exit ≡ false
      → new ++ outflow_from next (drop (i + 1) all) ≡ whole
  later_exit new next points now e =
      (λ j. points j ++ outflow_from (now j) (drop (i + 1) all)) ∙ append_assoc front ((one.exit, one.waits.amount) ∷ []) (outflow_from one.exit (drop (i + 1) all)) ∙ with_test false e
