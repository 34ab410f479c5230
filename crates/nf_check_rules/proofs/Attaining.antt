-- The least exit over the links into a node, with one link more.
use Rattle.std.proofs.Common.{◌≡◌, ℕ, List, Bool, true, false, not, refl, sym, ap, ◌∙◌, ◌==◌, if◌then◌else◌, Option, Ok}
use Rattle.nf_check_rules.proofs.Common.{ℚ, Passing, Halt, Check, Checked, Stops, at_part, ◌>>=◌, Point, Link, points_at, checked_composed, loaded_at}
use Rattle.nf_check_rules.proofs.Common.{least_so_far, with_exit, after_err, after_ok, stops_on}
use Rattle.nf_load_def.specs.Loading.{Loaded}

same_not : (a b : Bool) → not a ≡ not b → a ≡ b
same_not true true e = refl
same_not true false e = cc
same_not false true e = cc
same_not false false e = refl

-- a link, by the test whether its head is another node
module _ (passes : Passing) (labels : List (List Point)) (loaded : List Loaded) (last : ℚ) (node : ℕ) (so_far : Option (List Point)) (e : ℕ)
    (link here : Link) (same : link ≡ here) (head : ℕ) (is_head : head ≡ link.head) (differs : Bool) (tested : differs ≡ not (head == node)) where
  abbrev exit : Checked (List Point)
  exit = checked_composed passes (loaded_at loaded e).exit (points_at labels link.tail) last

  abbrev by_test : Bool → Checked (Option (List Point))
  by_test leads = if leads then (exit >>= λ x. least_so_far passes so_far x) else Ok so_far

  at_test : (leads : Bool) → differs ≡ not leads → with_exit passes labels loaded last node so_far (e, here) ≡ by_test leads
  at_test leads h =
      ap (λ (l : Link). with_exit passes labels loaded last node so_far (e, l)) (sym same)
      ∙ ap by_test (ap (λ (k : ℕ). k == node) (sym is_head) ∙ same_not (head == node) leads (sym tested ∙ h))

  pub exit_left_out : differs ≡ true → at_part Check (with_exit passes labels loaded last node so_far (e, here)) ≡ Ok so_far
  exit_left_out h = ap (at_part Check) (at_test false h)

  pub exit_goes : differs ≡ false → (points : List Point) → at_part Check exit ≡ Ok points
      → at_part Check (with_exit passes labels loaded last node so_far (e, here)) ≡ at_part Check (least_so_far passes so_far points)
  exit_goes h points f = ap (at_part Check) (at_test true h) ∙ after_ok Check exit _ points f

  pub exit_stops : differs ≡ false → (halt : Halt ℚ) → Stops (λ (q : ℚ). q) halt (at_part Check exit)
      → Stops (λ (q : ℚ). q) halt (at_part Check (with_exit passes labels loaded last node so_far (e, here)))
  exit_stops h halt s = stops_on halt (at_part Check exit) (at_part Check (with_exit passes labels loaded last node so_far (e, here)))
      (λ p f. ap (at_part Check) (at_test true h) ∙ after_err Check exit _ p f) s

-- ---- by the test whether an end of a link is another node
pub at_node : {X : Type 0} (end node : ℕ) (differs : Bool) → differs ≡ not (end == node) → differs ≡ false → (a b : X) → (if end == node then a else b) ≡ a
at_node end node differs t h a b = ap (λ (w : Bool). if w then a else b) (same_not (end == node) true (sym t ∙ h))

pub at_other : {X : Type 0} (end node : ℕ) (differs : Bool) → differs ≡ not (end == node) → differs ≡ true → (a b : X) → (if end == node then a else b) ≡ b
at_other end node differs t h a b = ap (λ (w : Bool). if w then a else b) (same_not (end == node) false (sym t ∙ h))
