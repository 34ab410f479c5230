-- The first link that fails, as it is found link by link; and that an operation passes there just where one of the verdict list does.
use Rattle.std.proofs.Common.{◌≡◌, ◌≢◌, ℕ, zero, suc, ◌+◌, ◌<◌, List, [], ◌∷◌, length, ◌⊎◌, inl, inr, ⊎_elim, Bool, true, false, ◌&&◌, eqb, sym, ap, subst}
use Rattle.std.proofs.Common.{refl, ◌∙◌, arith, Option, Some, None, slice_get, unwrap_or, Ok, Err, IsOk}
use Rattle.nf_thin_one.proofs.Common.{enumerate_from, eqb_tells, same_Some, slice_get_within, ℚ, 0ℚ, le_ℚ, le_of_test, test_of_le, Passing, Passed, Checked}
use Rattle.nf_thin_one.proofs.Common.{each, fold_checked, ◌>>=◌, State, number_at, Link, Network, IsLink, Pattern, Inequality, bound_of, MeetsAt, keeps}
use Rattle.nf_thin_one.proofs.Common.{first_failed, broken_after, and_parts}
use Rattle.nf_thin_def.specs.Verdict.{verdict_list}
use Rattle.nf_thin_one.specs.Judging.{link_verdict, first_broken}
use Rattle.nf_thin_one.proofs.Inequalities.{bound_value, bound_exact, keeps_inequality, inequality_keeps, all_true}

module _ (passes : Passing) (net : Network) (pattern : Pattern) (flows slopes : List ℚ) where
  abbrev state_of : ℕ → Option State
  state_of e = unwrap_or (slice_get pattern e) None

  -- the test of a link
  abbrev test : ℕ → Link → Bool
  test e link =
      le_ℚ 0ℚ (number_at flows e) && keeps (state_of e) (bound_value (state_of e) link.capacity (number_at slopes link.head)) (number_at flows e)
      (number_at slopes link.tail) (number_at slopes link.head)

  abbrev bound_at : ℕ × Link → Checked (Option ℚ)
  bound_at = bound_of passes pattern slopes

  abbrev after : Option ℕ → ℕ × Link → Checked (Option ℕ)
  after = broken_after passes pattern flows slopes

  -- ---- one step
  step_ok : (found : Option ℕ) (e : ℕ) (link : Link) (bound : Option ℚ) → bound_at (e, link) ≡ Ok bound → after found (e, link) ≡ Ok (first_failed found (test e link) e)
  unfolding link_verdict
  step_ok found e link bound h =
      ap (λ (r : Checked (Option ℚ)). (r >>= λ b. Ok (le_ℚ 0ℚ (number_at flows e) && keeps (state_of e) b (number_at flows e) (number_at slopes link.tail)
      (number_at slopes link.head))) >>= λ holds. Ok (first_failed found holds e)) h
      ∙ ap (λ (b : Option ℚ). Ok (first_failed found (le_ℚ 0ℚ (number_at flows e) && keeps (state_of e) b (number_at flows e) (number_at slopes link.tail)
      (number_at slopes link.head)) e)) (bound_exact passes (state_of e) link.capacity (number_at slopes link.head) bound h)

  step_err : (found : Option ℕ) (e : ℕ) (link : Link) (p : Passed ℚ) → bound_at (e, link) ≡ Err p → after found (e, link) ≡ Err p
  unfolding link_verdict
  step_err found e link p h =
      ap (λ (r : Checked (Option ℚ)). (r >>= λ b. Ok (le_ℚ 0ℚ (number_at flows e) && keeps (state_of e) b (number_at flows e) (number_at slopes link.tail)
      (number_at slopes link.head))) >>= λ holds. Ok (first_failed found holds e)) h

  -- ---- what the test says
  module _ (e : ℕ) (link : Link) (is_link : IsLink net e link) where
    same_link : (other : Link) → IsLink net e other → link ≡ other
    same_link other h = same_Some link other (sym is_link ∙ h)

    test_meets : test e link ≡ true → MeetsAt net pattern flows slopes e
    test_meets h =
        let b = and_parts (le_ℚ 0ℚ (number_at flows e)) (keeps (state_of e) (bound_value (state_of e) link.capacity (number_at slopes link.head))
        (number_at flows e) (number_at slopes link.tail) (number_at slopes link.head)) h in
        record {
          no_negative = le_of_test 0ℚ (number_at flows e) b.0;
          inequality = λ other state at_link at_state. subst (λ (l : Link). Inequality state l.capacity (number_at flows e) (number_at slopes l.tail)
              (number_at slopes l.head)) (same_link other at_link)
              (subst (λ (s : Option State). Inequality s link.capacity (number_at flows e) (number_at slopes link.tail) (number_at slopes link.head))
              (ap (λ (o : Option (Option State)). unwrap_or o None) at_state)
              (keeps_inequality (state_of e) link.capacity (number_at flows e) (number_at slopes link.tail) (number_at slopes link.head) b.1));
        }

    module _ (state : Option State) (at_state : slice_get pattern e ≡ Some state) where
      meets_test : MeetsAt net pattern flows slopes e → test e link ≡ true
      meets_test m = all_true _ _ (test_of_le 0ℚ (number_at flows e) m.no_negative)
          (inequality_keeps (state_of e) link.capacity (number_at flows e) (number_at slopes link.tail) (number_at slopes link.head)
          (subst (λ (s : Option State). Inequality s link.capacity (number_at flows e) (number_at slopes link.tail) (number_at slopes link.head))
          (sym (ap (λ (o : Option (Option State)). unwrap_or o None) at_state))
          (m.inequality link state is_link at_state)))

      meets_not : test e link ≡ false → MeetsAt net pattern flows slopes e → ⊥
      meets_not h m = no (sym (meets_test m) ∙ h)
        where
          no : true ≡ false → ⊥
          no e = cc

  -- ---- so far
  abbrev pub AllMeet : ℕ → Type 0
  AllMeet k = (e : ℕ) → e < k → MeetsAt net pattern flows slopes e

  abbrev pub SoFar : Option ℕ → ℕ → Type 0
  SoFar None k = AllMeet k
  SoFar (Some x) k = (MeetsAt net pattern flows slopes x → ⊥) × AllMeet x

  one_more : (k e : ℕ) → AllMeet k → MeetsAt net pattern flows slopes k → e < k + 1 → MeetsAt net pattern flows slopes e
  one_more k e all here h = go (below e k h)
    where
      below : (e k : ℕ) → e < k + 1 → (e < k) ⊎ (e ≡ k)
      below e k h = ⊎_elim
          (λ (w : (eqb e k ≡ true) × (e ≡ k)). inr w.1)
          (λ (w : (eqb e k ≡ false) × (e ≢ k)). inl (let n = w.1 in omega arith))
          (eqb_tells e k)

      go : (e < k) ⊎ (e ≡ k) → MeetsAt net pattern flows slopes e
      go (inl b) = all e b
      go (inr s) = subst (λ (j : ℕ). MeetsAt net pattern flows slopes j) (sym s) here

  module _ (count : length pattern ≡ length net.links) where
    entry_there : (e : ℕ) (link : Link) → IsLink net e link → (state : Option State) × (slice_get pattern e ≡ Some state)
    entry_there e link h = go pattern e (let w = slice_get_within net.links e link h in omega arith)
      where
        go : (xs : List (Option State)) (i : ℕ) → i < length xs → (state : Option State) × (slice_get xs i ≡ Some state)
        go [] i b = absurd (omega arith)
        go (x ∷ xs) zero b = (x, refl)
        go (x ∷ xs) (suc i) b = go xs i (omega arith)

    next_so_far : (found : Option ℕ) (b : Bool) (e : ℕ) (link : Link) → IsLink net e link → test e link ≡ b → SoFar found e → SoFar (first_failed found b e) (e + 1)
    next_so_far (Some x) b e link is_link h so = so
    next_so_far None true e link is_link h so = λ i below. one_more e i so (test_meets e link is_link h) below
    next_so_far None false e link is_link h so = (let there = entry_there e link is_link in meets_not e link is_link there.0 there.1 h, so)

    -- ---- link by link
    go_on : (links : List Link) (k : ℕ) (so_far found : Option ℕ) → ((i : ℕ) (link : Link) → slice_get links i ≡ Some link → IsLink net (k + i) link)
        → fold_checked after so_far (enumerate_from k links) ≡ Ok found → SoFar so_far k → IsOk (each bound_at (enumerate_from k links)) × SoFar found (k + length links)
    go_on [] k so_far found is h so = (refl, subst (λ (o : Option ℕ). SoFar o (k + 0)) (same so_far found h) (subst (SoFar so_far) (omega arith) so))
      where
        same : (x y : Option ℕ) → ◌≡◌ {A = Checked (Option ℕ)} (Ok x) (Ok y) → x ≡ y
        same x y e = cc
    go_on (link ∷ links) k so_far found is h so =
        by_bound (bound_at (k, link)) refl
        (λ h. go_on links (k + 1) (first_failed so_far (test k link) k) found (λ i l at. subst (λ (j : ℕ). IsLink net j l) (omega arith) (is (suc i) l at)) h
        (next_so_far so_far (test k link) k link here refl so))
      where
        here : IsLink net k link
        here = subst (λ (j : ℕ). IsLink net j link) (omega arith) (is 0 link refl)

        and_then : (bound : Option ℚ) (r : Checked (List (Option ℚ))) → IsOk r → IsOk (r >>= λ ys. Ok (bound ∷ ys))
        and_then bound (Ok ys) o = refl
        and_then bound (Err p) o = o

        done : (bound : Option ℚ) → bound_at (k, link) ≡ Ok bound → IsOk (each bound_at (enumerate_from (k + 1) links)) × SoFar found ((k + 1) + length links)
            → IsOk (each bound_at ((k, link) ∷ enumerate_from (k + 1) links)) × SoFar found (k + suc (length links))
        done bound e w = (
          subst (λ (r : Checked (Option ℚ)). IsOk (r >>= λ y. each bound_at (enumerate_from (k + 1) links) >>= λ ys. Ok (y ∷ ys))) (sym e)
              (and_then bound (each bound_at (enumerate_from (k + 1) links)) w.0),
          subst (SoFar found) (omega arith) w.1,
        )

        by_bound : (r : Checked (Option ℚ)) → bound_at (k, link) ≡ r
            → (fold_checked after (first_failed so_far (test k link) k) (enumerate_from (k + 1) links) ≡ Ok found
            → IsOk (each bound_at (enumerate_from (k + 1) links)) × SoFar found ((k + 1) + length links))
            → IsOk (each bound_at ((k, link) ∷ enumerate_from (k + 1) links)) × SoFar found (k + suc (length links))
        by_bound (Ok bound) e rest = done bound e
            (rest (sym (ap (λ (r : Checked (Option ℕ)). r >>= λ f. fold_checked after f (enumerate_from (k + 1) links)) (step_ok so_far k link bound e)) ∙ h))
        by_bound (Err p) e rest = absurd (no found (sym (ap (λ (r : Checked (Option ℕ)). r >>= λ f. fold_checked after f (enumerate_from (k + 1) links))
            (step_err so_far k link p e)) ∙ h))
          where
            no : (y : Option ℕ) → ◌≡◌ {A = Checked (Option ℕ)} (Err p) (Ok y) → ⊥
            no y e = cc

    pub found_means : (found : Option ℕ) → first_broken passes net pattern flows slopes ≡ Ok found → IsOk (verdict_list passes net pattern slopes) × SoFar found (length net.links)
    unfolding first_broken verdict_list
    found_means found h =
        let w = go_on net.links 0 None found (λ i link at. subst (λ (j : ℕ). IsLink net j link) (omega arith) at) h (λ e b. absurd (omega arith)) in
        (w.0, subst (SoFar found) (omega arith) w.1)

  -- ---- where an operation passes
  passes_too : (links : List Link) (k : ℕ) (so_far : Option ℕ) (p : Passed ℚ) → fold_checked after so_far (enumerate_from k links) ≡ Err p
      → each bound_at (enumerate_from k links) ≡ Err p
  passes_too [] k so_far p h = absurd (cc)
  passes_too (link ∷ links) k so_far p h = by_bound (bound_at (k, link)) refl (passes_too links (k + 1) (first_failed so_far (test k link) k) p)
    where
      by_bound : (r : Checked (Option ℚ)) → bound_at (k, link) ≡ r
          → (fold_checked after (first_failed so_far (test k link) k) (enumerate_from (k + 1) links) ≡ Err p → each bound_at (enumerate_from (k + 1) links) ≡ Err p)
          → each bound_at ((k, link) ∷ enumerate_from (k + 1) links) ≡ Err p
      by_bound (Ok bound) e rest =
          ap (λ (r : Checked (Option ℚ)). r >>= λ y. each bound_at (enumerate_from (k + 1) links) >>= λ ys. Ok (y ∷ ys)) e
          ∙ ap (λ (r : Checked (List (Option ℚ))). r >>= λ ys. Ok (bound ∷ ys))
          (rest (sym (ap (λ (r : Checked (Option ℕ)). r >>= λ f. fold_checked after f (enumerate_from (k + 1) links)) (step_ok so_far k link bound e)) ∙ h))
      by_bound (Err q) e rest =
          ap (λ (r : Checked (Option ℚ)). r >>= λ y. each bound_at (enumerate_from (k + 1) links) >>= λ ys. Ok (y ∷ ys)) e
          ∙ ap Err (same q p (sym (ap (λ (r : Checked (Option ℕ)). r >>= λ f. fold_checked after f (enumerate_from (k + 1) links)) (step_err so_far k link q e)) ∙ h))
        where
          same : (q p : Passed ℚ) → ◌≡◌ {A = Checked (Option ℕ)} (Err q) (Err p) → q ≡ p
          same q p e = cc

  pub passes_means : (p : Passed ℚ) → first_broken passes net pattern flows slopes ≡ Err p → verdict_list passes net pattern slopes ≡ Err p
  unfolding first_broken verdict_list
  passes_means p h = passes_too net.links 0 None p h
