-- A curve that each link makes anew from the one before.
use Rattle.std.proofs.Common.{◌≡◌, ℕ, ◌+◌, ◌≤◌, List, ◌∷◌, length, drop, Some, slice_get, sym, ap, ◌∙◌, Ok}
use Rattle.nf_check_rules.proofs.Common.{enumerate_from, ℚ, Halt, Check, Checked, Stops, at_part, fold_checked, fold_ok, after_err, was_ok, stops_on}
use Rattle.nf_check_rules.proofs.Looping.{links_next, links_last}

-- what is left to be done gives what all of it gives
pub record Folds {B X : Type 0} (f : B → ℕ × X → Checked B) (links : List X) (before now : B) (k : ℕ) : Type 0 where
  pub same : fold_checked f now (enumerate_from k (drop k links)) ≡ fold_checked f before (enumerate_from 0 links)

module _ {B X : Type 0} (f : B → ℕ × X → Checked B) (links : List X) (before : B) where
  pub fold_first : (now : B) → now ≡ before → Folds f links before now 0
  fold_first now e = record { same = ap (λ (b : B). fold_checked f b (enumerate_from 0 links)) e }

  module _ (now : B) (k : ℕ) (left : Folds f links before now k) where
    pub fold_last : length links ≤ k → at_part Check (fold_checked f before (enumerate_from 0 links)) ≡ Ok now
    fold_last h = ap (at_part Check) (sym left.same ∙ ap (λ (ls : List (ℕ × X)). fold_checked f now ls) (links_last links k h))

    module _ (link : X) (is : slice_get links k ≡ Some link) where
      here : fold_checked f now ((k, link) ∷ enumerate_from (k + 1) (drop (k + 1) links)) ≡ fold_checked f before (enumerate_from 0 links)
      here = sym (ap (λ (ls : List (ℕ × X)). fold_checked f now ls) (links_next links k link is)) ∙ left.same

      pub fold_stops : (h : Halt ℚ) → Stops (λ (q : ℚ). q) h (at_part Check (f now (k, link))) → Stops (λ (q : ℚ). q) h (at_part Check (fold_checked f before (enumerate_from 0 links)))
      fold_stops h s = stops_on h (at_part Check (f now (k, link))) (at_part Check (fold_checked f before (enumerate_from 0 links)))
          (λ p e. ap (at_part Check) (sym here) ∙ after_err Check (f now (k, link)) (λ next. fold_checked f next (enumerate_from (k + 1) (drop (k + 1) links))) p e) s

      pub fold_goes : (next : B) → at_part Check (f now (k, link)) ≡ Ok next → Folds f links before next (k + 1)
      fold_goes next e = record { same = sym (fold_ok f now (k, link) (enumerate_from (k + 1) (drop (k + 1) links)) next (was_ok Check (f now (k, link)) next e)) ∙ here }
