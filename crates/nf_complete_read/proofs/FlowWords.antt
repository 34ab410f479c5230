-- The words of a line, by their number.
use Rattle.std.proofs.Common.{◌≡◌, ◌≢◌, ℕ, ◌<◌, false, List, length, drop, Result, Err, refl, ◌∙◌, ap}
use Rattle.nf_complete_read.proofs.Common.{result_ok, ℚ, number_of, Name, has_name, greatest, IsNameAt, FlowsRule, S6, S7, FlowsEntry, number_entry}
use Rattle.nf_complete_read.proofs.Common.{named_line}
use Rattle.nf_text.specs.Within.{word_at}
use Rattle.nf_side.proofs.NamesOf.{where_named, where_not_named}
use Rattle.nf_side.proofs.WordCounts.{three_words, unless_three}

-- ---- `flow` and `slope`
module _ (make : ℕ → ℚ → FlowsEntry) (names : List Name) (words : List (List ℕ)) where
  pub count_wrong : 0 < length words → length words ≢ 3 → named_line make names (drop 1 words) ≡ Err S6
  count_wrong some n = unless_three (λ (ws : List (List ℕ)). named_line make names (drop 1 ws)) (Err S6) refl (λ _. refl) (λ _ _. refl) (λ _ _ _ _ _. refl) words n

  abbrev at_place : ℕ → Result FlowsEntry FlowsRule
  at_place place = number_entry (make place) (result_ok (number_of greatest (word_at words 2)))

  pub not_named : length words ≡ 3 → has_name names (word_at words 1) ≡ false → named_line make names (drop 1 words) ≡ Err S7
  not_named n e = ap (λ (ws : List (List ℕ)). named_line make names (drop 1 ws)) (three_words words n) ∙ where_not_named names (word_at words 1) at_place (Err S7) e

  pub named : (place : ℕ) → length words ≡ 3 → IsNameAt names (word_at words 1) place → named_line make names (drop 1 words) ≡ at_place place
  named place n is = ap (λ (ws : List (List ℕ)). named_line make names (drop 1 ws)) (three_words words n) ∙ where_named names (word_at words 1) at_place (Err S7) place is
