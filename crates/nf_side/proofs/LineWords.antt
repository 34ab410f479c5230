-- The words of a line, by their number.
use Rattle.std.proofs.Common.{◌≡◌, ◌≢◌, ℕ, ◌<◌, false, List, length, drop, Result, Ok, Err, refl, ◌∙◌, ap}
use Rattle.std.specs.Result.{result_ok}
use Rattle.nf_frac_words.specs.Numbers.{number_of}
use Rattle.nf_model.specs.Network.{Piece}
use Rattle.nf_net_def.specs.Names.{Name, has_name}
use Rattle.nf_net_def.specs.Numbers.{greatest}
use Rattle.nf_text.specs.Within.{word_at}
use Rattle.nf_side.specs.NameAt.{IsNameAt}
use Rattle.nf_side.proofs.NamesOf.{where_named, where_not_named}
use Rattle.nf_side.proofs.WordCounts.{one_word, four_words, unless_one, unless_four}
use Rattle.nf_side_def.specs.Lines.{end_line, piece_entry, rate_line}

-- ---- `end`
module _ {Entry Rule : Type 0} (end : Entry) (wrong_count : Rule) (words : List (List ℕ)) where
  pub end_count_wrong : 0 < length words → length words ≢ 1 → end_line end wrong_count (drop 1 words) ≡ Err wrong_count
  end_count_wrong some n = unless_one (λ (ws : List (List ℕ)). end_line end wrong_count (drop 1 ws)) (Err wrong_count) (λ _ _ _. refl) words some n

  pub end_count_right : length words ≡ 1 → end_line end wrong_count (drop 1 words) ≡ Ok end
  end_count_right n = ap (λ (ws : List (List ℕ)). end_line end wrong_count (drop 1 ws)) (one_word words n)

-- ---- `rate NAME START RATE`
module _ {Entry Rule : Type 0} (make : ℕ → Piece → Entry) (wrong_count unknown no_number : Rule) (names : List Name) (words : List (List ℕ)) where
  abbrev read_rate : List (List ℕ) → Result Entry Rule
  read_rate ws = rate_line make wrong_count unknown no_number names (drop 1 ws)

  pub rate_count_wrong : 0 < length words → length words ≢ 4 → rate_line make wrong_count unknown no_number names (drop 1 words) ≡ Err wrong_count
  rate_count_wrong some n = unless_four read_rate (Err wrong_count) refl (λ _. refl) (λ _ _. refl) (λ _ _ _. refl) (λ _ _ _ _ _ _. refl) words n

  abbrev pub piece_at : ℕ → Result Entry Rule
  piece_at place = piece_entry (make place) no_number (result_ok (number_of greatest (word_at words 2))) (result_ok (number_of greatest (word_at words 3)))

  pub rate_unknown : length words ≡ 4 → has_name names (word_at words 1) ≡ false → rate_line make wrong_count unknown no_number names (drop 1 words) ≡ Err unknown
  rate_unknown n e = ap read_rate (four_words words n) ∙ where_not_named names (word_at words 1) piece_at (Err unknown) e

  pub rate_known : (place : ℕ) → length words ≡ 4 → IsNameAt names (word_at words 1) place → rate_line make wrong_count unknown no_number names (drop 1 words) ≡ piece_at place
  rate_known place n is = ap read_rate (four_words words n) ∙ where_named names (word_at words 1) piece_at (Err unknown) place is
