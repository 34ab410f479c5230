-- The files among the matches.
use Rattle.std.proofs.Common.{◌≡◌, ◌∙◌, ℕ, List, [], map, length, sym, ap, codes, Option, Some, None, option_map, unwrap_or, slice_get}
use Rattle.nf_app_words.proofs.Common.{Bor, length-map, slice_get-map, Text, found_of, matched_of, raw_values, ArgMatches, raw_values-rows, text_in}
use Rattle.nf_app_words.specs.CommandLine.{files_in, file_in}
use Rattle.nf_app_words.specs.MatchViews.{rows_in}

-- the texts behind references
abbrev behind : List (Bor Text) → List Text
behind = map (λ (file : Bor Text). file.now)

module _ (matches : ArgMatches) where
  -- there are files
  module _ (files : List (Bor Text)) (found : Some (behind files) ≡ option_map raw_values (matched_of (found_of matches) (codes "files"))) where
    are : behind files ≡ files_in (rows_in matches)
    unfolding files_in rows_in
    are = ap (λ (o : Option (List Text)). unwrap_or o []) (found ∙ raw_values-rows (found_of matches) (codes "files"))

    pub count_is : length files ≡ length (files_in (rows_in matches))
    count_is = sym (length-map files (λ (file : Bor Text). file.now)) ∙ ap length are

    pub place_is : (place : ℕ) → text_in (slice_get files place) ≡ file_in place (rows_in matches)
    unfolding file_in
    place_is place = sym (slice_get-map (λ (file : Bor Text). file.now) files place) ∙ ap (λ (l : List Text). slice_get l place) are

  -- there are none
  module _ (found : None ≡ option_map raw_values (matched_of (found_of matches) (codes "files"))) where
    none : [] ≡ files_in (rows_in matches)
    unfolding files_in rows_in
    none = ap (λ (o : Option (List Text)). unwrap_or o []) (found ∙ raw_values-rows (found_of matches) (codes "files"))

    pub no_count : 0 ≡ length (files_in (rows_in matches))
    no_count = ap length none

    pub no_place : (place : ℕ) → None ≡ file_in place (rows_in matches)
    unfolding file_in
    no_place place = ap (λ (l : List Text). slice_get l place) none
