-- Lines of words, appended to a text.
use Rattle.std.proofs.Common.{◌≡◌, ℕ, List, [], ◌∷◌, ◌++◌, map, ◌∙◌, ap, subst, append_assoc, append-nil, Result, flat_map, OnOk}
use Rattle.nf_text.proofs.Common.{join_with_byte, line_of_words}

-- a space and a word
pub word_pushed : (old word one two : List ℕ) → one ≡ old ++ 32 ∷ [] → two ≡ one ++ word → two ≡ old ++ 32 ∷ word
word_pushed old word one two e f = f ∙ ap (λ (text : List ℕ). text ++ word) e ∙ append_assoc old (32 ∷ []) word

module _ {A : Type 0} (seen : A → List ℕ) where
  joined : (first : List ℕ) (words : List A) → first ++ flat_map (λ w. 32 ∷ seen w) words ≡ join_with_byte 32 (first ∷ map seen words)
  joined first [] = append-nil first
  joined first (word ∷ words) = ap (λ l. first ++ 32 ∷ l) (joined (seen word) words)

  -- the first word, the others with a space before each, and LF
  pub line_pushed : (old first : List ℕ) (words : List A) (one two three : List ℕ) → one ≡ old ++ first → two ≡ one ++ flat_map (λ w. 32 ∷ seen w) words → three ≡ two ++ 10 ∷ []
      → three ≡ old ++ line_of_words (first ∷ map seen words)
  line_pushed old first words one two three e f g =
      g ∙ ap (λ (l : List ℕ). l ++ 10 ∷ []) (f ∙ ap (λ (l : List ℕ). l ++ others) e ∙ append_assoc old first others ∙ ap (λ (l : List ℕ). old ++ l) (joined first words))
      ∙ append_assoc old (join_with_byte 32 (first ∷ map seen words)) (10 ∷ [])
    where
      others : List ℕ
      others = flat_map (λ w. 32 ∷ seen w) words

-- a line of equal words
pub same_line : {A E : Type 0} (result : Result A E) (old new : List ℕ) (words wanted : List (List ℕ)) → words ≡ wanted → OnOk result (new ≡ old ++ line_of_words words)
    → OnOk result (new ≡ old ++ line_of_words wanted)
same_line result old new words wanted e h = subst (λ (ws : List (List ℕ)). OnOk result (new ≡ old ++ line_of_words ws)) e h
