-- The words of a line, put behind a text one after the other.
use Rattle.std.proofs.Common.{◌≡◌, ℕ, List, [], ◌∷◌, ◌++◌, codes, ◌∙◌, ap, append_assoc}
use Rattle.nf_gen.proofs.Common.{line_of_words}
use Rattle.nf_net.proofs.TextLines.{more_words}

words_joined : (a b c d e : List ℕ) → (((a ++ 32 ∷ b) ++ 32 ∷ c) ++ 32 ∷ d) ++ 32 ∷ e ≡ a ++ 32 ∷ (b ++ 32 ∷ (c ++ 32 ∷ (d ++ 32 ∷ e)))
words_joined a b c d e =
    append_assoc ((a ++ 32 ∷ b) ++ 32 ∷ c) (32 ∷ d) (32 ∷ e)
    ∙ append_assoc (a ++ 32 ∷ b) (32 ∷ c) (32 ∷ (d ++ 32 ∷ e))
    ∙ append_assoc a (32 ∷ b) (32 ∷ (c ++ 32 ∷ (d ++ 32 ∷ e)))

pub link_line_pushed : (out name tail head transit capacity one two three four five six seven : List ℕ) → one ≡ out ++ codes "link" → two ≡ one ++ 32 ∷ name → three ≡ two ++ 32 ∷ tail
    → four ≡ three ++ 32 ∷ head → five ≡ four ++ 32 ∷ transit → six ≡ five ++ 32 ∷ capacity → seven ≡ six ++ 10 ∷ []
    → seven ≡ out ++ line_of_words (codes "link" ∷ name ∷ tail ∷ head ∷ transit ∷ capacity ∷ [])
link_line_pushed out name tail head transit capacity one two three four five six seven e f g h i j k =
    let named = more_words out one two (codes "link") (32 ∷ name) e f in
    let from = more_words out two three (codes "link" ++ 32 ∷ name) (32 ∷ tail) named g in
    let to = more_words out three four ((codes "link" ++ 32 ∷ name) ++ 32 ∷ tail) (32 ∷ head) from h in
    let timed = more_words out four five (((codes "link" ++ 32 ∷ name) ++ 32 ∷ tail) ++ 32 ∷ head) (32 ∷ transit) to i in
    let whole = more_words out five six ((((codes "link" ++ 32 ∷ name) ++ 32 ∷ tail) ++ 32 ∷ head) ++ 32 ∷ transit) (32 ∷ capacity) timed j in
    more_words out six seven (((((codes "link" ++ 32 ∷ name) ++ 32 ∷ tail) ++ 32 ∷ head) ++ 32 ∷ transit) ++ 32 ∷ capacity) (10 ∷ []) whole k
    ∙ ap (λ (words : List ℕ). out ++ (codes "link" ++ (32 ∷ (words ++ 10 ∷ [])))) (words_joined name tail head transit capacity)
