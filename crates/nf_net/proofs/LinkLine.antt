-- The line of a link, pushed word by word.
use Rattle.std.proofs.Common.{◌≡◌, ℕ, List, [], ◌∷◌, ◌++◌, ap, append_assoc, codes, Option}
use Rattle.nf_net.proofs.Common.{ℚ, line_of_words, link_words}
use Rattle.nf_frac_words.specs.Printed.{printed}
use Rattle.nf_net_def.specs.Numbers.{capacity_word}
use Rattle.nf_net.proofs.TextLines.{more_words}

pub link_line : (old name tail head : List ℕ) (transit : ℚ) (capacity : Option ℚ) (a b c d e f new : List ℕ)
    → a ≡ old ++ codes "link" → b ≡ a ++ 32 ∷ name → c ≡ b ++ 32 ∷ tail → d ≡ c ++ 32 ∷ head → e ≡ d ++ 32 ∷ printed transit → f ≡ e ++ 32 ∷ capacity_word capacity → new ≡ f ++ 10 ∷ []
    → new ≡ old ++ line_of_words (link_words (record { name = name; tail = tail; head = head; transit = transit; capacity = capacity }))
link_line old name tail head transit capacity a b c d e f new ea eb ec ed ee ef enew =
    let from_capacity : List ℕ = 32 ∷ (capacity_word capacity ++ 10 ∷ []) in
    let from_time : List ℕ = 32 ∷ (printed transit ++ from_capacity) in
    let from_head : List ℕ = 32 ∷ (head ++ from_time) in
    let from_tail : List ℕ = 32 ∷ (tail ++ from_head) in
    let from_name : List ℕ = 32 ∷ (name ++ from_tail) in
    simp append_assoc (more_words old a new (codes "link") from_name ea (more_words a b new (32 ∷ name) from_tail eb (more_words b c new (32 ∷ tail) from_head ec
    (more_words c d new (32 ∷ head) from_time ed (more_words d e new (32 ∷ printed transit) from_capacity ee (more_words e f new (32 ∷ capacity_word capacity) (10 ∷ []) ef enew))))))
