use Rattle.std.proofs.Common.{◌≡◌, ◌∷◌, ◌++◌, drop, flat_map}
use Rattle.nf_text.proofs.writing.push_words.Given as goal

abbrev pub invariant-loop-word : goal.invariant-loop-word
invariant-loop-word l = l.text.items ++ flat_map (λ w. 32 ∷ w.now) (drop l.word-index l.words) ≡ l.initial.text.items ++ flat_map (λ w. 32 ∷ w.now) l.words
