use Rattle.std.proofs.Common.{◌≡◌, ◌≤◌, ◌++◌, [], ◌∷◌, map}
use Rattle.nf_text.proofs.Common.{bytes_eq, text_of, between}
use Rattle.nf_text.proofs.Plain.{words_left}
use Rattle.nf_text.proofs.words.is_plain.Given as goal

abbrev pub invariant-loop-index : goal.invariant-loop-index
invariant-loop-index l = let words = map (text_of l.text) l.words in record {
  within : l.at ≤ l.end;
  same : bytes_eq (between l.text l.start l.end) (words_left words 0 ++ 10 ∷ []) ≡ bytes_eq (between l.text l.at l.end) (words_left words l.index ++ 10 ∷ []);
}
