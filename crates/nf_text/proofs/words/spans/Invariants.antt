use Rattle.std.proofs.Common.{◌-◌, ◌≡◌, ◌≤◌, ◌++◌, map, min}
use Rattle.nf_text.proofs.Common.{text_of, Rise}
use Rattle.nf_text.proofs.Parts.{words_between}
use Rattle.nf_text.proofs.words.spans.Given as goal

abbrev pub invariant-loop-at : goal.invariant-loop-at
invariant-loop-at l = record {
  words : words_between l.text l.start l.end ≡ map (text_of l.text) l.spans.items ++ words_between l.text l.at l.end;
  rise : Rise l.start (min l.at l.end) l.spans.items;
  from : l.start ≤ l.at;
}

abbrev pub decreases-loop-at : goal.decreases-loop-at
decreases-loop-at l = l.end - l.at
