use Rattle.nf_frac_words.proofs.Counts.{digits_from_count, count_from_digits}
use Rattle.nf_frac_words.proofs.counts_are_digits.Goals as goal

pub returns : goal.returns
returns c = λ word n. (digits_from_count word n, count_from_digits word n)
