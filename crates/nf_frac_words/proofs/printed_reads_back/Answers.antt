use Rattle.nf_frac_words.proofs.ReadBack.{number_read, number_read_as_decimal}
use Rattle.nf_frac_words.proofs.printed_reads_back.Goals as goal

pub returns : goal.returns
returns c = record { fraction = number_read; decimal = number_read_as_decimal }
