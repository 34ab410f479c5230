-- Reading the text of a ladder.
use Rattle.std.proofs.Common.{◌≡◌, ℕ, ◌≤◌, List, length, Result, Ok, Err, sym, subst}
use Rattle.nf_gen.proofs.Common.{longest_text, Named, Broken, Reads, canonical, same_Ok, ladder}
use Rattle.nf_net_laws.proofs.Once.{reads_at_most_once}
use Rattle.nf_gen.proofs.LadderNamed.{ladder_named, ladder_reads}
use Rattle.nf_gen.proofs.Written.{canonical_fits}

module _ (number rungs : ℕ) (some : 1 ≤ rungs) (few : rungs ≤ 30) (text : List ℕ) (e : text ≡ canonical (ladder number rungs)) where
  as_ladder : Reads text (Ok (ladder number rungs))
  as_ladder = subst (λ (t : List ℕ). Reads t (Ok (ladder number rungs))) (sym e) (ladder_reads number rungs some few)

  pub can_be_read : length text ≤ longest_text
  can_be_read = subst (λ (t : List ℕ). length t ≤ longest_text) (sym e) (canonical_fits (ladder number rungs) (ladder_named number rungs some few))

  pub net_is : (n : Named) → Reads text (Ok n) → n ≡ ladder number rungs
  net_is n h = same_Ok n (ladder number rungs) (reads_at_most_once text (Ok n) (Ok (ladder number rungs)) h as_ladder)

  pub none_broken : (broken : Broken) → Reads text (Err broken) → ⊥
  none_broken broken h =
      let same : ◌≡◌ {A = Result Named Broken} (Err broken) (Ok (ladder number rungs)) =
      reads_at_most_once text (Err broken) (Ok (ladder number rungs)) h as_ladder in absurd (cc)
