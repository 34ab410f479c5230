-- The lines and words of a text that is made of plain words, each line of which has one at least: what is read of it is what was
-- written (by the laws of lines).
use Rattle.std.proofs.Common.{◌≡◌, ℕ, ◌+◌, ◌<◌, ◌≤◌, Bool, true, not, cond, List, [], ◌∷◌, length, flat_map, refl, ◌∙◌, ap, arith, None, ne_eqb}
use Rattle.nf_net_laws.proofs.Common.{AllByRecursion, join_with_byte, line_of_words, read_lines, content_lines, first_fault, IsWord, plain_from, AreWords}
use Rattle.nf_net_laws.proofs.Common.{AreShort}
use Rattle.nf_net_laws.proofs.ReadBack.{plain_lines_from, no_fault_from}
use Rattle.nf_net_laws.proofs.LinesBack.{lines_from}

-- ---- lines of words
pub record IsPlainLine (ws : List (List ℕ)) : Type 0 where
  pub some : 0 < length ws
  pub plain : AllByRecursion IsWord ws
  pub short : length (join_with_byte 32 ws) ≤ 1000

-- ---- the same, as the laws of lines ask for it
lines_are : (all : List (List (List ℕ))) → AllByRecursion IsPlainLine all → AreWords all
lines_are [] h = tt
lines_are (ws ∷ all) h = (h.0.plain, lines_are all h.1)

short_are : (all : List (List (List ℕ))) → AllByRecursion IsPlainLine all → AreShort all
short_are [] h = tt
short_are (ws ∷ all) h = (h.0.short, short_are all h.1)

-- ---- what readers see of them
contents : (number : ℕ) (all : List (List (List ℕ))) → AllByRecursion IsPlainLine all → content_lines (plain_from number all) ≡ lines_from number all
contents number [] h = refl
contents number (ws ∷ all) h =
    ap (λ (t : Bool). cond (not t) (record { number = number; plain = true; words = ws } ∷ content_lines (plain_from (number + 1) all)) (content_lines (plain_from (number + 1) all)))
    (ne_eqb (length ws) 0 (λ e. let some : 0 < length ws = h.0.some in absurd (omega arith)))
    ∙ ap (λ r. record { number = number; plain = true; words = ws } ∷ r) (contents (number + 1) all h.1)

pub contents_back : (all : List (List (List ℕ))) → AllByRecursion IsPlainLine all → content_lines (read_lines (flat_map line_of_words all)) ≡ lines_from 1 all
contents_back all h = ap content_lines (plain_lines_from 1 all (lines_are all h)) ∙ contents 1 all h

pub no_fault_back : (all : List (List (List ℕ))) → AllByRecursion IsPlainLine all → first_fault (flat_map line_of_words all) ≡ None
no_fault_back all h = no_fault_from 1 all (lines_are all h) (short_are all h)
