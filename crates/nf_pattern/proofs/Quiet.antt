-- The unchanged suffix of an assignment.
use Rattle.std.proofs.Common.{◌≡◌, ℕ, zero, suc, ◌+◌, ◌-◌, ◌≤◌, List, [], ◌∷◌, ◌++◌, length, length-drop, take, drop, refl, sym, ap, subst, ◌∙◌, arith}
use Rattle.std.proofs.Common.{Option, Some, None, MatchOption, Bool}
use Rattle.nf_pattern.proofs.Common.{drop-drop, length-take-le, Pattern, changes, changes_first, changes-self, Quiet, IsSameBefore, IsQuiet, free, later}
use Rattle.std.proofs.Math.Seq.{drop-append-add, drop-append_seam}
use Rattle.nf_pattern.specs.declared.assignments.Raised.{Raised}
use Rattle.nf_pattern.proofs.Filling.{free_first}
use Rattle.nf_pattern.proofs.Counting.{changes_end, free_end}
use Rattle.nf_pattern.proofs.Raising.{later_up_to}

pub quiet_end : (base states : Pattern) (quiet : Quiet) → quiet.link ≡ length base → quiet.free ≡ 0 → IsQuiet base quiet states
quiet_end base states quiet all none = record {
  within = omega arith;
  unchanged = changes_end base states quiet.link (omega arith);
  free_is = none ∙ sym (free_end base quiet.link (omega arith));
}

-- the first links, and then the base
pub quiet_rest : (base states after : Pattern) (quiet : Quiet) → quiet.link ≤ length base → length states ≡ length base
    → after ≡ take quiet.link states ++ drop quiet.link base → quiet.free ≡ free (drop quiet.link base)
    → IsQuiet base quiet after
quiet_rest base states after quiet within count is free_is =
    let i : ℕ = quiet.link in
    let front : length (take i states) ≡ i = length-take-le i states (omega arith) in
    let rest : drop i after ≡ drop i base =
    ap (drop i) is ∙ subst (λ (n : ℕ). drop n (take i states ++ drop i base) ≡ drop i base) front (drop-append_seam (take i states) (drop i base)) in
    record { within = within; unchanged = ap (changes (drop i base)) rest ∙ changes-self (drop i base); free_is = free_is }

-- The first links, and then an unchanged suffix.
pub quiet_behind : (base states rest after : Pattern) (i : ℕ) (quiet behind : Quiet) → i ≤ length base → length states ≡ length base
    → after ≡ take i states ++ rest → IsQuiet (drop i base) quiet rest
    → behind.link ≡ i + quiet.link → behind.free ≡ quiet.free → IsQuiet base behind after
quiet_behind base states rest after i quiet behind within count is is_quiet link free_is =
    let n : ℕ = quiet.link in
    let front : length (take i states) ≡ i = length-take-le i states (omega arith) in
    let same : drop (i + n) after ≡ drop n rest =
    ap (drop (i + n)) is ∙ subst (λ (k : ℕ). drop (k + n) (take i states ++ rest) ≡ drop n rest) front (drop-append-add (take i states) rest n) in
    let from : drop n (drop i base) ≡ drop behind.link base = drop-drop n i base ∙ ap (λ (k : ℕ). drop k base) (sym link) in
    record {
      within = (let w = is_quiet.within in let l = length-drop i base in omega arith);
      unchanged = ap (λ (k : ℕ). changes (drop k base) (drop k after)) link
          ∙ (ap (changes (drop (i + n) base)) same ∙ (ap (λ (x : Pattern). changes x (drop n rest)) (sym (drop-drop n i base)) ∙ is_quiet.unchanged));
      free_is = free_is ∙ (is_quiet.free_is ∙ ap free from);
    }

-- ---- up to the unchanged suffix
changes_parts : (k : ℕ) (base states : Pattern) → length states ≡ length base → changes base states ≡ changes (take k base) (take k states) + changes (drop k base) (drop k states)
changes_parts zero base states count = let z : changes (take zero base) (take zero states) ≡ 0 = refl in omega arith
changes_parts (suc k) [] states count = omega arith
changes_parts (suc k) (b ∷ base) [] count = absurd (omega arith)
changes_parts (suc k) (b ∷ base) (a ∷ states) count =
    let all = changes_first b a base states in
    let front = changes_first b a (take k base) (take k states) in
    let rest = changes_parts k base states (omega arith) in omega arith

free_parts : (k : ℕ) (base : Pattern) → free base ≡ free (take k base) + free (drop k base)
free_parts zero base = let z : free (take zero base) ≡ 0 = refl in omega arith
free_parts (suc k) [] = omega arith
free_parts (suc k) (b ∷ base) = let all = free_first b base in let front = free_first b (take k base) in let rest = free_parts k base in omega arith

module _ (base states : Pattern) (quiet : Quiet) (is : IsQuiet base quiet states) (i : ℕ) (few : i ≤ quiet.link) where
  abbrev to_quiet : Pattern → Pattern
  to_quiet xs = take (quiet.link - i) (drop i xs)

  behind : (xs : Pattern) → drop (quiet.link - i) (drop i xs) ≡ drop quiet.link xs
  behind xs = drop-drop (quiet.link - i) i xs ∙ ap (λ (k : ℕ). drop k xs) (let whole : i + (quiet.link - i) ≡ quiet.link = omega arith in whole)

  pub changes_to_quiet : length states ≡ length base → changes (to_quiet base) (to_quiet states) ≡ changes (drop i base) (drop i states)
  changes_to_quiet count =
      let front = length-drop i base in let all = length-drop i states in
      let parts = changes_parts (quiet.link - i) (drop i base) (drop i states) (omega arith) in
      let none : changes (drop (quiet.link - i) (drop i base)) (drop (quiet.link - i) (drop i states)) ≡ 0 =
      (λ j. changes (behind base j) (behind states j)) ∙ is.unchanged in omega arith

  pub free_to_quiet : free (to_quiet base) + quiet.free ≡ free (drop i base)
  free_to_quiet = ap (λ (n : ℕ). free (to_quiet base) + n) (is.free_is ∙ sym (ap free (behind base))) ∙ sym (free_parts (quiet.link - i) (drop i base))

-- At most this many links may differ.
pub free_few : (base : Pattern) → free base ≤ length base
free_few [] = omega arith
free_few (None ∷ base) = let w = free_few base in omega arith
free_few (Some b ∷ base) = let w = free_few base in omega arith

-- No link of the unchanged suffix can be raised with as many changes.
pub raised_up_to : (base : Pattern) (us zs : List Bool) (states after : Pattern) (quiet : Quiet) (same : ℕ) (found : Option Raised) → quiet.link ≤ same
    → length states ≡ length base → IsQuiet base quiet states
    → MatchOption found ((later quiet.link base us zs states ≡ None) × (after ≡ states))
    (λ raised. (later quiet.link base us zs states ≡ Some after) × IsSameBefore quiet.link raised.link states after × IsQuiet base raised.quiet after)
    → MatchOption found ((later same base us zs states ≡ None) × (after ≡ states))
    (λ raised. (later same base us zs states ≡ Some after) × IsSameBefore same raised.link states after × IsQuiet base raised.quiet after)
raised_up_to base us zs states after quiet same None few count is h = (later_up_to base us zs states quiet.link same few count is.unchanged ∙ h.0, h.1)
raised_up_to base us zs states after quiet same (Some raised) few count is h =
    (later_up_to base us zs states quiet.link same few count is.unchanged ∙ h.0, (let l = h.1.0 in omega arith, h.1.1), h.2)
