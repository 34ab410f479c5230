-- One more link: the counts of assignments from it on, by those of the links after it.
use Rattle.std.proofs.Common.{◌≡◌, ℕ, zero, suc, ◌+◌, ◌<◌, ◌≤◌, min, Bool, true, List, [], ◌∷◌, ◌++◌, length, take, drop, sym, ap, ◌∙◌, arith, Option, Some}
use Rattle.std.proofs.Common.{slice_get, if◌then◌else◌}
use Rattle.nf_thin_narrow.proofs.Common.{append-nil, State, Pattern, changes, change, left_ways, ways_by, ways_below, ways, ways_earlier, states_of}
use Rattle.nf_thin_narrow.proofs.Common.{choices_of, drop_entry, most, count_at, CountsCapped}
use Rattle.std.proofs.Math.ListN.{drop_of_length-le}
use Rattle.std.proofs.Math.Seq.{take-length}
use Rattle.nf_thin_laws.proofs.ForcedOrder.{changes_first}
use Rattle.nf_thin_laws.proofs.Counting.{left_ways-of}
use Rattle.nf_thin_narrow.proofs.Capping.{by_capped, below_capped, caps_of, counted_capped}

pub changes_behind : (base p : Pattern) (i : ℕ) → changes (drop i base) (drop i p) ≤ changes base p
changes_behind base p zero = omega arith
changes_behind [] [] (suc i) = omega arith
changes_behind [] (s ∷ p) (suc i) = none (drop i p)
  where
    none : (q : Pattern) → changes [] q ≤ 0
    none [] = omega arith
    none (t ∷ q) = omega arith
changes_behind (b ∷ base) [] (suc i) = none (drop i base)
  where
    none : (q : Pattern) → changes q [] ≤ 0
    none [] = omega arith
    none (t ∷ q) = omega arith
changes_behind (b ∷ base) (s ∷ p) (suc i) = let f = changes_first b s base p in let h = changes_behind base p i in omega arith

pub changes_step_at : (base p : Pattern) (i j : ℕ) (b s : Option State) → j ≡ suc i → slice_get base i ≡ Some b → slice_get p i ≡ Some s
    → changes (drop i base) (drop i p) ≡ change b s + changes (drop j base) (drop j p)
changes_step_at base p i j b s at h k =
    (λ z. changes (drop_entry base i b h z) (drop_entry p i s k z))
    ∙ (changes_first b s (drop (suc i) base) (drop (suc i) p) ∙ ap (λ (n : ℕ). change b s + changes (drop n base) (drop n p)) (sym at))

-- One more link with these states. The row counts the assignments `behind` it, of the later links alone.
module _ (states : List (Option State)) (b s : Option State) (behind : ℕ → ℕ) (row : List ℕ) (tells : CountsCapped row behind) where
  -- The row with the link.
  pub row_more : (here : ℕ → ℕ) → ((k : ℕ) → here k ≡ ways_by states b behind k) → (after : List ℕ) → length after ≡ length row
      → ((k : ℕ) → k < length row → count_at after k ≡ min (ways_by states b (count_at row) k) most) → CountsCapped after here
  row_more here step after count is k less =
      is k (omega arith) ∙ (by_capped most behind (count_at row) states b k (caps_of row behind k tells (omega arith)) ∙ ap (λ (x : ℕ). min x most) (sym (step k)))

  -- The earlier assignments, with the link. Those that agree with the pattern at the link count if `kept`.
  pub earlier_more : (kept : Bool) (earlier_behind : ℕ → ℕ) (earlier made now : ℕ)
      → earlier ≡ ways_below states b s behind now + (if kept then left_ways (change b s) earlier_behind now else 0) → now ≡ change b s + made → now < length row
      → (before under same after : ℕ) → before ≡ min (earlier_behind made) most → under ≡ min (ways_below states b s (count_at row) now) most
      → same ≡ (if kept then before else 0) → after ≡ min (same + under) most → after ≡ min earlier most
  earlier_more kept earlier_behind earlier made now step split less before under same after is under_is same_is after_is =
      let rest : left_ways (change b s) earlier_behind now ≡ earlier_behind made = left_ways-of (change b s) earlier_behind now made split in
      let capped = counted_capped kept before (left_ways (change b s) earlier_behind now) most (let r = rest in omega arith) in
      let below = below_capped most behind (count_at row) states b s now (caps_of row behind now tells less) in omega arith

pub earlier_at : (earlier_from : ℕ → ℕ → ℕ) (base p : Pattern) (e next made before : ℕ) → e ≡ next → made ≡ changes (drop e base) (drop e p) → before ≡ min (earlier_from e made) most
    → before ≡ min (earlier_from next (changes (drop next base) (drop next p))) most
earlier_at earlier_from base p e next made before at made_is is =
    is ∙ (ap (λ (k : ℕ). min (earlier_from e k) most) made_is ∙ ap (λ (n : ℕ). min (earlier_from n (changes (drop n base) (drop n p))) most) at)

-- ---- the states of each link by whether it is unbounded and alone

-- The counts of assignments from link i on.
abbrev pub ways_from : Pattern → List Bool → List Bool → ℕ → ℕ → ℕ
ways_from base us sole i k = ways (choices_of (drop i base) (drop i us) (drop i sole)) (drop i base) k

abbrev pub earlier_from : Pattern → List Bool → List Bool → Pattern → ℕ → ℕ → ℕ
earlier_from base us sole p i n = ways_earlier (choices_of (drop i base) (drop i us) (drop i sole)) (drop i base) (drop i p) n

module _ (base p : Pattern) (us sole : List Bool) (i : ℕ) (b s : Option State) (u o : Bool) (at_b : slice_get base i ≡ Some b) (at_s : slice_get p i ≡ Some s)
    (at_u : slice_get us i ≡ Some u) (at_o : slice_get sole i ≡ Some o) where
  pub ways_step : (k : ℕ) → ways_from base us sole i k ≡ ways_by (states_of b u o) b (ways_from base us sole (suc i)) k
  ways_step k = λ j. ways (choices_of (drop_entry base i b at_b j) (drop_entry us i u at_u j) (drop_entry sole i o at_o j)) (drop_entry base i b at_b j) k

  pub earlier_step : (n : ℕ) → earlier_from base us sole p i n
      ≡ ways_below (states_of b u o) b s (ways_from base us sole (suc i)) n + (if true then left_ways (change b s) (earlier_from base us sole p (suc i)) n else 0)
  earlier_step n =
      λ j. ways_earlier (choices_of (drop_entry base i b at_b j) (drop_entry us i u at_u j) (drop_entry sole i o at_o j)) (drop_entry base i b at_b j)
      (drop_entry p i s at_s j) n

-- a vector that was written to as a whole
pub refilled : (n : ℕ) (xs ws : List ℕ) → n ≡ length xs → length ws ≡ length xs → take n (ws ++ drop (length ws) xs) ≡ ws
refilled n xs ws count same =
    ap (λ (zs : List ℕ). take n (ws ++ zs)) (drop_of_length-le xs (omega arith))
    ∙ (ap (take n) (append-nil ws) ∙ (ap (λ (k : ℕ). take k ws) (let e : n ≡ length ws = omega arith in e) ∙ take-length ws))
