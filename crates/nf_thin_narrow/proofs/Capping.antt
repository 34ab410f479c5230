-- Counts of assignments, capped at 2^64 - 1.
use Rattle.std.proofs.Common.{◌≡◌, ℕ, zero, suc, ◌<◌, ◌≤◌, min, Bool, true, false, List, [], ◌∷◌, length, refl, arith, Option, nat_lt, if◌then◌else◌}
use Rattle.nf_thin_narrow.proofs.Common.{State, Pattern, rank, change, Choices, left_ways, ways_by, ways_below, ways, ways_fewer, most, count_at}
use Rattle.nf_thin_narrow.proofs.Common.{CountsCapped, first_ways}

pub counted_capped : (t : Bool) (x y m : ℕ) → x ≡ min y m → (if t then x else 0) ≡ min (if t then y else 0) m
counted_capped true x y m h = h
counted_capped false x y m h = omega arith

module _ (m : ℕ) (f g : ℕ → ℕ) where
  -- Up to this number of changes, g is f, capped.
  abbrev Caps : ℕ → Type 0
  Caps n = (k : ℕ) → k ≤ n → g k ≡ min (f k) m

  left_capped : (j n : ℕ) → Caps n → left_ways j g n ≡ min (left_ways j f n) m
  left_capped zero n h = h n (omega arith)
  left_capped (suc j) zero h = omega arith
  left_capped (suc j) (suc n) h = left_capped j n (λ k l. h k (omega arith))

  pub by_capped : (states : List (Option State)) (b : Option State) (n : ℕ) → Caps n → min (ways_by states b g n) m ≡ min (ways_by states b f n) m
  by_capped [] b n h = refl
  by_capped (t ∷ states) b n h = let one = left_capped (change b t) n h in let rest = by_capped states b n h in omega arith

  pub below_capped : (states : List (Option State)) (b s : Option State) (n : ℕ) → Caps n → min (ways_below states b s g n) m ≡ min (ways_below states b s f n) m
  below_capped [] b s n h = refl
  below_capped (t ∷ states) b s n h =
      let one = counted_capped (nat_lt (rank t) (rank s)) (left_ways (change b t) g n) (left_ways (change b t) f n) m (left_capped (change b t) n h) in
      let rest = below_capped states b s n h in omega arith

-- Rows that are equal up to some number of changes give equal counts there.
left_alike : (f g : ℕ → ℕ) (j n : ℕ) → ((k : ℕ) → k ≤ n → g k ≡ f k) → left_ways j g n ≡ left_ways j f n
left_alike f g zero n h = h n (omega arith)
left_alike f g (suc j) zero h = refl
left_alike f g (suc j) (suc n) h = left_alike f g j n (λ k l. h k (omega arith))

pub by_alike : (f g : ℕ → ℕ) (states : List (Option State)) (b : Option State) (n : ℕ) → ((k : ℕ) → k ≤ n → g k ≡ f k) → ways_by states b g n ≡ ways_by states b f n
by_alike f g [] b n h = refl
by_alike f g (t ∷ states) b n h = let one = left_alike f g (change b t) n h in let rest = by_alike f g states b n h in omega arith

-- the numbers of a row, up to one within it
pub caps_of : (row : List ℕ) (f : ℕ → ℕ) (n : ℕ) → CountsCapped row f → n < length row → (k : ℕ) → k ≤ n → count_at row k ≡ min (f k) most
caps_of row f n h less k le = h k (omega arith)

pub first_fewer : (choices : Choices) (base : Pattern) (n : ℕ) → first_ways (ways choices base) n ≡ ways_fewer choices base n
first_fewer choices base zero = refl
first_fewer choices base (suc n) = let h = first_fewer choices base n in omega arith
