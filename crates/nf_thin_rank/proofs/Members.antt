-- How many of a listing's first patterns a family has: at least as many as its assignments before the next pattern.
use Rattle.std.proofs.Common.{◌≡◌, ◌≢◌, ◌⊎◌, inl, inr, ℕ, zero, suc, ◌+◌, ◌<◌, ◌≤◌, Bool, true, false, List, [], ◌∷◌, length, refl, ap, ◌∙◌, arith, Option}
use Rattle.std.proofs.Common.{Some, None, slice_get, ◌==◌, if◌then◌else◌}
use Rattle.nf_thin_rank.proofs.Common.{false≢true, eqb_tells, none-some, same_Some, State, Hop, Sets, Pattern, rank, IsListed, IsListing, Choices, IsIn}
use Rattle.nf_thin_rank.proofs.Common.{AreIn, ways_before, AllAscend, is_in, firm_before}
use Rattle.nf_thin_laws.proofs.Unranking.{number_before, is_in-is}
use Rattle.nf_thin_laws.proofs.PlacesBelow.{there, fewer_lower, before_lower}

-- ---- sums over the first patterns of a list
abbrev pub members : (Pattern → ℕ) → List Pattern → ℕ → ℕ
members has [] n = 0
members has (r ∷ rs) zero = 0
members has (r ∷ rs) (suc n) = has r + members has rs n

pub members_sum : (has more : Pattern → ℕ) (rs : List Pattern) (n : ℕ) → members (λ (r : Pattern). has r + more r) rs n ≡ members has rs n + members more rs n
members_sum has more [] n = refl
members_sum has more (r ∷ rs) zero = refl
members_sum has more (r ∷ rs) (suc n) = let h = members_sum has more rs n in omega arith

pub members_few : (has : Pattern → ℕ) → ((r : Pattern) → has r ≤ 1) → (rs : List Pattern) (n : ℕ) → members has rs n ≤ n
members_few has once [] n = omega arith
members_few has once (r ∷ rs) zero = omega arith
members_few has once (r ∷ rs) (suc n) = let h = members_few has once rs n in let o = once r in omega arith

-- The pattern itself is counted for each later one.
members_more : (has : Pattern → ℕ) (rs : List Pattern) (i j : ℕ) (q : Pattern) → i < j → slice_get rs i ≡ Some q → members has rs i + has q ≤ members has rs j
members_more has [] i j q less at = absurd (none-some q at)
members_more has (r ∷ rs) i zero q less at = absurd (omega arith)
members_more has (r ∷ rs) zero (suc j) q less at = let e : has r ≡ has q = ap has (same_Some r q at) in omega arith
members_more has (r ∷ rs) (suc i) (suc j) q less at = let h = members_more has rs i j q (omega arith) at in omega arith

-- ---- whether an assignment is in a family
abbrev pub are_in : Choices → Pattern → Bool
are_in [] [] = true
are_in [] (s ∷ p) = false
are_in (c ∷ choices) [] = false
are_in (c ∷ choices) (s ∷ p) = if is_in c s then are_in choices p else false

-- 1 if it is in the family, and 0 otherwise
abbrev pub in_family : Choices → Pattern → ℕ
in_family choices r = if are_in choices r then 1 else 0

same_state : (s t : Option State) → s ≡ t → (rank s == rank t) ≡ true
same_state s t same = go (eqb_tells (rank s) (rank t))
  where
    go : (((rank s == rank t) ≡ true) × (rank s ≡ rank t)) ⊎ (((rank s == rank t) ≡ false) × (rank s ≢ rank t)) → (rank s == rank t) ≡ true
    go (inl w) = w.0
    go (inr w) = absurd (w.1 (ap rank same))

is_in_of : (states : List (Option State)) (s : Option State) → IsIn states s → is_in states s ≡ true
is_in_of [] s h = absurd h
is_in_of (t ∷ states) s (inl same) = ap (λ (b : Bool). if b then true else is_in states s) (same_state s t same)
is_in_of (t ∷ states) s (inr later) = go (rank s == rank t) (is_in_of states s later)
  where
    go : (b : Bool) → is_in states s ≡ true → (if b then true else is_in states s) ≡ true
    go true e = refl
    go false e = e

pub are_in_of : (choices : Choices) (p : Pattern) → AreIn choices p → are_in choices p ≡ true
are_in_of [] [] h = refl
are_in_of [] (s ∷ p) h = absurd h
are_in_of (c ∷ choices) [] h = absurd h
are_in_of (c ∷ choices) (s ∷ p) h = ap (λ (b : Bool). if b then are_in choices p else false) (is_in_of c s h.0) ∙ are_in_of choices p h.1

both : (a b : Bool) → (if a then b else false) ≡ true → (a ≡ true) × (b ≡ true)
both true b h = (refl, h)
both false b h = absurd (false≢true h)

pub of_are_in : (choices : Choices) (p : Pattern) → are_in choices p ≡ true → AreIn choices p
of_are_in [] [] h = tt
of_are_in [] (s ∷ p) h = absurd (false≢true h)
of_are_in (c ∷ choices) [] h = absurd (false≢true h)
of_are_in (c ∷ choices) (s ∷ p) h = let w = both (is_in c s) (are_in choices p) h in (is_in-is c s w.0, of_are_in choices p w.1)

-- The assignment is in the family, or counts 0.
pub told_in : (choices : Choices) (r : Pattern) → (AreIn choices r × (in_family choices r ≡ 1)) ⊎ (in_family choices r ≡ 0)
told_in choices r = go (are_in choices r) refl
  where
    go : (b : Bool) → are_in choices r ≡ b → (AreIn choices r × (in_family choices r ≡ 1)) ⊎ (in_family choices r ≡ 0)
    go true e = inl (of_are_in choices r e, ap (λ (b : Bool). if b then 1 else 0) e)
    go false e = inr (ap (λ (b : Bool). if b then 1 else 0) e)

is_one : (choices : Choices) (q : Pattern) → AreIn choices q → in_family choices q ≡ 1
is_one choices q h = ap (λ (b : Bool). if b then 1 else 0) (are_in_of choices q h)

-- ---- a family of listed patterns
module _ (nodes source : ℕ) (hops : List Hop) (sets : Sets) (unbounded : List Bool) (base : Pattern) (choices : Choices) (listing : List Pattern)
    (is : IsListing nodes source hops sets unbounded base listing) (all : (q : Pattern) → AreIn choices q → IsListed nodes source hops sets unbounded q) (up : AllAscend choices)
    (count : length base ≡ length sets.active) where
  -- One more member before j.
  one_more : (w : Pattern) → AreIn choices w → (i j k : ℕ) → slice_get listing i ≡ Some w → i < j → k ≤ members (in_family choices) listing i
      → suc k ≤ members (in_family choices) listing j
  one_more w in_w i j k at less h =
      let m = members_more (in_family choices) listing i j w less at in
      let o = is_one choices w in_w in omega arith

  module _ (p : Pattern) where
    at_least : (k : ℕ) → k < firm_before choices base p → (q : Pattern) → AreIn choices q → ways_before choices base q ≡ k → (j : ℕ)
        → slice_get listing j ≡ Some q → k ≤ members (in_family choices) listing j
    at_least zero less q in_q number j at = omega arith
    at_least (suc k) less q in_q number j at =
        let w = number_before choices base p k up (omega arith) in
        let t = there nodes source hops sets unbounded base choices listing is all up count w.q w.in_choices in
        let h : k ≤ members (in_family choices) listing t.0 = at_least k (omega arith) w.q w.in_choices w.number t.0 t.1 in
        one_more w.q w.in_choices t.0 j k t.1
        (fewer_lower nodes source hops sets unbounded base choices listing is all up count q w.q in_q w.in_choices (let f = w.number in omega arith) t.0 j t.1 at) h

    so_many : (j n : ℕ) → slice_get listing j ≡ Some p → firm_before choices base p ≡ n → n ≤ members (in_family choices) listing j
    so_many j zero at e = omega arith
    so_many j (suc n) at e =
        let w = number_before choices base p n up (omega arith) in
        let t = there nodes source hops sets unbounded base choices listing is all up count w.q w.in_choices in
        let h = at_least n (omega arith) w.q w.in_choices w.number t.0 t.1 in
        one_more w.q w.in_choices t.0 j n t.1 (before_lower nodes source hops sets unbounded base choices listing is all up count p w.q w.before t.0 j t.1 at) h

  -- As many members come before a pattern as assignments.
  pub members_before : (p : Pattern) (j : ℕ) → slice_get listing j ≡ Some p → firm_before choices base p ≤ members (in_family choices) listing j
  members_before p j at = so_many p j (firm_before choices base p) at refl
