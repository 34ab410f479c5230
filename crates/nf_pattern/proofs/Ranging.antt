-- The order of patterns is total, and each step in it leaves fewer patterns behind.
use Rattle.std.proofs.Common.{◌≡◌, ℕ, zero, suc, ◌+◌, ◌-◌, ◌<◌, ◌≤◌, [], ◌∷◌, length, inl, inr, ◌⊎◌, Option, Some, None, refl, sym, ap, ◌∙◌, arith}
use Rattle.nf_pattern.proofs.Common.{State, Tight, Full, Zero, Pattern, rank, changes, IsEarlier, IsBefore, same_rank, free, compared}

abbrev pub Trio : Pattern → Pattern → Type 0
Trio p q = IsEarlier p q ⊎ ((p ≡ q) ⊎ IsEarlier q p)

earlier_or : (p q : Pattern) → length p ≡ length q → Trio p q
earlier_or [] [] n = inr (inl refl)
earlier_or [] (b ∷ q) n = absurd (omega arith)
earlier_or (a ∷ p) [] n = absurd (omega arith)
earlier_or (a ∷ p) (b ∷ q) n = go (compared (rank a) (rank b)) (earlier_or p q (omega arith))
  where
    go : (rank a < rank b) ⊎ ((rank a ≡ rank b) ⊎ (rank b < rank a)) → Trio p q → Trio (a ∷ p) (b ∷ q)
    go (inl less) rest = inl (inl less)
    go (inr (inr more)) rest = inr (inr (inl more))
    go (inr (inl same)) (inl less) = inl (inr (same_rank a b same, less))
    go (inr (inl same)) (inr (inl e)) = inr (inl (ap (λ (x : Option State). x ∷ p) (same_rank a b same) ∙ ap (λ (x : Pattern). b ∷ x) e))
    go (inr (inl same)) (inr (inr more)) = inr (inr (inr (sym (same_rank a b same), more)))

pub before_or : (base p q : Pattern) → length p ≡ length q → IsBefore base p q ⊎ ((p ≡ q) ⊎ IsBefore base q p)
before_or base p q n = go (compared (changes base p) (changes base q)) (earlier_or p q n)
  where
    go : (changes base p < changes base q) ⊎ ((changes base p ≡ changes base q) ⊎ (changes base q < changes base p)) → Trio p q → IsBefore base p q ⊎ ((p ≡ q) ⊎ IsBefore base q p)
    go (inl less) rest = inl (inl less)
    go (inr (inr more)) rest = inr (inr (inl more))
    go (inr (inl same)) (inl less) = inl (inr (same, less))
    go (inr (inl same)) (inr (inl e)) = inr (inl e)
    go (inr (inl same)) (inr (inr more)) = inr (inr (inr (sym same, more)))

-- ---- how many patterns may come after one, at most

-- 4 to the number of links
abbrev pub room : Pattern → ℕ
room [] = 1
room (s ∷ p) = (room p + room p) + (room p + room p)

-- The rank of a pattern among all lists of states of its length.
abbrev pub place_in : Pattern → ℕ
place_in [] = 0
place_in (None ∷ p) = place_in p
place_in (Some Tight ∷ p) = room p + place_in p
place_in (Some Full ∷ p) = (room p + room p) + place_in p
place_in (Some Zero ∷ p) = (room p + room p) + (room p + place_in p)

abbrev pub times : ℕ → ℕ → ℕ
times zero n = 0
times (suc k) n = n + times k n

-- those with equally many changes, and those with more
abbrev pub left_after : Pattern → Pattern → ℕ
left_after base p = times (free base - changes base p) (room p) + (room p - place_in p)

place_below : (p : Pattern) → place_in p < room p
place_below [] = omega arith
place_below (None ∷ p) = let h = place_below p in omega arith
place_below (Some Tight ∷ p) = let h = place_below p in omega arith
place_below (Some Full ∷ p) = let h = place_below p in omega arith
place_below (Some Zero ∷ p) = let h = place_below p in omega arith

same_room : (p q : Pattern) → length p ≡ length q → room p ≡ room q
same_room [] [] n = refl
same_room [] (b ∷ q) n = absurd (omega arith)
same_room (a ∷ p) [] n = absurd (omega arith)
same_room (a ∷ p) (b ∷ q) n = let h = same_room p q (omega arith) in omega arith

first_place : (s : Option State) (p : Pattern) → place_in (s ∷ p) ≡ times (rank s) (room p) + place_in p
first_place None p = omega arith
first_place (Some Tight) p = omega arith
first_place (Some Full) p = omega arith
first_place (Some Zero) p = omega arith

times_more : (j k n : ℕ) → j < k → times j n + n ≤ times k n
times_more j zero n h = absurd (omega arith)
times_more zero (suc k) n h = omega arith
times_more (suc j) (suc k) n h = let l = times_more j k n (omega arith) in omega arith

place_more : (p q : Pattern) → length p ≡ length q → IsEarlier p q → place_in p < place_in q
place_more [] q n h = absurd h
place_more (a ∷ p) [] n h = absurd h
place_more (a ∷ p) (b ∷ q) n (inl less) =
    let f = first_place a p in let g = first_place b q in let r = same_room p q (omega arith) in
    let l = place_below p in let t = times_more (rank a) (rank b) (room p) less in
    let same : times (rank b) (room p) ≡ times (rank b) (room q) = ap (times (rank b)) r in omega arith
place_more (a ∷ p) (b ∷ q) n (inr k) =
    let f = first_place a p in let g = first_place b q in let r = same_room p q (omega arith) in
    let l = place_more p q (omega arith) k.1 in
    let same : times (rank a) (room p) ≡ times (rank b) (room q) = ap (λ (s : Option State). times (rank s) (room p)) k.0 ∙ ap (times (rank b)) r in omega arith

-- each later pattern leaves fewer
pub fewer_left : (base p q : Pattern) → length p ≡ length q → changes base q ≤ free base → IsBefore base p q → left_after base q < left_after base p
fewer_left base p q n few (inl less) =
    let t = times_more (free base - changes base q) (free base - changes base p) (room q) (omega arith) in
    let r = same_room p q n in let l = place_below p in
    let same : times (free base - changes base p) (room q) ≡ times (free base - changes base p) (room p) = ap (times (free base - changes base p)) (sym r) in omega arith
fewer_left base p q n few (inr k) =
    let l = place_more p q n k.1 in let r = same_room p q n in let b = place_below q in
    let same : times (free base - changes base q) (room q) ≡ times (free base - changes base p) (room p) =
    ap (λ (c : ℕ). times (free base - c) (room q)) (sym k.0) ∙ ap (times (free base - changes base p)) (sym r) in omega arith
