-- A listing is unique: the order of patterns is strict.
use Rattle.std.proofs.Common.{◌≡◌, ℕ, zero, suc, ◌<◌, List, [], ◌∷◌, refl, sym, ap, ◌∙◌, subst, arith, inl, inr, Bool, Some, slice_get}
use Rattle.nf_thin_laws.proofs.Common.{none-some, same_Some, Hop, Sets, Pattern, rank, IsEarlier, IsBefore, HasPlace, IsListing}
use Rattle.nf_thin_laws.proofs.Sorted.{StandsIn, InOrder, same_list}

-- ---- the order of patterns is strict
IsEarlier-asymmetric : (p q : Pattern) → IsEarlier p q → IsEarlier q p → ⊥
IsEarlier-asymmetric [] q h k = h
IsEarlier-asymmetric (a ∷ p) [] h k = h
IsEarlier-asymmetric (a ∷ p) (b ∷ q) (inl h) (inl k) = omega arith
IsEarlier-asymmetric (a ∷ p) (b ∷ q) (inl h) (inr k) = let e : rank b ≡ rank a = ap rank k.0 in omega arith
IsEarlier-asymmetric (a ∷ p) (b ∷ q) (inr h) (inl k) = let e : rank a ≡ rank b = ap rank h.0 in omega arith
IsEarlier-asymmetric (a ∷ p) (b ∷ q) (inr h) (inr k) = IsEarlier-asymmetric p q h.1 k.1

pub IsBefore-asymmetric : (base p q : Pattern) → IsBefore base p q → IsBefore base q p → ⊥
IsBefore-asymmetric base p q (inl h) (inl k) = omega arith
IsBefore-asymmetric base p q (inl h) (inr k) = let e = k.0 in omega arith
IsBefore-asymmetric base p q (inr h) (inl k) = let e = h.0 in omega arith
IsBefore-asymmetric base p q (inr h) (inr k) = IsEarlier-asymmetric p q h.1 k.1

IsEarlier-transitive : (p q r : Pattern) → IsEarlier p q → IsEarlier q r → IsEarlier p r
IsEarlier-transitive [] q r h k = absurd h
IsEarlier-transitive (a ∷ p) [] r h k = absurd h
IsEarlier-transitive (a ∷ p) (b ∷ q) [] h k = absurd k
IsEarlier-transitive (a ∷ p) (b ∷ q) (c ∷ r) (inl h) (inl k) = inl (omega arith)
IsEarlier-transitive (a ∷ p) (b ∷ q) (c ∷ r) (inl h) (inr k) = let e : rank b ≡ rank c = ap rank k.0 in inl (omega arith)
IsEarlier-transitive (a ∷ p) (b ∷ q) (c ∷ r) (inr h) (inl k) = let e : rank a ≡ rank b = ap rank h.0 in inl (omega arith)
IsEarlier-transitive (a ∷ p) (b ∷ q) (c ∷ r) (inr h) (inr k) = inr (h.0 ∙ k.0, IsEarlier-transitive p q r h.1 k.1)

pub IsBefore-transitive : (base p q r : Pattern) → IsBefore base p q → IsBefore base q r → IsBefore base p r
IsBefore-transitive base p q r (inl h) (inl k) = inl (omega arith)
IsBefore-transitive base p q r (inl h) (inr k) = let e = k.0 in inl (omega arith)
IsBefore-transitive base p q r (inr h) (inl k) = let e = h.0 in inl (omega arith)
IsBefore-transitive base p q r (inr h) (inr k) = inr (h.0 ∙ k.0, IsEarlier-transitive p q r h.1 k.1)

-- ---- if each pattern comes before the next, it comes before all later ones
abbrev pub NextInOrder : Pattern → List Pattern → Type 0
NextInOrder base listing = (i : ℕ) (p q : Pattern) → slice_get listing i ≡ Some p → slice_get listing (suc i) ≡ Some q → IsBefore base p q

tail_in_order : (base x : Pattern) (xs : List Pattern) → NextInOrder base (x ∷ xs) → NextInOrder base xs
tail_in_order base x xs h i p q at_p at_q = h (suc i) p q at_p at_q

head_first : (base x : Pattern) (xs : List Pattern) (j : ℕ) (q : Pattern) → NextInOrder base (x ∷ xs) → slice_get xs j ≡ Some q → IsBefore base x q
head_first base x [] j q h at_q = absurd (none-some q at_q)
head_first base x (y ∷ xs) zero q h at_q = h 0 x q refl at_q
head_first base x (y ∷ xs) (suc j) q h at_q = IsBefore-transitive base x y q (h 0 x y refl refl) (head_first base y xs j q (tail_in_order base x (y ∷ xs) h) at_q)

pub all_in_order : (base : Pattern) (listing : List Pattern) → NextInOrder base listing → InOrder (IsBefore base) listing
all_in_order base [] h i j p q before at_p at_q = absurd (none-some p at_p)
all_in_order base (x ∷ xs) h zero zero p q before at_p at_q = absurd (omega arith)
all_in_order base (x ∷ xs) h zero (suc j) p q before at_p at_q =
    subst (λ (w : Pattern). IsBefore base w q) (same_Some x p at_p) (head_first base x xs j q h at_q)
all_in_order base (x ∷ xs) h (suc i) zero p q before at_p at_q = absurd (omega arith)
all_in_order base (x ∷ xs) h (suc i) (suc j) p q before at_p at_q = all_in_order base xs (tail_in_order base x xs h) i j p q (omega arith) at_p at_q

-- ---- ranks
pub same_pattern : (listing : List Pattern) (place : ℕ) (p q : Pattern) → HasPlace listing place p → HasPlace listing place q → p ≡ q
same_pattern listing place p q h k =
    let e : h.0 ≡ k.0 = (let f = h.1 in let g = k.1 in omega arith) in
    same_Some p q (sym h.2 ∙ (ap (slice_get listing) e ∙ k.2))

pub ordered_by_place : (base : Pattern) (listing : List Pattern) → InOrder (IsBefore base) listing → (earlier later : ℕ) (p q : Pattern) → earlier < later
    → HasPlace listing earlier p → HasPlace listing later q → IsBefore base p q
ordered_by_place base listing order earlier later p q before h k = order h.0 k.0 p q (let f = h.1 in let g = k.1 in omega arith) h.2 k.2

-- ---- one listing
module _ (nodes source : ℕ) (hops : List Hop) (sets : Sets) (unbounded : List Bool) (base : Pattern) where
  in_order : (listing : List Pattern) → IsListing nodes source hops sets unbounded base listing → InOrder (IsBefore base) listing
  in_order listing h i j p q before at_p at_q = h.ordered (suc i) (suc j) p q (omega arith) (i, refl, at_p) (j, refl, at_q)

  into : (listing other : List Pattern) → IsListing nodes source hops sets unbounded base listing → IsListing nodes source hops sets unbounded base other
      → (p : Pattern) → StandsIn listing p → StandsIn other p
  into listing other h k p here = let there = k.whole p (h.listed (suc here.0) p (here.0, refl, here.1)) in (there.1.0, there.1.2)

  pub one_listing : (listing other : List Pattern) → IsListing nodes source hops sets unbounded base listing → IsListing nodes source hops sets unbounded base other → listing ≡ other
  one_listing listing other h k =
      same_list (IsBefore base) (IsBefore-asymmetric base) listing other (in_order listing h) (in_order other k) (into listing other h k)
      (into other listing k h)
