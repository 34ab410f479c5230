-- The enumerated patterns are a prefix of the listing, and the whole listing if none is left.
use Rattle.std.proofs.Common.{◌≡◌, ℕ, zero, suc, ◌+◌, ◌-◌, ◌^◌, min, List, [], ◌∷◌, ◌++◌, length, length-append, inl, inr, ◌⊎◌, ⊎_elim, Some, slice_get}
use Rattle.std.proofs.Common.{refl, sym, ap, subst, ◌∙◌, arith}
use Rattle.nf_pattern.proofs.Common.{none-some, same_Some, slice_get_within, Pattern, IsBefore, IsBefore-asymmetric, IsBefore-transitive, ordered_by_place}
use Rattle.nf_pattern.proofs.Common.{StandsIn, InOrder, Question, IsListedBy, Given, AtStart, UpTo, IsNext, NoneLeft, Enumerates, next_place, IsListingOf}
use Rattle.nf_pattern.proofs.Common.{AreGiven, GivenAreFronts}
use Rattle.nf_pattern.proofs.Each.{entry_pushed}
use Rattle.nf_pattern.proofs.Ranging.{before_or}

-- ---- a sorted list is a prefix of another if its elements are in the other, with all elements before them there
module _ (base : Pattern) where
  pub stands_cases : (x y : Pattern) (xs : List Pattern) → StandsIn (x ∷ xs) y → (x ≡ y) ⊎ StandsIn xs y
  stands_cases x y xs (zero, at) = inl (same_Some x y at)
  stands_cases x y xs (suc i, at) = inr (i, at)

  first_less : (x y : Pattern) (xs : List Pattern) → InOrder (IsBefore base) (x ∷ xs) → StandsIn xs y → IsBefore base x y
  first_less x y xs order here = order 0 (suc here.0) x y (omega arith) refl here.1

  not_itself : (x y : Pattern) → x ≡ y → IsBefore base x y → ⊥
  not_itself x y same less = let l : IsBefore base x x = subst (λ (z : Pattern). IsBefore base x z) (sym same) less in IsBefore-asymmetric base x x l l

  tail_order : (x : Pattern) (xs : List Pattern) → InOrder (IsBefore base) (x ∷ xs) → InOrder (IsBefore base) xs
  tail_order x xs order i j p q less at_p at_q = order (suc i) (suc j) p q (omega arith) at_p at_q

  abbrev Into : List Pattern → List Pattern → Type 0
  Into front listing = (p : Pattern) → StandsIn front p → StandsIn listing p

  abbrev Down : List Pattern → List Pattern → Type 0
  Down front listing = (r p : Pattern) → StandsIn listing r → StandsIn front p → IsBefore base r p → StandsIn front r

  same_first : (x y : Pattern) (xs ys : List Pattern) → InOrder (IsBefore base) (x ∷ xs) → InOrder (IsBefore base) (y ∷ ys) → Into (x ∷ xs) (y ∷ ys) → Down (x ∷ xs) (y ∷ ys) → y ≡ x
  same_first x y xs ys order_x order_y into down = ⊎_elim
      (λ (same : y ≡ x). same)
      (λ (later : StandsIn ys x).
      let less = first_less y x ys order_y later in
      ⊎_elim (λ (same : x ≡ y). sym same) (λ (other : StandsIn xs y). absurd (IsBefore-asymmetric base x y (first_less x y xs order_x other) less))
      (stands_cases x y xs (down y x (0, refl) (0, refl) less)))
      (stands_cases y x ys (into x (0, refl)))

  pub front_of : (front listing : List Pattern) → InOrder (IsBefore base) front → InOrder (IsBefore base) listing → Into front listing → Down front listing
      → (i : ℕ) (p : Pattern) → slice_get front i ≡ Some p → slice_get listing i ≡ Some p
  front_of [] listing order_x order_y into down i p at = absurd (none-some p at)
  front_of (x ∷ xs) [] order_x order_y into down i p at = let there = into x (0, refl) in absurd (none-some x there.1)
  front_of (x ∷ xs) (y ∷ ys) order_x order_y into down zero p at = ap (λ (z : Pattern). Some z) (same_first x y xs ys order_x order_y into down) ∙ at
  front_of (x ∷ xs) (y ∷ ys) order_x order_y into down (suc i) p at =
      let same = same_first x y xs ys order_x order_y into down in
      front_of xs ys (tail_order x xs order_x) (tail_order y ys order_y)
      (λ z here. ⊎_elim (λ (e : y ≡ z). absurd (not_itself x z (sym same ∙ e) (first_less x z xs order_x here))) (λ (there : StandsIn ys z). there)
      (stands_cases y z ys (into z (suc here.0, here.1))))
      (λ r q there here less. ⊎_elim (λ (e : x ≡ r). absurd (not_itself y r (same ∙ e) (first_less y r ys order_y there))) (λ (other : StandsIn xs r). other)
      (stands_cases x r xs (down r q (suc there.0, there.1) (suc here.0, here.1) less)))
      i p at

pub given_none : (question : Question) → AreGiven (record { question = question; last = AtStart; place = 0 }) []
given_none question = record {
  listed = λ i p h. absurd (none-some p h);
  ordered = λ i j p q less at_p at_q. absurd (none-some p at_p);
  whole = λ r listed later. absurd (later tt);
  before = λ i p r h later. absurd (none-some p h);
  place = refl;
}

pushed_last : (front : List Pattern) (p : Pattern) → slice_get (front ++ p ∷ []) (length front) ≡ Some p
pushed_last [] p = refl
pushed_last (x ∷ front) p = pushed_last front p

pushed_first : (front : List Pattern) (p q : Pattern) (i : ℕ) → slice_get front i ≡ Some q → slice_get (front ++ p ∷ []) i ≡ Some q
pushed_first [] p q i h = absurd (none-some q h)
pushed_first (x ∷ front) p q zero h = h
pushed_first (x ∷ front) p q (suc i) h = pushed_first front p q i h

one_more : (n m : ℕ) → min (min n m + 1) m ≡ min (n + 1) m
one_more n m = omega arith

module _ (given : Given) (front : List Pattern) (are : AreGiven given front) where
  abbrev question : Question
  question = given.question

  abbrev base : Pattern
  base = given.question.base

  same_length : (p r : Pattern) → IsListedBy question p → IsListedBy question r → length r ≡ length p
  same_length p r h k = k.states.count ∙ sym h.states.count

  -- ---- one more
  module _ (p : Pattern) (next : IsNext question given.last p) where
    abbrev after : Given
    after = record { question = given.question; last = UpTo p; place = next_place given.place }

    ordered_more : InOrder (IsBefore base) (front ++ p ∷ [])
    ordered_more i j q r less at_q at_r = go (entry_pushed front p i q at_q) (entry_pushed front p j r at_r)
      where
        go : (slice_get front i ≡ Some q) ⊎ ((i ≡ length front) × (p ≡ q)) → (slice_get front j ≡ Some r) ⊎ ((j ≡ length front) × (p ≡ r)) → IsBefore base q r
        go (inl here) (inl there) = are.ordered i j q r less here there
        go (inl here) (inr there) = subst (λ (x : Pattern). IsBefore base q x) there.1 (are.before i q p here next.later)
        go (inr here) (inl there) = let l = slice_get_within front j r there in let e = here.0 in absurd (omega arith)
        go (inr here) (inr there) = let e = here.0 in let f = there.0 in absurd (omega arith)

    whole_more : (r : Pattern) → IsListedBy question r → (IsBefore base p r → ⊥) → StandsIn (front ++ p ∷ []) r
    whole_more r listed not_later = ⊎_elim
        (λ (less : IsBefore base r p). let at = are.whole r listed (λ later. next.least r listed later less) in (at.0, pushed_first front p r at.0 at.1))
        (λ (w : (r ≡ p) ⊎ IsBefore base p r). ⊎_elim
        (λ (same : r ≡ p). (length front, pushed_last front p ∙ ap (λ (x : Pattern). Some x) (sym same)))
        (λ (more : IsBefore base p r). absurd (not_later more)) w)
        (before_or base r p (same_length p r next.listed listed))

    pub given_one : AreGiven after (front ++ p ∷ [])
    given_one = record {
      listed = λ i q at. ⊎_elim
          (λ (here : slice_get front i ≡ Some q). are.listed i q here)
          (λ (last : (i ≡ length front) × (p ≡ q)). subst (λ (x : Pattern). IsListedBy question x) last.1 next.listed) (entry_pushed front p i q at);
      ordered = ordered_more;
      whole = whole_more;
      before = λ i q r at later. ⊎_elim
          (λ (here : slice_get front i ≡ Some q). IsBefore-transitive base q p r (are.before i q p here next.later) later)
          (λ (last : (i ≡ length front) × (p ≡ q)). subst (λ (x : Pattern). IsBefore base x r) last.1 later) (entry_pushed front p i q at);
      place = ap next_place are.place ∙ (one_more (length front) (2 ^ 64 - 1) ∙ ap (λ (n : ℕ). min n (2 ^ 64 - 1)) (let l = length-append front (p ∷ []) in omega arith));
    }

  pub given_more : (p : Pattern) (then : Given) → Enumerates given (Some p) then → AreGiven then (front ++ p ∷ [])
  given_more p then gives = subst (λ (x : Given). AreGiven x (front ++ p ∷ [])) (sym gives.1) (given_one p gives.0)

  -- ---- all of them
  pub given_all : NoneLeft question given.last → IsListingOf question front
  given_all none = record {
    listed = λ place p at. are.listed at.0 p at.2;
    whole = λ p listed. let at = are.whole p listed (λ later. none p listed later) in (suc at.0, (at.0, refl, at.1));
    ordered = ordered_by_place base front are.ordered;
  }

  -- ---- a prefix of each listing
  pub given_front : (listing : List Pattern) → IsListingOf question listing → (i : ℕ) (p : Pattern) → slice_get front i ≡ Some p → slice_get listing i ≡ Some p
  given_front listing is = front_of base front listing are.ordered (λ i j p q less at_p at_q. is.ordered (suc i) (suc j) p q (omega arith) (i, refl, at_p) (j, refl, at_q))
      (λ p here. let at = is.whole p (are.listed here.0 p here.1) in (at.1.0, at.1.2))
      (λ r p there here less. are.whole r (is.listed (suc there.0) r (there.0, refl, there.1)) (λ later. IsBefore-asymmetric base r p less (are.before here.0 p r here.1 later)))

pub given_are_fronts : GivenAreFronts
given_are_fronts = record {
  start = given_none;
  more = λ given after front p are gives. given_more given front are p after gives;
  end = λ given after front are gives. given_all given front are gives.0;
  front = λ given front listing are is. given_front given front are listing is;
}
