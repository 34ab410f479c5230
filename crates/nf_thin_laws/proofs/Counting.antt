-- Fewer assignments come before a pattern than before a later one.
use Rattle.std.proofs.Common.{◌≡◌, inl, inr, ⊎_elim, ℕ, zero, suc, ◌+◌, ◌<◌, ◌≤◌, Bool, true, false, List, [], ◌∷◌, length, refl, sym, ap, ◌∙◌, arith, leb}
use Rattle.std.proofs.Common.{Option, nat_lt, if◌then◌else◌}
use Rattle.nf_thin_laws.proofs.Common.{leb_tells, State, Pattern, rank, changes, IsEarlier, IsBefore, before_or_at, change, Choices, IsIn, AreIn, left_ways}
use Rattle.nf_thin_laws.proofs.Common.{ways_by, ways_below, ways, ways_earlier, ways_fewer, ways_before}
use Rattle.nf_thin_laws.proofs.ForcedOrder.{changes_first}

-- ---- a number that is counted only if x is less than y
abbrev pub counted : ℕ → ℕ → ℕ → ℕ
counted x y a = if nat_lt x y then a else 0

pub counted_less : (x y a : ℕ) → x < y → counted x y a ≡ a
counted_less x y a h = ⊎_elim
    (λ (w : (leb (suc x) y ≡ true) × (suc x ≤ y)). ap (λ (t : Bool). if t then a else 0) w.0)
    (λ (w : (leb (suc x) y ≡ false) × (y < suc x)). absurd (let k = w.1 in omega arith))
    (leb_tells (suc x) y)

pub counted_not : (x y a : ℕ) → y ≤ x → counted x y a ≡ 0
counted_not x y a h = ⊎_elim
    (λ (w : (leb (suc x) y ≡ true) × (suc x ≤ y)). absurd (let k = w.1 in omega arith))
    (λ (w : (leb (suc x) y ≡ false) × (y < suc x)). ap (λ (t : Bool). if t then a else 0) w.0)
    (leb_tells (suc x) y)

counted_most : (x y a : ℕ) → counted x y a ≤ a
counted_most x y a = ⊎_elim
    (λ (w : (leb (suc x) y ≡ true) × (suc x ≤ y)). let e = counted_less x y a w.1 in omega arith)
    (λ (w : (leb (suc x) y ≡ false) × (y < suc x)). let e = counted_not x y a (let k = w.1 in omega arith) in omega arith)
    (leb_tells (suc x) y)

counted_more : (x y z a : ℕ) → y ≤ z → counted x y a ≤ counted x z a
counted_more x y z a h = ⊎_elim
    (λ (w : (leb (suc x) y ≡ true) × (suc x ≤ y)). let e = counted_less x y a w.1 in let f = counted_less x z a (let k = w.1 in omega arith) in omega arith)
    (λ (w : (leb (suc x) y ≡ false) × (y < suc x)). let e = counted_not x y a (let k = w.1 in omega arith) in omega arith)
    (leb_tells (suc x) y)

-- ---- counts
pub left_ways-of : (j : ℕ) (rest : ℕ → ℕ) (n m : ℕ) → n ≡ j + m → left_ways j rest n ≡ rest m
left_ways-of zero rest n m h = ap rest (let e : n ≡ m = omega arith in e)
left_ways-of (suc j) rest zero m h = absurd (omega arith)
left_ways-of (suc j) rest (suc n) m h = left_ways-of j rest n m (omega arith)

module _ (b : Option State) (rest : ℕ → ℕ) (n : ℕ) where
  abbrev with : Option State → ℕ
  with s = left_ways (change b s) rest n

  below_most : (states : List (Option State)) (s : Option State) → ways_below states b s rest n ≤ ways_by states b rest n
  below_most [] s = omega arith
  below_most (t ∷ states) s = let h = counted_most (rank t) (rank s) (with t) in let k = below_most states s in omega arith

  below_mono : (states : List (Option State)) (s t : Option State) → rank s ≤ rank t → ways_below states b s rest n ≤ ways_below states b t rest n
  below_mono [] s t l = omega arith
  below_mono (u ∷ states) s t l = let h = counted_more (rank u) (rank s) (rank t) (with u) l in let k = below_mono states s t l in omega arith

  -- A state of the link is not before itself.
  below_in : (states : List (Option State)) (s : Option State) → IsIn states s → ways_below states b s rest n + with s ≤ ways_by states b rest n
  below_in [] s h = absurd h
  below_in (t ∷ states) s (inl same) =
      let e : rank s ≡ rank t = ap rank same in
      let f : with s ≡ with t = ap with same in
      let g = counted_not (rank t) (rank s) (with t) (omega arith) in
      let k = below_most states s in omega arith
  below_in (t ∷ states) s (inr later) = let h = counted_most (rank t) (rank s) (with t) in let k = below_in states s later in omega arith

  -- A state of the link is before each later one.
  below_less : (states : List (Option State)) (s t : Option State) → IsIn states s → rank s < rank t → ways_below states b s rest n + with s ≤ ways_below states b t rest n
  below_less [] s t h l = absurd h
  below_less (u ∷ states) s t (inl same) l =
      let e : rank s ≡ rank u = ap rank same in
      let f : with s ≡ with u = ap with same in
      let g = counted_not (rank u) (rank s) (with u) (omega arith) in
      let i = counted_less (rank u) (rank t) (with u) (omega arith) in
      let k = below_mono states s t (omega arith) in omega arith
  below_less (u ∷ states) s t (inr later) l =
      let h = counted_more (rank u) (rank s) (rank t) (with u) (omega arith) in let k = below_less states s t later l in omega arith

pub AreIn-length : (choices : Choices) (p : Pattern) → AreIn choices p → length choices ≡ length p
AreIn-length [] [] h = refl
AreIn-length [] (s ∷ p) h = absurd h
AreIn-length (c ∷ choices) [] h = absurd h
AreIn-length (c ∷ choices) (s ∷ p) h = ap suc (AreIn-length choices p h.1)

-- With the state of the first link, the remaining links have the remaining changes.
module _ (b s : Option State) (base p : Pattern) (n : ℕ) (all : changes (b ∷ base) (s ∷ p) ≡ n) where
  split : n ≡ change b s + changes base p
  split = sym all ∙ changes_first b s base p

  rest_is : (rest : ℕ → ℕ) → left_ways (change b s) rest n ≡ rest (changes base p)
  rest_is rest = left_ways-of (change b s) rest n (changes base p) split

earlier_few : (choices : Choices) (base p : Pattern) (n : ℕ) → AreIn choices p → length base ≡ length choices → changes base p ≡ n → ways_earlier choices base p n < ways choices base n
earlier_few [] [] [] zero h l e = omega arith
earlier_few [] [] [] (suc n) h l e = absurd (omega arith)
earlier_few [] [] (s ∷ p) n h l e = absurd h
earlier_few [] (b ∷ base) p n h l e = absurd (omega arith)
earlier_few (c ∷ choices) [] p n h l e = absurd (omega arith)
earlier_few (c ∷ choices) (b ∷ base) [] n h l e = absurd h
earlier_few (c ∷ choices) (b ∷ base) (s ∷ p) n h l e =
    let inner : ways_earlier choices base p (changes base p) < ways choices base (changes base p) = earlier_few choices base p (changes base p) h.1 (omega arith) refl in
    let one = rest_is b s base p n e (ways_earlier choices base p) in
    let other = rest_is b s base p n e (ways choices base) in
    let here = below_in b (ways choices base) n c s h.0 in
    omega arith

earlier_less : (choices : Choices) (base p q : Pattern) (n : ℕ) → AreIn choices p → AreIn choices q → length base ≡ length choices → changes base p ≡ n → changes base q ≡ n
    → IsEarlier p q → ways_earlier choices base p n < ways_earlier choices base q n
earlier_less choices base [] q n h k l e f less = absurd less
earlier_less [] base (s ∷ p) q n h k l e f less = absurd h
earlier_less (c ∷ choices) [] (s ∷ p) q n h k l e f less = absurd (omega arith)
earlier_less (c ∷ choices) (b ∷ base) (s ∷ p) [] n h k l e f less = absurd k
earlier_less (c ∷ choices) (b ∷ base) (s ∷ p) (t ∷ q) n h k l e f (inl less) =
    let inner : ways_earlier choices base p (changes base p) < ways choices base (changes base p) = earlier_few choices base p (changes base p) h.1 (omega arith) refl in
    let one = rest_is b s base p n e (ways_earlier choices base p) in
    let other = rest_is b s base p n e (ways choices base) in
    let here = below_less b (ways choices base) n c s t h.0 less in
    omega arith
earlier_less (c ∷ choices) (b ∷ base) (s ∷ p) (t ∷ q) n h k l e f (inr less) =
    let same : change b s ≡ change b t = ap (change b) less.0 in
    let c_p = split b s base p n e in
    let c_q = split b t base q n f in
    let equal : changes base q ≡ changes base p = omega arith in
    let inner : ways_earlier choices base p (changes base p) < ways_earlier choices base q (changes base p) =
    earlier_less choices base p q (changes base p) h.1 k.1 (omega arith) refl equal less.1 in
    let one = rest_is b s base p n e (ways_earlier choices base p) in
    let other : left_ways (change b t) (ways_earlier choices base q) n ≡ ways_earlier choices base q (changes base p) =
    rest_is b t base q n f (ways_earlier choices base q) ∙ ap (ways_earlier choices base q) equal in
    let below : ways_below c b s (ways choices base) n ≡ ways_below c b t (ways choices base) n = ap (λ (x : Option State). ways_below c b x (ways choices base) n) less.0 in
    omega arith

fewer_less : (choices : Choices) (base : Pattern) (m n : ℕ) → m < n → ways_fewer choices base m + ways choices base m ≤ ways_fewer choices base n
fewer_less choices base m zero h = absurd (omega arith)
fewer_less choices base m (suc n) h = ⊎_elim
    (λ (less : m < n). let k = fewer_less choices base m n less in omega arith)
    (λ (same : m ≡ n). let e : ways_fewer choices base m + ways choices base m ≡ ways_fewer choices base n + ways choices base n =
    ap (λ (i : ℕ). ways_fewer choices base i + ways choices base i) same in omega arith)
    (before_or_at m n (omega arith))

pub before_less : (choices : Choices) (base p q : Pattern) → AreIn choices p → AreIn choices q → length base ≡ length choices → IsBefore base p q
    → ways_before choices base p < ways_before choices base q
before_less choices base p q h k l (inl less) =
    let few = earlier_few choices base p (changes base p) h l refl in
    let more = fewer_less choices base (changes base p) (changes base q) less in
    omega arith
before_less choices base p q h k l (inr less) =
    let inner = earlier_less choices base p q (changes base p) h k l refl (sym less.0) less.1 in
    let same : ways_before choices base q ≡ ways_fewer choices base (changes base p) + ways_earlier choices base q (changes base p) =
    ap (λ (i : ℕ). ways_fewer choices base i + ways_earlier choices base q i) (sym less.0) in
    omega arith
