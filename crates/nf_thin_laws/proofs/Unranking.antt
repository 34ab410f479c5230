-- For each number less than the count of assignments before a pattern, some assignment before it has exactly that many before itself.
use Rattle.std.proofs.Common.{eqb-true, ◌≡◌, ◌⊎◌, inl, inr, ℕ, zero, suc, ◌+◌, ◌-◌, ◌<◌, ◌≤◌, Bool, true, false, List, [], ◌∷◌, refl, sym, ap, ◌∙◌, arith}
use Rattle.std.proofs.Common.{Option, Some, None, ◌==◌, if◌then◌else◌}
use Rattle.nf_thin_laws.proofs.Common.{false≢true, cases_lt, State, Tight, Full, Zero, Pattern, rank, changes, IsEarlier, IsBefore, change, Choices, IsIn}
use Rattle.nf_thin_laws.proofs.Common.{AreIn, left_ways, ways_by, ways_below, ways, ways_earlier, ways_fewer, ways_before, Ascend, AllAscend, is_in}
use Rattle.nf_thin_laws.proofs.Common.{firm_earlier, firm_before}
use Rattle.std.proofs.Math.Dec.{eqb-suc-zero}
use Rattle.nf_thin_laws.proofs.ForcedOrder.{changes_first}
use Rattle.nf_thin_laws.proofs.Counting.{counted_less, counted_not, left_ways-of}

-- The remaining changes, if the count is not 0.
left_of_changes : (j : ℕ) (rest : ℕ → ℕ) (n i : ℕ) → i < left_ways j rest n → (m : ℕ) × (n ≡ j + m) × (left_ways j rest n ≡ rest m)
left_of_changes zero rest n i h = (n, omega arith, refl)
left_of_changes (suc j) rest zero i h = absurd (omega arith)
left_of_changes (suc j) rest (suc n) i h = let w = left_of_changes j rest n i h in (w.0, (let e = w.1 in omega arith), w.2)

module _ (b : Option State) (rest : ℕ → ℕ) (n : ℕ) where
  abbrev with : Option State → ℕ
  with s = left_ways (change b s) rest n

  none_below : (states : List (Option State)) (s : Option State) → ((u : Option State) → IsIn states u → rank s < rank u) → ways_below states b s rest n ≡ 0
  none_below [] s less = refl
  none_below (u ∷ states) s less =
      let h = less u (inl refl) in
      let e = counted_not (rank u) (rank s) (with u) (omega arith) in
      let k = none_below states s (λ v at. less v (inr at)) in omega arith

  -- the state of a link by number
  record StateAt (states : List (Option State)) (j : ℕ) : Type 0 where
    s : Option State
    is_state : IsIn states s
    i : ℕ
    few : i < with s
    rank_is : j ≡ ways_below states b s rest n + i

  state_at : (states : List (Option State)) (j : ℕ) → Ascend states → j < ways_by states b rest n → StateAt states j
  state_at [] j up h = absurd (omega arith)
  state_at (t ∷ states) j up h = go (cases_lt j (with t)) (λ more. state_at states (j - with t) up.1 (omega arith))
    where
      go : (j < with t) ⊎ (with t ≤ j) → (with t ≤ j → StateAt states (j - with t)) → StateAt (t ∷ states) j
      go (inl less) later = record {
        s = t;
        is_state = inl refl;
        i = j;
        few = less;
        rank_is = (let e = counted_not (rank t) (rank t) (with t) (omega arith) in let k = none_below states t up.0 in omega arith);
      }
      go (inr more) later = let w = later more in record {
        s = w.s;
        is_state = inr w.is_state;
        i = w.i;
        few = w.few;
        rank_is = (let e = counted_less (rank t) (rank w.s) (with t) (up.0 w.s w.is_state) in let k = w.rank_is in omega arith);
      }

  -- A state before another one.
  record StateBelow (states : List (Option State)) (r : Option State) (j : ℕ) : Type 0 where
    s : Option State
    is_state : IsIn states s
    less : rank s < rank r
    i : ℕ
    few : i < with s
    rank_is : j ≡ ways_below states b s rest n + i

  state_below : (states : List (Option State)) (r : Option State) (j : ℕ) → Ascend states → j < ways_below states b r rest n → StateBelow states r j
  state_below [] r j up h = absurd (omega arith)
  state_below (t ∷ states) r j up h = by (cases_lt (rank t) (rank r))
      (λ before more. state_below states r (j - with t) up.1 (let c = counted_less (rank t) (rank r) (with t) before in omega arith))
      (λ not. state_below states r j up.1 (let c = counted_not (rank t) (rank r) (with t) not in omega arith))
    where
      go : rank t < rank r → (j < with t) ⊎ (with t ≤ j) → (rank t < rank r → with t ≤ j → StateBelow states r (j - with t)) → StateBelow (t ∷ states) r j
      go before (inl less) later = record {
        s = t;
        is_state = inl refl;
        less = before;
        i = j;
        few = less;
        rank_is = (let e = counted_not (rank t) (rank t) (with t) (omega arith) in let k = none_below states t up.0 in omega arith);
      }
      go before (inr more) later = let w = later before more in record {
        s = w.s;
        is_state = inr w.is_state;
        less = w.less;
        i = w.i;
        few = w.few;
        rank_is = (let e = counted_less (rank t) (rank w.s) (with t) (up.0 w.s w.is_state) in let k = w.rank_is in omega arith);
      }

      by : (rank t < rank r) ⊎ (rank r ≤ rank t) → (rank t < rank r → with t ≤ j → StateBelow states r (j - with t))
          → (rank r ≤ rank t → StateBelow states r j) → StateBelow (t ∷ states) r j
      by (inl before) later none = go before (cases_lt j (with t)) later
      by (inr not) later none =
          let w = none not in
          absurd (let k = up.0 w.s w.is_state in let l = w.less in omega arith)

-- ---- an assignment by number
record Numbered (choices : Choices) (base : Pattern) (n j : ℕ) : Type 0 where
  q : Pattern
  in_choices : AreIn choices q
  changed : changes base q ≡ n
  number : ways_earlier choices base q n ≡ j

-- With the first link's state, before the states of the other links.
module _ (c : List (Option State)) (choices : Choices) (b : Option State) (base : Pattern) (n : ℕ) (s : Option State) (is_state : IsIn c s) (m : ℕ) (split : n ≡ change b s + m) (i : ℕ)
    (w : Numbered choices base m i) where
  more_changes : changes (b ∷ base) (s ∷ w.q) ≡ n
  more_changes = changes_first b s base w.q ∙ (ap (λ (x : ℕ). change b s + x) w.changed ∙ sym split)

  number_more : ways_earlier (c ∷ choices) (b ∷ base) (s ∷ w.q) n ≡ ways_below c b s (ways choices base) n + i
  number_more = ap (λ (x : ℕ). ways_below c b s (ways choices base) n + x) (left_ways-of (change b s) (ways_earlier choices base w.q) n m split ∙ w.number)

none_left : (n : ℕ) → ways [] [] (suc n) ≡ 0
none_left n = ap (λ (t : Bool). if t then 1 else 0) (eqb-suc-zero n)

numbered : (choices : Choices) (base : Pattern) (n j : ℕ) → AllAscend choices → j < ways choices base n → Numbered choices base n j
numbered [] [] zero j up h = record { q = []; in_choices = tt; changed = refl; number = omega arith }
numbered [] [] (suc n) j up h = absurd (let e = none_left n in omega arith)
numbered [] (b ∷ base) n j up h = absurd (omega arith)
numbered (c ∷ choices) [] n j up h = absurd (omega arith)
numbered (c ∷ choices) (b ∷ base) n j up h =
    let w = state_at b (ways choices base) n c j up.0 h in
    let l = left_of_changes (change b w.s) (ways choices base) n w.i w.few in
    let inner = numbered choices base l.0 w.i up.1 (let f = w.few in let e = l.2 in omega arith) in
    record {
      q = w.s ∷ inner.q;
      in_choices = (w.is_state, inner.in_choices);
      changed = more_changes c choices b base n w.s w.is_state l.0 l.1 w.i inner;
      number = number_more c choices b base n w.s w.is_state l.0 l.1 w.i inner ∙ sym w.rank_is;
    }

-- ---- an assignment that is earlier than a pattern
abbrev of_rank : ℕ → Option State
of_rank zero = None
of_rank (suc zero) = Some Tight
of_rank (suc (suc zero)) = Some Full
of_rank (suc (suc (suc rank))) = Some Zero

of_rank-rank : (s : Option State) → of_rank (rank s) ≡ s
of_rank-rank None = refl
of_rank-rank (Some Tight) = refl
of_rank-rank (Some Full) = refl
of_rank-rank (Some Zero) = refl

pub same_rank : (s t : Option State) → rank s ≡ rank t → s ≡ t
same_rank s t h = sym (of_rank-rank s) ∙ ap of_rank h ∙ of_rank-rank t

pub is_in-is : (states : List (Option State)) (s : Option State) → is_in states s ≡ true → IsIn states s
is_in-is [] s h = absurd (false≢true h)
is_in-is (t ∷ states) s h = go (rank s == rank t) refl (λ later. is_in-is states s later)
  where
    go : (same : Bool) → (rank s == rank t) ≡ same → (is_in states s ≡ true → IsIn states s) → IsIn (t ∷ states) s
    go true e later = inl (same_rank s t (eqb-true (rank s) (rank t) e))
    go false e later = inr (later (sym (ap (λ (x : Bool). if x then true else is_in states s) e) ∙ h))

-- The count, if a test holds.
counted_so : (test : Bool) (a i : ℕ) → i < (if test then a else 0) → (test ≡ true) × (i < a)
counted_so true a i h = (refl, h)
counted_so false a i h = absurd (omega arith)

record Earlier (choices : Choices) (base p : Pattern) (n j : ℕ) : Type 0 where
  numbered : Numbered choices base n j
  earlier : IsEarlier numbered.q p

number_earlier : (choices : Choices) (base p : Pattern) (n j : ℕ) → AllAscend choices → j < firm_earlier choices base p n → Earlier choices base p n j
number_earlier [] base p n j up h = absurd (omega arith)
number_earlier (c ∷ choices) [] p n j up h = absurd (omega arith)
number_earlier (c ∷ choices) (b ∷ base) [] n j up h = absurd (omega arith)
number_earlier (c ∷ choices) (b ∷ base) (s ∷ p) n j up h = go (cases_lt j (ways_below c b s (ways choices base) n)) (λ m i less. number_earlier choices base p m i up.1 less)
  where
    go : (j < ways_below c b s (ways choices base) n) ⊎ (ways_below c b s (ways choices base) n ≤ j) → ((m i : ℕ) → i < firm_earlier choices base p m → Earlier choices base p m i)
        → Earlier (c ∷ choices) (b ∷ base) (s ∷ p) n j
    go (inl less) along =
        let w = state_below b (ways choices base) n c s j up.0 less in
        let l = left_of_changes (change b w.s) (ways choices base) n w.i w.few in
        let inner = numbered choices base l.0 w.i up.1 (let f = w.few in let e = l.2 in omega arith) in
        record {
          numbered = record {
            q = w.s ∷ inner.q;
            in_choices = (w.is_state, inner.in_choices);
            changed = more_changes c choices b base n w.s w.is_state l.0 l.1 w.i inner;
            number = number_more c choices b base n w.s w.is_state l.0 l.1 w.i inner ∙ sym w.rank_is;
          };
          earlier = inl w.less;
        }
    go (inr more) along =
        let i : ℕ = j - ways_below c b s (ways choices base) n in
        let w = counted_so (is_in c s) (left_ways (change b s) (firm_earlier choices base p) n) i (omega arith) in
        let l = left_of_changes (change b s) (firm_earlier choices base p) n i w.1 in
        let inner = along l.0 i (let f = w.1 in let e = l.2 in omega arith) in
        let is_state : IsIn c s = is_in-is c s w.0 in
        record {
          numbered = record {
            q = s ∷ inner.numbered.q;
            in_choices = (is_state, inner.numbered.in_choices);
            changed = more_changes c choices b base n s is_state l.0 l.1 i inner.numbered;
            number = (let e = number_more c choices b base n s is_state l.0 l.1 i inner.numbered in omega arith);
          };
          earlier = inr (refl, inner.earlier);
        }

-- ---- an assignment that comes before a pattern
pub record Before (choices : Choices) (base p : Pattern) (k : ℕ) : Type 0 where
  pub q : Pattern
  pub in_choices : AreIn choices q
  pub before : IsBefore base q p
  pub number : ways_before choices base q ≡ k

-- An assignment with fewer changes.
record Fewer (choices : Choices) (base : Pattern) (n k : ℕ) : Type 0 where
  q : Pattern
  in_choices : AreIn choices q
  fewer : changes base q < n
  number : ways_before choices base q ≡ k

by_changes : (choices : Choices) (base q : Pattern) (n k : ℕ) → changes base q ≡ n → ways_fewer choices base n + ways_earlier choices base q n ≡ k → ways_before choices base q ≡ k
by_changes choices base q n k same h = ap (λ (m : ℕ). ways_fewer choices base m + ways_earlier choices base q m) same ∙ h

number_fewer : (choices : Choices) (base : Pattern) (n k : ℕ) → AllAscend choices → k < ways_fewer choices base n → Fewer choices base n k
number_fewer choices base zero k up h = absurd (omega arith)
number_fewer choices base (suc n) k up h = go (cases_lt k (ways_fewer choices base n)) (λ less. number_fewer choices base n k up less)
  where
    go : (k < ways_fewer choices base n) ⊎ (ways_fewer choices base n ≤ k) → (k < ways_fewer choices base n → Fewer choices base n k) → Fewer choices base (suc n) k
    go (inl less) down = let w = down less in
        record { q = w.q; in_choices = w.in_choices; fewer = (let f = w.fewer in omega arith); number = w.number }
    go (inr more) down =
        let w = numbered choices base n (k - ways_fewer choices base n) up (omega arith) in
        record {
          q = w.q;
          in_choices = w.in_choices;
          fewer = (let e = w.changed in omega arith);
          number = by_changes choices base w.q n k w.changed (let e = w.number in omega arith);
        }

pub number_before : (choices : Choices) (base p : Pattern) (k : ℕ) → AllAscend choices → k < firm_before choices base p → Before choices base p k
number_before choices base p k up h = go (cases_lt k (ways_fewer choices base (changes base p)))
  where
    go : (k < ways_fewer choices base (changes base p)) ⊎ (ways_fewer choices base (changes base p) ≤ k) → Before choices base p k
    go (inl less) = let w = number_fewer choices base (changes base p) k up less in
        record { q = w.q; in_choices = w.in_choices; before = inl w.fewer; number = w.number }
    go (inr more) =
        let w = number_earlier choices base p (changes base p) (k - ways_fewer choices base (changes base p)) up (omega arith) in
        record {
          q = w.numbered.q;
          in_choices = w.numbered.in_choices;
          before = inr (w.numbered.changed, w.earlier);
          number = by_changes choices base w.numbered.q (changes base p) k w.numbered.changed (let e = w.numbered.number in omega arith);
        }
