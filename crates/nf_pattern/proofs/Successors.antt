-- Nothing lies between an assignment and the next one.
use Rattle.std.proofs.Common.{◌≡◌, ◌⊎◌, ℕ, ◌+◌, ◌-◌, ◌<◌, ◌≤◌, Bool, true, false, ◌&&◌, List, [], ◌∷◌, inl, inr, ⊎_elim, refl, sym, ap, subst, ◌∙◌, arith}
use Rattle.std.proofs.Common.{leb, eqb, Option, Some, None, if◌then◌else◌, nat_lt, ◌==◌}
use Rattle.nf_pattern.proofs.Common.{same_Some, leb_tells, same_from_test, apart_from_test, State, Tight, Full, Zero, Pattern, rank, changes, IsEarlier}
use Rattle.nf_pattern.proofs.Common.{changes_first, choices, IsIn, IsAssignment, free, change, fits_count, first_good, before_all, with_rest, earliest}
use Rattle.nf_pattern.proofs.Common.{or_else, may_raise, and_parts}

-- ---- choices
abbrev pub Ascending : List (Option State) → Type 0
Ascending [] = Unit {0}
Ascending (s ∷ states) = ((t : Option State) → IsIn states t → rank s < rank t) × Ascending states

pub choices_ascend : (b : Option State) (u : Bool) → Ascending (choices b u)
choices_ascend None u = (λ t h. absurd h, tt)
choices_ascend (Some b) true = (λ t h. after_one t h, (λ t h. absurd h, tt))
  where
    after_one : (t : Option State) → IsIn (Some Zero ∷ []) t → 1 < rank t
    after_one t (inl e) = let f : rank t ≡ 3 = ap rank e in omega arith
    after_one t (inr h) = absurd h
choices_ascend (Some b) false = (λ t h. after_one t h, (λ t h. after_two t h, (λ t h. absurd h, tt)))
  where
    after_two : (t : Option State) → IsIn (Some Zero ∷ []) t → 2 < rank t
    after_two t (inl e) = let f : rank t ≡ 3 = ap rank e in omega arith
    after_two t (inr h) = absurd h

    after_one : (t : Option State) → IsIn (Some Full ∷ Some Zero ∷ []) t → 1 < rank t
    after_one t (inl e) = let f : rank t ≡ 2 = ap rank e in omega arith
    after_one t (inr h) = let f = after_two t h in omega arith

module _ (good : Option State → Bool) where
  some_at : (x s : Option State) (states : List (Option State)) (t : Bool) → good x ≡ t → (if t then Some x else first_good good states) ≡ Some s
      → (first_good good states ≡ Some s → IsIn states s × (good s ≡ true)) → IsIn (x ∷ states) s × (good s ≡ true)
  some_at x s states true h k rest = let same : x ≡ s = cc in (inl (sym same), subst (λ (y : Option State). good y ≡ true) same h)
  some_at x s states false h k rest = let r = rest k in (inr r.0, r.1)

  pub good_some : (states : List (Option State)) (s : Option State) → first_good good states ≡ Some s → IsIn states s × (good s ≡ true)
  good_some [] s e = absurd (cc)
  good_some (x ∷ states) s e = some_at x s states (good x) refl e (good_some states s)

  is_good : (x t : Option State) → t ≡ x → good t ≡ true → good x ≡ true
  is_good x t same k = subst (λ (y : Option State). good y ≡ true) same k

  none_at : (x t : Option State) (states : List (Option State)) (b : Bool) → good x ≡ b → (if b then Some x else first_good good states) ≡ None → IsIn (x ∷ states) t → good t ≡ true
      → (first_good good states ≡ None → IsIn states t → ⊥) → ⊥
  none_at x t states true i j l k rest = cc
  none_at x t states false i j (inl same) k rest = let l : good x ≡ true = is_good x t same k in cc
  none_at x t states false i j (inr l) k rest = rest j l

  pub good_none : (states : List (Option State)) (t : Option State) → first_good good states ≡ None → IsIn states t → good t ≡ true → ⊥
  good_none [] t e h k = h
  good_none (x ∷ states) t e h k = none_at x t states (good x) refl e h k (λ f g. good_none states t f g k)

  compared_at : (x s t : Option State) (states : List (Option State)) (b : Bool) → good x ≡ b → (if b then Some x else first_good good states) ≡ Some s
      → IsIn (x ∷ states) t → good t ≡ true
      → ((y : Option State) → IsIn states y → rank x < rank y) → (first_good good states ≡ Some s → IsIn states t → (t ≡ s) ⊎ (rank s < rank t)) → (t ≡ s) ⊎ (rank s < rank t)
  compared_at x s t states true i j (inl same) k above rest = inl (let f : x ≡ s = cc in same ∙ f)
  compared_at x s t states true i j (inr l) k above rest = inr (let f : x ≡ s = cc in subst (λ (y : Option State). rank y < rank t) f (above t l))
  compared_at x s t states false i j (inl same) k above rest = let l : good x ≡ true = is_good x t same k in absurd (cc)
  compared_at x s t states false i j (inr l) k above rest = rest j l

  -- No choice before it is good.
  pub compared : (states : List (Option State)) (s t : Option State) → Ascending states → first_good good states ≡ Some s → IsIn states t → good t ≡ true → (t ≡ s) ⊎ (rank s < rank t)
  compared [] s t a e h k = absurd h
  compared (x ∷ states) s t a e h k = compared_at x s t states (good x) refl e h k a.0 (λ f g. compared states s t a.1 f g k)

-- ---- ranks and changes
pub change_small : (b s : Option State) → change b s ≤ 1
change_small b s = go (rank b == rank s)
  where
    go : (t : Bool) → (if t then 0 else 1) ≤ 1
    go true = omega arith
    go false = omega arith

pub fits_in : (b s : Option State) (n more : ℕ) → change b s ≤ n → n ≤ change b s + more → fits_count b n more s ≡ true
fits_in b s n more h k = grind arith

pub fits_out : (b s : Option State) (n more : ℕ) → fits_count b n more s ≡ true → (change b s ≤ n) × (n ≤ change b s + more)
fits_out b s n more e = grind arith

pub changes_few : (base : Pattern) (unbounded : List Bool) (states : Pattern) → IsAssignment base unbounded states → changes base states ≤ free base
changes_few [] [] [] h = omega arith
changes_few [] [] (s ∷ states) h = absurd h
changes_few [] (u ∷ us) [] h = absurd h
changes_few [] (u ∷ us) (s ∷ states) h = absurd h
changes_few (b ∷ base) [] [] h = absurd h
changes_few (b ∷ base) [] (s ∷ states) h = absurd h
changes_few (b ∷ base) (u ∷ us) [] h = absurd h
changes_few (None ∷ base) (u ∷ us) (s ∷ states) h =
    let c = changes_first None s base states in
    let k = changes_few base us states h.1 in
    let same : s ≡ None = ⊎_elim (λ (e : s ≡ None). e) (λ (e : ⊥). absurd e) h.0 in
    let z : change None s ≡ 0 = ap (change None) same in omega arith
changes_few (Some b ∷ base) (u ∷ us) (s ∷ states) h =
    let c = changes_first (Some b) s base states in
    let k = changes_few base us states h.1 in
    let z = change_small (Some b) s in omega arith

-- ---- with the state of the first link
pub rest_given : (o : Option (Option State)) (rest : Option State → Option Pattern) (q : Pattern) → with_rest o rest ≡ Some q
    → (s : Option State) × (states : Pattern) × (o ≡ Some s) × (rest s ≡ Some states) × (q ≡ s ∷ states)
rest_given None rest q e = absurd (cc)
rest_given (Some s) rest q e = go (rest s) refl e
  where
    go : (r : Option Pattern) → rest s ≡ r → before_all s r ≡ Some q → (t : Option State) × (states : Pattern) × (Some s ≡ Some t) × (rest t ≡ Some states) × (q ≡ t ∷ states)
    go None f k = absurd (cc)
    go (Some states) f k = (s, states, refl, f, sym (same_Some _ _ k))

-- ---- the earliest assignment
module _ (b : Option State) (u : Bool) (base : Pattern) (us : List Bool) where
  parts : (n : ℕ) (q : Pattern) → earliest (b ∷ base) (u ∷ us) n ≡ Some q
      → (s : Option State) × (states : Pattern) × (first_good (fits_count b n (free base)) (choices b u) ≡ Some s) × (earliest base us (n - change b s) ≡ Some states) × (q ≡ s ∷ states)
  parts n q e = rest_given (first_good (fits_count b n (free base)) (choices b u)) (λ s. earliest base us (n - change b s)) q e

  pub within : (n : ℕ) (s : Option State) (states : Pattern) → IsAssignment base us states → changes (b ∷ base) (s ∷ states) ≡ n
      → (fits_count b n (free base) s ≡ true) × (changes base states ≡ n - change b s)
  within n s states h e =
      let few = changes_few base us states h in
      let first = changes_first b s base states in
      (fits_in b s n (free base) (omega arith) (omega arith), omega arith)

empty_at : (n : ℕ) (q : Pattern) (t : Bool) → eqb n 0 ≡ t → (if t then Some [] else None) ≡ Some q → (q ≡ []) × (n ≡ 0)
empty_at n q true i e = (sym (same_Some _ _ e), same_from_test n 0 (sym i))
empty_at n q false i e = absurd (cc)

empty_is : (n : ℕ) (q : Pattern) → (if n == 0 then Some [] else None) ≡ Some q → (q ≡ []) × (n ≡ 0)
empty_is n q e = empty_at n q (eqb n 0) refl e

not_empty_at : (n : ℕ) (t : Bool) → eqb n 0 ≡ t → ◌≡◌ {A = Option Pattern} (if t then Some [] else None) None → n ≡ 0 → ⊥
not_empty_at n true i e h = cc
not_empty_at n false i e h = apart_from_test n 0 (sym i) h

pub earliest_is : (base : Pattern) (us : List Bool) (n : ℕ) (q : Pattern) → IsAssignment base us base → earliest base us n ≡ Some q → IsAssignment base us q × (changes base q ≡ n)
earliest_is [] [] n q v e = let p = empty_is n q e in (subst (λ (w : Pattern). IsAssignment [] [] w) (sym p.0) tt, ap (changes []) p.0 ∙ sym p.1)
earliest_is [] (u ∷ us) n q v e = absurd v
earliest_is (b ∷ base) [] n q v e = absurd v
earliest_is (b ∷ base) (u ∷ us) n q v e =
    let p = parts b u base us n q e in
    let good = good_some (fits_count b n (free base)) (choices b u) p.0 p.2 in
    let rest = earliest_is base us (n - change b p.0) p.1 v.1 p.3 in
    let fit = fits_out b p.0 n (free base) good.1 in
    let first = changes_first b p.0 base p.1 in
    let same : changes base p.1 ≡ n - change b p.0 = rest.1 in
    let le : change b p.0 ≤ n = fit.0 in
    let all : changes (b ∷ base) (p.0 ∷ p.1) ≡ n = omega arith in
    (subst (λ (w : Pattern). IsAssignment (b ∷ base) (u ∷ us) w) (sym p.4) (good.0, rest.0), ap (changes (b ∷ base)) p.4 ∙ all)

pub earliest_first : (base : Pattern) (us : List Bool) (n : ℕ) (q r : Pattern) → earliest base us n ≡ Some q → IsAssignment base us r → changes base r ≡ n → IsEarlier r q → ⊥
earliest_first [] [] n q [] e h c before = before
earliest_first [] [] n q (t ∷ r) e h c before = absurd h
earliest_first [] (u ∷ us) n q [] e h c before = before
earliest_first [] (u ∷ us) n q (t ∷ r) e h c before = absurd h
earliest_first (b ∷ base) [] n q r e h c before = absurd (cc)
earliest_first (b ∷ base) (u ∷ us) n q [] e h c before = before
earliest_first (b ∷ base) (u ∷ us) n q (t ∷ r) e h c before =
    let p = parts b u base us n q e in
    let w = within b u base us n t r h.1 c in
    go p.0 p.1 (subst (λ (x : Pattern). IsEarlier (t ∷ r) x) p.4 before)
    (compared (fits_count b n (free base)) (choices b u) p.0 t (choices_ascend b u) p.2 h.0 w.0)
    (λ same k. earliest_first base us (n - change b p.0) p.1 r p.3 h.1 (w.1 ∙ ap (λ (x : Option State). n - change b x) same) k)
  where
    go : (s : Option State) (states : Pattern) → IsEarlier (t ∷ r) (s ∷ states) → (t ≡ s) ⊎ (rank s < rank t) → (t ≡ s → IsEarlier r states → ⊥) → ⊥
    go s states (inl less) (inl same) rest = let e : rank t ≡ rank s = ap rank same in omega arith
    go s states (inl less) (inr more) rest = omega arith
    go s states (inr k) (inl same) rest = rest same k.1
    go s states (inr k) (inr more) rest = let e : rank t ≡ rank s = ap rank k.0 in omega arith

-- ---- it exists if this number of changes is possible
pub rest_none : (o : Option (Option State)) (rest : Option State → Option Pattern) → with_rest o rest ≡ None → (o ≡ None) ⊎ ((s : Option State) × (o ≡ Some s) × (rest s ≡ None))
rest_none None rest e = inl refl
rest_none (Some s) rest e = inr (s, refl, before_none s (rest s) e)
  where
    before_none : (s : Option State) (r : Option Pattern) → before_all s r ≡ None → r ≡ None
    before_none s None e = refl
    before_none s (Some states) e = absurd (cc)

-- another choice than the base
other_choice : (b : State) (u : Bool) → (t : Option State) × IsIn (choices (Some b) u) t × (change (Some b) t ≡ 1)
other_choice Tight true = (Some Zero, inr (inl refl), refl)
other_choice Tight false = (Some Full, inr (inl refl), refl)
other_choice Full true = (Some Tight, inl refl, refl)
other_choice Full false = (Some Tight, inl refl, refl)
other_choice Zero true = (Some Tight, inl refl, refl)
other_choice Zero false = (Some Tight, inl refl, refl)

pub no_change : (b : Option State) → change b b ≡ 0
no_change None = refl
no_change (Some Tight) = refl
no_change (Some Full) = refl
no_change (Some Zero) = refl

pub good_choice : (b : Option State) (u : Bool) (base : Pattern) (n : ℕ) → IsIn (choices b u) b → n ≤ free (b ∷ base)
    → (t : Option State) × IsIn (choices b u) t × (fits_count b n (free base) t ≡ true)
good_choice None u base n h k = (None, h, fits_in None None n (free base) (omega arith) (omega arith))
good_choice (Some b) u base n h k = ⊎_elim
    (λ (w : (leb n (free base) ≡ true) × (n ≤ free base)). let z = no_change (Some b) in
    (Some b, h, fits_in (Some b) (Some b) n (free base) (let l = w.1 in omega arith) (let l = w.1 in omega arith)))
    (λ (w : (leb n (free base) ≡ false) × (free base < n)). let o = other_choice b u in
    let one : change (Some b) o.0 ≡ 1 = o.2 in let l : free base < n = w.1 in
    (o.0, o.1, fits_in (Some b) o.0 n (free base) (omega arith) (omega arith)))
    (leb_tells n (free base))

pub earliest_exists : (base : Pattern) (us : List Bool) (n : ℕ) → IsAssignment base us base → n ≤ free base → earliest base us n ≡ None → ⊥
earliest_exists [] us n v k e = not_empty_at n (eqb n 0) refl e (omega arith)
earliest_exists (b ∷ base) [] n v k e = absurd v
earliest_exists (b ∷ base) (u ∷ us) n v k e = ⊎_elim
    (λ (w : first_good (fits_count b n (free base)) (choices b u) ≡ None). let g = good_choice b u base n v.0 k in good_none (fits_count b n (free base)) (choices b u) g.0 w g.1 g.2)
    (λ (w : (s : Option State) × (first_good (fits_count b n (free base)) (choices b u) ≡ Some s) × (earliest base us (n - change b s) ≡ None)).
    let good = good_some (fits_count b n (free base)) (choices b u) w.0 w.1 in
    let fit = fits_out b w.0 n (free base) good.1 in
    let le : change b w.0 ≤ n = fit.0 in let few : n ≤ change b w.0 + free base = fit.1 in
    earliest_exists base us (n - change b w.0) v.1 (omega arith) w.2)
    (rest_none (first_good (fits_count b n (free base)) (choices b u)) (λ s. earliest base us (n - change b s)) e)

-- ---- the next one with equally many changes
pub else_given : (x y : Option Pattern) (q : Pattern) → or_else x y ≡ Some q → (x ≡ Some q) ⊎ ((x ≡ None) × (y ≡ Some q))
else_given None y q e = inr (refl, e)
else_given (Some p) y q e = inl e

pub else_none : (x y : Option Pattern) → or_else x y ≡ None → (x ≡ None) × (y ≡ None)
else_none None y e = (refl, e)
else_none (Some p) y e = absurd (cc)

pub before_given : (a : Option State) (o : Option Pattern) (q : Pattern) → before_all a o ≡ Some q → (states : Pattern) × (o ≡ Some states) × (q ≡ a ∷ states)
before_given a None q e = absurd (cc)
before_given a (Some states) q e = (states, refl, sym (same_Some _ _ e))

pub before_none : (a : Option State) (o : Option Pattern) → before_all a o ≡ None → o ≡ None
before_none a None e = refl
before_none a (Some states) e = absurd (cc)

-- A state to which the link may be raised, that is later and fits.
abbrev pub higher : Option State → Bool → Option State → ℕ → ℕ → Option State → Bool
higher b z a n more s = may_raise z s && (nat_lt (rank a) (rank s) && fits_count b n more s)

pub higher_in : (b : Option State) (z : Bool) (a s : Option State) (n more : ℕ) → may_raise z s ≡ true → rank a < rank s → fits_count b n more s ≡ true → higher b z a n more s ≡ true
higher_in b z a s n more may h k = ap (λ (t : Bool). t && (nat_lt (rank a) (rank s) && fits_count b n more s)) may ∙ later_in h k
  where
    later_in : rank a < rank s → fits_count b n more s ≡ true → (nat_lt (rank a) (rank s) && fits_count b n more s) ≡ true
    later_in h k = grind arith

pub higher_out : (b : Option State) (z : Bool) (a s : Option State) (n more : ℕ) → higher b z a n more s ≡ true → (rank a < rank s) × (fits_count b n more s ≡ true)
higher_out b z a s n more e =
    let all = and_parts (may_raise z s) (nat_lt (rank a) (rank s) && fits_count b n more s) e in
    let t = and_parts (nat_lt (rank a) (rank s)) (fits_count b n more s) all.1 in (let l = t.0 in grind arith, t.1)
