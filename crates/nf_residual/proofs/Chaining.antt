-- Arcs chained by the nodes where they begin, from the last arc to the first.
use Rattle.std.proofs.Common.{◌≡◌, ◌≢◌, ℕ, zero, suc, ◌+◌, ◌-◌, ◌<◌, ◌≤◌, ◌==◌, List, [], ◌∷◌, length, drop, get_or, set, replicate, Bool, true, false}
use Rattle.std.proofs.Common.{if◌then◌else◌, ◌⊎◌, inl, inr, ⊎_elim, eqb, Some, slice_get, refl, sym, ap, subst, ◌∙◌, length-set, arith}
use Rattle.nf_residual.proofs.Common.{eqb_tells, drop_more, length-replicate, get_or-replicate, get_or-set_same, get_or-set_other, slice_get_within}
use Rattle.nf_residual.proofs.Common.{slice_get_read, get_or_from_slice_get, Leg, AreLegs, legs_out, IsNextOut, AreChains}

-- ---- the arcs out of a node
tests_same : (a b : ℕ) → a ≡ b → (a == b) ≡ true
tests_same a b e = ⊎_elim (λ (w : (eqb a b ≡ true) × (a ≡ b)). w.0) (λ (w : (eqb a b ≡ false) × (a ≢ b)). absurd (w.1 e)) (eqb_tells a b)

tests_other : (a b : ℕ) → a ≢ b → (a == b) ≡ false
tests_other a b e = ⊎_elim (λ (w : (eqb a b ≡ true) × (a ≡ b)). absurd (e w.1)) (λ (w : (eqb a b ≡ false) × (a ≢ b)). w.0) (eqb_tells a b)

same_leg : (x y : Leg) → Some x ≡ Some y → x ≡ y
same_leg x y e = cc

pub out_here : (v : ℕ) (leg : Leg) (legs : List Leg) → leg.begin ≡ v → legs_out v (leg ∷ legs) ≡ leg ∷ legs_out v legs
out_here v leg legs e = ap (λ (b : Bool). if b then leg ∷ legs_out v legs else legs_out v legs) (tests_same leg.begin v e)

pub out_elsewhere : (v : ℕ) (leg : Leg) (legs : List Leg) → leg.begin ≢ v → legs_out v (leg ∷ legs) ≡ legs_out v legs
out_elsewhere v leg legs e = ap (λ (b : Bool). if b then leg ∷ legs_out v legs else legs_out v legs) (tests_other leg.begin v e)

-- Each arc out of a node is an arc, and the other way round.
abbrev pub Holds : List Leg → Leg → Type 0
Holds legs leg = (i : ℕ) × (slice_get legs i ≡ Some leg)

abbrev InRest : ℕ → List Leg → Leg → Type 0
InRest v legs leg = (i : ℕ) → slice_get (legs_out v legs) i ≡ Some leg → Holds legs leg

pub out_among : (v : ℕ) (legs : List Leg) (j : ℕ) (leg : Leg) → slice_get (legs_out v legs) j ≡ Some leg → Holds legs leg
out_among v [] j leg is = absurd (cc)
out_among v (first ∷ legs) j leg is = by_begin (λ i e. out_among v legs i leg e) (eqb_tells first.begin v)
  where
    further : Holds legs leg → Holds (first ∷ legs) leg
    further h = (suc h.0, h.1)

    here : InRest v legs leg → (j : ℕ) → slice_get (first ∷ legs_out v legs) j ≡ Some leg → Holds (first ∷ legs) leg
    here rest zero e = (zero, e)
    here rest (suc j) e = further (rest j e)

    by_begin : InRest v legs leg → ((eqb first.begin v ≡ true) × (first.begin ≡ v)) ⊎ ((eqb first.begin v ≡ false) × (first.begin ≢ v)) → Holds (first ∷ legs) leg
    by_begin rest (inl w) = here rest j (ap (λ (l : List Leg). slice_get l j) (sym (out_here v first legs w.1)) ∙ is)
    by_begin rest (inr w) = further (rest j (ap (λ (l : List Leg). slice_get l j) (sym (out_elsewhere v first legs w.1)) ∙ is))

pub out_holds : (v : ℕ) (legs : List Leg) (j : ℕ) (leg : Leg) → slice_get legs j ≡ Some leg → leg.begin ≡ v → Holds (legs_out v legs) leg
out_holds v [] j leg is e = absurd (cc)
out_holds v (first ∷ legs) zero leg is e =
    let at : first.begin ≡ v = ap (λ (l : Leg). l.begin) (same_leg first leg is) ∙ e in
    (zero, ap (λ (l : List Leg). slice_get l zero) (out_here v first legs at) ∙ is)
out_holds v (first ∷ legs) (suc j) leg is e = by_begin (out_holds v legs j leg is e) (eqb_tells first.begin v)
  where
    by_begin : Holds (legs_out v legs) leg → ((eqb first.begin v ≡ true) × (first.begin ≡ v)) ⊎ ((eqb first.begin v ≡ false) × (first.begin ≢ v)) → Holds (legs_out v (first ∷ legs)) leg
    by_begin h (inl w) = (suc h.0, ap (λ (l : List Leg). slice_get l (suc h.0)) (out_here v first legs w.1) ∙ h.1)
    by_begin h (inr w) = (h.0, ap (λ (l : List Leg). slice_get l h.0) (out_elsewhere v first legs w.1) ∙ h.1)

-- ---- chains
module _ (legs : List Leg) (k : ℕ) (leg : Leg) (is : slice_get legs k ≡ Some leg) where
  pub split_here : drop k legs ≡ leg ∷ drop (k + 1) legs
  split_here = drop_more legs k leg (slice_get_within legs k leg is) ∙ ap (λ (l : Leg). l ∷ drop (k + 1) legs) (get_or_from_slice_get legs k leg leg is)

  next_here : IsNextOut legs leg.begin k k
  next_here = record { later = omega arith; skipped = refl; here = λ other at. ap (λ (l : Leg). l.begin) (same_leg other leg (sym at ∙ is)) }

  next_before : (v at : ℕ) → leg.begin ≢ v → IsNextOut legs v (k + 1) at → IsNextOut legs v k at
  next_before v at apart next = record {
    later = let more : k + 1 ≤ at = next.later in omega arith;
    skipped = ap (λ (l : List Leg). legs_out v l) split_here ∙ out_elsewhere v leg (drop (k + 1) legs) apart ∙ next.skipped;
    here = next.here;
  }

next_none : (legs : List Leg) (v at : ℕ) → at ≡ length legs → IsNextOut legs v (length legs) at
next_none legs v at e = record {
  later = omega arith;
  skipped = ap (λ (n : ℕ). legs_out v (drop n legs)) (sym e);
  here = λ leg is. let b : at < length legs = slice_get_within legs at leg is in absurd (omega arith);
}

-- The chains of the arcs from index `left` on.
pub record ChainsOn (nodes : ℕ) (legs : List Leg) (first next : List ℕ) (left : ℕ) : Type 0 where
  pub few : left ≤ length legs
  pub nodes_are : length first ≡ nodes
  pub legs_are : length next ≡ length legs
  pub firsts : (v : ℕ) → v < nodes → IsNextOut legs v left (get_or first v 0)
  pub nexts : (k : ℕ) (leg : Leg) → slice_get legs k ≡ Some leg → left ≤ k → IsNextOut legs leg.begin (k + 1) (get_or next k 0)

module _ (nodes : ℕ) (legs : List Leg) where
  pub chains_first : (first next : List ℕ) (left : ℕ) → left ≡ length legs → first ≡ replicate nodes left → next ≡ replicate left left → ChainsOn nodes legs first next left
  chains_first first next left count f n = record {
    few = omega arith;
    nodes_are = ap (length {A = ℕ}) f ∙ length-replicate nodes left;
    legs_are = ap (length {A = ℕ}) n ∙ length-replicate left left ∙ count;
    firsts = λ v inside. subst (λ (i : ℕ). IsNextOut legs v i (get_or first v 0)) (sym count)
        (next_none legs v (get_or first v 0) (ap (λ (l : List ℕ). get_or l v 0) f ∙ get_or-replicate nodes v left 0 inside ∙ count));
    nexts = λ k leg is h. let b : k < length legs = slice_get_within legs k leg is in absurd (omega arith);
  }

  module _ (first next : List ℕ) (left : ℕ) (on : ChainsOn nodes legs first next left) where
    pub chains_all : left ≤ 0 → AreChains nodes legs first next
    chains_all h =
        let none : left ≡ 0 = omega arith in
        record {
          nodes_are = on.nodes_are;
          legs_are = on.legs_are;
          firsts = λ v inside. subst (λ (i : ℕ). IsNextOut legs v i (get_or first v 0)) none (on.firsts v inside);
          nexts = λ k leg is. on.nexts k leg is (omega arith);
        }

    module _ (k : ℕ) (at : k + 1 ≡ left) (leg : Leg) (is : slice_get legs k ≡ Some leg) (inside : leg.begin < nodes) where
      pub chains_more : (new_first new_next : List ℕ) → new_next ≡ set next k (get_or first leg.begin 0) → new_first ≡ set first leg.begin k → ChainsOn nodes legs new_first new_next k
      chains_more new_first new_next n f = record {
        few = let few : left ≤ length legs = on.few in omega arith;
        nodes_are = ap (length {A = ℕ}) f ∙ length-set first leg.begin k ∙ on.nodes_are;
        legs_are = ap (length {A = ℕ}) n ∙ length-set next k _ ∙ on.legs_are;
        firsts = λ v b. by_node v b (eqb_tells v leg.begin);
        nexts = λ j other there h. by_arc j other there h (eqb_tells j k);
      }
        where
          room : leg.begin < length first
          room = subst (λ (m : ℕ). leg.begin < m) (sym on.nodes_are) inside

          long : k < length next
          long = subst (λ (m : ℕ). k < m) (sym on.legs_are) (slice_get_within legs k leg is)

          later : (v : ℕ) → v < nodes → IsNextOut legs v (k + 1) (get_or first v 0)
          later v b = subst (λ (i : ℕ). IsNextOut legs v i (get_or first v 0)) (sym at) (on.firsts v b)

          by_node : (v : ℕ) → v < nodes → ((eqb v leg.begin ≡ true) × (v ≡ leg.begin)) ⊎ ((eqb v leg.begin ≡ false) × (v ≢ leg.begin)) → IsNextOut legs v k (get_or new_first v 0)
          by_node v b (inl w) = subst (λ (i : ℕ). IsNextOut legs v k i)
              (sym (ap (λ (l : List ℕ). get_or l v 0) f ∙ ap (λ (u : ℕ). get_or (set first leg.begin k) u 0) w.1 ∙ get_or-set_same first leg.begin k 0 room))
              (subst (λ (u : ℕ). IsNextOut legs u k k) (sym w.1) (next_here legs k leg is))
          by_node v b (inr w) = subst (λ (i : ℕ). IsNextOut legs v k i)
              (sym (ap (λ (l : List ℕ). get_or l v 0) f ∙ get_or-set_other first leg.begin v k 0 w.1))
              (next_before legs k leg is v (get_or first v 0) (λ e. w.1 (sym e)) (later v b))

          by_arc : (j : ℕ) (other : Leg) → slice_get legs j ≡ Some other → k ≤ j → ((eqb j k ≡ true) × (j ≡ k)) ⊎ ((eqb j k ≡ false) × (j ≢ k))
              → IsNextOut legs other.begin (j + 1) (get_or new_next j 0)
          by_arc j other there h (inl w) =
              let same : leg ≡ other = same_leg leg other (sym is ∙ ap (λ (i : ℕ). slice_get legs i) (sym w.1) ∙ there) in
              subst (λ (l : Leg). IsNextOut legs l.begin (j + 1) (get_or new_next j 0)) same
              (subst (λ (i : ℕ). IsNextOut legs leg.begin (j + 1) i)
              (sym (ap (λ (l : List ℕ). get_or l j 0) n ∙ ap (λ (i : ℕ). get_or (set next k (get_or first leg.begin 0)) i 0) w.1
              ∙ get_or-set_same next k (get_or first leg.begin 0) 0 long))
              (subst (λ (i : ℕ). IsNextOut legs leg.begin (i + 1) (get_or first leg.begin 0)) (sym w.1) (later leg.begin inside)))
          by_arc j other there h (inr w) = subst (λ (i : ℕ). IsNextOut legs other.begin (j + 1) i)
              (sym (ap (λ (l : List ℕ). get_or l j 0) n ∙ get_or-set_other next k j (get_or first leg.begin 0) 0 w.1))
              (on.nexts j other there (let apart : j ≢ k = w.1 in omega arith))

-- ---- as the code reads and writes them
number_there : (xs : List ℕ) (i x : ℕ) → i < length xs → x ≡ get_or xs i x → get_or xs i 0 ≡ x
number_there xs i x h is = get_or_from_slice_get xs i x 0 (slice_get_read xs (length xs) i x refl h is)

pub chains_step : (nodes : ℕ) (legs : List Leg) (first next : List ℕ) (left : ℕ) → ChainsOn nodes legs first next left → AreLegs nodes legs → 0 < left
    → (leg : Leg) → leg ≡ get_or legs (left - 1) leg
    → (begin : ℕ) → begin ≡ leg.begin → (x : ℕ) → x ≡ get_or first begin x → ChainsOn nodes legs (set first begin (left - 1)) (set next (left - 1) x) (left - 1)
chains_step nodes legs first next left on ends some leg is begin begins x at =
    let k : ℕ = left - 1 in
    let more : k + 1 ≡ left = omega arith in
    let few : left ≤ length legs = on.few in
    let there : slice_get legs k ≡ Some leg = slice_get_read legs (length legs) k leg refl (omega arith) is in
    let inside : leg.begin < nodes = (ends k leg there).0 in
    let room : begin < length first = let count : length first ≡ nodes = on.nodes_are in omega arith in
    chains_more nodes legs first next left on k more leg there inside (set first begin k) (set next k x)
    (ap (λ (y : ℕ). set next k y) (sym (number_there first begin x room at)) ∙ ap (λ (v : ℕ). set next k (get_or first v 0)) begins)
    (ap (λ (v : ℕ). set first v k) begins)
