-- The loading order, built link by link. The links taken are listed in the order in which they were taken.
use Rattle.std.proofs.Common.{◌≡◌, ℕ, zero, suc, ◌+◌, ◌-◌, ◌<◌, ◌≤◌, List, [], ◌∷◌, ◌++◌, Bool, true, false, not, ◌&&◌, ◌||◌, eqb, refl, sym, ap, ◌∙◌}
use Rattle.std.proofs.Common.{append_assoc, append-nil, arith, Option, Some, None, if◌then◌else◌}
use Rattle.nf_routes_read.proofs.Common.{list_all, range_with_len, is_taken, is_free, first_free, with_next, order_from}

-- ---- the same links are taken, in whatever order
abbrev pub SameTaken : List ℕ → List ℕ → Type 0
SameTaken one other = (f : ℕ) → is_taken one f ≡ is_taken other f

all-same : (pairs : List (ℕ × ℕ)) (one other : List ℕ) (f : ℕ) → SameTaken one other
    → list_all (λ (p : ℕ × ℕ). not (eqb p.1 f) || is_taken one p.0) pairs ≡ list_all (λ (p : ℕ × ℕ). not (eqb p.1 f) || is_taken other p.0) pairs
all-same [] one other f same = refl
all-same (p ∷ pairs) one other f same =
    ap (λ (b : Bool). (not (eqb p.1 f) || b) && list_all (λ (q : ℕ × ℕ). not (eqb q.1 f) || is_taken one q.0) pairs) (same p.0)
    ∙ ap (λ (b : Bool). (not (eqb p.1 f) || is_taken other p.0) && b) (all-same pairs one other f same)

free-same : (pairs : List (ℕ × ℕ)) (one other : List ℕ) (f : ℕ) → SameTaken one other → is_free pairs one f ≡ is_free pairs other f
free-same pairs one other f same =
    ap (λ (b : Bool). not b && list_all (λ (p : ℕ × ℕ). not (eqb p.1 f) || is_taken one p.0) pairs) (same f)
    ∙ ap (λ (b : Bool). not (is_taken other f) && b) (all-same pairs one other f same)

pub first-same : (pairs : List (ℕ × ℕ)) (one other links : List ℕ) → SameTaken one other → first_free pairs one links ≡ first_free pairs other links
first-same pairs one other [] same = refl
first-same pairs one other (e ∷ rest) same =
    ap (λ (b : Bool). if b then Some e else first_free pairs one rest) (free-same pairs one other e same)
    ∙ ap (λ (o : Option ℕ). if is_free pairs other e then Some e else o) (first-same pairs one other rest same)

or_swap : (a b c : Bool) → (a || (b || c)) ≡ (b || (a || c))
or_swap true true c = refl
or_swap true false c = refl
or_swap false true c = refl
or_swap false false c = refl

-- one more at the end
pub taken-push : (taken : List ℕ) (e f : ℕ) → is_taken (taken ++ e ∷ []) f ≡ (eqb e f || is_taken taken f)
taken-push [] e f = refl
taken-push (x ∷ taken) e f = ap (λ (b : Bool). eqb x f || b) (taken-push taken e f) ∙ or_swap (eqb x f) (eqb e f) (is_taken taken f)

-- one more in the middle
taken-move : (front taken : List ℕ) (e f : ℕ) → is_taken (front ++ e ∷ taken) f ≡ is_taken (e ∷ front ++ taken) f
taken-move [] taken e f = refl
taken-move (x ∷ front) taken e f = ap (λ (b : Bool). eqb x f || b) (taken-move front taken e f) ∙ or_swap (eqb x f) (eqb e f) (is_taken (front ++ taken) f)

-- ---- the order so far, and the remainder of the order
pub record Ordered (pairs : List (ℕ × ℕ)) (links : ℕ) (all order : List ℕ) (i : ℕ) : Type 0 where
  pub before : List ℕ
  pub same : SameTaken order before
  pub rest : order ++ order_from (links - i) pairs links before ≡ all

module _ (pairs : List (ℕ × ℕ)) (links : ℕ) where
  module _ (all order : List ℕ) (i : ℕ) (so_far : Ordered pairs links all order i) where
    pub order_last : links ≤ i → order ≡ all
    order_last h = sym (append-nil order) ∙ ap (λ (n : ℕ). order ++ order_from n pairs links so_far.before) (let n : 0 ≡ links - i = omega arith in n) ∙ so_far.rest

    left : (n : ℕ) → links - i ≡ suc n → order ++ with_next (first_free pairs order (range_with_len 0 links)) (λ e. order_from n pairs links (e ∷ so_far.before)) ≡ all
    left n h = ap (λ (o : Option ℕ). order ++ with_next o (λ e. order_from n pairs links (e ∷ so_far.before))) (first-same pairs order so_far.before (range_with_len 0 links) so_far.same)
        ∙ ap (λ (m : ℕ). order ++ order_from m pairs links so_far.before) (sym h) ∙ so_far.rest

    pub order_ends : i < links → first_free pairs order (range_with_len 0 links) ≡ None → order ≡ all
    order_ends h e = sym (append-nil order) ∙ ap (λ (o : Option ℕ). order ++ with_next o (λ e. order_from (links - (i + 1)) pairs links (e ∷ so_far.before))) (sym e)
        ∙ left (links - (i + 1)) (omega arith)

    pub order_goes : (e : ℕ) → i < links → first_free pairs order (range_with_len 0 links) ≡ Some e → Ordered pairs links all (order ++ e ∷ []) (i + 1)
    order_goes e h f = record {
      before = e ∷ so_far.before;
      same = λ g. taken-push order e g ∙ ap (λ (b : Bool). eqb e g || b) (so_far.same g);
      rest = append_assoc order (e ∷ []) (order_from (links - (i + 1)) pairs links (e ∷ so_far.before))
          ∙ ap (λ (o : Option ℕ). order ++ with_next o (λ e. order_from (links - (i + 1)) pairs links (e ∷ so_far.before))) (sym f)
          ∙ left (links - (i + 1)) (omega arith);
    }

-- ---- a link of the order is one of the links, and follows its direct predecessors
and_true : (a b : Bool) → (a && b) ≡ true → (a ≡ true) × (b ≡ true)
and_true true b h = (refl, h)
and_true false b h = absurd (cc)

range_within : (start count e : ℕ) (pairs : List (ℕ × ℕ)) (taken : List ℕ) → first_free pairs taken (range_with_len start count) ≡ Some e
    → (e < start + count) × (is_free pairs taken e ≡ true)
range_within start zero e pairs taken h = absurd (cc)
range_within start (suc count) e pairs taken h = by (is_free pairs taken start) refl h (λ k. range_within (start + 1) count e pairs taken k)
  where
    by : (b : Bool) → is_free pairs taken start ≡ b → (if b then Some start else first_free pairs taken (range_with_len (start + 1) count)) ≡ Some e
        → (first_free pairs taken (range_with_len (start + 1) count) ≡ Some e → (e < start + 1 + count) × (is_free pairs taken e ≡ true))
        → (e < start + suc count) × (is_free pairs taken e ≡ true)
    by true t h later = let same : start ≡ e = cc in (omega arith, ap (is_free pairs taken) (sym same) ∙ t)
    by false t h later = let r = later h in (omega (arith, r.0), r.1)

pub record IsPlaced (pairs : List (ℕ × ℕ)) (links : ℕ) (front : List ℕ) (e : ℕ) : Type 0 where
  pub below : e < links
  pub after : list_all (λ (p : ℕ × ℕ). not (eqb p.1 e) || is_taken front p.0) pairs ≡ true

module _ (pairs : List (ℕ × ℕ)) (links : ℕ) where
  placed : (more : ℕ) (taken front : List ℕ) (e : ℕ) (back : List ℕ) → order_from more pairs links taken ≡ front ++ e ∷ back
      → (e < links) × (list_all (λ (p : ℕ × ℕ). not (eqb p.1 e) || is_taken (front ++ taken) p.0) pairs ≡ true)
  placed zero taken [] e back h = absurd (cc)
  placed zero taken (x ∷ front) e back h = absurd (cc)
  placed (suc more) taken front e back h = by (first_free pairs taken (range_with_len 0 links)) refl front h (λ f front' k. placed more (f ∷ taken) front' e back k)
    where
      by : (o : Option ℕ) → first_free pairs taken (range_with_len 0 links) ≡ o → (front : List ℕ) → with_next o (λ f. order_from more pairs links (f ∷ taken)) ≡ front ++ e ∷ back
          → ((f : ℕ) (front' : List ℕ) → order_from more pairs links (f ∷ taken) ≡ front' ++ e ∷ back
          → (e < links) × (list_all (λ (p : ℕ × ℕ). not (eqb p.1 e) || is_taken (front' ++ f ∷ taken) p.0) pairs ≡ true))
          → (e < links) × (list_all (λ (p : ℕ × ℕ). not (eqb p.1 e) || is_taken (front ++ taken) p.0) pairs ≡ true)
      by None none [] h later = absurd (cc)
      by None none (x ∷ front) h later = absurd (cc)
      by (Some f) some [] h later =
          let same : f ≡ e = cc in
          let w = range_within 0 links e pairs taken (some ∙ ap Some same) in
          (omega (arith, w.0), (and_true (not (is_taken taken e)) _ w.1).1)
      by (Some f) some (x ∷ front) h later =
          let same : f ≡ x = cc in
          let rest : order_from more pairs links (f ∷ taken) ≡ front ++ e ∷ back = cc in
          let r = later f front rest in
          (r.0, sym (all-same pairs (front ++ f ∷ taken) (x ∷ front ++ taken) e (λ g. taken-move front taken f g ∙ ap (λ (z : ℕ). is_taken (z ∷ front ++ taken) g) same)) ∙ r.1)

  pub order_placed : (more : ℕ) (front : List ℕ) (e : ℕ) (back : List ℕ) → order_from more pairs links [] ≡ front ++ e ∷ back → IsPlaced pairs links front e
  order_placed more front e back h =
      let r = placed more [] front e back h in
      record { below = r.0; after = ap (λ (l : List ℕ). list_all (λ (p : ℕ × ℕ). not (eqb p.1 e) || is_taken l p.0) pairs) (sym (append-nil front)) ∙ r.1 }

-- ---- link by link, from a number on
range-more : (start count : ℕ) → start < count → range_with_len start (count - start) ≡ start ∷ range_with_len (start + 1) (count - (start + 1))
range-more start count h = ap (range_with_len start) (let n : count - start ≡ suc (count - (start + 1)) = omega arith in n)

range-none : (start count : ℕ) → count ≤ start → range_with_len start (count - start) ≡ []
range-none start count h = ap (range_with_len start) (let n : count - start ≡ 0 = omega arith in n)

pub free-on : (pairs : List (ℕ × ℕ)) (taken : List ℕ) (all : Option ℕ) (start count : ℕ)
    → first_free pairs taken (range_with_len start (count - start)) ≡ all → start < count → is_free pairs taken start ≡ false
    → first_free pairs taken (range_with_len (start + 1) (count - (start + 1))) ≡ all
free-on pairs taken all start count so_far h t =
    sym (ap (first_free pairs taken) (range-more start count h) ∙ ap (λ (b : Bool). if b then Some start else first_free pairs taken
    (range_with_len (start + 1) (count - (start + 1)))) t) ∙ so_far

pub all-on : (order : List ℕ) (all : Bool) (start count : ℕ) → list_all (λ (e : ℕ). is_taken order e) (range_with_len start (count - start)) ≡ all
    → start < count → is_taken order start ≡ true
    → list_all (λ (e : ℕ). is_taken order e) (range_with_len (start + 1) (count - (start + 1))) ≡ all
all-on order all start count so_far h t =
    sym (ap (list_all (λ (e : ℕ). is_taken order e)) (range-more start count h)
    ∙ ap (λ (b : Bool). b && list_all (λ (e : ℕ). is_taken order e) (range_with_len (start + 1) (count - (start + 1)))) t) ∙ so_far

pub all-off : (order : List ℕ) (all : Bool) (start count : ℕ) → list_all (λ (e : ℕ). is_taken order e) (range_with_len start (count - start)) ≡ all
    → start < count → is_taken order start ≡ false → false ≡ all
all-off order all start count so_far h t =
    sym (ap (list_all (λ (e : ℕ). is_taken order e)) (range-more start count h)
    ∙ ap (λ (b : Bool). b && list_all (λ (e : ℕ). is_taken order e) (range_with_len (start + 1) (count - (start + 1)))) t) ∙ so_far

pub all-end : (order : List ℕ) (all : Bool) (start count : ℕ) → list_all (λ (e : ℕ). is_taken order e) (range_with_len start (count - start)) ≡ all → count ≤ start → true ≡ all
all-end order all start count so_far h = sym (ap (list_all (λ (e : ℕ). is_taken order e)) (range-none start count h)) ∙ so_far
