-- Patterns of the model and assignments of choices: with a pattern as base they are the same.
use Rattle.std.proofs.Common.{◌≡◌, ℕ, zero, suc, ◌<◌, Bool, true, false, List, [], ◌∷◌, length, take, inl, inr, Option, Some, None, slice_get, refl, sym}
use Rattle.std.proofs.Common.{ap, subst, ◌∙◌, arith, is_some}
use Rattle.nf_pattern.proofs.Common.{none-some, same_Some, slice_get_within, slice_get-get_or, State, Tight, Full, Zero, Sets, Pattern, HasState, IsPattern}
use Rattle.nf_pattern.proofs.Common.{choices, IsIn, IsAssignment, first_good}

-- ---- link by link
abbrev pub HasEntry : {A : Type 0} → List A → ℕ → A → Type 0
HasEntry xs e x = slice_get xs e ≡ Some x

pub assigned_length : (base : Pattern) (us : List Bool) (states : Pattern) → IsAssignment base us states → length states ≡ length base
assigned_length [] [] [] h = refl
assigned_length [] [] (s ∷ states) h = absurd h
assigned_length [] (u ∷ us) [] h = absurd h
assigned_length [] (u ∷ us) (s ∷ states) h = absurd h
assigned_length (b ∷ base) [] [] h = absurd h
assigned_length (b ∷ base) [] (s ∷ states) h = absurd h
assigned_length (b ∷ base) (u ∷ us) [] h = absurd h
assigned_length (b ∷ base) (u ∷ us) (s ∷ states) h = ap suc (assigned_length base us states h.1)

-- the entries of a link
pub record AreAt (base : Pattern) (us : List Bool) (states : Pattern) (e : ℕ) : Type 0 where
  pub b : Option State
  pub u : Bool
  pub s : Option State
  pub at_base : HasEntry base e b
  pub at_us : HasEntry us e u
  pub at_states : HasEntry states e s

chosen_at : (base : Pattern) (us : List Bool) (states : Pattern) (e : ℕ) (b : Option State) (u : Bool) (s : Option State) → IsAssignment base us states
    → HasEntry base e b → HasEntry us e u → HasEntry states e s → IsIn (choices b u) s
chosen_at [] us states e b u s h p q r = absurd (none-some b p)
chosen_at (x ∷ base) [] states e b u s h p q r = absurd (none-some u q)
chosen_at (x ∷ base) (v ∷ us) [] e b u s h p q r = absurd (none-some s r)
chosen_at (x ∷ base) (v ∷ us) (t ∷ states) zero b u s h p q r =
    subst (λ (c : Option State). IsIn (choices c u) s) (same_Some x b p) (subst (λ (c : Bool). IsIn (choices x c) s) (same_Some v u q)
    (subst (λ (c : Option State). IsIn (choices x v) c) (same_Some t s r) h.0))
chosen_at (x ∷ base) (v ∷ us) (t ∷ states) (suc e) b u s h p q r = chosen_at base us states e b u s h.1 p q r

assigned_by : (base : Pattern) (us : List Bool) (states : Pattern) → length us ≡ length base → length states ≡ length base
    → ((e : ℕ) (b : Option State) (u : Bool) (s : Option State) → HasEntry base e b → HasEntry us e u → HasEntry states e s → IsIn (choices b u) s) → IsAssignment base us states
assigned_by [] [] [] m n each = tt
assigned_by [] [] (s ∷ states) m n each = absurd (omega arith)
assigned_by [] (u ∷ us) states m n each = absurd (omega arith)
assigned_by (b ∷ base) [] states m n each = absurd (omega arith)
assigned_by (b ∷ base) (u ∷ us) [] m n each = absurd (omega arith)
assigned_by (b ∷ base) (u ∷ us) (s ∷ states) m n each =
    (each 0 b u s refl refl refl, assigned_by base us states (omega arith) (omega arith) (λ e c v t p q r. each (suc e) c v t p q r))

-- ---- the choices of one link
some_chosen : (b : State) (u : Bool) (s : Option State) → IsIn (choices (Some b) u) s → (state : State) × (s ≡ Some state)
some_chosen b true s (inl e) = (Tight, e)
some_chosen b true s (inr (inl e)) = (Zero, e)
some_chosen b true s (inr (inr h)) = absurd h
some_chosen b false s (inl e) = (Tight, e)
some_chosen b false s (inr (inl e)) = (Full, e)
some_chosen b false s (inr (inr (inl e))) = (Zero, e)
some_chosen b false s (inr (inr (inr h))) = absurd h

none_chosen : (u : Bool) (s : Option State) → IsIn (choices None u) s → s ≡ None
none_chosen u s (inl e) = e
none_chosen u s (inr h) = absurd h

not_full : (b : Option State) → IsIn (choices b true) (Some Full) → ⊥
not_full None (inl e) = cc
not_full None (inr h) = h
not_full (Some b) (inl e) = cc
not_full (Some b) (inr (inl e)) = cc
not_full (Some b) (inr (inr h)) = h

is_choice : (b : State) (u : Bool) (s : State) → (u ≡ true → s ≡ Full → ⊥) → IsIn (choices (Some b) u) (Some s)
is_choice b true Tight bar = inl refl
is_choice b true Full bar = absurd (bar refl refl)
is_choice b true Zero bar = inr (inl refl)
is_choice b false Tight bar = inl refl
is_choice b false Full bar = inr (inl refl)
is_choice b false Zero bar = inr (inr (inl refl))

-- ---- an assignment has states where its base has
chosen_too : (base : Pattern) (us : List Bool) (p : Pattern) (e : ℕ) (b : Option State) → IsAssignment base us p → HasEntry base e b
    → (u : Bool) × (s : Option State) × HasEntry p e s × IsIn (choices b u) s
chosen_too [] us p e b h at = absurd (none-some b at)
chosen_too (x ∷ base) [] [] e b h at = absurd h
chosen_too (x ∷ base) [] (s ∷ p) e b h at = absurd h
chosen_too (x ∷ base) (u ∷ us) [] e b h at = absurd h
chosen_too (x ∷ base) (u ∷ us) (s ∷ p) zero b h at = (u, s, refl, subst (λ (y : Option State). IsIn (choices y u) s) (same_Some x b at) h.0)
chosen_too (x ∷ base) (u ∷ us) (s ∷ p) (suc e) b h at = chosen_too base us p e b h.1 at

pub none_too : (base : Pattern) (us : List Bool) (p : Pattern) (e : ℕ) → IsAssignment base us p → HasEntry base e None → HasEntry p e None
none_too base us p e h at = let c = chosen_too base us p e None h at in c.2 ∙ ap (λ (s : Option State). Some s) (none_chosen c.0 c.1 c.3)

pub some_too : (base : Pattern) (us : List Bool) (p : Pattern) (e : ℕ) (state : State) → IsAssignment base us p → HasState base e state → (other : State) × HasState p e other
some_too base us p e state h at =
    let c = chosen_too base us p e (Some state) h at in
    let some = some_chosen state c.0 c.1 c.3 in (some.0, c.2 ∙ ap (λ (s : Option State). Some s) some.1)

-- ---- both ways
module _ (sets : Sets) (us : List Bool) (base : Pattern) (is_base : IsPattern sets us base) (count : length us ≡ length base) where
  module _ (states : Pattern) where
    module _ (h : IsAssignment base us states) where
      entries : (e : ℕ) → e < length base → AreAt base us states e
      entries e below =
          let n = assigned_length base us states h in
          record {
            b = _;
            u = _;
            s = _;
            at_base = slice_get-get_or base e None below;
            at_us = slice_get-get_or us e false (omega arith);
            at_states = slice_get-get_or states e None (omega arith);
          }

      has_one : (e : ℕ) (state : State) → HasState base e state → (other : State) × HasState states e other
      has_one e state has =
          let at = entries e (slice_get_within base e (Some state) has) in
          let chosen = chosen_at base us states e (Some state) at.u at.s h has at.at_us at.at_states in
          let some = some_chosen state at.u at.s chosen in (some.0, at.at_states ∙ ap (λ (x : Option State). Some x) some.1)

      base_has : (e : ℕ) (state : State) → HasState states e state → (other : State) × HasState base e other
      base_has e state has =
          let n = assigned_length base us states h in let l = slice_get_within states e (Some state) has in
          let at = entries e (omega arith) in
          from at.b at.u at.at_base at.at_us
        where
          from : (b : Option State) (u : Bool) → HasEntry base e b → HasEntry us e u → (other : State) × HasState base e other
          from None u p q = let k = none_chosen u (Some state) (chosen_at base us states e None u (Some state) h p q has) in absurd (cc)
          from (Some other) u p q = (other, p)

      pub pattern_of : IsPattern sets us states
      pattern_of = record {
        count = assigned_length base us states h ∙ is_base.count;
        states = λ e. (
          λ needs. (let b = (is_base.states e).0 needs in has_one e b.0 b.1),
          λ has. (let b = base_has e has.0 has.1 in (is_base.states e).1 b),
        );
        no_full = λ e unbounded full.
            let n = assigned_length base us states h in let l = slice_get_within states e (Some Full) full in
            let at = entries e (omega arith) in
            not_full at.b (chosen_at base us states e at.b true (Some Full) h at.at_base unbounded full);
      }

    module _ (is : IsPattern sets us states) where
      chosen : (e : ℕ) (b : Option State) (u : Bool) (s : Option State) → HasEntry base e b → HasEntry us e u → HasEntry states e s → IsIn (choices b u) s
      chosen e None u None p q r = inl refl
      chosen e None u (Some s) p q r = let b = (is_base.states e).0 ((is.states e).1 (s, r)) in let k = b.1 in absurd (cc)
      chosen e (Some b) u None p q r = let s = (is.states e).0 ((is_base.states e).1 (b, p)) in let k = s.1 in absurd (cc)
      chosen e (Some b) u (Some s) p q r = is_choice b u s
          (λ unbounded full. is.no_full e (q ∙ ap (λ (x : Bool). Some x) unbounded) (r ∙ ap (λ (x : State). Some (Some x)) full))

      pub assignment_of : IsAssignment base us states
      assignment_of = assigned_by base us states count (is.count ∙ sym is_base.count) chosen

-- ---- the same up to a link
pub same_front_at : {A : Type 0} (n e : ℕ) (xs ys : List A) → e < n → take n xs ≡ take n ys → slice_get xs e ≡ slice_get ys e
same_front_at {A = A} n e xs ys less same = sym (taken n e xs less) ∙ (ap (λ (zs : List A). slice_get zs e) same ∙ taken n e ys less)
  where
    taken : (n e : ℕ) (zs : List A) → e < n → slice_get (take n zs) e ≡ slice_get zs e
    taken zero e zs less = absurd (omega arith)
    taken (suc n) e [] less = refl
    taken (suc n) zero (z ∷ zs) less = refl
    taken (suc n) (suc e) (z ∷ zs) less = taken n e zs (omega arith)

-- Full is the first choice that fits
pub full_fits : (good : Option State → Bool) (base : Option State) (unbounded : Bool) → is_some base ≡ true → unbounded ≡ false → false ≡ good (Some Tight) → true ≡ good (Some Full)
    → Some (Some Full) ≡ first_good good (choices base unbounded)
full_fits good None unbounded there bounded tight full = absurd (cc)
full_fits good (Some state) true there bounded tight full = absurd (cc)
full_fits good (Some state) false there bounded tight full = rw (sym tight, sym full) refl
