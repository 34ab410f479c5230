-- Each assignment of freely combinable states is listed.
use Rattle.std.proofs.Common.{◌≡◌, ◌⊎◌, inl, inr, ℕ, zero, suc, ◌<◌, Bool, true, false, List, [], ◌∷◌, length, refl, sym, ap, subst, ◌∙◌, arith, Option}
use Rattle.std.proofs.Common.{Some, None, slice_get}
use Rattle.nf_thin_laws.proofs.Common.{none-some, same_Some, slice_get_within, State, Tight, Full, Zero, Has, Hop, Sets, Pattern, HasState, NeedsState}
use Rattle.nf_thin_laws.proofs.Common.{IsPattern, IsListed, rank, entry, IsIn, AreIn, if_allowed, states_by, choices_by, IsKeeper, AreFirm, Ascend}
use Rattle.nf_thin_laws.proofs.Common.{AllAscend}
use Rattle.nf_thin_laws.proofs.Forced.{forest_within}
use Rattle.nf_thin_laws.proofs.Counting.{AreIn-length}

-- ---- the states of one link
abbrev MayBe : Bool → Bool → Bool → Option State → Type 0
MayBe t f z s = ((t ≡ true) × (s ≡ Some Tight)) ⊎ (((f ≡ true) × (s ≡ Some Full)) ⊎ ((z ≡ true) × (s ≡ Some Zero)))

pub in_allowed : (flag : Bool) (state : State) (states : List (Option State)) (s : Option State) → IsIn (if_allowed flag state states) s → ((flag ≡ true) × (s ≡ Some state)) ⊎ IsIn states s
in_allowed true state states s (inl same) = inl (refl, same)
in_allowed true state states s (inr later) = inr later
in_allowed false state states s h = inr h

state_of : (b : State) (t f z : Bool) (s : Option State) → IsIn (states_by (Some b) t f z) s → MayBe t f z s
state_of b t f z s h = one (in_allowed t Tight (if_allowed f Full (if_allowed z Zero [])) s h)
  where
    three : ((z ≡ true) × (s ≡ Some Zero)) ⊎ IsIn [] s → MayBe t f z s
    three (inl w) = inr (inr w)
    three (inr nothing) = absurd nothing

    two : ((f ≡ true) × (s ≡ Some Full)) ⊎ IsIn (if_allowed z Zero []) s → MayBe t f z s
    two (inl w) = inr (inl w)
    two (inr more) = three (in_allowed z Zero [] s more)

    one : ((t ≡ true) × (s ≡ Some Tight)) ⊎ IsIn (if_allowed f Full (if_allowed z Zero [])) s → MayBe t f z s
    one (inl w) = inl w
    one (inr more) = two (in_allowed f Full (if_allowed z Zero []) s more)

ascend_first : (flag : Bool) (state : State) (states : List (Option State)) → ((s : Option State) → IsIn states s → rank (Some state) < rank s)
    → Ascend states → Ascend (if_allowed flag state states)
ascend_first true state states less up = (less, up)
ascend_first false state states less up = up

ascend_by : (b : Option State) (t f z : Bool) → Ascend (states_by b t f z)
ascend_by None t f z = (λ s h. absurd h, tt)
ascend_by (Some b) t f z =
    ascend_first t Tight (if_allowed f Full (if_allowed z Zero [])) tight_less
    (ascend_first f Full (if_allowed z Zero []) full_less (ascend_first z Zero [] (λ s h. absurd h) tt))
  where
    zero_less : (s : Option State) → IsIn (if_allowed z Zero []) s → rank s ≡ 3
    zero_less s h = go (in_allowed z Zero [] s h)
      where
        go : ((z ≡ true) × (s ≡ Some Zero)) ⊎ IsIn [] s → rank s ≡ 3
        go (inl w) = ap rank w.1
        go (inr nothing) = absurd nothing

    full_less : (s : Option State) → IsIn (if_allowed z Zero []) s → 2 < rank s
    full_less s h = let e = zero_less s h in omega arith

    tight_less : (s : Option State) → IsIn (if_allowed f Full (if_allowed z Zero [])) s → 1 < rank s
    tight_less s h = go (in_allowed f Full (if_allowed z Zero []) s h)
      where
        go : ((f ≡ true) × (s ≡ Some Full)) ⊎ IsIn (if_allowed z Zero []) s → 1 < rank s
        go (inl w) = let e : rank s ≡ 2 = ap rank w.1 in omega arith
        go (inr more) = let e = zero_less s more in omega arith

pub all_ascend : (base : Pattern) (tight full zeros : List Bool) → AllAscend (choices_by base tight full zeros)
all_ascend [] tight full zeros = tt
all_ascend (b ∷ base) [] full zeros = tt
all_ascend (b ∷ base) (t ∷ tight) [] zeros = tt
all_ascend (b ∷ base) (t ∷ tight) (f ∷ full) [] = tt
all_ascend (b ∷ base) (t ∷ tight) (f ∷ full) (z ∷ zeros) = (ascend_by b t f z, all_ascend base tight full zeros)

-- ---- link by link
pub record Chosen (base : Pattern) (tight full zeros : List Bool) (e : ℕ) (s : Option State) : Type 0 where
  pub b : Option State
  pub t : Bool
  pub f : Bool
  pub z : Bool
  pub at_base : slice_get base e ≡ Some b
  pub at_tight : slice_get tight e ≡ Some t
  pub at_full : slice_get full e ≡ Some f
  pub at_zero : slice_get zeros e ≡ Some z
  pub is_in : IsIn (states_by b t f z) s

chosen : (base : Pattern) (tight full zeros : List Bool) (q : Pattern) → AreIn (choices_by base tight full zeros) q → (e : ℕ) (s : Option State)
    → slice_get q e ≡ Some s → Chosen base tight full zeros e s
chosen base tight full zeros [] h e s at = absurd (none-some s at)
chosen [] tight full zeros (r ∷ q) h e s at = absurd h
chosen (b ∷ base) [] full zeros (r ∷ q) h e s at = absurd h
chosen (b ∷ base) (t ∷ tight) [] zeros (r ∷ q) h e s at = absurd h
chosen (b ∷ base) (t ∷ tight) (f ∷ full) [] (r ∷ q) h e s at = absurd h
chosen (b ∷ base) (t ∷ tight) (f ∷ full) (z ∷ zeros) (r ∷ q) h zero s at =
    record {
      b = b;
      t = t;
      f = f;
      z = z;
      at_base = refl;
      at_tight = refl;
      at_full = refl;
      at_zero = refl;
      is_in =
          subst (λ (x : Option State). IsIn (states_by b t f z) x) (same_Some r s at) h.0;
    }
chosen (b ∷ base) (t ∷ tight) (f ∷ full) (z ∷ zeros) (r ∷ q) h (suc e) s at = let w = chosen base tight full zeros q h.1 e s at in
    record { b = w.b; t = w.t; f = w.f; z = w.z; at_base = w.at_base; at_tight = w.at_tight; at_full = w.at_full; at_zero = w.at_zero; is_in = w.is_in }

count_by : (base : Pattern) (tight full zeros : List Bool) → length tight ≡ length base → length full ≡ length base → length zeros ≡ length base
    → length (choices_by base tight full zeros) ≡ length base
count_by [] tight full zeros n m k = refl
count_by (b ∷ base) [] full zeros n m k = absurd (omega arith)
count_by (b ∷ base) (t ∷ tight) [] zeros n m k = absurd (omega arith)
count_by (b ∷ base) (t ∷ tight) (f ∷ full) [] n m k = absurd (omega arith)
count_by (b ∷ base) (t ∷ tight) (f ∷ full) (z ∷ zeros) n m k = ap suc (count_by base tight full zeros (omega arith) (omega arith) (omega arith))

module _ (nodes source : ℕ) (hops : List Hop) (sets : Sets) (unbounded : List Bool) (base listed : Pattern) (tight full zeros : List Bool) (is_base : IsPattern sets unbounded base)
    (is_listed : IsListed nodes source hops sets unbounded listed) (firm : AreFirm nodes source hops sets unbounded listed tight full zeros) (q : Pattern)
    (in_q : AreIn (choices_by base tight full zeros) q) where
  count : length q ≡ length base
  count = sym (AreIn-length (choices_by base tight full zeros) q in_q)
      ∙ count_by base tight full zeros (firm.tight_count ∙ sym is_base.count) (firm.full_count ∙ sym is_base.count) (firm.zero_count ∙ sym is_base.count)

  -- The flags and the state of a link that has a state in the base.
  record Stated (e : ℕ) (s : Option State) : Type 0 where
    t : Bool
    f : Bool
    z : Bool
    at_tight : slice_get tight e ≡ Some t
    at_full : slice_get full e ≡ Some f
    at_zero : slice_get zeros e ≡ Some z
    may_be : MayBe t f z s

  by_base : (e : ℕ) (b s : Option State) (state : State) → Chosen base tight full zeros e s → HasState base e state → Stated e s
  by_base e b s state w at = record {
    t = w.t;
    f = w.f;
    z = w.z;
    at_tight = w.at_tight;
    at_full = w.at_full;
    at_zero = w.at_zero;
    may_be = state_of state w.t w.f w.z s (subst (λ (x : Option State). IsIn (states_by x w.t w.f w.z) s) (same_Some w.b (Some state) (sym w.at_base ∙ at)) w.is_in);
  }

  -- A link with a state in the assignment q needs a state.
  needs : (e : ℕ) (s : State) → HasState q e s → NeedsState sets e
  needs e s at = let w = chosen base tight full zeros q in_q e (Some s) at in go w.b w.at_base w.is_in
    where
      go : (b : Option State) → slice_get base e ≡ Some b → IsIn (states_by b (chosen base tight full zeros q in_q e (Some s) at).t
          (chosen base tight full zeros q in_q e (Some s) at).f (chosen base tight full zeros q in_q e (Some s) at).z) (Some s) → NeedsState sets e
      go None at_b (inl same) = absurd (none-some s (sym same))
      go None at_b (inr nothing) = absurd nothing
      go (Some b) at_b h = (is_base.states e).1 (b, at_b)

  stated : (e : ℕ) → NeedsState sets e → (s : Option State) × (slice_get q e ≡ Some s) × Stated e s
  stated e n =
      let b = (is_base.states e).0 n in
      let s = entry q e (let l = slice_get_within base e (Some b.0) b.1 in let c = count in omega arith) in
      (s.0, s.1, by_base e (Some b.0) s.0 b.0 (chosen base tight full zeros q in_q e s.0 s.1) b.1)

  stated_at : (e : ℕ) (s : State) → HasState q e s → Stated e (Some s)
  stated_at e s at =
      let b = (is_base.states e).0 (needs e s at) in by_base e (Some b.0) (Some s) b.0 (chosen base tight full zeros q in_q e (Some s) at) b.1

  some_state : (t f z : Bool) (s : Option State) → MayBe t f z s → (state : State) × (s ≡ Some state)
  some_state t f z s (inl w) = (Tight, w.1)
  some_state t f z s (inr (inl w)) = (Full, w.1)
  some_state t f z s (inr (inr w)) = (Zero, w.1)

  is_tight : (t f z : Bool) → MayBe t f z (Some Tight) → t ≡ true
  is_tight t f z (inl w) = w.0
  is_tight t f z (inr (inl w)) = absurd (let h = ap rank w.1 in omega arith)
  is_tight t f z (inr (inr w)) = absurd (let h = ap rank w.1 in omega arith)

  is_full : (t f z : Bool) → MayBe t f z (Some Full) → f ≡ true
  is_full t f z (inl w) = absurd (let h = ap rank w.1 in omega arith)
  is_full t f z (inr (inl w)) = w.0
  is_full t f z (inr (inr w)) = absurd (let h = ap rank w.1 in omega arith)

  some_flag : (flags : List Bool) (e : ℕ) (b : Bool) → slice_get flags e ≡ Some b → b ≡ true → Has flags e
  some_flag flags e b at set = at ∙ ap (λ (x : Bool). Some x) set

  is_pattern : IsPattern sets unbounded q
  is_pattern = record {
    count = count ∙ is_base.count;
    states = λ e. (
      λ n. (let w = stated e n in let s = some_state w.2.t w.2.f w.2.z w.0 w.2.may_be in (s.0, w.1 ∙ ap (λ (x : Option State). Some x) s.1)),
      λ s. needs e s.0 s.1,
    );
    no_full = λ e u h. let w = stated_at e Full h in firm.bounded e (some_flag full e w.f w.at_full (is_full w.t w.f w.z w.may_be)) u;
  }

  tight_in : (e : ℕ) → HasState q e Tight → HasState listed e Tight
  tight_in e h = let w = stated_at e Tight h in firm.tight_there e (some_flag tight e w.t w.at_tight (is_tight w.t w.f w.z w.may_be))

  enters : (e : ℕ) → IsKeeper sets zeros e → Has sets.resetting e ⊎ (HasState q e Tight ⊎ HasState q e Full)
  enters e (inl r) = inl r
  enters e (inr keeper) = let w = stated e keeper.0 in go w.0 w.1 w.2.t w.2.f w.2.z w.2.at_zero w.2.may_be
    where
      go : (s : Option State) → slice_get q e ≡ Some s → (t f z : Bool) → slice_get zeros e ≡ Some z → MayBe t f z s → Has sets.resetting e ⊎ (HasState q e Tight ⊎ HasState q e Full)
      go s at t f z at_zero (inl w) = inr (inl (at ∙ ap (λ (x : Option State). Some x) w.1))
      go s at t f z at_zero (inr (inl w)) = inr (inr (at ∙ ap (λ (x : Option State). Some x) w.1))
      go s at t f z at_zero (inr (inr w)) = absurd (keeper.1 (some_flag zeros e z at_zero w.0))

  pub firm_listed : IsListed nodes source hops sets unbounded q
  firm_listed = record {
    states = is_pattern;
    forest = forest_within hops (λ (e : ℕ). HasState q e Tight) (λ (e : ℕ). HasState listed e Tight) tight_in is_listed.forest;
    entered = λ v less other. let w = firm.kept v less other in (w.0, w.1, w.2, w.3, enters w.0 w.4);
  }
