-- The tests of a link's verdict are its inequality.
use Rattle.std.proofs.Common.{◌≡◌, ◌≢◌, ℕ, ◌+◌, ◌<◌, List, ⊎_elim, Bool, true, false, ◌&&◌, eqb, sym, subst, refl, arith, if◌then◌else◌, Option, Some, None}
use Rattle.std.proofs.Common.{Ok, Err}
use Rattle.nf_thin_one.proofs.Common.{eqb_tells, ℚ, 0ℚ, ◌*ℚ◌, ◌≤ℚ◌, le_of_test, test_of_le, Passed, Passing, ◌>>=◌, number_at, State, Tight, Full, Zero}
use Rattle.nf_thin_one.proofs.Common.{Inequality, bound_on, keeps, same_Ok}
use Rattle.nf_frac_def.specs.declared.Op.TheVariants.{Product}
use Rattle.nf_frac_def.specs.Checked.{checked}

-- the bound on the flow, where no operation passes
abbrev pub bound_value : Option State → Option ℚ → ℚ → Option ℚ
bound_value (Some Tight) (Some capacity) head_slope = Some (capacity *ℚ head_slope)
bound_value state capacity head_slope = None

module _ (passes : Passing) where
  product_exact : (b : Bool) (q : Passed ℚ) (x : ℚ) (bound : Option ℚ) → ((if b then Err q else Ok x) >>= λ v. Ok (Some v)) ≡ Ok bound → bound ≡ Some x
  product_exact true q x bound e = absurd (cc)
  product_exact false q x bound e = sym (same_Ok (Some x) bound e)

  pub bound_exact : (state : Option State) (capacity : Option ℚ) (head_slope : ℚ) (bound : Option ℚ) → bound_on passes state capacity head_slope ≡ Ok bound
      → bound ≡ bound_value state capacity head_slope
  unfolding checked
  bound_exact (Some Tight) (Some capacity) head_slope bound e = product_exact (passes Product capacity head_slope) _ (capacity *ℚ head_slope) bound e
  bound_exact (Some Tight) None head_slope bound e = sym (same_Ok None bound e)
  bound_exact (Some Full) capacity head_slope bound e = sym (same_Ok None bound e)
  bound_exact (Some Zero) capacity head_slope bound e = sym (same_Ok None bound e)
  bound_exact None capacity head_slope bound e = sym (same_Ok None bound e)

pub keeps_inequality : (state : Option State) (capacity : Option ℚ) (flow tail_slope head_slope : ℚ)
    → keeps state (bound_value state capacity head_slope) flow tail_slope head_slope ≡ true
    → Inequality state capacity flow tail_slope head_slope
keeps_inequality (Some Tight) (Some capacity) flow tail_slope head_slope e =
    λ rate same. subst (λ (r : ℚ). flow ≤ℚ r *ℚ head_slope) (same_capacity capacity rate same) (le_of_test flow (capacity *ℚ head_slope) e)
  where
    same_capacity : (c r : ℚ) → Some c ≡ Some r → c ≡ r
    same_capacity c r e = cc
keeps_inequality (Some Tight) None flow tail_slope head_slope e = λ rate none. absurd (no rate none)
  where
    no : (r : ℚ) → None ≡ Some r → ⊥
    no r e = cc
keeps_inequality (Some Full) capacity flow tail_slope head_slope e = le_of_test tail_slope head_slope e
keeps_inequality (Some Zero) capacity flow tail_slope head_slope e = le_of_test head_slope tail_slope e
keeps_inequality None capacity flow tail_slope head_slope e = tt

pub inequality_keeps : (state : Option State) (capacity : Option ℚ) (flow tail_slope head_slope : ℚ) → Inequality state capacity flow tail_slope head_slope
    → keeps state (bound_value state capacity head_slope) flow tail_slope head_slope ≡ true
inequality_keeps (Some Tight) (Some capacity) flow tail_slope head_slope h = test_of_le flow (capacity *ℚ head_slope) (h capacity refl)
inequality_keeps (Some Tight) None flow tail_slope head_slope h = refl
inequality_keeps (Some Full) capacity flow tail_slope head_slope h = test_of_le tail_slope head_slope h
inequality_keeps (Some Zero) capacity flow tail_slope head_slope h = test_of_le head_slope tail_slope h
inequality_keeps None capacity flow tail_slope head_slope h = refl

pub all_true : (a b : Bool) → a ≡ true → b ≡ true → (a && b) ≡ true
all_true true true e f = refl
all_true true false e f = f
all_true false b e f = e

-- none of the numbers so far is negative, nor is the next
pub one_more_not_negative : (xs : List ℚ) (v : ℕ) → ((w : ℕ) → w < v → 0ℚ ≤ℚ number_at xs w) → 0ℚ ≤ℚ number_at xs v → (w : ℕ) → w < v + 1 → 0ℚ ≤ℚ number_at xs w
one_more_not_negative xs v all here w b = ⊎_elim
    (λ (e : (eqb w v ≡ true) × (w ≡ v)). subst (λ (j : ℕ). 0ℚ ≤ℚ number_at xs j) (sym e.1) here)
    (λ (e : (eqb w v ≡ false) × (w ≢ v)). all w (let n = e.1 in omega arith))
    (eqb_tells w v)
