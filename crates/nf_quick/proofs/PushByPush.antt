-- Pushes of shortest walks in succession.
use Rattle.std.proofs.Common.{◌≡◌, ℕ, suc, ◌+◌, ◌-◌, ◌<◌, ◌≤◌, Option, Some, None, sym, ap, subst, ◌∙◌, arith, Ok, Err}
use Rattle.nf_quick.proofs.Common.{ℚ, 0ℚ, ◌≤ℚ◌, Passing, Halt, Checked, Stops, at_part, ◌>>=◌, Network, IsSound, Walk, QuickStanding, Pushed, Done}
use Rattle.nf_quick.proofs.Common.{OverBudget, start_of, push_on, next_list, ended, push_and, push_up_to, of_halt, IsPushResult, stops, goes_on, stops_as}
use Rattle.nf_rational_laws.proofs.Chains.{≤ℚ_refl}
use Rattle.nf_frac_def.specs.declared.Part.TheVariants as Part

-- The remaining pushes give the result of all pushes.
pub record PushesOn (passes : Passing) (net : Network) (amount : ℚ) (augments : ℕ) (s : QuickStanding) (k : ℕ) : Type 0 where
  pub same : push_up_to passes net amount (augments - k) s ≡ push_up_to passes net amount augments (start_of net)
  pub sound : IsSound net s.flows
  pub rate : 0ℚ ≤ℚ s.rate

module _ (passes : Passing) (net : Network) (amount : ℚ) (augments : ℕ) where
  abbrev all : Checked Pushed
  all = push_up_to passes net amount augments (start_of net)

  pub pushes_first : (s : QuickStanding) → s ≡ start_of net → IsSound net s.flows → PushesOn passes net amount augments s 0
  pushes_first s e sound = record {
    same = let left : augments - 0 ≡ augments = omega arith in ap (λ (i : ℕ). push_up_to passes net amount i s) left
        ∙ ap (λ (t : QuickStanding). push_up_to passes net amount augments t) e;
    sound = sound;
    rate = subst (λ (t : QuickStanding). 0ℚ ≤ℚ t.rate) (sym e) (≤ℚ_refl 0ℚ);
  }

  module _ (s : QuickStanding) (k : ℕ) (on : PushesOn passes net amount augments s k) where
    abbrev next : Checked (Option Walk)
    next = next_list passes net amount s

    -- ---- another walk can be pushed
    module _ (b : k < augments) where
      abbrev onward : Option Walk → Checked Pushed
      onward found = push_and passes net amount (λ new. push_up_to passes net amount (augments - (k + 1)) new) s found

      split : all ≡ (next >>= onward)
      split = let more : augments - k ≡ suc (augments - (k + 1)) = omega arith in sym on.same ∙ ap (λ (i : ℕ). push_up_to passes net amount i s) more

      pub next_stops : (h : Halt ℚ) → Stops (λ (q : ℚ). q) h (at_part Part.Quick next) → Stops (λ (q : ℚ). q) h (at_part Part.Quick all)
      next_stops h e = stops_as all (next >>= onward) h split (stops next onward h e)

      pub none_next : at_part Part.Quick next ≡ Ok None → at_part Part.Quick all ≡ Ok (Done s)
      none_next e = ap (at_part Part.Quick) (split ∙ goes_on next onward None e)

      module _ (walk : Walk) (came : at_part Part.Quick next ≡ Ok (Some walk)) where
        abbrev pushed : Checked QuickStanding
        pushed = push_on passes net amount s walk

        abbrev later : QuickStanding → Checked Pushed
        later new = push_up_to passes net amount (augments - (k + 1)) new

        one : all ≡ (pushed >>= later)
        one = split ∙ goes_on next onward (Some walk) came

        pub push_stops : (h : Halt ℚ) → Stops (λ (q : ℚ). q) h (at_part Part.Quick pushed) → Stops (λ (q : ℚ). q) h (at_part Part.Quick all)
        push_stops h e = stops_as all (pushed >>= later) h one (stops pushed later h e)

        pub pushes_more : (new : QuickStanding) → at_part Part.Quick pushed ≡ Ok new → IsSound net new.flows → 0ℚ ≤ℚ new.rate → PushesOn passes net amount augments new (k + 1)
        pushes_more new e sound rate = record { same = sym (one ∙ goes_on pushed later new e); sound = sound; rate = rate }

    -- ---- the budget of pushes is used up
    module _ (b : augments ≤ k) where
      abbrev last : Option Walk → Checked Pushed
      last found = Ok (ended passes net amount s found)

      at_end : all ≡ (next >>= last)
      at_end = let none : augments - k ≡ 0 = omega arith in sym on.same ∙ ap (λ (i : ℕ). push_up_to passes net amount i s) none

      pub last_stops : (h : Halt ℚ) → Stops (λ (q : ℚ). q) h (at_part Part.Quick next) → Stops (λ (q : ℚ). q) h (at_part Part.Quick all)
      last_stops h e = stops_as all (next >>= last) h at_end (stops next last h e)

      pub last_none : at_part Part.Quick next ≡ Ok None → at_part Part.Quick all ≡ Ok (Done s)
      last_none e = ap (at_part Part.Quick) (at_end ∙ goes_on next last None e)

      pub over_budget : (walk : Walk) → at_part Part.Quick next ≡ Ok (Some walk) → at_part Part.Quick all ≡ Ok (OverBudget s.pushed)
      over_budget walk e = ap (at_part Part.Quick) (at_end ∙ goes_on next last (Some walk) e)

-- A failure of the pushes is the answer.
pub halted : (passes : Passing) (net : Network) (amount : ℚ) (augments : ℕ) (h : Halt ℚ)
    → Stops (λ (q : ℚ). q) h (at_part Part.Quick (push_up_to passes net amount augments (start_of net)))
    → IsPushResult passes net amount augments (Err (of_halt h))
halted passes net amount augments (Halt.Passed p) e = e
halted passes net amount augments Halt.Memory e = tt
