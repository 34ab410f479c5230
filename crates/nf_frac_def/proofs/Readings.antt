-- The list of operations with its first passing one, and the checked computation, are one thing.
use Rattle.std.proofs.Common.{◌≡◌, ◌++◌, [], ◌∷◌, List, Bool, true, false, cond, refl, sym, ap, ◌∙◌, if◌then◌else◌, Option, Some, None, find, Result, Ok, Err}
use Rattle.std.specs.Option.{option_or, unwrap_or}
use Rattle.std.specs.List.{AllByRecursion}
use Rattle.std.proofs.lemmas.List.Folds.{find-append}
use Rattle.nf_rational.specs.Rational.{ℚ}
use Rattle.nf_frac_def.specs.declared.Op.{Op}
use Rattle.nf_frac_def.specs.declared.Passed.{Passed}
use Rattle.nf_frac_def.specs.Passing.{Passing, result_of}
use Rattle.nf_frac_def.specs.Checked.{checked, ◌>>=◌ as ◌>>>◌}
use Rattle.nf_frac_def.specs.Work.{Work, does, does_pass, answer, outcome, IsFirstPassing, ◌>>=◌}

some_injective : {A : Type 0} {x y : A} → Some x ≡ Some y → x ≡ y
some_injective {x = x} e = ap (λ o. unwrap_or o x) e

abbrev error_in : {A : Type 0} → Passed ℚ → Result A (Passed ℚ) → Passed ℚ
error_in p (Ok x) = p
error_in p (Err q) = q

abbrev value_in : {A : Type 0} → A → Result A (Passed ℚ) → A
value_in x (Ok y) = y
value_in x (Err q) = x

-- ---- one operation
one_operation : {A : Type 0} (b : Bool) (p : Passed ℚ) (v : A) → (if b then Err p else Ok v) ≡ answer v (cond b (Some p) None)
one_operation true p v = refl
one_operation false p v = refl

pub checked_is : (passes : Passing) (op : Op) (x y : ℚ) → checked passes op x y ≡ outcome passes (does op x y)
unfolding checked outcome
checked_is passes op x y = one_operation (passes op x y) (record { op = op; left = x; right = y }) (result_of op x y)

-- ---- one computation after another
stops_at : {A B : Type 0} (x : A) (y : B) (o r : Option (Passed ℚ)) (p : Passed ℚ) → Err p ≡ answer x o → Err p ≡ answer y (option_or o r)
stops_at x y None r p e = cc
stops_at x y (Some q) r p e = ap Err (ap (error_in p) e)

module _ {A B : Type 0} (passes : Passing) (w : Work A) (f : A → Work B) where
  goes_on_at : (x v : A) (o : Option (Passed ℚ)) → Ok x ≡ answer v o
      → answer (f x).value (find (does_pass passes) (f x).operations) ≡ answer (f v).value (option_or o (find (does_pass passes) (f v).operations))
  goes_on_at x v None e = ap (λ u. answer (f u).value (find (does_pass passes) (f u).operations)) (ap (value_in x) e)
  goes_on_at x v (Some q) e = cc

  along : find (does_pass passes) (w >>= f).operations ≡ option_or (find (does_pass passes) w.operations) (find (does_pass passes) (f w.value).operations)
  along = find-append (does_pass passes) w.operations (f w.value).operations

  pub outcome_stops : (p : Passed ℚ) → Err p ≡ outcome passes w → Err p ≡ outcome passes (w >>= f)
  unfolding outcome
  outcome_stops p e =
      stops_at w.value (f w.value).value (find (does_pass passes) w.operations) (find (does_pass passes) (f w.value).operations) p e
      ∙ ap (answer (f w.value).value) (sym along)

  pub outcome_goes_on : (x : A) → Ok x ≡ outcome passes w → outcome passes (f x) ≡ outcome passes (w >>= f)
  unfolding outcome
  outcome_goes_on x e = goes_on_at x w.value (find (does_pass passes) w.operations) e ∙ ap (answer (f w.value).value) (sym along)

  bind_at : (r : Result A (Passed ℚ)) → r ≡ outcome passes w → outcome passes (w >>= f) ≡ (r >>> λ x. outcome passes (f x))
  bind_at (Ok x) e = sym (outcome_goes_on x e)
  bind_at (Err p) e = sym (outcome_stops p e)

  pub outcome-bind : outcome passes (w >>= f) ≡ (outcome passes w >>> λ x. outcome passes (f x))
  outcome-bind = bind_at (outcome passes w) refl

-- ---- the first operation that passes
module _ (passes : Passing) where
  first_found : (q : Passed ℚ) (rest : List (Passed ℚ)) (p : Passed ℚ) (b : Bool) → b ≡ does_pass passes q → cond b (Some q) (find (does_pass passes) rest) ≡ Some p
      → (find (does_pass passes) rest ≡ Some p → IsFirstPassing passes rest p) → IsFirstPassing passes (q ∷ rest) p
  first_found q rest p true e f next =
      record {
        before = [];
        after = rest;
        split = ap (λ x. x ∷ rest) (some_injective f);
        none_before = tt;
        passing =
            ap (does_pass passes) (sym (some_injective f)) ∙ sym e;
      }
  first_found q rest p false e f next =
      let h = next f in record {
        before = q ∷ h.before;
        after = h.after;
        split = ap (λ l. q ∷ l) h.split;
        none_before = (sym e, h.none_before);
        passing =
            h.passing;
      }

  pub found_is_first : (operations : List (Passed ℚ)) (p : Passed ℚ) → find (does_pass passes) operations ≡ Some p → IsFirstPassing passes operations p
  found_is_first [] p e = cc
  found_is_first (q ∷ rest) p e = first_found q rest p (does_pass passes q) refl e (found_is_first rest p)

  found_after : (before : List (Passed ℚ)) (p : Passed ℚ) (after : List (Passed ℚ)) → AllByRecursion (λ q. does_pass passes q ≡ false) before → does_pass passes p ≡ true
      → find (does_pass passes) (before ++ p ∷ after) ≡ Some p
  found_after [] p after none one = rw one refl
  found_after (q ∷ before) p after none one = rw none.0 (found_after before p after none.1 one)

  pub first_is_found : (operations : List (Passed ℚ)) (p : Passed ℚ) → IsFirstPassing passes operations p → find (does_pass passes) operations ≡ Some p
  first_is_found operations p h = ap (find (does_pass passes)) h.split ∙ found_after h.before p h.after h.none_before h.passing

  none_at : (q : Passed ℚ) (rest : List (Passed ℚ)) (b : Bool) → b ≡ does_pass passes q → cond b (Some q) (find (does_pass passes) rest) ≡ None
      → (find (does_pass passes) rest ≡ None → AllByRecursion (λ q. does_pass passes q ≡ false) rest) → AllByRecursion (λ q. does_pass passes q ≡ false) (q ∷ rest)
  none_at q rest true e f next = cc
  none_at q rest false e f next = (sym e, next f)

  pub none_found : (operations : List (Passed ℚ)) → find (does_pass passes) operations ≡ None → AllByRecursion (λ q. does_pass passes q ≡ false) operations
  none_found [] e = tt
  none_found (q ∷ rest) e = none_at q rest (does_pass passes q) refl e (none_found rest)

  pub none_is_found : (operations : List (Passed ℚ)) → AllByRecursion (λ q. does_pass passes q ≡ false) operations → find (does_pass passes) operations ≡ None
  none_is_found [] none = refl
  none_is_found (q ∷ rest) none = rw none.0 (none_is_found rest none.1)

  passed_at : {A : Type 0} (v : A) (o : Option (Passed ℚ)) (p : Passed ℚ) → answer v o ≡ Err p → o ≡ Some p
  passed_at v None p e = cc
  passed_at v (Some q) p e = ap Some (ap (error_in p) e)

  value_at : {A : Type 0} (v : A) (o : Option (Passed ℚ)) (x : A) → answer v o ≡ Ok x → (o ≡ None) × (x ≡ v)
  value_at v None x e = (refl, ap (value_in x) (sym e))
  value_at v (Some q) x e = cc

  module _ {A : Type 0} (w : Work A) where
    pub passed_out : (p : Passed ℚ) → outcome passes w ≡ Err p → IsFirstPassing passes w.operations p
    unfolding outcome
    passed_out p e = found_is_first w.operations p (passed_at w.value _ p e)

    pub passed_in : (p : Passed ℚ) → IsFirstPassing passes w.operations p → outcome passes w ≡ Err p
    unfolding outcome
    passed_in p h = ap (answer w.value) (first_is_found w.operations p h)

    pub value_out : (x : A) → outcome passes w ≡ Ok x → AllByRecursion (λ q. does_pass passes q ≡ false) w.operations × (x ≡ w.value)
    unfolding outcome
    value_out x e = let h = value_at w.value _ x e in (none_found w.operations h.0, h.1)

    pub value_in_answer : (x : A) → AllByRecursion (λ q. does_pass passes q ≡ false) w.operations × (x ≡ w.value) → outcome passes w ≡ Ok x
    unfolding outcome
    value_in_answer x h = ap (answer w.value) (none_is_found w.operations h.0) ∙ ap Ok (sym h.1)
