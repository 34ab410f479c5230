-- What a trial comes to by its parts: where one ends so does the whole, and where one goes through the next comes.
use Rattle.std.proofs.Common.{◌≡◌, refl, sym, ap, subst, Result, Ok, Err}
use Rattle.nf_check_rules.proofs.Common.{ℚ, Halt, PassedAt, Checked, Stops, placed, at_part, ◌>>=◌, Passes, Trial, in_part, was_ok, Ended, of_halt, EndsAs}
use Rattle.nf_check_rules.proofs.Common.{Tries, done}
use Rattle.nf_frac_def.specs.declared.Part.{Part}

module _ {A B : Type 0} where
  pub goes_on : (r : Trial A) (f : A → Trial B) (x : A) → r ≡ Ok x → (r >>= f) ≡ f x
  goes_on r f x e = ap (λ (w : Trial A). w >>= f) e

  pub ends : (e : Ended) (r : Trial A) (f : A → Trial B) → EndsAs e r → EndsAs e (r >>= f)
  ends (Ended.AtNode rule node sides) r f h = ap (λ (w : Trial A). w >>= f) h
  ends (Ended.AtLink rule link sides) r f h = ap (λ (w : Trial A). w >>= f) h
  ends (Ended.Passed p) r f h = ap (λ (w : Trial A). w >>= f) h
  ends Ended.Memory r f h = tt

-- of equal trials
pub ends_as : {A : Type 0} (e : Ended) (r s : Trial A) → r ≡ s → EndsAs e s → EndsAs e r
ends_as {A} e r s same h = subst (λ (w : Trial A). EndsAs e w) (sym same) h

-- ---- a computation of a part
pub part_ok : {A : Type 0} (part : Part) (r : Checked A) (x : A) → at_part part r ≡ Ok x → in_part part r ≡ Ok x
part_ok part r x e = ap (in_part part) (was_ok part r x e)

pub part_passes : {A : Type 0} (part : Part) (r : Checked A) (p : PassedAt ℚ) → at_part part r ≡ Err p → in_part part r ≡ Err (Passes p)
part_passes part (Ok x) p e = absurd (cc)
part_passes part (Err q) p e = let same : placed part q ≡ p = cc in ap (λ (x : PassedAt ℚ). Err (Passes x)) same

pub part_ends : {A : Type 0} (part : Part) (h : Halt ℚ) (r : Checked A) → Stops (λ (q : ℚ). q) h (at_part part r) → EndsAs (of_halt h) (in_part part r)
part_ends part (Halt.Passed p) r s = part_passes part r _ s
part_ends part Halt.Memory r s = tt

-- and then what follows
module _ {A B : Type 0} (part : Part) (r : Checked A) (f : A → Trial B) where
  pub part_goes : (x : A) → at_part part r ≡ Ok x → (in_part part r >>= f) ≡ f x
  part_goes x e = goes_on (in_part part r) f x (part_ok part r x e)

  pub part_stops : (h : Halt ℚ) → Stops (λ (q : ℚ). q) h (at_part part r) → EndsAs (of_halt h) (in_part part r >>= f)
  part_stops h s = ends (of_halt h) (in_part part r) f (part_ends part h r s)

-- ---- only whether it goes through
pub done_ends : {A : Type 0} (e : Ended) (r : Trial A) → EndsAs e r → EndsAs e (done r)
done_ends (Ended.AtNode rule node sides) r h = ap done h
done_ends (Ended.AtLink rule link sides) r h = ap done h
done_ends (Ended.Passed p) r h = ap done h
done_ends Ended.Memory r h = tt

-- what goes through came to something
pub record Came {A : Type 0} (r : Trial A) : Type 0 where
  pub value : A
  pub is : r ≡ Ok value

pub done_came : {A : Type 0} (r : Trial A) → done r ≡ Ok tt → Came r
done_came (Ok x) e = record { value = x; is = refl }
done_came (Err p) e = absurd (cc)

-- ---- one after the other
-- of equal trials
pub tries_as : {X A : Type 0} (value : X → A) (result : Result X Ended) (r s : Trial A) → r ≡ s → Tries value result s → Tries value result r
tries_as {X} {A} value result r s same h = subst (λ (w : Trial A). Tries value result w) (sym same) h

-- with a function of the value
pub tries_map : {X A B : Type 0} (value : X → A) (f : A → B) (result : Result X Ended) (r : Trial A) → Tries value result r → Tries (λ x. f (value x)) result (r >>= λ y. Ok (f y))
tries_map value f (Ok x) r h = ap (λ w. w >>= λ y. Ok (f y)) h
tries_map value f (Err e) r h = ends e r (λ y. Ok (f y)) h
