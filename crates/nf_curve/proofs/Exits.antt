-- Results of a computation after its first part ended: its value, or the operation that passes.
use Rattle.std.proofs.Common.{◌≡◌, List, [], ◌∷◌, ◌++◌, refl, sym, ap, ◌∙◌, append-nil, append_assoc, Result, Ok, Err, IfOk}
use Rattle.nf_curve.proofs.Common.{ℚ, Part, Passed, PassedAt, at_part, each, Stops, ◌>>=◌, with_front, each_ok, each_err}
use Rattle.std.specs.Result.{is_ok}
use Rattle.std.proofs.lemmas.Bool.{true≢false, false≢true}
use Rattle.nf_frac_def.specs.declared.Halt.{Halt}

ok_same : {A E : Type 0} {x y : A} → ◌≡◌ {A = Result A E} (Ok x) (Ok y) → x ≡ y
ok_same e = cc

err_same : {A E : Type 0} {p q : E} → ◌≡◌ {A = Result A E} (Err p) (Err q) → p ≡ q
err_same e = cc

pub after_err : {A B : Type 0} (part : Part) (r : Result A (Passed ℚ)) (f : A → Result B (Passed ℚ)) (p : PassedAt ℚ) → at_part part r ≡ Err p → at_part part (r >>= f) ≡ Err p
after_err part (Ok x) f p e = absurd (true≢false (ap is_ok e))
after_err part (Err q) f p e = ap Err (err_same e)

pub was_ok : {A : Type 0} (part : Part) (r : Result A (Passed ℚ)) (x : A) → at_part part r ≡ Ok x → r ≡ Ok x
was_ok part (Ok y) x e = ap Ok (ok_same e)
was_ok part (Err q) x e = absurd (false≢true (ap is_ok e))

pub after_ok : {A B : Type 0} (part : Part) (r : Result A (Passed ℚ)) (f : A → Result B (Passed ℚ)) (x : A) → at_part part r ≡ Ok x → at_part part (r >>= f) ≡ at_part part (f x)
after_ok part r f x e = ap (λ s. at_part part (s >>= f)) (was_ok part r x e)

-- ---- a loop over a list, each of whose steps is a computation: what is there so far, before what the rest gives
module _ {A B : Type 0} (part : Part) (f : A → Result B (Passed ℚ)) (front : List B) (all : Result (List B) (Passed ℚ)) (x : A) (rest : List A)
    (so_far : with_front front (each f (x ∷ rest)) ≡ all) where
  pub each_goes : (y : B) → at_part part (f x) ≡ Ok y → with_front (front ++ y ∷ []) (each f rest) ≡ all
  each_goes y e = sym (each_ok f front x rest y (was_ok part (f x) y e)) ∙ so_far

  pub each_stops : (p : PassedAt ℚ) → at_part part (f x) ≡ Err p → at_part part all ≡ Err p
  each_stops p e = ap (at_part part) (sym so_far) ∙ stop (f x) refl e
    where
      stop : (r : Result B (Passed ℚ)) → f x ≡ r → at_part part r ≡ Err p → at_part part (with_front front (each f (x ∷ rest))) ≡ Err p
      stop (Ok y) d i = absurd (true≢false (ap is_ok i))
      stop (Err q) d i = ap (at_part part) (each_err f front x rest q d) ∙ ap Err (err_same i)

pub each_ends : {A B : Type 0} (f : A → Result B (Passed ℚ)) (front : List B) (all : Result (List B) (Passed ℚ)) (part : Part)
    → with_front front (each f []) ≡ all → at_part part all ≡ Ok front
each_ends f front all part e = ap (at_part part) (sym e) ∙ ap Ok (append-nil front)

-- what holds of a computation's value holds of what is returned
pub if_ok : {A : Type 0} (part : Part) (r : Result A (PassedAt ℚ)) (s : Result A (Passed ℚ)) (P : A → Type 0) → r ≡ at_part part s → ((y : A) → s ≡ Ok y → P y) → IfOk r P
if_ok part (Ok y) s P e f = f y (was_ok part s y (sym e))
if_ok part (Err p) s P e f = tt

-- ---- a last step that can't pass
pub err_before : {A B : Type 0} (part : Part) (r : Result A (Passed ℚ)) (h : A → B) (p : PassedAt ℚ) → at_part part (r >>= λ x. Ok (h x)) ≡ Err p → at_part part r ≡ Err p
err_before part (Ok x) h p e = absurd (true≢false (ap is_ok e))
err_before part (Err q) h p e = ap Err (err_same e)

pub ok_before : {A B : Type 0} (part : Part) (r : Result A (Passed ℚ)) (h : A → B) (y : B) → at_part part (r >>= λ x. Ok (h x)) ≡ Ok y → (x : A) × (r ≡ Ok x) × (h x ≡ y)
ok_before part (Ok x) h y e = (x, refl, ok_same e)
ok_before part (Err q) h y e = absurd (false≢true (ap is_ok e))

-- ---- what is there so far, before what the rest gives
pub front_none : {B : Type 0} (r : Result (List B) (Passed ℚ)) → with_front [] r ≡ r
front_none (Ok ys) = refl
front_none (Err q) = refl

pub front_err : {B : Type 0} (part : Part) (front : List B) (r : Result (List B) (Passed ℚ)) (p : PassedAt ℚ) → at_part part r ≡ Err p → at_part part (with_front front r) ≡ Err p
front_err part front (Ok ys) p e = absurd (true≢false (ap is_ok e))
front_err part front (Err q) p e = ap Err (err_same e)

pub front_more : {B : Type 0} (front more : List B) (r : Result (List B) (Passed ℚ)) → with_front front (r >>= λ ys. Ok (more ++ ys)) ≡ with_front (front ++ more) r
front_more front more (Ok ys) = ap Ok (sym (append_assoc front more ys))
front_more front more (Err q) = refl

pub front_ends : {B : Type 0} (part : Part) (front : List B) (all : Result (List B) (Passed ℚ)) → with_front front (Ok []) ≡ all → at_part part all ≡ Ok front
front_ends part front all e = ap (at_part part) (sym e) ∙ ap Ok (append-nil front)

-- ---- where a step ends, so does the whole
pub stops_on : {A B : Type 0} (h : Halt ℚ) (said : Result A (PassedAt ℚ)) (all : Result B (PassedAt ℚ)) → ((p : PassedAt ℚ) → said ≡ Err p → all ≡ Err p)
    → Stops (λ (q : ℚ). q) h said → Stops (λ (q : ℚ). q) h all
stops_on (Halt.Passed p) said all f s = f _ s
stops_on Halt.Memory said all f s = tt
