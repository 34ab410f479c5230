-- Consequences of a successful test or step, and conditions for success.
use Rattle.std.proofs.Common.{◌≡◌, ℕ, List, [], ◌∷◌, Bool, true, false, if◌then◌else◌, Option, Some, None, Result, Ok, Err, refl, ap, ◌∙◌, bytes_eq}
use Rattle.nf_report_laws.proofs.Common.{AllByRecursion, ◌>>=◌, same_names, ReportRule, or_rule, first_named, same_Ok}
use Rattle.nf_frac_def.proofs.Binding.{bind_ok}

pub no_err : {A E : Type 0} (broken : E) (y : A) → Err broken ≡ Ok y → ⊥
no_err broken y e = absurd (cc)

-- a test after which only one way is Ok
pub where_true : {A E : Type 0} (b : Bool) (broken : E) (r : Result A E) (y : A) → (if b then r else Err broken) ≡ Ok y → (b ≡ true) × (r ≡ Ok y)
where_true true broken r y e = (refl, e)
where_true false broken r y e = absurd (no_err broken y e)

pub where_false : {A E : Type 0} (b : Bool) (broken : E) (r : Result A E) (y : A) → (if b then Err broken else r) ≡ Ok y → (b ≡ false) × (r ≡ Ok y)
where_false true broken r y e = absurd (no_err broken y e)
where_false false broken r y e = (refl, e)

-- a step and then another
pub record Both {A B E : Type 0} (r : Result A E) (f : A → Result B E) (y : B) : Type 0 where
  pub between : A
  pub first : r ≡ Ok between
  pub next : f between ≡ Ok y

pub both_ok : {A B E : Type 0} (r : Result A E) (f : A → Result B E) (y : B) → (r >>= f) ≡ Ok y → Both r f y
both_ok r f y e = let w = bind_ok r f y e in record { between = w.0; first = w.1; next = w.2 }

pub or_ok : {A : Type 0} (rule : ReportRule) (o : Option A) (y : A) → or_rule rule o ≡ Ok y → o ≡ Some y
or_ok rule None y e = absurd (no_err rule y e)
or_ok rule (Some x) y e = ap (λ x. Some x) (same_Ok x y e)

-- the first that is named so has this word
pub named_is : {A : Type 0} (word_of : A → List ℕ) (word : List ℕ) (all : List (List ℕ × A)) (x : A) → AllByRecursion (λ (named : List ℕ × A). named.0 ≡ word_of named.1) all
    → first_named word all ≡ Some x → word ≡ word_of x
named_is word_of word [] x h e = absurd (cc)
named_is {A = A} word_of word (named ∷ rest) x h e = go (bytes_eq word named.0) refl e (named_is word_of word rest x h.1)
  where
    some : (y : A) → ◌≡◌ {A = Option A} (Some y) (Some x) → y ≡ x
    some y f = cc

    go : (b : Bool) → bytes_eq word named.0 ≡ b → (if b then Some named.1 else first_named word rest) ≡ Some x → (first_named word rest ≡ Some x → word ≡ word_of x) → word ≡ word_of x
    go true k f later = same_names word named.0 k ∙ h.0 ∙ ap word_of (some named.1 f)
    go false k f later = later f
