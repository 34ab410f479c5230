-- Results, options and truth values that are equal, or can't be.
use Rattle.std.proofs.Common.{◌≡◌, ◌⊎◌, inl, inr, Bool, true, false, not, ◌||◌, refl, Result, Ok, Err, Option, Some, None, IsOk, is_none}

pub same_Ok : {A E : Type 0} (x y : A) → ◌≡◌ {A = Result A E} (Ok x) (Ok y) → x ≡ y
same_Ok x y e = cc

pub same_Err : {A E : Type 0} (x y : E) → ◌≡◌ {A = Result A E} (Err x) (Err y) → x ≡ y
same_Err x y e = cc

pub not_both : (b : Bool) → b ≡ true → b ≡ false → ⊥
not_both b e f = absurd (cc)

pub one_Err : {A E : Type 0} (r : Result A E) (d e : E) → r ≡ Err d → r ≡ Err e → d ≡ e
one_Err r d e h k = cc

pub Ok_not_Err : {A E : Type 0} (r : Result A E) (x : A) (e : E) → r ≡ Ok x → r ≡ Err e → ⊥
Ok_not_Err r x e h k = absurd (cc)

pub true_or_false : (b : Bool) → (b ≡ true) ⊎ (b ≡ false)
true_or_false true = inl refl
true_or_false false = inr refl

pub or_rest : (a b : Bool) → a ≡ false → (a || b) ≡ true → b ≡ true
or_rest true b e h = absurd (cc)
or_rest false b e h = h

pub not_or : (a b : Bool) → a ≡ false → (not a || b) ≡ true
not_or true b h = absurd (cc)
not_or false b h = refl

pub IsOk-not_Err : {A E : Type 0} (r : Result A E) (e : E) → IsOk r → r ≡ Err e → ⊥
IsOk-not_Err (Ok x) e h k = cc
IsOk-not_Err (Err d) e h k = cc

pub Some_not_None : {A : Type 0} (o : Option A) (x : A) → o ≡ Some x → o ≡ None → ⊥
Some_not_None o x h k = cc

pub None_of_test : {A : Type 0} (o : Option A) → is_none o ≡ true → o ≡ None
None_of_test None e = refl
None_of_test (Some x) e = absurd (cc)
