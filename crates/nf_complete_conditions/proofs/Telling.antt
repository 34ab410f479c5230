-- A loop over a list that tests each entry after a computation for it.
use Rattle.std.proofs.Common.{◌≡◌, ℕ, zero, suc, ◌+◌, ◌<◌, ◌≤◌, List, [], ◌∷◌, length, ⊎_elim, Bool, ◌&&◌, sym, ap, subst, refl, ◌∙◌, arith, Some}
use Rattle.std.proofs.Common.{slice_get, Result, Ok, Err, IsOk, MatchBool}
use Rattle.nf_complete_conditions.proofs.Common.{enumerate_from, range_with_len, none-some, same_Some, slice_get_within, ℚ, Verdict, Passed, PassedAt}
use Rattle.nf_complete_conditions.proofs.Common.{Checked, each, at_part, placed, ◌>>=◌, before_or_at, same_Err, slice_get-below, enumerated, AnswersWhether}
use Rattle.nf_complete_conditions.proofs.Deciding.{says_like, says_both}

-- ---- one computation
pub tells_like : {A P Q : Type 0} (list : Checked A) (result : Result Bool (PassedAt ℚ)) → (P → Q) → (Q → P) → AnswersWhether P list result → AnswersWhether Q list result
tells_like list (Ok b) f g t = (t.0, says_like b f g t.1)
tells_like list (Err at) f g t = t

ok_of : {A : Type 0} (list : Checked A) (x : A) → Ok x ≡ at_part Verdict list → (list ≡ Ok x) × IsOk list
ok_of (Ok y) x e = (ap Ok (sym (same x y e)), refl)
  where
    same : {A : Type 0} (x y : A) → ◌≡◌ {A = Result A (PassedAt ℚ)} (Ok x) (Ok y) → x ≡ y
    same x y e = cc
ok_of (Err p) x e = absurd (cc)

pub is_ok_of : {A : Type 0} (list : Checked A) (x : A) → Ok x ≡ at_part Verdict list → IsOk list
is_ok_of list x e = (ok_of list x e).1

pub value_of : {A : Type 0} (list : Checked A) (x : A) → Ok x ≡ at_part Verdict list → list ≡ Ok x
value_of list x e = (ok_of list x e).0

-- an operation that passes first, passes in the whole
pub first_passes : {A B : Type 0} (r : Checked A) (f : A → Checked B) (p : PassedAt ℚ) → at_part Verdict r ≡ Err p → at_part Verdict (r >>= f) ≡ Err p
first_passes (Ok x) f p e = absurd (cc)
first_passes {A = A} {B = B} (Err q) f p e = ap Err (same_Err {A = A} (placed Verdict q) p e)

pub then_passes : {A B : Type 0} (r : Checked A) (x : A) (f : A → Checked B) (p : PassedAt ℚ) → r ≡ Ok x → at_part Verdict (f x) ≡ Err p → at_part Verdict (r >>= f) ≡ Err p
then_passes r x f p e h = ap (λ (w : _). at_part Verdict (w >>= f)) e ∙ h

-- ---- many
module _ {A B : Type 0} (f : A → Checked B) where
  each_err_first : (xs : List A) (i : ℕ) (x : A) (p : Passed ℚ) → slice_get xs i ≡ Some x → f x ≡ Err p
      → ((k : ℕ) (y : A) → k < i → slice_get xs k ≡ Some y → IsOk (f y)) → each f xs ≡ Err p
  each_err_first [] i x p at e before = absurd (none-some x at)
  each_err_first (y ∷ xs) zero x p at e before = ap (λ (r : Checked B). r >>= λ z. each f xs >>= λ zs. Ok (z ∷ zs)) (ap f (same_Some y x at) ∙ e)
  each_err_first (y ∷ xs) (suc i) x p at e before = go (f y) refl (before 0 y (omega arith) refl) (each_err_first xs i x p at e (λ k w l s. before (suc k) w (omega arith) s))
    where
      go : (r : Checked B) → f y ≡ r → IsOk r → each f xs ≡ Err p → each f (y ∷ xs) ≡ Err p
      go (Ok z) h ok rest = ap (λ (r : Checked B). r >>= λ z. each f xs >>= λ zs. Ok (z ∷ zs)) h ∙ ap (λ (r : Checked (List B)). r >>= λ zs. Ok (z ∷ zs)) rest
      go (Err q) h ok rest = absurd (cc)

  each_ok_all : (xs : List A) → ((k : ℕ) (y : A) → slice_get xs k ≡ Some y → IsOk (f y)) → IsOk (each f xs)
  each_ok_all [] all = refl
  each_ok_all (y ∷ xs) all = go (f y) (each f xs) (all 0 y refl) (each_ok_all xs (λ k w s. all (suc k) w s))
    where
      go : (r : Checked B) (rest : Checked (List B)) → IsOk r → IsOk rest → IsOk (r >>= λ z. rest >>= λ zs. Ok (z ∷ zs))
      go (Ok z) (Ok zs) h k = refl
      go (Ok z) (Err q) h k = absurd (cc)
      go (Err q) rest h k = absurd (cc)

  module _ (Holds : A → Type 0) (xs : List A) where
    -- the property holds for each entry so far, or not
    abbrev pub Below : ℕ → Type 0
    Below n = (k : ℕ) (x : A) → k < n → slice_get xs k ≡ Some x → Holds x

    -- no operation of those entries passes, and the answer is about them
    pub record ToldBelow (n : ℕ) (answer : Bool) : Type 0 where
      pub none_passes : (k : ℕ) (x : A) → k < n → slice_get xs k ≡ Some x → IsOk (f x)
      pub says : MatchBool answer (Below n) (Below n → ⊥)

    module _ (n : ℕ) (x : A) (at : slice_get xs n ≡ Some x) (answer : Bool) (so : ToldBelow n answer) where
      here : (P : A → Type 0) → P x → (y : A) (k : ℕ) → k ≡ n → slice_get xs k ≡ Some y → P y
      here P h y k e s = subst P (same_Some x y (sym at ∙ (subst (λ (j : ℕ). slice_get xs j ≡ Some y) e s))) h

      more : (P : A → Type 0) → ((k : ℕ) (y : A) → k < n → slice_get xs k ≡ Some y → P y) → P x → (k : ℕ) (y : A) → k < n + 1 → slice_get xs k ≡ Some y → P y
      more P before h k y less s = ⊎_elim (λ (l : k < n). before k y l s) (λ (e : k ≡ n). here P h y k e s) (before_or_at k n less)

      less : {k : ℕ} → k < n → k < n + 1
      less h = omega arith

      pub told_more : (next : Bool) → AnswersWhether (Holds x) (f x) (Ok next) → ToldBelow (n + 1) (answer && next)
      told_more next t = record {
        none_passes = more (λ y. IsOk (f y)) so.none_passes t.0;
        says = says_like (answer && next)
            (λ (w : Below n × Holds x). more Holds w.0 w.1)
            (λ (w : Below (n + 1)). (λ k y h s. w k y (less h) s, w n x (omega arith) at))
            (says_both (Below n) (Holds x) answer next so.says t.1);
      }

      pub told_stops : (p : PassedAt ℚ) → at_part Verdict (f x) ≡ Err p → at_part Verdict (each f xs) ≡ Err p
      told_stops p e = go (f x) refl e
        where
          go : (r : Checked B) → f x ≡ r → at_part Verdict r ≡ Err p → at_part Verdict (each f xs) ≡ Err p
          go (Ok y) h k = absurd (cc)
          go (Err q) h k = ap (at_part Verdict) (each_err_first xs n x q at h so.none_passes) ∙ ap Err (same_Err {A = B} (placed Verdict q) p k)

    pub told_all : (n : ℕ) (answer : Bool) → length xs ≤ n → ToldBelow n answer → AnswersWhether ((k : ℕ) (x : A) → slice_get xs k ≡ Some x → Holds x) (each f xs) (Ok answer)
    told_all n answer end so = (
      each_ok_all xs (λ k y s. so.none_passes k y (within k y s) s),
      says_like answer (λ (w : Below n). λ k y s. w k y (within k y s) s) (λ (w : (k : ℕ) (x : A) → slice_get xs k ≡ Some x → Holds x). λ k y h s. w k y s) so.says,
    )
      where
        within : (k : ℕ) (y : A) → slice_get xs k ≡ Some y → k < n
        within k y s = let w = slice_get_within xs k y s in omega arith

-- ---- the entries of a range
pub in_range : (a n k v : ℕ) → slice_get (range_with_len a n) k ≡ Some v → (k < n) × (v ≡ a + k)
in_range a zero k v h = absurd (none-some v h)
in_range a (suc n) zero v h = (omega arith, let e : a ≡ v = same_Some a v h in omega arith)
in_range a (suc n) (suc k) v h = let r = in_range (a + 1) n k v h in (omega arith, omega arith)

-- the entries of a numbered list
pub in_numbered : {A : Type 0} (a : ℕ) (xs : List A) (k : ℕ) (p : ℕ × A) → slice_get (enumerate_from a xs) k ≡ Some p → (p.0 ≡ a + k) × (slice_get xs k ≡ Some p.1)
in_numbered a [] k p h = absurd (none-some p h)
in_numbered {A = A} a (y ∷ xs) zero p h = let e = same_Some (a, y) p h in (let n : a ≡ p.0 = ap (λ (q : ℕ × A). q.0) e in omega arith, ap (λ (q : ℕ × A). Some q.1) e)
in_numbered a (y ∷ xs) (suc k) p h = let r = in_numbered (a + 1) xs k p h in (let n = r.0 in omega arith, r.1)

pub link_at : {A : Type 0} (xs : List A) (k : ℕ) (x : A) → slice_get xs k ≡ Some x → slice_get (enumerate_from 0 xs) k ≡ Some (k, x)
link_at {A = A} xs k x h = enumerated 0 xs k x h ∙ ap (λ (j : ℕ). Some (j, x)) (let z : 0 + k ≡ k = omega arith in z)

pub each_node : (P : ℕ → Type 0) (n : ℕ) → ((k v : ℕ) → slice_get (range_with_len 0 n) k ≡ Some v → P v) → (v : ℕ) → v < n → P v
each_node P n f v h = f v v (slice_get-below n v h)

pub node_each : (P : ℕ → Type 0) (n : ℕ) → ((v : ℕ) → v < n → P v) → (k v : ℕ) → slice_get (range_with_len 0 n) k ≡ Some v → P v
node_each P n f k v s = let r = in_range 0 n k v s in f v (omega arith)

pub each_link : {A : Type 0} (P : ℕ → A → Type 0) (xs : List A) → ((k : ℕ) (p : ℕ × A) → slice_get (enumerate_from 0 xs) k ≡ Some p → P p.0 p.1)
    → (e : ℕ) (x : A) → slice_get xs e ≡ Some x → P e x
each_link P xs f e x h = f e (e, x) (link_at xs e x h)

pub link_each : {A : Type 0} (P : ℕ → A → Type 0) (xs : List A) → ((e : ℕ) (x : A) → slice_get xs e ≡ Some x → P e x) → (k : ℕ) (p : ℕ × A)
    → slice_get (enumerate_from 0 xs) k ≡ Some p → P p.0 p.1
link_each {A = A} P xs f k p s = let r = in_numbered 0 xs k p s in f p.0 p.1 (subst (λ (j : ℕ). slice_get xs j ≡ Some p.1) (let n = r.0 in let e : k ≡ p.0 = omega arith in e) r.1)
