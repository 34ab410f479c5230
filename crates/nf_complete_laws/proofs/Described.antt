-- Properties of an assignment, described by finitely many systems of which one must be met.
use Rattle.std.proofs.Common.{◌≡◌, ℕ, zero, suc, ◌<◌, List, [], ◌∷◌, ◌++◌, ◌⊎◌, inl, inr, ⊎_elim, Some, slice_get, sym, subst, refl, arith}
use Rattle.nf_complete_laws.proofs.Common.{none-some, same_Some, ℚ, ◌+ℚ◌, ◌-ℚ◌, ◌≤ℚ◌, reading_of, ≤ℚ_of_same, ≤ℚ_antisymm, le, eq, linear_le, Link}
use Rattle.nf_complete_laws.proofs.Common.{before_or_at, form_value, AtMost, MeetsAll, less, form_value-less, MeetsOne}
use Rattle.nf_linear_laws.proofs.Constraints.{MeetsAll-append, MeetsAll-front, MeetsAll-rest}
use Rattle.nf_complete_laws.proofs.LeastLinks.{each_of}
use Rattle.nf_complete_laws.proofs.Deciding.{Decided}
use Rattle.nf_complete_laws.proofs.ExistsDeciding.{SomeLink}
use Rattle.nf_complete_laws.proofs.Affine.{Affine}

-- ---- the union of two lists of systems, and each system of one list joined with each of the other
in_front : (systems others : List (List AtMost)) (x : ℕ → ℚ) → MeetsOne systems x → MeetsOne (systems ++ others) x
in_front [] others x h = absurd h
in_front (system ∷ systems) others x (inl h) = inl h
in_front (system ∷ systems) others x (inr h) = inr (in_front systems others x h)

in_rest : (systems others : List (List AtMost)) (x : ℕ → ℚ) → MeetsOne others x → MeetsOne (systems ++ others) x
in_rest [] others x h = h
in_rest (system ∷ systems) others x h = inr (in_rest systems others x h)

in_either : (systems others : List (List AtMost)) (x : ℕ → ℚ) → MeetsOne (systems ++ others) x → MeetsOne systems x ⊎ MeetsOne others x
in_either [] others x h = inr h
in_either (system ∷ systems) others x (inl h) = inl (inl h)
in_either (system ∷ systems) others x (inr h) = ⊎_elim (λ (k : MeetsOne systems x). inl (inr k)) (λ (k : MeetsOne others x). inr k) (in_either systems others x h)

abbrev beside : List AtMost → List (List AtMost) → List (List AtMost)
beside system [] = []
beside system (other ∷ others) = (system ++ other) ∷ beside system others

beside-in : (system : List AtMost) (others : List (List AtMost)) (x : ℕ → ℚ) → MeetsAll system x → MeetsOne others x → MeetsOne (beside system others) x
beside-in system [] x h k = absurd k
beside-in system (other ∷ others) x h (inl k) = inl (MeetsAll-append system other x h k)
beside-in system (other ∷ others) x h (inr k) = inr (beside-in system others x h k)

beside-out : (system : List AtMost) (others : List (List AtMost)) (x : ℕ → ℚ) → MeetsOne (beside system others) x → MeetsAll system x × MeetsOne others x
beside-out system [] x h = absurd h
beside-out system (other ∷ others) x (inl h) = (MeetsAll-front system other x h, inl (MeetsAll-rest system other x h))
beside-out system (other ∷ others) x (inr h) = let w : MeetsAll system x × MeetsOne others x = beside-out system others x h in (w.0, inr w.1)

abbrev crossed : List (List AtMost) → List (List AtMost) → List (List AtMost)
crossed [] others = []
crossed (system ∷ systems) others = beside system others ++ crossed systems others

crossed-in : (systems others : List (List AtMost)) (x : ℕ → ℚ) → MeetsOne systems x → MeetsOne others x → MeetsOne (crossed systems others) x
crossed-in [] others x h k = absurd h
crossed-in (system ∷ systems) others x (inl h) k = in_front (beside system others) (crossed systems others) x (beside-in system others x h k)
crossed-in (system ∷ systems) others x (inr h) k = in_rest (beside system others) (crossed systems others) x (crossed-in systems others x h k)

crossed-out : (systems others : List (List AtMost)) (x : ℕ → ℚ) → MeetsOne (crossed systems others) x → MeetsOne systems x × MeetsOne others x
crossed-out [] others x h = absurd h
crossed-out (system ∷ systems) others x h = ⊎_elim
    (λ (k : MeetsOne (beside system others) x). let w : MeetsAll system x × MeetsOne others x = beside-out system others x k in (inl w.0, w.1))
    (λ (k : MeetsOne (crossed systems others) x). let w : MeetsOne systems x × MeetsOne others x = crossed-out systems others x k in (inr w.0, w.1))
    (in_either (beside system others) (crossed systems others) x h)

-- ---- properties described by systems
pub record Described (P : (ℕ → ℚ) → Type 0) : Type 0 where
  pub systems : List (List AtMost)
  pub into : (x : ℕ → ℚ) → P x → MeetsOne systems x
  pub out : (x : ℕ → ℚ) → MeetsOne systems x → P x

pub Described-as : (P Q : (ℕ → ℚ) → Type 0) → ((x : ℕ → ℚ) → P x → Q x) → ((x : ℕ → ℚ) → Q x → P x) → Described P → Described Q
Described-as P Q f g p = record { systems = p.systems; into = λ x h. p.into x (g x h); out = λ x h. f x (p.out x h) }

pub Described-always : (P : (ℕ → ℚ) → Type 0) → ((x : ℕ → ℚ) → P x) → Described P
Described-always P f = record { systems = [] ∷ []; into = λ x h. inl tt; out = λ x h. f x }

pub Described-never : (P : (ℕ → ℚ) → Type 0) → ((x : ℕ → ℚ) → P x → ⊥) → Described P
Described-never P f = record { systems = []; into = λ x h. f x h; out = λ x h. absurd h }

pub Described-both : (P Q : (ℕ → ℚ) → Type 0) → Described P → Described Q → Described (λ x. P x × Q x)
Described-both P Q p q = record {
  systems = crossed p.systems q.systems;
  into = λ x h. crossed-in p.systems q.systems x (p.into x h.0) (q.into x h.1);
  out = λ x h. let w : MeetsOne p.systems x × MeetsOne q.systems x = crossed-out p.systems q.systems x h in (p.out x w.0, q.out x w.1);
}

pub Described-either : (P Q : (ℕ → ℚ) → Type 0) → Described P → Described Q → Described (λ x. P x ⊎ Q x)
Described-either P Q p q = record {
  systems = p.systems ++ q.systems;
  into = λ x h. ⊎_elim (λ (k : P x). in_front p.systems q.systems x (p.into x k)) (λ (k : Q x). in_rest p.systems q.systems x (q.into x k)) h;
  out = λ x h. ⊎_elim (λ (k : MeetsOne p.systems x). inl (p.out x k)) (λ (k : MeetsOne q.systems x). inr (q.out x k)) (in_either p.systems q.systems x h);
}

pub Described-when : (A : Type 0) (P : (ℕ → ℚ) → Type 0) → Decided A → (A → Described P) → Described (λ x. A → P x)
Described-when A P d f = ⊎_elim
    (λ (a : A). Described-as P (λ x. A → P x) (λ x h _. h) (λ x h. h a) (f a))
    (λ (n : A → ⊥). Described-always (λ x. A → P x) (λ x a. absurd (n a)))
    d

pub Described-decided : (A : Type 0) → Decided A → Described (λ x. A)
Described-decided A d = ⊎_elim (λ (a : A). Described-always (λ x. A) (λ x. a)) (λ (n : A → ⊥). Described-never (λ x. A) (λ x a. n a)) d

-- ---- inequalities and equations of affine numbers
there : (f g a b r s m : ℚ) → f ≡ a +ℚ r → g ≡ b +ℚ s → m ≡ a -ℚ b → f ≤ℚ g → m ≤ℚ s -ℚ r
there f g a b r s m d e h k = linear_le (f ∷ g ∷ a ∷ b ∷ r ∷ s ∷ m ∷ []) (eq d ∷ eq e ∷ eq h ∷ le k ∷ []) (search reading_of) tt

back : (f g a b r s m : ℚ) → f ≡ a +ℚ r → g ≡ b +ℚ s → m ≡ a -ℚ b → m ≤ℚ s -ℚ r → f ≤ℚ g
back f g a b r s m d e h k = linear_le (f ∷ g ∷ a ∷ b ∷ r ∷ s ∷ m ∷ []) (eq d ∷ eq e ∷ eq h ∷ le k ∷ []) (search reading_of) tt

pub Described-le : (f g : (ℕ → ℚ) → ℚ) → Affine f → Affine g → Described (λ x. f x ≤ℚ g x)
Described-le f g p q = record {
  systems = (c ∷ []) ∷ [];
  into = λ x k. inl (there (f x) (g x) (form_value p.form x) (form_value q.form x) p.rest q.rest _ (p.is x) (q.is x) (form_value-less p.form q.form x) k, tt);
  out = λ x h. ⊎_elim
      (λ (k : MeetsAll (c ∷ []) x). back (f x) (g x) (form_value p.form x) (form_value q.form x) p.rest q.rest _ (p.is x) (q.is x) (form_value-less p.form q.form x) k.0)
      (λ (k : ⊥). absurd k) h;
}
  where
    c : AtMost
    c = record { form = less p.form q.form; bound = q.rest -ℚ p.rest }

pub Described-same : (f g : (ℕ → ℚ) → ℚ) → Affine f → Affine g → Described (λ x. f x ≡ g x)
Described-same f g p q = Described-as (λ x. (f x ≤ℚ g x) × (g x ≤ℚ f x)) (λ x. f x ≡ g x)
    (λ x h. ≤ℚ_antisymm _ _ h.0 h.1) (λ x e. (≤ℚ_of_same _ _ e, ≤ℚ_of_same _ _ (sym e)))
    (Described-both (λ x. f x ≤ℚ g x) (λ x. g x ≤ℚ f x) (Described-le f g p q) (Described-le g f q p))

-- ---- a property of each number below n, of each link, or of some link
pub Described-to : (n : ℕ) (P : ℕ → (ℕ → ℚ) → Type 0) → ((k : ℕ) → k < n → Described (P k)) → Described (λ x. (k : ℕ) → k < n → P k x)
Described-to zero P s = Described-always (λ x. (k : ℕ) → k < 0 → P k x) (λ x k l. absurd (omega arith))
Described-to (suc n) P s = Described-as (λ x. ((k : ℕ) → k < n → P k x) × P n x) (λ x. (k : ℕ) → k < suc n → P k x)
    (λ x w k l. ⊎_elim (λ (b : k < n). w.0 k b) (λ (e : k ≡ n). subst (λ (j : ℕ). P j x) (sym e) w.1) (before_or_at k n (omega arith)))
    (λ x f. ((λ k l. f k (omega arith)), f n (omega arith)))
    (Described-both (λ x. (k : ℕ) → k < n → P k x) (P n) (Described-to n P (λ k l. s k (omega arith))) (s n (omega arith)))

abbrev pub EachLink : List Link → (ℕ → Link → (ℕ → ℚ) → Type 0) → (ℕ → ℚ) → Type 0
EachLink links P x = (e : ℕ) (link : Link) → slice_get links e ≡ Some link → P e link x

pub Described-links : (links : List Link) (P : ℕ → Link → (ℕ → ℚ) → Type 0) → ((e : ℕ) (link : Link) → Described (P e link)) → Described (EachLink links P)
Described-links [] P s = Described-always (EachLink [] P) (λ x e link p. absurd (none-some link p))
Described-links (l ∷ links) P s = Described-as (λ x. P 0 l x × EachLink links (λ e link. P (suc e) link) x) (EachLink (l ∷ links) P)
    (λ x w. each_of (λ e link. P e link x) l links w.0 w.1) (λ x f. (f 0 l refl, λ e link p. f (suc e) link p))
    (Described-both (P 0 l) (EachLink links (λ e link. P (suc e) link)) (s 0 l) (Described-links links (λ e link. P (suc e) link) (λ e link. s (suc e) link)))

pub Described-some : (links : List Link) (P : ℕ → Link → (ℕ → ℚ) → Type 0) → ((e : ℕ) (link : Link) → Described (P e link))
    → Described (λ x. SomeLink links (λ e link. P e link x))
Described-some [] P s = Described-never (λ x. SomeLink [] (λ e link. P e link x)) (λ x w. none-some w.1 w.2)
Described-some (l ∷ links) P s = Described-as (λ x. P 0 l x ⊎ SomeLink links (λ e link. P (suc e) link x)) (λ x. SomeLink (l ∷ links) (λ e link. P e link x))
    (λ x h. ⊎_elim (λ (k : P 0 l x). (0, l, refl, k)) (λ (w : SomeLink links (λ e link. P (suc e) link x)). (suc w.0, w.1, w.2, w.3)) h)
    (λ x w. by_place x w.0 w.1 w.2 w.3)
    (Described-either (P 0 l) (λ x. SomeLink links (λ e link. P (suc e) link x)) (s 0 l) (Described-some links (λ e link. P (suc e) link) (λ e link. s (suc e) link)))
  where
    by_place : (x : ℕ → ℚ) (e : ℕ) (link : Link) → slice_get (l ∷ links) e ≡ Some link → P e link x → P 0 l x ⊎ SomeLink links (λ e link. P (suc e) link x)
    by_place x zero link p k = inl (subst (λ (j : Link). P 0 j x) (sym (same_Some l link p)) k)
    by_place x (suc e) link p k = inr (e, link, p, k)
