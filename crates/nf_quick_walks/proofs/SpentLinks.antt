-- Spent links stay spent while walks are removed.
use Rattle.std.proofs.Common.{◌≡◌, ◌≢◌, ℕ, zero, suc, ◌+◌, ◌<◌, ◌≤◌, ◌==◌, ◌&&◌, ◌⊎◌, inl, inr, ⊎_elim, Bool, true, false, if◌then◌else◌, List, [], ◌∷◌}
use Rattle.std.proofs.Common.{◌++◌, length, set, replicate, get_or, Option, Some, None, slice_get, unwrap_or, refl, sym, ap, subst, ◌∙◌, add-one, arith, Ok}
use Rattle.nf_quick_walks.proofs.Common.{drop_all, slice_get_cases, same_Some, ℚ, 0ℚ, lt_ℚ, Passing, Difference, checked, fold_checked, at_part, same_Ok}
use Rattle.nf_quick_walks.proofs.Common.{not_both, number_at, Link, first_out, take_link, take_list, ok_of_part, is_out, IsSpent, AreSpent, HaveFlow}
use Rattle.std.proofs.lemmas.Bool.{and_parts}
use Rattle.nf_frac_def.specs.declared.Part.TheVariants as Part
use Rattle.nf_frac_def.proofs.Binding.{bind_ok}
use Rattle.nf_quick_walks.proofs.WalkByWalk.{LooksOn, looks_first, looks_more}

-- ---- the search continues after the spent links
pub looks_from : (links : List Link) (v : ℕ) (flows : List ℚ) (n : ℕ) → IsSpent links flows v n → LooksOn links v flows n
looks_from links v flows zero h = looks_first links v flows
looks_from links v flows (suc n) h =
    one_more (looks_from links v flows n (λ k link l e. h k link (omega arith) e)) (slice_get_cases links n).1
  where
    one_more : LooksOn links v flows n → ((x : Link) × (n < length links) × (slice_get links n ≡ Some x) × (get_or links n x ≡ x)) ⊎ ((length links ≤ n)
        × (slice_get links n ≡ None)) → LooksOn links v flows (suc n)
    one_more on (inl w) = subst (λ (m : ℕ). LooksOn links v flows m) (add-one n) (looks_more links v flows n on w.0 w.2 (h n w.0 (omega arith) w.2))
    one_more on (inr w) =
        let past : length links ≤ n = w.0 in
        let further : length links ≤ suc n = omega arith in
        record {
          same = ap (λ (l : List Link). first_out (suc n) l v flows) (drop_all (suc n) links further)
              ∙ sym (ap (λ (l : List Link). first_out n l v flows) (drop_all n links past)) ∙ on.same;
        }

-- ---- the links before the first one with flow are spent
abbrev head_or : Bool → ℕ → List Link → ℕ → List ℚ → Option ℕ
head_or t e links v flows = if t then Some e else first_out (suc e) links v flows

here_only : (e k n : ℕ) → e + k < n → n ≡ e → ⊥
here_only e k n h f = omega arith

spent_before : (e : ℕ) (links : List Link) (v : ℕ) (flows : List ℚ) (o : Option ℕ) → first_out e links v flows ≡ o → (k : ℕ) (link : Link) → slice_get links k ≡ Some link
    → e + k < unwrap_or o (e + length links) → is_out link v (number_at flows (e + k)) ≡ false
spent_before e [] v flows o f k link is h = absurd (cc)
spent_before e (x ∷ links) v flows o f k link is h = by_test (is_out x v (number_at flows e)) refl k is h (λ j i g s. spent_before (suc e) links v flows o s j link i g)
  where
    same_link : (x y : Link) → Some x ≡ Some y → x ≡ y
    same_link x y e = cc

    by_test : (t : Bool) → is_out x v (number_at flows e) ≡ t → (k : ℕ) → slice_get (x ∷ links) k ≡ Some link → e + k < unwrap_or o (e + length (x ∷ links))
        → ((j : ℕ) → slice_get links j ≡ Some link → suc e + j < unwrap_or o (suc e + length links) → first_out (suc e) links v flows ≡ o
        → is_out link v (number_at flows (suc e + j)) ≡ false)
        → is_out link v (number_at flows (e + k)) ≡ false
    by_test true t k is h rest = absurd (here_only e k (unwrap_or o (e + length (x ∷ links))) h
        (ap (λ (p : Option ℕ). unwrap_or p (e + length (x ∷ links))) (sym f ∙ ap (λ (b : Bool). head_or b e links v flows) t)))
    by_test false t zero is h rest =
        let at : e + 0 ≡ e = omega arith in
        ap (λ (i : ℕ). is_out link v (number_at flows i)) at ∙ ap (λ (l : Link). is_out l v (number_at flows e)) (sym (same_link x link is)) ∙ t
    by_test false t (suc k) is h rest =
        let at : e + suc k ≡ suc e + k = omega arith in
        let long : e + length (x ∷ links) ≡ suc e + length links = omega arith in
        ap (λ (i : ℕ). is_out link v (number_at flows i)) at
        ∙ rest k is (subst (λ (m : ℕ). suc e + k < unwrap_or o m) long (subst (λ (i : ℕ). i < unwrap_or o (e + length (x ∷ links))) at h))
        (sym (ap (λ (b : Bool). head_or b e links v flows) t) ∙ f)

pub spent_up_to : (links : List Link) (v : ℕ) (flows : List ℚ) (o : Option ℕ) (n : ℕ) → o ≡ first_out 0 links v flows → n ≡ unwrap_or o (length links) → IsSpent links flows v n
spent_up_to links v flows o n f e k link h is =
    let all : 0 + length links ≡ length links = omega arith in
    let at : 0 + k ≡ k = omega arith in
    ap (λ (i : ℕ). is_out link v (number_at flows i)) (sym at)
    ∙ spent_before 0 links v flows o (sym f) k link is (subst (λ (i : ℕ). i < unwrap_or o (0 + length links)) (sym at)
    (subst (λ (m : ℕ). k < unwrap_or o m) (sym all) (subst (λ (m : ℕ). k < m) e h)))

-- The first link found has flow.
pub out_has_flow : (e : ℕ) (links : List Link) (v : ℕ) (flows : List ℚ) (n : ℕ) → first_out e links v flows ≡ Some n → lt_ℚ 0ℚ (number_at flows n) ≡ true
out_has_flow e [] v flows n f = absurd (cc)
out_has_flow e (x ∷ links) v flows n f = by_test (is_out x v (number_at flows e)) refl (λ g. out_has_flow (suc e) links v flows n g)
  where
    by_test : (t : Bool) → is_out x v (number_at flows e) ≡ t → (first_out (suc e) links v flows ≡ Some n → lt_ℚ 0ℚ (number_at flows n) ≡ true) → lt_ℚ 0ℚ (number_at flows n) ≡ true
    by_test true t rest = subst (λ (i : ℕ). lt_ℚ 0ℚ (number_at flows i) ≡ true) (same_Some e n (sym (ap (λ (b : Bool). head_or b e links v flows) t) ∙ f))
        (and_parts (x.tail == v) (lt_ℚ 0ℚ (number_at flows e)) t).1
    by_test false t rest = rest (sym (ap (λ (b : Bool). head_or b e links v flows) t) ∙ f)

-- ---- an entry that is written
set_cases : (xs : List ℕ) (i x v n : ℕ) → slice_get (set xs i x) v ≡ Some n → ((v ≡ i) × (n ≡ x)) ⊎ (slice_get xs v ≡ Some n)
set_cases [] i x v n e = absurd (cc)
set_cases (y ∷ xs) zero x zero n e = inl (refl, sym (same_Some x n e))
set_cases (y ∷ xs) zero x (suc v) n e = inr e
set_cases (y ∷ xs) (suc i) x zero n e = inr e
set_cases (y ∷ xs) (suc i) x (suc v) n e = ⊎_elim (λ (w : (v ≡ i) × (n ≡ x)). inl (ap suc w.0, w.1)) (λ w. inr w) (set_cases xs i x v n e)

pub spent_more : (links : List Link) (flows : List ℚ) (spent next : List ℕ) (v n : ℕ) → AreSpent links flows spent → IsSpent links flows v n
    → next ≡ set spent v n → AreSpent links flows next
spent_more links flows spent next v n all one made u m e = ⊎_elim
    (λ (w : (u ≡ v) × (m ≡ n)). subst (λ (i : ℕ). IsSpent links flows i m) (sym w.0) (subst (λ (i : ℕ). IsSpent links flows v i) (sym w.1) one))
    (λ (w : slice_get spent u ≡ Some m). all u m w)
    (set_cases spent v n u m (ap (λ (l : List ℕ). slice_get l u) (sym made) ∙ e))

pub spent_first : (links : List Link) (flows : List ℚ) (spent : List ℕ) (nodes : ℕ) → spent ≡ replicate nodes 0 → AreSpent links flows spent
spent_first links flows spent nodes made v n e k link h is = let none : n ≡ 0 = only nodes v n (ap (λ (l : List ℕ). slice_get l v) (sym made) ∙ e) in absurd (omega arith)
  where
    only : (m v n : ℕ) → slice_get (replicate m 0) v ≡ Some n → n ≡ 0
    only zero v n e = absurd (cc)
    only (suc m) zero n e = sym (same_Some 0 n e)
    only (suc m) (suc v) n e = only m v n e

-- ---- removing a walk leaves spent links spent
number_elsewhere : (xs : List ℚ) (i k : ℕ) (x : ℚ) → k ≢ i → number_at (set xs i x) k ≡ number_at xs k
number_elsewhere [] i k x h = refl
number_elsewhere (y ∷ xs) zero zero x h = absurd (h refl)
number_elsewhere (y ∷ xs) zero (suc k) x h = refl
number_elsewhere (y ∷ xs) (suc i) zero x h = refl
number_elsewhere (y ∷ xs) (suc i) (suc k) x h = number_elsewhere xs i k x (λ e. h (ap suc e))

module _ (passes : Passing) (rate : ℚ) (flows : List ℚ) (k : ℕ) (spent : lt_ℚ 0ℚ (number_at flows k) ≡ false) where
  taken_elsewhere : (way : List ℕ) (so_far new : List ℚ) → HaveFlow flows way → fold_checked (take_link passes rate) so_far way ≡ Ok new → number_at new k ≡ number_at so_far k
  taken_elsewhere [] so_far new h e = ap (λ (l : List ℚ). number_at l k) (sym (same_Ok so_far new e))
  taken_elsewhere (i ∷ way) so_far new h e =
      let first = bind_ok (take_link passes rate so_far i) (λ next. fold_checked (take_link passes rate) next way) new e in
      let left = bind_ok (checked passes Difference (number_at so_far i) rate) (λ left. Ok (set so_far i left)) first.0 first.1 in
      taken_elsewhere way first.0 new h.1 first.2
      ∙ ap (λ (l : List ℚ). number_at l k) (sym (same_Ok (set so_far i left.0) first.0 left.2))
      ∙ number_elsewhere so_far i k left.0 (λ same. not_both (lt_ℚ 0ℚ (number_at flows k)) (ap (λ (j : ℕ). lt_ℚ 0ℚ (number_at flows j)) same ∙ h.0) spent)

pub spent_still : (passes : Passing) (rate : ℚ) (links : List Link) (flows new : List ℚ) (way spent : List ℕ) → HaveFlow flows way
    → Ok new ≡ at_part Part.Quick (take_list passes rate way flows) → AreSpent links flows spent → AreSpent links new spent
spent_still passes rate links flows new way spent h e all v n at k link l is = by_flow (lt_ℚ 0ℚ (number_at flows k)) refl
  where
    was : is_out link v (number_at flows k) ≡ false
    was = all v n at k link l is

    no_tail : (a b : Bool) → (a && b) ≡ false → b ≡ true → (c : Bool) → (a && c) ≡ false
    no_tail true true e f c = absurd (not_both true refl e)
    no_tail true false e f c = absurd (not_both false f refl)
    no_tail false b e f c = refl

    by_flow : (t : Bool) → lt_ℚ 0ℚ (number_at flows k) ≡ t → is_out link v (number_at new k) ≡ false
    by_flow true t = no_tail (link.tail == v) (lt_ℚ 0ℚ (number_at flows k)) was t (lt_ℚ 0ℚ (number_at new k))
    by_flow false t = ap (λ (x : ℚ). is_out link v x) (taken_elsewhere passes rate flows k t way flows new h (ok_of_part (take_list passes rate way flows) new (sym e))) ∙ was

pub all_and : (flows : List ℚ) (way : List ℕ) (e : ℕ) → HaveFlow flows way → lt_ℚ 0ℚ (number_at flows e) ≡ true → HaveFlow flows (way ++ e ∷ [])
all_and flows [] e h f = (f, tt)
all_and flows (x ∷ way) e h f = (h.0, all_and flows way e h.1 f)
