-- Results of the operation sequence of the flows that fill the links.
use Rattle.std.proofs.Common.{◌≡◌, ℕ, ◌+◌, List, length, Bool, true, false, not, ◌||◌, sym, ap, subst, refl, ◌∙◌, arith, Option, Some, None, slice_get}
use Rattle.std.proofs.Common.{unwrap_or, Ok, MatchBool}
use Rattle.nf_complete_conditions.proofs.Common.{enumerate_from, same_Some, ℚ, Passing, Product, Verdict, checked, each, at_part, bind_ok, number_at, Has}
use Rattle.nf_complete_conditions.proofs.Common.{Link, Network, IsLink, Sets, same_Ok, checked-is, full_on, full_at, AnswersWhether, filling, KeepsSlopes}
use Rattle.nf_complete_conditions.proofs.Common.{keeps_test, KeepsAt}
use Rattle.nf_complete_def.specs.Cancelling.{fulls_list}
use Rattle.nf_complete_laws.proofs.Eachs.{each-at, each-length}
use Rattle.nf_complete_conditions.proofs.Deciding.{says, says_like, Decides-keeps}
use Rattle.nf_complete_conditions.proofs.Telling.{value_of, is_ok_of}

full-is : (passes : Passing) (capacity : Option ℚ) (t : ℚ) (y : Option ℚ) → full_on passes true capacity t ≡ Ok y → y ≡ filling capacity t
full-is passes None t y h = sym (same_Ok None y h)
full-is passes (Some c) t y h = let b = bind_ok (checked passes Product c t) (λ full. Ok (Some full)) y h in
    sym (same_Ok (Some b.0) y b.2) ∙ ap (λ (z : ℚ). Some z) (checked-is passes Product c t b.0 b.1)

pub full_none : (passes : Passing) (active : Bool) (t : ℚ) → full_on passes active None t ≡ Ok None
full_none passes true t = refl
full_none passes false t = refl

-- ---- the list
module _ (passes : Passing) (net : Network) (sets : Sets) (slopes : List ℚ) (fulls : List (Option ℚ)) (fulls_ok : fulls_list passes net sets slopes ≡ Ok fulls) where
  fulls_each : each (full_at passes sets slopes) (enumerate_from 0 net.links) ≡ Ok fulls
  unfolding fulls_list
  fulls_each = fulls_ok

  pub fulls_count : length fulls ≡ length net.links
  fulls_count = each-length (full_at passes sets slopes) net.links 0 fulls fulls_each

  pub fulls_at : (e : ℕ) (link : Link) → IsLink net e link → Has sets.active e → unwrap_or (slice_get fulls e) None ≡ filling link.capacity (number_at slopes link.head)
  fulls_at e link p a =
      let g = each-at (full_at passes sets slopes) net.links 0 fulls fulls_each e link p in
      let y : full_at passes sets slopes (e, link) ≡ Ok g.0 = subst (λ (k : ℕ). full_at passes sets slopes (k, link) ≡ Ok g.0) (let z : 0 + e ≡ e = omega arith in z) g.2 in
      ap (λ (o : Option (Option ℚ)). unwrap_or o None) g.1
      ∙ full-is passes link.capacity (number_at slopes link.head) g.0 (subst
      (λ (b : Bool). full_on passes b link.capacity (number_at slopes link.head) ≡ Ok g.0) (ap (λ (o : Option Bool). unwrap_or o false) a) y)

-- ---- one link: a says whether it is active, r whether it is resetting; x is its flow, s and t are the slopes of its tail and its head
module _ (passes : Passing) (sets : Sets) (flows slopes : List ℚ) (e : ℕ) (link : Link) where
  abbrev Asked : Bool → ℚ → ℚ → ℚ → Type 0
  Asked r x s t = Has sets.active e → KeepsSlopes r (filling link.capacity t) x s t

  asked_told : (a r : Bool) (full : Option ℚ) (x s t : ℚ) → slice_get sets.active e ≡ Some a → full_on passes a link.capacity t ≡ Ok full
      → MatchBool (not a || keeps_test r full x s t) (Asked r x s t) (Asked r x s t → ⊥)
  asked_told true r full x s t at f =
      let same : full ≡ filling link.capacity t = full-is passes link.capacity t full f in
      says_like (keeps_test r full x s t)
      (λ (k : KeepsSlopes r full x s t). λ (_ : Has sets.active e). subst (λ (o : Option ℚ). KeepsSlopes r o x s t) same k)
      (λ (k : Asked r x s t). subst (λ (o : Option ℚ). KeepsSlopes r o x s t) (sym same) (k at))
      (says (keeps_test r full x s t) (Decides-keeps r full x s t))
  asked_told false r full x s t at f = λ h. absurd (clash (same_Some false true (sym at ∙ h)))
    where
      clash : false ≡ true → ⊥
      clash q = cc

  pub keeps_told : (a r : Bool) (full : Option ℚ) (answer : Bool) → slice_get sets.active e ≡ Some a → slice_get sets.resetting e ≡ Some r
      → Ok full ≡ at_part Verdict (full_at passes sets slopes (e, link))
      → answer ≡ (not a || keeps_test r full (number_at flows e) (number_at slopes link.tail) (number_at slopes link.head))
      → AnswersWhether (KeepsAt sets flows slopes e link) (full_at passes sets slopes (e, link)) (Ok answer)
  keeps_told a r full answer at ar f same = (
    is_ok_of (full_at passes sets slopes (e, link)) full f,
    subst (λ (b : Bool). MatchBool b (KeepsAt sets flows slopes e link) (KeepsAt sets flows slopes e link → ⊥)) (sym same)
        (subst (λ (q : Bool). MatchBool (not a || keeps_test r full x s t) (Asked q x s t) (Asked q x s t → ⊥)) (sym (ap (λ (o : Option Bool). unwrap_or o false) ar))
        (asked_told a r full x s t at (subst (λ (q : Bool). full_on passes q link.capacity t ≡ Ok full) (ap (λ (o : Option Bool). unwrap_or o false) at)
        (value_of (full_at passes sets slopes (e, link)) full f)))),
  )
    where
      x : ℚ
      x = number_at flows e

      s : ℚ
      s = number_at slopes link.tail

      t : ℚ
      t = number_at slopes link.head
