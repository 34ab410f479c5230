-- Which links have a state, link by link.
use Rattle.std.proofs.Common.{◌≡◌, ◌≢◌, ℕ, suc, ◌<◌, ◌≤◌, Bool, List, length, get_or, ⊎_elim, Some, None, slice_get, slice_set, sym, subst, ◌∙◌, arith}
use Rattle.nf_pattern.proofs.Common.{same_Some, slice_get-get_or, slice_get_within, before_or_at, Pattern, StatedLinks, AreIdle, IsNextFrom, IsLastTo}
use Rattle.nf_pattern.proofs.Common.{AreStated, IsAssignment}
use Rattle.nf_pattern.proofs.Choosing.{assigned_length, none_too}
use Rattle.nf_pattern.proofs.Setting.{set_same, set_other, tell}

-- a link more without a state
pub next_more : (p : Pattern) (e behind : ℕ) → IsNextFrom p (suc e) behind → slice_get p e ≡ Some None → IsNextFrom p e behind
next_more p e behind next here = (
  (let l = next.0 in omega arith),
  next.1,
  λ k from less. ⊎_elim
      (λ (after : e < k). next.2 k (omega arith) less)
      (λ (same : e ≡ k). subst (λ (j : ℕ). slice_get p j ≡ Some None) same here)
      (before_or_at e k (omega arith)),
)

pub last_more : (p : Pattern) (e before : ℕ) → (before ≤ e) × AreIdle p (suc before) e → slice_get p e ≡ Some None → IsLastTo p e before
last_more p e before last here = (
  last.0,
  λ k from less. ⊎_elim
      (λ (before_it : k < e). last.1 k from before_it)
      (λ (same : k ≡ e). subst (λ (j : ℕ). slice_get p j ≡ Some None) (sym same) here)
      (before_or_at k e (omega arith)),
)

-- an entry more, before the others
pub next_set : (p : Pattern) (next : List ℕ) (e found : ℕ) → e < length next → IsNextFrom p e found → ((k n : ℕ) → suc e ≤ k → slice_get next k ≡ Some n → IsNextFrom p k n)
    → (k n : ℕ) → e ≤ k → slice_get (slice_set next e found) k ≡ Some n → IsNextFrom p k n
next_set p next e found within here later k n from at = ⊎_elim
    (λ (same : k ≡ e).
    let is : found ≡ n = same_Some found n (sym (set_same next e found within) ∙ subst (λ (j : ℕ). slice_get (slice_set next e found) j ≡ Some n) same at) in
    subst (λ (j : ℕ). IsNextFrom p j n) (sym same) (subst (λ (m : ℕ). IsNextFrom p e m) is here))
    (λ (other : k ≢ e). later k n (omega arith) (sym (set_other next e k found other) ∙ at))
    (tell k e)

-- the same links have a state in an assignment
pub stated_too : (base : Pattern) (us : List Bool) (p : Pattern) (stated : StatedLinks) → IsAssignment base us p → AreStated base stated → AreStated p stated
stated_too base us p stated assigned is =
    let count = assigned_length base us p assigned in record {
      count_next = is.count_next ∙ sym count;
      count_last = is.count_last ∙ sym count;
      next = λ e n at. let next = is.next e n at in (next.0, (let l = next.1 in omega arith), λ k from less. none_too base us p k assigned (next.2 k from less));
      last = λ e n at. let last = is.last e n at in (last.0, λ k from less. none_too base us p k assigned (last.1 k from less));
    }

-- The entry read for a link without a state.
pub idle_there : (p : Pattern) (e : ℕ) → slice_get p e ≡ Some None → get_or p e None ≡ None
idle_there p e at = same_Some (get_or p e None) None (sym (slice_get-get_or p e None (slice_get_within p e None at)) ∙ at)
