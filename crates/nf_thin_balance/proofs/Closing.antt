-- Conservation at a node determines a link's flow from those of the other links there.
use Rattle.std.proofs.Common.{◌≡◌, ◌≢◌, ℕ, zero, suc, ◌<◌, List, [], ◌∷◌, length, ⊎_elim, Bool, true, false, eqb, refl, sym, ap, subst, ◌∙◌, if◌then◌else◌}
use Rattle.std.proofs.Common.{Some, slice_get, slice_set, MatchBool}
use Rattle.nf_thin_balance.proofs.Common.{none-some, same_Some, ℚ, 0ℚ, ◌+ℚ◌, ◌-ℚ◌, reading_of, eq, linear_eq, Link, Network, IsLink, sum_in, sum_out}
use Rattle.nf_thin_balance.proofs.Common.{set_same, set_other, tell, Range, IsInRange, AreFlowsWithin, surplus_by}
use mathlib.Core.Bool.{beq}
use Rattle.nf_thin_balance.proofs.Conserving.{other_false, other_true, later_term}

-- ---- the flows of all links but one
abbrev pub but : ℕ → (ℕ → ℚ) → ℕ → ℚ
but zero flow zero = 0ℚ
but zero flow (suc k) = flow (suc k)
but (suc e) flow zero = flow 0
but (suc e) flow (suc k) = but e (λ (i : ℕ). flow (suc i)) k

but_here : (e : ℕ) (flow : ℕ → ℚ) → but e flow e ≡ 0ℚ
but_here zero flow = refl
but_here (suc e) flow = but_here e (λ (i : ℕ). flow (suc i))

but_other : (e k : ℕ) (flow : ℕ → ℚ) → k ≢ e → but e flow k ≡ flow k
but_other zero zero flow other = absurd (other refl)
but_other zero (suc k) flow other = refl
but_other (suc e) zero flow other = refl
but_other (suc e) (suc k) flow other = but_other e k (λ (i : ℕ). flow (suc i)) (λ same. other (ap suc same))

here_term : (b : Bool) (a s : ℚ) → (if b then a +ℚ s else s) ≡ (if b then 0ℚ +ℚ s else s) +ℚ (if b then a else 0ℚ)
here_term true a s = linear_eq (a ∷ s ∷ []) [] (search reading_of depth 12) tt tt
here_term false a s = linear_eq (s ∷ []) [] (search reading_of depth 12) tt tt

sum_out-but : (links : List Link) (flow : ℕ → ℚ) (v e : ℕ) (link : Link) → slice_get links e ≡ Some link
    → sum_out links flow v ≡ sum_out links (but e flow) v +ℚ (if eqb link.tail v then flow e else 0ℚ)
sum_out-but [] flow v e link at = absurd (none-some link at)
sum_out-but (l ∷ links) flow v zero link at = here_term (eqb l.tail v) (flow 0) (sum_out links (λ (i : ℕ). flow (suc i)) v)
    ∙ ap (λ (k : Link). sum_out (l ∷ links) (but 0 flow) v +ℚ (if eqb k.tail v then flow 0 else 0ℚ)) (same_Some l link at)
sum_out-but (l ∷ links) flow v (suc e) link at = later_term (eqb l.tail v) (flow 0) _ _ _ (sum_out-but links (λ (i : ℕ). flow (suc i)) v e link at)

sum_in-but : (links : List Link) (flow : ℕ → ℚ) (v e : ℕ) (link : Link) → slice_get links e ≡ Some link
    → sum_in links flow v ≡ sum_in links (but e flow) v +ℚ (if eqb link.head v then flow e else 0ℚ)
sum_in-but [] flow v e link at = absurd (none-some link at)
sum_in-but (l ∷ links) flow v zero link at = here_term (eqb l.head v) (flow 0) (sum_in links (λ (i : ℕ). flow (suc i)) v)
    ∙ ap (λ (k : Link). sum_in (l ∷ links) (but 0 flow) v +ℚ (if eqb k.head v then flow 0 else 0ℚ)) (same_Some l link at)
sum_in-but (l ∷ links) flow v (suc e) link at = later_term (eqb l.head v) (flow 0) _ _ _ (sum_in-but links (λ (i : ℕ). flow (suc i)) v e link at)

-- With the link's flow, the sum is the surplus that the node needs.
with_leaving : (o p i j x n : ℚ) → o ≡ p +ℚ x → i ≡ j +ℚ 0ℚ → o -ℚ i ≡ n → (p -ℚ j) +ℚ x ≡ n
with_leaving o p i j x n e f h = linear_eq (o ∷ p ∷ i ∷ j ∷ x ∷ n ∷ []) (eq e ∷ eq f ∷ eq h ∷ []) (search reading_of depth 12) tt tt

with_entering : (o p i j x n : ℚ) → o ≡ p +ℚ 0ℚ → i ≡ j +ℚ x → o -ℚ i ≡ n → (p -ℚ j) -ℚ x ≡ n
with_entering o p i j x n e f h = linear_eq (o ∷ p ∷ i ∷ j ∷ x ∷ n ∷ []) (eq e ∷ eq f ∷ eq h ∷ []) (search reading_of depth 12) tt tt

module _ (net : Network) (flow : ℕ → ℚ) (v e : ℕ) (link : Link) (is_link : IsLink net e link) (needed : ℚ) (needs : surplus_by net flow v ≡ needed) where
  out_but : (b : Bool) → eqb link.tail v ≡ b → sum_out net.links flow v ≡ sum_out net.links (but e flow) v +ℚ (if b then flow e else 0ℚ)
  out_but b is = sum_out-but net.links flow v e link is_link ∙ ap (λ (c : Bool). sum_out net.links (but e flow) v +ℚ (if c then flow e else 0ℚ)) is

  in_but : (b : Bool) → eqb link.head v ≡ b → sum_in net.links flow v ≡ sum_in net.links (but e flow) v +ℚ (if b then flow e else 0ℚ)
  in_but b is = sum_in-but net.links flow v e link is_link ∙ ap (λ (c : Bool). sum_in net.links (but e flow) v +ℚ (if c then flow e else 0ℚ)) is

  pub needs_link : (leaves enters : Bool) → eqb link.tail v ≡ leaves → eqb link.head v ≡ enters → beq leaves enters ≡ false
      → MatchBool leaves (surplus_by net (but e flow) v +ℚ flow e ≡ needed) (surplus_by net (but e flow) v -ℚ flow e ≡ needed)
  needs_link true enters tail head apart = with_leaving _ _ _ _ (flow e) needed (out_but true tail) (in_but false (head ∙ other_false true enters apart refl)) needs
  needs_link false enters tail head apart = with_entering _ _ _ _ (flow e) needed (out_but false tail) (in_but true (head ∙ other_true false enters apart refl)) needs

-- ---- one range more is known
pub within_set : (ranges : List Range) (e : ℕ) (here : Range) (flow : ℕ → ℚ) → e < length ranges
    → ((k : ℕ) (range : Range) → k ≢ e → slice_get ranges k ≡ Some range → IsInRange range (flow k)) → IsInRange here (flow e) → AreFlowsWithin (slice_set ranges e here) flow
within_set ranges e here flow below others is k range at = ⊎_elim
    (λ (same : k ≡ e).
    let r : here ≡ range = same_Some here range (sym (set_same ranges e here below) ∙ (ap (slice_get (slice_set ranges e here)) (sym same) ∙ at)) in
    subst (λ (i : ℕ). IsInRange range (flow i)) (sym same) (subst (λ (x : Range). IsInRange x (flow e)) r is))
    (λ (other : k ≢ e). others k range other (sym (set_other ranges e k here other) ∙ at))
    (tell k e)

-- Without the link, the others have the same flows.
pub within_but : (ranges : List Range) (e : ℕ) (none : Range) (flow : ℕ → ℚ) → e < length ranges → AreFlowsWithin ranges flow → IsInRange none 0ℚ
    → AreFlowsWithin (slice_set ranges e none) (but e flow)
within_but ranges e none flow below within is = within_set ranges e none (but e flow) below
    (λ k range other at. subst (λ (x : ℚ). IsInRange range x) (sym (but_other e k flow other)) (within k range at))
    (subst (λ (x : ℚ). IsInRange none x) (sym (but_here e flow)) is)

-- With the flow left for the link.
pub within_again : (ranges : List Range) (e : ℕ) (none here : Range) (flow : ℕ → ℚ) → e < length (slice_set ranges e none) → AreFlowsWithin ranges flow → IsInRange here (flow e)
    → AreFlowsWithin (slice_set (slice_set ranges e none) e here) flow
within_again ranges e none here flow below within is = within_set (slice_set ranges e none) e here flow below
    (λ k range other at. within k range (sym (set_other ranges e k none other) ∙ at)) is

-- The flow left for a link.
pub left_leaving : (x s needed : ℚ) → s +ℚ x ≡ needed → needed -ℚ s ≡ x
left_leaving x s needed e = linear_eq (x ∷ s ∷ needed ∷ []) (eq e ∷ []) (search reading_of depth 12) tt tt

pub left_entering : (x s needed : ℚ) → s -ℚ x ≡ needed → s -ℚ needed ≡ x
left_entering x s needed e = linear_eq (x ∷ s ∷ needed ∷ []) (eq e ∷ []) (search reading_of depth 12) tt tt
