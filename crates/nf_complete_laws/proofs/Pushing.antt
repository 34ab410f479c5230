-- More or less flow on a link whose ends have equal slopes.
use Rattle.std.proofs.Common.{◌≡◌, ◌≢◌, ℕ, ◌<◌, [], ◌∷◌, ◌⊎◌, inl, inr, ⊎_elim, Option, sym, ap, subst, refl, ◌∙◌}
use Rattle.nf_complete_laws.proofs.Common.{ℚ, 0ℚ, 1ℚ, ◌+ℚ◌, ◌-ℚ◌, ◌*ℚ◌, ◌≤ℚ◌, reading_of, ≤ℚ_of_same, eq, eq_times, linear_eq, moved_by_zero}
use Rattle.nf_complete_laws.proofs.Common.{same_differences, Link, Network, IsLink, sum_in, sum_out, IsLink-unique, sum_in-line, sum_out-line, only_at}
use Rattle.nf_complete_laws.proofs.Common.{only_at-here, only_at-else, Fits, demand}
use Rattle.nf_complete_laws.proofs.Trails.{sum_in-only, sum_out-only}
use Rattle.nf_complete_laws.proofs.Bare.{same_node}
use Rattle.nf_complete_laws.proofs.Fitting.{IsAtMost}
use Rattle.nf_complete_laws.proofs.Spare.{spare, enough_of_spare}
use Rattle.nf_complete_laws.proofs.Serving.{Serves}

more_by : (x y a d : ℚ) → a ≡ 1ℚ → y ≡ x +ℚ a *ℚ d → y ≡ x +ℚ d
more_by x y a d e f = linear_eq (x ∷ y ∷ a ∷ d ∷ []) (eq_times d e ∷ eq f ∷ []) (search reading_of) tt tt

-- Inflows and outflows change by multiples of d.
spare_by : (i o m j p a b d : ℚ) → j ≡ i +ℚ a *ℚ d → p ≡ o +ℚ b *ℚ d → j -ℚ (p +ℚ m) ≡ (i -ℚ (o +ℚ m)) +ℚ (a -ℚ b) *ℚ d
spare_by i o m j p a b d e f = linear_eq (i ∷ o ∷ m ∷ j ∷ p ∷ a ∷ b ∷ d ∷ []) (eq e ∷ eq f ∷ []) (search reading_of) tt tt

less_by : (x y a b d : ℚ) → a ≡ 0ℚ → b ≡ 1ℚ → y ≡ x +ℚ (a -ℚ b) *ℚ d → y ≡ x -ℚ d
less_by x y a b d e f g = linear_eq (x ∷ y ∷ a ∷ b ∷ d ∷ []) (eq_times d e ∷ eq_times d f ∷ eq g ∷ []) (search reading_of) tt tt

one_less_none : 1ℚ -ℚ 0ℚ ≡ 1ℚ
one_less_none = linear_eq [] [] (search reading_of) tt tt

none_less_none : 0ℚ -ℚ 0ℚ ≡ 0ℚ
none_less_none = linear_eq [] [] (search reading_of) tt tt

module _ (net : Network) (rate : ℚ) (flows : ℕ → ℚ) (e : ℕ) (link : Link) (p : IsLink net e link) (d : ℚ) where
  abbrev pub pushed : ℕ → ℚ
  pushed k = flows k +ℚ only_at e 1ℚ k *ℚ d

  pub pushed-cases : (k : ℕ) → ((k ≡ e) × (pushed k ≡ flows e +ℚ d)) ⊎ ((k ≢ e) × (pushed k ≡ flows k))
  pushed-cases k = ⊎_elim
      (λ (h : k ≡ e). inl (
        h,
        more_by (flows k) _ (only_at e 1ℚ k) d (subst (λ (j : ℕ). only_at e 1ℚ j ≡ 1ℚ) (sym h) (only_at-here e 1ℚ)) refl
            ∙ ap (λ (j : ℕ). flows j +ℚ d) h,
      ))
      (λ (n : k ≢ e). inr (n, moved_by_zero (flows k) _ (only_at e 1ℚ k) d (only_at-else e 1ℚ k (λ h. n (sym h))) refl))
      (same_node k e)

  pub in-pushed : (v : ℕ) → sum_in net.links pushed v ≡ sum_in net.links flows v +ℚ only_at link.head 1ℚ v *ℚ d
  in-pushed v = sum_in-line net.links flows (only_at e 1ℚ) d v ∙ ap (λ (z : ℚ). sum_in net.links flows v +ℚ z *ℚ d) (sum_in-only net.links e link 1ℚ v p)

  out-pushed : (v : ℕ) → sum_out net.links pushed v ≡ sum_out net.links flows v +ℚ only_at link.tail 1ℚ v *ℚ d
  out-pushed v = sum_out-line net.links flows (only_at e 1ℚ) d v ∙ ap (λ (z : ℚ). sum_out net.links flows v +ℚ z *ℚ d) (sum_out-only net.links e link 1ℚ v p)

  pub out-here : (v : ℕ) → link.tail ≡ v → sum_out net.links pushed v ≡ sum_out net.links flows v +ℚ d
  out-here v h = more_by _ _ (only_at link.tail 1ℚ v) d (subst (λ (k : ℕ). only_at link.tail 1ℚ k ≡ 1ℚ) h (only_at-here link.tail 1ℚ)) (out-pushed v)

  pub out-else : (v : ℕ) → link.tail ≢ v → sum_out net.links pushed v ≡ sum_out net.links flows v
  out-else v h = moved_by_zero _ _ (only_at link.tail 1ℚ v) d (only_at-else link.tail 1ℚ v h) (out-pushed v)

  spare-moved : (v : ℕ) → spare net rate pushed v ≡ spare net rate flows v +ℚ (only_at link.head 1ℚ v -ℚ only_at link.tail 1ℚ v) *ℚ d
  spare-moved v = spare_by (sum_in net.links flows v) (sum_out net.links flows v) (demand net rate v) _ _ (only_at link.head 1ℚ v) (only_at link.tail 1ℚ v) d (in-pushed v) (out-pushed v)

  pub spare-else : (v : ℕ) → v ≢ link.head → v ≢ link.tail → spare net rate pushed v ≡ spare net rate flows v
  spare-else v h t = moved_by_zero _ _ (only_at link.head 1ℚ v -ℚ only_at link.tail 1ℚ v) d
      (same_differences _ _ 0ℚ 0ℚ (only_at-else link.head 1ℚ v (λ k. h (sym k))) (only_at-else link.tail 1ℚ v (λ k. t (sym k))) ∙ none_less_none) (spare-moved v)

  pub spare-head : link.head ≢ link.tail → spare net rate pushed link.head ≡ spare net rate flows link.head +ℚ d
  spare-head h = more_by _ _ (only_at link.head 1ℚ link.head -ℚ only_at link.tail 1ℚ link.head) d
      (same_differences _ _ 1ℚ 0ℚ (only_at-here link.head 1ℚ) (only_at-else link.tail 1ℚ link.head (λ k. h (sym k))) ∙ one_less_none) (spare-moved link.head)

  pub spare-tail : link.head ≢ link.tail → spare net rate pushed link.tail ≡ spare net rate flows link.tail -ℚ d
  spare-tail h =
      less_by _ _ (only_at link.head 1ℚ link.tail) (only_at link.tail 1ℚ link.tail) d (only_at-else link.head 1ℚ link.tail h) (only_at-here link.tail 1ℚ)
      (spare-moved link.tail)

  -- A property of each link and its flow, if the link e has it with the new flow, and the others have it.
  pub pushed-link : (P : ℕ → Link → ℚ → Type 0) → P e link (flows e +ℚ d) → ((k : ℕ) (other : Link) → IsLink net k other → P k other (flows k))
      → (k : ℕ) (other : Link) → IsLink net k other → P k other (pushed k)
  pushed-link P here else k other q = ⊎_elim
      (λ (w : (k ≡ e) × (pushed k ≡ flows e +ℚ d)). subst (P k other) (sym w.1) (subst (λ (j : ℕ). P j other (flows e +ℚ d)) (sym w.0)
      (subst (λ (l : Link). P e l (flows e +ℚ d)) (IsLink-unique net e link other p (subst (λ (j : ℕ). IsLink net j other) w.0 q)) here)))
      (λ (w : (k ≢ e) × (pushed k ≡ flows k)). subst (P k other) (sym w.1) (else k other q))
      (pushed-cases k)

  -- A free link whose ends have equal levels may carry more or less, if no node then lacks inflow.
  pub Serves-pushed : (cap : Link → Option ℚ) (floor : ℚ) (Idle Free : ℕ → Link → Type 0) (levels : ℕ → ℚ)
      → Serves net cap rate floor Idle Free flows levels → (Idle e link → ⊥) → levels link.head ≡ levels link.tail
      → 0ℚ ≤ℚ flows e +ℚ d → IsAtMost (cap link) (flows e +ℚ d) (levels link.head)
      → ((v : ℕ) → v < net.nodes → v ≢ net.source → 0ℚ ≤ℚ spare net rate pushed v) → Serves net cap rate floor Idle Free pushed levels
  Serves-pushed cap floor Idle Free levels serves busy level n m s = record {
    starts = serves.starts;
    keeps_up = serves.keeps_up;
    idle = pushed-link (λ k other x. Idle k other → x ≡ 0ℚ) (λ i. absurd (busy i)) serves.idle;
    fits = pushed-link (λ k other x. Free k other → Fits (cap other) x (levels other.tail) (levels other.head))
        (λ _. record { no_negative = n; most = m; used = inr (≤ℚ_of_same _ _ (sym level)); upper = inl (≤ℚ_of_same _ _ level) }) serves.fits;
    enough = λ v l other. enough_of_spare _ _ _ (s v l other);
  }
