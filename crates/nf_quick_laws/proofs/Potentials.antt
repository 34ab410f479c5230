-- Potentials: numbers at some nodes, which no residual step exceeds by more than its length. Least lengths are such numbers.
use Rattle.std.proofs.Common.{◌≡◌, ℕ, List, [], ◌∷◌, ◌++◌, ⊎_elim, subst, ◌∙◌}
use Rattle.nf_quick_laws.proofs.Common.{ℚ, 0ℚ, ◌+ℚ◌, ◌≤ℚ◌, reading_of, ≤ℚ_antisymm, le, eq, linear_le, linear_eq, Network, Step, Leads, IsResidualWalk}
use Rattle.nf_quick_laws.proofs.Common.{step_length, walk_length, IsLeastLength, EachHasLeast}
use Rattle.nf_quick_laws.proofs.ResidualWalks.{IsResidualWalk-append, IsResidualWalk-one, walk_length-append}

-- `At v d`: the potential at v is d. From a node that has one, each residual step leads to a node that has one, which is greater by
-- at most the length of the step.
pub record ArePotentials (net : Network) (flows : List ℚ) (At : ℕ → ℚ → Type 0) : Type 0 where
  pub one : (v : ℕ) (c d : ℚ) → At v c → At v d → c ≡ d
  pub step : (step : Step) (v w : ℕ) (d : ℚ) → At v d → Leads net flows step v w → (c : ℚ) × At w c × (c ≤ℚ d +ℚ step_length net step)

no_step : (d : ℚ) → d ≤ℚ d +ℚ 0ℚ
no_step d = linear_le (d ∷ []) [] (search reading_of) tt

one_step : (b c d l m : ℚ) → c ≤ℚ d +ℚ l → b ≤ℚ c +ℚ m → b ≤ℚ d +ℚ (l +ℚ m)
one_step b c d l m h k = linear_le (b ∷ c ∷ d ∷ l ∷ m ∷ []) (le h ∷ le k ∷ []) (search reading_of) tt

pub ArePotentials-walk : (net : Network) (flows : List ℚ) (At : ℕ → ℚ → Type 0) → ArePotentials net flows At → (walk : List Step) (v w : ℕ) (d : ℚ) → At v d
    → IsResidualWalk net flows walk v w
    → (c : ℚ) × At w c × (c ≤ℚ d +ℚ walk_length net walk)
ArePotentials-walk net flows At fits [] v w d a p = (d, subst (λ (k : ℕ). At k d) p a, no_step d)
ArePotentials-walk net flows At fits (step ∷ walk) v w d a p =
    let s : (c : ℚ) × At p.0 c × (c ≤ℚ d +ℚ step_length net step) = fits.step step v p.0 d a p.1 in
    let r : (b : ℚ) × At w b × (b ≤ℚ s.0 +ℚ walk_length net walk) = ArePotentials-walk net flows At fits walk p.0 w s.0 s.1 p.2 in
    (r.0, r.1, one_step r.0 s.0 d (step_length net step) (walk_length net walk) s.2 r.2)

-- so a walk between two nodes with potentials is at least as long as their difference
pub ArePotentials-between : (net : Network) (flows : List ℚ) (At : ℕ → ℚ → Type 0) → ArePotentials net flows At → (walk : List Step) (v w : ℕ) (d c : ℚ)
    → At v d → At w c → IsResidualWalk net flows walk v w
    → c ≤ℚ d +ℚ walk_length net walk
ArePotentials-between net flows At fits walk v w d c a b p =
    let r : (c : ℚ) × At w c × (c ≤ℚ d +ℚ walk_length net walk) = ArePotentials-walk net flows At fits walk v w d a p in
    subst (λ (x : ℚ). x ≤ℚ d +ℚ walk_length net walk) (fits.one w r.0 c r.1 b) r.2

-- ---- least lengths
pub IsLeastLength-one : (net : Network) (flows : List ℚ) (v w : ℕ) (c d : ℚ) → IsLeastLength net flows v w c → IsLeastLength net flows v w d → c ≡ d
IsLeastLength-one net flows v w c d p q = ≤ℚ_antisymm c d
    (subst (λ (x : ℚ). c ≤ℚ x) q.taken.2 (p.bound q.taken.0 q.taken.1))
    (subst (λ (x : ℚ). d ≤ℚ x) p.taken.2 (q.bound p.taken.0 p.taken.1))

by_sum : (c d l s : ℚ) → c ≤ℚ s → s ≡ d +ℚ (l +ℚ 0ℚ) → c ≤ℚ d +ℚ l
by_sum c d l s h e = linear_le (c ∷ d ∷ l ∷ s ∷ []) (le h ∷ eq e ∷ []) (search reading_of) tt

same_left : (a b c : ℚ) → a ≡ b → a +ℚ c ≡ b +ℚ c
same_left a b c e = linear_eq (a ∷ b ∷ c ∷ []) (eq e ∷ []) (search reading_of) tt tt

module _ (net : Network) (flows : List ℚ) (from : ℕ) where
  -- the walk of least length, and a step more
  step_more : (step : Step) (v w : ℕ) (d c : ℚ) → IsLeastLength net flows from v d → Leads net flows step v w → IsLeastLength net flows from w c → c ≤ℚ d +ℚ step_length net step
  step_more step v w d c p l q = by_sum c d (step_length net step) _
      (q.bound (p.taken.0 ++ step ∷ []) (IsResidualWalk-append net flows p.taken.0 (step ∷ []) from v w p.taken.1 (IsResidualWalk-one net flows step v w l)))
      (walk_length-append net p.taken.0 (step ∷ []) ∙ same_left _ _ _ p.taken.2)

  pub ArePotentials-least : EachHasLeast net flows from → ArePotentials net flows (IsLeastLength net flows from)
  ArePotentials-least each = record {
    one = λ v c d p q. IsLeastLength-one net flows from v c d p q;
    step = λ step v w d p l. ⊎_elim
        (λ (a : (least : ℚ) × IsLeastLength net flows from w least). (a.0, a.1, step_more step v w d a.0 p l a.1))
        (λ (none : (walk : List Step) → IsResidualWalk net flows walk from w → ⊥).
        absurd (none (p.taken.0 ++ step ∷ []) (IsResidualWalk-append net flows p.taken.0 (step ∷ []) from v w p.taken.1 (IsResidualWalk-one net flows step v w l))))
        (each w);
  }
