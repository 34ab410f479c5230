-- Residual walks: concatenation, and closed sections.
use Rattle.std.proofs.Common.{◌≡◌, ℕ, ◌+◌, List, [], ◌∷◌, ◌++◌, Bool, true, false, sym, ap, subst, refl, ◌∙◌}
use Rattle.nf_quick_laws.proofs.Common.{ℚ, ◌+ℚ◌, zero_plus, sum_of_sum, Link, Network, IsLink, Step, begin_of, end_of, Leads, IsResidualWalk, walk_length}

-- ---- concatenation
pub walk_length-append : (net : Network) (walk more : List Step) → walk_length net (walk ++ more) ≡ walk_length net walk +ℚ walk_length net more
walk_length-append net [] more = zero_plus _
walk_length-append net (step ∷ walk) more = sum_of_sum _ _ _ _ (walk_length-append net walk more)

pub IsResidualWalk-append : (net : Network) (flows : List ℚ) (walk more : List Step) (u v w : ℕ) → IsResidualWalk net flows walk u v → IsResidualWalk net flows more v w
    → IsResidualWalk net flows (walk ++ more) u w
IsResidualWalk-append net flows [] more u v w p q = subst (λ (k : ℕ). IsResidualWalk net flows more k w) (sym p) q
IsResidualWalk-append net flows (step ∷ walk) more u v w p q = (p.0, p.1, IsResidualWalk-append net flows walk more p.0 v w p.2 q)

pub IsResidualWalk-one : (net : Network) (flows : List ℚ) (step : Step) (v w : ℕ) → Leads net flows step v w → IsResidualWalk net flows (step ∷ []) v w
IsResidualWalk-one net flows step v w l = (w, l, refl)

-- ---- a step has one begin node and one end node
one_link : (net : Network) (d e : ℕ) (k l : Link) → IsLink net d k → IsLink net e l → d ≡ e → k ≡ l
one_link net d e k l p q r = cc

pub Leads-begin : (net : Network) (flows others : List ℚ) (a b : Step) (v w x y : ℕ) → Leads net flows a v w → Leads net others b x y → a.link ≡ b.link → a.forward ≡ b.forward → v ≡ x
Leads-begin net flows others a b v w x y p q e f =
    let same : p.link ≡ q.link = one_link net a.link b.link p.link q.link p.is_link q.is_link e in
    sym p.begins ∙ ap (λ (d : Bool). begin_of d p.link) f ∙ ap (λ (l : Link). begin_of b.forward l) same ∙ q.begins

-- The backward step along a link ends where the forward step begins.
pub Leads-turn : (net : Network) (flows others : List ℚ) (a b : Step) (v w x y : ℕ) → Leads net flows a v w → Leads net others b x y → a.link ≡ b.link → (a.forward ≡ b.forward → ⊥)
    → (v ≡ y) × (w ≡ x)
Leads-turn net flows others a b v w x y p q e f =
    let same : p.link ≡ q.link = one_link net a.link b.link p.link q.link p.is_link q.is_link e in
    turned a.forward b.forward p.link q.link same f p.begins p.ends q.begins q.ends
  where
    turned : (c d : Bool) (k l : Link) → k ≡ l → (c ≡ d → ⊥) → begin_of c k ≡ v → end_of c k ≡ w → begin_of d l ≡ x → end_of d l ≡ y → (v ≡ y) × (w ≡ x)
    turned true true k l s f g h i j = absurd (f refl)
    turned true false k l s f g h i j = (sym g ∙ ap (λ (m : Link). m.tail) s ∙ j, sym h ∙ ap (λ (m : Link). m.head) s ∙ i)
    turned false true k l s f g h i j = (sym g ∙ ap (λ (m : Link). m.head) s ∙ j, sym h ∙ ap (λ (m : Link). m.tail) s ∙ i)
    turned false false k l s f g h i j = absurd (f refl)
