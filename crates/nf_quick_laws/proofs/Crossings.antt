-- The forward minus the backward crossings of a link by a walk. They balance at each node except the ends of the walk. Weighted with the
-- transit times, they sum to the walk's length.
use Rattle.std.proofs.Common.{◌≡◌, ◌≢◌, ℕ, zero, suc, List, [], ◌∷◌, ◌⊎◌, inl, inr, ⊎_elim, Bool, true, false, if◌then◌else◌, eqb, Some, slice_get, sym, ap}
use Rattle.std.proofs.Common.{subst, refl, ◌∙◌, suc-ne-zero}
use Rattle.nf_quick_laws.proofs.Common.{term_and_none, first_is_zero, eqb_tells, ℚ, 0ℚ, 1ℚ, ◌+ℚ◌, ◌-ℚ◌, ◌*ℚ◌, reading_of, eq, eq_times, linear_eq}
use Rattle.nf_quick_laws.proofs.Common.{both_are_zero, first_and_zero, term_and_zero, zero_of_zero_times, same_terms, same_differences, same_sums, Link}
use Rattle.nf_quick_laws.proofs.Common.{Network, sum_in, sum_out, sum_in-same, sum_out-same, sum_in-none, sum_out-none, transit_of-is, only_at, out_less_in}
use Rattle.nf_quick_laws.proofs.Common.{Step, begin_of, end_of, directed, Leads, IsResidualWalk, step_length, walk_length, cost_from, crossed, same_Some}
use Rattle.nf_quick_laws.proofs.Apart.{EachStep, Takes, AreApart}

-- ---- link by link
pub choose : (b : Bool) (x y : ℚ) → b ≡ true → (if b then x else y) ≡ x
choose true x y e = refl
choose false x y e = absurd (cc)

pub choose_not : (b : Bool) (x y : ℚ) → b ≡ false → (if b then x else y) ≡ y
choose_not true x y e = absurd (cc)
choose_not false x y e = refl

pub crossed-none : (walk : List Step) (e : ℕ) → (Takes e walk → ⊥) → crossed walk e ≡ 0ℚ
crossed-none [] e h = refl
crossed-none (step ∷ walk) e h = ⊎_elim
    (λ (w : (eqb step.link e ≡ true) × (step.link ≡ e)). absurd (h (inl w.1)))
    (λ (w : (eqb step.link e ≡ false) × (step.link ≢ e)). both_are_zero _ _ (choose_not _ _ _ w.0) (crossed-none walk e (λ t. h (inr t))))
    (eqb_tells step.link e)

-- A link is not used, or by one step.
pub record IsTaken (P : Step → Type 0) (walk : List Step) (e : ℕ) : Type 0 where
  pub step : Step
  pub holds : P step
  pub link : step.link ≡ e
  pub once : crossed walk e ≡ directed step.forward 1ℚ

pub crossed-cases : (P : Step → Type 0) (walk : List Step) (e : ℕ) → AreApart walk → EachStep P walk → (crossed walk e ≡ 0ℚ) ⊎ IsTaken P walk e
crossed-cases P [] e apart each = inl refl
crossed-cases P (step ∷ walk) e apart each = ⊎_elim
    (λ (w : (eqb step.link e ≡ true) × (step.link ≡ e)). inr (record {
      step = step;
      holds = each.0;
      link = w.1;
      once = first_and_zero _ _ _ (choose _ _ _ w.0) (crossed-none walk e (λ t. apart.0 (subst (λ (k : ℕ). Takes k walk) (sym w.1) t)));
    }))
    (λ (w : (eqb step.link e ≡ false) × (step.link ≢ e)). ⊎_elim
    (λ (z : crossed walk e ≡ 0ℚ). inl (both_are_zero _ _ (choose_not _ _ _ w.0) z))
    (λ (t : IsTaken P walk e). inr (record { step = t.step; holds = t.holds; link = t.link; once = first_is_zero _ _ (choose_not _ _ _ w.0) ∙ t.once }))
    (crossed-cases P walk e apart.1 each.1))
    (eqb_tells step.link e)

-- ---- sums with one term, and sums of sums
if_none : (b : Bool) (a s t : ℚ) → a ≡ 0ℚ → s ≡ t → (if b then a +ℚ s else s) ≡ t
if_none true a s t e f = linear_eq (a ∷ s ∷ t ∷ []) (eq e ∷ eq f ∷ []) (search reading_of) tt tt
if_none false a s t e f = f

if_plus : (b : Bool) (a c s t u : ℚ) → s ≡ t +ℚ u → (if b then (a +ℚ c) +ℚ s else s) ≡ (if b then a +ℚ t else t) +ℚ (if b then c +ℚ u else u)
if_plus true a c s t u e = linear_eq (a ∷ c ∷ s ∷ t ∷ u ∷ []) (eq e ∷ []) (search reading_of) tt tt
if_plus false a c s t u e = e

zero_other : (e : ℕ) → zero ≢ suc e
zero_other e p = cc

suc_other : (k e : ℕ) → k ≢ e → suc k ≢ suc e
suc_other k e h p = h (cc)

pub sum_out-only : (links : List Link) (f : ℕ → ℚ) (k : ℕ) (link : Link) (v : ℕ) → slice_get links k ≡ Some link → ((e : ℕ) → k ≢ e → f e ≡ 0ℚ)
    → sum_out links f v ≡ (if eqb link.tail v then f k else 0ℚ)
sum_out-only [] f k link v p h = absurd (cc)
sum_out-only (l ∷ links) f zero link v p h =
    term_and_none (eqb l.tail v) (f 0) _ (sum_out-same links (λ e. f (suc e)) (λ _. 0ℚ) v (λ e m _ _. h (suc e) (zero_other e)) ∙ sum_out-none links v)
    ∙ ap (λ (m : Link). if eqb m.tail v then f 0 else 0ℚ) (same_Some l link p)
sum_out-only (l ∷ links) f (suc k) link v p h =
    if_none (eqb l.tail v) (f 0) _ _ (h 0 (suc-ne-zero k)) (sum_out-only links (λ e. f (suc e)) k link v p (λ e other. h (suc e) (suc_other k e other)))

pub sum_in-only : (links : List Link) (f : ℕ → ℚ) (k : ℕ) (link : Link) (v : ℕ) → slice_get links k ≡ Some link → ((e : ℕ) → k ≢ e → f e ≡ 0ℚ)
    → sum_in links f v ≡ (if eqb link.head v then f k else 0ℚ)
sum_in-only [] f k link v p h = absurd (cc)
sum_in-only (l ∷ links) f zero link v p h =
    term_and_none (eqb l.head v) (f 0) _ (sum_in-same links (λ e. f (suc e)) (λ _. 0ℚ) v (λ e m _ _. h (suc e) (zero_other e)) ∙ sum_in-none links v)
    ∙ ap (λ (m : Link). if eqb m.head v then f 0 else 0ℚ) (same_Some l link p)
sum_in-only (l ∷ links) f (suc k) link v p h =
    if_none (eqb l.head v) (f 0) _ _ (h 0 (suc-ne-zero k)) (sum_in-only links (λ e. f (suc e)) k link v p (λ e other. h (suc e) (suc_other k e other)))

pub sum_out-plus : (links : List Link) (f g : ℕ → ℚ) (v : ℕ) → sum_out links (λ e. f e +ℚ g e) v ≡ sum_out links f v +ℚ sum_out links g v
sum_out-plus [] f g v = linear_eq [] [] (search reading_of) tt tt
sum_out-plus (link ∷ links) f g v = if_plus (eqb link.tail v) (f 0) (g 0) _ _ _ (sum_out-plus links (λ e. f (suc e)) (λ e. g (suc e)) v)

pub sum_in-plus : (links : List Link) (f g : ℕ → ℚ) (v : ℕ) → sum_in links (λ e. f e +ℚ g e) v ≡ sum_in links f v +ℚ sum_in links g v
sum_in-plus [] f g v = linear_eq [] [] (search reading_of) tt tt
sum_in-plus (link ∷ links) f g v = if_plus (eqb link.head v) (f 0) (g 0) _ _ _ (sum_in-plus links (λ e. f (suc e)) (λ e. g (suc e)) v)

-- the same of costs
cost_first : (r a s : ℚ) → s ≡ 0ℚ → r *ℚ a +ℚ s ≡ r *ℚ a
cost_first r a s f = linear_eq (r ∷ a ∷ s ∷ []) (eq f ∷ []) (search reading_of) tt tt

cost_later : (r a s t : ℚ) → a ≡ 0ℚ → s ≡ t → r *ℚ a +ℚ s ≡ t
cost_later r a s t e f = linear_eq (r ∷ a ∷ s ∷ t ∷ []) (eq_times r e ∷ eq f ∷ []) (search reading_of) tt tt

pub cost_from-none : (links : List Link) (f : ℕ → ℚ) → ((e : ℕ) → f e ≡ 0ℚ) → cost_from links f ≡ 0ℚ
cost_from-none [] f h = refl
cost_from-none (link ∷ links) f h = term_and_zero link.transit (f 0) _ (h 0) (cost_from-none links (λ e. f (suc e)) (λ e. h (suc e)))

pub cost_from-only : (links : List Link) (f : ℕ → ℚ) (k : ℕ) (link : Link) → slice_get links k ≡ Some link → ((e : ℕ) → k ≢ e → f e ≡ 0ℚ) → cost_from links f ≡ link.transit *ℚ f k
cost_from-only [] f k link p h = absurd (cc)
cost_from-only (l ∷ links) f zero link p h =
    cost_first l.transit (f 0) _ (cost_from-none links (λ e. f (suc e)) (λ e. h (suc e) (zero_other e))) ∙ ap (λ (m : Link). m.transit *ℚ f 0) (same_Some l link p)
cost_from-only (l ∷ links) f (suc k) link p h =
    cost_later l.transit (f 0) _ _ (h 0 (suc-ne-zero k)) (cost_from-only links (λ e. f (suc e)) k link p (λ e other. h (suc e) (suc_other k e other)))

cost_plus : (r a c s t u : ℚ) → s ≡ t +ℚ u → r *ℚ (a +ℚ c) +ℚ s ≡ (r *ℚ a +ℚ t) +ℚ (r *ℚ c +ℚ u)
cost_plus r a c s t u e = linear_eq (r ∷ a ∷ c ∷ s ∷ t ∷ u ∷ []) (eq e ∷ []) (search reading_of) tt tt

pub cost_from-plus : (links : List Link) (f g : ℕ → ℚ) → cost_from links (λ e. f e +ℚ g e) ≡ cost_from links f +ℚ cost_from links g
cost_from-plus [] f g = linear_eq [] [] (search reading_of) tt tt
cost_from-plus (link ∷ links) f g = cost_plus link.transit (f 0) (g 0) _ _ _ (cost_from-plus links (λ e. f (suc e)) (λ e. g (suc e)))

cost_times : (r a s t c : ℚ) → s ≡ t *ℚ c → r *ℚ (a *ℚ c) +ℚ s ≡ (r *ℚ a +ℚ t) *ℚ c
cost_times r a s t c e = linear_eq (r ∷ a ∷ s ∷ t ∷ c ∷ []) (eq e ∷ []) (search reading_of) tt tt

pub cost_from-times : (links : List Link) (f : ℕ → ℚ) (c : ℚ) → cost_from links (λ e. f e *ℚ c) ≡ cost_from links f *ℚ c
cost_from-times [] f c = zero_of_zero_times c
cost_from-times (link ∷ links) f c = cost_times link.transit (f 0) _ _ c (cost_from-times links (λ e. f (suc e)) c)

pub cost_from-same : (links : List Link) (f g : ℕ → ℚ) → ((e : ℕ) → f e ≡ g e) → cost_from links f ≡ cost_from links g
cost_from-same [] f g h = refl
cost_from-same (link ∷ links) f g h = same_terms link.transit _ _ _ _ (h 0) (cost_from-same links (λ e. f (suc e)) (λ e. g (suc e)) (λ e. h (suc e)))

-- ---- one step
abbrev pub stepped : Step → ℕ → ℚ
stepped step e = if eqb step.link e then directed step.forward 1ℚ else 0ℚ

stepped-here : (step : Step) → stepped step step.link ≡ directed step.forward 1ℚ
stepped-here step = ⊎_elim
    (λ (w : (eqb step.link step.link ≡ true) × (step.link ≡ step.link)). choose _ _ _ w.0)
    (λ (w : (eqb step.link step.link ≡ false) × (step.link ≢ step.link)). absurd (w.1 refl)) (eqb_tells step.link step.link)

stepped-else : (step : Step) (e : ℕ) → step.link ≢ e → stepped step e ≡ 0ℚ
stepped-else step e h = ⊎_elim
    (λ (w : (eqb step.link e ≡ true) × (step.link ≡ e)). absurd (h w.1))
    (λ (w : (eqb step.link e ≡ false) × (step.link ≢ e)). choose_not _ _ _ w.0) (eqb_tells step.link e)

sign_balance : (d s t : Bool) → (if s then directed d 1ℚ else 0ℚ) -ℚ (if t then directed d 1ℚ else 0ℚ)
    ≡ (if (if d then s else t) then 1ℚ else 0ℚ) -ℚ (if (if d then t else s) then 1ℚ else 0ℚ)
sign_balance true s t = refl
sign_balance false true true = linear_eq [] [] (search reading_of) tt tt
sign_balance false true false = linear_eq [] [] (search reading_of) tt tt
sign_balance false false true = linear_eq [] [] (search reading_of) tt tt
sign_balance false false false = linear_eq [] [] (search reading_of) tt tt

at_ends : (d : Bool) (link : Link) (v : ℕ) → (if (if d then eqb link.tail v else eqb link.head v) then 1ℚ else 0ℚ) -ℚ
    (if (if d then eqb link.head v else eqb link.tail v) then 1ℚ else 0ℚ)
    ≡ only_at (begin_of d link) 1ℚ v -ℚ only_at (end_of d link) 1ℚ v
at_ends true link v = refl
at_ends false link v = refl

if_value : (b : Bool) (x y : ℚ) → x ≡ y → (if b then x else 0ℚ) ≡ (if b then y else 0ℚ)
if_value b x y e = ap (λ (z : ℚ). if b then z else 0ℚ) e

stepped-balance : (net : Network) (flows : List ℚ) (step : Step) (x y v : ℕ) → Leads net flows step x y → out_less_in net.links (stepped step) v ≡ only_at x 1ℚ v -ℚ only_at y 1ℚ v
stepped-balance net flows step x y v l =
    same_differences _ _ _ _
    (sum_out-only net.links (stepped step) step.link l.link v l.is_link (stepped-else step) ∙ if_value (eqb l.link.tail v) _ _ (stepped-here step))
    (sum_in-only net.links (stepped step) step.link l.link v l.is_link (stepped-else step) ∙ if_value (eqb l.link.head v) _ _ (stepped-here step))
    ∙ sign_balance step.forward (eqb l.link.tail v) (eqb l.link.head v) ∙ at_ends step.forward l.link v
    ∙ same_differences _ _ _ _ (ap (λ (k : ℕ). only_at k 1ℚ v) l.begins) (ap (λ (k : ℕ). only_at k 1ℚ v) l.ends)

times_sign : (d : Bool) (r : ℚ) → r *ℚ directed d 1ℚ ≡ directed d r
times_sign true r = linear_eq (r ∷ []) [] (search reading_of) tt tt
times_sign false r = linear_eq (r ∷ []) [] (search reading_of) tt tt

stepped-cost : (net : Network) (flows : List ℚ) (step : Step) (x y : ℕ) → Leads net flows step x y → cost_from net.links (stepped step) ≡ step_length net step
stepped-cost net flows step x y l =
    cost_from-only net.links (stepped step) step.link l.link l.is_link (stepped-else step)
    ∙ ap (λ (z : ℚ). l.link.transit *ℚ z) (stepped-here step) ∙ times_sign step.forward l.link.transit
    ∙ ap (λ (r : ℚ). directed step.forward r) (sym (transit_of-is net step.link l.link l.is_link))

-- ---- a walk
less_plus : (a b c d : ℚ) (s t : ℚ) → s ≡ a +ℚ b → t ≡ c +ℚ d → s -ℚ t ≡ (a -ℚ c) +ℚ (b -ℚ d)
less_plus a b c d s t e f = linear_eq (a ∷ b ∷ c ∷ d ∷ s ∷ t ∷ []) (eq e ∷ eq f ∷ []) (search reading_of) tt tt

chain : (p q x y z : ℚ) → p ≡ x -ℚ y → q ≡ y -ℚ z → p +ℚ q ≡ x -ℚ z
chain p q x y z e f = linear_eq (p ∷ q ∷ x ∷ y ∷ z ∷ []) (eq e ∷ eq f ∷ []) (search reading_of) tt tt

itself : (x y : ℚ) → x ≡ y → 0ℚ -ℚ 0ℚ ≡ x -ℚ y
itself x y e = linear_eq (x ∷ y ∷ []) (eq e ∷ []) (search reading_of) tt tt

-- At each node: the crossings out of it minus the crossings into it.
pub crossed-balance : (net : Network) (flows : List ℚ) (walk : List Step) (x y v : ℕ) → IsResidualWalk net flows walk x y
    → out_less_in net.links (crossed walk) v ≡ only_at x 1ℚ v -ℚ only_at y 1ℚ v
crossed-balance net flows [] x y v p = same_differences _ _ _ _ (sum_out-none net.links v) (sum_in-none net.links v) ∙ itself _ _ (ap (λ (k : ℕ). only_at k 1ℚ v) p)
crossed-balance net flows (step ∷ walk) x y v p =
    less_plus _ _ _ _ _ _ (sum_out-plus net.links (stepped step) (crossed walk) v) (sum_in-plus net.links (stepped step) (crossed walk) v)
    ∙ chain _ _ _ (only_at p.0 1ℚ v) _ (stepped-balance net flows step x p.0 v p.1) (crossed-balance net flows walk p.0 y v p.2)

pub crossed-cost : (net : Network) (flows : List ℚ) (walk : List Step) (x y : ℕ) → IsResidualWalk net flows walk x y → cost_from net.links (crossed walk) ≡ walk_length net walk
crossed-cost net flows [] x y p = cost_from-none net.links (λ _. 0ℚ) (λ _. refl)
crossed-cost net flows (step ∷ walk) x y p =
    cost_from-plus net.links (stepped step) (crossed walk) ∙ same_sums _ _ _ _ (stepped-cost net flows step x p.0 p.1) (crossed-cost net flows walk p.0 y p.2)
