-- Sums over the links into a node and out of it.
use Rattle.std.proofs.Common.{◌≡◌, ℕ, zero, suc, List, [], ◌∷◌, Bool, true, false, if◌then◌else◌, eqb, Some, slice_get, ap, refl, ◌∙◌, ◌⊎◌, inl, inr, ⊎_elim}
use Rattle.nf_model_laws.proofs.Common.{eqb-true, eq-eqb, ℚ, 0ℚ, ◌+ℚ◌, ◌*ℚ◌, ◌≤ℚ◌, ◌<ℚ◌, reading_of, le, eq, linear_le, linear_eq, lt, linear_lt, Link, sum_in}
use Rattle.nf_model_laws.proofs.Common.{sum_out, ≤ℚ_refl, lt_or_le_ℚ, <ℚ_irrefl, same_Some}

-- ---- the same terms
pub if_same : (b : Bool) (a c s t : ℚ) → (b ≡ true → a ≡ c) → s ≡ t → (if b then a +ℚ s else s) ≡ (if b then c +ℚ t else t)
if_same true a c s t e f = let d : a ≡ c = e refl in cc
if_same false a c s t e f = f

pub sum_in-same : (links : List Link) (f g : ℕ → ℚ) (v : ℕ) → ((e : ℕ) (link : Link) → slice_get links e ≡ Some link → link.head ≡ v → f e ≡ g e) → sum_in links f v ≡ sum_in links g v
sum_in-same [] f g v h = refl
sum_in-same (link ∷ links) f g v h =
    if_same (eqb link.head v) (f 0) (g 0) _ _ (λ e. h 0 link refl (eqb-true link.head v e))
    (sum_in-same links (λ e. f (suc e)) (λ e. g (suc e)) v (λ e l s. h (suc e) l s))

pub sum_out-same : (links : List Link) (f g : ℕ → ℚ) (v : ℕ) → ((e : ℕ) (link : Link) → slice_get links e ≡ Some link → link.tail ≡ v → f e ≡ g e) → sum_out links f v ≡ sum_out links g v
sum_out-same [] f g v h = refl
sum_out-same (link ∷ links) f g v h =
    if_same (eqb link.tail v) (f 0) (g 0) _ _ (λ e. h 0 link refl (eqb-true link.tail v e))
    (sum_out-same links (λ e. f (suc e)) (λ e. g (suc e)) v (λ e l s. h (suc e) l s))

-- ---- no term
if_none : (b : Bool) (s : ℚ) → s ≡ 0ℚ → (if b then 0ℚ +ℚ s else s) ≡ 0ℚ
if_none true s e = linear_eq (s ∷ []) (eq e ∷ []) (search reading_of) tt tt
if_none false s e = e

pub sum_in-none : (links : List Link) (v : ℕ) → sum_in links (λ _. 0ℚ) v ≡ 0ℚ
sum_in-none [] v = refl
sum_in-none (link ∷ links) v = if_none (eqb link.head v) _ (sum_in-none links v)

pub sum_out-none : (links : List Link) (v : ℕ) → sum_out links (λ _. 0ℚ) v ≡ 0ℚ
sum_out-none [] v = refl
sum_out-none (link ∷ links) v = if_none (eqb link.tail v) _ (sum_out-none links v)

-- ---- terms that move along lines
if_line : (b : Bool) (a c s y z t : ℚ) → s ≡ y +ℚ z *ℚ t → (if b then (a +ℚ c *ℚ t) +ℚ s else s) ≡ (if b then a +ℚ y else y) +ℚ (if b then c +ℚ z else z) *ℚ t
if_line true a c s y z t e = linear_eq (a ∷ c ∷ s ∷ y ∷ z ∷ t ∷ []) (eq e ∷ []) (search reading_of) tt tt
if_line false a c s y z t e = e

pub sum_in-line : (links : List Link) (f g : ℕ → ℚ) (t : ℚ) (v : ℕ) → sum_in links (λ e. f e +ℚ g e *ℚ t) v ≡ sum_in links f v +ℚ sum_in links g v *ℚ t
sum_in-line [] f g t v = linear_eq (t ∷ []) [] (search reading_of) tt tt
sum_in-line (link ∷ links) f g t v = if_line (eqb link.head v) (f 0) (g 0) _ _ _ t (sum_in-line links (λ e. f (suc e)) (λ e. g (suc e)) t v)

pub sum_out-line : (links : List Link) (f g : ℕ → ℚ) (t : ℚ) (v : ℕ) → sum_out links (λ e. f e +ℚ g e *ℚ t) v ≡ sum_out links f v +ℚ sum_out links g v *ℚ t
sum_out-line [] f g t v = linear_eq (t ∷ []) [] (search reading_of) tt tt
sum_out-line (link ∷ links) f g t v = if_line (eqb link.tail v) (f 0) (g 0) _ _ _ t (sum_out-line links (λ e. f (suc e)) (λ e. g (suc e)) t v)

-- ---- order
pub if_order : (b : Bool) (a c s t : ℚ) → (b ≡ true → a ≤ℚ c) → s ≤ℚ t → (if b then a +ℚ s else s) ≤ℚ (if b then c +ℚ t else t)
if_order true a c s t h k = let l : a ≤ℚ c = h refl in linear_le (a ∷ c ∷ s ∷ t ∷ []) (le l ∷ le k ∷ []) (search reading_of) tt
if_order false a c s t h k = k

pub sum_in-order : (links : List Link) (f g : ℕ → ℚ) (v : ℕ) → ((e : ℕ) (link : Link) → slice_get links e ≡ Some link → link.head ≡ v → f e ≤ℚ g e) → sum_in links f v ≤ℚ sum_in links g v
sum_in-order [] f g v h = ≤ℚ_refl 0ℚ
sum_in-order (link ∷ links) f g v h =
    if_order (eqb link.head v) (f 0) (g 0) _ _ (λ e. h 0 link refl (eqb-true link.head v e))
    (sum_in-order links (λ e. f (suc e)) (λ e. g (suc e)) v (λ e l s. h (suc e) l s))

pub sum_out-order : (links : List Link) (f g : ℕ → ℚ) (v : ℕ) → ((e : ℕ) (link : Link) → slice_get links e ≡ Some link → link.tail ≡ v → f e ≤ℚ g e)
    → sum_out links f v ≤ℚ sum_out links g v
sum_out-order [] f g v h = ≤ℚ_refl 0ℚ
sum_out-order (link ∷ links) f g v h =
    if_order (eqb link.tail v) (f 0) (g 0) _ _ (λ e. h 0 link refl (eqb-true link.tail v e))
    (sum_out-order links (λ e. f (suc e)) (λ e. g (suc e)) v (λ e l s. h (suc e) l s))

if_nn : (b : Bool) (a s : ℚ) → 0ℚ ≤ℚ a → 0ℚ ≤ℚ s → 0ℚ ≤ℚ (if b then a +ℚ s else s)
if_nn true a s h k = linear_le (a ∷ s ∷ []) (le h ∷ le k ∷ []) (search reading_of) tt
if_nn false a s h k = k

pub sum_in-nn : (links : List Link) (f : ℕ → ℚ) (v : ℕ) → ((e : ℕ) → 0ℚ ≤ℚ f e) → 0ℚ ≤ℚ sum_in links f v
sum_in-nn [] f v n = ≤ℚ_refl 0ℚ
sum_in-nn (link ∷ links) f v n = if_nn (eqb link.head v) (f 0) _ (n 0) (sum_in-nn links (λ e. f (suc e)) v (λ e. n (suc e)))

pub sum_out-nn : (links : List Link) (f : ℕ → ℚ) (v : ℕ) → ((e : ℕ) → 0ℚ ≤ℚ f e) → 0ℚ ≤ℚ sum_out links f v
sum_out-nn [] f v n = ≤ℚ_refl 0ℚ
sum_out-nn (link ∷ links) f v n = if_nn (eqb link.tail v) (f 0) _ (n 0) (sum_out-nn links (λ e. f (suc e)) v (λ e. n (suc e)))

-- ---- where no term is negative, each is at most the sum
if_rest : (b : Bool) (a s y : ℚ) → 0ℚ ≤ℚ a → y ≤ℚ s → y ≤ℚ (if b then a +ℚ s else s)
if_rest true a s y h k = linear_le (a ∷ s ∷ y ∷ []) (le h ∷ le k ∷ []) (search reading_of) tt
if_rest false a s y h k = k

if_first : (b : Bool) (a s : ℚ) → b ≡ true → 0ℚ ≤ℚ s → a ≤ℚ (if b then a +ℚ s else s)
if_first true a s e h = linear_le (a ∷ s ∷ []) (le h ∷ []) (search reading_of) tt
if_first false a s e h = absurd (cc)

pub sum_in-each : (links : List Link) (f : ℕ → ℚ) (v : ℕ) → ((e : ℕ) → 0ℚ ≤ℚ f e) → (e : ℕ) (link : Link) → slice_get links e ≡ Some link → link.head ≡ v → f e ≤ℚ sum_in links f v
sum_in-each [] f v n e link p at = absurd (cc)
sum_in-each (l ∷ links) f v n zero link p at =
    if_first (eqb l.head v) (f 0) _ (eq-eqb l.head v (ap (λ (k : Link). k.head) (same_Some l link p) ∙ at))
    (sum_in-nn links (λ e. f (suc e)) v (λ e. n (suc e)))
sum_in-each (l ∷ links) f v n (suc e) link p at = if_rest (eqb l.head v) (f 0) _ _ (n 0) (sum_in-each links (λ e. f (suc e)) v (λ e. n (suc e)) e link p at)

pub sum_out-each : (links : List Link) (f : ℕ → ℚ) (v : ℕ) → ((e : ℕ) → 0ℚ ≤ℚ f e) → (e : ℕ) (link : Link) → slice_get links e ≡ Some link → link.tail ≡ v → f e ≤ℚ sum_out links f v
sum_out-each [] f v n e link p at = absurd (cc)
sum_out-each (l ∷ links) f v n zero link p at =
    if_first (eqb l.tail v) (f 0) _ (eq-eqb l.tail v (ap (λ (k : Link). k.tail) (same_Some l link p) ∙ at))
    (sum_out-nn links (λ e. f (suc e)) v (λ e. n (suc e)))
sum_out-each (l ∷ links) f v n (suc e) link p at = if_rest (eqb l.tail v) (f 0) _ _ (n 0) (sum_out-each links (λ e. f (suc e)) v (λ e. n (suc e)) e link p at)

-- ---- where the sum is above 0, one of its terms is
if_some : (b : Bool) (a s : ℚ) → 0ℚ <ℚ (if b then a +ℚ s else s) → ((b ≡ true) × (0ℚ <ℚ a)) ⊎ (0ℚ <ℚ s)
if_some true a s h = ⊎_elim
    (λ (k : 0ℚ <ℚ a). inl (refl, k))
    (λ (k : a ≤ℚ 0ℚ). inr (linear_lt (a ∷ s ∷ []) (lt h ∷ le k ∷ []) (search reading_of) tt))
    (lt_or_le_ℚ 0ℚ a)
if_some false a s h = inr h

-- some link into the node, or out of it, with its number
abbrev pub HasIn : List Link → (ℕ → ℚ) → ℕ → Type 0
HasIn links f v = (e : ℕ) × (link : Link) × (slice_get links e ≡ Some link) × (link.head ≡ v) × (0ℚ <ℚ f e)

abbrev pub HasOut : List Link → (ℕ → ℚ) → ℕ → Type 0
HasOut links f v = (e : ℕ) × (link : Link) × (slice_get links e ≡ Some link) × (link.tail ≡ v) × (0ℚ <ℚ f e)

pub sum_in-some : (links : List Link) (f : ℕ → ℚ) (v : ℕ) → 0ℚ <ℚ sum_in links f v → HasIn links f v
sum_in-some [] f v h = absurd (<ℚ_irrefl 0ℚ h)
sum_in-some (link ∷ links) f v h = ⊎_elim
    (λ (w : (eqb link.head v ≡ true) × (0ℚ <ℚ f 0)). (0, link, refl, eqb-true link.head v w.0, w.1))
    (λ (w : 0ℚ <ℚ sum_in links (λ e. f (suc e)) v). let r : HasIn links (λ e. f (suc e)) v = sum_in-some links (λ e. f (suc e)) v w in (suc r.0, r.1, r.2, r.3, r.4))
    (if_some (eqb link.head v) (f 0) _ h)

pub sum_out-some : (links : List Link) (f : ℕ → ℚ) (v : ℕ) → 0ℚ <ℚ sum_out links f v → HasOut links f v
sum_out-some [] f v h = absurd (<ℚ_irrefl 0ℚ h)
sum_out-some (link ∷ links) f v h = ⊎_elim
    (λ (w : (eqb link.tail v ≡ true) × (0ℚ <ℚ f 0)). (0, link, refl, eqb-true link.tail v w.0, w.1))
    (λ (w : 0ℚ <ℚ sum_out links (λ e. f (suc e)) v). let r : HasOut links (λ e. f (suc e)) v = sum_out-some links (λ e. f (suc e)) v w in (suc r.0, r.1, r.2, r.3, r.4))
    (if_some (eqb link.tail v) (f 0) _ h)
