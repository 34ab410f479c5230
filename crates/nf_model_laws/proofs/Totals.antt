-- The surpluses of all nodes add up to 0, since each link leaves one node and enters one node. Also sums over all links.
use Rattle.std.proofs.Common.{◌≡◌, ◌≢◌, ℕ, suc, ◌<◌, List, [], ◌∷◌, ⊎_elim, true, false, eqb, sym, subst, refl, ◌∙◌, Bool, if◌then◌else◌, Some, slice_get, zero}
use Rattle.nf_model_laws.proofs.Common.{eqb_tells, ℚ, 0ℚ, 1ℚ, ◌+ℚ◌, ◌-ℚ◌, ◌*ℚ◌, ◌≤ℚ◌, reading_of, eq, linear_eq, le, ≤ℚ_refl, same_sums, sum_le, number_at}
use Rattle.nf_model_laws.proofs.Common.{Link, Network, IsNetwork, sum_in, sum_out}
use Rattle.nf_model.specs.ThinFlow.{Sets, surplus, IsThinFlow}
use Rattle.nf_model_laws.proofs.Potential.{sum_to, sum_to-same, sum_to-plus, sum_to-only, only_at, only_at-here, only_at-else, carried, carried-is, EndsBelow, out_less_in, sum_to-zero, first_le, rest_le}

carried-level : (links : List Link) (f : ℕ → ℚ) → carried (λ _. 1ℚ) links f ≡ 0ℚ
carried-level [] f = refl
carried-level (link ∷ links) f = level (f 0) _ (carried-level links (λ e. f (suc e)))
  where
    level : (x p : ℚ) → p ≡ 0ℚ → x *ℚ (1ℚ -ℚ 1ℚ) +ℚ p ≡ 0ℚ
    level x p e = linear_eq (x ∷ p ∷ []) (eq e ∷ []) (search reading_of) tt tt

pub all_zero : (n : ℕ) (links : List Link) (f : ℕ → ℚ) → EndsBelow n links → sum_to n (out_less_in links f) ≡ 0ℚ
all_zero n links f b =
    sum_to-same n (out_less_in links f) (λ v. 1ℚ *ℚ out_less_in links f v) (λ v _. one (out_less_in links f v)) ∙ sym (carried-is n (λ _. 1ℚ) links f b) ∙ carried-level links f
  where
    one : (y : ℚ) → y ≡ 1ℚ *ℚ y
    one y = linear_eq (y ∷ []) [] (search reading_of) tt tt

-- if only two nodes have a nonzero surplus, these two cancel
pub two_cancel : (n s t : ℕ) (f : ℕ → ℚ) → s < n → t < n → s ≢ t → ((v : ℕ) → v < n → v ≢ s → v ≢ t → f v ≡ 0ℚ) → sum_to n f ≡ 0ℚ → f s +ℚ f t ≡ 0ℚ
two_cancel n s t f h k other none e =
    total (f s) (f t) _ _ (sum_to-only n s (f s) h) (sum_to-only n t (f t) k)
    (sym (sum_to-plus n (λ v. only_at s (f s) v +ℚ only_at t (f t) v) (only_at s (f s)) (only_at t (f t)) (λ v. refl))
    ∙ sym (sum_to-same n f (λ v. only_at s (f s) v +ℚ only_at t (f t) v) at) ∙ e)
  where
    total : (a b p q : ℚ) → p ≡ a → q ≡ b → p +ℚ q ≡ 0ℚ → a +ℚ b ≡ 0ℚ
    total a b p q e f g = linear_eq (a ∷ b ∷ p ∷ q ∷ []) (eq e ∷ eq f ∷ eq g ∷ []) (search reading_of) tt tt

    sum_of : (y p q : ℚ) → (c d : ℚ) → p ≡ c → q ≡ d → y ≡ c +ℚ d → y ≡ p +ℚ q
    sum_of y p q c d e f g = linear_eq (y ∷ p ∷ q ∷ c ∷ d ∷ []) (eq e ∷ eq f ∷ eq g ∷ []) (search reading_of) tt tt

    at : (v : ℕ) → v < n → f v ≡ only_at s (f s) v +ℚ only_at t (f t) v
    at v l = ⊎_elim
        (λ (a : (eqb v s ≡ true) × (v ≡ s)). subst (λ (k : ℕ). f k ≡ only_at s (f s) k +ℚ only_at t (f t) k) (sym a.1)
        (sum_of (f s) _ _ (f s) 0ℚ (only_at-here s (f s)) (only_at-else t (f t) s (λ e. other (sym e))) (linear_eq (f s ∷ []) [] (search reading_of) tt tt)))
        (λ (a : (eqb v s ≡ false) × (v ≢ s)). ⊎_elim
        (λ (b : (eqb v t ≡ true) × (v ≡ t)). subst (λ (k : ℕ). f k ≡ only_at s (f s) k +ℚ only_at t (f t) k) (sym b.1)
        (sum_of (f t) _ _ 0ℚ (f t) (only_at-else s (f s) t other) (only_at-here t (f t)) (linear_eq (f t ∷ []) [] (search reading_of) tt tt)))
        (λ (b : (eqb v t ≡ false) × (v ≢ t)). sum_of (f v) _ _ 0ℚ 0ℚ (only_at-else s (f s) v (λ e. a.1 (sym e))) (only_at-else t (f t) v (λ e. b.1 (sym e)))
        (none v l a.1 b.1 ∙ linear_eq [] [] (search reading_of) tt tt))
        (eqb_tells v t))
        (eqb_tells v s)

module _ (net : Network) (good : IsNetwork net) where
  -- the surplus of the source arrives at the sink
  pub sink_takes : (f : ℕ → ℚ) (rate : ℚ) → out_less_in net.links f net.source ≡ rate
      → ((v : ℕ) → v < net.nodes → v ≢ net.source → v ≢ net.sink → out_less_in net.links f v ≡ 0ℚ) → out_less_in net.links f net.sink ≡ 0ℚ -ℚ rate
  sink_takes f rate e inner = taken _ _ rate e
      (two_cancel net.nodes net.source net.sink (out_less_in net.links f) good.source good.sink good.apart inner
      (all_zero net.nodes net.links f (λ e link p. (good.tails e link p, good.heads e link p))))
    where
      taken : (y z r : ℚ) → y ≡ r → y +ℚ z ≡ 0ℚ → z ≡ 0ℚ -ℚ r
      taken y z r e f = linear_eq (y ∷ z ∷ r ∷ []) (eq e ∷ eq f ∷ []) (search reading_of) tt tt

  pub IsThinFlow-sink : (sets : Sets) (rate : ℚ) (flows slopes : List ℚ) → IsThinFlow net sets rate flows slopes → surplus net flows net.sink ≡ 0ℚ -ℚ rate
  IsThinFlow-sink sets rate flows slopes thin = sink_takes (number_at flows) rate thin.source thin.inner

-- ---- the sum over all links, as sums over the nodes of what comes in or goes out there
abbrev pub total : List Link → (ℕ → ℚ) → ℚ
total [] f = 0ℚ
total (link ∷ links) f = f 0 +ℚ total links (λ e. f (suc e))

if_split : (b : Bool) (a s : ℚ) → (if b then a +ℚ s else s) ≡ (if b then a else 0ℚ) +ℚ s
if_split true a s = refl
if_split false a s = linear_eq (s ∷ []) [] (search reading_of) tt tt

pub total_in : (n : ℕ) (links : List Link) (f : ℕ → ℚ) → EndsBelow n links → sum_to n (sum_in links f) ≡ total links f
total_in n [] f below = sum_to-zero n (λ v. 0ℚ) (λ k low. refl)
total_in n (link ∷ links) f below =
    sum_to-plus n (sum_in (link ∷ links) f) (only_at link.head (f 0)) (sum_in links (λ e. f (suc e))) (λ v. if_split (eqb link.head v) (f 0) (sum_in links (λ e. f (suc e)) v))
    ∙ same_sums _ _ _ _ (sum_to-only n link.head (f 0) (below 0 link refl).1) (total_in n links (λ e. f (suc e)) (λ e l p. below (suc e) l p))

pub total_out : (n : ℕ) (links : List Link) (f : ℕ → ℚ) → EndsBelow n links → sum_to n (sum_out links f) ≡ total links f
total_out n [] f below = sum_to-zero n (λ v. 0ℚ) (λ k low. refl)
total_out n (link ∷ links) f below =
    sum_to-plus n (sum_out (link ∷ links) f) (only_at link.tail (f 0)) (sum_out links (λ e. f (suc e))) (λ v. if_split (eqb link.tail v) (f 0) (sum_out links (λ e. f (suc e)) v))
    ∙ same_sums _ _ _ _ (sum_to-only n link.tail (f 0) (below 0 link refl).0) (total_out n links (λ e. f (suc e)) (λ e l p. below (suc e) l p))

-- ---- link by link
pub total-order : (links : List Link) (f g : ℕ → ℚ) → ((e : ℕ) (link : Link) → slice_get links e ≡ Some link → f e ≤ℚ g e) → total links f ≤ℚ total links g
total-order [] f g h = ≤ℚ_refl 0ℚ
total-order (link ∷ links) f g h = sum_le _ _ _ _ (h 0 link refl) (total-order links (λ e. f (suc e)) (λ e. g (suc e)) (λ e l p. h (suc e) l p))

-- where g is nowhere above f, but its sum is at least that of f, they are the same link by link
pub total-each : (links : List Link) (f g : ℕ → ℚ) → ((e : ℕ) (link : Link) → slice_get links e ≡ Some link → g e ≤ℚ f e) → total links f ≤ℚ total links g
    → (e : ℕ) (link : Link) → slice_get links e ≡ Some link → f e ≤ℚ g e
total-each [] f g h k e link p = absurd (cc)
total-each (l ∷ links) f g h k zero link p = first_le (g 0) (f 0) _ _ (total-order links (λ e. g (suc e)) (λ e. f (suc e)) (λ e m q. h (suc e) m q)) k
total-each (l ∷ links) f g h k (suc e) link p =
    total-each links (λ e. f (suc e)) (λ e. g (suc e)) (λ e m q. h (suc e) m q) (rest_le (g 0) (f 0) _ _ (h 0 l refl) k) e link p
