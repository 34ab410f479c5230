-- Walks along hops.
use Rattle.std.proofs.Common.{◌≡◌, ◌≢◌, ℕ, zero, suc, take, ap, ◌+◌, ◌<◌, ◌≤◌, List, [], ◌∷◌, length, get_or, ⊎_elim, eqb, true, false, Bool, Some}
use Rattle.std.proofs.Common.{slice_get, refl, sym, subst, arith}
use Rattle.nf_graph.proofs.Common.{slice_get_within, slice_get_read, eqb_tells, Has, Hop, IsHop, IsWalk, IsClosed}

pub IsHop-unique : (hops : List Hop) (e : ℕ) (a b : Hop) → IsHop hops e a → IsHop hops e b → a ≡ b
IsHop-unique hops e a b p q = cc

-- one hop more at the end

-- from flags that no hop leaves, no walk leaves them
pub IsClosed-walk : (hops : List Hop) (flags : List Bool) (walk : List ℕ) (v w : ℕ) → IsClosed hops flags → Has flags v → IsWalk hops walk v w → Has flags w
IsClosed-walk hops flags [] v w c h p = subst (λ (n : ℕ). Has flags n) p h
IsClosed-walk hops flags (e ∷ walk) v w c h p =
    IsClosed-walk hops flags walk p.0.head w c (c e p.0 p.1 (subst (λ (n : ℕ). Has flags n) (sym p.2) h)) p.3

-- ---- loops over hops

-- what holds of each hop before place i, and of the hop there, holds of each before the next place
pub each_more : (P : ℕ → Hop → Type 0) (hops : List Hop) (i : ℕ) (here : Hop) → ((k : ℕ) (hop : Hop) → k < i → IsHop hops k hop → P k hop)
    → IsHop hops i here → P i here → (k : ℕ) (hop : Hop) → k < i + 1 → IsHop hops k hop → P k hop
each_more P hops i here so_far p holds k hop h q = ⊎_elim
    (λ (w : (eqb k i ≡ true) × (k ≡ i)). subst (λ (n : ℕ). (x : Hop) → IsHop hops n x → P n x) (sym w.1) (λ x r. subst (λ (y : Hop). P i y) (IsHop-unique hops i here x p r) holds) hop q)
    (λ (w : (eqb k i ≡ false) × (k ≢ i)). so_far k hop (omega arith) q)
    (eqb_tells k i)

-- and after the last place of each hop
pub each_all : (P : ℕ → Hop → Type 0) (hops : List Hop) (i : ℕ) → ((k : ℕ) (hop : Hop) → k < i → IsHop hops k hop → P k hop) → length hops ≤ i
    → (k : ℕ) (hop : Hop) → IsHop hops k hop → P k hop
each_all P hops i so_far h k hop q = let w : k < length hops = slice_get_within hops k hop q in so_far k hop (omega arith) q

-- the hop that was read at a place
pub IsHop-read : (hops : List Hop) (i : ℕ) (hop : Hop) → i < length hops → hop ≡ get_or hops i hop → IsHop hops i hop
IsHop-read hops i hop h e = slice_get_read hops (length hops) i hop refl h e

-- each place of the list has a hop
pub hop_at : (hops : List Hop) (e : ℕ) → e < length hops → (hop : Hop) × IsHop hops e hop
hop_at [] e h = absurd (omega arith)
hop_at (hop ∷ hops) zero h = (hop, refl)
hop_at (hop ∷ hops) (suc e) h = hop_at hops e (omega arith)

-- ---- tests of numbers
pub same_from_test : (a b : ℕ) → true ≡ eqb a b → a ≡ b
same_from_test a b e = ⊎_elim
    (λ (w : (eqb a b ≡ true) × (a ≡ b)). w.1)
    (λ (w : (eqb a b ≡ false) × (a ≢ b)). absurd (let f : eqb a b ≡ false = w.0 in cc)) (eqb_tells a b)

pub apart_from_test : (a b : ℕ) → false ≡ eqb a b → a ≡ b → ⊥
apart_from_test a b e h = ⊎_elim
    (λ (w : (eqb a b ≡ true) × (a ≡ b)). let f : eqb a b ≡ true = w.0 in cc)
    (λ (w : (eqb a b ≡ false) × (a ≢ b)). w.1 h) (eqb_tells a b)

-- ---- walks up to a hop of theirs
pub IsWalk-take : (hops : List Hop) (walk : List ℕ) (v w i e : ℕ) (hop : Hop) → IsWalk hops walk v w → slice_get walk i ≡ Some e → IsHop hops e hop
    → IsWalk hops (take (suc i) walk) v hop.head
IsWalk-take hops [] v w i e hop h p q = absurd (cc)
IsWalk-take hops (f ∷ walk) v w zero e hop h p q = (h.0, h.1, h.2, ap (λ (x : Hop). x.head) (IsHop-unique hops e h.0 hop (subst (λ (n : ℕ). IsHop hops n h.0) (first f e p) h.1) q))
  where
    first : (f e : ℕ) → Some f ≡ Some e → f ≡ e
    first f e p = cc
IsWalk-take hops (f ∷ walk) v w (suc i) e hop h p q = (h.0, h.1, h.2, IsWalk-take hops walk h.0.head w i e hop h.3 p q)

-- the places of what is taken
pub take-at : (walk : List ℕ) (n i e : ℕ) → slice_get (take n walk) i ≡ Some e → slice_get walk i ≡ Some e
take-at walk zero i e p = absurd (cc)
take-at [] (suc n) i e p = absurd (cc)
take-at (f ∷ walk) (suc n) zero e p = p
take-at (f ∷ walk) (suc n) (suc i) e p = take-at walk n i e p

pub take_some : (walk : List ℕ) (i e : ℕ) → slice_get walk i ≡ Some e → 0 < length (take (suc i) walk)
take_some [] i e p = absurd (cc)
take_some (f ∷ walk) i e p = omega arith
