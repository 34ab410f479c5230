-- Links as hops, and walks along them.
use Rattle.std.proofs.Common.{◌≡◌, ℕ, List, [], ◌∷◌, ◌++◌, Option, Some, None, slice_get, unwrap_or, option_map, map, sym, ap, subst, refl, ◌∙◌}
use Rattle.nf_model_laws.proofs.Common.{slice_get-map, ℚ, 0ℚ, ◌+ℚ◌, reading_of, eq, linear_eq, number_at, Hop, IsHop, IsWalk, transit_of, transit_sum, Link, Network, IsLink, hop_of, hops}

-- ---- entries
pub number_at-is : (xs : List ℚ) (i : ℕ) (x : ℚ) → slice_get xs i ≡ Some x → number_at xs i ≡ x
number_at-is xs i x e = ap (λ (o : Option ℚ). unwrap_or o 0ℚ) e

pub IsLink-unique : (net : Network) (e : ℕ) (a b : Link) → IsLink net e a → IsLink net e b → a ≡ b
IsLink-unique net e a b p q = cc

-- ---- hops
pub transit_of-hop : (hops : List Hop) (e : ℕ) (hop : Hop) → IsHop hops e hop → transit_of hops e ≡ hop.transit
transit_of-hop hops e hop p =
    let f : Hop → ℚ = λ h. h.transit in
    number_at-is (map f hops) e hop.transit (slice_get-map f hops e ∙ ap (option_map f) p)

-- one hop more at the end of a walk
pub IsWalk-append : (hops : List Hop) (walk : List ℕ) (v e : ℕ) (hop : Hop) → IsWalk hops walk v hop.tail → IsHop hops e hop → IsWalk hops (walk ++ e ∷ []) v hop.head
IsWalk-append hops [] v e hop w p = (hop, p, sym w, refl)
IsWalk-append hops (f ∷ walk) v e hop w p = (w.0, w.1, w.2, IsWalk-append hops walk w.0.head e hop w.3 p)

-- ---- the sum along a walk with one hop more at the end
alone : (a : ℚ) → a +ℚ 0ℚ ≡ 0ℚ +ℚ a
alone a = linear_eq (a ∷ []) [] (search reading_of) tt tt

one_more : (a b c s : ℚ) → s ≡ b +ℚ c → a +ℚ s ≡ a +ℚ b +ℚ c
one_more a b c s e = linear_eq (a ∷ b ∷ c ∷ s ∷ []) (eq e ∷ []) (search reading_of) tt tt

pub transit_sum-append : (hops : List Hop) (walk : List ℕ) (e : ℕ) → transit_sum hops (walk ++ e ∷ []) ≡ transit_sum hops walk +ℚ transit_of hops e
transit_sum-append hops [] e = alone (transit_of hops e)
transit_sum-append hops (f ∷ walk) e = one_more _ _ _ _ (transit_sum-append hops walk e)

-- ---- links as hops
pub hop_at : (net : Network) (e : ℕ) (link : Link) → IsLink net e link → IsHop (hops net) e (hop_of link)
hop_at net e link p = slice_get-map hop_of net.links e ∙ ap (option_map hop_of) p

-- a hop of a network is a link without its capacity
pub link_at : (net : Network) (e : ℕ) (hop : Hop) → IsHop (hops net) e hop → (link : Link) × IsLink net e link × (hop_of link ≡ hop)
link_at net e hop p = found (slice_get net.links e) refl (sym (slice_get-map hop_of net.links e) ∙ p)
  where
    found : (o : Option Link) → slice_get net.links e ≡ o → option_map hop_of o ≡ Some hop → (link : Link) × IsLink net e link × (hop_of link ≡ hop)
    found None e h = absurd (cc)
    found (Some link) e h = (link, e, cc)

-- a property of a hop is a property of its link
pub by_link : (net : Network) (P : Hop → Type 0) (e : ℕ) → ((link : Link) → IsLink net e link → P (hop_of link)) → (hop : Hop) → IsHop (hops net) e hop → P hop
by_link net P e f hop p = let l : (link : Link) × IsLink net e link × (hop_of link ≡ hop) = link_at net e hop p in subst P l.2 (f l.0 l.1)

pub transit_of-is : (net : Network) (e : ℕ) (link : Link) → IsLink net e link → transit_of (hops net) e ≡ link.transit
transit_of-is net e link p = transit_of-hop (hops net) e (hop_of link) (hop_at net e link p)

-- a walk that begins with a link
pub IsWalk-link : (net : Network) (e : ℕ) (walk : List ℕ) (w : ℕ) (link : Link) → IsLink net e link → IsWalk (hops net) walk link.head w → IsWalk (hops net) (e ∷ walk) link.tail w
IsWalk-link net e walk w link p h = (hop_of link, hop_at net e link p, refl, h)

-- its first link
pub record StartsWith (net : Network) (e : ℕ) (walk : List ℕ) (v w : ℕ) : Type 0 where
  pub link : Link
  pub is_link : IsLink net e link
  pub tail : link.tail ≡ v
  pub rest : IsWalk (hops net) walk link.head w

pub IsWalk-starts : (net : Network) (e : ℕ) (walk : List ℕ) (v w : ℕ) → IsWalk (hops net) (e ∷ walk) v w → StartsWith net e walk v w
IsWalk-starts net e walk v w h =
    let l : (link : Link) × IsLink net e link × (hop_of link ≡ h.0) = link_at net e h.0 h.1 in
    record {
      link = l.0;
      is_link = l.1;
      tail = ap (λ (k : Hop). k.tail) l.2 ∙ h.2;
      rest = subst (λ (k : Hop). IsWalk (hops net) walk k.head w) (sym l.2) h.3;
    }
