-- Properties of a listed pattern on the links of a network.
use Rattle.std.proofs.Common.{◌≡◌, ◌≢◌, ℕ, zero, suc, ◌<◌, List, [], ◌∷◌, length, ◌⊎◌, inl, inr, ⊎_elim, Bool, true, false, Option, Some, None, slice_get}
use Rattle.std.proofs.Common.{unwrap_or, sym, ap, ◌∙◌, arith}
use Rattle.nf_thin_laws.proofs.Common.{AllByRecursion, true≢false, none-some, same_Some, slice_get_within, ℚ, ◌*ℚ◌, ◌<ℚ◌, 0ℚ, State, Tight, Full, Zero, Has}
use Rattle.nf_thin_laws.proofs.Common.{Hop, IsHop, Link, Network, IsLink, hop_of, hops, unbounded, Sets, Enters, Pattern, HasState, NeedsState, IsPattern}
use Rattle.nf_thin_laws.proofs.Common.{Fills, IsPositive, link_at, AreSets, EachIsLed, entry}
use Rattle.nf_thin_laws.proofs.Flags.{flag, flag-cases}

-- A filled link has a capacity, and two flows that fill it do so by this capacity.
pub record FillBoth (x t y v : ℚ) : Type 0 where
  pub rate : ℚ
  pub positive : 0ℚ <ℚ rate
  pub first : x ≡ rate *ℚ t
  pub second : y ≡ rate *ℚ v

pub FillBoth-of : (capacity : Option ℚ) (x t y v : ℚ) → IsPositive capacity → Fills capacity x t → Fills capacity y v → FillBoth x t y v
FillBoth-of capacity x t y v positive f g = record {
  rate = f.0;
  positive = positive f.0 f.1;
  first = f.2;
  second = g.2 ∙ ap (λ (z : ℚ). z *ℚ v) (same_Some g.0 f.0 (sym g.1 ∙ f.1));
}

-- The cases of a link in a pattern: it has a state, is resetting, or is neither active nor resetting.
pub data Stands (pattern : Pattern) (sets : Sets) (e : ℕ) : Type 0 where
  with_state : (state : State) → HasState pattern e state → flag sets.resetting e ≡ false → Has sets.active e → Stands pattern sets e
  resets : slice_get pattern e ≡ Some None → flag sets.resetting e ≡ true → Has sets.active e → Stands pattern sets e
  inactive : slice_get pattern e ≡ Some None → flag sets.resetting e ≡ false → (Has sets.active e → ⊥) → Stands pattern sets e

-- A link by which a node is entered, so that the pattern is listed.
pub data Leads (pattern : Pattern) (sets : Sets) (e : ℕ) : Type 0 where
  by_tight : HasState pattern e Tight → flag sets.resetting e ≡ false → Leads pattern sets e
  by_full : HasState pattern e Full → flag sets.resetting e ≡ false → Leads pattern sets e
  by_reset : slice_get pattern e ≡ Some None → flag sets.resetting e ≡ true → Leads pattern sets e

module _ (net : Network) (sets : Sets) (pattern : Pattern) (are : AreSets net sets) (is_pattern : IsPattern sets (unbounded net) pattern) where
  in_pattern : (e : ℕ) (link : Link) → IsLink net e link → (state : Option State) × (slice_get pattern e ≡ Some state)
  in_pattern e link p = entry pattern e
      (let l : e < length net.links = slice_get_within net.links e link p in let c : length pattern ≡ length sets.active = is_pattern.count in
      let d : length sets.active ≡ length net.links = are.count in omega arith)

  -- a link that needs no state has none
  without_state : (e : ℕ) (link : Link) → IsLink net e link → (NeedsState sets e → ⊥) → slice_get pattern e ≡ Some None
  without_state e link p none = go (in_pattern e link p)
    where
      go : (state : Option State) × (slice_get pattern e ≡ Some state) → slice_get pattern e ≡ Some None
      go (None, h) = h
      go (Some state, h) = absurd (none ((is_pattern.states e).1 (state, h)))

  pub stands : (e : ℕ) (link : Link) → IsLink net e link → Stands pattern sets e
  stands e link p = ⊎_elim
      (λ (r : (flag sets.resetting e ≡ true) × Has sets.resetting e). resets (without_state e link p (λ n. n.1 r.1)) r.0 (are.resetting e r.1))
      (λ (r : (flag sets.resetting e ≡ false) × (Has sets.resetting e → ⊥)). ⊎_elim
      (λ (a : (flag sets.active e ≡ true) × Has sets.active e). let s : (state : State) × HasState pattern e state = (is_pattern.states e).0 (a.1, r.1) in with_state s.0 s.1 r.0 a.1)
      (λ (a : (flag sets.active e ≡ false) × (Has sets.active e → ⊥)). inactive (without_state e link p (λ n. a.1 n.0)) r.0 a.1)
      (flag-cases sets.active e))
      (flag-cases sets.resetting e)

  not_reset : (e : ℕ) (state : State) → HasState pattern e state → flag sets.resetting e ≡ false
  not_reset e state h = ⊎_elim
      (λ (w : (flag sets.resetting e ≡ true) × Has sets.resetting e). absurd (((is_pattern.states e).1 (state, h)).1 w.1))
      (λ (w : (flag sets.resetting e ≡ false) × (Has sets.resetting e → ⊥)). w.0)
      (flag-cases sets.resetting e)

  -- Each node except the source is entered by an active link into it.
  abbrev pub Led : ℕ → Type 0
  Led v = (e : ℕ) × (link : Link) × Enters net sets v e link × Leads pattern sets e

  led_by : (v e : ℕ) (hop : Hop) → IsHop (hops net) e hop → hop.head ≡ v → Has sets.active e → ((link : Link) → IsLink net e link → Leads pattern sets e) → Led v
  led_by v e hop p at a f =
      let l : (link : Link) × IsLink net e link × (hop_of link ≡ hop) = link_at net e hop p in
      (e, l.0, record { is_link = l.1; active = a; head = ap (λ (h : Hop). h.head) l.2 ∙ at }, f l.0 l.1)

  pub led : EachIsLed net sets pattern → (v : ℕ) → v < net.nodes → v ≢ net.source → Led v
  led leads v h other = go (leads v h other)
    where
      go : (e : ℕ) × (hop : Hop) × IsHop (hops net) e hop × (hop.head ≡ v) × (Has sets.resetting e ⊎ (HasState pattern e Tight ⊎ HasState pattern e Full)) → Led v
      go (e, hop, p, at, inl r) = led_by v e hop p at (are.resetting e r) (λ link q. by_reset (without_state e link q (λ n. n.1 r)) (ap (λ (o : Option Bool). unwrap_or o false) r))
      go (e, hop, p, at, inr (inl s)) = led_by v e hop p at ((is_pattern.states e).1 (Tight, s)).0 (λ link q. by_tight s (not_reset e Tight s))
      go (e, hop, p, at, inr (inr s)) = led_by v e hop p at ((is_pattern.states e).1 (Full, s)).0 (λ link q. by_full s (not_reset e Full s))

-- ---- a pattern with no state but Zero, and no resetting link
all_same : {A : Type 0} (x : A) (xs : List A) → AllByRecursion (λ y. y ≡ x) xs → (e : ℕ) (y : A) → slice_get xs e ≡ Some y → y ≡ x
all_same x [] all e y at = absurd (none-some y at)
all_same x (z ∷ xs) all zero y at = sym (same_Some z y at) ∙ all.0
all_same x (z ∷ xs) all (suc e) y at = all_same x xs all.1 e y at

-- No link leads to its head.
pub none_leads : (resetting : List Bool) (pattern : Pattern) → AllByRecursion (λ flag. flag ≡ false) resetting → AllByRecursion (λ state. state ≡ Some Zero) pattern
    → (e : ℕ) → Has resetting e ⊎ (HasState pattern e Tight ⊎ HasState pattern e Full) → ⊥
none_leads resetting pattern still zeros e (inl h) = true≢false (all_same false resetting still e true h)
none_leads resetting pattern still zeros e (inr (inl h)) = let k : Some Tight ≡ Some Zero = all_same (Some Zero) pattern zeros e (Some Tight) h in cc
none_leads resetting pattern still zeros e (inr (inr h)) = let k : Some Full ≡ Some Zero = all_same (Some Zero) pattern zeros e (Some Full) h in cc
