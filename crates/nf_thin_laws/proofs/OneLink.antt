-- Thin flows and phases of the network of one link.
use Rattle.std.proofs.Common.{◌≡◌, ◌≢◌, ℕ, zero, suc, ◌<◌, List, [], ◌∷◌, length, ◌⊎◌, inl, inr, Bool, true, false, if◌then◌else◌, Option, Some, None}
use Rattle.std.proofs.Common.{slice_get, sym, ap, subst, refl, ◌∙◌, arith, is_none}
use Rattle.nf_thin_laws.proofs.Common.{none-some, same_Some, ℚ, 0ℚ, 1ℚ, ◌+ℚ◌, ◌-ℚ◌, ◌*ℚ◌, ◌/ℚ◌, ◌≤ℚ◌, ◌<ℚ◌, le_ℚ, lt_ℚ, reading_of, ≤ℚ_of_same, ≤ℚ_of_lt}
use Rattle.nf_thin_laws.proofs.Common.{ps_whole, <ℚ_irrefl, not_both_ℚ, lt_ℚ_cases, test_of_le, le, eq, linear_le, linear_eq, State, Tight, Full, number_at}
use Rattle.nf_thin_laws.proofs.Common.{Has, Hop, IsHop, Link, Piece, Network, IsLink, IsPiece, IsNetwork, ArePieces, hop_of, hops, unbounded, rate_at, Sets}
use Rattle.nf_thin_laws.proofs.Common.{slacks_of, sets_of, sets_at, IsThinFlow, HasState, NeedsState, IsPattern, IsForest, IsListedIn, Equation, Inequality}
use Rattle.nf_thin_laws.proofs.Common.{Solves, Meets, IsSolution, moved, AreStartLabels, Lasts, IsPhaseSequence, IsPositive, quotient-times, nn-quotient}
use Rattle.nf_thin_laws.proofs.Common.{le_from_times, AreSets, HoldNoCycle, ≤ℚ_refl, ≤ℚ_trans, zero_plus, one_link, at_rate}
use mathlib.Core.Path.{ap₂}
use Rattle.nf_model_laws.specs.EarliestLaws.{AreTransitLabels}
use Rattle.nf_model_laws.proofs.EarliestTransits.{IsLeastTransit-label}
use Rattle.nf_model_laws.proofs.MemberLink.{IsNetwork-one_link}
use Rattle.nf_thin_laws.specs.MemberLaws.{first_labels, first_sets}
use Rattle.nf_thin_laws.proofs.Flags.{flag}
use Rattle.nf_thin_laws.proofs.ActiveLinks.{AreSets-sets_at, HoldNoCycle-sets_at}
use Rattle.nf_thin_laws.proofs.Singular.{IsSolution-met}

-- A property of the one entry of a list is a property of each entry.
only_entry : {A : Type 0} (P : ℕ → A → Type 0) (x : A) (e : ℕ) (y : A) → slice_get (x ∷ []) e ≡ Some y → P 0 x → P e y
only_entry P x zero y p h = subst (λ z. P 0 z) (same_Some x y p) h
only_entry P x (suc e) y p h = absurd (none-some y p)

module _ (transit : ℚ) (capacity : Option ℚ) (pieces : List Piece) where
  abbrev net : Network
  net = one_link transit capacity pieces

  abbrev the_link : Link
  the_link = record { tail = 0; head = 1; transit = transit; capacity = capacity }

  -- A property of the one link is a property of each link.
  by_link : (P : ℕ → Link → Type 0) (e : ℕ) (link : Link) → IsLink net e link → P 0 the_link → P e link
  by_link P e link p x = only_entry P the_link e link p x

  by_hop : (P : ℕ → Hop → Type 0) (e : ℕ) (hop : Hop) → IsHop (hops net) e hop → P 0 (hop_of the_link) → P e hop
  by_hop P e hop p x = only_entry P (hop_of the_link) e hop p x

  -- ---- the first labels: the slack is 0
  no_slack : (t : ℚ) → t -ℚ (0ℚ +ℚ t) ≡ 0ℚ
  no_slack t = linear_eq (t ∷ []) [] (search reading_of) tt tt

  slacks_are : slacks_of (hops net) (first_labels transit) ≡ 0ℚ ∷ []
  slacks_are = ap (λ (s : ℚ). s ∷ []) (no_slack transit)

  at_0 : le_ℚ 0ℚ 0ℚ ≡ true
  at_0 = test_of_le 0ℚ 0ℚ (≤ℚ_refl 0ℚ)

  not_above : lt_ℚ 0ℚ 0ℚ ≡ false
  not_above = go (lt_ℚ_cases 0ℚ 0ℚ)
    where
      go : ((lt_ℚ 0ℚ 0ℚ ≡ true) × (0ℚ <ℚ 0ℚ)) ⊎ ((lt_ℚ 0ℚ 0ℚ ≡ false) × (0ℚ ≤ℚ 0ℚ)) → lt_ℚ 0ℚ 0ℚ ≡ false
      go (inl w) = absurd (<ℚ_irrefl 0ℚ w.1)
      go (inr w) = w.0

  pub first_sets-are : sets_at net (first_labels transit) ≡ first_sets
  first_sets-are = ap sets_of slacks_are ∙ ap₂ (λ (a b : Bool). record { active = a ∷ []; resetting = b ∷ [] }) at_0 not_above

  -- ---- listed patterns
  apart_some : (a b : Bool) → a ≡ false → b ≡ true → Some a ≡ Some b → ⊥
  apart_some a b e f g = cc

  no_state : {X : Type 0} (e : ℕ) (state : State) → slice_get {X = Option State} [] e ≡ Some (Some state) → X
  no_state zero state h = absurd (cc)
  no_state (suc e) state h = absurd (cc)

  no_flag : {X : Type 0} (e : ℕ) → slice_get {X = Bool} [] e ≡ Some true → X
  no_flag zero h = absurd (cc)
  no_flag (suc e) h = absurd (cc)

  is_pattern : (state : State) → (HasState (Some state ∷ []) 0 Full → Has (unbounded net) 0 → ⊥) → IsPattern first_sets (unbounded net) (Some state ∷ [])
  is_pattern state none = record { count = refl; states = states; no_full = no_full }
    where
      needs : (e : ℕ) → NeedsState first_sets e → (s : State) × HasState (Some state ∷ []) e s
      needs zero n = (state, refl)
      needs (suc e) n = no_flag e n.0

      has : (e : ℕ) → (s : State) × HasState (Some state ∷ []) e s → NeedsState first_sets e
      has zero s = (refl, apart_some false true refl refl)
      has (suc e) s = no_state e s.0 s.1

      states : (e : ℕ) → (NeedsState first_sets e → (s : State) × HasState (Some state ∷ []) e s) × ((s : State) × HasState (Some state ∷ []) e s → NeedsState first_sets e)
      states e = (needs e, has e)

      no_full : (e : ℕ) → Has (unbounded net) e → HasState (Some state ∷ []) e Full → ⊥
      no_full zero u h = none h u
      no_full (suc e) u h = no_state e Full h

  -- One link is a forest: a trail of two steps crosses it twice, and a trail of one step does not return.
  zero_one : ◌≡◌ {A = ℕ} 0 1 → ⊥
  zero_one e = absurd (omega arith)

  ends_differ : (forward : Bool) → ◌≡◌ {A = ℕ} (if forward then 0 else 1) (if forward then 1 else 0) → ⊥
  ends_differ true e = zero_one e
  ends_differ false e = zero_one (sym e)

  only_hop : (e : ℕ) (hop : Hop) → IsHop (hops net) e hop → (e ≡ 0) × (hop ≡ hop_of the_link)
  only_hop e hop p = by_hop (λ (k : ℕ) (h : Hop). (k ≡ 0) × (h ≡ hop_of the_link)) e hop p (refl, refl)

  forest : (Allowed : ℕ → Type 0) → IsForest (hops net) Allowed
  forest Allowed (e, forward) [] v differ (hop, p, a, s, t) =
      ends_differ forward (sym (s ∙ ap (λ (h : Hop). if forward then h.tail else h.head) (only_hop e hop p).1) ∙ sym t
      ∙ ap (λ (h : Hop). if forward then h.head else h.tail) (only_hop e hop p).1)
  forest Allowed (e, forward) ((f, b) ∷ steps) v differ (hop, p, a, s, (next, q, o, z, t)) =
      differ.0 (zero, omega arith, (only_hop f next q).0 ∙ sym (only_hop e hop p).0)

  entered_by : (v : ℕ) → v < 2 → v ≢ 0 → 1 ≡ v
  entered_by zero h o = absurd (o refl)
  entered_by (suc zero) h o = refl
  entered_by (suc (suc v)) h o = absurd (omega arith)

  listed : (state : State) → (HasState (Some state ∷ []) 0 Full → Has (unbounded net) 0 → ⊥) → (HasState (Some state ∷ []) 0 Tight ⊎ HasState (Some state ∷ []) 0 Full)
      → IsListedIn net first_sets (Some state ∷ [])
  listed state none leads = record {
    states = is_pattern state none;
    forest = forest (λ e. HasState (Some state ∷ []) e Tight);
    entered = λ v h other. (0, hop_of the_link, refl, entered_by v h other, inr leads);
  }

  -- ---- solutions
  all_out : (r : ℚ) → (r +ℚ 0ℚ) -ℚ 0ℚ ≡ r
  all_out r = linear_eq (r ∷ []) [] (search reading_of) tt tt

  solves : (state : State) (rate slope : ℚ) → Equation (Some state) false capacity rate 1ℚ slope → Solves net first_sets rate (Some state ∷ []) (rate ∷ []) (1ℚ ∷ slope ∷ [])
  solves state rate slope e = record {
    flow_count = refl;
    slope_count = refl;
    starts = refl;
    source = all_out rate;
    inner = λ v h a b. absurd (b (sym (entered_by v h a)));
    links = λ k link s p h. by_link (λ (k : ℕ) (l : Link). (s : Option State) → slice_get (Some state ∷ []) k ≡ Some s
        → Equation s (flag first_sets.resetting k) l.capacity (number_at (rate ∷ []) k) (number_at (1ℚ ∷ slope ∷ []) l.tail) (number_at (1ℚ ∷ slope ∷ []) l.head)) k link p
        (λ s h. subst (λ (o : Option State). Equation o false capacity rate 1ℚ slope) (same s h) e) s h;
  }
    where
      same : (s : Option State) → Some (Some state) ≡ Some s → Some state ≡ s
      same s h = cc

  no_number : (x : ℚ) → 0ℚ ≤ℚ x → (e : ℕ) → 0ℚ ≤ℚ number_at (x ∷ []) e
  no_number x h zero = h
  no_number x h (suc zero) = ≤ℚ_refl 0ℚ
  no_number x h (suc (suc e)) = ≤ℚ_refl 0ℚ

  no_numbers : (x y : ℚ) → 0ℚ ≤ℚ x → 0ℚ ≤ℚ y → (e : ℕ) → 0ℚ ≤ℚ number_at (x ∷ y ∷ []) e
  no_numbers x y h k zero = h
  no_numbers x y h k (suc e) = no_number y k e

  meets : (state : State) (rate slope : ℚ) → 0ℚ ≤ℚ rate → 0ℚ ≤ℚ slope → Inequality (Some state) capacity rate 1ℚ slope → Meets net (Some state ∷ []) (rate ∷ []) (1ℚ ∷ slope ∷ [])
  meets state rate slope h k e = record {
    no_negative_flow = no_number rate h;
    no_negative_slope = no_numbers 1ℚ slope (≤ℚ_of_lt _ _ (ps_whole 0)) k;
    links = λ n link s p h. by_link (λ (n : ℕ) (l : Link). (s : Option State) → slice_get (Some state ∷ []) n ≡ Some s
        → Inequality s l.capacity (number_at (rate ∷ []) n) (number_at (1ℚ ∷ slope ∷ []) l.tail) (number_at (1ℚ ∷ slope ∷ []) l.head)) n link p
        (λ s h. subst (λ (o : Option State). Inequality o capacity rate 1ℚ slope) (same s h) e) s h;
  }
    where
      same : (s : Option State) → Some (Some state) ≡ Some s → Some state ≡ s
      same s h = cc

  are : AreSets net first_sets
  are = subst (λ (s : Sets). AreSets net s) first_sets-are (AreSets-sets_at net (first_labels transit))

  module _ (h : 0ℚ ≤ℚ transit) (c : IsPositive capacity) (q : ArePieces pieces) where
    good : IsNetwork net
    good = IsNetwork-one_link transit capacity pieces h c q

    acyclic : HoldNoCycle net first_sets
    acyclic = subst (λ (s : Sets). HoldNoCycle net s) first_sets-are (HoldNoCycle-sets_at net (first_labels transit) good)

    solution : (state : State) (rate slope : ℚ) → IsListedIn net first_sets (Some state ∷ []) → Equation (Some state) false capacity rate 1ℚ slope → 0ℚ ≤ℚ rate → 0ℚ ≤ℚ slope
        → Inequality (Some state) capacity rate 1ℚ slope → IsSolution net first_sets rate (Some state ∷ []) (rate ∷ []) (1ℚ ∷ slope ∷ [])
    solution state rate slope l e n k i = IsSolution-met net first_sets (Some state ∷ []) good are acyclic l rate (rate ∷ []) (1ℚ ∷ slope ∷ [])
        (solves state rate slope e) (meets state rate slope n k i)

    -- ---- the link is Tight
    at_one : (x c : ℚ) → x ≤ℚ c → x ≤ℚ c *ℚ 1ℚ
    at_one x c h = linear_le (x ∷ c ∷ []) (le h ∷ []) (search reading_of) tt

    tight_is_listed : IsListedIn net first_sets (Some Tight ∷ [])
    tight_is_listed = listed Tight not_full (inl refl)
      where
        not_full : HasState (Some Tight ∷ []) 0 Full → Has (unbounded net) 0 → ⊥
        not_full h u = absurd (cc)

    pub OneLink-tight : (rate : ℚ) → 0ℚ ≤ℚ rate → ((most : ℚ) → capacity ≡ Some most → rate ≤ℚ most)
        → IsListedIn net first_sets (Some Tight ∷ []) × IsSolution net first_sets rate (Some Tight ∷ []) (rate ∷ []) (1ℚ ∷ 1ℚ ∷ [])
    OneLink-tight rate n fits = (tight_is_listed, solution Tight rate 1ℚ tight_is_listed refl n (≤ℚ_of_lt _ _ (ps_whole 0)) (λ most e. at_one rate most (fits most e)))

    -- ---- the link is Full
    OneLink-full_at : (most rate : ℚ) → capacity ≡ Some most → most ≤ℚ rate
        → IsListedIn net first_sets (Some Full ∷ []) × IsSolution net first_sets rate (Some Full ∷ []) (rate ∷ []) (1ℚ ∷ rate /ℚ most ∷ [])
    OneLink-full_at most rate e k = (
      full_is_listed,
      solution Full rate (rate /ℚ most) full_is_listed (most, e, turned rate most (rate /ℚ most) (quotient-times rate most positive)) nn (nn-quotient rate most nn positive)
          (le_from_times most 1ℚ (rate /ℚ most) positive (at_least most rate (rate /ℚ most) k (quotient-times rate most positive))),
    )
      where
        positive : 0ℚ <ℚ most
        positive = c most e

        nn : 0ℚ ≤ℚ rate
        nn = ≤ℚ_trans _ _ _ (≤ℚ_of_lt _ _ positive) k

        turned : (x c q : ℚ) → q *ℚ c ≡ x → x ≡ c *ℚ q
        turned x c q e = linear_eq (x ∷ c ∷ q ∷ []) (eq e ∷ []) (search reading_of) tt tt

        at_least : (c x q : ℚ) → c ≤ℚ x → q *ℚ c ≡ x → c *ℚ 1ℚ ≤ℚ c *ℚ q
        at_least c x q h e = linear_le (c ∷ x ∷ q ∷ []) (le h ∷ eq e ∷ []) (search reading_of) tt

        bounded : (o : Option ℚ) → o ≡ Some most → slice_get (is_none o ∷ []) 0 ≡ Some true → ⊥
        bounded None e u = none-some most e
        bounded (Some x) e u = apart_some false true refl refl u

        full_is_listed : IsListedIn net first_sets (Some Full ∷ [])
        full_is_listed = listed Full (λ _ u. bounded capacity e u) (inr refl)

    -- ---- a phase
    labels : AreTransitLabels net (number_at (first_labels transit))
    labels = record {
      source = refl;
      none_shorter = λ e link p _. by_link (λ (_ : ℕ) (l : Link). number_at (first_labels transit) l.head ≤ℚ number_at
          (first_labels transit) l.tail +ℚ l.transit) e link p (≤ℚ_of_same _ _ (zero_plus transit));
      entered = λ v h other. (0, the_link, refl, entered_by v h other, subst (λ (k : ℕ). number_at (first_labels transit) k ≡ 0ℚ +ℚ transit) (entered_by v h other) (zero_plus transit));
    }

    start_labels : AreStartLabels net (first_labels transit)
    start_labels = record { count = refl; each = λ v h. IsLeastTransit-label net (number_at (first_labels transit)) good labels v h }

    slack_is : number_at (slacks_of (hops net) (first_labels transit)) 0 ≡ 0ℚ
    slack_is = ap (λ (s : List ℚ). number_at s 0) slacks_are

    abbrev slacks : List ℚ
    slacks = slacks_of (hops net) (first_labels transit)

    lasts : (slopes : List ℚ) (length : ℚ) → ((i : ℕ) (piece : Piece) → IsPiece pieces i piece → piece.start ≡ 0ℚ) → 0ℚ ≤ℚ length → Lasts net slacks slopes 0ℚ length
    lasts slopes length at_once n = record {
      not_negative = n;
      inactive = λ e link while p below w. absurd (by_link (λ (k : ℕ) (_ : Link). number_at slacks k <ℚ 0ℚ → ⊥) e link p (λ b. not_both_ℚ _ _ b (≤ℚ_of_same _ _ (sym slack_is))) below);
      resetting = λ e link while p above w. absurd (by_link (λ (k : ℕ) (_ : Link). 0ℚ <ℚ number_at slacks k → ⊥) e link p (λ b. not_both_ℚ _ _ b (≤ℚ_of_same _ _ slack_is)) above);
      supply = λ i piece p later. absurd (not_both_ℚ _ _ later (≤ℚ_of_same _ _ (at_once i piece p)));
    }

    pub OneLink-phase : (rate horizon : ℚ) (flows slopes : List ℚ) → 0ℚ <ℚ horizon → ((i : ℕ) (piece : Piece) → IsPiece pieces i piece → piece.start ≡ 0ℚ) → rate_at net 0ℚ ≡ rate
        → IsThinFlow net first_sets rate flows slopes → IsPhaseSequence net horizon ((0ℚ, first_labels transit) ∷ (horizon, moved (first_labels transit) slopes horizon) ∷ [])
    OneLink-phase rate horizon flows slopes ahead at_once is_rate thin = (
      refl,
      start_labels,
      (
        record {
          before = ahead;
          flows = flows;
          slopes = slopes;
          thin = subst (λ (s : Sets). IsThinFlow net s (rate_at net 0ℚ) flows slopes) (sym first_sets-are)
              (subst (λ (r : ℚ). IsThinFlow net first_sets r flows slopes) (sym is_rate) thin);
          length = horizon;
          is_length = inr ((λ length n. lasts slopes length at_once n), less_none horizon);
          time = zero_plus horizon;
          labels = refl;
        },
        tt,
      ),
    )
      where
        less_none : (t : ℚ) → t ≡ t -ℚ 0ℚ
        less_none t = linear_eq (t ∷ []) [] (search reading_of) tt tt

-- ---- at one rate from time 0 on
by_piece : (rate : ℚ) (P : Piece → Type 0) (i : ℕ) (piece : Piece) → IsPiece (at_rate rate []) i piece → P (record { start = 0ℚ; rate = rate }) → P piece
by_piece rate P zero piece p x = subst P (same _ piece p) x
  where
    same : (a b : Piece) → ◌≡◌ {A = Option Piece} (Some a) (Some b) → a ≡ b
    same a b q = cc
by_piece rate P (suc i) piece p x = absurd (none p)
  where
    none : ◌≡◌ {A = Option Piece} None (Some piece) → ⊥
    none q = cc

pub starts_at_once : (rate : ℚ) (i : ℕ) (piece : Piece) → IsPiece (at_rate rate []) i piece → piece.start ≡ 0ℚ
starts_at_once rate i piece p = by_piece rate (λ q. q.start ≡ 0ℚ) i piece p refl

pub ArePieces-rate : (rate : ℚ) → 0ℚ ≤ℚ rate → ArePieces (at_rate rate [])
ArePieces-rate rate n = record {
  starts = λ i piece p. ≤ℚ_of_same _ _ (sym (starts_at_once rate i piece p));
  rise = λ i piece next p q. absurd (none-some next q);
  rates = λ i piece p. by_piece rate (λ q. 0ℚ ≤ℚ q.rate) i piece p n;
}
  where
    none : (next : Piece) → ◌≡◌ {A = Option Piece} None (Some next) → ⊥
    none next q = cc

pub rate_at-once : (transit : ℚ) (capacity : Option ℚ) (rate : ℚ) → rate_at (one_link transit capacity (at_rate rate [])) 0ℚ ≡ rate
rate_at-once transit capacity rate = ap (λ (b : Bool). if b then rate else 0ℚ) (test_of_le 0ℚ 0ℚ (≤ℚ_refl 0ℚ))

pub OneLink-full : (transit most : ℚ) (pieces : List Piece) (rate : ℚ) → 0ℚ ≤ℚ transit → 0ℚ <ℚ most → ArePieces pieces → most ≤ℚ rate
    → IsListedIn (one_link transit (Some most) pieces) first_sets (Some Full ∷ [])
    × IsSolution (one_link transit (Some most) pieces) first_sets rate (Some Full ∷ []) (rate ∷ []) (1ℚ ∷ rate /ℚ most ∷ [])
OneLink-full transit most pieces rate h c q k = OneLink-full_at transit (Some most) pieces h (λ r e. subst (λ (z : ℚ). 0ℚ <ℚ z) (same_Some most r e) c) q most rate refl k
