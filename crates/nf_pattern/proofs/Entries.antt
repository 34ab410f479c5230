-- The links into each node, backward from the last one; and the last link that can enter the node.
use Rattle.std.proofs.Common.{◌≡◌, ◌≢◌, ℕ, zero, suc, ◌+◌, ◌<◌, ◌≤◌, Bool, true, false, not, List, length, get_or, replicate, slice_set, inl, inr, ◌⊎◌}
use Rattle.std.proofs.Common.{⊎_elim, Option, Some, None, refl, sym, ap, subst, ◌∙◌, arith, slice_get, MatchBool, is_some}
use Rattle.nf_pattern.proofs.Common.{same_Some, none-some, Hop, IsHop, Pattern, HasState, IsHop-unique, IsHop-read, MayCarry, EntersBy, EnteredBefore}
use Rattle.nf_pattern.proofs.Common.{LeadsTo, IsLastInto, AreLastInto, AreChained, CanCarry, IsEndBefore, AreEndsBefore, Strands, KeepsEntered}
use Rattle.nf_pattern.proofs.Common.{before_or_at, Has, State}
use Rattle.nf_pattern.proofs.Setting.{set_same, set_other, tell}

apart_or_same : (e k : ℕ) → (e < k) ⊎ ((k < e) ⊎ (e ≡ k))
apart_or_same e k = grind arith

-- the hop of a link's number
pub hop_there : (hops : List Hop) (e i : ℕ) (hop : Hop) → e < length hops → i ≡ e → hop ≡ get_or hops i hop → IsHop hops e hop
hop_there hops e i hop within same read = IsHop-read hops e hop within (read ∙ ap (λ (k : ℕ). get_or hops k hop) same)

-- A link that is not resetting can carry flow if it may have a state.
pub carried_by_state : (resetting : List Bool) (base : Pattern) (e : ℕ) → slice_get resetting e ≡ Some false → (given : Option State) → slice_get base e ≡ Some given
    → MatchBool (is_some given) (CanCarry resetting base e) (CanCarry resetting base e → ⊥)
carried_by_state resetting base e off (Some state) at = inr (state, at)
carried_by_state resetting base e off None at = λ can. ⊎_elim
    (λ (on : Has resetting e). absurd (let same : false ≡ true = same_Some false true (sym off ∙ on) in cc))
    (λ (w : (state : State) × HasState base e state). absurd (none-some w.0 (same_Some None (Some w.0) (sym at ∙ w.1)))) can

-- The most links that remain backward.
abbrev pub left_back_to : Option ℕ → ℕ
left_back_to None = 0
left_back_to (Some k) = suc k

fewer_back : (hops : List Hop) (k v : ℕ) (found : Option ℕ) → IsLastInto hops k v found → left_back_to found < suc k
fewer_back hops k v None last = (let z : left_back_to None ≡ 0 = refl in omega arith)
fewer_back hops k v (Some j) last = (let z : left_back_to (Some j) ≡ suc j = refl in let l = last.0 in omega arith)

module _ (hops : List Hop) (resetting : List Bool) (p : Pattern) where
  pub more_before : (n v : ℕ) → EnteredBefore hops resetting p (suc n) v → EnteredBefore hops resetting p n v ⊎ EntersBy hops resetting p n v
  more_before n v (e, less, by) = ⊎_elim
      (λ (l : e < n). inl (e, l, by))
      (λ (same : e ≡ n). inr (subst (λ (k : ℕ). EntersBy hops resetting p k v) same by))
      (before_or_at e n (omega arith))

  -- ---- the links that lead to a node, from the last one backward
  -- No link from number `from` on enters node v, and the last link before it into v is known.
  pub record IsBack (n v : ℕ) (at : Option ℕ) : Type 0 where
    pub from : ℕ
    pub few : from ≤ n
    pub last : IsLastInto hops from v at
    pub none : EnteredBefore hops resetting p n v → EnteredBefore hops resetting p from v

  module _ (n v : ℕ) where
    pub back_first : (chain : List (Option ℕ)) (at : Option ℕ) → AreChained hops chain → slice_get chain n ≡ Some at → LeadsTo hops n v → IsBack n v at
    back_first chain at chained read leads = record {
      from = n;
      few = omega arith;
      last = subst (λ (w : ℕ). IsLastInto hops n w at) leads.2 (chained n at read leads.0 leads.1);
      none = λ before. before;
    }

    pub back_none : IsBack n v None → EnteredBefore hops resetting p n v → ⊥
    back_none back before =
        let way = back.none before in
        back.last way.0 way.1 (way.2.0, way.2.1, way.2.2)

    module _ (k : ℕ) (back : IsBack n v (Some k)) where
      pub back_enters : MayCarry resetting p k → EnteredBefore hops resetting p n v
      back_enters may =
          let last = back.last in
          let few = back.few in (k, (let l = last.0 in omega arith), (last.1.0, last.1.1, last.1.2, may))

      earlier : (MayCarry resetting p k → ⊥) → EnteredBefore hops resetting p back.from v → EnteredBefore hops resetting p k v
      earlier none (e, less, by) = ⊎_elim
          (λ (before : e < k). (e, before, by))
          (λ (from : (k < e) ⊎ (e ≡ k)). ⊎_elim
          (λ (later : k < e). absurd (back.last.2 e later less (by.0, by.1, by.2)))
          (λ (same : e ≡ k). absurd (none (subst (λ (i : ℕ). MayCarry resetting p i) same by.3))) from)
          (apart_or_same e k)

      pub back_more : (chain : List (Option ℕ)) (found : Option ℕ) → AreChained hops chain → slice_get chain k ≡ Some found → (MayCarry resetting p k → ⊥) → IsBack n v found
      back_more chain found chained read none = record {
        from = k;
        few = (let l = back.last.0 in let f = back.few in omega arith);
        last = subst (λ (w : ℕ). IsLastInto hops k w found) back.last.1.2 (chained k found read back.last.1.0 back.last.1.1);
        none = λ before. earlier none (back.none before);
      }

      pub back_fewer : (chain : List (Option ℕ)) (found : Option ℕ) → AreChained hops chain → slice_get chain k ≡ Some found → left_back_to found < left_back_to (Some k)
      back_fewer chain found chained read = fewer_back hops k back.last.1.0.head found (chained k found read back.last.1.0 back.last.1.1)

      pub back_within : k < n
      back_within = let l = back.last.0 in let f = back.few in omega arith

  -- ---- stranded nodes
  module _ (source : ℕ) (ends : List ℕ) (e : ℕ) where
    pub carries_keeps : MayCarry resetting p e → KeepsEntered source hops resetting p ends e
    carries_keeps may v other leads last = (e, omega arith, (leads.0, leads.1, leads.2, may))

    module _ (hop : Hop) (is_hop : IsHop hops e hop) (i : ℕ) (at : i ≡ hop.head) where
      its_head : (v : ℕ) → LeadsTo hops e v → v ≡ i
      its_head v leads = sym leads.2 ∙ (ap (λ (h : Hop). h.head) (IsHop-unique hops e leads.0 hop leads.1 is_hop) ∙ sym at)

      pub head_led : LeadsTo hops e i
      head_led = (hop, is_hop, sym at)

      pub source_keeps : i ≡ source → KeepsEntered source hops resetting p ends e
      source_keeps same v other leads last = absurd (other (its_head v leads ∙ same))

      pub later_keeps : (slice_get ends i ≡ Some (suc e) → ⊥) → KeepsEntered source hops resetting p ends e
      later_keeps later v other leads last = absurd (later (ap (λ (k : ℕ). slice_get ends k) (sym (its_head v leads)) ∙ last))

      entered_keeps : EnteredBefore hops resetting p e i → KeepsEntered source hops resetting p ends e
      entered_keeps before v other leads last =
          let here : EnteredBefore hops resetting p e v = subst (λ (k : ℕ). EnteredBefore hops resetting p e k) (sym (its_head v leads)) before in
          (here.0, (let l = here.1 in omega arith), here.2)

      strands_there : i ≢ source → (MayCarry resetting p e → ⊥) → slice_get ends i ≡ Some (suc e) → (EnteredBefore hops resetting p e i → ⊥) → Strands source hops resetting p ends e
      strands_there other none last unentered =
          record {
            hop = hop;
            is_hop = is_hop;
            other = λ same. other (at ∙ same);
            last = ap (λ (k : ℕ). slice_get ends k) (sym at) ∙ last;
            unentered = λ before. ⊎_elim
                (λ (w : EnteredBefore hops resetting p e hop.head). unentered (subst (λ (k : ℕ). EnteredBefore hops resetting p e k) (sym at) w))
                (λ (by : EntersBy hops resetting p e hop.head). none by.3)
                (more_before e hop.head before);
          }

      pub strands_told : i ≢ source → (MayCarry resetting p e → ⊥) → slice_get ends i ≡ Some (suc e) → (before : Bool)
          → MatchBool before (EnteredBefore hops resetting p e i) (EnteredBefore hops resetting p e i → ⊥)
          → MatchBool (not before) (Strands source hops resetting p ends e) (KeepsEntered source hops resetting p ends e)
      strands_told other none last true told = entered_keeps told
      strands_told other none last false told = strands_there other none last told

-- ---- the last link into each node, with one link more
module _ (hops : List Hop) (m : ℕ) (hop : Hop) (is_hop : IsHop hops m hop) (i : ℕ) (at : i ≡ hop.head) where
  leads_there : (v : ℕ) → LeadsTo hops m v → v ≡ i
  leads_there v leads = sym leads.2 ∙ (ap (λ (h : Hop). h.head) (IsHop-unique hops m leads.0 hop leads.1 is_hop) ∙ sym at)

  last_later : (v : ℕ) (found : Option ℕ) → v ≢ i → IsLastInto hops m v found → IsLastInto hops (suc m) v found
  last_later v None other none = λ e less leads. ⊎_elim
      (λ (l : e < m). none e l leads)
      (λ (same : e ≡ m). other (leads_there v (subst (λ (k : ℕ). LeadsTo hops k v) same leads)))
      (before_or_at e m (omega arith))
  last_later v (Some k) other last = (
    (let l = last.0 in omega arith),
    last.1,
    λ e more less leads. ⊎_elim
        (λ (l : e < m). last.2 e more l leads)
        (λ (same : e ≡ m). other (leads_there v (subst (λ (k : ℕ). LeadsTo hops k v) same leads)))
        (before_or_at e m (omega arith)),
  )

  pub last_noted : (last : List (Option ℕ)) → i < length last → AreLastInto hops m last → AreLastInto hops (suc m) (slice_set last i (Some m))
  last_noted last within before v found read = ⊎_elim
      (λ (same : v ≡ i). subst (λ (o : Option ℕ). IsLastInto hops (suc m) v o)
      (same_Some (Some m) found (sym (set_same last i (Some m) within) ∙ (ap (λ (k : ℕ). slice_get (slice_set last i (Some m)) k) (sym same) ∙ read)))
      (omega arith, (hop, is_hop, sym at ∙ sym same), λ e more less leads. omega arith))
      (λ (other : v ≢ i). last_later v found other (before v found (sym (set_other last i v (Some m) other) ∙ read)))
      (tell v i)

  pub last_is : (last : List (Option ℕ)) (found : Option ℕ) → AreLastInto hops m last → slice_get last i ≡ Some found → (h : Hop) → IsHop hops m h → IsLastInto hops m h.head found
  last_is last found before read h is_h =
      subst (λ (k : ℕ). IsLastInto hops m k found) (at ∙ ap (λ (x : Hop). x.head) (IsHop-unique hops m hop h is_hop is_h)) (before i found read)

-- before any link
pub none_last : (hops : List Hop) (count : ℕ) → AreLastInto hops 0 (replicate count None)
none_last hops count v found read = subst (λ (o : Option ℕ). IsLastInto hops 0 v o) (sym (none_only count v found read)) (λ e less leads. absurd (omega arith))
  where
    none_only : (n v : ℕ) (found : Option ℕ) → slice_get (replicate n None) v ≡ Some found → found ≡ None
    none_only zero v found at = cc
    none_only (suc n) zero found at = sym (same_Some None found at)
    none_only (suc n) (suc v) found at = none_only n v found at

-- ---- the last link that can enter each node
module _ (hops : List Hop) (resetting : List Bool) (base : Pattern) where
  end_later : (m v n : ℕ) → IsEndBefore hops resetting base m v n → ((hop : Hop) → IsHop hops m hop → hop.head ≡ v → CanCarry resetting base m → ⊥)
      → IsEndBefore hops resetting base (suc m) v n
  end_later m v n end none = record {
    all = λ e hop less is_hop head can. ⊎_elim
        (λ (l : e < m). end.all e hop l is_hop head can)
        (λ (same : e ≡ m). absurd (none hop (subst (λ (k : ℕ). IsHop hops k hop) same is_hop) head (subst (λ (k : ℕ). CanCarry resetting base k) same can)))
        (before_or_at e m (omega arith));
    last = end.last;
  }

  pub ends_kept : (m : ℕ) (ends : List ℕ) → AreEndsBefore hops resetting base m ends → (CanCarry resetting base m → ⊥) → AreEndsBefore hops resetting base (suc m) ends
  ends_kept m ends before none v n read = end_later m v n (before v n read) (λ hop is_hop head can. none can)

  pub end_noted : (m : ℕ) → CanCarry resetting base m → (hop : Hop) → IsHop hops m hop → (i : ℕ) → i ≡ hop.head → (ends : List ℕ) → i < length ends
      → AreEndsBefore hops resetting base m ends
      → AreEndsBefore hops resetting base (suc m) (slice_set ends i (m + 1))
  end_noted m can_here hop is_hop i at ends within before v n read = ⊎_elim
      (λ (same : v ≡ i). subst (λ (k : ℕ). IsEndBefore hops resetting base (suc m) v k)
      (same_Some (m + 1) n (sym (set_same ends i (m + 1) within) ∙ (ap (λ (k : ℕ). slice_get (slice_set ends i (m + 1)) k) (sym same) ∙ read)))
      (here v same))
      (λ (other : v ≢ i). end_later m v n (before v n (sym (set_other ends i v (m + 1) other) ∙ read))
      (λ h is_h head can. other (sym head ∙ (ap (λ (x : Hop). x.head) (IsHop-unique hops m h hop is_h is_hop) ∙ sym at))))
      (tell v i)
    where
      here : (v : ℕ) → v ≡ i → IsEndBefore hops resetting base (suc m) v (m + 1)
      here v same = record {
        all = λ e h less is_h head can. omega arith;
        last = λ e one.
            let this : m ≡ e = omega arith in
            (hop, subst (λ (k : ℕ). IsHop hops k hop) this is_hop, sym at ∙ sym same, subst (λ (k : ℕ). CanCarry resetting base k) this can_here);
      }

  -- before any link
  pub no_ends : (count : ℕ) → AreEndsBefore hops resetting base 0 (replicate count 0)
  no_ends count v n read = record {
    all = λ e h less is_h head can. absurd (omega arith);
    last = λ e one. absurd (let nothing = all_nothing count v n read in omega arith);
  }
    where
      all_nothing : (count v n : ℕ) → slice_get (replicate count 0) v ≡ Some n → n ≡ 0
      all_nothing zero v n read = absurd (cc)
      all_nothing (suc count) zero n read = sym (same_Some 0 n read)
      all_nothing (suc count) (suc v) n read = all_nothing count v n read

-- ---- a node without such a link
pub none_more : (source v : ℕ) (ends : List ℕ) → ((w : ℕ) → w < v → w ≢ source → slice_get ends w ≡ Some 0 → ⊥) → (v ≢ source → slice_get ends v ≡ Some 0 → ⊥)
    → (w : ℕ) → w < v + 1 → w ≢ source → slice_get ends w ≡ Some 0 → ⊥
none_more source v ends so_far here w less other lost = ⊎_elim
    (λ (l : w < v). so_far w l other lost)
    (λ (same : w ≡ v). here (λ at. other (same ∙ at)) (ap (λ (k : ℕ). slice_get ends k) (sym same) ∙ lost))
    (before_or_at w v less)
