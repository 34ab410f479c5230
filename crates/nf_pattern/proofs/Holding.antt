-- The stack of Tight links: of no link, of one more link, and of patterns with the same first states.
use Rattle.std.proofs.Common.{◌≡◌, ◌≢◌, ℕ, zero, suc, ◌<◌, ◌≤◌, ⊎_elim, true, false, ◌&&◌, List, length, replicate, take, Option, Some, None, slice_get}
use Rattle.std.proofs.Common.{slice_set, refl, sym, ap, subst, ◌∙◌, arith, if◌then◌else◌}
use Rattle.nf_pattern.proofs.Common.{length-set, length-replicate, slice_get_within, State, Tight, Hop, IsHop, Pattern, HasState, AreBelow, IsHop-unique}
use Rattle.nf_pattern.proofs.Common.{slice_get-replicate, AreJoined, TightBefore, LeadsBack, Closes, NoneCloses, last_at, is_tight, ends_by, ends_at}
use Rattle.nf_pattern.proofs.Common.{other_end, IsWalkable}
use Rattle.nf_pattern.proofs.Setting.{set_same, set_other, tell}
use Rattle.nf_pattern.proofs.Choosing.{same_front_at}
use Rattle.nf_pattern.proofs.Barren.{closes_same}
use Rattle.nf_pattern.proofs.Wall.{last_still, last_new}
use Rattle.nf_pattern.proofs.Comes.{ends_only, ends_tail, ends_head, ends_loose}

-- ---- no link
pub holds_none : (hops : List Hop) (p : Pattern) (nodes : ℕ) (last tails heads : List (Option ℕ)) → AreBelow nodes hops → last ≡ replicate nodes None
    → length tails ≡ length hops → length heads ≡ length hops
    → IsWalkable hops p zero last tails heads
holds_none hops p nodes last tails heads below none count_tails count_heads =
    let count : length last ≡ nodes = ap (λ (os : List (Option ℕ)). length os) none ∙ length-replicate nodes None in record {
      below = subst (λ (k : ℕ). AreBelow k hops) (sym count) below;
      count_tails = count_tails;
      count_heads = count_heads;
      last_is = λ v within. ap (λ (os : List (Option ℕ)). slice_get os v) none ∙ slice_get-replicate nodes v None (omega arith);
      tails_are = λ e hop less tight is. absurd (omega arith);
      heads_are = λ e hop less tight is. absurd (omega arith);
    }

-- ---- a link more
module _ (hops : List Hop) (p : Pattern) (n : ℕ) where
  still : (v : ℕ) → ends_at hops p n v ≡ false → last_at (ends_at hops p) n v ≡ last_at (ends_at hops p) (suc n) v
  still v e = sym (last_still (ends_at hops p) (other_end hops) (λ m x y. AreJoined hops (TightBefore p m) x y) n v e)

  new : (v : ℕ) → ends_at hops p n v ≡ true → Some n ≡ last_at (ends_at hops p) (suc n) v
  new v e = sym (last_new (ends_at hops p) (other_end hops) (λ m x y. AreJoined hops (TightBefore p m) x y) n v e)

  module _ (ends tails heads : List (Option ℕ)) (holds : IsWalkable hops p n ends tails heads) where
    -- The link is not Tight.
    pub holds_loose : (HasState p n Tight → ⊥) → IsWalkable hops p (suc n) ends tails heads
    holds_loose none = record {
      below = holds.below;
      count_tails = holds.count_tails;
      count_heads = holds.count_heads;
      last_is = λ v within. holds.last_is v within ∙ ap (λ (o : Option ℕ). Some o) (still v (ends_loose hops p n v none));
      tails_are = λ e hop less tight is. holds.tails_are e hop (before e less tight) tight is;
      heads_are = λ e hop less tight is. holds.heads_are e hop (before e less tight) tight is;
    }
      where
        before : (e : ℕ) → e < suc n → HasState p e Tight → e < n
        before e less tight = ⊎_elim
            (λ (same : e ≡ n). absurd (none (subst (λ (k : ℕ). HasState p k Tight) same tight)))
            (λ (other : e ≢ n). (omega arith))
            (tell e n)

    -- The link is Tight, and is pushed at both ends.
    module _ (tight : HasState p n Tight) (hop : Hop) (is : IsHop hops n hop) where
      put_before : (side : Hop → ℕ) (befores : List (Option ℕ)) (k : ℕ) (found : Option ℕ) → length befores ≡ length hops → k ≡ n → found ≡ last_at (ends_at hops p) n (side hop)
          → ((e : ℕ) (other : Hop) → e < n → HasState p e Tight → IsHop hops e other → slice_get befores e ≡ Some (last_at (ends_at hops p) e (side other)))
          → (e : ℕ) (other : Hop) → e < suc n → HasState p e Tight → IsHop hops e other → slice_get (slice_set befores k found) e ≡ Some (last_at (ends_at hops p) e (side other))
      put_before side befores k found count at read before e other less t o = ⊎_elim
          (λ (same : e ≡ n).
          let within = slice_get_within hops n hop is in
          let unique : hop ≡ other = IsHop-unique hops n hop other is (subst (λ (x : ℕ). IsHop hops x other) same o) in
          ap (λ (x : ℕ). slice_get (slice_set befores k found) x) (same ∙ sym at)
          ∙ (set_same befores k found (omega arith)
          ∙ ap (λ (x : Option ℕ). Some x) (read ∙ (ap (λ (x : ℕ). last_at (ends_at hops p) x (side hop)) (sym same) ∙ ap (λ (h : Hop). last_at (ends_at hops p) e (side h)) unique))))
          (λ (older : e ≢ n). set_other befores k e found (λ x. older (x ∙ at)) ∙ before e other (omega arith) t o)
          (tell e n)

      module _ (i j : ℕ) (at_tail : i ≡ hop.tail) (at_head : j ≡ hop.head) where
        abbrev after : List (Option ℕ)
        after = slice_set (slice_set ends i (Some n)) j (Some n)

        count_after : length after ≡ length ends
        count_after = length-set (slice_set ends i (Some n)) j (Some n) ∙ length-set ends i (Some n)

        put_last : (v : ℕ) → v < length ends → slice_get after v ≡ Some (last_at (ends_at hops p) (suc n) v)
        put_last v within =
            let count = length-set ends i (Some n) in
            ⊎_elim
            (λ (same : v ≡ j). ap (λ (h : ℕ). slice_get after h) same
            ∙ (set_same (slice_set ends i (Some n)) j (Some n) (subst (λ (h : ℕ). h < length (slice_set ends i (Some n))) same (omega arith))
            ∙ ap (λ (o : Option ℕ). Some o) (new v (subst (λ (h : ℕ). ends_at hops p n h ≡ true) (sym (same ∙ at_head)) (ends_head hops p n hop tight is)))))
            (λ (not_head : v ≢ j). set_other (slice_set ends i (Some n)) j v (Some n) not_head ∙ ⊎_elim
            (λ (same : v ≡ i). ap (λ (h : ℕ). slice_get (slice_set ends i (Some n)) h) same
            ∙ (set_same ends i (Some n) (subst (λ (h : ℕ). h < length ends) same within)
            ∙ ap (λ (o : Option ℕ). Some o) (new v (subst (λ (h : ℕ). ends_at hops p n h ≡ true) (sym (same ∙ at_tail)) (ends_tail hops p n hop tight is)))))
            (λ (not_tail : v ≢ i). set_other ends i v (Some n) not_tail
            ∙ (holds.last_is v within ∙ ap (λ (o : Option ℕ). Some o)
            (still v (ends_only hops p n hop tight is v (λ e. not_tail (e ∙ sym at_tail)) (λ e. not_head (e ∙ sym at_head))))))
            (tell v i))
            (tell v j)

        pub holds_tight : (k l : ℕ) (before_tail before_head : Option ℕ) → k ≡ n → l ≡ n → before_tail ≡ last_at (ends_at hops p) n hop.tail
            → before_head ≡ last_at (ends_at hops p) n hop.head
            → IsWalkable hops p (suc n) after (slice_set tails k before_tail) (slice_set heads l before_head)
        holds_tight k l before_tail before_head at_tails at_heads read_tail read_head = record {
          below = subst (λ (m : ℕ). AreBelow m hops) (sym count_after) holds.below;
          count_tails = length-set tails k before_tail ∙ holds.count_tails;
          count_heads = length-set heads l before_head ∙ holds.count_heads;
          last_is = λ v within. put_last v (let count = count_after in omega arith);
          tails_are = put_before (λ h. h.tail) tails k before_tail holds.count_tails at_tails read_tail holds.tails_are;
          heads_are = put_before (λ h. h.head) heads l before_head holds.count_heads at_heads read_head holds.heads_are;
        }

  -- The link closes no cycle.
  pub clear_more : NoneCloses hops p n → (Closes hops p n → ⊥) → NoneCloses hops p (suc n)
  clear_more clear none e less closes = ⊎_elim
      (λ (same : e ≡ n). none (subst (λ (k : ℕ). Closes hops p k) same closes))
      (λ (other : e ≢ n). clear e (omega arith) closes)
      (tell e n)

  -- The link's ends are joined exactly if Tight links before it lead back.
  module _ (hop : Hop) (is : IsHop hops n hop) (from to : ℕ) (at_from : from ≡ hop.tail) (at_to : to ≡ hop.head) where
    pub ends_joined : AreJoined hops (TightBefore p n) to from → LeadsBack hops p n
    ends_joined joined = record {
      hop = hop;
      is_hop = is;
      joined = subst (λ (k : ℕ). AreJoined hops (TightBefore p n) k hop.tail) at_to (subst (λ (k : ℕ). AreJoined hops (TightBefore p n) to k) at_from joined);
    }

    pub ends_led : LeadsBack hops p n → AreJoined hops (TightBefore p n) to from
    ends_led back = subst (λ (k : ℕ). AreJoined hops (TightBefore p n) to k) (sym at_from) (subst (λ (k : ℕ). AreJoined hops (TightBefore p n) k hop.tail) (sym at_to)
        (subst (λ (h : Hop). AreJoined hops (TightBefore p n) h.head h.tail) (IsHop-unique hops n back.hop hop back.is_hop is) back.joined))

module _ (hops : List Hop) (p r : Pattern) (n : ℕ) (same : take n r ≡ take n p) where
  last_same : (m v : ℕ) → m ≤ n → last_at (ends_at hops p) m v ≡ last_at (ends_at hops r) m v
  last_same zero v few = refl
  last_same (suc m) v few =
      ap (λ (s : Option (Option State)). if is_tight s && ends_by (slice_get hops m) v then Some m else last_at (ends_at hops p) m v) (sym (same_front_at n m r p (omega arith) same))
      ∙ ap (λ (o : Option ℕ). if ends_at hops r m v then Some m else o) (last_same m v (omega arith))

  pub holds_same : (last tails heads : List (Option ℕ)) → IsWalkable hops p n last tails heads → IsWalkable hops r n last tails heads
  holds_same last tails heads holds = record {
    below = holds.below;
    count_tails = holds.count_tails;
    count_heads = holds.count_heads;
    last_is = λ v within. holds.last_is v within ∙ ap (λ (o : Option ℕ). Some o) (last_same n v (omega arith));
    tails_are = λ e hop less tight is. holds.tails_are e hop less (sym (same_front_at n e r p less same) ∙ tight) is ∙ ap (λ (o : Option ℕ). Some o) (last_same e hop.tail (omega arith));
    heads_are = λ e hop less tight is. holds.heads_are e hop less (sym (same_front_at n e r p less same) ∙ tight) is ∙ ap (λ (o : Option ℕ). Some o) (last_same e hop.head (omega arith));
  }

  pub clear_same : NoneCloses hops p n → NoneCloses hops r n
  clear_same clear e less closes = clear e less (closes_same hops r p n e less (sym same) closes)
