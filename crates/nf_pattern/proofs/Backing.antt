-- Removal of the last link from the stack of Tight links.
use Rattle.std.proofs.Common.{◌≡◌, ◌≢◌, ℕ, suc, ◌<◌, ⊎_elim, Bool, true, false, eqb, refl, List, length, Option, Some, get_or, slice_get, slice_set, sym}
use Rattle.std.proofs.Common.{ap, subst, ◌∙◌, arith, None, MatchBool}
use Rattle.nf_pattern.proofs.Common.{length-set, none-some, same_Some, slice_get-get_or, slice_get_read, Tight, Hop, IsHop, Pattern, HasState, AreBelow}
use Rattle.nf_pattern.proofs.Common.{same_from_test, apart_from_test, AreJoined, TightBefore, last_at, ends_at, other_end, IsWalkable}
use Rattle.nf_pattern.proofs.Setting.{set_same, set_other, tell}
use Rattle.nf_pattern.proofs.Deciding.{decide_state}
use Rattle.nf_pattern.proofs.Wall.{last_still, last_new}
use Rattle.nf_pattern.proofs.Steps.{last_told}
use Rattle.nf_pattern.proofs.Comes.{ends_only, ends_tail, ends_loose}

module _ (hops : List Hop) (p : Pattern) (n : ℕ) (ends tails heads : List (Option ℕ)) (chains : IsWalkable hops p (suc n) ends tails heads) where
  still : (v : ℕ) → ends_at hops p n v ≡ false → last_at (ends_at hops p) (suc n) v ≡ last_at (ends_at hops p) n v
  still v e = last_still (ends_at hops p) (other_end hops) (λ m v w. AreJoined hops (TightBefore p m) v w) n v e

  new : (v : ℕ) → ends_at hops p n v ≡ true → last_at (ends_at hops p) (suc n) v ≡ Some n
  new v e = last_new (ends_at hops p) (other_end hops) (λ m v w. AreJoined hops (TightBefore p m) v w) n v e

  -- The link is not Tight.
  pub back_loose : (HasState p n Tight → ⊥) → IsWalkable hops p n ends tails heads
  back_loose none = record {
    below = chains.below;
    count_tails = chains.count_tails;
    count_heads = chains.count_heads;
    last_is = λ v within. chains.last_is v within ∙ ap (λ (o : Option ℕ). Some o) (still v (ends_loose hops p n v none));
    tails_are = λ e hop less tight is. chains.tails_are e hop (omega arith) tight is;
    heads_are = λ e hop less tight is. chains.heads_are e hop (omega arith) tight is;
  }

  module _ (hop : Hop) (is : IsHop hops n hop) (i : ℕ) (at_tail : i ≡ hop.tail) where
    tight_last : HasState p n Tight → slice_get ends i ≡ Some (Some n)
    tight_last tight = subst (λ (h : ℕ). slice_get ends h ≡ Some (Some n)) (sym at_tail)
        (chains.last_is hop.tail (chains.below.tails n hop is) ∙ ap (λ (o : Option ℕ). Some o) (new hop.tail (ends_tail hops p n hop tight is)))

    pub tight_there : slice_get ends i ≡ Some (Some n) → HasState p n Tight
    tight_there at = ⊎_elim
        (λ (tight : HasState p n Tight). tight)
        (λ (none : HasState p n Tight → ⊥).
        let within : i < length ends = subst (λ (h : ℕ). h < length ends) (sym at_tail) (chains.below.tails n hop is) in
        let here = same_Some (last_at (ends_at hops p) (suc n) i) (Some n) (sym (chains.last_is i within) ∙ at) in
        let told = (last_told (ends_at hops p) n i n (sym (still i (ends_loose hops p n i none)) ∙ here)).0 in absurd (omega arith))
        (decide_state p n Tight)

    -- The link is not the last one at its tail.
    pub back_else : (slice_get ends i ≡ Some (Some n) → ⊥) → IsWalkable hops p n ends tails heads
    back_else none = back_loose (λ tight. none (tight_last tight))

    module _ (j : ℕ) (at_head : j ≡ hop.head) (before_tail before_head : Option ℕ) where
      abbrev after : List (Option ℕ)
      after = slice_set (slice_set ends i before_tail) j before_head

      count_after : length after ≡ length ends
      count_after = length-set (slice_set ends i before_tail) j before_head ∙ length-set ends i before_tail

      set_back_at : HasState p n Tight → before_tail ≡ last_at (ends_at hops p) n i → before_head ≡ last_at (ends_at hops p) n j
          → (v : ℕ) → v < length ends → slice_get after v ≡ Some (last_at (ends_at hops p) n v)
      set_back_at tight read_tail read_head v within =
          let count = length-set ends i before_tail in
          ⊎_elim
          (λ (same : v ≡ j). ap (λ (h : ℕ). slice_get after h) same
          ∙ (set_same (slice_set ends i before_tail) j before_head (subst (λ (h : ℕ). h < length (slice_set ends i before_tail)) same (omega arith))
          ∙ ap (λ (o : Option ℕ). Some o) (read_head ∙ ap (λ (h : ℕ). last_at (ends_at hops p) n h) (sym same))))
          (λ (not_head : v ≢ j). set_other (slice_set ends i before_tail) j v before_head not_head ∙ ⊎_elim
          (λ (same : v ≡ i). ap (λ (h : ℕ). slice_get (slice_set ends i before_tail) h) same
          ∙ (set_same ends i before_tail (subst (λ (h : ℕ). h < length ends) same within)
          ∙ ap (λ (o : Option ℕ). Some o) (read_tail ∙ ap (λ (h : ℕ). last_at (ends_at hops p) n h) (sym same))))
          (λ (not_tail : v ≢ i). set_other ends i v before_tail not_tail
          ∙ (chains.last_is v within ∙ ap (λ (o : Option ℕ). Some o)
          (still v (ends_only hops p n hop tight is v (λ e. not_tail (e ∙ sym at_tail)) (λ e. not_head (e ∙ sym at_head))))))
          (tell v i))
          (tell v j)

      pub back_tight : HasState p n Tight → before_tail ≡ last_at (ends_at hops p) n i → before_head ≡ last_at (ends_at hops p) n j → IsWalkable hops p n after tails heads
      back_tight tight read_tail read_head = record {
        below = subst (λ (k : ℕ). AreBelow k hops) (sym count_after) chains.below;
        count_tails = chains.count_tails;
        count_heads = chains.count_heads;
        last_is = λ v within. set_back_at tight read_tail read_head v (let count = count_after in omega arith);
        tails_are = λ e hop less tight is. chains.tails_are e hop (omega arith) tight is;
        heads_are = λ e hop less tight is. chains.heads_are e hop (omega arith) tight is;
      }

  -- The hop read for a link.
  pub read_tails : (hop : Hop) (i : ℕ) (found : Option ℕ) → IsHop hops n hop → HasState p n Tight → n < length hops → found ≡ get_or tails n found
      → i ≡ hop.tail → found ≡ last_at (ends_at hops p) n i
  read_tails hop i found is tight within read at =
      same_Some found (last_at (ends_at hops p) n i) (ap (λ (o : Option ℕ). Some o) read
      ∙ (sym (slice_get-get_or tails n found (let count = chains.count_tails in omega arith)) ∙ (chains.tails_are n hop (omega arith) tight is
      ∙ ap (λ (h : ℕ). Some (last_at (ends_at hops p) n h)) (sym at))))

  pub read_heads : (hop : Hop) (j : ℕ) (found : Option ℕ) → IsHop hops n hop → HasState p n Tight → n < length hops → found ≡ get_or heads n found
      → j ≡ hop.head → found ≡ last_at (ends_at hops p) n j
  read_heads hop j found is tight within read at =
      same_Some found (last_at (ends_at hops p) n j) (ap (λ (o : Option ℕ). Some o) read
      ∙ (sym (slice_get-get_or heads n found (let count = chains.count_heads in omega arith)) ∙ (chains.heads_are n hop (omega arith) tight is
      ∙ ap (λ (h : ℕ). Some (last_at (ends_at hops p) n h)) (sym at))))

-- ---- the last link at a node, as read
module _ (last : List (Option ℕ)) (node i : ℕ) (found : Option ℕ) (same : i ≡ node) (below : node < length last) (read : found ≡ get_or last i found) where
  at_node : slice_get last node ≡ Some found
  at_node = slice_get_read last (length last) node found refl below (read ∙ ap (λ (k : ℕ). get_or last k found) same)

  pub last_decided : (e link : ℕ) (b : Bool) → found ≡ Some e → b ≡ eqb e link → MatchBool b (slice_get last node ≡ Some (Some link)) (slice_get last node ≡ Some (Some link) → ⊥)
  last_decided e link true is test = at_node ∙ ap (λ (o : Option ℕ). Some o) is ∙ ap (λ (k : ℕ). Some (Some k)) (same_from_test e link test)
  last_decided e link false is test = λ other. apart_from_test e link test (same_Some e link (sym is ∙ same_Some found (Some link) (sym at_node ∙ other)))

  pub none_last : (link : ℕ) → found ≡ None → slice_get last node ≡ Some (Some link) → ⊥
  none_last link is other = none-some link (sym is ∙ same_Some found (Some link) (sym at_node ∙ other))
