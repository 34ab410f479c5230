-- Crossing of a link from one of its ends, and the next link to cross.
use Rattle.std.proofs.Common.{◌≡◌, ℕ, ◌<◌, Bool, true, false, cond, eqb, List, length, get_or, Option, sym, ap, subst, ◌∙◌}
use Rattle.nf_pattern.proofs.Common.{Tight, Hop, IsHop, Pattern, HasState, last_at, ends_at, other_end, across, IsWalkable}
use Rattle.nf_pattern.proofs.Each.{entry_read}

module _ (hops : List Hop) (e v : ℕ) (hop : Hop) (here : IsHop hops e hop) where
  pub to_head : eqb hop.tail v ≡ true → other_end hops e v ≡ hop.head
  to_head t = ap (λ (o : Option Hop). across o v) here ∙ ap (λ (b : Bool). cond b hop.head hop.tail) t

  pub to_tail : eqb hop.tail v ≡ false → other_end hops e v ≡ hop.tail
  to_tail t = ap (λ (o : Option Hop). across o v) here ∙ ap (λ (b : Bool). cond b hop.head hop.tail) t

  module _ (p : Pattern) (n i : ℕ) (found : Option ℕ) {last tails heads : List (Option ℕ)} (holds : IsWalkable hops p n last tails heads) (before : e < n) (tight : HasState p e Tight)
      (within : e < length hops) (at : i ≡ e) where
    pub on_at_head : found ≡ get_or heads i found → eqb hop.tail v ≡ true → found ≡ last_at (ends_at hops p) e (other_end hops e v)
    on_at_head is t =
        entry_read heads e i found (last_at (ends_at hops p) e hop.head) (subst (λ (k : ℕ). e < k) (sym holds.count_heads) within) at is (holds.heads_are e hop before tight here)
        ∙ ap (λ (w : ℕ). last_at (ends_at hops p) e w) (sym (to_head t))

    pub on_at_tail : found ≡ get_or tails i found → eqb hop.tail v ≡ false → found ≡ last_at (ends_at hops p) e (other_end hops e v)
    on_at_tail is t =
        entry_read tails e i found (last_at (ends_at hops p) e hop.tail) (subst (λ (k : ℕ). e < k) (sym holds.count_tails) within) at is (holds.tails_are e hop before tight here)
        ∙ ap (λ (w : ℕ). last_at (ends_at hops p) e w) (sym (to_tail t))
