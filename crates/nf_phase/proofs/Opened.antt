-- The tests whether a run is mid-phase.
use Rattle.std.proofs.Common.{◌≡◌, ◌≢◌, ◌⊎◌, inl, inr, ℕ, zero, suc, ◌+◌, ◌<◌, Bool, true, false, List, [], ◌∷◌, length, refl, sym, ap, subst, ◌∙◌, ◌↔◌}
use Rattle.std.proofs.Common.{if◌then◌else◌, not, IsTrue, Option, Some, None, slice_get, unwrap_or, MatchBool}
use Rattle.nf_phase.proofs.Common.{slice_get_within, ℚ, 0ℚ, not_both, number_at, State, Link, Piece, Network, IsLink, IsPiece, hop_of, hops, slack}
use Rattle.nf_phase.proofs.Common.{slacks_of, Pattern, slack_at, Standing, entry, IsOpen, Continues, none_starts, ApartAt, HaveStateOrSlack}
use Rattle.nf_rational.specs.Signs.{is_same}
use Rattle.nf_curve_laws.proofs.Operations.{same_of, same_test}
use Rattle.nf_rational_laws.proofs.Naturals.{before_or_at}

-- ---- no piece starts at a time
starts_apart : (b : Bool) (rest : Bool) → (if b then false else rest) ≡ true → (b ≡ false) × (rest ≡ true)
starts_apart true rest h = absurd (cc)
starts_apart false rest h = (refl, h)

pub starts_none : (pieces : List Piece) (time : ℚ) → none_starts pieces time ≡ true → (i : ℕ) (piece : Piece) → IsPiece pieces i piece → piece.start ≢ time
starts_none [] time h i piece at e = absurd (cc)
starts_none (x ∷ pieces) time h zero piece at e =
    let here : x ≡ piece = cc in
    not_both (is_same x.start time) (same_test x.start time (ap (λ (p : Piece). p.start) here ∙ e)) (starts_apart (is_same x.start time) (none_starts pieces time) h).0
starts_none (x ∷ pieces) time h (suc i) piece at e = starts_none pieces time (starts_apart (is_same x.start time) (none_starts pieces time) h).1 i piece at e

starts_by : (x : Piece) (time : ℚ) (b rest : Bool) → b ≡ is_same x.start time → (if b then false else rest) ≡ false → (x.start ≡ time → ⊥) → (rest ≡ false → ⊥) → ⊥
starts_by x time true rest e h apart later = apart (same_of x.start time (sym e))
starts_by x time false rest e h apart later = later h

pub starts_some : (pieces : List Piece) (time : ℚ) → none_starts pieces time ≡ false → ((i : ℕ) (piece : Piece) → IsPiece pieces i piece → piece.start ≢ time) → ⊥
starts_some [] time h apart = absurd (cc)
starts_some (x ∷ pieces) time h apart =
    starts_by x time (is_same x.start time) (none_starts pieces time) refl h (apart 0 x refl) (λ later. starts_some pieces time later (λ i piece at. apart (suc i) piece at))

-- ---- links without a state
pub apart_by : (slacks : List ℚ) (last : Pattern) (e : ℕ) (x : ℚ) (level : Bool) → slice_get slacks e ≡ Some x → IsTrue level ↔ (x ≡ 0ℚ) → slice_get last e ≡ Some None
    → MatchBool (not level) (ApartAt slacks last e) (ApartAt slacks last e → ⊥)
apart_by slacks last e x level here z at = by level z
  where
    is : number_at slacks e ≡ x
    is = ap (λ (o : Option ℚ). unwrap_or o 0ℚ) here

    never : IsTrue false → ⊥
    never t = cc

    by : (b : Bool) → IsTrue b ↔ (x ≡ 0ℚ) → MatchBool (not b) (ApartAt slacks last e) (ApartAt slacks last e → ⊥)
    by true z = λ apart. apart at (is ∙ z.0 refl)
    by false z = λ _ same. never (z.1 (sym is ∙ same))

pub apart_with_state : (slacks : List ℚ) (last : Pattern) (e : ℕ) (state : State) → slice_get last e ≡ Some (Some state) → ApartAt slacks last e
apart_with_state slacks last e state at = λ none. absurd (cc)

pub apart_more : (slacks : List ℚ) (last : Pattern) (i : ℕ) → ((k : ℕ) → k < i → ApartAt slacks last k) → ApartAt slacks last i → (k : ℕ) → k < i + 1 → ApartAt slacks last k
apart_more slacks last i below here k h = by (before_or_at k i h)
  where
    by : (k < i) ⊎ (k ≡ i) → ApartAt slacks last k
    by (inl b) = below k b
    by (inr e) = subst (ApartAt slacks last) (sym e) here

pub apart_all : (slacks : List ℚ) (last : Pattern) (n : ℕ) → length last ≡ n → ((k : ℕ) → k < n → ApartAt slacks last k) → HaveStateOrSlack slacks last
apart_all slacks last n count below e at = below e (subst (λ (m : ℕ). e < m) count (slice_get_within last e None at)) at

-- ---- both
module _ (net : Network) (s : Standing) (slacks : List ℚ) (is : slacks ≡ slacks_of (hops net) s.labels) where
  same_slack : (e : ℕ) (link : Link) → IsLink net e link → number_at slacks e ≡ slack s.labels (hop_of link)
  same_slack e link p = ap (λ (l : List ℚ). number_at l e) is ∙ slack_at net s.labels e link p

  opened : (starts : Bool) → starts ≡ none_starts net.pieces s.time → starts ≡ true → HaveStateOrSlack slacks s.last → IsOpen net s
  opened starts e t apart = record {
    no_start = starts_none net.pieces s.time (sym e ∙ t);
    apart = λ k link p none zero. apart k none (same_slack k link p ∙ zero);
  }

  pub not_started : (starts : Bool) → starts ≡ none_starts net.pieces s.time → starts ≡ false → IsOpen net s → ⊥
  not_started starts e f o = starts_some net.pieces s.time (sym e ∙ f) o.no_start

  not_apart : length s.last ≡ length net.links → (HaveStateOrSlack slacks s.last → ⊥) → IsOpen net s → ⊥
  not_apart count other o = other (λ k none same. (let l = link_there k none in o.apart k l.0 l.1 none (sym (same_slack k l.0 l.1) ∙ same)))
    where
      link_there : (k : ℕ) → slice_get s.last k ≡ Some None → (link : Link) × IsLink net k link
      link_there k none = entry net.links k (subst (λ (m : ℕ). k < m) count (slice_get_within s.last k None none))

  pub open_if : length s.last ≡ length net.links → (starts : Bool) → starts ≡ none_starts net.pieces s.time → starts ≡ true → (apart : Bool)
      → MatchBool apart (HaveStateOrSlack slacks s.last) (HaveStateOrSlack slacks s.last → ⊥)
      → MatchBool apart (IsOpen net s) (IsOpen net s → ⊥)
  open_if count starts e t true a = opened starts e t a
  open_if count starts e t false a = not_apart count a

pub continues_by : (net : Network) (s : Standing) (opens : Bool) → s.made ≡ 0 → MatchBool opens (IsOpen net s) (IsOpen net s → ⊥)
    → MatchBool opens (Continues net s) (Continues net s → ⊥)
continues_by net s true first o = (first, o)
continues_by net s false first o = λ c. o c.1
