-- Phases have positive length: from any slacks and slopes on a phase can last for some time.
use Rattle.std.proofs.Common.{◌≡◌, ℕ, zero, suc, List, [], ◌∷◌, inl, inr, ⊎_elim, Some, slice_get, sym, subst, refl}
use Rattle.nf_phase_laws.proofs.Common.{ℚ, 0ℚ, 1ℚ, ◌+ℚ◌, ◌-ℚ◌, ◌*ℚ◌, ◌/ℚ◌, ◌≤ℚ◌, ◌<ℚ◌, min_ℚ, reading_of, ≤ℚ_of_lt, ps_times, lt_or_le_ℚ, not_both_ℚ}
use Rattle.nf_phase_laws.proofs.Common.{less_ps, le, lt, eq, le_times, linear_le, linear_lt, number_at, Within, Link, Piece, Network, Lasts, IsExtension}
use Rattle.nf_phase_laws.proofs.Common.{IsPhaseLength, IsPhase, quotient-times, ≤ℚ_trans, <_≤_trans, min_left, min_right, min_keeps, /ℚ_is, ps_inv, one_ps}

-- ---- if each entry of a list allows some time, some time is allowed by all of them
pub record Fitting {A : Type 0} (xs : List A) (Fits : ℕ → A → ℚ → Type 0) : Type 0 where
  pub time : ℚ
  pub some : 0ℚ <ℚ time
  pub fits : (i : ℕ) (x : A) → slice_get xs i ≡ Some x → Fits i x time

lesser : (a b : ℚ) → 0ℚ <ℚ a → 0ℚ <ℚ b → (0ℚ <ℚ min_ℚ a b) × ((min_ℚ a b ≤ℚ a) × (min_ℚ a b ≤ℚ b))
lesser a b h k = (min_keeps (λ (z : ℚ). 0ℚ <ℚ z) a b h k, (min_left a b, min_right a b))

pub fits_all : {A : Type 0} (xs : List A) (Fits : ℕ → A → ℚ → Type 0) → ((i : ℕ) (x : A) (long short : ℚ) → Fits i x long → short ≤ℚ long → Fits i x short)
    → ((i : ℕ) (x : A) → slice_get xs i ≡ Some x → (time : ℚ) × (0ℚ <ℚ time) × Fits i x time) → Fitting xs Fits
fits_all [] Fits shorter each = record { time = 1ℚ; some = one_ps; fits = λ i x p. absurd (cc) }
fits_all {A} (x ∷ xs) Fits shorter each =
    let first : (time : ℚ) × (0ℚ <ℚ time) × Fits 0 x time = each 0 x refl in
    let rest : Fitting xs (λ i. Fits (suc i)) = fits_all xs (λ i. Fits (suc i)) (λ i. shorter (suc i)) (λ i y p. each (suc i) y p) in
    let both : (0ℚ <ℚ min_ℚ first.0 rest.time) × ((min_ℚ first.0 rest.time ≤ℚ first.0) × (min_ℚ first.0 rest.time ≤ℚ rest.time)) = lesser first.0 rest.time first.1 rest.some in
    record { time = min_ℚ first.0 rest.time; some = both.0; fits = by_place x first.0 rest.time (min_ℚ first.0 rest.time) first.2 rest.fits both.1.0 both.1.1 }
  where
    by_place : (y : A) (a b c : ℚ) → Fits 0 x a → ((i : ℕ) (z : A) → slice_get xs i ≡ Some z → Fits (suc i) z b) → c ≤ℚ a → c ≤ℚ b → (i : ℕ) (z : A)
        → slice_get (x ∷ xs) i ≡ Some z → Fits i z c
    by_place y a b c f g h k zero z p = subst (λ (u : A). Fits 0 u c) (same x z p) (shorter 0 x a c f h)
      where
        same : (u v : A) → Some u ≡ Some v → u ≡ v
        same u v e = cc
    by_place y a b c f g h k (suc i) z p = shorter (suc i) z b c (g i z p) k

-- ---- a line that begins away from 0 stays on its side for some time
ps_quotient : (x y : ℚ) → 0ℚ <ℚ x → 0ℚ <ℚ y → 0ℚ <ℚ x /ℚ y
ps_quotient x y h k = subst (λ (z : ℚ). 0ℚ <ℚ z) (sym (/ℚ_is x y)) (ps_times _ _ h (ps_inv y k))

abbrev Room : ℚ → ℚ → Type 0
Room z k = (time : ℚ) × (0ℚ <ℚ time) × ((while : ℚ) → Within 0ℚ time while → while *ℚ k ≤ℚ z)

room : (z k : ℚ) → 0ℚ <ℚ z → Room z k
room z k h = ⊎_elim
    (λ (u : 0ℚ <ℚ k). (z /ℚ k, ps_quotient z k h u, λ w v. reached w (z /ℚ k) (≤ℚ_of_lt _ _ u) v.1 (quotient-times z k u)))
    (λ (u : k ≤ℚ 0ℚ). (1ℚ, one_ps, λ w v. sinks w u v.0))
    (lt_or_le_ℚ 0ℚ k)
  where
    reached : (w t : ℚ) → 0ℚ ≤ℚ k → w ≤ℚ t → t *ℚ k ≡ z → w *ℚ k ≤ℚ z
    reached w t n v e = linear_le (w ∷ t ∷ k ∷ z ∷ []) (le_times n v ∷ eq e ∷ []) (search reading_of) tt

    sinks : (w : ℚ) → k ≤ℚ 0ℚ → 0ℚ ≤ℚ w → w *ℚ k ≤ℚ z
    sinks w u v = linear_le (w ∷ k ∷ z ∷ []) (lt h ∷ le_times v u ∷ []) (search reading_of) tt

-- of a link with this slack, whose slack changes at this rate
pub record KeepsSide (z k time : ℚ) : Type 0 where
  pub below : (while : ℚ) → z <ℚ 0ℚ → Within 0ℚ time while → z +ℚ while *ℚ k ≤ℚ 0ℚ
  pub above : (while : ℚ) → 0ℚ <ℚ z → Within 0ℚ time while → 0ℚ ≤ℚ z +ℚ while *ℚ k

keeps_side : (z k : ℚ) → (time : ℚ) × (0ℚ <ℚ time) × KeepsSide z k time
keeps_side z k = ⊎_elim
    (λ (h : z <ℚ 0ℚ).
    let r : Room (0ℚ -ℚ z) k = room (0ℚ -ℚ z) k (linear_lt (z ∷ []) (lt h ∷ []) (search reading_of) tt) in
    (r.0, r.1, record { below = λ w _ v. under w (r.2 w v); above = λ w i _. absurd (not_both_ℚ _ _ h (≤ℚ_of_lt _ _ i)) }))
    (λ (h : 0ℚ ≤ℚ z). ⊎_elim
    (λ (i : 0ℚ <ℚ z).
    let r : Room z (0ℚ -ℚ k) = room z (0ℚ -ℚ k) i in
    (r.0, r.1, record { below = λ w j _. absurd (not_both_ℚ _ _ j h); above = λ w _ v. over w (r.2 w v) }))
    (λ (i : z ≤ℚ 0ℚ). (1ℚ, one_ps, record { below = λ w j _. absurd (not_both_ℚ _ _ j h); above = λ w j _. absurd (not_both_ℚ _ _ j i) }))
    (lt_or_le_ℚ 0ℚ z))
    (lt_or_le_ℚ z 0ℚ)
  where
    under : (w : ℚ) → w *ℚ k ≤ℚ 0ℚ -ℚ z → z +ℚ w *ℚ k ≤ℚ 0ℚ
    under w e = linear_le (z ∷ k ∷ w ∷ []) (le e ∷ []) (search reading_of) tt

    over : (w : ℚ) → w *ℚ (0ℚ -ℚ k) ≤ℚ z → 0ℚ ≤ℚ z +ℚ w *ℚ k
    over w e = linear_le (z ∷ k ∷ w ∷ []) (le e ∷ []) (search reading_of) tt

-- ---- a phase can last for some time
module _ (net : Network) (slacks slopes : List ℚ) (time : ℚ) where
  abbrev LinkFits : ℕ → Link → ℚ → Type 0
  LinkFits e link length = KeepsSide (number_at slacks e) (number_at slopes link.head -ℚ number_at slopes link.tail) length

  abbrev PieceFits : ℕ → Piece → ℚ → Type 0
  PieceFits i piece length = time <ℚ piece.start → (time +ℚ length) ≤ℚ piece.start

  links_fit : Fitting net.links LinkFits
  links_fit = fits_all net.links LinkFits
      (λ e link long short f h. record { below = λ w i v. f.below w i (v.0, ≤ℚ_trans _ _ _ v.1 h); above = λ w i v. f.above w i (v.0, ≤ℚ_trans _ _ _ v.1 h) })
      (λ e link p. keeps_side (number_at slacks e) (number_at slopes link.head -ℚ number_at slopes link.tail))

  pieces_fit : Fitting net.pieces PieceFits
  pieces_fit = fits_all net.pieces PieceFits
      (λ i piece long short f h l. sooner piece.start long short (f l) h)
      (λ i piece p. ⊎_elim
      (λ (l : time <ℚ piece.start). (piece.start -ℚ time, until_then piece.start l, λ _. just piece.start))
      (λ (l : piece.start ≤ℚ time). (1ℚ, one_ps, λ k. absurd (not_both_ℚ _ _ k l)))
      (lt_or_le_ℚ time piece.start))
    where
      sooner : (s long short : ℚ) → time +ℚ long ≤ℚ s → short ≤ℚ long → time +ℚ short ≤ℚ s
      sooner s long short h k = linear_le (time ∷ s ∷ long ∷ short ∷ []) (le h ∷ le k ∷ []) (search reading_of) tt

      until_then : (s : ℚ) → time <ℚ s → 0ℚ <ℚ s -ℚ time
      until_then s h = linear_lt (time ∷ s ∷ []) (lt h ∷ []) (search reading_of) tt

      just : (s : ℚ) → time +ℚ (s -ℚ time) ≤ℚ s
      just s = linear_le (time ∷ s ∷ []) [] (search reading_of) tt

  pub Lasts-some : (length : ℚ) × (0ℚ <ℚ length) × Lasts net slacks slopes time length
  Lasts-some =
      let a : ℚ = links_fit.time in
      let b : ℚ = pieces_fit.time in
      let both : (0ℚ <ℚ min_ℚ a b) × ((min_ℚ a b ≤ℚ a) × (min_ℚ a b ≤ℚ b)) = lesser a b links_fit.some pieces_fit.some in (
        min_ℚ a b,
        both.0,
        record {
          not_negative = ≤ℚ_of_lt _ _ both.0;
          inactive = λ e link while p h w. (links_fit.fits e link p).below while h (w.0, ≤ℚ_trans _ _ _ w.1 both.1.0);
          resetting = λ e link while p h w. (links_fit.fits e link p).above while h (w.0, ≤ℚ_trans _ _ _ w.1 both.1.0);
          supply = λ i piece p h. ≤ℚ_trans _ _ _ (further (min_ℚ a b) b both.1.1) (pieces_fit.fits i piece p h);
        },
      )
    where
      further : (c b : ℚ) → c ≤ℚ b → time +ℚ c ≤ℚ time +ℚ b
      further c b h = linear_le (time ∷ c ∷ b ∷ []) (le h ∷ []) (search reading_of) tt

pub IsExtension-some : (net : Network) (slacks slopes : List ℚ) (time length : ℚ) → IsExtension net slacks slopes time length → 0ℚ <ℚ length
IsExtension-some net slacks slopes time length x =
    let s : (short : ℚ) × (0ℚ <ℚ short) × Lasts net slacks slopes time short = Lasts-some net slacks slopes time in
    <_≤_trans _ _ _ s.1 (x.greatest s.0 s.2)

pub IsPhaseLength-some : (net : Network) (slacks slopes : List ℚ) (time horizon length : ℚ) → time <ℚ horizon → IsPhaseLength net slacks slopes time horizon length → 0ℚ <ℚ length
IsPhaseLength-some net slacks slopes time horizon length h (inl (x, is_x, e)) =
    subst (λ (z : ℚ). 0ℚ <ℚ z) (sym e) (lesser (horizon -ℚ time) x (less_ps time horizon h) (IsExtension-some net slacks slopes time x is_x)).0
IsPhaseLength-some net slacks slopes time horizon length h (inr (_, e)) = subst (λ (z : ℚ). 0ℚ <ℚ z) (sym e) (less_ps time horizon h)

pub IsPhase-some : (net : Network) (horizon : ℚ) (old new : ℚ × List ℚ) → IsPhase net horizon old new → old.0 <ℚ new.0
IsPhase-some net horizon old new phase = later old.0 new.0 phase.length phase.time (IsPhaseLength-some net _ phase.slopes old.0 horizon phase.length phase.before phase.is_length)
  where
    later : (a b d : ℚ) → b ≡ a +ℚ d → 0ℚ <ℚ d → a <ℚ b
    later a b d e h = linear_lt (a ∷ b ∷ d ∷ []) (eq e ∷ lt h ∷ []) (search reading_of) tt
