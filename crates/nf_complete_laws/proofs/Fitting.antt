-- Flows that fit slopes. Here x is the flow of a link, s and t are the slopes at its tail and its head.
use Rattle.std.proofs.Common.{◌≡◌, [], ◌∷◌, ◌⊎◌, inl, inr, ⊎_elim, false, Option, Some, None, unwrap_or, sym, ap, subst, refl, ◌∙◌}
use Rattle.nf_complete_laws.proofs.Common.{none-some, same_Some, ℚ, 0ℚ, ◌+ℚ◌, ◌-ℚ◌, ◌*ℚ◌, ◌≤ℚ◌, ◌<ℚ◌, min_ℚ, reading_of, ≤ℚ_of_same, ≤ℚ_of_lt, ≤ℚ_antisymm}
use Rattle.nf_complete_laws.proofs.Common.{lt_or_le_ℚ, not_both_ℚ, nn_times, ≤ℚ_refl, ≤ℚ_trans, le, le_times, linear_le, min_left, min_right, min_keeps}
use Rattle.nf_complete_laws.proofs.Common.{exit_slope, Fills, IsPositive, exit_full, exit_tight, exit_zero, Fits}
use Rattle.nf_complete_laws.proofs.Deciding.{Decided}

-- ---- flows of at most what fills the link, of exactly that, and of less
abbrev pub IsAtMost : Option ℚ → ℚ → ℚ → Type 0
IsAtMost capacity x t = (c : ℚ) → capacity ≡ Some c → x ≤ℚ c *ℚ t

abbrev pub IsFilled : Option ℚ → ℚ → ℚ → Type 0
IsFilled capacity x t = (c : ℚ) × (capacity ≡ Some c) × (c *ℚ t ≤ℚ x)

abbrev pub HasRoom : Option ℚ → ℚ → ℚ → Type 0
HasRoom capacity x t = (c : ℚ) → capacity ≡ Some c → x <ℚ c *ℚ t

pub filled_or_room : (capacity : Option ℚ) (x t : ℚ) → IsFilled capacity x t ⊎ HasRoom capacity x t
filled_or_room None x t = inr (λ c e. absurd (none-some c e))
filled_or_room (Some c) x t = ⊎_elim
    (λ (h : x <ℚ c *ℚ t). inr (λ d e. subst (λ (k : ℚ). x <ℚ k *ℚ t) (same_Some c d e) h))
    (λ (h : c *ℚ t ≤ℚ x). inl (c, refl, h))
    (lt_or_le_ℚ x (c *ℚ t))

pub room_or_not : (capacity : Option ℚ) (x t : ℚ) → Decided (HasRoom capacity x t)
room_or_not capacity x t = ⊎_elim
    (λ (f : IsFilled capacity x t). inr (λ r. not_both_ℚ _ _ (r f.0 f.1) f.2))
    (λ (r : HasRoom capacity x t). inl r)
    (filled_or_room capacity x t)

pub IsAtMost-fills : (capacity : Option ℚ) (x t : ℚ) → Fills capacity x t → IsAtMost capacity x t
IsAtMost-fills capacity x t f c e = ≤ℚ_of_same _ _ (f.2 ∙ ap (λ (k : ℚ). k *ℚ t) (same_Some f.0 c (sym f.1 ∙ e)))

pub IsAtMost-none : (capacity : Option ℚ) (x t : ℚ) → IsPositive capacity → x ≡ 0ℚ → 0ℚ ≤ℚ t → IsAtMost capacity x t
IsAtMost-none capacity x t positive z n c e = subst (λ (k : ℚ). k ≤ℚ c *ℚ t) (sym z) (nn_times c t (≤ℚ_of_lt _ _ (positive c e)) n)

pub not_negative-fills : (capacity : Option ℚ) (x t : ℚ) → IsPositive capacity → Fills capacity x t → 0ℚ ≤ℚ t → 0ℚ ≤ℚ x
not_negative-fills capacity x t positive f n = subst (λ (k : ℚ). 0ℚ ≤ℚ k) (sym f.2) (nn_times f.0 t (≤ℚ_of_lt _ _ (positive f.0 f.1)) n)

-- ---- a flow, cut to the flow that fills the link if that is less
abbrev pub capped : Option ℚ → ℚ → ℚ → ℚ
capped None x t = x
capped (Some c) x t = min_ℚ x (c *ℚ t)

pub capped-le : (capacity : Option ℚ) (x t : ℚ) → capped capacity x t ≤ℚ x
capped-le None x t = ≤ℚ_refl x
capped-le (Some c) x t = min_left x (c *ℚ t)

-- A lower bound of the cut flow.
pub capped-ge : (capacity : Option ℚ) (x t y : ℚ) → y ≤ℚ x → IsAtMost capacity y t → y ≤ℚ capped capacity x t
capped-ge None x t y h k = h
capped-ge (Some c) x t y h k = min_keeps (λ (z : ℚ). y ≤ℚ z) x (c *ℚ t) h (k c refl)

pub capped-same : (capacity : Option ℚ) (x t : ℚ) → IsAtMost capacity x t → capped capacity x t ≡ x
capped-same capacity x t h = ≤ℚ_antisymm _ _ (capped-le capacity x t) (capped-ge capacity x t x (≤ℚ_refl x) h)

pub capped-at_most : (capacity : Option ℚ) (x t : ℚ) → IsAtMost capacity (capped capacity x t) t
capped-at_most None x t c e = absurd (none-some c e)
capped-at_most (Some a) x t c e = subst (λ (k : ℚ). min_ℚ x (a *ℚ t) ≤ℚ k *ℚ t) (same_Some a c e) (min_right x (a *ℚ t))

pub capped-not_negative : (capacity : Option ℚ) (x t : ℚ) → IsPositive capacity → 0ℚ ≤ℚ x → 0ℚ ≤ℚ t → 0ℚ ≤ℚ capped capacity x t
capped-not_negative capacity x t positive h n = capped-ge capacity x t 0ℚ h (IsAtMost-none capacity 0ℚ t positive refl n)

pub capped-none : (capacity : Option ℚ) (x t : ℚ) → IsPositive capacity → x ≡ 0ℚ → 0ℚ ≤ℚ t → capped capacity x t ≡ 0ℚ
capped-none capacity x t positive e n =
    ≤ℚ_antisymm _ _ (≤ℚ_trans _ _ _ (capped-le capacity x t) (≤ℚ_of_same _ _ e)) (capped-not_negative capacity x t positive (≤ℚ_of_same _ _ (sym e)) n)

-- If the slope of the head falls by at most h, at most h times the capacity is cut off.
pub capped-near : (capacity : Option ℚ) (x t u h : ℚ) → IsPositive capacity → 0ℚ ≤ℚ h → IsAtMost capacity x t → t -ℚ h ≤ℚ u → x ≤ℚ capped capacity x u +ℚ unwrap_or capacity 0ℚ *ℚ h
capped-near None x t u h positive n m k = linear_le (x ∷ h ∷ []) [] (search reading_of) tt
capped-near (Some c) x t u h positive n m k = min_keeps (λ (z : ℚ). x ≤ℚ z +ℚ c *ℚ h) x (c *ℚ u)
    (linear_le (x ∷ c ∷ h ∷ []) (le_times low n ∷ []) (search reading_of) tt)
    (linear_le (x ∷ c ∷ t ∷ u ∷ h ∷ []) (le_times low k ∷ le (m c refl) ∷ []) (search reading_of) tt)
  where
    low : 0ℚ ≤ℚ c
    low = ≤ℚ_of_lt _ _ (positive c refl)

-- A filled link is still filled.
filled_by : (c x t u : ℚ) → 0ℚ ≤ℚ c → c *ℚ t ≤ℚ x → u ≤ℚ t → c *ℚ u ≤ℚ x
filled_by c x t u n h k = linear_le (c ∷ x ∷ t ∷ u ∷ []) (le_times n k ∷ le h ∷ []) (search reading_of) tt

pub capped-filled : (capacity : Option ℚ) (x t u : ℚ) → IsPositive capacity → IsFilled capacity x t → u ≤ℚ t → IsFilled capacity (capped capacity x u) u
capped-filled None x t u positive f k = absurd (none-some f.0 f.1)
capped-filled (Some a) x t u positive f k = (
  a,
  refl,
  min_keeps (λ (z : ℚ). a *ℚ u ≤ℚ z) x (a *ℚ u)
      (filled_by a x t u (≤ℚ_of_lt _ _ (positive a refl)) (subst (λ (c : ℚ). c *ℚ t ≤ℚ x) (sym (same_Some a f.0 f.1)) f.2) k) (≤ℚ_refl _),
)

pub Fills-filled : (capacity : Option ℚ) (x t : ℚ) → IsAtMost capacity x t → IsFilled capacity x t → Fills capacity x t
Fills-filled capacity x t m f = (f.0, f.1, ≤ℚ_antisymm _ _ (m f.0 f.1) f.2)

pub IsFilled-fills : (capacity : Option ℚ) (x t : ℚ) → Fills capacity x t → IsFilled capacity x t
IsFilled-fills capacity x t f = (f.0, f.1, ≤ℚ_of_same _ _ (sym f.2))

pub capped-fills : (capacity : Option ℚ) (x t u : ℚ) → IsPositive capacity → Fills capacity x t → u ≤ℚ t → Fills capacity (capped capacity x u) u
capped-fills capacity x t u positive f k = Fills-filled capacity _ u (capped-at_most capacity x u) (capped-filled capacity x t u positive (IsFilled-fills capacity x t f) k)

-- So a flow that fits slopes s and t is cut to one that fits r and u.
pub Fits-capped : (capacity : Option ℚ) (x s t r u : ℚ) → IsPositive capacity → Fits capacity x s t → 0ℚ ≤ℚ u → u ≤ℚ t → (x ≤ℚ 0ℚ) ⊎ (r ≤ℚ u) → (u ≤ℚ r) ⊎ IsFilled capacity x t
    → Fits capacity (capped capacity x u) r u
Fits-capped capacity x s t r u positive fits n k used upper = record {
  no_negative = capped-not_negative capacity x u positive fits.no_negative n;
  most = capped-at_most capacity x u;
  used = ⊎_elim (λ (h : x ≤ℚ 0ℚ). inl (≤ℚ_trans _ _ _ (capped-le capacity x u) h)) (λ (h : r ≤ℚ u). inr h) used;
  upper = ⊎_elim (λ (h : u ≤ℚ r). inl h) (λ (f : IsFilled capacity x t). inr (capped-filled capacity x t u positive f k)) upper;
}

-- ---- exit slopes
pub fits_exit : (capacity : Option ℚ) (x s t : ℚ) → IsPositive capacity → Fits capacity x s t → s ≤ℚ t → exit_slope false capacity x s ≡ t
fits_exit capacity x s t positive fits h = ⊎_elim
    (λ (k : t ≤ℚ s). exit_tight capacity x s t positive (≤ℚ_antisymm _ _ k h) fits.most)
    (λ (f : IsFilled capacity x t). exit_full capacity x s t positive (Fills-filled capacity x t fits.most f) h)
    fits.upper

pub fits_least : (capacity : Option ℚ) (x s t : ℚ) → IsPositive capacity → Fits capacity x s t → t ≤ℚ exit_slope false capacity x s
fits_least capacity x s t positive fits = ⊎_elim
    (λ (h : s <ℚ t). ≤ℚ_of_same _ _ (sym (fits_exit capacity x s t positive fits (≤ℚ_of_lt _ _ h))))
    (λ (h : t ≤ℚ s). exit_zero capacity x s t h)
    (lt_or_le_ℚ s t)

pub fits_used : (capacity : Option ℚ) (x s t : ℚ) → Fits capacity x s t → 0ℚ <ℚ x → s ≤ℚ t
fits_used capacity x s t fits h = ⊎_elim (λ (k : x ≤ℚ 0ℚ). absurd (not_both_ℚ _ _ h k)) (λ (k : s ≤ℚ t). k) fits.used
