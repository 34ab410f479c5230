-- Bounds of one number by forms, from above and from below. If each bound from below allows each from above, the greatest bound from below
-- is within all. If there is no bound from below, the least bound from above is.
use Rattle.std.proofs.Common.{◌≡◌, ℕ, ◌<◌, List, [], ◌∷◌, ◌++◌, ◌⊎◌, inl, inr, subst}
use Rattle.nf_linear_laws.proofs.Common.{ℚ, 0ℚ, ◌+ℚ◌, ◌-ℚ◌, ◌≤ℚ◌, ◌<ℚ◌, reading_of, lt_or_le_ℚ, ≤ℚ_of_lt, le, eq, linear_le, form_value, AtMost, MeetsAll}
use Rattle.nf_linear_laws.proofs.Forms.{form_value-append, form_value-same, Within-append}
use Rattle.nf_linear_laws.proofs.Constraints.{AreWithin, AreWithin-append, MeetsAll-append, MeetsAll-front, MeetsAll-rest}

-- v plus the form is at most the bound.
abbrev pub AreAbove : List AtMost → (ℕ → ℚ) → ℚ → Type 0
AreAbove [] x v = Unit {0}
AreAbove (u ∷ uppers) x v = (v +ℚ form_value u.form x ≤ℚ u.bound) × AreAbove uppers x v

-- The form is at most v plus the bound.
abbrev pub AreBelow : List AtMost → (ℕ → ℚ) → ℚ → Type 0
AreBelow [] x v = Unit {0}
AreBelow (l ∷ lowers) x v = (form_value l.form x ≤ℚ v +ℚ l.bound) × AreBelow lowers x v

-- ---- at another number, and at an assignment that agrees
falls : (v w f b : ℚ) → w ≤ℚ v → v +ℚ f ≤ℚ b → w +ℚ f ≤ℚ b
falls v w f b h k = linear_le (v ∷ w ∷ f ∷ b ∷ []) (le h ∷ le k ∷ []) (search reading_of) tt

rises : (v w f b : ℚ) → v ≤ℚ w → f ≤ℚ v +ℚ b → f ≤ℚ w +ℚ b
rises v w f b h k = linear_le (v ∷ w ∷ f ∷ b ∷ []) (le h ∷ le k ∷ []) (search reading_of) tt

pub AreAbove-less : (uppers : List AtMost) (x : ℕ → ℚ) (v w : ℚ) → w ≤ℚ v → AreAbove uppers x v → AreAbove uppers x w
AreAbove-less [] x v w h k = tt
AreAbove-less (u ∷ uppers) x v w h k = (falls v w (form_value u.form x) u.bound h k.0, AreAbove-less uppers x v w h k.1)

pub AreBelow-more : (lowers : List AtMost) (x : ℕ → ℚ) (v w : ℚ) → v ≤ℚ w → AreBelow lowers x v → AreBelow lowers x w
AreBelow-more [] x v w h k = tt
AreBelow-more (l ∷ lowers) x v w h k = (rises v w (form_value l.form x) l.bound h k.0, AreBelow-more lowers x v w h k.1)

pub AreAbove-same : (n : ℕ) (uppers : List AtMost) (x y : ℕ → ℚ) (v : ℚ) → AreWithin n uppers → ((i : ℕ) → i < n → x i ≡ y i) → AreAbove uppers x v → AreAbove uppers y v
AreAbove-same n [] x y v w e h = tt
AreAbove-same n (u ∷ uppers) x y v w e h =
    (subst (λ (f : ℚ). v +ℚ f ≤ℚ u.bound) (form_value-same n u.form x y w.0 e) h.0, AreAbove-same n uppers x y v w.1 e h.1)

pub AreBelow-same : (n : ℕ) (lowers : List AtMost) (x y : ℕ → ℚ) (v : ℚ) → AreWithin n lowers → ((i : ℕ) → i < n → x i ≡ y i) → AreBelow lowers x v → AreBelow lowers y v
AreBelow-same n [] x y v w e h = tt
AreBelow-same n (l ∷ lowers) x y v w e h =
    (subst (λ (f : ℚ). f ≤ℚ v +ℚ l.bound) (form_value-same n l.form x y w.0 e) h.0, AreBelow-same n lowers x y v w.1 e h.1)

-- ---- each bound from above with each from below
abbrev pub joined : AtMost → AtMost → AtMost
joined u l = record { form = u.form ++ l.form; bound = u.bound +ℚ l.bound }

abbrev pub joined_all : AtMost → List AtMost → List AtMost
joined_all u [] = []
joined_all u (l ∷ lowers) = joined u l ∷ joined_all u lowers

abbrev pub pairs : List AtMost → List AtMost → List AtMost
pairs [] lowers = []
pairs (u ∷ uppers) lowers = joined_all u lowers ++ pairs uppers lowers

joined_all-within : (n : ℕ) (u : AtMost) (lowers : List AtMost) → AreWithin n (u ∷ []) → AreWithin n lowers → AreWithin n (joined_all u lowers)
joined_all-within n u [] w v = tt
joined_all-within n u (l ∷ lowers) w v = (Within-append n u.form l.form w.0 v.0, joined_all-within n u lowers w v.1)

pub pairs-within : (n : ℕ) (uppers lowers : List AtMost) → AreWithin n uppers → AreWithin n lowers → AreWithin n (pairs uppers lowers)
pairs-within n [] lowers w v = tt
pairs-within n (u ∷ uppers) lowers w v = AreWithin-append n (joined_all u lowers) (pairs uppers lowers) (joined_all-within n u lowers (w.0, tt) v) (pairs-within n uppers lowers w.1 v)

cancelled : (v f g a b s : ℚ) → s ≡ f +ℚ g → v +ℚ f ≤ℚ a → g ≤ℚ v +ℚ b → s ≤ℚ a +ℚ b
cancelled v f g a b s e h k = linear_le (v ∷ f ∷ g ∷ a ∷ b ∷ s ∷ []) (eq e ∷ le h ∷ le k ∷ []) (search reading_of) tt

joined_all-in : (u : AtMost) (lowers : List AtMost) (x : ℕ → ℚ) (v : ℚ) → v +ℚ form_value u.form x ≤ℚ u.bound → AreBelow lowers x v → MeetsAll (joined_all u lowers) x
joined_all-in u [] x v h k = tt
joined_all-in u (l ∷ lowers) x v h k =
    (cancelled v (form_value u.form x) (form_value l.form x) u.bound l.bound _ (form_value-append u.form l.form x) h k.0, joined_all-in u lowers x v h k.1)

pub pairs-in : (uppers lowers : List AtMost) (x : ℕ → ℚ) (v : ℚ) → AreAbove uppers x v → AreBelow lowers x v → MeetsAll (pairs uppers lowers) x
pairs-in [] lowers x v h k = tt
pairs-in (u ∷ uppers) lowers x v h k = MeetsAll-append (joined_all u lowers) (pairs uppers lowers) x (joined_all-in u lowers x v h.0 k) (pairs-in uppers lowers x v h.1 k)

-- ---- the greatest from below
room : (f g a b s : ℚ) → s ≡ f +ℚ g → s ≤ℚ a +ℚ b → g ≤ℚ (a -ℚ f) +ℚ b
room f g a b s e h = linear_le (f ∷ g ∷ a ∷ b ∷ s ∷ []) (eq e ∷ le h ∷ []) (search reading_of) tt

joined_all-out : (u : AtMost) (lowers : List AtMost) (x : ℕ → ℚ) → MeetsAll (joined_all u lowers) x → AreBelow lowers x (u.bound -ℚ form_value u.form x)
joined_all-out u [] x h = tt
joined_all-out u (l ∷ lowers) x h =
    (room (form_value u.form x) (form_value l.form x) u.bound l.bound _ (form_value-append u.form l.form x) h.0, joined_all-out u lowers x h.1)

-- the least number that is at least each bound from below
abbrev pub Greatest : List AtMost → (ℕ → ℚ) → Type 0
Greatest lowers x = (v : ℚ) × AreBelow lowers x v × ((w : ℚ) → AreBelow lowers x w → v ≤ℚ w)

reached : (f b : ℚ) → f ≤ℚ (f -ℚ b) +ℚ b
reached f b = linear_le (f ∷ b ∷ []) [] (search reading_of) tt

needed : (f b w : ℚ) → f ≤ℚ w +ℚ b → f -ℚ b ≤ℚ w
needed f b w h = linear_le (f ∷ b ∷ w ∷ []) (le h ∷ []) (search reading_of) tt

passed : (f b v : ℚ) → f -ℚ b ≤ℚ v → f ≤ℚ v +ℚ b
passed f b v h = linear_le (f ∷ b ∷ v ∷ []) (le h ∷ []) (search reading_of) tt

greater_of : (l : AtMost) (lowers : List AtMost) (x : ℕ → ℚ) (g : Greatest lowers x) → (g.0 <ℚ form_value l.form x -ℚ l.bound) ⊎ (form_value l.form x -ℚ l.bound ≤ℚ g.0)
    → Greatest (l ∷ lowers) x
greater_of l lowers x g (inl h) = (
  form_value l.form x -ℚ l.bound,
  (reached (form_value l.form x) l.bound, AreBelow-more lowers x g.0 _ (≤ℚ_of_lt _ _ h) g.1),
  λ w k. needed (form_value l.form x) l.bound w k.0,
)
greater_of l lowers x g (inr h) = (g.0, (passed (form_value l.form x) l.bound g.0 h, g.1), λ w k. g.2 w k.1)

pub greatest : (l : AtMost) (lowers : List AtMost) (x : ℕ → ℚ) → Greatest (l ∷ lowers) x
greatest l [] x = (form_value l.form x -ℚ l.bound, (reached (form_value l.form x) l.bound, tt), λ w k. needed (form_value l.form x) l.bound w k.0)
greatest l (m ∷ lowers) x = let g : Greatest (m ∷ lowers) x = greatest m lowers x in
    greater_of l (m ∷ lowers) x g (lt_or_le_ℚ g.0 (form_value l.form x -ℚ l.bound))

stays_under : (v f b : ℚ) → v ≤ℚ b -ℚ f → v +ℚ f ≤ℚ b
stays_under v f b h = linear_le (v ∷ f ∷ b ∷ []) (le h ∷ []) (search reading_of) tt

above_all : (uppers lowers : List AtMost) (x : ℕ → ℚ) (v : ℚ) → ((w : ℚ) → AreBelow lowers x w → v ≤ℚ w) → MeetsAll (pairs uppers lowers) x → AreAbove uppers x v
above_all [] lowers x v p h = tt
above_all (u ∷ uppers) lowers x v p h = (
  stays_under v (form_value u.form x) u.bound (p (u.bound -ℚ form_value u.form x) (joined_all-out u lowers x (MeetsAll-front (joined_all u lowers) (pairs uppers lowers) x h))),
  above_all uppers lowers x v p (MeetsAll-rest (joined_all u lowers) (pairs uppers lowers) x h),
)

-- ---- the least from above
abbrev Under : List AtMost → (ℕ → ℚ) → Type 0
Under uppers x = (v : ℚ) × AreAbove uppers x v

just_under : (f b : ℚ) → (b -ℚ f) +ℚ f ≤ℚ b
just_under f b = linear_le (f ∷ b ∷ []) [] (search reading_of) tt

lesser_of : (u : AtMost) (uppers : List AtMost) (x : ℕ → ℚ) (g : Under uppers x)
    → (u.bound -ℚ form_value u.form x <ℚ g.0) ⊎ (g.0 ≤ℚ u.bound -ℚ form_value u.form x) → Under (u ∷ uppers) x
lesser_of u uppers x g (inl h) = (
  u.bound -ℚ form_value u.form x,
  (just_under (form_value u.form x) u.bound, AreAbove-less uppers x g.0 _ (≤ℚ_of_lt _ _ h) g.1),
)
lesser_of u uppers x g (inr h) = (g.0, (stays_under g.0 (form_value u.form x) u.bound h, g.1))

under_all : (uppers : List AtMost) (x : ℕ → ℚ) → Under uppers x
under_all [] x = (0ℚ, tt)
under_all (u ∷ uppers) x = let g : Under uppers x = under_all uppers x in
    lesser_of u uppers x g (lt_or_le_ℚ (u.bound -ℚ form_value u.form x) g.0)

-- ---- a number within all bounds
pub between : (uppers lowers : List AtMost) (x : ℕ → ℚ) → MeetsAll (pairs uppers lowers) x → (v : ℚ) × AreAbove uppers x v × AreBelow lowers x v
between uppers [] x h = let g : Under uppers x = under_all uppers x in (g.0, g.1, tt)
between uppers (l ∷ lowers) x h = let g : Greatest (l ∷ lowers) x = greatest l lowers x in (g.0, above_all uppers (l ∷ lowers) x g.0 g.2 h, g.1)
