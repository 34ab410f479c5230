-- The least value of a function on the links with a property.
use Rattle.std.proofs.Common.{◌≡◌, ℕ, zero, suc, ◌<◌, ◌≤◌, List, [], ◌∷◌, ◌⊎◌, inl, inr, ⊎_elim, Some, slice_get, subst, refl, arith}
use Rattle.nf_complete_laws.proofs.Common.{cases_lt, none-some, same_Some, Link}
use Rattle.nf_complete_laws.proofs.Deciding.{NoLink}

-- A property of the first link and of the others.
pub each_of : (Q : ℕ → Link → Type 0) (l : Link) (links : List Link) → Q 0 l → ((e : ℕ) (link : Link) → slice_get links e ≡ Some link → Q (suc e) link)
    → (e : ℕ) (link : Link) → slice_get (l ∷ links) e ≡ Some link → Q e link
each_of Q l links a b zero link p = subst (λ (m : Link). Q 0 m) (same_Some l link p) a
each_of Q l links a b (suc e) link p = b e link p

-- A link with the property and the least value of f.
abbrev pub LeastLink : List Link → (ℕ → Link → Type 0) → (ℕ → Link → ℕ) → Type 0
LeastLink links P f = (e : ℕ) × (link : Link) × (slice_get links e ≡ Some link) × P e link × ((k : ℕ) (other : Link) → slice_get links k ≡ Some other → P k other → f e link ≤ f k other)

pub least_or_none : (links : List Link) (P : ℕ → Link → Type 0) (f : ℕ → Link → ℕ) → ((e : ℕ) (link : Link) → P e link ⊎ (P e link → ⊥)) → LeastLink links P f ⊎ NoLink links P
least_or_none [] P f test = inr (λ e link p _. none-some link p)
least_or_none (l ∷ links) P f test = joined (test 0 l) (least_or_none links (λ e link. P (suc e) link) (λ e link. f (suc e) link) (λ e link. test (suc e) link))
  where
    joined : (P 0 l ⊎ (P 0 l → ⊥)) → (LeastLink links (λ e link. P (suc e) link) (λ e link. f (suc e) link) ⊎ NoLink links (λ e link. P (suc e) link))
        → LeastLink (l ∷ links) P f ⊎ NoLink (l ∷ links) P
    joined (inl p) (inl w) = ⊎_elim
        (λ (h : f (suc w.0) w.1 < f 0 l). inl (suc w.0, w.1, w.2, w.3, each_of (λ k other. P k other → f (suc w.0) w.1 ≤ f k other) l links (λ _. omega arith) w.4))
        (λ (h : f 0 l ≤ f (suc w.0) w.1). inl (
          0,
          l,
          refl,
          p,
          each_of (λ k other. P k other → f 0 l ≤ f k other) l links (λ _. omega arith)
              (λ k other q r. let m : f (suc w.0) w.1 ≤ f (suc k) other = w.4 k other q r in omega arith),
        ))
        (cases_lt (f (suc w.0) w.1) (f 0 l))
    joined (inl p) (inr n) = inl (0, l, refl, p, each_of (λ k other. P k other → f 0 l ≤ f k other) l links (λ _. omega arith) (λ k other q r. absurd (n k other q r)))
    joined (inr n) (inl w) = inl (suc w.0, w.1, w.2, w.3, each_of (λ k other. P k other → f (suc w.0) w.1 ≤ f k other) l links (λ r. absurd (n r)) w.4)
    joined (inr n) (inr m) = inr (each_of (λ k other. P k other → ⊥) l links n m)

abbrev value_of : (links : List Link) (P : ℕ → Link → Type 0) (f : ℕ → Link → ℕ) → ℕ → LeastLink links P f ⊎ NoLink links P → ℕ
value_of links P f d (inl w) = f w.0 w.1
value_of links P f d (inr n) = d

module _ (links : List Link) (P : ℕ → Link → Type 0) (test : (e : ℕ) (link : Link) → P e link ⊎ (P e link → ⊥)) where
  -- The least value of f, or d if no link has the property.
  abbrev pub least_of : ℕ → (ℕ → Link → ℕ) → ℕ
  least_of d f = value_of links P f d (least_or_none links P f test)

  pub least_of-either : (d : ℕ) (f : ℕ → Link → ℕ) (Q : ℕ → Type 0) → Q d → ((e : ℕ) (link : Link) → slice_get links e ≡ Some link → P e link → Q (f e link)) → Q (least_of d f)
  least_of-either d f Q a b = go (least_or_none links P f test)
    where
      go : (o : LeastLink links P f ⊎ NoLink links P) → Q (value_of links P f d o)
      go (inl w) = b w.0 w.1 w.2 w.3
      go (inr n) = a

  pub least_of-below : (d : ℕ) (f : ℕ → Link → ℕ) (e : ℕ) (link : Link) → slice_get links e ≡ Some link → P e link → least_of d f ≤ f e link
  least_of-below d f e link p q = go (least_or_none links P f test)
    where
      go : (o : LeastLink links P f ⊎ NoLink links P) → value_of links P f d o ≤ f e link
      go (inl w) = w.4 e link p q
      go (inr n) = absurd (n e link p q)

  pub least_of-taken : (d : ℕ) (f : ℕ → Link → ℕ) (e : ℕ) (link : Link) → slice_get links e ≡ Some link → P e link
      → (k : ℕ) × (other : Link) × (slice_get links k ≡ Some other) × P k other × (least_of d f ≡ f k other)
  least_of-taken d f e link p q = go (least_or_none links P f test)
    where
      go : (o : LeastLink links P f ⊎ NoLink links P) → (k : ℕ) × (other : Link) × (slice_get links k ≡ Some other) × P k other × (value_of links P f d o ≡ f k other)
      go (inl w) = (w.0, w.1, w.2, w.3, refl)
      go (inr n) = absurd (n e link p q)

  pub least_of-none : (d : ℕ) (f : ℕ → Link → ℕ) → NoLink links P → least_of d f ≡ d
  least_of-none d f none = go (least_or_none links P f test)
    where
      go : (o : LeastLink links P f ⊎ NoLink links P) → value_of links P f d o ≡ d
      go (inl w) = absurd (none w.0 w.1 w.2 w.3)
      go (inr n) = refl

  pub least_of-same : (d : ℕ) (f g : ℕ → Link → ℕ) → ((e : ℕ) (link : Link) → slice_get links e ≡ Some link → P e link → f e link ≡ g e link) → least_of d f ≡ least_of d g
  least_of-same d f g same = go (least_or_none links P f test) (least_or_none links P g test)
    where
      equal : (a b c e : ℕ) → a ≡ b → c ≡ e → a ≤ c → e ≤ b → a ≡ e
      equal a b c e p q h k = omega arith

      go : (o : LeastLink links P f ⊎ NoLink links P) (u : LeastLink links P g ⊎ NoLink links P) → value_of links P f d o ≡ value_of links P g d u
      go (inl w) (inl u) = equal _ _ _ _ (same w.0 w.1 w.2 w.3) (same u.0 u.1 u.2 u.3) (w.4 u.0 u.1 u.2 u.3) (u.4 w.0 w.1 w.2 w.3)
      go (inl w) (inr n) = absurd (n w.0 w.1 w.2 w.3)
      go (inr n) (inl u) = absurd (n u.0 u.1 u.2 u.3)
      go (inr n) (inr m) = refl
