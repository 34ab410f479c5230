-- A curve in short form: where the new slope is the last one, the last point gives way to the new one.
use Rattle.std.proofs.Common.{◌≡◌, List, [], ◌∷◌, ◌++◌, ⊎_elim, sym, ap, subst, ◌∙◌, append_assoc}
use Rattle.nf_model_laws.proofs.Common.{ℚ, ◌≤ℚ◌, ◌<ℚ◌, 0ℚ, ≤ℚ_of_lt, lt_or_le_ℚ, value, slope, IsCurve}
use Rattle.nf_model_laws.proofs.Curves.{TimesRise-merge, value-front, value-merge, EndsAt}

-- the list of points without the one between has the same values
pub value-merged : (front : List (ℚ × ℚ)) (p q r : ℚ × ℚ) (rest : List (ℚ × ℚ)) (t : ℚ) → IsCurve (front ++ p ∷ q ∷ r ∷ rest) → slope p q ≡ slope q r → 0ℚ ≤ℚ t
    → value (front ++ p ∷ q ∷ r ∷ rest) t ≡ value (front ++ p ∷ r ∷ rest) t
value-merged [] p q r rest t c e h = value-merge [] p q r rest t c.1 e (subst (λ (z : ℚ). z ≤ℚ t) (sym c.0) h)
value-merged (x ∷ front) p q r rest t c e h = ⊎_elim
    (λ (l : t <ℚ p.0). value-front front x p (q ∷ r ∷ rest) t c.1 (≤ℚ_of_lt _ _ l)
    ∙ sym (value-front front x p (r ∷ rest) t (TimesRise-merge (x ∷ front) p q r rest c.1) (≤ℚ_of_lt _ _ l)))
    (λ (l : p.0 ≤ℚ t). value-merge (x ∷ front) p q r rest t c.1 e l)
    (lt_or_le_ℚ t p.0)

pub IsCurve-merged : (front : List (ℚ × ℚ)) (p q r : ℚ × ℚ) (rest : List (ℚ × ℚ)) → IsCurve (front ++ p ∷ q ∷ r ∷ rest) → IsCurve (front ++ p ∷ r ∷ rest)
IsCurve-merged [] p q r rest c = (c.0, TimesRise-merge [] p q r rest c.1)
IsCurve-merged (x ∷ front) p q r rest c = (c.0, TimesRise-merge (x ∷ front) p q r rest c.1)

pub EndsAt-merged : (front : List (ℚ × ℚ)) (p q r : ℚ × ℚ) → EndsAt (front ++ p ∷ q ∷ r ∷ []) r → EndsAt (front ++ p ∷ r ∷ []) r
EndsAt-merged front p q r e = record { front = front ++ p ∷ []; same = sym (append_assoc front (p ∷ []) (r ∷ [])); curve = IsCurve-merged front p q r [] e.curve }

-- pushing and pushing in short form are one at every time
pub value-push_or_merge : (front : List (ℚ × ℚ)) (p q r : ℚ × ℚ) (t : ℚ) → IsCurve ((front ++ p ∷ q ∷ []) ++ r ∷ []) → slope p q ≡ slope q r → 0ℚ ≤ℚ t
    → value ((front ++ p ∷ q ∷ []) ++ r ∷ []) t ≡ value (front ++ p ∷ r ∷ []) t
value-push_or_merge front p q r t c e h =
    let a : (front ++ p ∷ q ∷ []) ++ r ∷ [] ≡ front ++ p ∷ q ∷ r ∷ [] = append_assoc front (p ∷ q ∷ []) (r ∷ []) in
    ap (λ (l : List (ℚ × ℚ)). value l t) a ∙ value-merged front p q r [] t (subst (λ (l : List (ℚ × ℚ)). IsCurve l) a c) e h
