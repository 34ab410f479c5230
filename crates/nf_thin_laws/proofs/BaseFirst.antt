-- No pattern comes before the base.
use Rattle.std.proofs.Common.{◌≡◌, ◌≢◌, ℕ, suc, ◌<◌, [], ◌∷◌, inl, inr, ⊎_elim, Bool, true, false, eqb, ap, refl, ◌∙◌, arith, if◌then◌else◌}
use Rattle.nf_thin_laws.proofs.Common.{eqb_tells, eq-eqb, not_both, Pattern, rank, changes, IsEarlier, IsBefore}

pub changes-self : (base : Pattern) → changes base base ≡ 0
changes-self [] = refl
changes-self (a ∷ base) = ap (λ (t : Bool). if t then changes base base else suc (changes base base)) (eq-eqb (rank a) (rank a) refl) ∙ changes-self base

none_changed : (t : Bool) (n : ℕ) → (if t then n else suc n) ≡ 0 → (t ≡ true) × (n ≡ 0)
none_changed true n e = (refl, e)
none_changed false n e = absurd (cc)

pub not_earlier : (base p : Pattern) → changes base p ≡ 0 → IsEarlier p base → ⊥
not_earlier [] [] e h = h
not_earlier [] (b ∷ p) e h = h
not_earlier (a ∷ base) [] e h = h
not_earlier (a ∷ base) (b ∷ p) e h =
    let n : (eqb (rank a) (rank b) ≡ true) × (changes base p ≡ 0) = none_changed (eqb (rank a) (rank b)) (changes base p) e in
    ⊎_elim
    (λ (l : rank b < rank a). ⊎_elim
    (λ (w : (eqb (rank a) (rank b) ≡ true) × (rank a ≡ rank b)). absurd (omega arith))
    (λ (w : (eqb (rank a) (rank b) ≡ false) × (rank a ≢ rank b)). absurd (not_both _ n.0 w.0))
    (eqb_tells (rank a) (rank b)))
    (λ (l : (b ≡ a) × IsEarlier p base). not_earlier base p n.1 l.1) h

pub none_before : (base p : Pattern) → IsBefore base p base → ⊥
none_before base p (inl h) = let e = changes-self base in absurd (omega arith)
none_before base p (inr h) = not_earlier base p (h.0 ∙ changes-self base) h.1
