-- Elimination of all variables but the first, from the last one on. Without the first variable too, any assignment tests the remaining
-- system.
use Rattle.std.proofs.Common.{◌≡◌, ◌≢◌, ℕ, zero, suc, ◌<◌, ◌≤◌, List, ◌⊎◌, inl, inr, refl, ◌∙◌, arith}
use Rattle.nf_linear_laws.proofs.Common.{ℚ, 0ℚ, AtMost, MeetsAll}
use Rattle.nf_linear_laws.proofs.Forms.{updated, updated-else}
use Rattle.nf_linear_laws.proofs.Constraints.{AreWithin, AreWithin-more, system_within, MeetsAll-same, met_or_not}
use Rattle.nf_linear_laws.proofs.LeastElimination.{Elimination, eliminated}

pub record Projection (system : List AtMost) : Type 0 where
  pub rest : List AtMost
  pub within : AreWithin 1 rest
  pub there : (x : ℕ → ℚ) → MeetsAll system x → MeetsAll rest x
  pub back : (x : ℕ → ℚ) → MeetsAll rest x → (y : ℕ → ℚ) × MeetsAll system y × (y 0 ≡ x 0)

one_more : (n : ℕ) (system : List AtMost) (e : Elimination (suc n) system) → Projection e.rest → Projection system
one_more n system e p = record {
  rest = p.rest;
  within = p.within;
  there = λ x h. p.there x (e.there x h);
  back = back;
}
  where
    other : suc n ≢ 0
    other = omega arith

    back : (x : ℕ → ℚ) → MeetsAll p.rest x → (y : ℕ → ℚ) × MeetsAll system y × (y 0 ≡ x 0)
    back x h =
        let q : (y : ℕ → ℚ) × MeetsAll e.rest y × (y 0 ≡ x 0) = p.back x h in
        let r : (v : ℚ) × MeetsAll system (updated q.0 (suc n) v) = e.back q.0 q.1 in
        (updated q.0 (suc n) r.0, r.1, updated-else q.0 (suc n) r.0 0 other ∙ q.2)

pub projected : (n : ℕ) (system : List AtMost) → AreWithin (suc n) system → Projection system
projected zero system w = record { rest = system; within = w; there = λ x h. h; back = λ x h. (x, h, refl) }
projected (suc n) system w = let e : Elimination (suc n) system = eliminated (suc n) system w in one_more n system e (projected n e.rest e.within)

pub projection : (system : List AtMost) → Projection system
projection system = let w : (n : ℕ) × AreWithin n system = system_within system in projected w.0 system (AreWithin-more w.0 (suc w.0) system (further w.0) w.1)
  where
    further : (n : ℕ) → n ≤ suc n
    further n = omega arith

-- ---- systems are decided
abbrev nowhere : ℕ → ℚ
nowhere i = 0ℚ

abbrev pub Decided : List AtMost → Type 0
Decided system = ((x : ℕ → ℚ) × MeetsAll system x) ⊎ ((x : ℕ → ℚ) → MeetsAll system x → ⊥)

pub none_below : (x y : ℕ → ℚ) (i : ℕ) → i < 0 → x i ≡ y i
none_below x y i h = absurd (omega arith)

by_test : (system : List AtMost) (p : Projection system) (e : Elimination 0 p.rest) → MeetsAll e.rest nowhere ⊎ (MeetsAll e.rest nowhere → ⊥) → Decided system
by_test system p e (inl h) =
    let q : (y : ℕ → ℚ) × MeetsAll system y × (y 0 ≡ updated nowhere 0 (e.back nowhere h).0 0) =
    p.back (updated nowhere 0 (e.back nowhere h).0) (e.back nowhere h).1 in
    inl (q.0, q.1)
by_test system p e (inr fails) = inr (λ x h. fails (MeetsAll-same 0 e.rest x nowhere e.within (none_below x nowhere) (e.there x (p.there x h))))

pub decided : (system : List AtMost) → Decided system
decided system =
    let p : Projection system = projection system in
    let e : Elimination 0 p.rest = eliminated 0 p.rest p.within in
    by_test system p e (met_or_not e.rest nowhere)
