-- Amounts: brought into short form, summed up, and what pieces supply. Exits: those of a link's loading.
use Rattle.std.proofs.Common.{◌≡◌, List, [], ◌∷◌, Option, refl, sym, subst, ◌∙◌, Ok}
use Rattle.nf_routes_links.proofs.Common.{ℚ, 0ℚ, ◌+ℚ◌, ◌≤ℚ◌, ≤ℚ_refl, ≤ℚ_trans, Passing, Point, value, IsCurve, NeverFalls, Piece, NeverFalls-value}
use Rattle.nf_routes_links.proofs.Common.{checked_sum, checked_short-is, Loaded, checked_loading, IsAmountCurve, AreExits, IsShortOf, IsSumOf}
use Rattle.nf_routes_links.proofs.Common.{follows-values_rise}
use Rattle.nf_rational_laws.proofs.Polynomial.{reading_of}
use Rattle.nf_rational_laws.proofs.Linear.{le, linear_le}
use Rattle.nf_model_laws.specs.Capacity.{IsPositive}
use Rattle.nf_model_laws.proofs.Queues.{IsExit-after, IsExit-monotone}
use Rattle.nf_curve_laws.proofs.Following.{FollowsFrom}
use Rattle.nf_curve_laws.proofs.Values.{follows-curve, follows-values}
use Rattle.nf_curve_laws.proofs.Sums.{checked_sum-is}
use Rattle.nf_load_def.specs.Meanings.{IsCumulative}
use Rattle.nf_load_laws.proofs.Functions.{exit_at, exit_at-is}
use Rattle.nf_load_laws.proofs.Loading.{ExitPoints, exit_points}
use Rattle.nf_routes_laws.proofs.Entries.{rises-same}
use Rattle.nf_rational_laws.proofs.Facts.{sum_le, both_are_zero}

-- ---- functions that have the same values from time 0 on

pub short_amount : (points short : List Point) → IsAmountCurve points → IsShortOf points short → IsAmountCurve short
short_amount points short a s = record {
  curve = s.curve;
  begins = s.values 0ℚ (≤ℚ_refl 0ℚ) ∙ a.begins;
  rises = rises-same (value points) (value short) s.values a.rises;
}

short_exits : (points short : List Point) → AreExits points → IsShortOf points short → AreExits short
short_exits points short a s = record {
  curve = s.curve;
  first = subst (λ (x : ℚ). 0ℚ ≤ℚ x) (sym (s.values 0ℚ (≤ℚ_refl 0ℚ))) a.first;
  rises = rises-same (value points) (value short) s.values a.rises;
}

-- ---- nothing, sums, and what pieces supply
pub no_amount : IsAmountCurve ((0ℚ, 0ℚ) ∷ [])
no_amount = record { curve = (refl, tt); begins = refl; rises = λ s t h k. ≤ℚ_refl 0ℚ }

pub sum_amount : (left right sum : List Point) → IsAmountCurve left → IsAmountCurve right → IsSumOf left right sum → IsAmountCurve sum
sum_amount left right sum a b s = record {
  curve = s.curve;
  begins = s.values 0ℚ (≤ℚ_refl 0ℚ) ∙ both_are_zero _ _ a.begins b.begins;
  rises = rises-same (λ t. value left t +ℚ value right t) (value sum) s.values (λ i j h k. sum_le _ _ _ _ (a.rises i j h k) (b.rises i j h k));
}

pub summed_amount : (passes : Passing) (left right sum : List Point) → IsAmountCurve left → IsAmountCurve right → checked_sum passes left right ≡ Ok sum → IsAmountCurve sum
summed_amount passes left right sum a b e = sum_amount left right sum a b (checked_sum-is passes left right a.curve b.curve sum e)

pub supplied_amount : (pieces : List Piece) (last : ℚ) (points : List Point) → IsCumulative pieces last points → IsAmountCurve points
supplied_amount pieces last points w = record { curve = w.curve; begins = w.begins; rises = w.rises }

-- ---- the exits of a loading
module _ (passes : Passing) (transit : ℚ) (capacity : Option ℚ) (inflow : List Point) (last : ℚ) (loaded : Loaded)
    (amount : IsAmountCurve inflow) (waits_0 : 0ℚ ≤ℚ transit) (positive : IsPositive capacity) (from_0 : 0ℚ ≤ℚ last) where
  abbrev at : ℚ → ℚ
  at t = exit_at transit capacity inflow amount.curve t

  at-rises : NeverFalls (λ t. at t)
  at-rises s t h k = IsExit-monotone transit capacity (value inflow) s t (at s) (at t) positive amount.rises k
      (exit_at-is transit capacity inflow amount.curve s h) (exit_at-is transit capacity inflow amount.curve t (≤ℚ_trans _ _ _ h k))

  at-first : 0ℚ ≤ℚ at 0ℚ
  at-first = ≤ℚ_trans _ _ _ (after_0 transit waits_0) (IsExit-after transit capacity (value inflow) 0ℚ (at 0ℚ) positive (exit_at-is transit capacity inflow amount.curve 0ℚ (≤ℚ_refl 0ℚ)))
    where
      after_0 : (x : ℚ) → 0ℚ ≤ℚ x → 0ℚ ≤ℚ 0ℚ +ℚ x
      after_0 x h = linear_le (x ∷ []) (le h ∷ []) (search reading_of depth 12) tt

  by_points : (p : Point) (rest : List Point) → p.0 ≡ 0ℚ → FollowsFrom (λ t. at t) last p rest → AreExits (p ∷ rest)
  by_points p rest z w =
      let c : IsCurve (p ∷ rest) = follows-curve (λ t. at t) last p rest z w in
      record {
        curve = c;
        first = subst (λ (x : ℚ). 0ℚ ≤ℚ x) (sym (follows-values (λ t. at t) last p rest 0ℚ z w (≤ℚ_refl 0ℚ) from_0)) at-first;
        rises = NeverFalls-value (p ∷ rest) c (follows-values_rise (λ t. at t) last p rest (subst (λ (x : ℚ). 0ℚ ≤ℚ x) (sym z) (≤ℚ_refl 0ℚ)) at-rises w);
      }

  pub loaded_exits : checked_loading passes transit capacity inflow last ≡ Ok loaded → AreExits loaded.exit
  loaded_exits e =
      let x : ExitPoints passes transit capacity inflow last loaded amount.curve amount.rises waits_0 positive from_0 =
      exit_points passes transit capacity inflow last loaded amount.curve amount.rises waits_0 positive from_0 e in
      let exits : AreExits (x.first ∷ x.rest) = by_points x.first x.rest x.begins x.follows in
      short_exits (x.first ∷ x.rest) loaded.exit exits (checked_short-is passes (x.first ∷ x.rest) loaded.exit exits.curve x.short)
