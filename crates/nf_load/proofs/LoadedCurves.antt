-- The curves of a link's loading, before they are brought into short form.
use Rattle.std.proofs.Common.{◌≡◌, List, [], ◌∷◌, Option, refl, sym, ap, subst, ◌∙◌, Result, Ok, Err, IfOk, map}
use Rattle.nf_load.proofs.Common.{ℚ, 0ℚ, ◌+ℚ◌, ◌≤ℚ◌, reading_of, le, linear_le, Passing, Part, checked, at_part, each, Gives, Sum, Point, value, IsCurve}
use Rattle.nf_load.proofs.Common.{NeverFalls, IsPositive, checked_cut, Waits, Exit, queue_point, exit_point, outflow_points, outflow_from, exit_of}
use Rattle.nf_load.proofs.Common.{all_waits, checked_loading, IsLoaded, checked-is, was_ok, loaded_of, LeadsToCurves, Loaded}
use Rattle.nf_frac_def.specs.declared.Halt.{Halt}
use Rattle.nf_curve_laws.proofs.Values.{Cut, checked_cut-is}
use Rattle.nf_load_laws.proofs.Functions.{queue_at, exit_at, out_at}
use Rattle.nf_load_laws.proofs.Waiting.{AllWaits, all_waits-chain}
use Rattle.nf_load_laws.proofs.Exiting.{AllExits, exits-are, queue-follows, exit-follows, all_out-follows}
use Rattle.nf_load_laws.proofs.Loading.{Follows, by_following, checked_loading-is}

module _ (passes : Passing) (transit : ℚ) (capacity : Option ℚ) (inflow : List Point) (last : ℚ) (c : IsCurve inflow) (from_0 : 0ℚ ≤ℚ last)
    (cut : List Point) (cut_is : checked_cut passes inflow last ≡ Ok cut) (waits : List Waits) (waits_are : all_waits passes capacity cut ≡ Ok waits) where
  all_wait : AllWaits transit capacity inflow c last waits
  all_wait =
      let k : Cut passes inflow last cut = checked_cut-is passes inflow last cut c from_0 cut_is in
      all_waits-chain passes transit capacity inflow c last k.first k.rest waits k.begins k.follows
      (ap (λ (l : List Point). all_waits passes capacity l) (sym k.cut_is) ∙ waits_are)

  pub queue_curve : IsCurve (map queue_point waits)
  queue_curve =
      let w = all_wait in
      (subst (λ (l : List Waits). Follows (queue_at transit capacity inflow c) last (map queue_point l)) (sym w.waits_are)
      (by_following _ last (queue_point w.first) (map queue_point w.rest) w.begins (queue-follows transit capacity inflow c last w.first w.rest w.chain))).curve

  module _ (none : value inflow 0ℚ ≡ 0ℚ) (rises : NeverFalls (value inflow)) (waits_0 : 0ℚ ≤ℚ transit) (positive : IsPositive capacity)
      (all : List Exit) (all_are : each (exit_of passes capacity transit) waits ≡ Ok all) where
    all_exit : AllExits transit capacity inflow c passes all_wait.first all_wait.rest all
    all_exit = exits-are transit capacity inflow c passes last all_wait.first all_wait.rest all all_wait.chain
        (ap (λ (l : List Waits). each (exit_of passes capacity transit) l) (sym all_wait.waits_are) ∙ all_are)

    pub exit_curve : IsCurve (map exit_point all)
    exit_curve =
        let w = all_wait in
        let a = all_exit in
        (subst (λ (l : List Exit). Follows (exit_at transit capacity inflow c) last (map exit_point l)) (sym a.all_are)
        (by_following _ last (exit_point a.first) (map exit_point a.others) (ap (λ (y : Waits). y.time) a.are.0 ∙ w.begins)
        (exit-follows transit capacity inflow c positive rises waits_0 last w.first w.rest a.first a.others w.chain a.are))).curve

    pub outflow_curve : IsCurve (outflow_points all)
    outflow_curve =
        let w = all_wait in
        let a = all_exit in
        (subst (λ (l : List Exit). Follows (out_at transit capacity inflow c) (exit_at transit capacity inflow c last) (outflow_points l)) (sym a.all_are)
        (by_following _ _ (0ℚ, 0ℚ) (outflow_from 0ℚ (a.first ∷ a.others)) refl
        (all_out-follows transit capacity inflow c positive rises waits_0 last w.first w.rest a.first a.others w.begins none w.chain a.are))).curve

module _ (passes : Passing) (transit : ℚ) (capacity : Option ℚ) (inflow : List Point) (last : ℚ) where
  -- all of them are curves
  pub loaded_curves : IsCurve inflow → 0ℚ ≤ℚ last → (cut : List Point) → checked_cut passes inflow last ≡ Ok cut → value inflow 0ℚ ≡ 0ℚ
      → NeverFalls (value inflow) → 0ℚ ≤ℚ transit → IsPositive capacity
      → LeadsToCurves passes transit capacity cut
  loaded_curves c from_0 cut cut_is none rises waits_0 positive = λ waits all waits_are all_are. record {
    queue = queue_curve passes transit capacity inflow last c from_0 cut cut_is waits waits_are;
    exit = exit_curve passes transit capacity inflow last c from_0 cut cut_is waits waits_are none rises waits_0 positive all all_are;
    outflow = outflow_curve passes transit capacity inflow last c from_0 cut cut_is waits waits_are none rises waits_0 positive all all_are;
  }

  -- what comes of the list is the loading
  pub is_loaded : (part : Part) (r : Result Loaded (Halt ℚ)) → IsCurve inflow → value inflow 0ℚ ≡ 0ℚ → NeverFalls (value inflow) → 0ℚ ≤ℚ transit → IsPositive capacity → 0ℚ ≤ℚ last
      → Gives loaded_of (λ (q : ℚ). q) r (at_part part (checked_loading passes transit capacity inflow last)) → IfOk r (λ l. IsLoaded transit capacity inflow last (loaded_of l))
  is_loaded part (Ok l) c none rises waits_0 positive from_0 e = checked_loading-is passes transit capacity inflow last _ c none rises waits_0 positive from_0
      (was_ok part (checked_loading passes transit capacity inflow last) _ e)
  is_loaded part (Err h) c none rises waits_0 positive from_0 e = tt

-- the end of the outflow isn't before time 0
pub end_after_0 : (passes : Passing) (last transit end : ℚ) → 0ℚ ≤ℚ last → 0ℚ ≤ℚ transit → checked passes Sum last transit ≡ Ok end → 0ℚ ≤ℚ end
end_after_0 passes last transit end h k e = subst (λ (z : ℚ). 0ℚ ≤ℚ z) (sym (checked-is passes Sum last transit end e)) (both last transit h k)
  where
    both : (x y : ℚ) → 0ℚ ≤ℚ x → 0ℚ ≤ℚ y → 0ℚ ≤ℚ x +ℚ y
    both x y h k = linear_le (x ∷ y ∷ []) (le h ∷ le k ∷ []) (search reading_of depth 12) tt
