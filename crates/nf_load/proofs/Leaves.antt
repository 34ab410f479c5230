-- The slopes of exit and outflow over a piece, and no operation of them passes.
use Rattle.std.proofs.Common.{◌≡◌, ◌≢◌, ⊎_elim, ℕ, zero, suc, Bool, true, false, ◌&&◌, List, [], ◌∷◌, map, refl, sym, ap, subst, ◌∙◌, Option, Some, None}
use Rattle.std.proofs.Common.{option_map, IfSome, slice_get, Ok}
use Rattle.nf_load.proofs.Common.{true≢false, same_Ok, ℚ, 0ℚ, 1ℚ, ◌+ℚ◌, ◌-ℚ◌, ◌*ℚ◌, ◌/ℚ◌, inv_ℚ, is_zero, one-*ℚ, zero-*ℚ, eq, eq_times, linear_eq}
use Rattle.nf_load.proofs.Common.{reading_of, /ℚ_is, /ℚ-times, /ℚ-unique, passes_Q, checked, each, ◌>>=◌, Sum, Difference, Quotient, Point, exit_of}
use Rattle.nf_load.proofs.Common.{exit_point, then_ok, checked-is, run_apart, IsRate, Along, AreKnownSlopes, IsPace, IsPaceIf, ArePaces, moments_of}
use Rattle.nf_load.proofs.Common.{IsLeaving, IsLeavingIf, AreLeaving, AreTwoExits, AreExitsOf, IsBusy, exit_slope_of, Pace, Leaving}
use Rattle.nf_curve_def.specs.Lines.{checked_slope}
use Rattle.nf_load_def.specs.Loading as lists
use Rattle.nf_load_def.specs.Loading.{exit_after}
use Rattle.nf_load.proofs.Alongs.{along_map, along_of}
use Rattle.nf_load.proofs.KnownRates.{one_narrow, quotient_known}
use Rattle.nf_load.proofs.Pacing.{Steps, steps}

-- ---- exits
exit_value : (capacity transit : ℚ) (w : lists.Waits) (x : ℚ) → exit_after passes_Q (Some capacity) transit w ≡ Ok x → x ≡ w.time +ℚ transit +ℚ (w.queue /ℚ capacity)
unfolding exit_after
exit_value capacity transit w x e =
    let a = then_ok (checked passes_Q Quotient w.queue capacity) _ x e in
    let b = then_ok (checked passes_Q Sum w.time transit) _ x a.next in
    checked-is passes_Q Sum b.between a.between x b.next
    ∙ ap (λ (z : ℚ). z +ℚ a.between) (checked-is passes_Q Sum w.time transit b.between b.first)
    ∙ ap (λ (z : ℚ). w.time +ℚ transit +ℚ z) (checked-is passes_Q Quotient w.queue capacity a.between a.first)

more_by_none : (x y z : ℚ) → z ≡ x +ℚ y → y ≡ 0ℚ → z ≡ x
more_by_none x y z e f = linear_eq (x ∷ y ∷ z ∷ []) (eq e ∷ eq f ∷ []) (search reading_of depth 12) tt tt

empty_exit : (capacity : Option ℚ) (transit : ℚ) (w : lists.Waits) (x : ℚ) → exit_after passes_Q capacity transit w ≡ Ok x → w.queue ≡ 0ℚ → x ≡ w.time +ℚ transit
unfolding exit_after
empty_exit None transit w x e none = checked-is passes_Q Sum w.time transit x e
empty_exit (Some capacity) transit w x e none =
    more_by_none (w.time +ℚ transit) (w.queue /ℚ capacity) x (exit_value capacity transit w x e)
    (/ℚ_is w.queue capacity ∙ ap (λ (q : ℚ). q *ℚ inv_ℚ capacity) none ∙ zero-*ℚ (inv_ℚ capacity))

-- ---- how much later the exit is
level_step : (s t transit x y step run : ℚ) → x ≡ s +ℚ transit → y ≡ t +ℚ transit → step ≡ y -ℚ x → run ≡ t -ℚ s → step ≡ run
level_step s t transit x y step run e f g h = linear_eq (s ∷ t ∷ transit ∷ x ∷ y ∷ step ∷ run ∷ []) (eq e ∷ eq f ∷ eq g ∷ eq h ∷ []) (search reading_of depth 12) tt tt

later_by : (s t transit u v x y step run : ℚ) → x ≡ s +ℚ transit +ℚ u → y ≡ t +ℚ transit +ℚ v → step ≡ y -ℚ x → run ≡ t -ℚ s → step ≡ run +ℚ (v -ℚ u)
later_by s t transit u v x y step run e f g h =
    linear_eq (s ∷ t ∷ transit ∷ u ∷ v ∷ x ∷ y ∷ step ∷ run ∷ []) (eq e ∷ eq f ∷ eq g ∷ eq h ∷ []) (search reading_of depth 12) tt tt

scaled_step : (run u v c q r step change rate slope : ℚ) → step ≡ run +ℚ (v -ℚ u) → u *ℚ c ≡ q → v *ℚ c ≡ r → change *ℚ run ≡ r -ℚ q → change ≡ rate -ℚ c → slope *ℚ c ≡ rate
    → step *ℚ c ≡ (slope *ℚ run) *ℚ c
scaled_step run u v c q r step change rate slope e f g h k l =
    linear_eq (run ∷ u ∷ v ∷ c ∷ q ∷ r ∷ step ∷ change ∷ rate ∷ slope ∷ [])
    (eq_times c e ∷ eq f ∷ eq g ∷ eq h ∷ eq_times run k ∷ eq_times run l ∷ []) (search reading_of depth 24) tt tt

cancelled : (x y c : ℚ) → c ≢ 0ℚ → x *ℚ c ≡ y *ℚ c → x ≡ y
cancelled x y c apart e = /ℚ-unique (y *ℚ c) c x apart e ∙ sym (/ℚ-unique (y *ℚ c) c y apart refl)

whole_rise : (rate run rise step c slope : ℚ) → rate *ℚ run ≡ rise → step ≡ slope *ℚ run → slope *ℚ c ≡ rate → rise ≡ c *ℚ step
whole_rise rate run rise step c slope e f g =
    linear_eq (rate ∷ run ∷ rise ∷ step ∷ c ∷ slope ∷ []) (eq e ∷ eq_times c f ∷ eq_times run g ∷ []) (search reading_of depth 24) tt tt

step_apart : (x y step : ℚ) → step ≡ y -ℚ x → (x ≡ y → ⊥) → step ≢ 0ℚ
step_apart x y step e apart none = apart (linear_eq (x ∷ y ∷ step ∷ []) (eq e ∷ eq none ∷ []) (search reading_of depth 12) tt tt)

rise_by : (rise run rate : ℚ) → run ≢ 0ℚ → rate ≡ rise /ℚ run → rate *ℚ run ≡ rise
rise_by rise run rate apart e = ap (λ (z : ℚ). z *ℚ run) e ∙ /ℚ-times rise run apart

-- ---- slopes by their operations
slope_by : (p q : Point) (rise run slope : ℚ) → checked passes_Q Difference q.1 p.1 ≡ Ok rise → checked passes_Q Difference q.0 p.0 ≡ Ok run
    → checked passes_Q Quotient rise run ≡ Ok slope → checked_slope passes_Q p q ≡ Ok slope
unfolding checked_slope
slope_by p q rise run slope e f g =
    ap (λ r. r >>= λ rise. checked passes_Q Difference q.0 p.0 >>= λ run. checked passes_Q Quotient rise run) e
    ∙ ap (λ r. r >>= λ run. checked passes_Q Quotient rise run) f
    ∙ g

module _ (capacity : Option ℚ) (before after : lists.Exit) (pace : Pace) (is_pace : IsPace capacity before.waits after.waits pace) (exits : AreTwoExits capacity before after)
    (step : ℚ) (step_is : checked passes_Q Difference after.exit before.exit ≡ Ok step) where
  amounts : Steps (before.waits.time, before.waits.amount) (after.waits.time, after.waits.amount) pace.rate
  amounts = steps (before.waits.time, before.waits.amount) (after.waits.time, after.waits.amount) pace.rate is_pace.rate

  apart : amounts.run ≢ 0ℚ
  apart = run_apart passes_Q before.waits.time after.waits.time amounts.run is_pace.later amounts.run_is

  step_value : step ≡ after.exit -ℚ before.exit
  step_value = checked-is passes_Q Difference after.exit before.exit step step_is

  run_value : amounts.run ≡ after.waits.time -ℚ before.waits.time
  run_value = checked-is passes_Q Difference after.waits.time before.waits.time amounts.run amounts.run_is

  -- an empty queue
  pub level_leaving : before.waits.queue ≡ 0ℚ → after.waits.queue ≡ 0ℚ → IsLeaving before after (record { exit = 1ℚ; outflow = pace.rate })
  level_leaving none still =
      let same : step ≡ amounts.run = level_step before.waits.time after.waits.time exits.transit before.exit after.exit step amounts.run
      (empty_exit capacity exits.transit before.waits before.exit exits.first none) (empty_exit capacity exits.transit after.waits after.exit exits.second still) step_value run_value in
      record {
        exit = slope_by (exit_point before) (exit_point after) step amounts.run 1ℚ step_is amounts.run_is
            (quotient_known 1ℚ amounts.run step one_narrow apart (same ∙ sym (one-*ℚ amounts.run)));
        outflow = λ differ. slope_by (before.exit, before.waits.amount) (after.exit, after.waits.amount) amounts.rise step pace.rate amounts.rise_is step_is
            (subst (λ (z : ℚ). checked passes_Q Quotient amounts.rise z ≡ Ok pace.rate) (sym same) amounts.slope_is);
      }

  -- a queue that is not empty
  module _ (c : ℚ) (is_capacity : capacity ≡ Some c) (some : c ≢ 0ℚ) (changes : pace.change ≡ pace.rate -ℚ c) where
    queues : Steps (before.waits.time, before.waits.queue) (after.waits.time, after.waits.queue) pace.change
    queues = steps (before.waits.time, before.waits.queue) (after.waits.time, after.waits.queue) pace.change is_pace.change

    same_run : queues.run ≡ amounts.run
    same_run = checked-is passes_Q Difference after.waits.time before.waits.time queues.run queues.run_is ∙ sym run_value

    change_rise : pace.change *ℚ amounts.run ≡ after.waits.queue -ℚ before.waits.queue
    change_rise =
        ap (λ (z : ℚ). pace.change *ℚ z) (sym same_run)
        ∙ rise_by queues.rise queues.run pace.change (subst (λ (z : ℚ). z ≢ 0ℚ) (sym same_run) apart) (checked-is passes_Q Quotient queues.rise queues.run pace.change queues.slope_is)
        ∙ checked-is passes_Q Difference after.waits.queue before.waits.queue queues.rise queues.rise_is

    exit_by : (w : lists.Waits) (x : ℚ) → exit_after passes_Q capacity exits.transit w ≡ Ok x → x ≡ w.time +ℚ exits.transit +ℚ (w.queue /ℚ c)
    exit_by w x e = exit_value c exits.transit w x (subst (λ (o : Option ℚ). exit_after passes_Q o exits.transit w ≡ Ok x) is_capacity e)

    slope_times : (leaving : Leaving) → IsBusy c pace.rate leaving → leaving.exit *ℚ c ≡ pace.rate
    slope_times leaving busy = rise_by pace.rate c leaving.exit some (checked-is passes_Q Quotient pace.rate c leaving.exit busy.quotient)

    step_by_run : (leaving : Leaving) → IsBusy c pace.rate leaving → step ≡ leaving.exit *ℚ amounts.run
    step_by_run leaving busy = cancelled step (leaving.exit *ℚ amounts.run) c some
        (scaled_step amounts.run (before.waits.queue /ℚ c) (after.waits.queue /ℚ c) c before.waits.queue after.waits.queue step pace.change pace.rate leaving.exit
        (later_by before.waits.time after.waits.time exits.transit (before.waits.queue /ℚ c) (after.waits.queue /ℚ c) before.exit after.exit step amounts.run
        (exit_by before.waits before.exit exits.first) (exit_by after.waits after.exit exits.second) step_value run_value)
        (/ℚ-times before.waits.queue c some) (/ℚ-times after.waits.queue c some) change_rise changes (slope_times leaving busy))

    rise_by_step : (leaving : Leaving) → IsBusy c pace.rate leaving → amounts.rise ≡ c *ℚ step
    rise_by_step leaving busy = whole_rise pace.rate amounts.run amounts.rise step c leaving.exit
        (rise_by amounts.rise amounts.run pace.rate apart (checked-is passes_Q Quotient amounts.rise amounts.run pace.rate amounts.slope_is))
        (step_by_run leaving busy) (slope_times leaving busy)

    busy_leaving : (leaving : Leaving) → IsBusy c pace.rate leaving → IsLeaving before after leaving
    busy_leaving leaving busy = record {
      exit = slope_by (exit_point before) (exit_point after) step amounts.run leaving.exit step_is amounts.run_is
          (quotient_known leaving.exit amounts.run step busy.narrow apart (step_by_run leaving busy));
      outflow = λ differ. subst (λ (z : ℚ). checked_slope passes_Q (before.exit, before.waits.amount) (after.exit, after.waits.amount) ≡ Ok z) (sym busy.outflow)
          (slope_by (before.exit, before.waits.amount) (after.exit, after.waits.amount) amounts.rise step c amounts.rise_is step_is
          (quotient_known c step amounts.rise busy.narrow_capacity (step_apart before.exit after.exit step step_value differ) (rise_by_step leaving busy)));
    }

    pub busy_if : (o : Option Leaving) → IfSome o (IsBusy c pace.rate) → IsLeavingIf o before after
    busy_if None busy = tt
    busy_if (Some leaving) busy = busy_leaving leaving busy

-- the queue is empty at one of two moments at least, or it changes at the rate less the capacity
pub changes_if : (capacity : Option ℚ) (before after : lists.Waits) (pace : Pace) (c : ℚ) → IsPace capacity before after pace → capacity ≡ Some c
    → (is_zero before.queue && is_zero after.queue) ≡ false
    → is_zero 0ℚ ≡ true → pace.change ≡ pace.rate -ℚ c
changes_if capacity before after pace c p e some still = ⊎_elim
    (λ (w : (before.queue ≡ 0ℚ) × (after.queue ≡ 0ℚ)). absurd (true≢false
    (sym (ap (λ (q : ℚ). is_zero q && is_zero after.queue) w.0 ∙ ap (λ (q : ℚ). is_zero 0ℚ && is_zero q) w.1 ∙ ap (λ (b : Bool). b && b) still) ∙ some)))
    (λ (w : (k : ℚ) → capacity ≡ Some k → pace.change ≡ pace.rate -ℚ k). w c e)
    p.law

-- ---- the exits of all moments
module _ (capacity : Option ℚ) (transit : ℚ) where
  abbrev IsExit : lists.Exit → Type 0
  IsExit one = exit_after passes_Q capacity transit one.waits ≡ Ok one.exit

  abbrev AreAll : List lists.Exit → Type 0
  AreAll [] = Unit {0}
  AreAll (one ∷ all) = IsExit one × AreAll all

  one_exit : (w : lists.Waits) (one : lists.Exit) → exit_of passes_Q capacity transit w ≡ Ok one → IsExit one × (one.waits ≡ w)
  one_exit w one e =
      let k = then_ok (exit_after passes_Q capacity transit w) _ one e in
      subst (λ (y : lists.Exit). IsExit y × (y.waits ≡ w)) (same_Ok _ _ k.next) (k.first, refl)

  all_exits : (waits : List lists.Waits) (all : List lists.Exit) → each (exit_of passes_Q capacity transit) waits ≡ Ok all → AreAll all × (map (λ y. y.waits) all ≡ waits)
  all_exits [] all e = subst (λ (l : List lists.Exit). AreAll l × (map (λ y. y.waits) l ≡ [])) (same_Ok _ _ e) (tt, refl)
  all_exits (w ∷ waits) all e =
      let first = then_ok (exit_of passes_Q capacity transit w) _ all e in
      let rest = then_ok (each (exit_of passes_Q capacity transit) waits) _ all first.next in
      let here = one_exit w first.between first.first in
      let there = all_exits waits rest.between rest.first in
      subst (λ (l : List lists.Exit). AreAll l × (map (λ y. y.waits) l ≡ w ∷ waits)) (same_Ok _ _ rest.next)
      ((here.0, there.0), (λ j. here.1 j ∷ there.1 j))

  pub moments_are : (waits : List lists.Waits) (all : List lists.Exit) → each (exit_of passes_Q capacity transit) waits ≡ Ok all → moments_of all ≡ waits
  moments_are waits all e = (all_exits waits all e).1

  exit_at : (all : List lists.Exit) (i : ℕ) (one : lists.Exit) → AreAll all → slice_get all i ≡ Some one → IsExit one
  exit_at [] i one h e = absurd (cc)
  exit_at (x ∷ all) zero one h e = let same : x ≡ one = cc in subst IsExit same h.0
  exit_at (x ∷ all) (suc i) one h e = exit_at all i one h.1 e

  pub exits_of : (waits : List lists.Waits) (paces : List (Option Pace)) (all : List lists.Exit) → each (exit_of passes_Q capacity transit) waits ≡ Ok all
      → ArePaces capacity waits paces → AreExitsOf capacity all paces
  exits_of waits paces all e h =
      let k = all_exits waits all e in
      record {
        transit = transit;
        exits = λ i one at. exit_at all i one k.0 at;
        known = along_of (IsPaceIf capacity) (λ (y : lists.Exit). y.waits) all paces (subst (λ (l : List lists.Waits). Along (IsPaceIf capacity) l paces) (sym k.1) h);
      }

-- ---- the slopes of the exits
pub exit_slopes : (all : List lists.Exit) (leaving : List (Option Leaving)) → AreLeaving all leaving → AreKnownSlopes (map exit_point all) (map (option_map exit_slope_of) leaving)
exit_slopes = along_map IsLeavingIf IsRate exit_point (option_map exit_slope_of) step
  where
    step : (leaving : Option Leaving) (x y : lists.Exit) → IsLeavingIf leaving x y → IsRate (option_map exit_slope_of leaving) (exit_point x) (exit_point y)
    step None x y h = tt
    step (Some leaving) x y h = h.exit
