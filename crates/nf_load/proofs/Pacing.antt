-- The slopes of amount and queue over a piece of the inflow, and no operation of them passes.
use Rattle.std.proofs.Common.{◌≡◌, inl, inr, Bool, true, false, ◌&&◌, List, [], ◌∷◌, ◌++◌, map, refl, sym, ap, subst, ◌∙◌, append_assoc, Option, Some, None}
use Rattle.std.proofs.Common.{option_map, IfSome, Ok, Err}
use Rattle.nf_load.proofs.Common.{true≢false, ℚ, 0ℚ, ◌-ℚ◌, ◌<ℚ◌, is_zero, bound_of, Passing, passes_Q, is_wide, Checked, checked, at_part, ◌>>=◌}
use Rattle.nf_load.proofs.Common.{Difference, Product, Quotient, Part, PassedAt, Point, queue_point, then_ok, checked-is, same_of, was_ok, after_err}
use Rattle.nf_load.proofs.Common.{before_end, over_list, IsRate, AreKnownSlopes, IsPace, IsPaceIf, ArePaces, IsPaced, change_of, first_waits, level_over}
use Rattle.nf_load.proofs.Common.{over_paces, paces_to, Pace, Over}
use Rattle.nf_curve_def.specs.Lines.{checked_slope}
use Rattle.nf_load_def.specs.Loading as lists
use Rattle.nf_load.specs.Paces.{grown_by}
use Rattle.nf_load.proofs.Alongs.{Linked, one_more, along_map}
use Rattle.nf_load.proofs.KnownRates.{less_zero, zero_within, zero_over, line_slope}

-- ---- the operations of a slope
pub record Steps (p q : Point) (slope : ℚ) : Type 0 where
  pub rise : ℚ
  pub run : ℚ
  pub rise_is : checked passes_Q Difference q.1 p.1 ≡ Ok rise
  pub run_is : checked passes_Q Difference q.0 p.0 ≡ Ok run
  pub slope_is : checked passes_Q Quotient rise run ≡ Ok slope

pub steps : (p q : Point) (slope : ℚ) → checked_slope passes_Q p q ≡ Ok slope → Steps p q slope
unfolding checked_slope
steps p q slope e =
    let r = then_ok (checked passes_Q Difference q.1 p.1) _ slope e in
    let s = then_ok (checked passes_Q Difference q.0 p.0) _ slope r.next in
    record { rise = r.between; run = s.between; rise_is = r.first; run_is = s.first; slope_is = s.next }

-- ---- an empty queue
level_slope : (s t run : ℚ) → checked passes_Q Difference t s ≡ Ok run → checked_slope passes_Q (s, 0ℚ) (t, 0ℚ) ≡ Ok 0ℚ
unfolding checked_slope
level_slope s t run e =
    ap (λ r. r >>= λ rise. checked passes_Q Difference t s >>= λ run. checked passes_Q Quotient rise run) (less_zero 0ℚ zero_within)
    ∙ ap (λ r. r >>= λ run. checked passes_Q Quotient 0ℚ run) e
    ∙ zero_over run

pub level_paced : (capacity : Option ℚ) (before : lists.Waits) (end : Point) (rate : Option ℚ) → before.time <ℚ end.0
    → IsRate rate (before.time, before.amount) end → IfSome rate (λ k. is_zero before.queue ≡ true)
    → IsPaced capacity before (level_over end rate)
level_paced capacity before end None later known empty = tt
level_paced capacity before end (Some rate) later known empty =
    let none : before.queue ≡ 0ℚ = same_of before.queue 0ℚ empty in
    let s = steps (before.time, before.amount) end rate known in
    record {
      later = later;
      rate = known;
      change = subst (λ (q : ℚ). checked_slope passes_Q (before.time, q) (end.0, 0ℚ) ≡ Ok 0ℚ) (sym none) (level_slope before.time end.0 s.run s.run_is);
      law = inl (none, refl);
    }

pub first_true : (a b c : Bool) → c ≡ (a && b) → c ≡ true → a ≡ true
first_true true b c e f = refl
first_true false b c e f = sym e ∙ f

pub second_true : (a b c : Bool) → c ≡ (a && b) → c ≡ true → b ≡ true
second_true true b c e f = sym e ∙ f
second_true false b c e f = absurd (true≢false (sym f ∙ e))

-- ---- a queue that changes at the rate less the capacity
pub grown_paced : (capacity rate change : ℚ) (before : lists.Waits) (end : Point) (queue : ℚ) → is_wide (bound_of 127) change ≡ false → before.time <ℚ end.0
    → checked_slope passes_Q (before.time, before.amount) end ≡ Ok rate
    → checked passes_Q Difference rate capacity ≡ Ok change → grown_by passes_Q change before.queue before.time end.0 ≡ Ok queue
    → IsPace (Some capacity) before (record { time = end.0; amount = end.1; queue = queue }) (record { rate = rate; change = change })
unfolding grown_by
grown_paced capacity rate change before end queue narrow later known less e =
    let d = then_ok (checked passes_Q Difference end.0 before.time) _ queue e in
    let p = then_ok (checked passes_Q Product change d.between) _ queue d.next in
    record {
      later = later;
      rate = known;
      change = line_slope before.time before.queue end.0 queue change d.between p.between narrow later d.first p.first p.next;
      law = inr (λ k f. let same : capacity ≡ k = cc in checked-is passes_Q Difference rate capacity change less ∙ ap (λ (z : ℚ). rate -ℚ z) same);
    }

module _ (part : Part) (passes : Passing) (capacity rate : ℚ) (before : lists.Waits) (end : Point) where
  abbrev queue_at_end : ℚ → Checked (List lists.Waits)
  queue_at_end change = grown_by passes change before.queue before.time end.0 >>= λ queue. Ok (record { time = end.0; amount = end.1; queue = queue } ∷ [])

  grown_is : lists.grown passes capacity rate before.queue before.time end.0
      ≡ (checked passes Difference rate capacity >>= λ change. grown_by passes change before.queue before.time end.0)
  unfolding lists.grown grown_by
  grown_is = refl

  pub change_passes : (p : PassedAt ℚ) → at_part part (checked passes Difference rate capacity) ≡ Err p → at_part part (lists.grows passes capacity rate before end) ≡ Err p
  change_passes p e =
      ap (λ (r : Checked ℚ). at_part part (r >>= λ queue. Ok (record { time = end.0; amount = end.1; queue = queue } ∷ []))) grown_is
      ∙ after_err part (checked passes Difference rate capacity >>= λ change. grown_by passes change before.queue before.time end.0) _ p
      (after_err part (checked passes Difference rate capacity) _ p e)

  pub change_goes : (change : ℚ) → at_part part (checked passes Difference rate capacity) ≡ Ok change
      → at_part part (lists.grows passes capacity rate before end) ≡ at_part part (queue_at_end change)
  change_goes change e =
      ap (λ (r : Checked ℚ). at_part part (r >>= λ queue. Ok (record { time = end.0; amount = end.1; queue = queue } ∷ []))) grown_is
      ∙ ap (λ (r : Checked ℚ). at_part part ((r >>= λ change. grown_by passes change before.queue before.time end.0) >>= λ queue. Ok
      (record { time = end.0; amount = end.1; queue = queue } ∷ [])))
      (was_ok part (checked passes Difference rate capacity) change e)

-- ---- the paces so far, and over one more piece
module _ (capacity : Option ℚ) (waits : List lists.Waits) (paces : List (Option Pace)) (last : lists.Waits) (so_far : Linked (IsPaceIf capacity) waits paces last) where
  over_moments : (empty : Option lists.Waits) (end : lists.Waits) (pace : Option Pace) → IsPaceIf capacity pace last (first_waits empty end)
      → Linked (IsPaceIf capacity) (waits ++ before_end empty end) (paces ++ paces_to empty pace) end
  over_moments None end pace h = one_more (IsPaceIf capacity) waits paces last end pace so_far h
  over_moments (Some w) end pace h =
      let two = one_more (IsPaceIf capacity) (waits ++ w ∷ []) (paces ++ pace ∷ []) w end None (one_more (IsPaceIf capacity) waits paces last w pace so_far h) tt in
      subst (λ (l : List lists.Waits). Linked (IsPaceIf capacity) l (paces ++ pace ∷ None ∷ []) end) (append_assoc waits (w ∷ []) (end ∷ []))
      (subst (λ (l : List (Option Pace)). Linked (IsPaceIf capacity) ((waits ++ w ∷ []) ++ end ∷ []) l end) (append_assoc paces (pace ∷ []) (None ∷ [])) two)

  pub paces_on : (new : List lists.Waits) (more : List (Option Pace)) (over : Over) → new ≡ waits ++ over_list over → more ≡ paces ++ over_paces over → IsPaced capacity last over
      → Linked (IsPaceIf capacity) new more over.end
  paces_on new more over e f h =
      subst (λ (l : List lists.Waits). Linked (IsPaceIf capacity) l more over.end) (sym e)
      (subst (λ (l : List (Option Pace)). Linked (IsPaceIf capacity) (waits ++ over_list over) l over.end) (sym f) (over_moments over.empty over.end over.pace h))

pub first_pace : (capacity : Option ℚ) (waits : List lists.Waits) (paces : List (Option Pace)) (first : lists.Waits) → waits ≡ first ∷ [] → paces ≡ []
    → Linked (IsPaceIf capacity) waits paces first
first_pace capacity waits paces first e f =
    subst (λ (l : List lists.Waits). Linked (IsPaceIf capacity) l paces first) (sym e) (subst (λ (l : List (Option Pace)). Linked (IsPaceIf capacity) (first ∷ []) l first) (sym f) refl)

-- ---- the slopes of the queue
pub queue_slopes : (capacity : Option ℚ) (waits : List lists.Waits) (paces : List (Option Pace)) → ArePaces capacity waits paces
    → AreKnownSlopes (map queue_point waits) (map (option_map change_of) paces)
queue_slopes capacity = along_map (IsPaceIf capacity) IsRate queue_point (option_map change_of) step
  where
    step : (pace : Option Pace) (x y : lists.Waits) → IsPaceIf capacity pace x y → IsRate (option_map change_of pace) (queue_point x) (queue_point y)
    step None x y h = tt
    step (Some pace) x y h = h.change
