-- What waits over a piece of the inflow, by the rate of the piece.
use Rattle.std.proofs.Common.{◌≡◌, Bool, true, false, ◌&&◌, List, [], ◌∷◌, sym, ap, ◌∙◌, Some, Result, Ok, Err}
use Rattle.nf_load.proofs.Common.{ℚ, 0ℚ, lt_ℚ, le_ℚ, Passing, Load, PassedAt, at_part, Point, is_zero, is_positive, checked_slope, Waits, moves}
use Rattle.nf_load.proofs.Common.{stays_or_moves, after_piece, after_err, after_ok}
use Rattle.nf_frac_def.specs.declared.Passed.{Passed}

module _ (passes : Passing) (capacity : ℚ) (before : Waits) (end : Point) where
  abbrev sloped : Result ℚ (Passed ℚ)
  sloped = checked_slope passes (before.time, before.amount) end

  abbrev by_rate : ℚ → Result (List Waits) (Passed ℚ)
  by_rate rate = stays_or_moves passes (is_zero before.queue && le_ℚ rate capacity) capacity rate before end

  abbrev whole : Result (List Waits) (PassedAt ℚ)
  whole = at_part Load (after_piece passes (Some capacity) before end)

  pub slope_passes : (at : PassedAt ℚ) → Err at ≡ at_part Load sloped → Err at ≡ whole
  slope_passes at e = sym (after_err Load sloped by_rate at (sym e))

  module _ (rate : ℚ) (is_rate : Ok rate ≡ at_part Load sloped) (empty : Bool) (is_empty : empty ≡ (is_zero before.queue && le_ℚ rate capacity)) where
    by_test : whole ≡ at_part Load (stays_or_moves passes empty capacity rate before end)
    by_test = after_ok Load sloped by_rate rate (sym is_rate) ∙ ap (λ (b : Bool). at_part Load (stays_or_moves passes b capacity rate before end)) (sym is_empty)

    pub stays : empty ≡ true → Ok (record { time = end.0; amount = end.1; queue = 0ℚ } ∷ []) ≡ whole
    stays e = sym (by_test ∙ ap (λ (b : Bool). at_part Load (stays_or_moves passes b capacity rate before end)) e)

    pub goes : empty ≡ false → (drains there : Bool) → drains ≡ (is_positive before.queue && lt_ℚ rate capacity) → drains ≡ there
        → at_part Load (moves passes there capacity rate before end) ≡ whole
    goes e drains there is same =
        ap (λ (b : Bool). at_part Load (moves passes b capacity rate before end)) (sym same ∙ is)
        ∙ sym (by_test ∙ ap (λ (b : Bool). at_part Load (stays_or_moves passes b capacity rate before end)) e)
