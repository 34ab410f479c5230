-- A phase that has an end reaches a later departure.
use Rattle.std.proofs.Common.{◌≡◌, List, [], ◌∷◌, sym, ◌∙◌, Option, Some, None, Result, Ok, Err, IfOk, IfSome, MatchOption}
use Rattle.nf_phase_length.proofs.Common.{ℚ, Passing, Checked, checked, at_part, Extend, PassedAt, Network, IsExtension, IsUnending, end_after, part_ok}
use Rattle.nf_rational.specs.Operations.{0ℚ, ◌+ℚ◌}
use Rattle.nf_rational.specs.Order.{◌<ℚ◌}
use Rattle.nf_rational_laws.proofs.Polynomial.{reading_of}
use Rattle.nf_rational_laws.proofs.Linear.{lt, eq, linear_lt}
use Rattle.nf_frac_def.specs.declared.Op.TheVariants.{Sum}
use Rattle.nf_curve_laws.proofs.Operations.{then_ok, checked-is}
use Rattle.nf_phase_laws.proofs.Length.{IsExtension-some}

module _ (passes : Passing) (net : Network) (slacks slopes : List ℚ) (time : ℚ) where
  after : (e l : ℚ) → 0ℚ <ℚ l → e ≡ time +ℚ l → time <ℚ e
  after e l k f = linear_lt (time ∷ e ∷ l ∷ []) (lt k ∷ eq f ∷ []) (search reading_of depth 12) tt

  by_length : (length : Option ℚ) → MatchOption length (IsUnending net slacks slopes time) (IsExtension net slacks slopes time) → (end : ℚ)
      → end_after passes time length ≡ Ok (Some end) → time <ℚ end
  by_length None h end e = absurd (cc)
  by_length (Some length) h end e =
      let w = then_ok (checked passes Sum time length) (λ (end : ℚ). Ok (Some end)) (Some end) e in
      let same : w.between ≡ end = one w.between end w.next in
      after end length (IsExtension-some net slacks slopes time length h) (sym same ∙ checked-is passes Sum time length w.between w.first)
    where
      one : (x y : ℚ) → ◌≡◌ {A = Checked (Option ℚ)} (Ok (Some x)) (Ok (Some y)) → x ≡ y
      one x y e = cc

  pub end_later : (length : Option ℚ) → MatchOption length (IsUnending net slacks slopes time) (IsExtension net slacks slopes time) → (result : Result (Option ℚ) (PassedAt ℚ))
      → result ≡ at_part Extend (end_after passes time length) → IfOk result (λ end. IfSome end (λ departure. time <ℚ departure))
  end_later length h (Ok None) e = tt
  end_later length h (Ok (Some end)) e = by_length length h end (part_ok Extend (end_after passes time length) (Some end) e)
  end_later length h (Err p) e = tt
