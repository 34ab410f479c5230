-- At a departure before the horizon, each phase has a length. If no operation exceeds its bound, the extend list gives the extension
-- length, or None if every length is possible.
use Rattle.std.proofs.Common.{◌≡◌, List, [], ◌∷◌, inl, inr, Bool, true, false, refl, ap, ◌∙◌, Option, Some, None, Result, Ok}
use Rattle.nf_phase_run_laws.proofs.Common.{enumerate_from, ℚ, 0ℚ, ◌-ℚ◌, min_ℚ, Op, Difference, Quotient, result_of, number_at, Network, ArePieces}
use Rattle.nf_phase_run_laws.proofs.Common.{next_change, IsPhaseLength, is_zero, are_opposite, never, fold_checked, ◌>>=◌, lesser, to_zero, after_link}
use Rattle.nf_phase_run_laws.proofs.Common.{least_after, until_change}
use Rattle.nf_frac_def.specs.Checked.{checked}
use Rattle.nf_thin_def.specs.Extend.{extend_list}
use Rattle.nf_phase_laws.proofs.Extension.{extension_is, unending_is}

abbrev HasValue : {A E : Type 0} → Result A E → Type 0
HasValue {A = A} r = (x : A) × (r ≡ Ok x)

then_has : {A B E : Type 0} (r : Result A E) (f : A → Result B E) → HasValue r → ((x : A) → HasValue (f x)) → HasValue (r >>= f)
then_has r f h g = ((g h.0).0, ap (λ s. s >>= f) h.1 ∙ (g h.0).1)

checked_has : (op : Op) (x y : ℚ) → HasValue (checked never op x y)
unfolding checked
checked_has op x y = (result_of op x y, refl)

to_zero_has : (b : Bool) (least : Option ℚ) (slack change : ℚ) → HasValue (to_zero never b least slack change)
to_zero_has false least slack change = (least, refl)
to_zero_has true least slack change = then_has _ _ (checked_has Difference 0ℚ slack) (λ m. then_has _ _ (checked_has Quotient m change) (λ length. (lesser least length, refl)))

after_link_has : (b : Bool) (least : Option ℚ) (slack tail_slope head_slope : ℚ) → HasValue (after_link never b least slack tail_slope head_slope)
after_link_has true least slack tail_slope head_slope = (least, refl)
after_link_has false least slack tail_slope head_slope =
    then_has _ _ (checked_has Difference head_slope tail_slope) (λ change. to_zero_has (are_opposite slack change) least slack change)

fold_has : {A B E : Type 0} (f : B → A → Result B E) → ((so_far : B) (x : A) → HasValue (f so_far x)) → (so_far : B) (xs : List A) → HasValue (fold_checked f so_far xs)
fold_has f each so_far [] = (so_far, refl)
fold_has f each so_far (x ∷ rest) = then_has (f so_far x) _ (each so_far x) (λ next. fold_has f each next rest)

until_change_has : (least : Option ℚ) (time : ℚ) (change : Option ℚ) → HasValue (until_change never least time change)
until_change_has least time None = (least, refl)
until_change_has least time (Some change) = then_has _ _ (checked_has Difference change time) (λ length. (lesser least length, refl))

module _ (net : Network) (slacks slopes : List ℚ) (time : ℚ) where
  extend_has : HasValue (extend_list never net slacks slopes time)
  unfolding extend_list
  extend_has = then_has _ _
      (fold_has (least_after never slacks slopes)
      (λ least numbered. after_link_has (is_zero (number_at slacks numbered.0)) least (number_at slacks numbered.0) (number_at slopes numbered.1.tail) (number_at slopes numbered.1.head))
      None (enumerate_from 0 net.links))
      (λ least. until_change_has least time (next_change net time))

  pub some_length : (horizon : ℚ) → ArePieces net.pieces → (length : ℚ) × IsPhaseLength net slacks slopes time horizon length
  some_length horizon pieces = go extend_has.0 extend_has.1
    where
      go : (extension : Option ℚ) → extend_list never net slacks slopes time ≡ Ok extension → (length : ℚ) × IsPhaseLength net slacks slopes time horizon length
      go None e = (horizon -ℚ time, inr (unending_is net slacks slopes time never pieces e, refl))
      go (Some extension) e = (min_ℚ (horizon -ℚ time) extension, inl (extension, extension_is net slacks slopes time never extension pieces e, refl))
