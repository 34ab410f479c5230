-- The table list: its columns, and then its values.
use Rattle.std.proofs.Common.{◌≡◌, ℕ, List, [], length, refl, sym, ap, subst, ◌∙◌, Option, Some, None, Ok}
use Rattle.nf_linear.proofs.Common.{ℚ, Passing, Halt, Checked, Stops, at_part, ◌>>=◌, part_ok, Row, eliminate_from, if_some, solution_from, solution_of}
use Rattle.nf_linear.proofs.Common.{IsSquare, IsOnlySolution, eliminated}
use Rattle.nf_frac_def.specs.declared.Part.TheVariants as Part
use Rattle.nf_linear_def.specs.Table.{Eliminated, table_list}
use Rattle.nf_linear_laws.proofs.Solutions.{one_solution, not_one_solution}
use Rattle.nf_linear.proofs.Fronts.{stops}

module _ (passes : Passing) (table : List Row) where
  abbrev columns : Checked (Option Eliminated)
  columns = eliminate_from passes (length table) 0 (eliminated table [])

  abbrev listed : Checked (Option (List ℚ))
  listed = table_list passes table

  opened : listed ≡ (columns >>= if_some passes (solution_of passes))
  unfolding table_list
  opened = refl

  pub columns_stop : {S : Type 0} (means : S → ℚ) (h : Halt S) → Stops means h (at_part Part.Table columns) → Stops means h (at_part Part.Table listed)
  columns_stop means h e =
      subst (λ (r : Checked (Option (List ℚ))). Stops means h (at_part Part.Table r)) (sym opened)
      (stops Part.Table means h columns (if_some passes (solution_of passes)) e)

  nothing : at_part Part.Table columns ≡ Ok None → listed ≡ Ok None
  nothing e = opened ∙ ap (λ (r : Checked (Option Eliminated)). r >>= if_some passes (solution_of passes)) (part_ok Part.Table columns None (sym e))

  pub not_one_listed : at_part Part.Table columns ≡ Ok None → at_part Part.Table listed ≡ Ok None
  not_one_listed e = ap (at_part Part.Table) (nothing e)

  pub not_one : IsSquare table → at_part Part.Table columns ≡ Ok None → (values : List ℚ) → IsOnlySolution table values → ⊥
  not_one square e = not_one_solution passes table square (nothing e)

  module _ (rows : List Row) (pivots : List ℕ) (cleared : at_part Part.Table columns ≡ Ok (Some (eliminated rows pivots))) where
    abbrev values : Checked (List ℚ)
    values = solution_from passes rows 0 pivots

    with_values : listed ≡ (values >>= λ xs. Ok (Some xs))
    with_values = opened ∙ ap (λ (r : Checked (Option Eliminated)). r >>= if_some passes (solution_of passes))
        (part_ok Part.Table columns (Some (eliminated rows pivots)) (sym cleared))

    pub values_stop : {S : Type 0} (means : S → ℚ) (h : Halt S) → Stops means h (at_part Part.Table values) → Stops means h (at_part Part.Table listed)
    values_stop means h e = subst (λ (r : Checked (Option (List ℚ))). Stops means h (at_part Part.Table r)) (sym with_values) (stops Part.Table means h values (λ xs. Ok (Some xs)) e)

    module _ (xs : List ℚ) (e : at_part Part.Table values ≡ Ok xs) where
      found : listed ≡ Ok (Some xs)
      found = with_values ∙ ap (λ (r : Checked (List ℚ)). r >>= λ xs. Ok (Some xs)) (part_ok Part.Table values xs (sym e))

      pub one_listed : at_part Part.Table listed ≡ Ok (Some xs)
      one_listed = ap (at_part Part.Table) found

      pub one : IsSquare table → IsOnlySolution table xs
      one square = one_solution passes table xs square found
