-- The list of a link's loading, step by step: where a step stops the whole does, and what the steps come to.
use Rattle.std.proofs.Common.{◌≡◌, List, Option, ◌∙◌, Ok, Err, map}
use Rattle.nf_load.proofs.Common.{ℚ, Passing, Part, PassedAt, Checked, checked, at_part, each, Sum, Point, checked_cut, checked_short, Waits, Exit}
use Rattle.nf_load.proofs.Common.{queue_point, exit_point, outflow_points, exit_of, all_waits, after_err, after_ok, was_ok, AreLoadCurves, LeadsToCurves}
use Rattle.nf_load_def.specs.Loading.{checked_loading}
use Rattle.nf_load.specs.InSteps.{in_short_form, until_transit, behind_cut}

module _ (passes : Passing) (part : Part) where
  -- where a step stops
  abbrev Stops : {A B : Type 0} → Checked A → Checked B → Type 0
  Stops step whole = (p : PassedAt ℚ) → at_part part step ≡ Err p → at_part part whole ≡ Err p

  -- ---- the curves in short form
  module _ (waits : List Waits) (all : List Exit) (whole : List Point) where
    pub queue_stops : Stops (checked_short passes (map queue_point waits)) (in_short_form passes waits all whole)
    unfolding in_short_form
    queue_stops p e = after_err part (checked_short passes (map queue_point waits)) _ p e

    module _ (queue : List Point) (queue_is : at_part part (checked_short passes (map queue_point waits)) ≡ Ok queue) where
      pub outflow_stops : Stops (checked_short passes whole) (in_short_form passes waits all whole)
      unfolding in_short_form
      outflow_stops p e = after_ok part (checked_short passes (map queue_point waits)) _ queue queue_is ∙ after_err part (checked_short passes whole) _ p e

      module _ (outflow : List Point) (outflow_is : at_part part (checked_short passes whole) ≡ Ok outflow) where
        pub exit_stops : Stops (checked_short passes (map exit_point all)) (in_short_form passes waits all whole)
        unfolding in_short_form
        exit_stops p e = after_ok part (checked_short passes (map queue_point waits)) _ queue queue_is ∙ after_ok part (checked_short passes whole) _ outflow outflow_is
            ∙ after_err part (checked_short passes (map exit_point all)) _ p e

        pub comes_to : (exit : List Point) → at_part part (checked_short passes (map exit_point all)) ≡ Ok exit
            → at_part part (in_short_form passes waits all whole) ≡ Ok (record { queue = queue; outflow = outflow; exit = exit })
        unfolding in_short_form
        comes_to exit e = after_ok part (checked_short passes (map queue_point waits)) _ queue queue_is ∙ after_ok part (checked_short passes whole) _ outflow outflow_is
            ∙ after_ok part (checked_short passes (map exit_point all)) _ exit e

  -- ---- the outflow up to its end
  module _ (transit : ℚ) (waits : List Waits) (all : List Exit) (last : ℚ) where
    pub end_stops : Stops (checked passes Sum last transit) (until_transit passes transit waits all last)
    unfolding until_transit
    end_stops p e = after_err part (checked passes Sum last transit) _ p e

    module _ (end : ℚ) (end_is : at_part part (checked passes Sum last transit) ≡ Ok end) where
      pub whole_stops : Stops (checked_cut passes (outflow_points all) end) (until_transit passes transit waits all last)
      unfolding until_transit
      whole_stops p e = after_ok part (checked passes Sum last transit) _ end end_is ∙ after_err part (checked_cut passes (outflow_points all) end) _ p e

      pub whole_goes : (whole : List Point) → at_part part (checked_cut passes (outflow_points all) end) ≡ Ok whole
          → at_part part (until_transit passes transit waits all last) ≡ at_part part (in_short_form passes waits all whole)
      unfolding until_transit
      whole_goes whole e = after_ok part (checked passes Sum last transit) _ end end_is ∙ after_ok part (checked_cut passes (outflow_points all) end) _ whole e

  -- ---- what waits, and its exit
  module _ (transit : ℚ) (capacity : Option ℚ) (cut : List Point) (last : ℚ) where
    pub waits_stop : Stops (all_waits passes capacity cut) (behind_cut passes transit capacity cut last)
    unfolding behind_cut
    waits_stop p e = after_err part (all_waits passes capacity cut) _ p e

    module _ (waits : List Waits) (waits_are : at_part part (all_waits passes capacity cut) ≡ Ok waits) where
      pub exits_stop : Stops (each (exit_of passes capacity transit) waits) (behind_cut passes transit capacity cut last)
      unfolding behind_cut
      exits_stop p e = after_ok part (all_waits passes capacity cut) _ waits waits_are ∙ after_err part (each (exit_of passes capacity transit) waits) _ p e

      module _ (all : List Exit) (all_are : at_part part (each (exit_of passes capacity transit) waits) ≡ Ok all) where
        pub exits_go : at_part part (behind_cut passes transit capacity cut last) ≡ at_part part (until_transit passes transit waits all last)
        unfolding behind_cut
        exits_go = after_ok part (all_waits passes capacity cut) _ waits waits_are ∙ after_ok part (each (exit_of passes capacity transit) waits) _ all all_are

        pub are_curves : LeadsToCurves passes transit capacity cut → AreLoadCurves waits all
        are_curves curves = curves waits all (was_ok part (all_waits passes capacity cut) waits waits_are) (was_ok part (each (exit_of passes capacity transit) waits) all all_are)

  -- ---- the inflow, cut at the last time
  module _ (transit : ℚ) (capacity : Option ℚ) (inflow : List Point) (last : ℚ) where
    pub cut_stops : Stops (checked_cut passes inflow last) (checked_loading passes transit capacity inflow last)
    unfolding checked_loading
    cut_stops p e = after_err part (checked_cut passes inflow last) _ p e

    pub cut_goes : (cut : List Point) → at_part part (checked_cut passes inflow last) ≡ Ok cut
        → at_part part (checked_loading passes transit capacity inflow last) ≡ at_part part (behind_cut passes transit capacity cut last)
    unfolding checked_loading until_transit in_short_form behind_cut
    cut_goes cut e = after_ok part (checked_cut passes inflow last) _ cut e
