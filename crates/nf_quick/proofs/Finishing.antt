-- The result for a flow and its time: walks, distances from source and sink, the cut and its value, in this order.
use Rattle.std.proofs.Common.{◌≡◌, ℕ, List, Option, length, sym, ap, ◌∙◌, Ok, Err}
use Rattle.nf_quick.proofs.Common.{ℚ, Passing, Halt, Checked, Stops, at_part, ◌>>=◌, Network, distances_list, Quick, stopped, stops, goes_on, stops_as}
use Rattle.nf_frac_def.specs.declared.Part.TheVariants as Part
use Rattle.nf_frac_def.specs.declared.PassedAt.{PassedAt}
use Rattle.nf_model.specs.Quickest.{Fed}
use Rattle.nf_quick_def.specs.Walks.{walks_off}
use Rattle.nf_quick_def.specs.Cuts.{node_times_list, value_list}
use Rattle.nf_quick_def.specs.Quick.{finish_list}

module _ (passes : Passing) (net : Network) (amount : ℚ) (flows given : List ℚ) (time : ℚ) (same : given ≡ flows) where
  abbrev all : Checked Quick
  all = finish_list passes net amount flows time

  abbrev taken : Checked (List Fed)
  taken = walks_off passes (length net.links) net given

  abbrev with_cut : List Fed → List ℚ → Checked Quick
  with_cut walks cut = value_list passes net.links cut >>= λ value. Ok (record { time = time; walks = walks; cut = cut; value = value })

  abbrev with_sink : List Fed → List (Option ℚ) → List (Option ℚ) → Checked Quick
  with_sink walks from_source from_sink = node_times_list passes time from_source from_sink >>= with_cut walks

  abbrev with_source : List Fed → List (Option ℚ) → Checked Quick
  with_source walks from_source = distances_list passes net flows net.sink >>= with_sink walks from_source

  abbrev with_walks : List Fed → Checked Quick
  with_walks walks = distances_list passes net flows net.source >>= with_source walks

  opened : all ≡ (taken >>= with_walks)
  unfolding finish_list
  opened = ap (λ (l : List ℚ). walks_off passes (length net.links) net l >>= with_walks) (sym same)

  pub walks_stop : (h : Halt ℚ) → Stops (λ (q : ℚ). q) h (at_part Part.Quick taken) → Stops (λ (q : ℚ). q) h (at_part Part.Quick all)
  walks_stop h e = stops_as all (taken >>= with_walks) h opened (stops taken with_walks h e)

  module _ (walks : List Fed) (w : at_part Part.Quick taken ≡ Ok walks) (source : ℕ) (source_is : source ≡ net.source) where
    abbrev from_there : Checked (List (Option ℚ))
    from_there = distances_list passes net flows source

    one : all ≡ (from_there >>= with_source walks)
    one = opened ∙ goes_on taken with_walks walks w ∙ ap (λ (v : ℕ). distances_list passes net flows v >>= with_source walks) (sym source_is)

    pub source_stops : (h : Halt ℚ) → Stops (λ (q : ℚ). q) h (at_part Part.Quick from_there) → Stops (λ (q : ℚ). q) h (at_part Part.Quick all)
    source_stops h e = stops_as all (from_there >>= with_source walks) h one (stops from_there (with_source walks) h e)

    module _ (from_source : List (Option ℚ)) (s : at_part Part.Quick from_there ≡ Ok from_source) (sink : ℕ) (sink_is : sink ≡ net.sink) where
      abbrev to_there : Checked (List (Option ℚ))
      to_there = distances_list passes net flows sink

      two : all ≡ (to_there >>= with_sink walks from_source)
      two = one ∙ goes_on from_there (with_source walks) from_source s ∙ ap (λ (v : ℕ). distances_list passes net flows v >>= with_sink walks from_source) (sym sink_is)

      pub sink_stops : (h : Halt ℚ) → Stops (λ (q : ℚ). q) h (at_part Part.Quick to_there) → Stops (λ (q : ℚ). q) h (at_part Part.Quick all)
      sink_stops h e = stops_as all (to_there >>= with_sink walks from_source) h two (stops to_there (with_sink walks from_source) h e)

      module _ (from_sink : List (Option ℚ)) (t : at_part Part.Quick to_there ≡ Ok from_sink) (lent_source lent_sink : List (Option ℚ))
          (is_source : lent_source ≡ from_source) (is_sink : lent_sink ≡ from_sink) where
        abbrev timed : Checked (List ℚ)
        timed = node_times_list passes time lent_source lent_sink

        three : all ≡ (timed >>= with_cut walks)
        three = two ∙ goes_on to_there (with_sink walks from_source) from_sink t
            ∙ ap (λ (l : List (Option ℚ)). node_times_list passes time l from_sink >>= with_cut walks) (sym is_source)
            ∙ ap (λ (l : List (Option ℚ)). node_times_list passes time lent_source l >>= with_cut walks) (sym is_sink)

        pub cut_stops : (h : Halt ℚ) → Stops (λ (q : ℚ). q) h (at_part Part.Quick timed) → Stops (λ (q : ℚ). q) h (at_part Part.Quick all)
        cut_stops h e = stops_as all (timed >>= with_cut walks) h three (stops timed (with_cut walks) h e)

        module _ (cut lent : List ℚ) (c : at_part Part.Quick timed ≡ Ok cut) (is_cut : lent ≡ cut) where
          abbrev valued : Checked ℚ
          valued = value_list passes net.links lent

          abbrev found : ℚ → Checked Quick
          found value = Ok (record { time = time; walks = walks; cut = cut; value = value })

          four : all ≡ (valued >>= found)
          four = three ∙ goes_on timed (with_cut walks) cut c ∙ ap (λ (l : List ℚ). value_list passes net.links l >>= found) (sym is_cut)

          pub value_passes : (p : PassedAt ℚ) → Err p ≡ at_part Part.Quick valued → at_part Part.Quick all ≡ Err p
          value_passes p e = ap (at_part Part.Quick) four ∙ stopped valued found p (sym e)

          pub finished : (value : ℚ) → Ok value ≡ at_part Part.Quick valued → at_part Part.Quick all ≡ Ok (record { time = time; walks = walks; cut = cut; value = value })
          finished value e = ap (at_part Part.Quick) (four ∙ goes_on valued found value (sym e))
