-- The cut times node by node, and the value of a cut link by link.
use Rattle.std.proofs.Common.{◌≡◌, ℕ, ◌+◌, ◌<◌, ◌≤◌, List, [], ◌∷◌, ◌++◌, length, drop, get_or, Option, Some, None, slice_get, unwrap_or, refl, sym, ap}
use Rattle.std.proofs.Common.{◌∙◌, Ok, Err}
use Rattle.nf_quick_times.proofs.Common.{drop_more, drop_all, slice_get_within, get_or_from_slice_get, ℚ, 0ℚ, Passing, PassedAt, Checked, at_part, each}
use Rattle.nf_quick_times.proofs.Common.{fold_checked, each_goes, each_stops, each_ends, Link, node_time, node_time_at, value_after}
use Rattle.std.specs.List.{enumerate_from}
use Rattle.nf_frac_def.specs.declared.Part.TheVariants as Part
use Rattle.nf_frac_def.proofs.Each.{with_front}
use Rattle.nf_quick_def.specs.Cuts.{node_times_list, value_list}
use Rattle.nf_residual.proofs.Folding.{FoldsOn, fold_all, fold_stops, fold_more}

-- The cut times so far, and those from a node on.
pub record TimesOn (passes : Passing) (time : ℚ) (from_source from_sink : List (Option ℚ)) (cut : List ℚ) (k : ℕ) : Type 0 where
  pub same : with_front cut (each (node_time_at passes time from_sink) (enumerate_from k (drop k from_source))) ≡ node_times_list passes time from_source from_sink

module _ (passes : Passing) (time : ℚ) (from_source from_sink : List (Option ℚ)) where
  pub times_first : (cut : List ℚ) → cut ≡ [] → TimesOn passes time from_source from_sink cut 0
  unfolding node_times_list
  times_first cut none =
      record {
        same = ap (λ (l : List ℚ). with_front l (each (node_time_at passes time from_sink) (enumerate_from 0 from_source))) none
            ∙ first (each (node_time_at passes time from_sink) (enumerate_from 0 from_source));
      }
    where
      first : (r : Checked (List ℚ)) → with_front [] r ≡ r
      first (Ok ys) = refl
      first (Err p) = refl

  module _ (cut : List ℚ) (k : ℕ) (on : TimesOn passes time from_source from_sink cut k) where
    pub times_all : length from_source ≤ k → at_part Part.Quick (node_times_list passes time from_source from_sink) ≡ Ok cut
    times_all b = each_ends (node_time_at passes time from_sink) cut (node_times_list passes time from_source from_sink) Part.Quick
        (sym (ap (λ (l : List (Option ℚ)). with_front cut (each (node_time_at passes time from_sink) (enumerate_from k l))) (drop_all k from_source b)) ∙ on.same)

    module _ (here there : Option ℚ) (b : k < length from_source) (is : here ≡ get_or from_source k here) (also : there ≡ unwrap_or (slice_get from_sink k) None) where
      split : with_front cut (each (node_time_at passes time from_sink) ((k, here) ∷ enumerate_from (k + 1) (drop (k + 1) from_source)))
          ≡ node_times_list passes time from_source from_sink
      split = ap (λ (l : List (Option ℚ)). with_front cut (each (node_time_at passes time from_sink) (enumerate_from k l)))
          (sym (drop_more from_source k here b ∙ ap (λ (o : Option ℚ). o ∷ drop (k + 1) from_source) (sym is))) ∙ on.same

      pub time_passes : (p : PassedAt ℚ) → Err p ≡ at_part Part.Quick (node_time passes time here there) → at_part Part.Quick (node_times_list passes time from_source from_sink) ≡ Err p
      time_passes p e = each_stops Part.Quick (node_time_at passes time from_sink) cut (node_times_list passes time from_source from_sink) (k, here)
          (enumerate_from (k + 1) (drop (k + 1) from_source)) split p
          (ap (λ (o : Option ℚ). at_part Part.Quick (node_time passes time here o)) (sym also) ∙ sym e)

      pub times_more : (y : ℚ) → Ok y ≡ at_part Part.Quick (node_time passes time here there) → TimesOn passes time from_source from_sink (cut ++ y ∷ []) (k + 1)
      times_more y e = record {
        same = each_goes Part.Quick (node_time_at passes time from_sink) cut (node_times_list passes time from_source from_sink) (k, here)
            (enumerate_from (k + 1) (drop (k + 1) from_source)) split y
            (ap (λ (o : Option ℚ). at_part Part.Quick (node_time passes time here o)) (sym also) ∙ sym e);
      }

-- ---- the value of a cut: the remaining links give the result of all links
abbrev pub ValuesOn : Passing → List Link → List ℚ → ℚ → ℕ → Type 0
ValuesOn passes links cut value k = FoldsOn (value_after passes cut) links 0ℚ value k

module _ (passes : Passing) (links : List Link) (cut : List ℚ) where
  whole : value_list passes links cut ≡ fold_checked (value_after passes cut) 0ℚ links
  unfolding value_list
  whole = refl

  pub values_first : (value : ℚ) → value ≡ 0ℚ → ValuesOn passes links cut value 0
  values_first value none = record { same = ap (λ (x : ℚ). fold_checked (value_after passes cut) x links) none }

  module _ (value : ℚ) (k : ℕ) (on : ValuesOn passes links cut value k) where
    pub values_all : length links ≤ k → Ok value ≡ at_part Part.Quick (value_list passes links cut)
    values_all b = sym (ap (at_part Part.Quick) (whole ∙ fold_all (value_after passes cut) links 0ℚ value k on b))

    module _ (link : Link) (is : slice_get links k ≡ Some link) where
      pub value_passes : (p : PassedAt ℚ) → Err p ≡ at_part Part.Quick (value_after passes cut value link) → Err p ≡ at_part Part.Quick (value_list passes links cut)
      value_passes p e = fold_stops (value_after passes cut) links 0ℚ value k on link (slice_get_within links k link is)
          (sym (get_or_from_slice_get links k link link is)) p e ∙ ap (at_part Part.Quick) (sym whole)

      pub values_more : (next : ℚ) → Ok next ≡ at_part Part.Quick (value_after passes cut value link) → ValuesOn passes links cut next (k + 1)
      values_more next e = fold_more (value_after passes cut) links 0ℚ value k on link (slice_get_within links k link is) (sym (get_or_from_slice_get links k link link is)) next e
