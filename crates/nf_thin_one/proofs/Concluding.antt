-- What a verdict concludes from the first link that fails.
use Rattle.std.proofs.Common.{◌≡◌, ℕ, suc, ◌+◌, ◌<◌, ◌≤◌, List, [], ◌∷◌, length, get_or, drop, ◌⊎◌, inl, inr, Bool, sym, ap, subst, refl, ◌∙◌, arith}
use Rattle.std.proofs.Common.{Option, Some, None, slice_get, Result, Ok, Err, IsOk}
use Rattle.nf_thin_one.proofs.Common.{enumerate_from, slice_get_cases, slice_get_within, ℚ, 0ℚ, ◌≤ℚ◌, ≤ℚ_of_same, Passing, Part, Verdict, PassedAt, Checked}
use Rattle.nf_thin_one.proofs.Common.{fold_checked, placed, at_part, ◌>>=◌, number_at, Link, Network, IsLink, Pattern, Meets, verdict_list}
use Rattle.nf_thin_one.proofs.Common.{NoneNegativeBefore, IsFirstFailing, first_failed, numbered_verdict, broken_after, entry, same_Err}
use Rattle.nf_thin_laws.proofs.Ending.{enumerated}
use Rattle.nf_thin_laws.proofs.Flags.{number_at-beyond}
use Rattle.nf_thin_one.specs.Judging.{first_broken}
use Rattle.nf_frac_def.proofs.AtPart.{part_ok}
use Rattle.nf_thin_one.proofs.Folds.{goes_on, stops_in, ends}
use Rattle.nf_thin_one.proofs.Failing.{AllMeet, SoFar, found_means, passes_means}

is_ok_part : {A : Type 0} (part : Part) (r : Checked A) → IsOk r → IsOk (at_part part r)
is_ok_part part (Ok x) h = refl
is_ok_part part (Err p) h = h

-- what passes on the way passes in the end
bind_part : {A B : Type 0} (part : Part) (r : Checked A) (f : A → Checked B) (p : PassedAt ℚ) → Err p ≡ at_part part r → at_part part (r >>= f) ≡ Err p
bind_part part (Ok x) f p e = absurd (cc)
bind_part part (Err q) f p e = ap Err (sym (same_Err p (placed part q) e))

module _ (passes : Passing) (net : Network) (pattern : Pattern) (flows slopes : List ℚ) where
  abbrev whole : List (ℕ × Link)
  whole = enumerate_from 0 net.links

  abbrev after : Option ℕ → ℕ × Link → Checked (Option ℕ)
  after = broken_after passes pattern flows slopes

  -- ---- the loop
  module _ (found : Option ℕ) (e : ℕ) (inside : e < length net.links) (so : fold_checked after None whole ≡ fold_checked after found (drop e whole)) where
    here : (link : Link) × IsLink net e link
    here = entry net.links e inside

    at_here : slice_get whole e ≡ Some (e, here.0)
    at_here = subst (λ (j : ℕ). slice_get whole e ≡ Some (j, here.0)) (omega arith) (enumerated 0 net.links e here.0 here.1)

    pub loop_goes_on : (holds : Bool) → ((link : Link) → IsLink net e link → Ok holds ≡ at_part Verdict (numbered_verdict passes pattern flows slopes (e, link)))
        → fold_checked after None whole ≡ fold_checked after (first_failed found holds e) (drop (e + 1) whole)
    loop_goes_on holds judged =
        let next : suc e ≡ e + 1 = omega arith in
        subst (λ (j : ℕ). fold_checked after None whole ≡ fold_checked after (first_failed found holds e) (drop j whole)) next
        (goes_on after whole None found (first_failed found holds e) e (e, here.0) at_here so
        (ap (λ (r : Checked Bool). r >>= λ h. Ok (first_failed found h e)) (part_ok Verdict (numbered_verdict passes pattern flows slopes (e, here.0)) holds (judged here.0 here.1))))

    pub loop_stops : (p : PassedAt ℚ) → ((link : Link) → IsLink net e link → Err p ≡ at_part Verdict (numbered_verdict passes pattern flows slopes (e, link)))
        → Err p ≡ at_part Verdict (first_broken passes net pattern flows slopes)
    unfolding first_broken
    loop_stops p judged = sym (stops_in Verdict after whole None found e (e, here.0) p at_here so
        (bind_part Verdict (numbered_verdict passes pattern flows slopes (e, here.0)) (λ h. Ok (first_failed found h e)) p (judged here.0 here.1)))

  pub loop_ends : (found : Option ℕ) (e : ℕ) → length net.links ≤ e → fold_checked after None whole ≡ fold_checked after found (drop e whole)
      → Ok found ≡ at_part Verdict (first_broken passes net pattern flows slopes)
  unfolding first_broken
  loop_ends found e end so = sym (ap (at_part Verdict) (ends after whole None found e (let l : length whole ≡ length net.links = length-enumerated 0 net.links in omega arith) so))
    where
      length-enumerated : (k : ℕ) (xs : List Link) → length (enumerate_from k xs) ≡ length xs
      length-enumerated k [] = refl
      length-enumerated k (x ∷ xs) = ap suc (length-enumerated (k + 1) xs)

  -- ---- the verdict
  pub judged_err : (p : PassedAt ℚ) → Err p ≡ at_part Verdict (first_broken passes net pattern flows slopes) → at_part Verdict (verdict_list passes net pattern slopes) ≡ Err p
  judged_err p e = go (first_broken passes net pattern flows slopes) refl e
    where
      go : (r : Checked (Option ℕ)) → first_broken passes net pattern flows slopes ≡ r
          → ◌≡◌ {A = Result (Option ℕ) (PassedAt ℚ)} (Err p) (at_part Verdict r) → at_part Verdict (verdict_list passes net pattern slopes) ≡ Err p
      go (Ok x) h e = absurd (cc)
      go (Err q) h e = ap (at_part Verdict) (passes_means passes net pattern flows slopes q h) ∙ ap Err (sym (same_Err p (placed Verdict q) e))

  module _ (states : length pattern ≡ length net.links) (found : Option ℕ) (judged : Ok found ≡ at_part Verdict (first_broken passes net pattern flows slopes)) where
    means : IsOk (verdict_list passes net pattern slopes) × SoFar passes net pattern flows slopes found (length net.links)
    means = found_means passes net pattern flows slopes states found (part_ok Verdict (first_broken passes net pattern flows slopes) found judged)

    pub none_passes : IsOk (at_part Verdict (verdict_list passes net pattern slopes))
    none_passes = is_ok_part Verdict (verdict_list passes net pattern slopes) means.0

    -- beyond the end of a list there is 0
    everywhere : (xs : List ℚ) → NoneNegativeBefore xs (length xs) → (v : ℕ) → 0ℚ ≤ℚ number_at xs v
    everywhere xs none v = go (slice_get_cases xs v).1
      where
        go : ((x : ℚ) × (v < length xs) × (slice_get xs v ≡ Some x) × (get_or xs v x ≡ x)) ⊎ ((length xs ≤ v) × (slice_get xs v ≡ None)) → 0ℚ ≤ℚ number_at xs v
        go (inl c) = none v c.1
        go (inr c) = ≤ℚ_of_same 0ℚ (number_at xs v) (sym (number_at-beyond xs v c.0))

    pub first_fails : (link : ℕ) → found ≡ Some link → NoneNegativeBefore slopes (length slopes) → IsFirstFailing net pattern flows slopes link
    first_fails link same none = let so : SoFar passes net pattern flows slopes (Some link) (length net.links) =
        subst (λ (o : Option ℕ). SoFar passes net pattern flows slopes o (length net.links)) same means.1 in
        record { no_negative = everywhere slopes none; fails = so.0; first = so.1 }

    pub all_meet : found ≡ None → length flows ≡ length net.links → NoneNegativeBefore slopes (length slopes) → Meets net pattern flows slopes
    all_meet same count none = let so : AllMeet passes net pattern flows slopes (length net.links) =
        subst (λ (o : Option ℕ). SoFar passes net pattern flows slopes o (length net.links)) same means.1 in
        record {
          no_negative_flow = everywhere flows (λ e b. (so e (omega arith)).no_negative);
          no_negative_slope = everywhere slopes none;
          links = λ e link state is_link at. (so e (slice_get_within net.links e link is_link)).inequality link state is_link at;
        }
