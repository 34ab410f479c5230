-- Answers of the test for a thin flow.
use Rattle.std.proofs.Common.{◌≡◌, List, length, Bool, ◌&&◌, Option, refl, Ok, Err, IsOk, MatchBool}
use Rattle.nf_complete.proofs.Common.{ℚ, Passing, PassedAt, Verdict, Checked, each, at_part, ◌>>=◌, Network, Sets, IsThinFlow, fulls_list, AreGoodSets}
use Rattle.nf_complete.proofs.Common.{first_passes}
use Rattle.std.specs.List.{range_with_len}
use Rattle.nf_thin_laws.specs.ActiveLinks.{NoneEntersSource}
use Rattle.nf_complete_def.specs.ThinList.{Sums, sums_at, thin_list}
use Rattle.nf_complete_conditions.specs.Testing.{AnswersWhether}
use Rattle.nf_complete_conditions.specs.ThinParts.{IsProper}
use Rattle.nf_complete_conditions.proofs.Deciding.{says_like, says_both}
use Rattle.nf_complete_conditions.proofs.ThinFlows.{Balanced, Kept, IsThinFlow-made, balanced-thin, kept-thin, proper-thin}

module _ (passes : Passing) (net : Network) (sets : Sets) (rate : ℚ) (flows slopes : List ℚ) where
  abbrev sums : Checked (List Sums)
  sums = each (sums_at passes net sets rate flows) (range_with_len 0 net.nodes)

  abbrev fulls : Checked (List (Option ℚ))
  fulls = fulls_list passes net sets slopes

  sums_pass : (p : PassedAt ℚ) → at_part Verdict sums ≡ Err p → at_part Verdict (thin_list passes net sets rate flows slopes) ≡ Err p
  unfolding thin_list
  sums_pass p e = first_passes sums (λ s. fulls >>= λ f. Ok (s, f)) p e

  fulls_pass : (p : PassedAt ℚ) → IsOk sums → at_part Verdict fulls ≡ Err p → at_part Verdict (thin_list passes net sets rate flows slopes) ≡ Err p
  unfolding thin_list
  fulls_pass p ok e = go sums ok
    where
      go : (r : Checked (List Sums)) → IsOk r → at_part {A = List Sums × List (Option ℚ)} Verdict (r >>= λ s. fulls >>= λ f. Ok (s, f)) ≡ Err p
      go (Ok s) h = first_passes fulls (λ f. Ok (s, f)) p e
      go (Err q) h = absurd (cc)

  all_work : IsOk sums → IsOk fulls → IsOk (thin_list passes net sets rate flows slopes)
  unfolding thin_list
  all_work ok fine = go sums fulls ok fine
    where
      go : (r : Checked (List Sums)) (s : Checked (List (Option ℚ))) → IsOk r → IsOk s → IsOk {T = List Sums × List (Option ℚ)} (r >>= λ x. s >>= λ y. Ok (x, y))
      go (Ok x) (Ok y) h k = refl
      go (Ok x) (Err q) h k = absurd (cc)
      go (Err q) s h k = absurd (cc)

  module _ (good : AreGoodSets net sets) (none_in : NoneEntersSource net sets) (flow_count : length flows ≡ length net.links) (slope_count : length slopes ≡ net.nodes) where
    abbrev AllBalanced : Type 0
    AllBalanced = Balanced net sets rate flows slopes good none_in

    abbrev AllKept : Type 0
    AllKept = Kept net sets rate flows slopes good none_in

    pub balances_pass : (p : PassedAt ℚ) → AnswersWhether AllBalanced sums (Err p) → at_part Verdict (thin_list passes net sets rate flows slopes) ≡ Err p
    balances_pass p t = sums_pass p t

    module _ (balanced : Bool) (b : AnswersWhether AllBalanced sums (Ok balanced)) where
      pub slopes_pass : (p : PassedAt ℚ) → AnswersWhether AllKept fulls (Err p) → at_part Verdict (thin_list passes net sets rate flows slopes) ≡ Err p
      slopes_pass p t = fulls_pass p b.0 t

      module _ (kept : Bool) (k : AnswersWhether AllKept fulls (Ok kept)) where
        pub none_passes : IsOk (thin_list passes net sets rate flows slopes)
        none_passes = all_work b.0 k.0

        pub thin_told : (proper : Bool) → MatchBool proper (IsProper net sets flows slopes) (IsProper net sets flows slopes → ⊥)
            → MatchBool ((balanced && kept) && proper) (IsThinFlow net sets rate flows slopes) (IsThinFlow net sets rate flows slopes → ⊥)
        thin_told proper s = says_like ((balanced && kept) && proper)
            (λ (w : (AllBalanced × AllKept) × IsProper net sets flows slopes). IsThinFlow-made net sets rate flows slopes good none_in flow_count slope_count w.0.0 w.0.1 w.1)
            (λ (t : IsThinFlow net sets rate flows slopes).
            ((balanced-thin net sets rate flows slopes good none_in t, kept-thin net sets rate flows slopes good none_in t), proper-thin net sets rate flows slopes good none_in t))
            (says_both (AllBalanced × AllKept) (IsProper net sets flows slopes) (balanced && kept) proper (says_both AllBalanced AllKept balanced kept b.1 k.1) s)
