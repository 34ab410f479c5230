-- The loop over the links.
use Rattle.std.proofs.Common.{◌≡◌, ℕ, suc, ◌+◌, ◌<◌, ◌≤◌, List, length, drop, sym, ap, subst, arith, Option, Some, None, slice_get, Ok, Err}
use Rattle.nf_phase_length.proofs.Common.{ℚ, Passing, Extend, PassedAt, Checked, fold_checked, at_part, Link, Network, IsLink, least_after, part_ok}
use Rattle.nf_phase_length.proofs.Common.{after_all}
use Rattle.std.specs.List.{enumerate_from}
use Rattle.nf_thin_laws.proofs.Ending.{enumerated}
use Rattle.nf_thin_one.proofs.Folds.{goes_on, stops_in, ends}
use Rattle.nf_rational_laws.proofs.Entries.{entry, length-enumerated}

module _ (passes : Passing) (net : Network) (slacks slopes : List ℚ) where
  abbrev whole : List (ℕ × Link)
  whole = enumerate_from 0 net.links

  abbrev step : Option ℚ → ℕ × Link → Checked (Option ℚ)
  step = least_after passes slacks slopes

  -- The remaining links give the result of the whole list.
  abbrev pub SoFar : Option ℚ → ℕ → Type 0
  SoFar least e = fold_checked step None whole ≡ fold_checked step least (drop e whole)

  module _ (least : Option ℚ) (e : ℕ) (inside : e < length net.links) (so : SoFar least e) where
    here : (link : Link) × IsLink net e link
    here = entry net.links e inside

    at_here : slice_get whole e ≡ Some (e, here.0)
    at_here = subst (λ (j : ℕ). slice_get whole e ≡ Some (j, here.0)) (omega arith) (enumerated 0 net.links e here.0 here.1)

    pub one_more : (next : Option ℚ) → ((link : Link) → IsLink net e link → Ok next ≡ at_part Extend (step least (e, link))) → SoFar next (e + 1)
    one_more next said =
        let later : suc e ≡ e + 1 = omega arith in
        subst (SoFar next) later (goes_on step whole None least next e (e, here.0) at_here so (part_ok Extend (step least (e, here.0)) next (said here.0 here.1)))

    pub one_passes : (p : PassedAt ℚ) → ((link : Link) → IsLink net e link → Err p ≡ at_part Extend (step least (e, link))) → Err p ≡ at_part Extend (after_all passes net slacks slopes)
    one_passes p said = sym (stops_in Extend step whole None least e (e, here.0) p at_here so (sym (said here.0 here.1)))

  pub all_done : (least : Option ℚ) (e : ℕ) → length net.links ≤ e → SoFar least e → Ok least ≡ at_part Extend (after_all passes net slacks slopes)
  all_done least e end so = sym (ap (at_part Extend) (ends step whole None least e (let l : length whole ≡ length net.links = length-enumerated 0 net.links in omega arith) so))
