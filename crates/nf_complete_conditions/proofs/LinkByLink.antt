-- A sum over the links of a network, link by link.
use Rattle.std.proofs.Common.{◌≡◌, ℕ, suc, ◌+◌, ◌<◌, ◌≤◌, length, sym, subst, ap, arith, Some, slice_get, Ok, Err}
use Rattle.nf_complete_conditions.proofs.Common.{enumerate_from, length-enumerate_from, ℚ, Verdict, PassedAt, Checked, fold_checked, at_part, Link, Network}
use Rattle.nf_complete_conditions.proofs.Common.{IsLink, entry, enumerated}
use Rattle.nf_frac_def.proofs.AtPart.{part_ok}
use Rattle.nf_complete_conditions.proofs.Folds.{FoldsOn, folds_more, fold_stops, fold_ends}

module _ (f : ℚ → ℕ × Link → Checked ℚ) (net : Network) (start : ℚ) where
  abbrev pub SoFar : ℚ → ℕ → Type 0
  SoFar so_far e = FoldsOn f (enumerate_from 0 net.links) start so_far e

  module _ (so_far : ℚ) (e : ℕ) (inside : e < length net.links) (so : SoFar so_far e) where
    here : (link : Link) × IsLink net e link
    here = entry net.links e inside

    at_here : slice_get (enumerate_from 0 net.links) e ≡ Some (e, here.0)
    at_here = subst (λ (j : ℕ). slice_get (enumerate_from 0 net.links) e ≡ Some (j, here.0)) (let z : 0 + e ≡ e = omega arith in z) (enumerated 0 net.links e here.0 here.1)

    pub adds_on : (next : ℚ) → ((link : Link) → IsLink net e link → Ok next ≡ at_part Verdict (f so_far (e, link))) → SoFar next (e + 1)
    adds_on next said =
        let later : suc e ≡ e + 1 = omega arith in
        subst (SoFar next) later (folds_more f (enumerate_from 0 net.links) start so_far e (e, here.0) at_here so next (part_ok Verdict (f so_far (e, here.0)) next (said here.0 here.1)))

    pub adding_stops : (p : PassedAt ℚ) → ((link : Link) → IsLink net e link → Err p ≡ at_part Verdict (f so_far (e, link)))
        → Err p ≡ at_part Verdict (fold_checked f start (enumerate_from 0 net.links))
    adding_stops p said = sym (fold_stops f (enumerate_from 0 net.links) start so_far e (e, here.0) at_here so Verdict p (sym (said here.0 here.1)))

  pub adding_ends : (so_far : ℚ) (e : ℕ) → length net.links ≤ e → SoFar so_far e → Ok so_far ≡ at_part Verdict (fold_checked f start (enumerate_from 0 net.links))
  adding_ends so_far e end so =
      let l : length (enumerate_from 0 net.links) ≤ e = omega (arith, length-enumerate_from 0 net.links) in
      ap (at_part Verdict) (sym (fold_ends f (enumerate_from 0 net.links) start so_far e l so))
