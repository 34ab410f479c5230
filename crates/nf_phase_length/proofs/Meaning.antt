-- The value of the extend list is the extension length.
use Rattle.std.proofs.Common.{◌≡◌, List, sym, ap, ◌∙◌, Option, Some, None, Result, Ok, Err, IfOk, MatchOption}
use Rattle.nf_phase_length.proofs.Common.{ℚ, Passing, Extend, PassedAt, Checked, at_part, ◌>>=◌, Network, ArePieces, next_change, IsExtension, IsUnending}
use Rattle.nf_phase_length.proofs.Common.{until_change, after_all, part_ok}
use Rattle.nf_thin_def.specs.Extend.{extend_list}
use Rattle.nf_phase_laws.proofs.Extension.{extension_is, unending_is}

module _ (passes : Passing) (net : Network) (slacks slopes : List ℚ) (time : ℚ) (pieces : ArePieces net.pieces) where
  abbrev Means : Option ℚ → Type 0
  Means length = MatchOption length (IsUnending net slacks slopes time) (IsExtension net slacks slopes time)

  one_means : (length : Option ℚ) → extend_list passes net slacks slopes time ≡ Ok length → Means length
  one_means None h = unending_is net slacks slopes time passes pieces h
  one_means (Some length) h = extension_is net slacks slopes time passes length pieces h

  pub length_means : (result : Result (Option ℚ) (PassedAt ℚ)) → result ≡ at_part Extend (extend_list passes net slacks slopes time) → IfOk result Means
  length_means (Ok length) h = one_means length (part_ok Extend (extend_list passes net slacks slopes time) length h)
  length_means (Err p) h = tt

-- The links, and then the next change of the inflow rate.
pub whole_list : (passes : Passing) (net : Network) (slacks slopes : List ℚ) (time : ℚ) (least change : Option ℚ) (result : Result (Option ℚ) (PassedAt ℚ))
    → Ok least ≡ at_part Extend (after_all passes net slacks slopes)
    → change ≡ next_change net time → result ≡ at_part Extend (until_change passes least time change) → result ≡ at_part Extend (extend_list passes net slacks slopes time)
unfolding extend_list
whole_list passes net slacks slopes time least change result links same h =
    h ∙ ap (λ (c : Option ℚ). at_part Extend (until_change passes least time c)) same
    ∙ ap (λ (r : Checked (Option ℚ)). at_part Extend (r >>= λ l. until_change passes l time (next_change net time)))
    (sym (part_ok Extend (after_all passes net slacks slopes) least links))
