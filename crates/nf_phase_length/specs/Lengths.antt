-- The first part of the extend list: the links in order.
use Rattle.std.specs.Prelude.{List, Option, None}
use Rattle.std.specs.List.{enumerate_from}
use Rattle.nf_rational.specs.Rational.{ℚ}
use Rattle.nf_frac_def.specs.Passing.{Passing}
use Rattle.nf_frac_def.specs.Checked.{Checked, fold_checked}
use Rattle.nf_model.specs.Network.{Network}
use Rattle.nf_thin_def.specs.Extend.{least_after}

-- The least length after which the slack of a link reaches 0.
abbrev pub after_all : Passing → Network → List ℚ → List ℚ → Checked (Option ℚ)
after_all passes net slacks slopes = fold_checked (least_after passes slacks slopes) None (enumerate_from 0 net.links)
