-- The operation sequence of the thin flow test. Inflow and outflow of each node are summed first. The flow that fills each link is computed
-- next.
use Rattle.std.specs.Prelude.{ℕ, Bool, true, false, ◌&&◌, ◌==◌, List, Option, slice_get, unwrap_or, Ok}
use Rattle.std.specs.List.{enumerate_from, range_with_len}
use Rattle.nf_rational.specs.Rational.{ℚ}
use Rattle.nf_rational.specs.Operations.{0ℚ}
use Rattle.nf_frac_def.specs.Passing.{Passing}
use Rattle.nf_frac_def.specs.Checked.{Checked, checked, each, fold_checked, ◌>>=◌}
use Rattle.nf_frac_def.specs.declared.Op.TheVariants.{Sum}
use Rattle.nf_model.specs.Entries.{number_at}
use Rattle.nf_model.specs.Network.{Link, Network}
use Rattle.nf_model.specs.ThinFlow.{Sets}
use Rattle.nf_complete_def.specs.Cancelling.{fulls_list}

-- the inflow of a node, and its outflow plus the rate at the sink
pub record Sums : Type 0 where
  pub in_sum : ℚ
  pub out_sum : ℚ

module _ (passes : Passing) (net : Network) (sets : Sets) (rate : ℚ) (flows : List ℚ) where
  abbrev pub is_active : ℕ → Bool
  is_active e = unwrap_or (slice_get sets.active e) false

  abbrev pub sum_more : Bool → ℚ → ℕ → Checked ℚ
  sum_more false so_far e = Ok so_far
  sum_more true so_far e = checked passes Sum so_far (number_at flows e)

  abbrev pub in_more : ℕ → ℚ → ℕ × Link → Checked ℚ
  in_more v so_far (e, link) = sum_more (is_active e && link.head == v) so_far e

  abbrev pub out_more : ℕ → ℚ → ℕ × Link → Checked ℚ
  out_more v so_far (e, link) = sum_more (is_active e && link.tail == v) so_far e

  abbrev pub with_rate : Bool → ℚ → Checked ℚ
  with_rate false sum = Ok sum
  with_rate true sum = checked passes Sum sum rate

  abbrev pub sums_at : ℕ → Checked Sums
  sums_at v = do
    come ← fold_checked (in_more v) 0ℚ (enumerate_from 0 net.links)
    go ← fold_checked (out_more v) 0ℚ (enumerate_from 0 net.links)
    stay ← with_rate (v == net.sink) go
    Ok (record { in_sum = come; out_sum = stay })

  -- the sums of the nodes, and the flows that fill the links
  unfoldable pub thin_list : List ℚ → Checked (List Sums × List (Option ℚ))
  thin_list slopes = do
    sums ← each sums_at (range_with_len 0 net.nodes)
    fulls ← fulls_list passes net sets slopes
    Ok (sums, fulls)
