-- Cancelling cycles of interior links. Forward links of a cycle grow and its backward links shrink by one amount. The amount is the
-- greatest for which each flow stays between 0 and the flow that fills its link. Cancelling ends once the interior links hold no cycle.
use Rattle.std.specs.Prelude.{◌≡◌, ℕ, Bool, true, false, List, [], ◌∷◌, Option, Some, None, slice_get, unwrap_or, Ok, Err}
use Rattle.std.specs.List.{enumerate_from}
use Rattle.nf_rational.specs.Rational.{ℚ}
use Rattle.nf_rational.specs.Operations.{0ℚ}
use Rattle.nf_rational.specs.Order.{min_ℚ}
use Rattle.nf_frac_def.specs.Passing.{Passing}
use Rattle.nf_frac_def.specs.Checked.{Checked, checked, each, ◌>>=◌}
use Rattle.nf_frac_def.specs.declared.Op.TheVariants.{Sum, Difference, Product}
use Rattle.nf_frac_def.specs.declared.Passed.{Passed}
use Rattle.nf_model.specs.Entries.{number_at}
use Rattle.nf_model.specs.Network.{Link, Network, hops}
use Rattle.nf_model.specs.ThinFlow.{Sets}
use Rattle.nf_model.specs.Pattern.{IsForest}
use Rattle.nf_complete_def.specs.Interior.{IsInterior, turn_of, IsNextCycle}

-- the lesser of two rooms, of which `None` means no limit
abbrev pub lesser_room : Option ℚ → Option ℚ → Option ℚ
lesser_room None rest = rest
lesser_room (Some room) None = Some room
lesser_room (Some room) (Some rest) = Some (min_ℚ room rest)

abbrev pub least_room : List (Option ℚ) → Option ℚ
least_room [] = None
least_room (room ∷ rooms) = lesser_room room (least_room rooms)

module _ (passes : Passing) where
  -- ---- the flow that fills each active link with a capacity: the capacity times the slope of the head
  abbrev pub full_on : Bool → Option ℚ → ℚ → Checked (Option ℚ)
  full_on true (Some capacity) head_slope = do
    full ← checked passes Product capacity head_slope
    Ok (Some full)
  full_on active capacity head_slope = Ok None

  abbrev pub full_at : Sets → List ℚ → ℕ × Link → Checked (Option ℚ)
  full_at sets slopes (e, link) = full_on (unwrap_or (slice_get sets.active e) false) link.capacity (number_at slopes link.head)

  unfoldable pub fulls_list : Network → Sets → List ℚ → Checked (List (Option ℚ))
  fulls_list net sets slopes = each (full_at sets slopes) (enumerate_from 0 net.links)

  -- ---- the room of each link along a cycle; `None` means no limit
  abbrev pub room_on : Option Bool → Option ℚ → ℚ → Checked (Option ℚ)
  room_on (Some true) (Some full) flow = do
    room ← checked passes Difference full flow
    Ok (Some room)
  room_on (Some false) full flow = Ok (Some flow)
  room_on turn full flow = Ok None

  abbrev pub room_at : List (ℕ × Bool) → List (Option ℚ) → ℕ × ℚ → Checked (Option ℚ)
  room_at steps fulls (e, flow) = room_on (turn_of steps e) (unwrap_or (slice_get fulls e) None) flow

  -- ---- the flow of each link after a change
  abbrev pub change_on : Option Bool → ℚ → ℚ → Checked ℚ
  change_on None amount flow = Ok flow
  change_on (Some true) amount flow = checked passes Sum flow amount
  change_on (Some false) amount flow = checked passes Difference flow amount

  abbrev pub change_at : List (ℕ × Bool) → ℚ → ℕ × ℚ → Checked ℚ
  change_at steps amount (e, flow) = change_on (turn_of steps e) amount flow

  unfoldable pub cancel_list : List (ℕ × Bool) → List (Option ℚ) → List ℚ → Checked (List ℚ)
  cancel_list steps fulls flows = do
    rooms ← each (room_at steps fulls) (enumerate_from 0 flows)
    each (change_at steps (unwrap_or (least_room rooms) 0ℚ)) (enumerate_from 0 flows)

  -- ---- the flows after all cycles are cancelled, or the first operation that passes
  module _ (net : Network) (sets : Sets) (slopes : List ℚ) (fulls : List (Option ℚ)) where
    pub data Cancels : List ℚ → Checked (List ℚ) → Type 0 where
      no_cycle : {flows : List ℚ} → IsForest (hops net) (IsInterior net sets slopes flows) → Cancels flows (Ok flows)
      cancels : {flows new : List ℚ} {result : Checked (List ℚ)} (steps : List (ℕ × Bool)) → IsNextCycle net sets slopes flows steps
          → cancel_list steps fulls flows ≡ Ok new
          → Cancels new result → Cancels flows result
      passes_at : {flows : List ℚ} {p : Passed ℚ} (steps : List (ℕ × Bool)) → IsNextCycle net sets slopes flows steps
          → cancel_list steps fulls flows ≡ Err p → Cancels flows (Err p)

  -- the flows that fill the links are computed first, then the cycles are cancelled
  pub data Settles (net : Network) (sets : Sets) (slopes flows : List ℚ) : Checked (List ℚ) → Type 0 where
    settles : (fulls : List (Option ℚ)) (result : Checked (List ℚ)) → fulls_list net sets slopes ≡ Ok fulls
        → Cancels net sets slopes fulls flows result → Settles net sets slopes flows result
    stops : (p : Passed ℚ) → fulls_list net sets slopes ≡ Err p → Settles net sets slopes flows (Err p)
