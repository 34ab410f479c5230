-- Bellman-Ford rounds (after Bellman 1958 and Ford 1956). In each round every residual step from a node with a known path offers an
-- extended path to its end. If no closed residual walk has negative length, one round fewer than there are nodes finds the best paths.
use Rattle.std.specs.Prelude.{ℕ, zero, suc, ◌-◌, Bool, true, false, if◌then◌else◌, List, [], ◌∷◌, ◌++◌, Option, Some, None, slice_get, unwrap_or, option_map, map, replicate, set, Ok}
use Rattle.nf_rational.specs.Rational.{ℚ}
use Rattle.nf_rational.specs.Operations.{0ℚ}
use Rattle.nf_rational.specs.Order.{min_ℚ}
use Rattle.nf_frac_def.specs.declared.Op.{Op}
use Rattle.nf_frac_def.specs.declared.Op.TheVariants.{Sum, Difference}
use Rattle.nf_frac_def.specs.Passing.{Passing}
use Rattle.nf_frac_def.specs.Checked.{Checked, checked, fold_checked, ◌>>=◌}
use Rattle.nf_model.specs.Entries.{number_at}
use Rattle.nf_model.specs.Network.{Link, Network}
use Rattle.nf_quick_def.specs.Steps.{Step, begin_of, end_of, can_go}
use Rattle.nf_quick_def.specs.Order.{Reach, is_better}

-- The forward and backward steps of the links in order, each with its link; e is the number of the first link.
abbrev pub steps_from : ℕ → List Link → List (Step × Link)
steps_from e [] = []
steps_from e (link ∷ links) = (record { link = e; forward = true }, link) ∷ (record { link = e; forward = false }, link)
    ∷ steps_from (suc e) links

-- For each node the best path to it known so far.
abbrev pub Known : Type 0
Known = List (Option Reach)

abbrev pub known_at : Known → ℕ → Option Reach
known_at known v = unwrap_or (slice_get known v) None

-- Only the path of no step from node `from` to itself.
abbrev pub first_known : ℕ → ℕ → Known
first_known nodes from = set (replicate nodes None) from (Some (record { distance = 0ℚ; steps = [] }))

-- The better of the known path and another one.
abbrev pub better_of : Option Reach → Reach → Reach
better_of None reach = reach
better_of (Some known) reach = if is_better reach known then reach else known

abbrev pub offered : Known → ℕ → Reach → Known
offered known v reach = set known v (Some (better_of (known_at known v) reach))

-- The operation that adds a step to the length of a walk: a sum for a forward step, a difference for a backward one.
abbrev pub op_of : Bool → Op
op_of true = Sum
op_of false = Difference

module _ (passes : Passing) where
  -- The table after a step with residual capacity, from a node with a known path, offers its extended path.
  abbrev pub along : Bool → Option Reach → Step → ℚ → ℕ → Known → Checked Known
  along true (Some before) step transit end so_far = do
    distance ← checked passes (op_of step.forward) before.distance transit
    Ok (offered so_far end (record { distance = distance; steps = before.steps ++ step ∷ [] }))
  along goes before step transit end so_far = Ok so_far

  abbrev pub along_step : List ℚ → Known → Known → Step × Link → Checked Known
  along_step flows before so_far (step, link) =
      along (can_go step.forward link.capacity (number_at flows step.link)) (known_at before (begin_of step.forward link)) step link.transit
      (end_of step.forward link) so_far

  unfoldable pub round_list : List Link → List ℚ → Known → Checked Known
  round_list links flows before = fold_checked (along_step flows before) before (steps_from 0 links)

  abbrev pub rounds_list : ℕ → List Link → List ℚ → Known → Checked Known
  rounds_list zero links flows known = Ok known
  rounds_list (suc left) links flows known = do
    next ← round_list links flows known
    rounds_list left links flows next

  -- The best residual paths from a node.
  unfoldable pub reaches_list : Network → List ℚ → ℕ → Checked Known
  reaches_list net flows from = rounds_list (net.nodes - 1) net.links flows (first_known net.nodes from)

  -- The lengths of the best residual paths.
  unfoldable pub distances_list : Network → List ℚ → ℕ → Checked (List (Option ℚ))
  distances_list net flows from = do
    known ← reaches_list net flows from
    Ok (map (option_map (λ reach. reach.distance)) known)

-- ---- a first shortest walk from source to sink, with its room

-- A residual walk, its length, and the least residual capacity of its steps.
pub record Walk : Type 0 where
  pub steps : List Step
  pub length : ℚ
  pub room : ℚ

-- The lesser of the room so far, if there is one, and another room.
abbrev pub lesser : Option ℚ → ℚ → ℚ
lesser None room = room
lesser (Some least) room = min_ℚ least room

abbrev pub capacity_of : Network → ℕ → Option ℚ
capacity_of net e = unwrap_or (option_map (λ link. link.capacity) (slice_get net.links e)) None

module _ (passes : Passing) where
  -- A backward step has the link's flow as room, a forward step the capacity minus the flow. An unbounded link doesn't limit a forward
  -- step.
  abbrev pub room_along : Bool → Option ℚ → ℚ → Option ℚ → Checked (Option ℚ)
  room_along true None flow least = Ok least
  room_along true (Some capacity) flow least = do
    left ← checked passes Difference capacity flow
    Ok (Some (lesser least left))
  room_along false capacity flow least = Ok (Some (lesser least flow))

  abbrev pub room_after : Network → List ℚ → Option ℚ → Step → Checked (Option ℚ)
  room_after net flows least step = room_along step.forward (capacity_of net step.link) (number_at flows step.link) least

  abbrev pub with_room : Network → List ℚ → Option Reach → Checked (Option Walk)
  with_room net flows None = Ok None
  with_room net flows (Some reach) = do
    room ← fold_checked (room_after net flows) None reach.steps
    Ok (Some (record { steps = reach.steps; length = reach.distance; room = unwrap_or room 0ℚ }))

  unfoldable pub shortest_list : Network → List ℚ → Checked (Option Walk)
  shortest_list net flows = do
    known ← reaches_list passes net flows net.source
    with_room net flows (known_at known net.sink)
