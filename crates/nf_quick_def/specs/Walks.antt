-- The decomposition of a static flow into walks. Each walk starts at the source and follows, from each node, the first link with flow left.
-- Its rate is the least flow on its links.
use Rattle.std.specs.Prelude.{ℕ, zero, suc, ◌==◌, ◌&&◌, if◌then◌else◌, List, [], ◌∷◌, Option, Some, None, slice_get, unwrap_or, option_map, set, Ok}
use Rattle.nf_rational.specs.Rational.{ℚ}
use Rattle.nf_rational.specs.Operations.{0ℚ}
use Rattle.nf_rational.specs.Order.{lt_ℚ}
use Rattle.nf_frac_def.specs.declared.Op.TheVariants.{Difference}
use Rattle.nf_frac_def.specs.Passing.{Passing}
use Rattle.nf_frac_def.specs.Checked.{Checked, checked, fold_checked, ◌>>=◌}
use Rattle.nf_model.specs.Entries.{number_at}
use Rattle.nf_model.specs.Network.{Link, Network}
use Rattle.nf_model.specs.Quickest.{Fed}
use Rattle.nf_quick_def.specs.Rounds.{lesser}

-- The first link out of v with flow left, if there is one; e is the number of the first link of the list.
abbrev pub first_out : ℕ → List Link → ℕ → List ℚ → Option ℕ
first_out e [] v flows = None
first_out e (link ∷ links) v flows = if (link.tail == v) && lt_ℚ 0ℚ (number_at flows e) then Some e else first_out (suc e) links v flows

abbrev pub head_of : Network → ℕ → ℕ
head_of net e = unwrap_or (option_map (λ link. link.head) (slice_get net.links e)) 0

-- The walk from node v on, of at most `left` links.
abbrev pub way_from : ℕ → Network → List ℚ → ℕ → List ℕ
way_from zero net flows v = []
way_from (suc left) net flows v = unwrap_or
    (option_map (λ e. e ∷ way_from left net flows (head_of net e)) (first_out 0 net.links v flows)) []

abbrev pub way_out : Network → List ℚ → List ℕ
way_out net flows = way_from net.nodes net flows net.source

-- The least flow along links.
abbrev pub least_along : List ℚ → Option ℚ → List ℕ → ℚ
least_along flows least [] = unwrap_or least 0ℚ
least_along flows least (e ∷ walk) = least_along flows (Some (lesser least (number_at flows e))) walk

module _ (passes : Passing) where
  abbrev pub take_link : ℚ → List ℚ → ℕ → Checked (List ℚ)
  take_link rate flows e = do
    left ← checked passes Difference (number_at flows e) rate
    Ok (set flows e left)

  abbrev pub take_list : ℚ → List ℕ → List ℚ → Checked (List ℚ)
  take_list rate walk flows = fold_checked (take_link rate) flows walk

  -- One walk, if there is one, and then the walks of the remaining flow.
  abbrev pub walk_and : (List ℚ → Checked (List Fed)) → List ℕ → List ℚ → Checked (List Fed)
  walk_and later [] flows = Ok []
  walk_and later (e ∷ walk) flows = do
    next ← take_list (least_along flows None (e ∷ walk)) (e ∷ walk) flows
    rest ← later next
    Ok (record { rate = least_along flows None (e ∷ walk); walk = e ∷ walk } ∷ rest)

  -- Walks are removed until no flow leaves the source. Each removes the whole flow of at least one link, so there are at most as many walks
  -- as links.
  abbrev pub walks_off : ℕ → Network → List ℚ → Checked (List Fed)
  walks_off zero net flows = Ok []
  walks_off (suc left) net flows = walk_and (λ next. walks_off left net next) (way_out net flows) flows
