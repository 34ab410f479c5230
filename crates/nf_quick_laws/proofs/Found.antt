-- The result of all rounds: the first of all residual walks to each node to which one leads. Exact operations never exceed a bound, so such
-- a walk and a least length exist.
use Rattle.std.proofs.Common.{◌≡◌, ℕ, zero, suc, ◌+◌, ◌-◌, ◌<◌, ◌≤◌, List, [], ◌∷◌, ◌++◌, length, ◌⊎◌, inl, inr, Bool, true, false, Option, Some, None, Ok}
use Rattle.std.proofs.Common.{sym, ap, subst, refl, ◌∙◌, arith}
use Rattle.nf_quick_laws.proofs.Common.{ℚ, Passing, number_at, Link, Network, IsNetwork, Step, begin_of, end_of, can_go, IsResidualWalk, walk_length, Reach}
use Rattle.nf_quick_laws.proofs.Common.{IsAtMost, IsLeastLength, IsFirstWalk, reach_of, EachHasLeast, NoneNegative, IsFoundAt, same_Some, none-some}
use Rattle.nf_quick_laws.proofs.Common.{Checked, fold_checked, ◌>>=◌, never, checked-never, Known, known_at, op_of, offered, along, along_step, steps_from}
use Rattle.nf_quick_laws.proofs.Common.{rounds_list, first_known}
use Rattle.nf_quick_def.specs.Rounds.{round_list, reaches_list}
use Rattle.nf_quick_laws.proofs.Apart.{IsAtMost-length}
use Rattle.nf_quick_laws.proofs.Orders.{IsAtMost-trans}
use Rattle.nf_quick_laws.proofs.Offers.{AtMostAt}
use Rattle.nf_quick_laws.proofs.Finding.{HasBest, HasBest-first, HasBest-rounds}
use Rattle.nf_quick_laws.proofs.Cutting.{IsCutTo, cut, IsCutTo-at_most}

module _ (net : Network) (flows : List ℚ) (from : ℕ) (good : IsNetwork net) (inside : from < net.nodes) (closed : NoneNegative net flows) where
  -- The shortened walk to v, or a better one, is known.
  best_at : (k : ℕ) (known : Known) → HasBest net flows from k known → net.nodes ≤ suc k → (walk : List Step) (v : ℕ) → IsResidualWalk net flows walk from v
      → AtMostAt known v (reach_of net walk)
  best_at k known b enough walk v p =
      let c : (short : List Step) × IsCutTo net flows from v good walk short = cut net flows from v good closed inside walk p in
      let few : length c.0 < net.nodes = c.1.few in
      let a : AtMostAt known v (reach_of net c.0) = b.best c.0 v c.1.is_walk (omega arith) in
      (a.0, a.1, IsAtMost-trans _ _ _ a.2 (IsCutTo-at_most net flows from v good closed inside walk c.0 c.1))

  reach_is : (q : Reach) → q.distance ≡ walk_length net q.steps → q ≡ reach_of net q.steps
  reach_is q e = ap (λ (d : ℚ). record { distance = d; steps = q.steps }) e

  found_at : (k : ℕ) (known : Known) → HasBest net flows from k known → net.nodes ≤ suc k → (v : ℕ) (o : Option Reach) → known_at known v ≡ o → IsFoundAt net flows from v o
  found_at k known b enough v None e = λ walk p. let a : AtMostAt known v (reach_of net walk) = best_at k known b enough walk v p in none-some a.0 (sym e ∙ a.1)
  found_at k known b enough v (Some q) e = (
    record {
      is_walk = (b.valid v q e).0;
      first = λ other p. let a : AtMostAt known v (reach_of net other) = best_at k known b enough other v p in
          subst (λ (r : Reach). IsAtMost r (reach_of net other)) (same_Some a.0 q (sym a.1 ∙ e) ∙ reach_is q (b.valid v q e).1) a.2;
    },
    (b.valid v q e).1,
  )

  pub IsFoundAt-list : (passes : Passing) (known : Known) → reaches_list passes net flows from ≡ Ok known → (v : ℕ) → IsFoundAt net flows from v (known_at known v)
  unfolding reaches_list
  IsFoundAt-list passes known e v =
      let b : HasBest net flows from (net.nodes - 1 + 0) known = HasBest-rounds net flows from good inside passes (net.nodes - 1) 0
      (first_known net.nodes from) known (HasBest-first net flows from good inside) e in
      found_at (net.nodes - 1 + 0) known b (omega arith) v (known_at known v) refl

  pub reaches-count : (passes : Passing) (known : Known) → reaches_list passes net flows from ≡ Ok known → length known ≡ net.nodes
  unfolding reaches_list
  reaches-count passes known e =
      (HasBest-rounds net flows from good inside passes (net.nodes - 1) 0 (first_known net.nodes from) known
      (HasBest-first net flows from good inside) e).count

-- ---- exactly, where no operation passes
abbrev pub Succeeds : {A : Type 0} → Checked A → Type 0
Succeeds {A} w = (a : A) × (w ≡ Ok a)

along-given : (goes : Bool) (before : Option Reach) (step : Step) (transit : ℚ) (end : ℕ) (so_far : Known) → Succeeds (along never goes before step transit end so_far)
along-given true (Some b) step transit end so_far = (
  _,
  ap (λ (w : Checked ℚ). ◌>>=◌ w (λ z. Ok (offered so_far end (record { distance = z; steps = b.steps ++ step ∷ [] }))))
      (checked-never (op_of step.forward) b.distance transit),
)
along-given true None step transit end so_far = (so_far, refl)
along-given false before step transit end so_far = (so_far, refl)

fold-given : (flows : List ℚ) (before so_far : Known) (items : List (Step × Link)) → Succeeds (fold_checked (along_step never flows before) so_far items)
fold-given flows before so_far [] = (so_far, refl)
fold-given flows before so_far ((step, link) ∷ items) =
    let one : Succeeds (along_step never flows before so_far (step, link)) =
    along-given (can_go step.forward link.capacity (number_at flows step.link)) (known_at before (begin_of step.forward link)) step link.transit (end_of step.forward link) so_far in
    let more : Succeeds (fold_checked (along_step never flows before) one.0 items) = fold-given flows before one.0 items in
    (more.0, ap (λ (w : Checked Known). ◌>>=◌ w (λ mid. fold_checked (along_step never flows before) mid items)) one.1 ∙ more.1)

round-given : (links : List Link) (flows : List ℚ) (before : Known) → Succeeds (round_list never links flows before)
unfolding round_list
round-given links flows before = fold-given flows before before (steps_from 0 links)

rounds-given : (left : ℕ) (links : List Link) (flows : List ℚ) (before : Known) → Succeeds (rounds_list never left links flows before)
rounds-given zero links flows before = (before, refl)
rounds-given (suc left) links flows before =
    let one : Succeeds (round_list never links flows before) = round-given links flows before in
    let more : Succeeds (rounds_list never left links flows one.0) = rounds-given left links flows one.0 in
    (more.0, ap (λ (w : Checked Known). ◌>>=◌ w (λ mid. rounds_list never left links flows mid)) one.1 ∙ more.1)

reaches-given : (net : Network) (flows : List ℚ) (from : ℕ) → Succeeds (reaches_list never net flows from)
unfolding reaches_list
reaches-given net flows from = rounds-given (net.nodes - 1) net.links flows (first_known net.nodes from)

pub IsLeastLength-first : (net : Network) (flows : List ℚ) (v w : ℕ) (walk : List Step) → IsFirstWalk net flows v w walk → IsLeastLength net flows v w (walk_length net walk)
IsLeastLength-first net flows v w walk f = record { taken = (walk, f.is_walk, refl); bound = λ other p. IsAtMost-length net walk other (f.first other p) }

pub EachHasLeast-sound : (net : Network) (flows : List ℚ) (from : ℕ) → IsNetwork net → from < net.nodes → NoneNegative net flows → EachHasLeast net flows from
EachHasLeast-sound net flows from good inside closed w =
    let all : Succeeds (reaches_list never net flows from) = reaches-given net flows from in
    by_known (known_at all.0 w) (IsFoundAt-list net flows from good inside closed never all.0 all.1 w)
  where
    by_known : (o : Option Reach) → IsFoundAt net flows from w o → ((least : ℚ) × IsLeastLength net flows from w least) ⊎ ((walk : List Step) → IsResidualWalk net flows walk from w → ⊥)
    by_known None f = inr f
    by_known (Some q) f = inl (walk_length net q.steps, IsLeastLength-first net flows from w q.steps f.0)
