-- Round by round: after k rounds the known path of each node is a residual walk, and is at most each walk of at most k steps.
use Rattle.std.proofs.Common.{◌≡◌, ◌≢◌, ℕ, zero, suc, ◌+◌, ◌<◌, ◌≤◌, List, [], ◌∷◌, ◌++◌, length, ◌⊎◌, inl, inr, ⊎_elim, Bool, true, false, eqb, Option}
use Rattle.std.proofs.Common.{Some, None, slice_get, Ok, replicate, sym, ap, subst, refl, ◌∙◌, arith, length-append}
use Rattle.nf_quick_laws.proofs.Common.{eqb_tells, length-set, length-replicate, ℚ, 0ℚ, ◌+ℚ◌, reading_of, eq, linear_eq, Passing, result_of, number_at}
use Rattle.nf_quick_laws.proofs.Common.{Link, Network, IsLink, IsNetwork, transit_of-is, Step, begin_of, end_of, directed, can_go, Leads, IsResidualWalk}
use Rattle.nf_quick_laws.proofs.Common.{step_length, walk_length, Reach, IsAtMost, reach_of, same_Some, same_Ok, Known, known_at, op_of, steps_from}
use Rattle.nf_quick_laws.proofs.Common.{rounds_list, first_known}
use Rattle.nf_quick_def.specs.Rounds.{round_list}
use Rattle.nf_quick_laws.proofs.ResidualWalks.{IsResidualWalk-append, IsResidualWalk-one, walk_length-append}
use Rattle.nf_quick_laws.proofs.Apart.{IsResidualWalk-split, sum_last}
use Rattle.nf_quick_laws.proofs.Orders.{IsAtMost-refl, IsAtMost-trans, IsAtMost-more}
use Rattle.nf_quick_laws.proofs.Offers.{AtMostAt, extended, IsIn, AllDone, fold-done, bind-ok, known_at-set, known_at-else}

-- ---- the steps of a list of links
plus_none : (k : ℕ) → k ≡ k + 0
plus_none k = omega arith

one_on : (k e : ℕ) → suc k + e ≡ k + suc e
one_on k e = omega arith

pub steps-in : (k : ℕ) (links : List Link) (step : Step) (link : Link) → IsIn (step, link) (steps_from k links) → (e : ℕ) × (slice_get links e ≡ Some link) × (step.link ≡ k + e)
steps-in k [] step link i = absurd i
steps-in k (l ∷ links) step link (inl p) = (0, ap (λ (d : Step × Link). Some d.1) p, sym (ap (λ (d : Step × Link). d.0.link) p) ∙ plus_none k)
steps-in k (l ∷ links) step link (inr (inl p)) = (0, ap (λ (d : Step × Link). Some d.1) p, sym (ap (λ (d : Step × Link). d.0.link) p) ∙ plus_none k)
steps-in k (l ∷ links) step link (inr (inr i)) =
    let r : (e : ℕ) × (slice_get links e ≡ Some link) × (step.link ≡ suc k + e) = steps-in (suc k) links step link i in
    (suc r.0, r.1, r.2 ∙ one_on k r.0)

at_number : (m n : ℕ) (d : Bool) → m ≡ n → ◌≡◌ {A = Step} (record { link = m; forward = d }) (record { link = n; forward = d })
at_number m n d e = ap (λ (k : ℕ). record { link = k; forward = d }) e

same_pair : (a b : Step) (k l : Link) → a ≡ b → k ≡ l → ◌≡◌ {A = Step × Link} (a, k) (b, l)
same_pair a b k l e f = λ i. (e i, f i)

pub in-steps : (k : ℕ) (links : List Link) (e : ℕ) (link : Link) (d : Bool) → slice_get links e ≡ Some link → IsIn (record { link = k + e; forward = d }, link) (steps_from k links)
in-steps k [] e link d p = absurd (cc)
in-steps k (l ∷ links) zero link true p = inl (same_pair _ _ l link (at_number k (k + 0) true (omega arith)) (same_Some l link p))
in-steps k (l ∷ links) zero link false p = inr (inl (same_pair _ _ l link (at_number k (k + 0) false (omega arith)) (same_Some l link p)))
in-steps k (l ∷ links) (suc e) link d p =
    inr (inr (subst (λ (n : ℕ). IsIn (record { link = n; forward = d }, link) (steps_from (suc k) links)) (one_on k e) (in-steps (suc k) links e link d p)))

-- ---- one round
abbrev pub longer : Network → Reach → Step → Reach
longer net b step = record { distance = b.distance +ℚ step_length net step; steps = b.steps ++ step ∷ [] }

by_sign : (d : Bool) (x r : ℚ) → result_of (op_of d) x r ≡ x +ℚ directed d r
by_sign true x r = refl
by_sign false x r = linear_eq (x ∷ r ∷ []) [] (search reading_of) tt tt

pub extended-is : (net : Network) (b : Reach) (step : Step) (link : Link) → IsLink net step.link link → extended b step link ≡ longer net b step
extended-is net b step link p = ap (λ (z : ℚ). record { distance = z; steps = b.steps ++ step ∷ [] })
    (by_sign step.forward b.distance link.transit ∙ ap (λ (r : ℚ). b.distance +ℚ directed step.forward r) (sym (transit_of-is net step.link link p)))

pub record IsRound (net : Network) (flows : List ℚ) (before next : Known) : Type 0 where
  pub count : length next ≡ length before
  pub kept : (u : ℕ) (s : Reach) → AtMostAt before u s → AtMostAt next u s
  pub offers : (step : Step) (v w : ℕ) (b : Reach) → Leads net flows step v w → known_at before v ≡ Some b → AtMostAt next w (longer net b step)
  pub from : (u : ℕ) (q : Reach) → known_at next u ≡ Some q → (known_at before u ≡ Some q) ⊎ ((step : Step) × (v : ℕ) × (b : Reach) × Leads net flows step v u
      × (known_at before v ≡ Some b) × (q ≡ longer net b step))

ends_below : (d : Bool) (link : Link) (n : ℕ) → link.tail < n → link.head < n → end_of d link < n
ends_below true link n h k = k
ends_below false link n h k = h

module _ (net : Network) (flows : List ℚ) (good : IsNetwork net) where
  link_in : (step : Step) (link : Link) → IsIn (step, link) (steps_from 0 net.links) → IsLink net step.link link
  link_in step link i =
      let r : (e : ℕ) × (slice_get net.links e ≡ Some link) × (step.link ≡ 0 + e) = steps-in 0 net.links step link i in
      subst (λ (k : ℕ). IsLink net k link) (from_none r.0 step.link r.2) r.1
    where
      from_none : (e k : ℕ) → k ≡ 0 + e → e ≡ k
      from_none e k h = omega arith

  in_links : (step : Step) (link : Link) → IsLink net step.link link → IsIn (step, link) (steps_from 0 net.links)
  in_links step link p =
      subst (λ (k : ℕ). IsIn (record { link = k; forward = step.forward }, link) (steps_from 0 net.links)) (none_plus step.link)
      (in-steps 0 net.links step.link link step.forward p)
    where
      none_plus : (k : ℕ) → 0 + k ≡ k
      none_plus k = omega arith

  pub IsRound-list : (passes : Passing) (before next : Known) → length before ≡ net.nodes → round_list passes net.links flows before ≡ Ok next → IsRound net flows before next
  unfolding round_list
  IsRound-list passes before next n e =
      let all : AllDone passes flows before (steps_from 0 net.links) before next = fold-done passes flows before (steps_from 0 net.links) net.nodes before next n
      (λ step link i. ends_below step.forward link net.nodes (good.tails step.link link (link_in step link i)) (good.heads step.link link (link_in step link i))) e in
      record {
        count = all.count;
        kept = all.kept;
        offers = λ step v w b l p. subst (λ (r : Reach). AtMostAt next w r) (extended-is net b step l.link l.is_link)
            (subst (λ (k : ℕ). AtMostAt next k (extended b step l.link)) l.ends
            (all.offers step l.link b (in_links step l.link l.is_link) l.goes (ap (λ (k : ℕ). known_at before k) l.begins ∙ p)));
        from = λ u q p. ⊎_elim
            (λ (old : known_at before u ≡ Some q). inl old)
            (λ (new : (step : Step) × (link : Link) × (b : Reach) × IsIn (step, link) (steps_from 0 net.links) × (can_go step.forward link.capacity (number_at flows step.link) ≡ true)
            × (known_at before (begin_of step.forward link) ≡ Some b) × (u ≡ end_of step.forward link) × (q ≡ extended b step link)).
            inr (
              new.0,
              begin_of new.0.forward new.1,
              new.2,
              record { link = new.1; is_link = link_in new.0 new.1 new.3; begins = refl; ends = sym new.6; goes = new.4 },
              new.5,
              new.7 ∙ extended-is net new.2 new.0 new.1 (link_in new.0 new.1 new.3),
            ))
            (all.from u q p);
      }

-- ---- all rounds
pub record HasBest (net : Network) (flows : List ℚ) (from k : ℕ) (known : Known) : Type 0 where
  pub count : length known ≡ net.nodes
  pub valid : (v : ℕ) (q : Reach) → known_at known v ≡ Some q → IsResidualWalk net flows q.steps from v × (q.distance ≡ walk_length net q.steps)
  pub best : (walk : List Step) (v : ℕ) → IsResidualWalk net flows walk from v → length walk ≤ k → AtMostAt known v (reach_of net walk)

-- the last step of a walk
pub record EndsWith (walk : List Step) : Type 0 where
  pub front : List Step
  pub step : Step
  pub split : walk ≡ front ++ step ∷ []

pub last_step : (walk : List Step) → (walk ≡ []) ⊎ EndsWith walk
last_step [] = inl refl
last_step (step ∷ walk) = ⊎_elim
    (λ (e : walk ≡ []). inr (record { front = []; step = step; split = ap (λ (w : List Step). step ∷ w) e }))
    (λ (w : EndsWith walk). inr (record { front = step ∷ w.front; step = w.step; split = ap (λ (x : List Step). step ∷ x) w.split }))
    (last_step walk)

known_at-none : (n v : ℕ) (q : Reach) → known_at (replicate n None) v ≡ Some q → ⊥
known_at-none zero v q e = absurd (cc)
known_at-none (suc n) zero q e = absurd (cc)
known_at-none (suc n) (suc v) q e = known_at-none n v q e

pub last_sum : (x y l s : ℚ) → x ≡ y → s ≡ y +ℚ (l +ℚ 0ℚ) → x +ℚ l ≡ s
last_sum x y l s e f = linear_eq (x ∷ y ∷ l ∷ s ∷ []) (eq e ∷ eq f ∷ []) (search reading_of) tt tt

module _ (net : Network) (flows : List ℚ) (from : ℕ) (good : IsNetwork net) (inside : from < net.nodes) where
  pub HasBest-first : HasBest net flows from 0 (first_known net.nodes from)
  HasBest-first = record {
    count = length-set (replicate net.nodes None) from _ ∙ length-replicate net.nodes None;
    valid = λ v q p. ⊎_elim
        (λ (w : (eqb from v ≡ true) × (from ≡ v)). here v q w.1 p)
        (λ (w : (eqb from v ≡ false) × (from ≢ v)). absurd (known_at-none net.nodes v q (sym (known_at-else (replicate net.nodes None) from v _ w.1) ∙ p)))
        (eqb_tells from v);
    best = λ walk v p h. at_start walk v p h;
  }
    where
      start : Reach
      start = record { distance = 0ℚ; steps = [] }

      below : from < length (replicate net.nodes (let none : Option Reach = None in none))
      below = subst (λ (k : ℕ). from < k) (sym (length-replicate net.nodes None)) inside

      at_from : known_at (first_known net.nodes from) from ≡ Some (record { distance = 0ℚ; steps = [] })
      at_from = known_at-set (replicate net.nodes None) from (Some (record { distance = 0ℚ; steps = [] })) below

      here : (v : ℕ) (q : Reach) → from ≡ v → known_at (first_known net.nodes from) v ≡ Some q → IsResidualWalk net flows q.steps from v × (q.distance ≡ walk_length net q.steps)
      here v q e p = subst (λ (r : Reach). IsResidualWalk net flows r.steps from v × (r.distance ≡ walk_length net r.steps))
          (same_Some _ q (sym at_from ∙ ap (λ (k : ℕ). known_at (first_known net.nodes from) k) e ∙ p)) (e, refl)

      at_start : (walk : List Step) (v : ℕ) → IsResidualWalk net flows walk from v → length walk ≤ 0 → AtMostAt (first_known net.nodes from) v (reach_of net walk)
      at_start [] v p h = subst (λ (k : ℕ). AtMostAt (first_known net.nodes from) k (reach_of net [])) p
          (record { distance = 0ℚ; steps = [] }, at_from, IsAtMost-refl (record { distance = 0ℚ; steps = [] }))
      at_start (step ∷ walk) v p h = absurd (omega arith)

  pub HasBest-round : (k : ℕ) (before next : Known) → HasBest net flows from k before → IsRound net flows before next → HasBest net flows from (suc k) next
  HasBest-round k before next b r = record {
    count = r.count ∙ b.count;
    valid = λ v q p. ⊎_elim
        (λ (old : known_at before v ≡ Some q). b.valid v q old)
        (λ (new : (step : Step) × (u : ℕ) × (a : Reach) × Leads net flows step u v × (known_at before u ≡ Some a) × (q ≡ longer net a step)).
        subst (λ (x : Reach). IsResidualWalk net flows x.steps from v × (x.distance ≡ walk_length net x.steps)) (sym new.5)
        (longer_valid new.0 new.1 v new.2 new.3 (b.valid new.1 new.2 new.4)))
        (r.from v q p);
    best = λ walk v p h. by_last walk v p h (last_step walk);
  }
    where
      longer_valid : (step : Step) (u v : ℕ) (a : Reach) → Leads net flows step u v → IsResidualWalk net flows a.steps from u × (a.distance ≡ walk_length net a.steps)
          → IsResidualWalk net flows (a.steps ++ step ∷ []) from v × (a.distance +ℚ step_length net step ≡ walk_length net (a.steps ++ step ∷ []))
      longer_valid step u v a l w = (
        IsResidualWalk-append net flows a.steps (step ∷ []) from u v w.0 (IsResidualWalk-one net flows step u v l),
        last_sum a.distance (walk_length net a.steps) (step_length net step) _ w.1 (walk_length-append net a.steps (step ∷ [])),
      )

      shorter : (front : List Step) (step : Step) → length (front ++ step ∷ []) ≤ suc k → length front ≤ k
      shorter front step h = let e : length (front ++ step ∷ []) ≡ length front + 1 = length-append front (step ∷ []) in omega arith

      by_last : (walk : List Step) (v : ℕ) → IsResidualWalk net flows walk from v → length walk ≤ suc k → (walk ≡ []) ⊎ EndsWith walk → AtMostAt next v (reach_of net walk)
      by_last walk v p h (inl e) = r.kept v (reach_of net walk) (b.best walk v p (few walk e))
        where
          few : (walk : List Step) → walk ≡ [] → length walk ≤ k
          few walk e = let f : length walk ≡ 0 = ap (λ (w : List Step). length w) e in omega arith
      by_last walk v p h (inr w) =
          let s : (x : ℕ) × IsResidualWalk net flows w.front from x × IsResidualWalk net flows (w.step ∷ []) x v =
          IsResidualWalk-split net flows w.front (w.step ∷ []) from v (subst (λ (y : List Step). IsResidualWalk net flows y from v) w.split p) in
          let a : AtMostAt before s.0 (reach_of net w.front) = b.best w.front s.0 s.1 (shorter w.front w.step (subst (λ (y : List Step). length y ≤ suc k) w.split h)) in
          let o : AtMostAt next v (longer net a.0 w.step) = r.offers w.step s.0 v a.0 (subst (λ (y : ℕ). Leads net flows w.step s.0 y) s.2.2 s.2.1) a.1 in (
            o.0,
            o.1,
            IsAtMost-trans _ _ _ o.2 (subst (λ (y : List Step). IsAtMost (longer net a.0 w.step) (reach_of net y)) (sym w.split)
                (IsAtMost-more a.0 (reach_of net w.front) w.step (step_length net w.step) _ _ refl (sum_last _ _ _ (walk_length-append net w.front (w.step ∷ []))) a.2)),
          )

  pub HasBest-rounds : (passes : Passing) (left k : ℕ) (before next : Known) → HasBest net flows from k before
      → rounds_list passes left net.links flows before ≡ Ok next → HasBest net flows from (left + k) next
  HasBest-rounds passes zero k before next b e =
      subst (λ (n : ℕ). HasBest net flows from n next) (none_plus k) (subst (λ (x : Known). HasBest net flows from k x) (same_Ok before next e) b)
    where
      none_plus : (k : ℕ) → k ≡ 0 + k
      none_plus k = omega arith
  HasBest-rounds passes (suc left) k before next b e =
      let w : (mid : Known) × (round_list passes net.links flows before ≡ Ok mid) × (rounds_list passes left net.links flows mid ≡ Ok next) =
      bind-ok (round_list passes net.links flows before) (λ mid. rounds_list passes left net.links flows mid) next e in
      subst (λ (n : ℕ). HasBest net flows from n next) (one_on left k)
      (HasBest-rounds passes left (suc k) w.0 next (HasBest-round k before w.0 b (IsRound-list net flows good passes before w.0 b.count w.1)) w.2)
    where
      one_on : (left k : ℕ) → left + suc k ≡ suc left + k
      one_on left k = omega arith
