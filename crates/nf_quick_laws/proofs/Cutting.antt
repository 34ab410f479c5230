-- If no closed residual walk has negative length, each residual walk can be shortened to one with fewer steps than there are nodes, which
-- is no longer.
use Rattle.std.proofs.Common.{◌≡◌, ◌≢◌, ℕ, zero, suc, ◌+◌, ◌<◌, ◌≤◌, List, [], ◌∷◌, ◌++◌, length, ◌⊎◌, inl, inr, ⊎_elim, Bool, true, false, eqb, sym, ap}
use Rattle.std.proofs.Common.{subst, refl, ◌∙◌, append_assoc, arith, length-append}
use Rattle.nf_quick_laws.proofs.Common.{IsDistinct, list_any, eqb_tells, append-nil, ℚ, 0ℚ, ◌+ℚ◌, ◌≤ℚ◌, ◌<ℚ◌, reading_of, ≤ℚ_antisymm, lt_or_le_ℚ, le, eq}
use Rattle.nf_quick_laws.proofs.Common.{linear_le, Link, Network, IsNetwork, distinct_more, distinct_none, few_below, Step, end_of, Leads, IsResidualWalk}
use Rattle.nf_quick_laws.proofs.Common.{walk_length, IsAtMost, reach_of, ≤ℚ_refl, ≤ℚ_trans, or_rest}
use Rattle.nf_quick_laws.proofs.ResidualWalks.{IsResidualWalk-append, IsResidualWalk-one, walk_length-append}
use Rattle.nf_quick_laws.proofs.Orders.{IsAtMost-refl}

-- A closed section of a walk.
pub record HasClosed (net : Network) (flows : List ℚ) (u w : ℕ) (walk : List Step) : Type 0 where
  pub front : List Step
  pub mid : List Step
  pub rest : List Step
  pub at : ℕ
  pub some : 0 < length mid
  pub split : walk ≡ front ++ (mid ++ rest)
  pub to_it : IsResidualWalk net flows front u at
  pub round : IsResidualWalk net flows mid at at
  pub on : IsResidualWalk net flows rest at w

end_below : (net : Network) (flows : List ℚ) (good : IsNetwork net) (step : Step) (v w : ℕ) → Leads net flows step v w → w < net.nodes
end_below net flows good step v w l = subst (λ (k : ℕ). k < net.nodes) l.ends (by_way step.forward l.link (good.tails step.link l.link l.is_link) (good.heads step.link l.link l.is_link))
  where
    by_way : (d : Bool) (link : Link) → link.tail < net.nodes → link.head < net.nodes → end_of d link < net.nodes
    by_way true link h k = k
    by_way false link h k = h

module _ (net : Network) (flows : List ℚ) (u w : ℕ) (good : IsNetwork net) where
  -- A visited node: the walk to it, and the walk from it to the current node.
  pub record WasAt (done : List Step) (x q : ℕ) : Type 0 where
    pub front : List Step
    pub mid : List Step
    pub some : 0 < length mid
    pub split : done ≡ front ++ mid
    pub to_it : IsResidualWalk net flows front u q
    pub on : IsResidualWalk net flows mid q x
    pub below : q < net.nodes

  abbrev Visited : List ℕ → List Step → ℕ → Type 0
  Visited ns done x = (q : ℕ) → list_any (eqb q) ns ≡ true → WasAt done x q

  go_on : (done : List Step) (step : Step) (x y q : ℕ) → Leads net flows step x y → WasAt done x q → WasAt (done ++ step ∷ []) y q
  go_on done step x y q l a = record {
    front = a.front;
    mid = a.mid ++ step ∷ [];
    some = let e : length (a.mid ++ step ∷ []) ≡ length a.mid + 1 = length-append a.mid (step ∷ []) in omega arith;
    split = ap (λ (k : List Step). k ++ step ∷ []) a.split ∙ append_assoc a.front a.mid (step ∷ []);
    to_it = a.to_it;
    on = IsResidualWalk-append net flows a.mid (step ∷ []) q x y a.on (IsResidualWalk-one net flows step x y l);
    below = a.below;
  }

  visit : (ns : List ℕ) (done : List Step) (step : Step) (x y : ℕ) → IsResidualWalk net flows done u x → x < net.nodes → Leads net flows step x y
      → Visited ns done x → Visited (x ∷ ns) (done ++ step ∷ []) y
  visit ns done step x y p h l seen q e = ⊎_elim
      (λ (a : (eqb q x ≡ true) × (q ≡ x)). record {
        front = done;
        mid = step ∷ [];
        some = omega arith;
        split = refl;
        to_it = subst (λ (k : ℕ). IsResidualWalk net flows done u k) (sym a.1) p;
        on = subst (λ (k : ℕ). IsResidualWalk net flows (step ∷ []) k y) (sym a.1) (IsResidualWalk-one net flows step x y l);
        below = subst (λ (k : ℕ). k < net.nodes) (sym a.1) h;
      })
      (λ (a : (eqb q x ≡ false) × (q ≢ x)). go_on done step x y q l (seen q (or_rest (eqb q x) _ a.0 e)))
      (eqb_tells q x)

  closed_here : (ns : List ℕ) (done rest : List Step) (x : ℕ) → IsResidualWalk net flows rest x w → WasAt done x x → HasClosed net flows u w (done ++ rest)
  closed_here ns done rest x r a = record {
    front = a.front;
    mid = a.mid;
    rest = rest;
    at = x;
    some = a.some;
    split = ap (λ (k : List Step). k ++ rest) a.split ∙ append_assoc a.front a.mid rest;
    to_it = a.to_it;
    round = a.on;
    on = r;
  }

  -- All nodes so far and this one are distinct, and below the number of nodes.
  few : (ns : List ℕ) (done : List Step) (x : ℕ) → x < net.nodes → IsDistinct eqb ns → list_any (eqb x) ns ≡ false → length ns ≡ length done → Visited ns done x → length done < net.nodes
  few ns done x h d new n seen = let l : length ns < net.nodes = few_below ns x net.nodes h d new (λ q m. (seen q m).below) in omega arith

  -- Along the walk, with the visited nodes, each once.
  scan : (rest : List Step) (ns : List ℕ) (done : List Step) (x : ℕ) → IsResidualWalk net flows done u x → IsResidualWalk net flows rest x w → x < net.nodes → IsDistinct eqb ns
      → length ns ≡ length done → Visited ns done x → HasClosed net flows u w (done ++ rest) ⊎ (length (done ++ rest) < net.nodes)
  scan [] ns done x p r h d n seen = by_test (list_any (eqb x) ns) refl
    where
      by_test : (t : Bool) → list_any (eqb x) ns ≡ t → HasClosed net flows u w (done ++ []) ⊎ (length (done ++ []) < net.nodes)
      by_test true e = inl (closed_here ns done [] x r (seen x e))
      by_test false e = inr (subst (λ (k : List Step). length k < net.nodes) (sym (append-nil done)) (few ns done x h d e n seen))
  scan (step ∷ rest) ns done x p r h d n seen =
      scan_on (scan rest (x ∷ ns) (done ++ step ∷ []) r.0
      (IsResidualWalk-append net flows done (step ∷ []) u x r.0 p (IsResidualWalk-one net flows step x r.0 r.1)) r.2 (end_below net flows good step x r.0 r.1))
      (list_any (eqb x) ns) refl
    where
      counted : length ns ≡ length done → length (x ∷ ns) ≡ length (done ++ step ∷ [])
      counted n = let e : length (done ++ step ∷ []) ≡ length done + 1 = length-append done (step ∷ []) in omega arith

      scan_on : (IsDistinct eqb (x ∷ ns) → length (x ∷ ns) ≡ length (done ++ step ∷ []) → Visited (x ∷ ns) (done ++ step ∷ []) r.0
          → HasClosed net flows u w ((done ++ step ∷ []) ++ rest) ⊎ (length ((done ++ step ∷ []) ++ rest) < net.nodes))
          → (t : Bool) → list_any (eqb x) ns ≡ t → HasClosed net flows u w (done ++ step ∷ rest) ⊎ (length (done ++ step ∷ rest) < net.nodes)
      scan_on more true e = inl (closed_here ns done (step ∷ rest) x r (seen x e))
      scan_on more false e = subst (λ (k : List Step). HasClosed net flows u w k ⊎ (length k < net.nodes)) (append_assoc done (step ∷ []) rest)
          (more (distinct_more x ns e d) (counted n) (visit ns done step x r.0 p h r.1 seen))

  pub closed_or_few : (walk : List Step) → u < net.nodes → IsResidualWalk net flows walk u w → HasClosed net flows u w walk ⊎ (length walk < net.nodes)
  closed_or_few walk h p = scan walk [] [] u refl p h distinct_none refl (λ q e. absurd (cc))

  -- ---- the walk without the closed section, repeatedly
  -- The result is no longer, and either the same or with fewer steps.
  pub record IsCutTo (walk short : List Step) : Type 0 where
    pub is_walk : IsResidualWalk net flows short u w
    pub few : length short < net.nodes
    pub no_longer : walk_length net short ≤ℚ walk_length net walk
    pub fewer : (short ≡ walk) ⊎ (length short < length walk)

  without_less : (a b c s t : ℚ) → 0ℚ ≤ℚ b → s ≡ a +ℚ (b +ℚ c) → t ≡ a +ℚ c → t ≤ℚ s
  without_less a b c s t h e f = linear_le (a ∷ b ∷ c ∷ s ∷ t ∷ []) (le h ∷ eq e ∷ eq f ∷ []) (search reading_of) tt

  module _ (closed : (walk : List Step) (v : ℕ) → IsResidualWalk net flows walk v v → 0ℚ ≤ℚ walk_length net walk) (inside : u < net.nodes) where
    fewer_steps : (walk : List Step) (c : HasClosed net flows u w walk) → length (c.front ++ c.rest) < length walk
    fewer_steps walk c =
        let e : length walk ≡ length c.front + (length c.mid + length c.rest) =
        ap (λ (k : List Step). length k) c.split ∙ length-append c.front (c.mid ++ c.rest) ∙ ap (λ (n : ℕ). length c.front + n) (length-append c.mid c.rest) in
        let f : length (c.front ++ c.rest) ≡ length c.front + length c.rest = length-append c.front c.rest in
        let g : 0 < length c.mid = c.some in omega arith

    no_longer : (walk : List Step) (c : HasClosed net flows u w walk) → walk_length net (c.front ++ c.rest) ≤ℚ walk_length net walk
    no_longer walk c = without_less (walk_length net c.front) (walk_length net c.mid) (walk_length net c.rest) _ _ (closed c.mid c.at c.round)
        (ap (λ (k : List Step). walk_length net k) c.split ∙ walk_length-append net c.front (c.mid ++ c.rest)
        ∙ ap (λ (x : ℚ). walk_length net c.front +ℚ x) (walk_length-append net c.mid c.rest))
        (walk_length-append net c.front c.rest)

    as_it_is : (walk : List Step) → IsResidualWalk net flows walk u w → length walk < net.nodes → (short : List Step) × IsCutTo walk short
    as_it_is walk p l = (walk, record { is_walk = p; few = l; no_longer = ≤ℚ_refl _; fewer = inl refl })

    cut_by : (left : ℕ) (walk : List Step) → length walk ≤ left → IsResidualWalk net flows walk u w → (short : List Step) × IsCutTo walk short
    cut_by zero walk h p = ⊎_elim
        (λ (c : HasClosed net flows u w walk). let f : length (c.front ++ c.rest) < length walk = fewer_steps walk c in absurd (omega arith))
        (λ (l : length walk < net.nodes). as_it_is walk p l)
        (closed_or_few walk inside p)
    cut_by (suc left) walk h p = ⊎_elim
        (λ (c : HasClosed net flows u w walk).
        let f : length (c.front ++ c.rest) < length walk = fewer_steps walk c in
        let s : (short : List Step) × IsCutTo (c.front ++ c.rest) short =
        cut_by left (c.front ++ c.rest) (omega arith) (IsResidualWalk-append net flows c.front c.rest u c.at w c.to_it c.on) in (
          s.0,
          record {
            is_walk = s.1.is_walk;
            few = s.1.few;
            no_longer = ≤ℚ_trans _ _ _ s.1.no_longer (no_longer walk c);
            fewer = inr (still s.0 (c.front ++ c.rest) walk s.1.fewer f);
          },
        ))
        (λ (l : length walk < net.nodes). as_it_is walk p l)
        (closed_or_few walk inside p)
      where
        still : (a b c : List Step) → (a ≡ b) ⊎ (length a < length b) → length b < length c → length a < length c
        still a b c (inl e) h = let f : length a ≡ length b = ap (λ (k : List Step). length k) e in omega arith
        still a b c (inr l) h = omega arith

    pub cut : (walk : List Step) → IsResidualWalk net flows walk u w → (short : List Step) × IsCutTo walk short
    cut walk p = cut_by (length walk) walk (omega arith) p

    -- The shortened walk is at most the walk, in the order of walks.
    pub IsCutTo-at_most : (walk short : List Step) → IsCutTo walk short → IsAtMost (reach_of net short) (reach_of net walk)
    IsCutTo-at_most walk short c = ⊎_elim
        (λ (e : short ≡ walk). subst (λ (k : List Step). IsAtMost (reach_of net short) (reach_of net k)) e (IsAtMost-refl (reach_of net short)))
        (λ (l : length short < length walk). ⊎_elim
        (λ (f : walk_length net short <ℚ walk_length net walk). inl f)
        (λ (f : walk_length net walk ≤ℚ walk_length net short). inr (≤ℚ_antisymm _ _ c.no_longer f, inl l))
        (lt_or_le_ℚ (walk_length net short) (walk_length net walk)))
        c.fewer
