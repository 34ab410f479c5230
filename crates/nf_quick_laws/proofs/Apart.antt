-- The first of all residual walks visits no node twice, so it uses no link twice. Its prefixes are shortest walks. It doesn't leave its
-- last node, nor return to its first one.
use Rattle.std.proofs.Common.{◌≡◌, ◌≢◌, ℕ, ◌+◌, ◌<◌, ◌≤◌, List, [], ◌∷◌, ◌++◌, length, ◌⊎◌, inl, inr, ⊎_elim, Bool, true, false, sym, ap, subst, refl, ◌∙◌}
use Rattle.std.proofs.Common.{append_assoc, arith, length-append}
use Rattle.nf_quick_laws.proofs.Common.{append-nil, ℚ, 0ℚ, ◌+ℚ◌, ◌≤ℚ◌, ◌<ℚ◌, reading_of, ≤ℚ_of_lt, ≤ℚ_of_same, not_both_ℚ, le, eq, linear_le, linear_eq}
use Rattle.nf_quick_laws.proofs.Common.{Network, Step, Leads, IsResidualWalk, step_length, walk_length, AreFewerOrFirst, IsAtMost, IsLeastLength}
use Rattle.nf_quick_laws.proofs.Common.{IsFirstWalk, reach_of}
use Rattle.nf_quick_laws.proofs.ResidualWalks.{IsResidualWalk-append, IsResidualWalk-one, walk_length-append, Leads-begin, Leads-turn}

-- ---- the order
-- A walk at most another is no longer, and if it has the same length, it has no more steps.
pub IsAtMost-length : (net : Network) (walk other : List Step) → IsAtMost (reach_of net walk) (reach_of net other) → walk_length net walk ≤ℚ walk_length net other
IsAtMost-length net walk other m = ⊎_elim
    (λ (l : walk_length net walk <ℚ walk_length net other). ≤ℚ_of_lt _ _ l)
    (λ (e : (walk_length net walk ≡ walk_length net other) × AreFewerOrFirst walk other). ≤ℚ_of_same _ _ e.0) m

AreFewerOrFirst-length : (walk other : List Step) → AreFewerOrFirst walk other → length walk ≤ length other
AreFewerOrFirst-length walk other (inl f) = omega arith
AreFewerOrFirst-length walk other (inr f) = let e : length walk ≡ length other = f.0 in omega arith

pub IsAtMost-steps : (net : Network) (walk other : List Step) → IsAtMost (reach_of net walk) (reach_of net other)
    → walk_length net other ≤ℚ walk_length net walk → length walk ≤ length other
IsAtMost-steps net walk other (inl l) h = absurd (not_both_ℚ _ _ l h)
IsAtMost-steps net walk other (inr e) h = AreFewerOrFirst-length walk other e.1

-- ---- a property of each step of a walk; and a link that the walk takes
abbrev pub EachStep : (Step → Type 0) → List Step → Type 0
EachStep P [] = Unit {0}
EachStep P (step ∷ walk) = P step × EachStep P walk

abbrev pub Takes : ℕ → List Step → Type 0
Takes e [] = ⊥
Takes e (step ∷ walk) = (step.link ≡ e) ⊎ Takes e walk

-- No link is used twice.
abbrev pub AreApart : List Step → Type 0
AreApart [] = Unit {0}
AreApart (step ∷ walk) = (Takes step.link walk → ⊥) × AreApart walk

pub record TakenAt (e : ℕ) (walk : List Step) : Type 0 where
  pub before : List Step
  pub step : Step
  pub after : List Step
  pub split : walk ≡ before ++ step ∷ after
  pub link : step.link ≡ e

pub Takes-at : (e : ℕ) (walk : List Step) → Takes e walk → TakenAt e walk
Takes-at e [] t = absurd t
Takes-at e (step ∷ walk) (inl p) = record { before = []; step = step; after = walk; split = refl; link = p }
Takes-at e (step ∷ walk) (inr t) = let a : TakenAt e walk = Takes-at e walk t in
    record { before = step ∷ a.before; step = a.step; after = a.after; split = ap (λ (w : List Step). step ∷ w) a.split; link = a.link }

pub IsResidualWalk-split : (net : Network) (flows : List ℚ) (walk more : List Step) (u w : ℕ) → IsResidualWalk net flows (walk ++ more) u w
    → (v : ℕ) × IsResidualWalk net flows walk u v × IsResidualWalk net flows more v w
IsResidualWalk-split net flows [] more u w p = (u, refl, p)
IsResidualWalk-split net flows (step ∷ walk) more u w p =
    let r : (v : ℕ) × IsResidualWalk net flows walk p.0 v × IsResidualWalk net flows more v w = IsResidualWalk-split net flows walk more p.0 w p.2 in
    (r.0, (p.0, p.1, r.1), r.2)

-- ---- numbers
without_less : (a b c s : ℚ) → 0ℚ ≤ℚ b → s ≡ a +ℚ (b +ℚ c) → a +ℚ c ≤ℚ s
without_less a b c s h e = linear_le (a ∷ b ∷ c ∷ s ∷ []) (le h ∷ eq e ∷ []) (search reading_of) tt

front_less : (a b c s t : ℚ) → s ≡ a +ℚ c → t ≡ b +ℚ c → s ≤ℚ t → a ≤ℚ b
front_less a b c s t e f h = linear_le (a ∷ b ∷ c ∷ s ∷ t ∷ []) (eq e ∷ eq f ∷ le h ∷ []) (search reading_of) tt

pub sum_last : (a l s : ℚ) → s ≡ a +ℚ (l +ℚ 0ℚ) → s ≡ a +ℚ l
sum_last a l s e = linear_eq (a ∷ l ∷ s ∷ []) (eq e ∷ []) (search reading_of) tt tt

module _ (net : Network) (flows : List ℚ) (from to : ℕ) (all : List Step) (closed : (walk : List Step) (v : ℕ) → IsResidualWalk net flows walk v v → 0ℚ ≤ℚ walk_length net walk)
    (first : IsFirstWalk net flows from to all) where
  -- No section of the walk is closed.
  pub no_return : (front mid rest : List Step) (v : ℕ) → 0 < length mid → all ≡ front ++ (mid ++ rest) → IsResidualWalk net flows front from v → IsResidualWalk net flows mid v v
      → IsResidualWalk net flows rest v to → ⊥
  no_return front mid rest v some split p q r =
      let without : List Step = front ++ rest in
      let most : IsAtMost (reach_of net all) (reach_of net without) = first.first without (IsResidualWalk-append net flows front rest from v to p r) in
      let sum : walk_length net all ≡ walk_length net front +ℚ (walk_length net mid +ℚ walk_length net rest) =
      ap (λ (w : List Step). walk_length net w) split ∙ walk_length-append net front (mid ++ rest) ∙ ap (λ (x : ℚ). walk_length net front +ℚ x) (walk_length-append net mid rest) in
      let short : walk_length net without ≤ℚ walk_length net all =
      subst (λ (x : ℚ). x ≤ℚ walk_length net all) (sym (walk_length-append net front rest)) (without_less _ _ _ _ (closed mid v q) sum) in
      let fewer : length all ≤ length without = IsAtMost-steps net all without most short in
      let count : length all ≡ length front + (length mid + length rest) =
      ap (λ (w : List Step). length w) split ∙ length-append front (mid ++ rest) ∙ ap (λ (n : ℕ). length front + n) (length-append mid rest) in
      let less : length without ≡ length front + length rest = length-append front rest in
      too_many (length all) (length without) (length front) (length mid) (length rest) some fewer count less
    where
      too_many : (n k a b c : ℕ) → 0 < b → n ≤ k → n ≡ a + (b + c) → k ≡ a + c → ⊥
      too_many n k a b c h l e f = omega arith

  -- Its prefixes are shortest walks.
  pub front_least : (front rest : List Step) (v : ℕ) → all ≡ front ++ rest → IsResidualWalk net flows front from v → IsResidualWalk net flows rest v to
      → IsLeastLength net flows from v (walk_length net front)
  front_least front rest v split p r = record {
    taken = (front, p, refl);
    bound = λ other q. front_less _ _ (walk_length net rest) _ _ (ap (λ (w : List Step). walk_length net w) split ∙ walk_length-append net front rest) (walk_length-append net other rest)
        (IsAtMost-length net all (other ++ rest) (first.first (other ++ rest) (IsResidualWalk-append net flows other rest from v to q r)));
  }

  -- The facts on each of its steps.
  pub record IsFine (step : Step) : Type 0 where
    pub begin : ℕ
    pub end : ℕ
    pub distance : ℚ
    pub leads : Leads net flows step begin end
    pub at_begin : IsLeastLength net flows from begin distance
    pub at_end : IsLeastLength net flows from end (distance +ℚ step_length net step)
    pub begin_other : begin ≢ to
    pub end_other : end ≢ from

  one_more : (front : List Step) (step : Step) (rest : List Step) → all ≡ front ++ step ∷ rest → all ≡ (front ++ step ∷ []) ++ rest
  one_more front step rest split = split ∙ sym (append_assoc front (step ∷ []) rest)

  front_more : (front : List Step) (step : Step) (v w : ℕ) → IsResidualWalk net flows front from v → Leads net flows step v w → IsResidualWalk net flows (front ++ step ∷ []) from w
  front_more front step v w p l = IsResidualWalk-append net flows front (step ∷ []) from v w p (IsResidualWalk-one net flows step v w l)

  some_at : (front : List Step) (step : Step) → 0 < length (front ++ step ∷ [])
  some_at front step = let e : length (front ++ step ∷ []) ≡ length front + 1 = length-append front (step ∷ []) in omega arith

  fine : (front : List Step) (step : Step) (rest : List Step) (v w : ℕ) → all ≡ front ++ step ∷ rest → IsResidualWalk net flows front from v → Leads net flows step v w
      → IsResidualWalk net flows rest w to → IsFine step
  fine front step rest v w split p l r = record {
    begin = v;
    end = w;
    distance = walk_length net front;
    leads = l;
    at_begin = front_least front (step ∷ rest) v split p (w, l, r);
    at_end = subst (λ (x : ℚ). IsLeastLength net flows from w x) (sum_last _ _ _ (walk_length-append net front (step ∷ [])))
        (front_least (front ++ step ∷ []) rest w (one_more front step rest split) (front_more front step v w p l) r);
    begin_other = λ e. no_return front (step ∷ rest) [] v (omega arith) (split ∙ ap (λ (x : List Step). front ++ x) (sym (append-nil (step ∷ rest)))) p
        (w, l, subst (λ (k : ℕ). IsResidualWalk net flows rest w k) (sym e) r) e;
    end_other = λ e. no_return [] (front ++ step ∷ []) rest from (some_at front step) (one_more front step rest split) refl
        (subst (λ (k : ℕ). IsResidualWalk net flows (front ++ step ∷ []) from k) e (front_more front step v w p l))
        (subst (λ (k : ℕ). IsResidualWalk net flows rest k to) e r);
  }

  pub all_fine : (front rest : List Step) (v : ℕ) → all ≡ front ++ rest → IsResidualWalk net flows front from v → IsResidualWalk net flows rest v to → EachStep IsFine rest
  all_fine front [] v split p r = tt
  all_fine front (step ∷ rest) v split p r =
      (fine front step rest v r.0 split p r.1 r.2, all_fine (front ++ step ∷ []) rest r.0 (one_more front step rest split) (front_more front step v r.0 p r.1) r.2)

  -- A link used twice closes a section, in either direction.
  taken_once : (front : List Step) (step : Step) (rest : List Step) (v w : ℕ) → all ≡ front ++ step ∷ rest → IsResidualWalk net flows front from v → Leads net flows step v w
      → IsResidualWalk net flows rest w to → Takes step.link rest → ⊥
  taken_once front step rest v w split p l r t =
      let a : TakenAt step.link rest = Takes-at step.link rest t in
      let s : (x : ℕ) × IsResidualWalk net flows a.before w x × IsResidualWalk net flows (a.step ∷ a.after) x to =
      IsResidualWalk-split net flows a.before (a.step ∷ a.after) w to (subst (λ (k : List Step). IsResidualWalk net flows k w to) a.split r) in
      ⊎_elim
      (λ (e : a.step.forward ≡ step.forward). no_return front (step ∷ a.before) (a.step ∷ a.after) v (omega arith) (whole a) p
      (w, l, subst (λ (k : ℕ). IsResidualWalk net flows a.before w k) (Leads-begin net flows flows a.step step s.0 s.2.0 v w s.2.1 l a.link e) s.1)
      (subst (λ (k : ℕ). IsResidualWalk net flows (a.step ∷ a.after) k to) (Leads-begin net flows flows a.step step s.0 s.2.0 v w s.2.1 l a.link e) s.2))
      (λ (e : a.step.forward ≡ step.forward → ⊥).
      let turn : (s.0 ≡ w) × (s.2.0 ≡ v) = Leads-turn net flows flows a.step step s.0 s.2.0 v w s.2.1 l a.link e in
      no_return front (step ∷ (a.before ++ a.step ∷ [])) a.after v (omega arith)
      (whole a ∙ ap (λ (k : List Step). front ++ step ∷ k) (sym (append_assoc a.before (a.step ∷ []) a.after))) p
      (w, l, subst (λ (k : ℕ). IsResidualWalk net flows (a.before ++ a.step ∷ []) w k) turn.1 (front_on a.before a.step w s.0 s.2.0 s.1 s.2.1))
      (subst (λ (k : ℕ). IsResidualWalk net flows a.after k to) turn.1 s.2.2))
      (same_ways a.step.forward step.forward)
    where
      same_ways : (c d : Bool) → (c ≡ d) ⊎ (c ≡ d → ⊥)
      same_ways true true = inl refl
      same_ways true false = inr (λ e. cc)
      same_ways false true = inr (λ e. cc)
      same_ways false false = inl refl

      whole : (a : TakenAt step.link rest) → all ≡ front ++ (step ∷ (a.before ++ a.step ∷ a.after))
      whole a = split ∙ ap (λ (k : List Step). front ++ step ∷ k) a.split

      front_on : (walk : List Step) (b : Step) (u x y : ℕ) → IsResidualWalk net flows walk u x → Leads net flows b x y → IsResidualWalk net flows (walk ++ b ∷ []) u y
      front_on walk b u x y q m = IsResidualWalk-append net flows walk (b ∷ []) u x y q (IsResidualWalk-one net flows b x y m)

  pub all_apart : (front rest : List Step) (v : ℕ) → all ≡ front ++ rest → IsResidualWalk net flows front from v → IsResidualWalk net flows rest v to → AreApart rest
  all_apart front [] v split p r = tt
  all_apart front (step ∷ rest) v split p r =
      (taken_once front step rest v r.0 split p r.1 r.2, all_apart (front ++ step ∷ []) rest r.0 (one_more front step rest split) (front_more front step v r.0 p r.1) r.2)
