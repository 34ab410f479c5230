-- One round: each known path is kept or improved, each residual step from a known node is offered, and there are no other entries.
use Rattle.std.proofs.Common.{◌≡◌, ◌≢◌, ℕ, zero, suc, ◌<◌, List, [], ◌∷◌, ◌++◌, length, ◌⊎◌, inl, inr, ⊎_elim, Bool, true, false, if◌then◌else◌, eqb}
use Rattle.std.proofs.Common.{Option, Some, None, Ok, Err, set, sym, ap, subst, refl, ◌∙◌, arith}
use Rattle.nf_quick_laws.proofs.Common.{eqb_tells, length-set, ℚ, Passing, result_of, Checked, checked, fold_checked, ◌>>=◌, checked-is, number_at, Link}
use Rattle.nf_quick_laws.proofs.Common.{Step, begin_of, end_of, can_go, Reach, IsAtMost, is_better, Known, known_at, better_of, offered, op_of, along}
use Rattle.nf_quick_laws.proofs.Common.{along_step, same_Some, none-some, same_Ok}
use Rattle.nf_quick_laws.proofs.Orders.{IsAtMost-refl, IsAtMost-trans, is_better-true, is_better-false}

-- ---- a checked operation that doesn't pass has its exact value

-- A computation followed by another, both within their bounds.
pub bind-ok : {A B : Type 0} (w : Checked A) (f : A → Checked B) (b : B) → (w >>= f) ≡ Ok b → (a : A) × (w ≡ Ok a) × (f a ≡ Ok b)
bind-ok (Ok a) f b e = (a, refl, e)
bind-ok (Err p) f b e = absurd (cc)

-- ---- entries
pub known_at-set : (known : Known) (v : ℕ) (o : Option Reach) → v < length known → known_at (set known v o) v ≡ o
known_at-set [] v o h = absurd (omega arith)
known_at-set (p ∷ known) zero o h = refl
known_at-set (p ∷ known) (suc v) o h = known_at-set known v o (omega arith)

pub known_at-else : (known : Known) (v w : ℕ) (o : Option Reach) → v ≢ w → known_at (set known v o) w ≡ known_at known w
known_at-else [] v w o h = refl
known_at-else (p ∷ known) zero zero o h = absurd (h refl)
known_at-else (p ∷ known) zero (suc w) o h = refl
known_at-else (p ∷ known) (suc v) zero o h = refl
known_at-else (p ∷ known) (suc v) (suc w) o h = known_at-else known v w o (λ e. h (ap suc e))

-- A path to v that is at most r is known.
abbrev pub AtMostAt : Known → ℕ → Reach → Type 0
AtMostAt known v r = (q : Reach) × (known_at known v ≡ Some q) × IsAtMost q r

-- ---- an offer
better-new : (o : Option Reach) (r : Reach) → IsAtMost (better_of o r) r
better-new None r = IsAtMost-refl r
better-new (Some k) r = by_test (is_better r k) refl
  where
    by_test : (t : Bool) → is_better r k ≡ t → IsAtMost (if t then r else k) r
    by_test true e = IsAtMost-refl r
    by_test false e = is_better-false r k e

pub better-old : (k r : Reach) → IsAtMost (better_of (Some k) r) k
better-old k r = by_test (is_better r k) refl
  where
    by_test : (t : Bool) → is_better r k ≡ t → IsAtMost (if t then r else k) k
    by_test true e = is_better-true r k e
    by_test false e = IsAtMost-refl k

better-one : (o : Option Reach) (r : Reach) → (better_of o r ≡ r) ⊎ (Some (better_of o r) ≡ o)
better-one None r = inl refl
better-one (Some k) r = by_test (is_better r k)
  where
    by_test : (t : Bool) → ((if t then r else k) ≡ r) ⊎ (Some (if t then r else k) ≡ Some k)
    by_test true = inl refl
    by_test false = inr refl

pub offered-new : (known : Known) (v : ℕ) (r : Reach) → v < length known → AtMostAt (offered known v r) v r
offered-new known v r h = (better_of (known_at known v) r, known_at-set known v _ h, better-new (known_at known v) r)

pub offered-kept : (known : Known) (v : ℕ) (r : Reach) (u : ℕ) (s : Reach) → v < length known → AtMostAt known u s → AtMostAt (offered known v r) u s
offered-kept known v r u s h a = ⊎_elim
    (λ (w : (eqb v u ≡ true) × (v ≡ u)). subst (λ (k : ℕ). AtMostAt (offered known v r) k s) w.1 (here (subst (λ (k : ℕ). AtMostAt known k s) (sym w.1) a)))
    (λ (w : (eqb v u ≡ false) × (v ≢ u)). (a.0, known_at-else known v u _ w.1 ∙ a.1, a.2))
    (eqb_tells v u)
  where
    here : AtMostAt known v s → AtMostAt (offered known v r) v s
    here b = (
      better_of (known_at known v) r,
      known_at-set known v _ h,
      IsAtMost-trans _ b.0 s (subst (λ (o : Option Reach). IsAtMost (better_of o r) b.0) (sym b.1) (better-old b.0 r)) b.2,
    )

pub offered-from : (known : Known) (v : ℕ) (r : Reach) (u : ℕ) (q : Reach) → v < length known → known_at (offered known v r) u ≡ Some q
    → (known_at known u ≡ Some q) ⊎ ((u ≡ v) × (q ≡ r))
offered-from known v r u q h e = ⊎_elim
    (λ (w : (eqb v u ≡ true) × (v ≡ u)). here (subst (λ (k : ℕ). known_at (offered known v r) k ≡ Some q) (sym w.1) e) w.1)
    (λ (w : (eqb v u ≡ false) × (v ≢ u)). inl (sym (known_at-else known v u _ w.1) ∙ e))
    (eqb_tells v u)
  where
    here : known_at (offered known v r) v ≡ Some q → v ≡ u → (known_at known u ≡ Some q) ⊎ ((u ≡ v) × (q ≡ r))
    here f same = ⊎_elim
        (λ (new : better_of (known_at known v) r ≡ r). inr (sym same, sym (same_Some _ _ (sym (known_at-set known v _ h) ∙ f)) ∙ new))
        (λ (old : Some (better_of (known_at known v) r) ≡ known_at known v). inl (ap (λ (k : ℕ). known_at known k) (sym same) ∙ sym old ∙ sym (known_at-set known v _ h) ∙ f))
        (better-one (known_at known v) r)

-- ---- one step
-- A path extended by a step.
abbrev pub extended : Reach → Step → Link → Reach
extended before step link = record { distance = result_of (op_of step.forward) before.distance link.transit; steps = before.steps ++ step ∷ [] }

-- The effect of a step.
pub record StepDone (flows : List ℚ) (before : Known) (step : Step) (link : Link) (so_far next : Known) : Type 0 where
  pub count : length next ≡ length so_far
  pub kept : (u : ℕ) (s : Reach) → AtMostAt so_far u s → AtMostAt next u s
  pub offers : (b : Reach) → can_go step.forward link.capacity (number_at flows step.link) ≡ true → known_at before (begin_of step.forward link) ≡ Some b
      → AtMostAt next (end_of step.forward link) (extended b step link)
  pub from : (u : ℕ) (q : Reach) → known_at next u ≡ Some q → (known_at so_far u ≡ Some q) ⊎ ((b : Reach) × (can_go step.forward link.capacity (number_at flows step.link) ≡ true)
      × (known_at before (begin_of step.forward link) ≡ Some b) × (u ≡ end_of step.forward link) × (q ≡ extended b step link))

abbrev pub IsIn : Step × Link → List (Step × Link) → Type 0
IsIn item [] = ⊥
IsIn item (other ∷ items) = (other ≡ item) ⊎ IsIn item items

module _ (passes : Passing) (flows : List ℚ) (before : Known) where
  idle : (step : Step) (link : Link) (so_far next : Known) → ◌≡◌ {A = Checked Known} (Ok so_far) (Ok next)
      → ((b : Reach) → can_go step.forward link.capacity (number_at flows step.link) ≡ true → known_at before (begin_of step.forward link) ≡ Some b → ⊥)
      → StepDone flows before step link so_far next
  idle step link so_far next e none = subst (λ (k : Known). StepDone flows before step link so_far k) (same_Ok so_far next e) (record {
    count = refl;
    kept = λ u s a. a;
    offers = λ b g p. absurd (none b g p);
    from = λ u q p. inl p;
  })

  same_reach : (x y : ℚ) (steps : List Step) → x ≡ y → ◌≡◌ {A = Reach} (record { distance = x; steps = steps }) (record { distance = y; steps = steps })
  same_reach x y steps e = ap (λ (z : ℚ). record { distance = z; steps = steps }) e

  done : (step : Step) (link : Link) (so_far next : Known) (b : Reach) (z : ℚ) → end_of step.forward link < length so_far
      → can_go step.forward link.capacity (number_at flows step.link) ≡ true
      → known_at before (begin_of step.forward link) ≡ Some b → checked passes (op_of step.forward) b.distance link.transit ≡ Ok z
      → ◌≡◌ {A = Checked Known} (Ok (offered so_far (end_of step.forward link) (record { distance = z; steps = b.steps ++ step ∷ [] }))) (Ok next)
      → StepDone flows before step link so_far next
  done step link so_far next b z h g p c e = subst (λ (k : Known). StepDone flows before step link so_far k)
      (ap (λ (r : Reach). offered so_far (end_of step.forward link) r) (same_reach _ _ _
      (sym (checked-is passes (op_of step.forward) b.distance link.transit z c))) ∙ same_Ok _ next e) (record {
        count = length-set so_far (end_of step.forward link) _;
        kept = λ u s a. offered-kept so_far (end_of step.forward link) (extended b step link) u s h a;
        offers = λ other _ q. subst (λ (r : Reach). AtMostAt (offered so_far (end_of step.forward link) (extended b step link)) (end_of step.forward link) (extended r step link))
            (same_Some b other (sym p ∙ q)) (offered-new so_far (end_of step.forward link) (extended b step link) h);
        from = λ u q f. ⊎_elim
            (λ (old : known_at so_far u ≡ Some q). inl old)
            (λ (new : (u ≡ end_of step.forward link) × (q ≡ extended b step link)). inr (b, g, p, new.0, new.1))
            (offered-from so_far (end_of step.forward link) (extended b step link) u q h f);
      })

  by_step : (goes : Bool) (known : Option Reach) (step : Step) (link : Link) (so_far next : Known) → can_go step.forward link.capacity (number_at flows step.link) ≡ goes
      → known_at before (begin_of step.forward link) ≡ known → end_of step.forward link < length so_far
      → along passes goes known step link.transit (end_of step.forward link) so_far ≡ Ok next
      → StepDone flows before step link so_far next
  by_step true (Some b) step link so_far next g p h e =
      let w : (z : ℚ) × (checked passes (op_of step.forward) b.distance link.transit ≡ Ok z)
      × (◌≡◌ {A = Checked Known} (Ok (offered so_far (end_of step.forward link) (record { distance = z; steps = b.steps ++ step ∷ [] }))) (Ok next)) =
      bind-ok (checked passes (op_of step.forward) b.distance link.transit)
      (λ z. Ok (offered so_far (end_of step.forward link) (record { distance = z; steps = b.steps ++ step ∷ [] }))) next e in
      done step link so_far next b w.0 h g p w.1 w.2
  by_step true None step link so_far next g p h e = idle step link so_far next e (λ b _ q. none-some b (sym p ∙ q))
  by_step false known step link so_far next g p h e = idle step link so_far next e (λ b t _. false_true (sym g ∙ t))
    where
      false_true : false ≡ true → ⊥
      false_true e = cc

  pub along_step-done : (step : Step) (link : Link) (so_far next : Known) → end_of step.forward link < length so_far → along_step passes flows before so_far (step, link) ≡ Ok next
      → StepDone flows before step link so_far next
  along_step-done step link so_far next h e =
      by_step (can_go step.forward link.capacity (number_at flows step.link))
      (known_at before (begin_of step.forward link)) step link so_far next refl refl h e

  -- ---- all steps of a list
  pub record AllDone (items : List (Step × Link)) (so_far next : Known) : Type 0 where
    pub count : length next ≡ length so_far
    pub kept : (u : ℕ) (s : Reach) → AtMostAt so_far u s → AtMostAt next u s
    pub offers : (step : Step) (link : Link) (b : Reach) → IsIn (step, link) items → can_go step.forward link.capacity (number_at flows step.link) ≡ true
        → known_at before (begin_of step.forward link) ≡ Some b → AtMostAt next (end_of step.forward link) (extended b step link)
    pub from : (u : ℕ) (q : Reach) → known_at next u ≡ Some q → (known_at so_far u ≡ Some q) ⊎ ((step : Step) × (link : Link) × (b : Reach) × IsIn (step, link) items
        × (can_go step.forward link.capacity (number_at flows step.link) ≡ true) × (known_at before (begin_of step.forward link) ≡ Some b)
        × (u ≡ end_of step.forward link) × (q ≡ extended b step link))

  pub fold-done : (items : List (Step × Link)) (n : ℕ) (so_far next : Known) → length so_far ≡ n → ((step : Step) (link : Link) → IsIn (step, link) items → end_of step.forward link < n)
      → fold_checked (along_step passes flows before) so_far items ≡ Ok next → AllDone items so_far next
  fold-done [] n so_far next l ends e = subst (λ (k : Known). AllDone [] so_far k) (same_Ok so_far next e) (record {
    count = refl;
    kept = λ u s a. a;
    offers = λ step link b i g p. absurd i;
    from = λ u q p. inl p;
  })
  fold-done ((step, link) ∷ items) n so_far next l ends e =
      let w : (mid : Known) × (along_step passes flows before so_far (step, link) ≡ Ok mid) × (fold_checked (along_step passes flows before) mid items ≡ Ok next) =
      bind-ok (along_step passes flows before so_far (step, link)) (λ mid. fold_checked (along_step passes flows before) mid items) next e in
      let one : StepDone flows before step link so_far w.0 = along_step-done step link so_far w.0
      (subst (λ (k : ℕ). end_of step.forward link < k) (sym l) (ends step link (inl refl))) w.1 in
      let more : AllDone items w.0 next = fold-done items n w.0 next (one.count ∙ l) (λ s k i. ends s k (inr i)) w.2 in
      record {
        count = more.count ∙ one.count;
        kept = λ u s a. more.kept u s (one.kept u s a);
        offers = λ s k b i g p. ⊎_elim
            (λ (same : ◌≡◌ {A = Step × Link} (step, link) (s, k)).
            subst (λ (d : Step × Link). can_go d.0.forward d.1.capacity (number_at flows d.0.link) ≡ true → known_at before (begin_of d.0.forward d.1) ≡ Some b
            → AtMostAt next (end_of d.0.forward d.1) (extended b d.0 d.1)) same (λ h q. more.kept _ _ (one.offers b h q)) g p)
            (λ (later : IsIn (s, k) items). more.offers s k b later g p)
            i;
        from = λ u q p. ⊎_elim
            (λ (at_mid : known_at w.0 u ≡ Some q). ⊎_elim
            (λ (old : known_at so_far u ≡ Some q). inl old)
            (λ (new : (b : Reach) × (can_go step.forward link.capacity (number_at flows step.link) ≡ true)
            × (known_at before (begin_of step.forward link) ≡ Some b) × (u ≡ end_of step.forward link) × (q ≡ extended b step link)).
            inr (step, link, new.0, inl refl, new.1, new.2, new.3, new.4))
            (one.from u q at_mid))
            (λ (new : (s : Step) × (k : Link) × (b : Reach) × IsIn (s, k) items × (can_go s.forward k.capacity (number_at flows s.link) ≡ true)
            × (known_at before (begin_of s.forward k) ≡ Some b) × (u ≡ end_of s.forward k) × (q ≡ extended b s k)).
            inr (new.0, new.1, new.2, inr new.3, new.4, new.5, new.6, new.7))
            (more.from u q p);
      }
