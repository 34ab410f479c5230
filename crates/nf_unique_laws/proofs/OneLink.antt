-- A link whose inflow ends at a last time. Its outflow is known up to the time by which everything that entered has left.
use Rattle.std.proofs.Common.{◌≡◌, [], ◌∷◌, ⊎_elim, Option, Some, sym, ap, subst, ◌∙◌}
use Rattle.nf_unique_laws.proofs.Common.{ℚ, 0ℚ, ◌+ℚ◌, ◌-ℚ◌, ◌*ℚ◌, ◌≤ℚ◌, ◌<ℚ◌, reading_of, ≤ℚ_of_lt, ≤ℚ_of_same, ≤ℚ_antisymm, lt_or_le_ℚ, less_nn, le, lt, eq}
use Rattle.nf_unique_laws.proofs.Common.{le_times, linear_le, linear_eq, ≤ℚ_refl, ≤ℚ_trans, ≤_<_trans, Within, IsLeast, NeverFalls, IsOutflow, IsOutflow-unique}
use Rattle.nf_unique_laws.proofs.Common.{clipped, less_le, line_start}
use Rattle.nf_model_laws.specs.Capacity.{IsPositive}
use Rattle.nf_phase_equilibrium_laws.proofs.Served.{amount-nn, outflow-nn, outflow-entered, outflow-rises}
use Rattle.nf_unique_laws.proofs.Clipped.{clipped-within, clipped-none, clipped-rises, clipped-stretch, lands}

-- ---- over plain numbers: r the transit time, c the capacity, f and g what had entered, x and y what has left

at_once : (r : ℚ) → r ≤ℚ 0ℚ → 0ℚ ≤ℚ r → 0ℚ -ℚ r ≡ 0ℚ
at_once r h k = linear_eq (r ∷ []) (le h ∷ le k ∷ []) (search reading_of) tt tt

room_early : (c s t x y : ℚ) → 0ℚ ≤ℚ c → s ≤ℚ t → y ≡ 0ℚ → 0ℚ ≤ℚ x → y -ℚ x ≤ℚ c *ℚ (t -ℚ s)
room_early c s t x y k h e n = linear_le (c ∷ s ∷ t ∷ x ∷ y ∷ []) (le_times k h ∷ eq e ∷ le n ∷ []) (search reading_of) tt

room_begins : (c r s t f x y : ℚ) → 0ℚ ≤ℚ c → s ≤ℚ r → x ≡ 0ℚ → f ≡ 0ℚ → y ≤ℚ f +ℚ c *ℚ (t -ℚ r -ℚ 0ℚ) → y -ℚ x ≤ℚ c *ℚ (t -ℚ s)
room_begins c r s t f x y k h e d l = linear_le (c ∷ r ∷ s ∷ t ∷ f ∷ x ∷ y ∷ []) (le_times k h ∷ eq e ∷ eq d ∷ le l ∷ []) (search reading_of) tt

room_later : (c r s t u f x y : ℚ) → f +ℚ c *ℚ (s -ℚ r -ℚ u) ≡ x → y ≤ℚ f +ℚ c *ℚ (t -ℚ r -ℚ u) → y -ℚ x ≤ℚ c *ℚ (t -ℚ s)
room_later c r s t u f x y e l = linear_le (c ∷ r ∷ s ∷ t ∷ u ∷ f ∷ x ∷ y ∷ []) (eq e ∷ le l ∷ []) (search reading_of) tt

room_grows : (c a b s t x y : ℚ) → 0ℚ ≤ℚ c → b -ℚ a ≤ℚ t -ℚ s → y -ℚ x ≤ℚ c *ℚ (b -ℚ a) → y -ℚ x ≤ℚ c *ℚ (t -ℚ s)
room_grows c a b s t x y k h l = linear_le (c ∷ a ∷ b ∷ s ∷ t ∷ x ∷ y ∷ []) (le_times k h ∷ le l ∷ []) (search reading_of) tt

more_served : (c d u f x : ℚ) → 0ℚ ≤ℚ c → u ≤ℚ d → x ≤ℚ f → x ≤ℚ f +ℚ c *ℚ (d -ℚ u)
more_served c d u f x k h l = linear_le (c ∷ d ∷ u ∷ f ∷ x ∷ []) (le_times k h ∷ le l ∷ []) (search reading_of) tt

served_on : (c r s t u f x : ℚ) → 0ℚ ≤ℚ c → s ≤ℚ t → x ≤ℚ f +ℚ c *ℚ (s -ℚ r -ℚ u) → x ≤ℚ f +ℚ c *ℚ (t -ℚ r -ℚ u)
served_on c r s t u f x k h l = linear_le (c ∷ r ∷ s ∷ t ∷ u ∷ f ∷ x ∷ []) (le_times k h ∷ le l ∷ []) (search reading_of) tt

just_taken : (c d u f g x : ℚ) → 0ℚ ≤ℚ c → u ≤ℚ d → f +ℚ c *ℚ (d -ℚ u) ≡ x → g ≤ℚ f → x ≤ℚ g → g +ℚ c *ℚ (d -ℚ u) ≡ x
just_taken c d u f g x k h e l m = linear_eq (c ∷ d ∷ u ∷ f ∷ g ∷ x ∷ []) (le_times k h ∷ eq e ∷ le l ∷ le m ∷ []) (search reading_of) tt tt

in_flight : (r s u : ℚ) → 0ℚ ≤ℚ u → u <ℚ s -ℚ r → r ≤ℚ s
in_flight r s u n h = linear_le (r ∷ s ∷ u ∷ []) (le n ∷ lt h ∷ []) (search reading_of) tt

-- A link up to the last times of its tail and its head: what enters by the one has left by the other.
pub record AllServed (transit : ℚ) (capacity : Option ℚ) (amount : ℚ → ℚ) (tail_last head_last : ℚ) (out : ℚ → ℚ) : Type 0 where
  pub positive : IsPositive capacity
  pub rises : NeverFalls amount
  pub starts : amount 0ℚ ≡ 0ℚ
  pub forward : 0ℚ ≤ℚ transit
  pub tail_nn : 0ℚ ≤ℚ tail_last
  pub head_nn : 0ℚ ≤ℚ head_last
  pub out_is : (time : ℚ) → Within 0ℚ head_last time → IsOutflow transit capacity amount time (out time)
  pub all_out : IsOutflow transit capacity amount head_last (amount tail_last)

module _ (transit : ℚ) (capacity : Option ℚ) (amount : ℚ → ℚ) (tail_last head_last : ℚ) (out : ℚ → ℚ) (served : AllServed transit capacity amount tail_last head_last out) where
  open served use {positive, rises, starts, forward, tail_nn, head_nn, out_is, all_out}

  -- In any interval at most the capacity times its length leaves.
  outflow-room : (rate earlier later x y : ℚ) → capacity ≡ Some rate → earlier ≤ℚ later → IsOutflow transit capacity amount earlier x → IsOutflow transit capacity amount later y
      → y -ℚ x ≤ℚ rate *ℚ (later -ℚ earlier)
  outflow-room rate earlier later x y some h p q =
      let k : 0ℚ ≤ℚ rate = ≤ℚ_of_lt _ _ (positive rate some) in
      ⊎_elim
      (λ (l : later <ℚ transit). room_early rate earlier later x y k h (q.early l) (outflow-nn transit capacity amount positive rises starts earlier x p))
      (λ (l : transit ≤ℚ later).
      let g : IsLeast (λ since. amount since +ℚ rate *ℚ (later -ℚ transit -ℚ since)) 0ℚ (later -ℚ transit) y = q.bounded rate l some in
      ⊎_elim
      (λ (m : earlier <ℚ transit). room_begins rate transit earlier later (amount 0ℚ) x y k (≤ℚ_of_lt _ _ m) (p.early m) starts (g.bound 0ℚ (≤ℚ_refl 0ℚ, less_nn transit later l)))
      (λ (m : transit ≤ℚ earlier).
      let f : IsLeast (λ since. amount since +ℚ rate *ℚ (earlier -ℚ transit -ℚ since)) 0ℚ (earlier -ℚ transit) x = p.bounded rate m some in
      room_later rate transit earlier later f.taken.0 (amount f.taken.0) x y f.taken.2
      (g.bound f.taken.0 (f.taken.1.0, ≤ℚ_trans _ _ _ f.taken.1.1 (less_le earlier later transit h))))
      (lt_or_le_ℚ earlier transit))
      (lt_or_le_ℚ later transit)

  abbrev entered : ℚ → ℚ
  entered time = amount (clipped tail_last time)

  abbrev left : ℚ → ℚ
  left time = out (clipped head_last time)

  -- ---- what enters
  pub entered-before : (time : ℚ) → time ≤ℚ 0ℚ → entered time ≡ 0ℚ
  entered-before time h = ap amount (clipped-none tail_last time tail_nn h) ∙ starts

  pub entered-rises : (earlier later : ℚ) → earlier ≤ℚ later → entered earlier ≤ℚ entered later
  entered-rises earlier later h = rises _ _ (clipped-within tail_last earlier tail_nn).0 (clipped-rises tail_last earlier later tail_nn h)

  entered-nn : (time : ℚ) → 0ℚ ≤ℚ entered time
  entered-nn time = amount-nn transit capacity amount positive rises starts (clipped tail_last time) (clipped-within tail_last time tail_nn).0

  -- ---- what leaves
  now : Within 0ℚ head_last head_last
  now = (head_nn, ≤ℚ_refl head_last)

  out-last : out head_last ≡ amount tail_last
  out-last = IsOutflow-unique transit capacity amount head_last (out head_last) (amount tail_last) (out_is head_last now) all_out

  out-most : (time : ℚ) → Within 0ℚ head_last time → out time ≤ℚ amount tail_last
  out-most time w = outflow-rises transit capacity amount positive rises starts time head_last (out time) (amount tail_last) w.1 (out_is time w) all_out

  out-first : out 0ℚ ≡ 0ℚ
  out-first = ⊎_elim
      (λ (l : 0ℚ <ℚ transit). first_is.early l)
      (λ (l : transit ≤ℚ 0ℚ). ≤ℚ_antisymm _ _
      (subst (λ (z : ℚ). out 0ℚ ≤ℚ z) (ap amount (at_once transit l forward) ∙ starts) (outflow-entered transit capacity amount positive rises starts 0ℚ (out 0ℚ) l first_is))
      (outflow-nn transit capacity amount positive rises starts 0ℚ (out 0ℚ) first_is))
      (lt_or_le_ℚ 0ℚ transit)
    where
      first_is : IsOutflow transit capacity amount 0ℚ (out 0ℚ)
      first_is = out_is 0ℚ (≤ℚ_refl 0ℚ, head_nn)

  pub left-before : (time : ℚ) → time ≤ℚ 0ℚ → left time ≡ 0ℚ
  left-before time h = ap out (clipped-none head_last time head_nn h) ∙ out-first

  pub left-rises : (earlier later : ℚ) → earlier ≤ℚ later → left earlier ≤ℚ left later
  left-rises earlier later h = outflow-rises transit capacity amount positive rises starts (clipped head_last earlier) (clipped head_last later) (left earlier) (left later)
      (clipped-rises head_last earlier later head_nn h) (out_is _ (clipped-within head_last earlier head_nn)) (out_is _ (clipped-within head_last later head_nn))

  pub left-room : (rate earlier later : ℚ) → capacity ≡ Some rate → earlier ≤ℚ later → left later -ℚ left earlier ≤ℚ rate *ℚ (later -ℚ earlier)
  left-room rate earlier later some h =
      room_grows rate (clipped head_last earlier) (clipped head_last later) earlier later (left earlier) (left later) (≤ℚ_of_lt _ _ (positive rate some))
      (clipped-stretch head_last earlier later head_nn h)
      (outflow-room rate (clipped head_last earlier) (clipped head_last later) (left earlier) (left later) some (clipped-rises head_last earlier later head_nn h)
      (out_is _ (clipped-within head_last earlier head_nn)) (out_is _ (clipped-within head_last later head_nn)))

  -- At most what had entered one transit time before.
  out-late : (at time : ℚ) → Within 0ℚ head_last at → at ≤ℚ time → out at ≤ℚ entered (time -ℚ transit)
  out-late at time w h = ⊎_elim
      (λ (l : at <ℚ transit). subst (λ (z : ℚ). z ≤ℚ entered (time -ℚ transit)) (sym ((out_is at w).early l)) (entered-nn (time -ℚ transit)))
      (λ (l : transit ≤ℚ at).
      let before : out at ≤ℚ amount (at -ℚ transit) = outflow-entered transit capacity amount positive rises starts at (out at) l (out_is at w) in
      ⊎_elim
      (λ (v : (time -ℚ transit ≤ℚ tail_last) × (clipped tail_last (time -ℚ transit) ≡ time -ℚ transit)). subst (λ (z : ℚ). out at ≤ℚ amount z) (sym v.1)
      (≤ℚ_trans _ _ _ before (rises _ _ (less_nn transit at l) (less_le at time transit h))))
      (λ (v : (tail_last ≤ℚ time -ℚ transit) × (clipped tail_last (time -ℚ transit) ≡ tail_last)). subst (λ (z : ℚ). out at ≤ℚ amount z) (sym v.1) (out-most at w))
      (lands tail_last (time -ℚ transit) tail_nn (less_nn transit time (≤ℚ_trans _ _ _ l h))))
      (lt_or_le_ℚ at transit)

  pub left-late : (time : ℚ) → left time ≤ℚ entered (time -ℚ transit)
  left-late time = ⊎_elim
      (λ (l : time <ℚ 0ℚ). subst (λ (z : ℚ). z ≤ℚ entered (time -ℚ transit)) (sym (left-before time (≤ℚ_of_lt _ _ l))) (entered-nn (time -ℚ transit)))
      (λ (l : 0ℚ ≤ℚ time). out-late (clipped head_last time) time (clipped-within head_last time head_nn) (⊎_elim
      (λ (v : (time ≤ℚ head_last) × (clipped head_last time ≡ time)). ≤ℚ_of_same _ _ v.1)
      (λ (v : (head_last ≤ℚ time) × (clipped head_last time ≡ head_last)). subst (λ (z : ℚ). z ≤ℚ time) (sym v.1) v.0)
      (lands head_last time head_nn l)))
      (lt_or_le_ℚ time 0ℚ)

  -- ---- the outflow satisfies the law of the point queue
  -- Everything that leaves by the end had entered one transit time before, and nothing enters after that.
  settled : (time : ℚ) → 0ℚ ≤ℚ time → head_last -ℚ transit ≤ℚ time → entered time ≡ amount tail_last
  settled time n h = ⊎_elim
      (λ (v : (time ≤ℚ tail_last) × (clipped tail_last time ≡ time)). ap amount v.1 ∙ ≤ℚ_antisymm _ _ (rises time tail_last n v.0) (⊎_elim
      (λ (l : head_last <ℚ transit). subst (λ (z : ℚ). z ≤ℚ amount time) (sym (all_out.early l)) (amount-nn transit capacity amount positive rises starts time n))
      (λ (l : transit ≤ℚ head_last). ≤ℚ_trans _ _ _ (outflow-entered transit capacity amount positive rises starts head_last (amount tail_last) l all_out)
      (rises _ _ (less_nn transit head_last l) h))
      (lt_or_le_ℚ head_last transit)))
      (λ (v : (tail_last ≤ℚ time) × (clipped tail_last time ≡ tail_last)). ap amount v.1)
      (lands tail_last time tail_nn n)

  -- up to the last time of the head
  out-queue : (time : ℚ) → Within 0ℚ head_last time → IsOutflow transit capacity entered time (out time)
  out-queue time w =
      let p : IsOutflow transit capacity amount time (out time) = out_is time w in
      record {
        early = p.early;
        unbounded = λ l none. ⊎_elim
            (λ (v : (time -ℚ transit ≤ℚ tail_last) × (clipped tail_last (time -ℚ transit) ≡ time -ℚ transit)). p.unbounded l none ∙ ap amount (sym v.1))
            (λ (v : (tail_last ≤ℚ time -ℚ transit) × (clipped tail_last (time -ℚ transit) ≡ tail_last)). ≤ℚ_antisymm _ _ (out-most time w)
            (subst (λ (z : ℚ). amount tail_last ≤ℚ z) (sym (p.unbounded l none)) (rises tail_last (time -ℚ transit) tail_nn v.0)) ∙ ap amount (sym v.1))
            (lands tail_last (time -ℚ transit) tail_nn (less_nn transit time l));
        bounded = λ rate l some.
            let k : 0ℚ ≤ℚ rate = ≤ℚ_of_lt _ _ (positive rate some) in
            let g : IsLeast (λ since. amount since +ℚ rate *ℚ (time -ℚ transit -ℚ since)) 0ℚ (time -ℚ transit) (out time) = p.bounded rate l some in
            record {
              taken = (
                g.taken.0,
                g.taken.1,
                ⊎_elim
                    (λ (v : (g.taken.0 ≤ℚ tail_last) × (clipped tail_last g.taken.0 ≡ g.taken.0)). ap (λ (z : ℚ). amount z +ℚ rate *ℚ (time -ℚ transit -ℚ g.taken.0)) v.1 ∙ g.taken.2)
                    (λ (v : (tail_last ≤ℚ g.taken.0) × (clipped tail_last g.taken.0 ≡ tail_last)). ap (λ (z : ℚ). amount z +ℚ rate *ℚ (time -ℚ transit -ℚ g.taken.0)) v.1
                    ∙ just_taken rate (time -ℚ transit) g.taken.0 (amount g.taken.0) (amount tail_last) (out time) k g.taken.1.1 g.taken.2
                    (rises tail_last g.taken.0 tail_nn v.0) (out-most time w))
                    (lands tail_last g.taken.0 tail_nn g.taken.1.0),
              );
              bound = λ t i. ⊎_elim
                  (λ (v : (t ≤ℚ tail_last) × (clipped tail_last t ≡ t)). subst (λ (z : ℚ). out time ≤ℚ amount z +ℚ rate *ℚ (time -ℚ transit -ℚ t)) (sym v.1) (g.bound t i))
                  (λ (v : (tail_last ≤ℚ t) × (clipped tail_last t ≡ tail_last)). subst (λ (z : ℚ). out time ≤ℚ amount z +ℚ rate *ℚ (time -ℚ transit -ℚ t)) (sym v.1)
                  (more_served rate (time -ℚ transit) t (amount tail_last) (out time) k i.1 (out-most time w)))
                  (lands tail_last t tail_nn i.0);
            };
      }

  -- and after it
  last-queue : (time : ℚ) → head_last ≤ℚ time → IsOutflow transit capacity entered time (amount tail_last)
  last-queue time h = record {
    early = λ l. all_out.early (≤_<_trans head_last time transit h l);
    unbounded = λ l none. sym (settled (time -ℚ transit) (less_nn transit time l) (less_le head_last time transit h));
    bounded = λ rate l some.
        let k : 0ℚ ≤ℚ rate = ≤ℚ_of_lt _ _ (positive rate some) in
        let d : 0ℚ ≤ℚ time -ℚ transit = less_nn transit time l in
        record {
          taken = (time -ℚ transit, (d, ≤ℚ_refl _), line_start (time -ℚ transit) (entered (time -ℚ transit)) rate ∙ settled (time -ℚ transit) d (less_le head_last time transit h));
          bound = λ t i. ⊎_elim
              (λ (m : t <ℚ head_last -ℚ transit). ⊎_elim
              (λ (v : (t ≤ℚ tail_last) × (clipped tail_last t ≡ t)). subst (λ (z : ℚ). amount tail_last ≤ℚ amount z +ℚ rate *ℚ (time -ℚ transit -ℚ t)) (sym v.1)
              (served_on rate transit head_last time t (amount t) (amount tail_last) k h
              ((all_out.bounded rate (in_flight transit head_last t i.0 m) some).bound t (i.0, ≤ℚ_of_lt _ _ m))))
              (λ (v : (tail_last ≤ℚ t) × (clipped tail_last t ≡ tail_last)). more_served rate (time -ℚ transit) t (entered t) (amount tail_last) k i.1
              (≤ℚ_of_same _ _ (ap amount (sym v.1))))
              (lands tail_last t tail_nn i.0))
              (λ (m : head_last -ℚ transit ≤ℚ t). more_served rate (time -ℚ transit) t (entered t) (amount tail_last) k i.1 (≤ℚ_of_same _ _ (sym (settled t i.0 m))))
              (lt_or_le_ℚ t (head_last -ℚ transit));
        };
  }

  pub left-queue : (time : ℚ) → 0ℚ ≤ℚ time → IsOutflow transit capacity entered time (left time)
  left-queue time n = ⊎_elim
      (λ (v : (time ≤ℚ head_last) × (clipped head_last time ≡ time)). subst (λ (z : ℚ). IsOutflow transit capacity entered time z) (ap out (sym v.1)) (out-queue time (n, v.0)))
      (λ (v : (head_last ≤ℚ time) × (clipped head_last time ≡ head_last)). subst (λ (z : ℚ). IsOutflow transit capacity entered time z)
      (sym (ap out v.1 ∙ out-last)) (last-queue time v.0))
      (lands head_last time head_nn n)
