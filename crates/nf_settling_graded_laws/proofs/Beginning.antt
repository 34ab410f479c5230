-- A supply exists, for bounded capacities. A walk from the source to the sink carries the rate. All nodes but the source have one level, so
-- great that the capacities suffice. The open links out of the source are full.
use Rattle.std.proofs.Common.{◌≡◌, ◌≢◌, ℕ, ◌<◌, if◌then◌else◌, List, [], ◌∷◌, inl, inr, ⊎_elim, Bool, true, false, eqb, Option, Some, None, slice_get, sym, ap, subst, refl, ◌∙◌}
use Rattle.std.proofs.lemmas.Bool.Decides.{eqb_tells}
use Rattle.std.proofs.lemmas.Option.{same_Some}
use Rattle.nf_settling_graded_laws.proofs.Common.{ℚ, 0ℚ, 1ℚ, ◌+ℚ◌, ◌-ℚ◌, ◌*ℚ◌, ◌/ℚ◌, ◌≤ℚ◌, ◌<ℚ◌, reading_of, ≤ℚ_of_same, ≤ℚ_of_lt, nn_times, nn_plus, ≤ℚ_refl}
use Rattle.nf_settling_graded_laws.proofs.Common.{≤ℚ_trans, le, eq, le_times, linear_le, Link, Network, IsLink, IsNetwork, hops, sum_in, sum_out, only_at}
use Rattle.nf_settling_graded_laws.proofs.Common.{only_at-here, only_at-else, sum_in-none, sum_out-none, sum_in-order, sum_out-same, Fits, demand, Decided}
use Rattle.nf_settling_graded_laws.proofs.Common.{same_node, spare, pushed, pushed-cases, spare-else, spare-head, spare-tail}
use Rattle.nf_model.specs.Walk.{IsWalk}
use Rattle.nf_model_laws.proofs.Affine.{nn-quotient, quotient-times}
use Rattle.nf_model_laws.proofs.Networks.{IsWalk-starts, StartsWith}
use Rattle.nf_complete_laws.proofs.NoExcess.{demand-else, demand-sink}
use Rattle.nf_complete_laws.proofs.Pushing.{pushed-link}
use Rattle.nf_settling_laws.specs.Excess.{link_sum}
use Rattle.nf_settling_laws.proofs.Terms.{link_sum-one, link_sum-not_negative}
use Rattle.nf_settling_graded_laws.proofs.Supplies.{only_at-nn, IsOpen, open_or_not, IsSupply}

-- ---- the rate, carried from a node to the sink along a walk
-- With the rate added at the node v, no node but the source lacks anything.
pub record IsRoute (net : Network) (rate : ℚ) (v : ℕ) (flows : ℕ → ℚ) : Type 0 where
  pub not_negative : (e : ℕ) → 0ℚ ≤ℚ flows e
  pub shut : (e : ℕ) (link : Link) → IsLink net e link → (IsOpen net link → ⊥) → flows e ≡ 0ℚ
  pub enough : (w : ℕ) → w ≢ net.source → 0ℚ ≤ℚ spare net rate flows w +ℚ only_at v rate w

module _ (net : Network) (good : IsNetwork net) (rate : ℚ) (nn : 0ℚ ≤ℚ rate) where
  demand-is : (w : ℕ) → demand net rate w ≡ only_at net.sink rate w
  demand-is w = ⊎_elim
      (λ (k : w ≡ net.sink). subst (λ (j : ℕ). demand net rate j ≡ only_at net.sink rate j) (sym k) (demand-sink net rate ∙ sym (only_at-here net.sink rate)))
      (λ (k : w ≢ net.sink). demand-else net rate w k ∙ sym (only_at-else net.sink rate w (λ e. k (sym e))))
      (same_node w net.sink)

  at_sink : IsRoute net rate net.sink (λ e. 0ℚ)
  at_sink = record {
    not_negative = λ e. ≤ℚ_refl 0ℚ;
    shut = λ e link p n. refl;
    enough = λ w _. nothing _ _ _ _ (sum_in-none net.links w) (sum_out-none net.links w) (demand-is w);
  }
    where
      nothing : (i o d a : ℚ) → i ≡ 0ℚ → o ≡ 0ℚ → d ≡ a → 0ℚ ≤ℚ (i -ℚ (o +ℚ d)) +ℚ a
      nothing i o d a e f g = linear_le (i ∷ o ∷ d ∷ a ∷ []) (eq e ∷ eq f ∷ eq g ∷ []) (search reading_of) tt

  -- ---- one more link, from v on
  module _ (e : ℕ) (link : Link) (p : IsLink net e link) (flows : ℕ → ℚ) (r : IsRoute net rate link.head flows) where
    -- A shut link carries nothing: it leads back to its tail, or to the source.
    shut_step : (IsOpen net link → ⊥) → IsRoute net rate link.tail flows
    shut_step n = record {
      not_negative = r.not_negative;
      shut = r.shut;
      enough = λ w other. ⊎_elim
          (λ (k : link.head ≡ link.tail). subst (λ (j : ℕ). 0ℚ ≤ℚ spare net rate flows w +ℚ only_at j rate w) k (r.enough w other))
          (λ (k : link.head ≢ link.tail). ⊎_elim
          (λ (m : link.head ≡ net.source). from_source _ _ _ (only_at-else link.head rate w (λ j. other (sym j ∙ m)))
          (r.enough w other) (only_at-nn link.tail rate nn w))
          (λ (m : link.head ≢ net.source). absurd (n (k, m)))
          (same_node link.head net.source))
          (same_node link.head link.tail);
    }
      where
        from_source : (s a b : ℚ) → a ≡ 0ℚ → 0ℚ ≤ℚ s +ℚ a → 0ℚ ≤ℚ b → 0ℚ ≤ℚ s +ℚ b
        from_source s a b e h k = linear_le (s ∷ a ∷ b ∷ []) (eq e ∷ le h ∷ le k ∷ []) (search reading_of) tt

    abbrev new : ℕ → ℚ
    new = pushed net rate flows e link p rate

    open_step : IsOpen net link → IsRoute net rate link.tail new
    open_step is_open = record {
      not_negative = λ k. ⊎_elim
          (λ (w : (k ≡ e) × (new k ≡ flows e +ℚ rate)). subst (λ (z : ℚ). 0ℚ ≤ℚ z) (sym w.1) (nn_plus _ _ (r.not_negative e) nn))
          (λ (w : (k ≢ e) × (new k ≡ flows k)). subst (λ (z : ℚ). 0ℚ ≤ℚ z) (sym w.1) (r.not_negative k))
          (pushed-cases net rate flows e link p rate k);
      shut = pushed-link net rate flows e link p rate (λ k other x. (IsOpen net other → ⊥) → x ≡ 0ℚ) (λ n. absurd (n is_open)) r.shut;
      enough = λ w other. ⊎_elim
          (λ (k : w ≡ link.head). subst (λ (j : ℕ). 0ℚ ≤ℚ spare net rate new j +ℚ only_at link.tail rate j) (sym k)
          (at_head _ _ _ _ (spare-head net rate flows e link p rate is_open.0) (only_at-here link.head rate)
          (r.enough link.head (λ m. other (k ∙ m))) (only_at-nn link.tail rate nn link.head)))
          (λ (k : w ≢ link.head). ⊎_elim
          (λ (m : w ≡ link.tail). subst (λ (j : ℕ). 0ℚ ≤ℚ spare net rate new j +ℚ only_at link.tail rate j) (sym m)
          (at_tail _ _ _ _ (spare-tail net rate flows e link p rate is_open.0) (only_at-else link.head rate link.tail is_open.0)
          (only_at-here link.tail rate) (r.enough link.tail (λ j. other (m ∙ j)))))
          (λ (m : w ≢ link.tail). elsewhere _ _ _ _ (spare-else net rate flows e link p rate w k m) (only_at-else link.head rate w (λ j. k (sym j)))
          (r.enough w other) (only_at-nn link.tail rate nn w))
          (same_node w link.tail))
          (same_node w link.head);
    }
      where
        at_head : (s t a b : ℚ) → t ≡ s +ℚ rate → a ≡ rate → 0ℚ ≤ℚ s +ℚ a → 0ℚ ≤ℚ b → 0ℚ ≤ℚ t +ℚ b
        at_head s t a b e f h k = linear_le (s ∷ t ∷ a ∷ b ∷ rate ∷ []) (eq e ∷ eq f ∷ le h ∷ le k ∷ []) (search reading_of) tt

        at_tail : (s t a b : ℚ) → t ≡ s -ℚ rate → a ≡ 0ℚ → b ≡ rate → 0ℚ ≤ℚ s +ℚ a → 0ℚ ≤ℚ t +ℚ b
        at_tail s t a b e f g h = linear_le (s ∷ t ∷ a ∷ b ∷ rate ∷ []) (eq e ∷ eq f ∷ eq g ∷ le h ∷ []) (search reading_of) tt

        elsewhere : (s t a b : ℚ) → t ≡ s → a ≡ 0ℚ → 0ℚ ≤ℚ s +ℚ a → 0ℚ ≤ℚ b → 0ℚ ≤ℚ t +ℚ b
        elsewhere s t a b e f h k = linear_le (s ∷ t ∷ a ∷ b ∷ []) (eq e ∷ eq f ∷ le h ∷ le k ∷ []) (search reading_of) tt

    step : (new_flows : ℕ → ℚ) × IsRoute net rate link.tail new_flows
    step = ⊎_elim
        (λ (o : IsOpen net link). (new, open_step o))
        (λ (n : IsOpen net link → ⊥). (flows, shut_step n))
        (open_or_not net link)

  route : (walk : List ℕ) (v : ℕ) → IsWalk (hops net) walk v net.sink → (flows : ℕ → ℚ) × IsRoute net rate v flows
  route [] v t = (λ e. 0ℚ, subst (λ (k : ℕ). IsRoute net rate k (λ e. 0ℚ)) (sym t) at_sink)
  route (e ∷ walk) v t =
      let first : StartsWith net e walk v net.sink = IsWalk-starts net e walk v net.sink t in
      let rest : (flows : ℕ → ℚ) × IsRoute net rate first.link.head flows = route walk first.link.head first.rest in
      let all : (flows : ℕ → ℚ) × IsRoute net rate first.link.tail flows = step e first.link first.is_link rest.0 rest.1 in
      (all.0, subst (λ (k : ℕ). IsRoute net rate k all.0) first.tail all.1)

  -- ---- the supply: `size` gives the capacity of each link
  module _ (size : Link → ℚ) (size_ps : (e : ℕ) (link : Link) → IsLink net e link → 0ℚ <ℚ size link) (flows : ℕ → ℚ)
      (r : IsRoute net rate net.source flows) where
    abbrev height : ℚ
    height = 1ℚ +ℚ link_sum net.links (λ e link. flows e /ℚ size link)

    abbrev level_by : Bool → ℚ
    level_by b = if b then 1ℚ else height

    abbrev levels : ℕ → ℚ
    levels v = level_by (eqb v net.source)

    quotient_nn : (e : ℕ) (link : Link) → IsLink net e link → 0ℚ ≤ℚ flows e /ℚ size link
    quotient_nn e link p = nn-quotient (flows e) (size link) (r.not_negative e) (size_ps e link p)

    height_one : 1ℚ ≤ℚ height
    height_one = more _ (link_sum-not_negative net.links (λ e link. flows e /ℚ size link) quotient_nn)
      where
        more : (s : ℚ) → 0ℚ ≤ℚ s → 1ℚ ≤ℚ 1ℚ +ℚ s
        more s h = linear_le (s ∷ []) (le h ∷ []) (search reading_of) tt

    height_nn : 0ℚ ≤ℚ height
    height_nn = ≤ℚ_trans _ _ _ (linear_le [] [] (search reading_of) tt) height_one

    fits_in : (e : ℕ) (link : Link) → IsLink net e link → flows e ≤ℚ size link *ℚ height
    fits_in e link p = within (flows e) (flows e /ℚ size link) (size link) _ (quotient-times (flows e) (size link) (size_ps e link p))
        (link_sum-one net.links (λ e link. flows e /ℚ size link) quotient_nn e link p) (≤ℚ_of_lt _ _ (size_ps e link p))
      where
        within : (x q c s : ℚ) → q *ℚ c ≡ x → q ≤ℚ s → 0ℚ ≤ℚ c → x ≤ℚ c *ℚ (1ℚ +ℚ s)
        within x q c s e h n = linear_le (x ∷ q ∷ c ∷ s ∷ []) (eq e ∷ le_times n h ∷ le n ∷ []) (search reading_of) tt

    level_source : levels net.source ≡ 1ℚ
    level_source = ⊎_elim
        (λ (w : (eqb net.source net.source ≡ true) × (net.source ≡ net.source)). ap level_by w.0)
        (λ (w : (eqb net.source net.source ≡ false) × (net.source ≢ net.source)). absurd (w.1 refl))
        (eqb_tells net.source net.source)

    level_else : (v : ℕ) → v ≢ net.source → levels v ≡ height
    level_else v other = ⊎_elim
        (λ (w : (eqb v net.source ≡ true) × (v ≡ net.source)). absurd (other w.1))
        (λ (w : (eqb v net.source ≡ false) × (v ≢ net.source)). ap level_by w.0)
        (eqb_tells v net.source)

    keeps_up : (v : ℕ) → v < net.nodes → 1ℚ ≤ℚ levels v
    keeps_up v h = ⊎_elim
        (λ (k : v ≡ net.source). ≤ℚ_of_same _ _ (sym (ap levels k ∙ level_source)))
        (λ (k : v ≢ net.source). subst (λ (z : ℚ). 1ℚ ≤ℚ z) (sym (level_else v k)) height_one)
        (same_node v net.source)

    -- An open link out of the source is full.
    abbrev filled_by : {A : Type 0} → Decided A → Bool → ℚ → ℚ → ℚ
    filled_by (inl a) true full x = full
    filled_by (inl a) false full x = x
    filled_by (inr n) b full x = x

    abbrev started_by : Option Link → ℚ → ℚ
    started_by None x = x
    started_by (Some link) x = filled_by (open_or_not net link) (eqb link.tail net.source) (size link *ℚ height) x

    abbrev started : ℕ → ℚ
    started e = started_by (slice_get net.links e) (flows e)

    filled_by-full : {A : Type 0} (d : Decided A) (full x : ℚ) → A → filled_by d true full x ≡ full
    filled_by-full (inl a) full x b = refl
    filled_by-full (inr n) full x b = absurd (n b)

    filled_by-not : {A : Type 0} (d : Decided A) (b : Bool) (full x : ℚ) → (A → ⊥) → filled_by d b full x ≡ x
    filled_by-not (inl a) b full x n = absurd (n a)
    filled_by-not (inr m) b full x n = refl

    filled_by-else : {A : Type 0} (d : Decided A) (full x : ℚ) → filled_by d false full x ≡ x
    filled_by-else (inl a) full x = refl
    filled_by-else (inr n) full x = refl

    filled_by-ge : {A : Type 0} (d : Decided A) (b : Bool) (full x : ℚ) → x ≤ℚ full → x ≤ℚ filled_by d b full x
    filled_by-ge (inl a) true full x h = h
    filled_by-ge (inl a) false full x h = ≤ℚ_refl x
    filled_by-ge (inr n) b full x h = ≤ℚ_refl x

    module _ (e : ℕ) (link : Link) (p : IsLink net e link) where
      started-is : started e ≡ filled_by (open_or_not net link) (eqb link.tail net.source) (size link *ℚ height) (flows e)
      started-is = ap (λ (o : Option Link). started_by o (flows e)) p

      started-ge : flows e ≤ℚ started e
      started-ge = subst (λ (z : ℚ). flows e ≤ℚ z) (sym started-is)
          (filled_by-ge (open_or_not net link) (eqb link.tail net.source) (size link *ℚ height) (flows e) (fits_in e link p))

      started-shut : (IsOpen net link → ⊥) → started e ≡ 0ℚ
      started-shut n = started-is ∙ filled_by-not (open_or_not net link) (eqb link.tail net.source) (size link *ℚ height) (flows e) n ∙ r.shut e link p n

      started-else : link.tail ≢ net.source → started e ≡ flows e
      started-else other = ⊎_elim
          (λ (w : (eqb link.tail net.source ≡ true) × (link.tail ≡ net.source)). absurd (other w.1))
          (λ (w : (eqb link.tail net.source ≡ false) × (link.tail ≢ net.source)).
          started-is ∙ ap (λ (b : Bool). filled_by (open_or_not net link) b (size link *ℚ height) (flows e)) w.0
          ∙ filled_by-else (open_or_not net link) (size link *ℚ height) (flows e))
          (eqb_tells link.tail net.source)

      started-full : link.tail ≡ net.source → IsOpen net link → started e ≡ size link *ℚ height
      started-full at o = ⊎_elim
          (λ (w : (eqb link.tail net.source ≡ true) × (link.tail ≡ net.source)).
          started-is ∙ ap (λ (b : Bool). filled_by (open_or_not net link) b (size link *ℚ height) (flows e)) w.0
          ∙ filled_by-full (open_or_not net link) (size link *ℚ height) (flows e) o)
          (λ (w : (eqb link.tail net.source ≡ false) × (link.tail ≢ net.source)). absurd (w.1 at))
          (eqb_tells link.tail net.source)

      full_fits : (x s : ℚ) → x ≡ size link *ℚ height → s ≡ 1ℚ → Fits (Some (size link)) x s height
      full_fits x s f g = record {
        no_negative = subst (λ (z : ℚ). 0ℚ ≤ℚ z) (sym f) (nn_times _ _ (≤ℚ_of_lt _ _ (size_ps e link p)) height_nn);
        most = λ c k. ≤ℚ_of_same _ _ (f ∙ ap (λ (z : ℚ). z *ℚ height) (same_Some (size link) c k));
        used = inr (subst (λ (z : ℚ). z ≤ℚ height) (sym g) height_one);
        upper = inr (size link, refl, ≤ℚ_of_same _ _ (sym f));
      }

      level_fits : (x s : ℚ) → x ≡ flows e → s ≡ height → Fits (Some (size link)) x s height
      level_fits x s f g = record {
        no_negative = subst (λ (z : ℚ). 0ℚ ≤ℚ z) (sym f) (r.not_negative e);
        most = λ c k. subst (λ (z : ℚ). x ≤ℚ z *ℚ height) (same_Some (size link) c k) (subst (λ (z : ℚ). z ≤ℚ size link *ℚ height) (sym f) (fits_in e link p));
        used = inr (≤ℚ_of_same _ _ g);
        upper = inl (≤ℚ_of_same _ _ (sym g));
      }

      started-fits : IsOpen net link → Fits (Some (size link)) (started e) (levels link.tail) (levels link.head)
      started-fits o = subst (λ (z : ℚ). Fits (Some (size link)) (started e) (levels link.tail) z) (sym (level_else link.head o.1)) (⊎_elim
          (λ (k : link.tail ≡ net.source). full_fits (started e) (levels link.tail) (started-full k o) (ap levels k ∙ level_source))
          (λ (k : link.tail ≢ net.source). level_fits (started e) (levels link.tail) (started-else k) (level_else link.tail k))
          (same_node link.tail net.source))

    IsSupply-started : IsSupply net (λ link. Some (size link)) rate started levels
    IsSupply-started = record {
      starts = level_source;
      keeps_up = keeps_up;
      idle = started-shut;
      fits = started-fits;
      enough = λ v h other. enough_by (sum_in net.links flows v) (sum_out net.links flows v) (demand net rate v) _ _ _
          (sum_out-same net.links started flows v (λ e link p at. started-else e link p (λ k. other (sym at ∙ k))))
          (sum_in-order net.links flows started v (λ e link p _. started-ge e link p)) (only_at-else net.source rate v (λ k. other (sym k))) (r.enough v other);
    }
      where
        enough_by : (i o d p q a : ℚ) → p ≡ o → i ≤ℚ q → a ≡ 0ℚ → 0ℚ ≤ℚ (i -ℚ (o +ℚ d)) +ℚ a → p +ℚ d ≤ℚ q
        enough_by i o d p q a e h f k = linear_le (i ∷ o ∷ d ∷ p ∷ q ∷ a ∷ []) (eq e ∷ le h ∷ eq f ∷ le k ∷ []) (search reading_of) tt

  pub supply_exists : (size : Link → ℚ) → ((e : ℕ) (link : Link) → IsLink net e link → 0ℚ <ℚ size link)
      → (flows : ℕ → ℚ) × (levels : ℕ → ℚ) × IsSupply net (λ link. Some (size link)) rate flows levels
  supply_exists size size_ps =
      let walk : (walk : List ℕ) × IsWalk (hops net) walk net.source net.sink = good.reached net.sink good.sink in
      let w : (flows : ℕ → ℚ) × IsRoute net rate net.source flows = route walk.0 net.source walk.1 in
      (started size size_ps w.0 w.1, levels size size_ps w.0 w.1, IsSupply-started size size_ps w.0 w.1)
