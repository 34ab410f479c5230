-- Pushes of excess along links whose ends have equal levels: they end with flows whose nodes with excess are closed.
use Rattle.std.proofs.Common.{◌≡◌, ◌≢◌, ℕ, zero, suc, ◌<◌, ◌≤◌, [], ◌∷◌, ◌⊎◌, inl, inr, ⊎_elim, Option, sym, ap, subst, refl, ◌∙◌, arith}
use Rattle.nf_complete_laws.proofs.Common.{ℚ, 0ℚ, ◌+ℚ◌, ◌-ℚ◌, ◌≤ℚ◌, ◌<ℚ◌, reading_of, ≤ℚ_of_lt, le, lt, eq, linear_le, linear_lt, linear_eq, nn_less_part}
use Rattle.nf_complete_laws.proofs.Common.{less_some_le, Link, Network, IsLink, IsNetwork}
use Rattle.nf_complete_laws.proofs.Deciding.{Decided, both, same_or_not, NoLink}
use Rattle.nf_complete_laws.proofs.Bare.{same_node}
use Rattle.nf_complete_laws.proofs.ExistsDeciding.{not_so, unless, less_or_not, SomeLink, some_link}
use Rattle.nf_complete_laws.proofs.Fitting.{IsAtMost, HasRoom, room_or_not}
use Rattle.nf_complete_laws.proofs.Small.{Small, Small-bound, Small-both, Small-at_most, Small-below, Small-room}
use Rattle.nf_complete_laws.proofs.Spare.{spare, HasSpare, spare_or_not, spare_of_enough}
use Rattle.nf_complete_laws.proofs.Serving.{Serves, IsClosed}
use Rattle.nf_complete_laws.proofs.Pushing.{pushed, spare-else, spare-head, spare-tail, Serves-pushed}
use Rattle.nf_complete_laws.proofs.Counting.{lack, lack-le, lack-lt, count_to, count_to-lt}

left_over : (s t a : ℚ) → t ≡ s -ℚ a → a <ℚ s → 0ℚ <ℚ t
left_over s t a e h = linear_lt (s ∷ t ∷ a ∷ []) (eq e ∷ lt h ∷ []) (search reading_of) tt

gained : (s t a : ℚ) → t ≡ s +ℚ a → 0ℚ ≤ℚ s → 0ℚ <ℚ a → 0ℚ <ℚ t
gained s t a e h k = linear_lt (s ∷ t ∷ a ∷ []) (eq e ∷ le h ∷ lt k ∷ []) (search reading_of) tt

more_flow : (x a : ℚ) → 0ℚ ≤ℚ x → 0ℚ <ℚ a → 0ℚ ≤ℚ x +ℚ a
more_flow x a h k = linear_le (x ∷ a ∷ []) (le h ∷ lt k ∷ []) (search reading_of) tt

plus_less : (s t a : ℚ) → t ≡ s +ℚ (0ℚ -ℚ a) → t ≡ s -ℚ a
plus_less s t a e = linear_eq (s ∷ t ∷ a ∷ []) (eq e ∷ []) (search reading_of) tt tt

less_less : (s t a : ℚ) → t ≡ s -ℚ (0ℚ -ℚ a) → t ≡ s +ℚ a
less_less s t a e = linear_eq (s ∷ t ∷ a ∷ []) (eq e ∷ []) (search reading_of) tt tt

module _ (net : Network) (cap : Link → Option ℚ) (rate floor : ℚ) (Idle Free : ℕ → Link → Type 0) (levels : ℕ → ℚ) (good : IsNetwork net)
    (free_or_not : (e : ℕ) (link : Link) → Decided (Free e link)) (busy : (e : ℕ) (link : Link) → Free e link → Idle e link → ⊥)
    (leads : (e : ℕ) (link : Link) → IsLink net e link → Free e link → (link.head ≢ link.tail) × (link.head ≢ net.source)) where
  abbrev Serve : (ℕ → ℚ) → Type 0
  Serve flows = Serves net cap rate floor Idle Free flows levels

  -- ---- a push on a free link whose ends have equal levels
  module _ (flows : ℕ → ℚ) (serves : Serve flows) (e : ℕ) (link : Link) (p : IsLink net e link) (free : Free e link)
      (level : levels link.head ≡ levels link.tail) where
    apart : link.head ≢ link.tail
    apart = (leads e link p free).0

    -- A change of the link's flow by d moves the amount a of excess from one node to another.
    record Moves (d : ℚ) (giver gainer : ℕ) (a : ℚ) : Type 0 where
      above : 0ℚ <ℚ a
      less : a <ℚ spare net rate flows giver
      no_negative : 0ℚ ≤ℚ flows e +ℚ d
      most : IsAtMost (cap link) (flows e +ℚ d) (levels link.head)
      gives : spare net rate (pushed net rate flows e link p d) giver ≡ spare net rate flows giver -ℚ a
      gains : spare net rate (pushed net rate flows e link p d) gainer ≡ spare net rate flows gainer +ℚ a
      others : (v : ℕ) → v ≢ giver → v ≢ gainer → spare net rate (pushed net rate flows e link p d) v ≡ spare net rate flows v

    module _ (d : ℚ) (giver gainer : ℕ) (a : ℚ) (moves : Moves d giver gainer a) where
      abbrev new : ℕ → ℚ
      new = pushed net rate flows e link p d

      spare-not_negative : (v : ℕ) → v < net.nodes → v ≢ net.source → 0ℚ ≤ℚ spare net rate flows v
      spare-not_negative v l other = spare_of_enough _ _ _ (serves.enough v l other)

      at_gainer : gainer < net.nodes → gainer ≢ net.source → 0ℚ <ℚ spare net rate new gainer
      at_gainer l other = gained (spare net rate flows gainer) _ a moves.gains (spare-not_negative gainer l other) moves.above

      by_node : (P : ℚ → Type 0) (v : ℕ) → v < net.nodes → v ≢ net.source → ((z : ℚ) → 0ℚ <ℚ z → P z) → P (spare net rate flows v) → P (spare net rate new v)
      by_node P v l other positive same = ⊎_elim
          (λ (k : v ≡ giver). subst (λ (j : ℕ). P (spare net rate new j)) (sym k)
          (positive _ (left_over (spare net rate flows giver) _ a moves.gives moves.less)))
          (λ (k : v ≢ giver). ⊎_elim
          (λ (m : v ≡ gainer). subst (λ (j : ℕ). P (spare net rate new j)) (sym m)
          (positive _ (at_gainer (subst (λ (j : ℕ). j < net.nodes) m l) (λ s. other (m ∙ s)))))
          (λ (m : v ≢ gainer). subst P (sym (moves.others v k m)) same)
          (same_node v gainer))
          (same_node v giver)

      Serve-moved : Serve new
      Serve-moved = Serves-pushed net rate flows e link p d cap floor Idle Free levels serves (busy e link free) level moves.no_negative moves.most
          (λ v l other. by_node (λ (z : ℚ). 0ℚ ≤ℚ z) v l other (λ z k. ≤ℚ_of_lt _ _ k) (spare-not_negative v l other))

    forth : HasRoom (cap link) (flows e) (levels link.head) → HasSpare net rate flows link.tail → (a : ℚ) × Moves a link.tail link.head a
    forth room s =
        let small : Small (λ h. (h <ℚ spare net rate flows link.tail) × IsAtMost (cap link) (flows e +ℚ h) (levels link.head))
        = Small-both (λ h. h <ℚ spare net rate flows link.tail) (λ h. IsAtMost (cap link) (flows e +ℚ h) (levels link.head))
        (Small-below (spare net rate flows link.tail) s.1) (Small-room (cap link) (flows e) (levels link.head) room) in
        let a : ℚ = small.bound in
        let at_most : (a <ℚ spare net rate flows link.tail) × IsAtMost (cap link) (flows e +ℚ a) (levels link.head) = Small-bound _ small in (
          a,
          record {
            above = small.positive;
            less = at_most.0;
            no_negative = more_flow (flows e) a (serves.fits e link p free).no_negative small.positive;
            most = at_most.1;
            gives = spare-tail net rate flows e link p a apart;
            gains = spare-head net rate flows e link p a apart;
            others = λ v t h. spare-else net rate flows e link p a v h t;
          },
        )

    back : 0ℚ <ℚ flows e → HasSpare net rate flows link.head → (a : ℚ) × Moves (0ℚ -ℚ a) link.head link.tail a
    back some s =
        let small : Small (λ h. (h <ℚ spare net rate flows link.head) × (h ≤ℚ flows e))
        = Small-both (λ h. h <ℚ spare net rate flows link.head) (λ h. h ≤ℚ flows e)
        (Small-below (spare net rate flows link.head) s.1) (Small-at_most (flows e) some) in
        let a : ℚ = small.bound in
        let at_most : (a <ℚ spare net rate flows link.head) × (a ≤ℚ flows e) = Small-bound _ small in (
          a,
          record {
            above = small.positive;
            less = at_most.0;
            no_negative = nn_less_part (flows e) a at_most.1;
            most = λ c k. less_some_le (flows e) a _ small.positive ((serves.fits e link p free).most c k);
            gives = plus_less _ _ a (spare-head net rate flows e link p (0ℚ -ℚ a) apart);
            gains = less_less _ _ a (spare-tail net rate flows e link p (0ℚ -ℚ a) apart);
            others = λ v h t. spare-else net rate flows e link p (0ℚ -ℚ a) v h t;
          },
        )

    -- Less flow into a node with excess suffices.
    pub Serve-less : 0ℚ <ℚ flows e → HasSpare net rate flows link.head → (a : ℚ) × (0ℚ <ℚ a) × Serve (pushed net rate flows e link p (0ℚ -ℚ a))
    Serve-less some s =
        let b : (a : ℚ) × Moves (0ℚ -ℚ a) link.head link.tail a = back some s in
        (b.0, b.1.above, Serve-moved (0ℚ -ℚ b.0) link.head link.tail b.0 b.1)

  -- ---- flows with a property that such pushes keep, if the link does not leave the source
  abbrev KeptBy : ((ℕ → ℚ) → Type 0) → (flows : ℕ → ℚ) (e : ℕ) (link : Link) → IsLink net e link → ℚ → Type 0
  KeptBy Kept flows e link p d = Serve (pushed net rate flows e link p d)
      → ((v : ℕ) → HasSpare net rate (pushed net rate flows e link p d) v → (w : ℕ) × HasSpare net rate flows w × (levels v ≡ levels w))
      → Kept (pushed net rate flows e link p d)

  module _ (Kept : (ℕ → ℚ) → Type 0) (serves : (flows : ℕ → ℚ) → Kept flows → Serve flows)
      (not_source : (flows : ℕ → ℚ) → Kept flows → (e : ℕ) (link : Link) → IsLink net e link → Free e link → levels link.head ≡ levels link.tail → 0ℚ <ℚ flows e
      → HasSpare net rate flows link.head → link.tail ≢ net.source)
      (kept : (flows : ℕ → ℚ) → Kept flows → (e : ℕ) (link : Link) (p : IsLink net e link) (d : ℚ) → Free e link → link.tail ≢ net.source
      → KeptBy Kept flows e link p d) where
    -- One more node has excess.
    record Grows (flows : ℕ → ℚ) : Type 0 where
      new : ℕ → ℚ
      kept_flow : Kept new
      keeps : (v : ℕ) → v < net.nodes → HasSpare net rate flows v → HasSpare net rate new v
      node : ℕ
      is_node : node < net.nodes
      had_none : HasSpare net rate flows node → ⊥
      has_some : HasSpare net rate new node

    module _ (flows : ℕ → ℚ) (f : Kept flows) where
      module _ (e : ℕ) (link : Link) (p : IsLink net e link) (free : Free e link) (level : levels link.head ≡ levels link.tail) where
        grown : (d : ℚ) (giver gainer : ℕ) (a : ℚ) → Moves flows (serves flows f) e link p free level d giver gainer a → HasSpare net rate flows giver
            → gainer < net.nodes → gainer ≢ net.source → (HasSpare net rate flows gainer → ⊥)
            → levels gainer ≡ levels giver → link.tail ≢ net.source → Grows flows
        grown d giver gainer a moves has is_node other had_none one_level from_source = record {
          new = pushed net rate flows e link p d;
          kept_flow = kept flows f e link p d free from_source (Serve-moved flows (serves flows f) e link p free level d giver gainer a moves) (λ v s. ⊎_elim
              (λ (k : v ≡ giver). (giver, has, ap levels k))
              (λ (k : v ≢ giver). ⊎_elim
              (λ (m : v ≡ gainer). (giver, has, ap levels m ∙ one_level))
              (λ (m : v ≢ gainer). (v, (s.0, subst (λ (z : ℚ). 0ℚ <ℚ z) (moves.others v k m) s.1), refl))
              (same_node v gainer))
              (same_node v giver));
          keeps = λ v l s. (s.0, by_node flows (serves flows f) e link p free level d giver gainer a moves (λ (z : ℚ). 0ℚ <ℚ z) v l s.0 (λ z k. k) s.1);
          node = gainer;
          is_node = is_node;
          had_none = had_none;
          has_some = (other, at_gainer flows (serves flows f) e link p free level d giver gainer a moves is_node other);
        }

        push_forth : HasRoom (cap link) (flows e) (levels link.head) → HasSpare net rate flows link.tail → (HasSpare net rate flows link.head → ⊥) → Grows flows
        push_forth room s none =
            let m : (a : ℚ) × Moves flows (serves flows f) e link p free level a link.tail link.head a
            = forth flows (serves flows f) e link p free level room s in
            grown m.0 link.tail link.head m.0 m.1 s (good.heads e link p) (leads e link p free).1 none level s.0

        push_back : 0ℚ <ℚ flows e → HasSpare net rate flows link.head → (HasSpare net rate flows link.tail → ⊥) → Grows flows
        push_back some s none =
            let m : (a : ℚ) × Moves flows (serves flows f) e link p free level (0ℚ -ℚ a) link.head link.tail a
            = back flows (serves flows f) e link p free level some s in
            let n : link.tail ≢ net.source = not_source flows f e link p free level some s in
            grown (0ℚ -ℚ m.0) link.head link.tail m.0 m.1 s (good.tails e link p) n none (sym level) n

      -- ---- a push is possible along some link, or the nodes with excess are closed
      abbrev Level : ℕ → Link → Type 0
      Level e link = Free e link × (levels link.head ≡ levels link.tail)

      abbrev Forth : ℕ → Link → Type 0
      Forth e link = Level e link
          × (HasRoom (cap link) (flows e) (levels link.head) × (HasSpare net rate flows link.tail × (HasSpare net rate flows link.head → ⊥)))

      abbrev Back : ℕ → Link → Type 0
      Back e link = Level e link × ((0ℚ <ℚ flows e) × (HasSpare net rate flows link.head × (HasSpare net rate flows link.tail → ⊥)))

      level_or_not : (e : ℕ) (link : Link) → Decided (Level e link)
      level_or_not e link = both (free_or_not e link) (same_or_not (levels link.head) (levels link.tail))

      forth_or_not : (e : ℕ) (link : Link) → Decided (Forth e link)
      forth_or_not e link = both (level_or_not e link) (both (room_or_not (cap link) (flows e) (levels link.head))
          (both (spare_or_not net rate flows link.tail) (not_so (spare_or_not net rate flows link.head))))

      back_or_not : (e : ℕ) (link : Link) → Decided (Back e link)
      back_or_not e link = both (level_or_not e link) (both (less_or_not 0ℚ (flows e)) (both (spare_or_not net rate flows link.head) (not_so (spare_or_not net rate flows link.tail))))

      closed_by : NoLink net.links Forth → NoLink net.links Back → IsClosed net cap rate Free flows levels
      closed_by no_forth no_back = record {
        forth = λ e link p n l room s. unless (spare_or_not net rate flows link.head) (λ k. no_forth e link p ((n, l), (room, (s, k))));
        back = λ e link p n l some s. unless (spare_or_not net rate flows link.tail) (λ k. no_back e link p ((n, l), (some, (s, k))));
      }

      step : IsClosed net cap rate Free flows levels ⊎ Grows flows
      step = ⊎_elim
          (λ (w : SomeLink net.links Forth). inr (push_forth w.0 w.1 w.2 w.3.0.0 w.3.0.1 w.3.1.0 w.3.1.1.0 w.3.1.1.1))
          (λ (no_forth : NoLink net.links Forth). ⊎_elim
          (λ (w : SomeLink net.links Back). inr (push_back w.0 w.1 w.2 w.3.0.0 w.3.0.1 w.3.1.0 w.3.1.1.0 w.3.1.1.1))
          (λ (no_back : NoLink net.links Back). inl (closed_by no_forth no_back))
          (some_link net.links Back back_or_not))
          (some_link net.links Forth forth_or_not)

    -- ---- pushes until they are closed
    abbrev lacking : (ℕ → ℚ) → ℕ
    lacking flows = count_to net.nodes (λ v. lack (spare_or_not net rate flows v))

    fewer : (flows : ℕ → ℚ) (g : Grows flows) → lacking g.new < lacking flows
    fewer flows g = count_to-lt net.nodes (λ v. lack (spare_or_not net rate g.new v)) (λ v. lack (spare_or_not net rate flows v))
        (λ v l. lack-le (spare_or_not net rate flows v) (spare_or_not net rate g.new v) (g.keeps v l))
        g.node g.is_node (lack-lt (spare_or_not net rate flows g.node) (spare_or_not net rate g.new g.node) g.had_none g.has_some)

    abbrev pub Grown : Type 0
    Grown = (flows : ℕ → ℚ) × Kept flows × IsClosed net cap rate Free flows levels

    grow_within : (k : ℕ) (flows : ℕ → ℚ) → Kept flows → lacking flows ≤ k → Grown
    grow_within zero flows f h = ⊎_elim
        (λ (c : IsClosed net cap rate Free flows levels). (flows, f, c))
        (λ (g : Grows flows). absurd (let l : lacking g.new < lacking flows = fewer flows g in omega arith))
        (step flows f)
    grow_within (suc k) flows f h = ⊎_elim
        (λ (c : IsClosed net cap rate Free flows levels). (flows, f, c))
        (λ (g : Grows flows). grow_within k g.new g.kept_flow (let l : lacking g.new < lacking flows = fewer flows g in omega arith))
        (step flows f)

    pub grow : (flows : ℕ → ℚ) → Kept flows → Grown
    grow flows f = grow_within (lacking flows) flows f (omega arith)
