-- Flows that agree up to a departure satisfy the same invariant up to it: the invariant depends on no later time.
use Rattle.std.proofs.Common.{◌≡◌, ℕ, ◌<◌, [], ◌∷◌, sym, ap, subst, refl, ◌∙◌}
use Rattle.nf_resume_laws.proofs.Common.{ℚ, 0ℚ, ◌+ℚ◌, ◌-ℚ◌, ◌≤ℚ◌, ◌<ℚ◌, reading_of, ≤ℚ_of_lt, le, lt, eq, linear_le, linear_lt, linear_eq, Within, Link}
use Rattle.nf_resume_laws.proofs.Common.{Network, IsNetwork, IsLink, sum_in, sum_out, link_slack, queue_by_slack, sent, HoldsUpTo, ≤ℚ_refl, ≤ℚ_trans}
use Rattle.nf_resume_laws.proofs.Common.{same_slacks, in_time, InflowsRise, DescribesLinks, sent-is, link_within, label_not_negative}
use Rattle.nf_model.specs.Queue.{IsQueue}
use Rattle.nf_model_laws.proofs.Queues.{IsQueue-same}
use Rattle.nf_model_laws.proofs.Sums.{sum_in-same, sum_out-same}

lt_by : (a b c d : ℚ) → a ≡ c → b ≡ d → a <ℚ b → c <ℚ d
lt_by a b c d e f h = linear_lt (a ∷ b ∷ c ∷ d ∷ []) (eq e ∷ eq f ∷ lt h ∷ []) (search reading_of) tt

le_by : (a b c d : ℚ) → a ≡ c → b ≡ d → a ≤ℚ b → c ≤ℚ d
le_by a b c d e f h = linear_le (a ∷ b ∷ c ∷ d ∷ []) (eq e ∷ eq f ∷ le h ∷ []) (search reading_of) tt

less : (b d r : ℚ) → b ≡ d → b -ℚ r ≡ d -ℚ r
less b d r e = linear_eq (b ∷ d ∷ r ∷ []) (eq e ∷ []) (search reading_of) tt tt

-- Two flows agree on everything that leaves the source up to a departure.
pub record AgreeUpTo (net : Network) (amount label amount' label' : ℕ → ℚ → ℚ) (until : ℚ) : Type 0 where
  pub labels : (v : ℕ) (departure : ℚ) → v < net.nodes → Within 0ℚ until departure → label' v departure ≡ label v departure
  pub amounts : (e : ℕ) (link : Link) (time : ℚ) → IsLink net e link → Within 0ℚ (label link.tail until) time → amount' e time ≡ amount e time

module _ (net : Network) (amount label amount' label' : ℕ → ℚ → ℚ) (until : ℚ) (good : IsNetwork net) (holds : HoldsUpTo net amount label until)
    (agree : AgreeUpTo net amount label amount' label' until) (rises : InflowsRise net amount') where
  first : Within 0ℚ until 0ℚ
  first = (≤ℚ_refl 0ℚ, holds.begun)

  now : Within 0ℚ until until
  now = (holds.begun, ≤ℚ_refl until)

  in_label : (v : ℕ) (departure : ℚ) → v < net.nodes → Within 0ℚ until departure → Within 0ℚ (label v until) (label v departure)
  in_label v departure h w = (label_not_negative net amount label until good holds v departure h w, holds.label_rises v departure until h w.0 w.1 (≤ℚ_refl until))

  at : (e : ℕ) (link : Link) (departure : ℚ) → IsLink net e link → Within 0ℚ until departure → amount' e (label' link.tail departure) ≡ amount e (label link.tail departure)
  at e link departure p w =
      ap (amount' e) (agree.labels link.tail departure (good.tails e link p) w)
      ∙ agree.amounts e link (label link.tail departure) p (in_label link.tail departure (good.tails e link p) w)

  pub sent_same : (e : ℕ) (link : Link) (departure : ℚ) → IsLink net e link → Within 0ℚ until departure → sent net amount' label' e departure ≡ sent net amount label e departure
  sent_same e link departure p w = sent-is net amount' label' e link departure p ∙ at e link departure p w ∙ sym (sent-is net amount label e link departure p)

  pub slack_same : (e : ℕ) (link : Link) (departure : ℚ) → IsLink net e link → Within 0ℚ until departure → link_slack label' link departure ≡ link_slack label link departure
  slack_same e link departure p w = same_slacks _ _ _ _ link.transit (agree.labels link.head departure (good.heads e link p) w) (agree.labels link.tail departure (good.tails e link p) w)

  low : (e : ℕ) (link : Link) (departure : ℚ) → IsLink net e link → Within 0ℚ until departure → link_slack label' link departure ≤ℚ 0ℚ → link_slack label link departure ≤ℚ 0ℚ
  low e link departure p w h = le_by _ _ _ _ (slack_same e link departure p w) refl h

  ins : (v : ℕ) (departure : ℚ) → Within 0ℚ until departure → sum_in net.links (λ e. sent net amount' label' e departure) v ≡ sum_in net.links (λ e. sent net amount label e departure) v
  ins v departure w = sum_in-same net.links (λ e. sent net amount' label' e departure) (λ e. sent net amount label e departure) v (λ e link p _. sent_same e link departure p w)

  outs : (v : ℕ) (departure : ℚ) → Within 0ℚ until departure → sum_out net.links (λ e. sent net amount' label' e departure) v ≡ sum_out net.links
      (λ e. sent net amount label e departure) v
  outs v departure w = sum_out-same net.links (λ e. sent net amount' label' e departure) (λ e. sent net amount label e departure) v (λ e link p _. sent_same e link departure p w)

  queue_same : (e : ℕ) (link : Link) (time y : ℚ) → IsLink net e link → Within 0ℚ (label link.tail until) time → IsQueue link.capacity (amount e) time y
      → IsQueue link.capacity (amount' e) time y
  queue_same e link time y p w q = IsQueue-same link.capacity (amount e) (amount' e) time y (λ t k. sym (agree.amounts e link t p (k.0, ≤ℚ_trans _ _ _ k.1 w.1))) q

  plus_same : (i j u : ℚ) → i ≡ j → i +ℚ u ≡ j +ℚ u
  plus_same i j u e = ap (λ (s : ℚ). s +ℚ u) e

  pub HoldsUpTo-same : HoldsUpTo net amount' label' until
  HoldsUpTo-same = record {
    begun = holds.begun;
    source = λ departure w. agree.labels net.source departure good.source w ∙ holds.source departure w;
    label_rises = λ v earlier later h i j k. le_by _ _ _ _ (sym (agree.labels v earlier h (i, ≤ℚ_trans _ _ _ j k)))
        (sym (agree.labels v later h (≤ℚ_trans _ _ _ i j, k))) (holds.label_rises v earlier later h i j k);
    label_takes = λ v time h i j.
        let t : (departure : ℚ) × Within 0ℚ until departure × (label v departure ≡ time) =
        holds.label_takes v time h (le_by _ _ _ _ (agree.labels v 0ℚ h first) refl i) (le_by _ _ _ _ refl (agree.labels v until h now) j) in
        (t.0, t.1, agree.labels v t.0 h t.1 ∙ t.2);
    label_not_negative = λ v h. le_by _ _ _ _ refl (sym (agree.labels v 0ℚ h first)) (holds.label_not_negative v h);
    amount_rises = rises;
    amount_starts = λ e h.
        let l : (link : Link) × IsLink net e link = link_within net e h in
        agree.amounts e l.0 0ℚ l.1 (≤ℚ_refl 0ℚ, (in_label l.0.tail until (good.tails e l.0 l.1) now).0) ∙ holds.amount_starts e h;
    sent_starts = λ e link p. sent_same e link 0ℚ p first ∙ holds.sent_starts e link p;
    inner = λ v departure h a b w. ins v departure w ∙ holds.inner v departure h a b w ∙ sym (outs v departure w);
    supplied = λ departure w. plus_same _ _ _ (ins net.source departure w) ∙ holds.supplied departure w ∙ sym (outs net.source departure w);
    drained = λ departure w. ins net.sink departure w ∙ holds.drained departure w ∙ sym (plus_same _ _ _ (outs net.sink departure w));
    queue = λ e link departure p w.
        subst (λ (s : ℚ). IsQueue link.capacity (amount' e) (label' link.tail departure) (queue_by_slack link.capacity s)) (sym (slack_same e link departure p w))
        (subst (λ (t : ℚ). IsQueue link.capacity (amount' e) t (queue_by_slack link.capacity (link_slack label link departure)))
        (sym (agree.labels link.tail departure (good.tails e link p) w))
        (queue_same e link (label link.tail departure) _ p (in_label link.tail departure (good.tails e link p) w) (holds.queue e link departure p w)));
    unbounded = λ e link departure p none w. le_by _ _ _ _ (sym (slack_same e link departure p w)) refl (holds.unbounded e link departure p none w);
    entered = λ v departure h other w.
        let n : (e : ℕ) × (link : Link) × IsLink net e link × (link.head ≡ v) × (0ℚ ≤ℚ link_slack label link departure) = holds.entered v departure h other w in
        (n.0, n.1, n.2, n.3, le_by _ _ _ _ refl (sym (slack_same n.0 n.1 departure n.2 w)) n.4);
    idle = λ e link departure time p w h i j k.
        let to : time ≤ℚ label link.tail departure = le_by _ _ _ _ refl (agree.labels link.tail departure (good.tails e link p) w) k in
        agree.amounts e link time p (i, ≤ℚ_trans _ _ _ to (in_label link.tail departure (good.tails e link p) w).1)
        ∙ holds.idle e link departure time p w (low e link departure p w h) i (le_by _ _ _ _ (less _ _ link.transit (agree.labels link.head departure (good.heads e link p) w)) refl j) to
        ∙ sym (sent_same e link departure p w);
    idle_queue = λ e link departure p w h i.
        let same : label' link.head departure -ℚ link.transit ≡ label link.head departure -ℚ link.transit =
        less _ _ link.transit (agree.labels link.head departure (good.heads e link p) w) in
        let from : 0ℚ ≤ℚ label link.head departure -ℚ link.transit = le_by _ _ _ _ refl same i in
        let to : label link.head departure -ℚ link.transit ≤ℚ label link.tail departure =
        in_time (label link.tail departure) (label link.head departure) link.transit (low e link departure p w h) in
        subst (λ (t : ℚ). IsQueue link.capacity (amount' e) t 0ℚ) (sym same)
        (queue_same e link (label link.head departure -ℚ link.transit) 0ℚ p (from, ≤ℚ_trans _ _ _ to (in_label link.tail departure (good.tails e link p) w).1)
        (holds.idle_queue e link departure p w (low e link departure p w h) from));
    used = λ e link departure p h k grows.
        let w : Within 0ℚ until departure = (h, ≤ℚ_of_lt _ _ k) in
        le_by _ _ _ _ refl (sym (slack_same e link departure p w)) (holds.used e link departure p h k
        (λ later a b. lt_by _ _ _ _ (sent_same e link departure p w) (sent_same e link later p (≤ℚ_trans _ _ _ h (≤ℚ_of_lt _ _ a), b)) (grows later a b)));
  }

  -- ---- the same for the descriptions of the links
  module _ (outflow queue outflow' queue' : ℕ → ℚ → ℚ) (describes : DescribesLinks net amount label outflow queue until)
      (outflows : (e : ℕ) (link : Link) (time : ℚ) → IsLink net e link → Within 0ℚ (label link.head until) time → outflow' e time ≡ outflow e time)
      (queues : (e : ℕ) (link : Link) (time : ℚ) → IsLink net e link → Within 0ℚ (label link.tail until) time → queue' e time ≡ queue e time) where
    pub DescribesLinks-same : DescribesLinks net amount' label' outflow' queue' until
    DescribesLinks-same = record {
      outflows = λ e link departure p w. ap (outflow' e) (agree.labels link.head departure (good.heads e link p) w)
          ∙ outflows e link (label link.head departure) p (in_label link.head departure (good.heads e link p) w) ∙ describes.outflows e link departure p w
          ∙ sym (sent_same e link departure p w);
      outflows_early = λ e link time p w.
          let to : time ≤ℚ label link.head 0ℚ = le_by _ _ _ _ refl (agree.labels link.head 0ℚ (good.heads e link p) first) w.1 in
          outflows e link time p (w.0, ≤ℚ_trans _ _ _ to (in_label link.head 0ℚ (good.heads e link p) first).1) ∙ describes.outflows_early e link time p (w.0, to);
      queues = λ e link departure p w. ap (queue' e) (agree.labels link.tail departure (good.tails e link p) w)
          ∙ queues e link (label link.tail departure) p (in_label link.tail departure (good.tails e link p) w) ∙ describes.queues e link departure p w
          ∙ ap (queue_by_slack link.capacity) (sym (slack_same e link departure p w));
      queues_early = λ e link time p w.
          let to : time ≤ℚ label link.tail 0ℚ = le_by _ _ _ _ refl (agree.labels link.tail 0ℚ (good.tails e link p) first) w.1 in
          queues e link time p (w.0, ≤ℚ_trans _ _ _ to (in_label link.tail 0ℚ (good.tails e link p) first).1) ∙ describes.queues_early e link time p (w.0, to);
    }
