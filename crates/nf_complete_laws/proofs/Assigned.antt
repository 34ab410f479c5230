-- Systems describe flows and levels that serve, and oversupplies. So some have the least sum of slopes, and among those the least cost of
-- flows. For oversupplies that is the flow out of the source.
use Rattle.std.proofs.Common.{◌≡◌, ◌≢◌, ℕ, zero, suc, ◌<◌, ◌⊎◌, Option, Some, None, sym, ap, subst, refl, ◌∙◌}
use Rattle.nf_complete_laws.proofs.Common.{none-some, same_Some, ℚ, 0ℚ, 1ℚ, ◌+ℚ◌, ◌-ℚ◌, ◌*ℚ◌, ◌≤ℚ◌, Has, Link, Network, IsNetwork, sum_in, sum_out, Sets}
use Rattle.nf_complete_laws.proofs.Common.{Fills, sum_to, sum_to-nn, form_value, Fits, demand, IsOversupply, MeetsOne, LeastOfTwo, least_of_two}
use Rattle.nf_complete_laws.proofs.Deciding.{Decided, both}
use Rattle.nf_complete_laws.proofs.Bare.{flagged, same_node}
use Rattle.nf_complete_laws.proofs.ExistsDeciding.{not_so, SomeLink}
use Rattle.nf_complete_laws.proofs.LinkSums.{sum_out-not_negative}
use Rattle.nf_complete_laws.proofs.Spare.{not_negative}
use Rattle.nf_complete_laws.proofs.Serving.{Serves, Led, IsLed, IsInactive, NeedsStateAt, needs_or_not, capacity_of, Serves-over, ServesBySlopes}
use Rattle.nf_complete_laws.proofs.Serving.{IsOversupply-serves}
use Rattle.nf_complete_laws.proofs.Affine.{Affine, Affine-value, Affine-form, Affine-floor, Affine-constant, Affine-variable, Affine-plus, Affine-times}
use Rattle.nf_complete_laws.proofs.Affine.{Affine-sum_to, Affine-sum_in, Affine-sum_out}
use Rattle.nf_complete_laws.proofs.Described.{Described, Described-as, Described-always, Described-never, Described-both, Described-either, Described-when}
use Rattle.nf_complete_laws.proofs.Described.{Described-decided, Described-le, Described-same, Described-to, Described-links, Described-some, EachLink}

-- ---- slopes and flows in one assignment: slopes at even numbers, and flows at odd numbers
abbrev even : ℕ → ℕ
even zero = zero
even (suc v) = suc (suc (even v))

abbrev pub slopes_of : (ℕ → ℚ) → ℕ → ℚ
slopes_of x v = x (even v)

abbrev pub flows_of : (ℕ → ℚ) → ℕ → ℚ
flows_of x e = x (suc (even e))

abbrev joined : (ℕ → ℚ) → (ℕ → ℚ) → ℕ → ℚ
joined flows slopes zero = slopes 0
joined flows slopes (suc zero) = flows 0
joined flows slopes (suc (suc i)) = joined (λ e. flows (suc e)) (λ v. slopes (suc v)) i

joined-even : (v : ℕ) (flows slopes : ℕ → ℚ) → joined flows slopes (even v) ≡ slopes v
joined-even zero flows slopes = refl
joined-even (suc v) flows slopes = joined-even v (λ e. flows (suc e)) (λ v. slopes (suc v))

joined-odd : (e : ℕ) (flows slopes : ℕ → ℚ) → joined flows slopes (suc (even e)) ≡ flows e
joined-odd zero flows slopes = refl
joined-odd (suc e) flows slopes = joined-odd e (λ e. flows (suc e)) (λ v. slopes (suc v))

slopes_of-joined : (flows slopes : ℕ → ℚ) → slopes_of (joined flows slopes) ≡ slopes
slopes_of-joined flows slopes = λ i v. joined-even v flows slopes i

flows_of-joined : (flows slopes : ℕ → ℚ) → flows_of (joined flows slopes) ≡ flows
flows_of-joined flows slopes = λ i e. joined-odd e flows slopes i

-- ---- conditions of an oversupply
slope : (v : ℕ) → Affine (λ x. slopes_of x v)
slope v = Affine-variable (even v)

pub flow : (e : ℕ) → Affine (λ x. flows_of x e)
flow e = Affine-variable (suc (even e))

abbrev FillsAt : ℕ → Option ℚ → ℕ → (ℕ → ℚ) → Type 0
FillsAt e capacity head x = Fills capacity (flows_of x e) (slopes_of x head)

abbrev FitsAt : ℕ → Option ℚ → ℕ → ℕ → (ℕ → ℚ) → Type 0
FitsAt e capacity tail head x = Fits capacity (flows_of x e) (slopes_of x tail) (slopes_of x head)

fills_described : (e : ℕ) (capacity : Option ℚ) (head : ℕ) → Described (FillsAt e capacity head)
fills_described e None head = Described-never (FillsAt e None head) (λ x f. none-some f.0 f.1)
fills_described e (Some c) head = Described-as (λ x. flows_of x e ≡ c *ℚ slopes_of x head) (FillsAt e (Some c) head)
    (λ x h. (c, refl, h)) (λ x f. f.2 ∙ ap (λ (k : ℚ). k *ℚ slopes_of x head) (sym (same_Some c f.0 f.1)))
    (Described-same (λ x. flows_of x e) (λ x. c *ℚ slopes_of x head) (flow e) (Affine-times c (λ x. slopes_of x head) (slope head)))

abbrev MostAt : ℕ → Option ℚ → ℕ → (ℕ → ℚ) → Type 0
MostAt e capacity head x = (c : ℚ) → capacity ≡ Some c → flows_of x e ≤ℚ c *ℚ slopes_of x head

abbrev FilledAt : ℕ → Option ℚ → ℕ → (ℕ → ℚ) → Type 0
FilledAt e capacity head x = (c : ℚ) × (capacity ≡ Some c) × (c *ℚ slopes_of x head ≤ℚ flows_of x e)

most_described : (e : ℕ) (capacity : Option ℚ) (head : ℕ) → Described (MostAt e capacity head)
most_described e None head = Described-always (MostAt e None head) (λ x c k. absurd (none-some c k))
most_described e (Some a) head = Described-as (λ x. flows_of x e ≤ℚ a *ℚ slopes_of x head) (MostAt e (Some a) head)
    (λ x h c k. subst (λ (b : ℚ). flows_of x e ≤ℚ b *ℚ slopes_of x head) (same_Some a c k) h) (λ x h. h a refl)
    (Described-le (λ x. flows_of x e) (λ x. a *ℚ slopes_of x head) (flow e) (Affine-times a (λ x. slopes_of x head) (slope head)))

filled_described : (e : ℕ) (capacity : Option ℚ) (head : ℕ) → Described (FilledAt e capacity head)
filled_described e None head = Described-never (FilledAt e None head) (λ x f. none-some f.0 f.1)
filled_described e (Some a) head = Described-as (λ x. a *ℚ slopes_of x head ≤ℚ flows_of x e) (FilledAt e (Some a) head)
    (λ x h. (a, refl, h)) (λ x f. subst (λ (b : ℚ). b *ℚ slopes_of x head ≤ℚ flows_of x e) (sym (same_Some a f.0 f.1)) f.2)
    (Described-le (λ x. a *ℚ slopes_of x head) (λ x. flows_of x e) (Affine-times a (λ x. slopes_of x head) (slope head)) (flow e))

fits_described : (e : ℕ) (capacity : Option ℚ) (tail head : ℕ) → Described (FitsAt e capacity tail head)
fits_described e capacity tail head = Described-as (λ x. (N x × M x) × (U x × V x)) (FitsAt e capacity tail head)
    (λ x h. record { no_negative = h.0.0; most = h.0.1; used = h.1.0; upper = h.1.1 })
    (λ x f. ((f.no_negative, f.most), (f.used, f.upper)))
    (Described-both (λ x. N x × M x) (λ x. U x × V x)
    (Described-both N M (Described-le (λ x. 0ℚ) (λ x. flows_of x e) (Affine-constant 0ℚ) (flow e)) (most_described e capacity head))
    (Described-both U V
    (Described-either (λ x. flows_of x e ≤ℚ 0ℚ) (λ x. slopes_of x tail ≤ℚ slopes_of x head)
    (Described-le (λ x. flows_of x e) (λ x. 0ℚ) (flow e) (Affine-constant 0ℚ)) (Described-le (λ x. slopes_of x tail) (λ x. slopes_of x head) (slope tail) (slope head)))
    (Described-either (λ x. slopes_of x head ≤ℚ slopes_of x tail) (FilledAt e capacity head)
    (Described-le (λ x. slopes_of x head) (λ x. slopes_of x tail) (slope head) (slope tail)) (filled_described e capacity head))))
  where
    N : (ℕ → ℚ) → Type 0
    N x = 0ℚ ≤ℚ flows_of x e

    M : (ℕ → ℚ) → Type 0
    M x = MostAt e capacity head x

    U : (ℕ → ℚ) → Type 0
    U x = (flows_of x e ≤ℚ 0ℚ) ⊎ (slopes_of x tail ≤ℚ slopes_of x head)

    V : (ℕ → ℚ) → Type 0
    V x = (slopes_of x head ≤ℚ slopes_of x tail) ⊎ FilledAt e capacity head x

-- ---- flows and levels that serve
module _ (net : Network) (cap : Link → Option ℚ) (rate floor : ℚ) (Idle Free : ℕ → Link → Type 0) (idle_or_not : (e : ℕ) (link : Link) → Decided (Idle e link))
    (free_or_not : (e : ℕ) (link : Link) → Decided (Free e link)) where
  abbrev Starts : (ℕ → ℚ) → Type 0
  Starts x = slopes_of x net.source ≡ 1ℚ

  abbrev KeepsUp : (ℕ → ℚ) → Type 0
  KeepsUp x = (v : ℕ) → v < net.nodes → floor ≤ℚ slopes_of x v

  abbrev EnoughAt : ℕ → (ℕ → ℚ) → Type 0
  EnoughAt v x = sum_out net.links (flows_of x) v +ℚ demand net rate v ≤ℚ sum_in net.links (flows_of x) v

  abbrev Enough : (ℕ → ℚ) → Type 0
  Enough x = (v : ℕ) → v < net.nodes → v ≢ net.source → EnoughAt v x

  abbrev IdleAt : ℕ → Link → (ℕ → ℚ) → Type 0
  IdleAt e link x = Idle e link → flows_of x e ≡ 0ℚ

  abbrev FreeAt : ℕ → Link → (ℕ → ℚ) → Type 0
  FreeAt e link x = Free e link → FitsAt e (cap link) link.tail link.head x

  starts_described : Described Starts
  starts_described = Described-same (λ x. slopes_of x net.source) (λ x. 1ℚ) (slope net.source) (Affine-constant 1ℚ)

  keeps_up_described : Described KeepsUp
  keeps_up_described = Described-to net.nodes (λ v x. floor ≤ℚ slopes_of x v)
      (λ v _. Described-le (λ x. floor) (λ x. slopes_of x v) (Affine-constant floor) (slope v))

  enough_described : Described Enough
  enough_described = Described-to net.nodes (λ v x. v ≢ net.source → EnoughAt v x) (λ v _. Described-when (v ≢ net.source) (EnoughAt v) (not_so (same_node v net.source))
      (λ _. Described-le (λ x. sum_out net.links (flows_of x) v +ℚ demand net rate v) (λ x. sum_in net.links (flows_of x) v)
      (Affine-plus (λ x. sum_out net.links (flows_of x) v) (λ x. demand net rate v) (Affine-sum_out net.links (λ e x. flows_of x e) v flow) (Affine-constant (demand net rate v)))
      (Affine-sum_in net.links (λ e x. flows_of x e) v flow)))

  idle_described : Described (EachLink net.links IdleAt)
  idle_described = Described-links net.links IdleAt (λ e link. Described-when (Idle e link) (λ x. flows_of x e ≡ 0ℚ) (idle_or_not e link)
      (λ _. Described-same (λ x. flows_of x e) (λ x. 0ℚ) (flow e) (Affine-constant 0ℚ)))

  free_described : Described (EachLink net.links FreeAt)
  free_described = Described-links net.links FreeAt (λ e link. Described-when (Free e link) (FitsAt e (cap link) link.tail link.head) (free_or_not e link)
      (λ _. fits_described e (cap link) link.tail link.head))

  abbrev AtNodes : (ℕ → ℚ) → Type 0
  AtNodes x = Starts x × (KeepsUp x × Enough x)

  abbrev AtLinks : (ℕ → ℚ) → Type 0
  AtLinks x = EachLink net.links IdleAt x × EachLink net.links FreeAt x

  pub serves_described : Described (λ x. Serves net cap rate floor Idle Free (flows_of x) (slopes_of x))
  serves_described = Described-as (λ x. AtNodes x × AtLinks x) (λ x. Serves net cap rate floor Idle Free (flows_of x) (slopes_of x))
      (λ x h. record { starts = h.0.0; keeps_up = h.0.1.0; idle = h.1.0; fits = h.1.1; enough = h.0.1.1 })
      (λ x o. ((o.starts, (o.keeps_up, o.enough)), (o.idle, o.fits)))
      (Described-both AtNodes AtLinks
      (Described-both Starts (λ x. KeepsUp x × Enough x) starts_described (Described-both KeepsUp Enough keeps_up_described enough_described))
      (Described-both (EachLink net.links IdleAt) (EachLink net.links FreeAt) idle_described free_described))

-- ---- the least ones
-- Of the flows and slopes with a property, none has a smaller sum of slopes, and none with an equally small sum has a smaller cost.
pub record IsLeast (nodes : ℕ) (cost : (ℕ → ℚ) → ℚ) (Over : (ℕ → ℚ) → (ℕ → ℚ) → Type 0) (flows slopes : ℕ → ℚ) : Type 0 where
  pub over : Over flows slopes
  pub slopes_least : (other_flows other_slopes : ℕ → ℚ) → Over other_flows other_slopes → sum_to nodes slopes ≤ℚ sum_to nodes other_slopes
  pub flows_least : (other_flows other_slopes : ℕ → ℚ) → Over other_flows other_slopes → sum_to nodes other_slopes ≤ℚ sum_to nodes slopes
      → cost flows ≤ℚ cost other_flows

module _ (nodes : ℕ) (cost : (ℕ → ℚ) → ℚ) (Over : (ℕ → ℚ) → (ℕ → ℚ) → Type 0) (described : Described (λ x. Over (flows_of x) (slopes_of x)))
    (costs : Affine (λ x. cost (flows_of x))) (slopes_nn : (flows slopes : ℕ → ℚ) → Over flows slopes → (v : ℕ) → v < nodes → 0ℚ ≤ℚ slopes v)
    (cost_nn : (flows slopes : ℕ → ℚ) → Over flows slopes → 0ℚ ≤ℚ cost flows) where
  slope_sum : Affine (λ x. sum_to nodes (slopes_of x))
  slope_sum = Affine-sum_to nodes (λ v x. slopes_of x v) slope

  assigned : (flows slopes : ℕ → ℚ) → Over flows slopes → Over (flows_of (joined flows slopes)) (slopes_of (joined flows slopes))
  assigned flows slopes o = subst (λ (f : ℕ → ℚ). Over f (slopes_of (joined flows slopes))) (sym (flows_of-joined flows slopes))
      (subst (λ (s : ℕ → ℚ). Over flows s) (sym (slopes_of-joined flows slopes)) o)

  slope_floor : (x : ℕ → ℚ) → MeetsOne described.systems x → 0ℚ -ℚ slope_sum.rest ≤ℚ form_value slope_sum.form x
  slope_floor x h = Affine-floor (λ x. sum_to nodes (slopes_of x)) slope_sum x 0ℚ (sum_to-nn nodes (slopes_of x) (slopes_nn _ _ (described.out x h)))

  cost_floor : (x : ℕ → ℚ) → MeetsOne described.systems x → 0ℚ -ℚ costs.rest ≤ℚ form_value costs.form x
  cost_floor x h = Affine-floor (λ x. cost (flows_of x)) costs x 0ℚ (cost_nn _ _ (described.out x h))

  is_least : LeastOfTwo described.systems slope_sum.form costs.form → (flows : ℕ → ℚ) × (slopes : ℕ → ℚ) × IsLeast nodes cost Over flows slopes
  is_least b = (
    flows_of b.0,
    slopes_of b.0,
    record {
      over = described.out b.0 b.1;
      slopes_least = λ f s o. subst (λ (t : ℕ → ℚ). sum_to nodes (slopes_of b.0) ≤ℚ sum_to nodes t) (slopes_of-joined f s)
          (Affine-value (λ x. sum_to nodes (slopes_of x)) slope_sum b.0 (joined f s) (b.2 (joined f s) (described.into (joined f s) (assigned f s o))));
      flows_least = λ f s o h. subst (λ (g : ℕ → ℚ). cost (flows_of b.0) ≤ℚ cost g) (flows_of-joined f s)
          (Affine-value (λ x. cost (flows_of x)) costs b.0 (joined f s) (b.3 (joined f s) (described.into (joined f s) (assigned f s o))
          (Affine-form (λ x. sum_to nodes (slopes_of x)) slope_sum (joined f s) b.0
          (subst (λ (t : ℕ → ℚ). sum_to nodes t ≤ℚ sum_to nodes (slopes_of b.0)) (sym (slopes_of-joined f s)) h))));
    },
  )

  pub least_over : (flows slopes : ℕ → ℚ) → Over flows slopes → (flows : ℕ → ℚ) × (slopes : ℕ → ℚ) × IsLeast nodes cost Over flows slopes
  least_over flows slopes o = is_least (least_of_two described.systems slope_sum.form costs.form (joined flows slopes) (0ℚ -ℚ slope_sum.rest) (0ℚ -ℚ costs.rest)
      (described.into (joined flows slopes) (assigned flows slopes o)) slope_floor cost_floor)

-- ---- oversupplies
module _ (net : Network) (sets : Sets) (rate : ℚ) where
  abbrev ResettingAt : ℕ → Link → (ℕ → ℚ) → Type 0
  ResettingAt e link x = Has sets.resetting e → FillsAt e link.capacity link.head x

  abbrev LedBy : ℕ → ℕ → Link → (ℕ → ℚ) → Type 0
  LedBy v e link x = (Has sets.active e × (link.head ≡ v)) × (Has sets.resetting e ⊎ (slopes_of x link.tail ≤ℚ slopes_of x link.head))

  abbrev LedAt : ℕ → (ℕ → ℚ) → Type 0
  LedAt v x = Led net sets (slopes_of x) v

  led_by_described : (v e : ℕ) (link : Link) → Described (LedBy v e link)
  led_by_described v e link = Described-both (λ x. Has sets.active e × (link.head ≡ v)) (λ x. Has sets.resetting e ⊎ (slopes_of x link.tail ≤ℚ slopes_of x link.head))
      (Described-decided (Has sets.active e × (link.head ≡ v)) (both (flagged sets.active e) (same_node link.head v)))
      (Described-either (λ x. Has sets.resetting e) (λ x. slopes_of x link.tail ≤ℚ slopes_of x link.head) (Described-decided (Has sets.resetting e) (flagged sets.resetting e))
      (Described-le (λ x. slopes_of x link.tail) (λ x. slopes_of x link.head) (slope link.tail) (slope link.head)))

  led_at_described : (v : ℕ) → Described (LedAt v)
  led_at_described v = Described-as (λ x. SomeLink net.links (λ e link. LedBy v e link x)) (LedAt v)
      (λ x w. (w.0, w.1, record { is_link = w.2; active = w.3.0.0; head = w.3.0.1 }, w.3.1))
      (λ x w. (w.0, w.1, w.2.is_link, ((w.2.active, w.2.head), w.3)))
      (Described-some net.links (LedBy v) (led_by_described v))

  led_described : Described (λ x. IsLed net sets (slopes_of x))
  led_described =
      Described-to net.nodes (λ v x. v ≢ net.source → LedAt v x) (λ v _. Described-when (v ≢ net.source) (LedAt v) (not_so (same_node v net.source))
      (λ _. led_at_described v))

  resetting_described : Described (EachLink net.links ResettingAt)
  resetting_described = Described-links net.links ResettingAt (λ e link. Described-when (Has sets.resetting e) (FillsAt e link.capacity link.head) (flagged sets.resetting e)
      (λ _. fills_described e link.capacity link.head))

  abbrev MoreHolds : (ℕ → ℚ) → Type 0
  MoreHolds x = EachLink net.links ResettingAt x × IsLed net sets (slopes_of x)

  oversupply_described : Described (λ x. IsOversupply net sets rate (flows_of x) (slopes_of x))
  oversupply_described = Described-as (λ x. ServesBySlopes net sets rate (flows_of x) (slopes_of x) × MoreHolds x)
      (λ x. IsOversupply net sets rate (flows_of x) (slopes_of x))
      (λ x h. IsOversupply-serves net sets rate (flows_of x) (slopes_of x) h.0 h.1.0 h.1.1)
      (λ x o. (Serves-over net sets rate (flows_of x) (slopes_of x) o, (o.resetting, o.led)))
      (Described-both (λ x. ServesBySlopes net sets rate (flows_of x) (slopes_of x)) MoreHolds
      (serves_described net capacity_of rate 0ℚ (IsInactive sets) (NeedsStateAt sets) (λ e link. not_so (flagged sets.active e)) (λ e link. needs_or_not sets e))
      (Described-both (EachLink net.links ResettingAt) (λ x. IsLed net sets (slopes_of x)) resetting_described led_described))

  pub least_oversupply : IsNetwork net → (flows slopes : ℕ → ℚ) → IsOversupply net sets rate flows slopes
      → (flows : ℕ → ℚ) × (slopes : ℕ → ℚ) × IsLeast net.nodes (λ f. sum_out net.links f net.source) (IsOversupply net sets rate) flows slopes
  least_oversupply good = least_over net.nodes (λ f. sum_out net.links f net.source) (IsOversupply net sets rate) oversupply_described
      (Affine-sum_out net.links (λ e x. flows_of x e) net.source flow) (λ f s o. o.no_negative_slope)
      (λ f s o. sum_out-not_negative net.links f net.source (not_negative net sets rate f s good o))
