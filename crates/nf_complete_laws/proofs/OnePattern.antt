-- Settled flows have one pattern.
use Rattle.std.proofs.Common.{◌≡◌, ℕ, ◌<◌, List, length, ⊎_elim, Option, Some, None, slice_get, sym, ◌∙◌, arith}
use Rattle.nf_complete_laws.proofs.Common.{ℚ, 0ℚ, State, Tight, Full, Zero, number_at, Link, Network, IsLink, Sets, IsThinFlow, Pattern, NeedsState, entry}
use Rattle.nf_complete_laws.proofs.Common.{IsSettledPattern, AreGoodSets}
use Rattle.nf_thin_laws.proofs.Bases.{same_entries}
use Rattle.nf_complete_laws.proofs.Settled.{Leads, Filled, Fits, chosen}

module _ (net : Network) (sets : Sets) (rate : ℚ) (flows slopes : List ℚ) (good : AreGoodSets net sets) (thin : IsThinFlow net sets rate flows slopes) where
  module _ (pattern : Pattern) (settled : IsSettledPattern net sets flows slopes pattern) where
    none_there : (e : ℕ) → e < length pattern → (NeedsState sets e → ⊥) → slice_get pattern e ≡ Some None
    none_there e h n = by (entry pattern e h).0 (entry pattern e h).1
      where
        by : (o : Option State) → slice_get pattern e ≡ Some o → slice_get pattern e ≡ Some None
        by None k = k
        by (Some state) k = absurd (n ((settled.states e).1 (state, k)))

    fits_there : (e : ℕ) (link : Link) → IsLink net e link → e < length pattern → (o : Option State) → Fits net sets rate flows slopes good thin e link o → slice_get pattern e ≡ Some o
    fits_there e link p h None f = none_there e h f
    fits_there e link p h (Some Tight) f = ⊎_elim
        (λ (l : Leads net sets rate flows slopes good thin e link). settled.led e link p f.0 l)
        (λ (z : (number_at flows e ≡ 0ℚ → ⊥) × (Filled net sets rate flows slopes good thin e link → ⊥)). settled.tight e link p f.0 z.0 z.1)
        f.1
    fits_there e link p h (Some Full) f = settled.full e link p f.0 f.1.0 f.1.1
    fits_there e link p h (Some Zero) f = settled.zero e link p f.0 f.1.0 f.1.1

    count : length pattern ≡ length net.links
    count = settled.count ∙ good.sets_are.count

    pub entry_is : (e : ℕ) (link : Link) (p : IsLink net e link) → e < length net.links → slice_get pattern e ≡ Some (chosen net sets rate flows slopes good thin e link p).0
    entry_is e link p h = fits_there e link p (let c = count in omega arith) (chosen net sets rate flows slopes good thin e link p).0
        (chosen net sets rate flows slopes good thin e link p).1

  pub one_pattern : (pattern other : Pattern) → IsSettledPattern net sets flows slopes pattern → IsSettledPattern net sets flows slopes other → pattern ≡ other
  one_pattern pattern other h k = same_entries (length net.links) pattern other (count pattern h) (count other k) (λ e below.
      let l = entry net.links e below in entry_is pattern h e l.0 l.1 below ∙ sym (entry_is other k e l.0 l.1 below))
