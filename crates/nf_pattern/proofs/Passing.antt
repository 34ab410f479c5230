-- Links without a state are skipped when a trail is extended or shortened.
use Rattle.std.proofs.Common.{◌≡◌, ℕ, zero, suc, ◌+◌, ◌≤◌, Bool, List, length, inl, inr, ⊎_elim, Some, None, slice_get, refl, subst, arith}
use Rattle.nf_pattern.proofs.Common.{State, Tight, Has, Hop, Pattern, HasState, Trail, AreIdle, IsTightStack, AreEnds, DoEndsCarry, KeepsEntered}
use Rattle.nf_pattern.proofs.Common.{IsAssignment, Follows}
use Rattle.nf_pattern.proofs.Choosing.{some_too}
use Rattle.nf_pattern.proofs.Tests.{no_state}
use Rattle.nf_pattern.proofs.Entries.{carries_keeps}
use Rattle.nf_pattern.proofs.Holding.{holds_loose, clear_more}
use Rattle.nf_pattern.proofs.Backing.{back_loose}
use Rattle.nf_pattern.proofs.Calming.{calm_loose}
use Rattle.nf_pattern.proofs.Following.{entered_on, left_back}

-- The trail, extended or shortened.
abbrev pub moved : Trail → ℕ → Trail
moved trail n = record { depth = n; tight = trail.tight; firm = trail.firm; chain = trail.chain; ends = trail.ends; lost = trail.lost }

module _ (source : ℕ) (hops : List Hop) (resetting : List Bool) (p : Pattern) where
  keeps_idle : (ends : List ℕ) (e : ℕ) → DoEndsCarry resetting p ends → slice_get p e ≡ Some None → KeepsEntered source hops resetting p ends e
  keeps_idle ends e carry none v other leads last = ⊎_elim
      (λ (on : Has resetting e). carries_keeps hops resetting p source ends e (inl on) v other leads last)
      (λ (w : (state : State) × HasState p e state). absurd (no_state p e w.0 none w.1))
      (carry v e last)

  pub passed_on : (trail : Trail) (k n : ℕ) → Follows source hops resetting p trail → DoEndsCarry resetting p trail.ends.items → n ≡ trail.depth + k
      → n ≤ length hops → AreIdle p trail.depth n
      → Follows source hops resetting p (moved trail n)
  passed_on trail zero n follows carry is few idle = subst (λ (m : ℕ). Follows source hops resetting p (moved trail m)) (let same : trail.depth ≡ n = omega arith in same) follows
  passed_on trail (suc k) n follows carry is few idle =
      let m : ℕ = trail.depth + k in
      let before = passed_on trail k m follows carry refl (omega arith) (λ e from less. idle e from (omega arith)) in
      let none : slice_get p m ≡ Some None = idle m (omega arith) (omega arith) in
      let loose : HasState p m Tight → ⊥ = no_state p m Tight none in
      entered_on source hops resetting p {trail = moved trail m} {after = moved trail n} before (omega arith) (omega arith)
      (holds_loose hops p m trail.tight.last.items trail.tight.tails.items trail.tight.heads.items before.tight loose)
      (clear_more hops p m before.clear (λ closes. loose closes.0)) refl refl refl
      (keeps_idle trail.ends.items m carry none)
      (calm_loose hops p m trail.firm before.calm loose)

  pub passed_back : (trail : Trail) (k n : ℕ) → Follows source hops resetting p trail → trail.depth ≡ n + k → AreIdle p n trail.depth → Follows source hops resetting p (moved trail n)
  passed_back trail zero n follows is idle = subst (λ (m : ℕ). Follows source hops resetting p (moved trail m)) (let same : trail.depth ≡ n = omega arith in same) follows
  passed_back trail (suc k) n follows is idle =
      let m : ℕ = n + k in
      let next : trail.depth ≡ suc m = omega arith in
      let one = left_back source hops resetting p {trail = trail} {after = moved trail m} follows next
      (back_loose hops p m trail.tight.last.items trail.tight.tails.items trail.tight.heads.items
      (subst (λ (d : ℕ). IsTightStack hops p d trail.tight) next follows.tight) (no_state p m Tight (idle m (omega arith) (omega arith)))) refl refl refl refl in
      passed_back (moved trail m) k n one refl (λ e from less. idle e from (omega arith))

-- the ends carry in each assignment
pub ends_carry : (hops : List Hop) (resetting : List Bool) (base : Pattern) (us : List Bool) (p : Pattern) (ends : List ℕ)
    → AreEnds hops resetting base ends → IsAssignment base us p → DoEndsCarry resetting p ends
ends_carry hops resetting base us p ends are assigned v e at = ⊎_elim
    (λ (on : Has resetting e). inl on)
    (λ (w : (state : State) × HasState base e state). inr (some_too base us p e w.0 assigned w.1))
    ((are v (suc e) at).last e refl).3
