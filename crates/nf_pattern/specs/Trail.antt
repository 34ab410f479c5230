-- The examined prefix of a pattern.
use Rattle.std.specs.Prelude.{◌≡◌, ◌≢◌, ℕ, suc, ◌<◌, ◌≤◌, Bool, List, length, Some, slice_get}
use Rattle.nf_model.specs.Walk.{Hop}
use Rattle.nf_model.specs.Pattern.{Pattern}
use Rattle.nf_pattern.specs.Forest.{NoneCloses}
use Rattle.nf_pattern.specs.Firm.{AreCalm}
use Rattle.nf_pattern.specs.Walking.{IsTightStack}
use Rattle.nf_pattern.specs.Entered.{EnteredBefore, AreChained, LeadsTo, AreEnds, IsLost}
use Rattle.nf_pattern.specs.Given.{Question}
use Rattle.nf_pattern.specs.Stated.{AreStated}
use Rattle.nf_pattern.specs.declared.stated.StatedLinks.{StatedLinks}
use Rattle.nf_pattern.specs.declared.trail.Trail.{Trail}

-- The links before number `depth` are examined. None of them closes a cycle of Tight links. Each node except the source whose last possible
-- entering link is examined is entered. That last link leads to it.
pub record Follows (source : ℕ) (hops : List Hop) (resetting : List Bool) (pattern : Pattern) (trail : Trail) : Type 0 where
  pub depth : trail.depth ≤ length hops
  pub tight : IsTightStack hops pattern trail.depth trail.tight
  pub clear : NoneCloses hops pattern trail.depth
  pub calm : AreCalm hops pattern trail.depth trail.firm
  pub chain : AreChained hops trail.chain.items
  pub count_chain : length trail.chain.items ≡ length hops
  pub count_ends : length trail.ends.items ≡ length trail.tight.last.items
  pub entered : (v n : ℕ) → v ≢ source → slice_get trail.ends.items v ≡ Some n → 0 < n → n ≤ trail.depth
      → EnteredBefore hops resetting pattern n v
  pub last : (v e : ℕ) → slice_get trail.ends.items v ≡ Some (suc e) → LeadsTo hops e v

-- The trail is an examined prefix of the pattern, for the question of a listing.
pub record IsTrailOf (question : Question) (pattern : Pattern) (trail : Trail) : Type 0 where
  pub follows : Follows question.source question.hops question.sets.resetting pattern trail
  pub nodes : length trail.tight.last.items ≡ question.nodes
  pub ends : AreEnds question.hops question.sets.resetting question.base trail.ends.items
  pub lost : IsLost question.source trail.ends.items trail.lost

-- The trail is an examined prefix of some pattern, for some source.
abbrev pub IsLeft : List Hop → Trail → Type 0
IsLeft hops trail = (source : ℕ) × (resetting : List Bool) × (pattern : Pattern) × Follows source hops resetting pattern trail

-- The trail is an examined prefix of some pattern in which exactly the indexed links have a state.
abbrev pub IsLeftBy : List Hop → StatedLinks → Trail → Type 0
IsLeftBy hops stated trail = (source : ℕ) × (resetting : List Bool) × (pattern : Pattern) × AreStated pattern stated
    × Follows source hops resetting pattern trail

-- The number of nodes, `ends` and `lost` stay.
pub record IsOnWay (before after : Trail) : Type 0 where
  pub nodes : length after.tight.last.items ≡ length before.tight.last.items
  pub ends : after.ends ≡ before.ends
  pub lost : after.lost ≡ before.lost
