-- The listing of a network's patterns, with a budget.
use Rattle.std.specs.Prelude.{ℕ, ◌^◌, ◌<◌, List, length, Option}
use Rattle.nf_model.specs.Network.{unbounded}
use Rattle.nf_model.specs.Pattern.{Pattern, IsPattern, IsListedIn}
use Rattle.nf_net_def.specs.WellNamed.{IsNamed}
use Rattle.nf_pattern.specs.Given.{Question}
use Rattle.nf_thin_rank.specs.declared.ranking.Ranking.{Ranking}
use Rattle.nf_thin_rank.specs.Questions.{AreSetsOf, question_of}
use Rattle.nf_thin_rank.specs.Firming.{AreKeepers}

-- A pattern of the ranking's sets.
abbrev pub IsPatternFor : Ranking → Pattern → Type 0
IsPatternFor ranking pattern = IsPattern ranking.sets.now (unbounded ranking.net.now.net) pattern

-- The network is that of an accepted file, the sets are sets of its links, the base is a pattern of these sets, and the budget has 64 bits.
pub record IsPosed (ranking : Ranking) : Type 0 where
  pub named : IsNamed ranking.net.now
  pub sets : AreSetsOf ranking.net.now.net ranking.sets.now
  pub base : IsPatternFor ranking ranking.base.now
  pub budget : ranking.budget < 2 ^ 64

-- The question of the listing.
abbrev pub question_in : Ranking → Question
question_in ranking = question_of ranking.net.now.net ranking.sets.now ranking.base.now

-- A listed pattern.
abbrev pub IsListedFor : Ranking → Pattern → Type 0
IsListedFor ranking pattern = IsListedIn ranking.net.now.net ranking.sets.now pattern

-- Each node's keeper in a listed pattern.
abbrev pub AreKeepersFor : Ranking → Pattern → List (Option ℕ) → Type 0
AreKeepersFor ranking listed keepers = AreKeepers ranking.net.now.net ranking.sets.now listed (length ranking.net.now.net.links) keepers
