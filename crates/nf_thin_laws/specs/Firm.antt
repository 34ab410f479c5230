-- Freely combinable states of links: every choice of such states, one for each link, is a listed pattern. The number of assignments of such
-- states before a pattern bounds the pattern's rank from below.
use Rattle.std.specs.Prelude.{◌≡◌, ◌≢◌, ◌⊎◌, ℕ, ◌+◌, ◌<◌, Bool, true, false, ◌==◌, if◌then◌else◌, List, [], ◌∷◌, length, Option, Some, None}
use Rattle.nf_model.specs.declared.State.{State}
use Rattle.nf_model.specs.declared.State.TheVariants.{Tight, Full, Zero}
use Rattle.nf_model.specs.Entries.{Has}
use Rattle.nf_model.specs.Walk.{Hop, IsHop}
use Rattle.nf_model.specs.ThinFlow.{Sets}
use Rattle.nf_model.specs.Pattern.{Pattern, HasState, NeedsState, rank, changes}
use Rattle.nf_thin_laws.specs.Forcing.{change}
use Rattle.nf_thin_laws.specs.Ways.{Choices, IsIn, left_ways, ways_below, ways, ways_fewer}

-- The states, with s before them if it is allowed.
abbrev pub if_allowed : Bool → State → List (Option State) → List (Option State)
if_allowed true s states = Some s ∷ states
if_allowed false s states = states

-- The states that a link may have: those of Tight, Full and Zero that are allowed, or none if the base has none.
abbrev pub states_by : Option State → Bool → Bool → Bool → List (Option State)
states_by None tight full zeros = None ∷ []
states_by (Some b) tight full zeros = if_allowed tight Tight (if_allowed full Full (if_allowed zeros Zero []))

abbrev pub choices_by : Pattern → List Bool → List Bool → List Bool → Choices
choices_by [] tight full zeros = []
choices_by (b ∷ base) [] full zeros = []
choices_by (b ∷ base) (t ∷ tight) [] zeros = []
choices_by (b ∷ base) (t ∷ tight) (f ∷ full) [] = []
choices_by (b ∷ base) (t ∷ tight) (f ∷ full) (z ∷ zeros) = states_by b t f z ∷ choices_by base tight full zeros

-- The link is resetting, or has a state that may not be Zero.
abbrev pub IsKeeper : Sets → List Bool → ℕ → Type 0
IsKeeper sets zeros e = Has sets.resetting e ⊎ (NeedsState sets e × (Has zeros e → ⊥))

-- The states are freely combinable. A link may be Tight only if it is Tight in the listed pattern, and Full only if it is bounded. Into
-- each node except the source, some link is resetting or may not be Zero.
pub record AreFirm (nodes source : ℕ) (hops : List Hop) (sets : Sets) (unbounded : List Bool) (listed : Pattern)
    (tight full zeros : List Bool) : Type 0 where
  pub tight_count : length tight ≡ length sets.active
  pub full_count : length full ≡ length sets.active
  pub zero_count : length zeros ≡ length sets.active
  pub tight_there : (e : ℕ) → Has tight e → HasState listed e Tight
  pub bounded : (e : ℕ) → Has full e → Has unbounded e → ⊥
  pub kept : (v : ℕ) → v < nodes → v ≢ source → (e : ℕ) × (hop : Hop) × IsHop hops e hop × (hop.head ≡ v) × IsKeeper sets zeros e

-- ---- the number of assignments before any pattern

-- Each state has a lower rank than those after it.
abbrev pub Ascend : List (Option State) → Type 0
Ascend [] = Unit {0}
Ascend (t ∷ states) = ((s : Option State) → IsIn states s → rank t < rank s) × Ascend states

abbrev pub AllAscend : Choices → Type 0
AllAscend [] = Unit {0}
AllAscend (c ∷ choices) = Ascend c × AllAscend choices

-- The state is one of a link's states.
abbrev pub is_in : List (Option State) → Option State → Bool
is_in [] s = false
is_in (t ∷ states) s = if rank s == rank t then true else is_in states s

-- The number of assignments that differ from the base at exactly n links and are earlier than p, link by link. Pattern p may have other
-- states: if it has one at a link, no assignment agrees with it up to there.
abbrev pub firm_earlier : Choices → Pattern → Pattern → ℕ → ℕ
firm_earlier [] base p n = 0
firm_earlier (c ∷ choices) [] p n = 0
firm_earlier (c ∷ choices) (b ∷ base) [] n = 0
firm_earlier (c ∷ choices) (b ∷ base) (s ∷ p) n =
    ways_below c b s (ways choices base) n + (if is_in c s then left_ways (change b s) (firm_earlier choices base p) n else 0)

-- The number of assignments that come before p.
abbrev pub firm_before : Choices → Pattern → Pattern → ℕ
firm_before choices base p = ways_fewer choices base (changes base p) + firm_earlier choices base p (changes base p)
