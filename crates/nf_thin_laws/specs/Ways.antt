-- The number of assignments of states to links before a pattern, in the order of patterns.
use Rattle.std.specs.Prelude.{◌≡◌, ◌≢◌, ◌⊎◌, ℕ, zero, suc, ◌+◌, Bool, true, false, nat_lt, ◌==◌, if◌then◌else◌, List, [], ◌∷◌, Option, Some, None}
use Rattle.nf_model.specs.declared.State.{State}
use Rattle.nf_model.specs.declared.State.TheVariants.{Tight, Full, Zero}
use Rattle.nf_model.specs.Entries.{Has}
use Rattle.nf_model.specs.Walk.{Hop, IsHop}
use Rattle.nf_model.specs.ThinFlow.{Sets}
use Rattle.nf_model.specs.Pattern.{Pattern, rank, changes}
use Rattle.nf_thin_laws.specs.Forcing.{change}

-- The states that each link may have.
abbrev pub Choices : Type 0
Choices = List (List (Option State))

abbrev pub IsIn : List (Option State) → Option State → Type 0
IsIn [] s = ⊥
IsIn (t ∷ states) s = (s ≡ t) ⊎ IsIn states s

-- Each link has one of its states.
abbrev pub AreIn : Choices → Pattern → Type 0
AreIn [] [] = Unit {0}
AreIn [] (s ∷ p) = ⊥
AreIn (c ∷ choices) [] = ⊥
AreIn (c ∷ choices) (s ∷ p) = IsIn c s × AreIn choices p

-- `rest (n - made)`, or 0 if `made > n`: the ways to make the remaining changes.
abbrev pub left_ways : ℕ → (ℕ → ℕ) → ℕ → ℕ
left_ways zero rest n = rest n
left_ways (suc made) rest zero = 0
left_ways (suc made) rest (suc n) = left_ways made rest n

-- The number of assignments with n changes, over all states of this link.
abbrev pub ways_by : List (Option State) → Option State → (ℕ → ℕ) → ℕ → ℕ
ways_by [] b rest n = 0
ways_by (t ∷ states) b rest n = left_ways (change b t) rest n + ways_by states b rest n

-- The number of assignments with n changes, over the states of this link before s.
abbrev pub ways_below : List (Option State) → Option State → Option State → (ℕ → ℕ) → ℕ → ℕ
ways_below [] b s rest n = 0
ways_below (t ∷ states) b s rest n = (if nat_lt (rank t) (rank s) then left_ways (change b t) rest n else 0) + ways_below states b s rest n

-- The number of assignments that differ from the base at exactly n links.
abbrev pub ways : Choices → Pattern → ℕ → ℕ
ways [] [] n = if n == 0 then 1 else 0
ways [] (b ∷ base) n = 0
ways (c ∷ choices) [] n = 0
ways (c ∷ choices) (b ∷ base) n = ways_by c b (ways choices base) n

-- The number of these assignments that are earlier than p, link by link.
abbrev pub ways_earlier : Choices → Pattern → Pattern → ℕ → ℕ
ways_earlier [] base p n = 0
ways_earlier (c ∷ choices) [] p n = 0
ways_earlier (c ∷ choices) (b ∷ base) [] n = 0
ways_earlier (c ∷ choices) (b ∷ base) (s ∷ p) n =
    ways_below c b s (ways choices base) n + left_ways (change b s) (ways_earlier choices base p) n

-- The number of assignments that differ from the base at fewer than n links.
abbrev pub ways_fewer : Choices → Pattern → ℕ → ℕ
ways_fewer choices base zero = 0
ways_fewer choices base (suc n) = ways_fewer choices base n + ways choices base n

-- The number of assignments that come before p.
abbrev pub ways_before : Choices → Pattern → Pattern → ℕ
ways_before choices base p = ways_fewer choices base (changes base p) + ways_earlier choices base p (changes base p)

-- ---- the states that a listed pattern can have

-- No active link except e leads to the head of e, which is not the source.
pub record IsSole (source : ℕ) (hops : List Hop) (sets : Sets) (e : ℕ) : Type 0 where
  pub hop : Hop
  pub is_hop : IsHop hops e hop
  pub elsewhere : hop.head ≢ source
  pub alone : (other : ℕ) (link : Hop) → IsHop hops other link → link.head ≡ hop.head → Has sets.active other → other ≡ e

-- The flags mark only such links, and perhaps not all of them.
abbrev pub AreSole : ℕ → List Hop → Sets → List Bool → Type 0
AreSole source hops sets sole = (e : ℕ) → Has sole e → IsSole source hops sets e

-- Tight; Full unless the link is unbounded; and Zero unless it alone can enter its head. None if the base has none.
abbrev pub states_of : Option State → Bool → Bool → List (Option State)
states_of None unbounded sole = None ∷ []
states_of (Some b) true true = Some Tight ∷ []
states_of (Some b) true false = Some Tight ∷ Some Zero ∷ []
states_of (Some b) false true = Some Tight ∷ Some Full ∷ []
states_of (Some b) false false = Some Tight ∷ Some Full ∷ Some Zero ∷ []

abbrev pub choices_of : Pattern → List Bool → List Bool → Choices
choices_of [] unbounded sole = []
choices_of (b ∷ base) [] sole = []
choices_of (b ∷ base) (u ∷ unbounded) [] = []
choices_of (b ∷ base) (u ∷ unbounded) (o ∷ sole) = states_of b u o ∷ choices_of base unbounded sole
