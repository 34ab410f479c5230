-- The next assignment of states, in the order by changes from a base and then link by link.
use Rattle.std.specs.Prelude.{◌≡◌, ◌⊎◌, ℕ, suc, ◌+◌, ◌-◌, ◌≤◌, Bool, true, false, ◌&&◌, ◌==◌, nat_lt, nat_le, if◌then◌else◌, List, [], ◌∷◌, ◌++◌, length, get_or, take, drop, Option, Some, None}
use Rattle.nf_model.specs.declared.State.{State}
use Rattle.nf_model.specs.declared.State.TheVariants.{Tight, Full, Zero}
use Rattle.nf_model.specs.Pattern.{Pattern, rank, changes}
use Rattle.nf_pattern.specs.declared.assignments.Quiet.{Quiet}

-- The states that a link may have, in order: none where the base has none, and Full for no unbounded link.
abbrev pub choices : Option State → Bool → List (Option State)
choices None unbounded = None ∷ []
choices (Some state) true = Some Tight ∷ Some Zero ∷ []
choices (Some state) false = Some Tight ∷ Some Full ∷ Some Zero ∷ []

abbrev pub IsIn : List (Option State) → Option State → Type 0
IsIn [] t = ⊥
IsIn (s ∷ states) t = (t ≡ s) ⊎ IsIn states t

-- Each link has one of its choices.
abbrev pub IsAssignment : Pattern → List Bool → Pattern → Type 0
IsAssignment [] [] [] = Unit {0}
IsAssignment (b ∷ base) (u ∷ unbounded) (s ∷ states) = IsIn (choices b u) s × IsAssignment base unbounded states
IsAssignment base unbounded states = ⊥

-- The number of links that may differ from the base.
abbrev pub free : Pattern → ℕ
free [] = 0
free (None ∷ base) = free base
free (Some b ∷ base) = suc (free base)

-- 1 if a link's state differs from its base state, and 0 otherwise.
abbrev pub change : Option State → Option State → ℕ
change b s = if rank b == rank s then 0 else 1

-- Exactly n links can differ from the base, given state s here and at most `more` later changes.
abbrev pub fits_count : Option State → ℕ → ℕ → Option State → Bool
fits_count b n more s = nat_le (change b s) n && nat_le n (change b s + more)

abbrev pub first_good : (Option State → Bool) → List (Option State) → Option (Option State)
first_good good [] = None
first_good good (s ∷ states) = if good s then Some s else first_good good states

abbrev pub before_all : Option State → Option Pattern → Option Pattern
before_all s None = None
before_all s (Some states) = Some (s ∷ states)

abbrev pub with_rest : Option (Option State) → (Option State → Option Pattern) → Option Pattern
with_rest None rest = None
with_rest (Some s) rest = before_all s (rest s)

-- The earliest assignment with n changes.
abbrev pub earliest : Pattern → List Bool → ℕ → Option Pattern
earliest [] unbounded n = if n == 0 then Some [] else None
earliest (b ∷ base) [] n = None
earliest (b ∷ base) (u ∷ unbounded) n =
    with_rest (first_good (fits_count b n (free base)) (choices b u)) (λ s. earliest base unbounded (n - change b s))

abbrev pub or_else : Option Pattern → Option Pattern → Option Pattern
or_else None other = other
or_else (Some states) other = Some states

-- A flagged link is not raised to Zero.
abbrev pub may_raise : Bool → Option State → Bool
may_raise sole None = true
may_raise sole (Some Tight) = true
may_raise sole (Some Full) = true
may_raise sole (Some Zero) = if sole then false else true

-- The flags are as many as the states, and no flagged link is Zero.
abbrev pub Spares : List Bool → Pattern → Type 0
Spares [] [] = Unit {0}
Spares (z ∷ sole) (s ∷ states) = (may_raise z s ≡ true) × Spares sole states
Spares sole states = ⊥

-- The earliest assignment with n changes whose first link has a later state than a, to which it may be raised.
abbrev pub raised : Option State → Bool → Bool → Pattern → List Bool → Option State → ℕ → Option Pattern
raised b u z base unbounded a n =
    with_rest (first_good (λ s. may_raise z s && (nat_lt (rank a) (rank s) && fits_count b n (free base) s)) (choices b u))
    (λ s. earliest base unbounded (n - change b s))

-- The same at link e of a list: the new states from link e on, with n changes there.
abbrev pub raised_at : Pattern → List Bool → List Bool → Pattern → ℕ → ℕ → Option Pattern
raised_at base unbounded sole states e n = raised (get_or base e None) (get_or unbounded e false) (get_or sole e false)
    (drop (suc e) base) (drop (suc e) unbounded) (get_or states e None) n

-- Link e of the states is raised, and the links before it keep theirs.
pub record RaisesAt (base : Pattern) (unbounded sole : List Bool) (states : Pattern) (e n : ℕ) (after : Pattern) : Type 0 where
  pub rest : Pattern
  pub is_raised : raised_at base unbounded sole states e n ≡ Some rest
  pub stays : after ≡ take e states ++ rest

-- The first e links have the same states in both, where e is 0 or less than `same`.
abbrev pub IsSameBefore : ℕ → ℕ → Pattern → Pattern → Type 0
IsSameBefore same e states after = (e ≤ same - 1) × (take e after ≡ take e states)

-- The links from `quiet.link` on equal the base, and `quiet.free` of them may differ from it.
pub record IsQuiet (base : Pattern) (quiet : Quiet) (states : Pattern) : Type 0 where
  pub within : quiet.link ≤ length base
  pub unchanged : changes (drop quiet.link base) (drop quiet.link states) ≡ 0
  pub free_is : quiet.free ≡ free (drop quiet.link base)

-- The next assignment with equally many changes that differs at one of the first i links, with no flagged link raised to Zero.
abbrev pub later : ℕ → Pattern → List Bool → List Bool → Pattern → Option Pattern
later (suc i) (b ∷ base) (u ∷ unbounded) (z ∷ sole) (a ∷ states) =
    or_else (before_all a (later i base unbounded sole states)) (raised b u z base unbounded a (changes (b ∷ base) (a ∷ states)))
later i base unbounded sole states = None

-- The next such assignment with equally many changes, or else the earliest with one change more.
abbrev pub next_assignment : ℕ → Pattern → List Bool → List Bool → Pattern → Option Pattern
next_assignment i base unbounded sole states =
    or_else (later i base unbounded sole states) (earliest base unbounded (suc (changes base states)))
