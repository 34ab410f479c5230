-- The results of `quickest`.
use Rattle.std.specs.Prelude.{◌≡◌, ◌⊎◌, ℕ, Result, Ok, Err}
use Rattle.nf_rational.specs.Rational.{ℚ}
use Rattle.nf_rational.specs.Operations.{0ℚ}
use Rattle.nf_rational.specs.Order.{◌<ℚ◌}
use Rattle.nf_frac_def.specs.declared.Part.TheVariants as Part
use Rattle.nf_frac_def.specs.declared.Halt.{Halt}
use Rattle.nf_frac_def.specs.Passing.{Passing}
use Rattle.nf_frac_def.specs.Checked.{at_part}
use Rattle.nf_model.specs.Network.{Network}
use Rattle.nf_quick_def.specs.Steps.{IsUnboundedWalk, IsLimited}
use Rattle.nf_quick_def.specs.InOrder.{ComesOfPushes, EndsAtBudget}
use Rattle.nf_quick_def.specs.Quick.{Quick, QuickStanding, Done, OverBudget, FoundQuick, Budget, push_up_to, start_of, quickest_list}
use Rattle.nf_quick.specs.declared.fault.QuickFault.{QuickFault}

abbrev pub of_halt : Halt ℚ → QuickFault
of_halt (Halt.Passed at) = QuickFault.Passed at
of_halt Halt.Memory = QuickFault.Memory

-- The amount is 0, or each walk from source to sink has a link with a capacity.
abbrev pub HasNoWay : Network → ℚ → Type 0
HasNoWay net amount = (amount ≡ 0ℚ) ⊎ IsLimited net

-- The result of the pushes: no walk is left to push, the budget is exceeded, or an operation exceeds its bound.
abbrev pub IsPushResult : Passing → Network → ℚ → ℕ → Result QuickStanding QuickFault → Type 0
IsPushResult passes net amount augments (Ok s) = at_part Part.Quick (push_up_to passes net amount augments (start_of net)) ≡ Ok (Done s)
IsPushResult passes net amount augments (Err (QuickFault.Budget walks)) =
    at_part Part.Quick (push_up_to passes net amount augments (start_of net)) ≡ Ok (OverBudget walks.items)
IsPushResult passes net amount augments (Err (QuickFault.Unbounded links)) = ⊥
IsPushResult passes net amount augments (Err (QuickFault.Passed at)) =
    at_part Part.Quick (push_up_to passes net amount augments (start_of net)) ≡ Err at
IsPushResult passes net amount augments (Err QuickFault.Memory) = Unit {0}

-- Unbounded implies that the amount is above 0, and carries a walk of unbounded links from source to sink. Each other result except Memory
-- implies that the amount is 0 or no such walk exists, and is the result of `quickest_list`.
abbrev pub IsAnswered : Passing → Network → ℚ → ℕ → Result Quick QuickFault → Type 0
IsAnswered passes net amount augments (Ok quick) = HasNoWay net amount
    × (at_part Part.Quick (quickest_list passes net amount augments) ≡ Ok (FoundQuick quick))
IsAnswered passes net amount augments (Err (QuickFault.Budget walks)) = HasNoWay net amount
    × (at_part Part.Quick (quickest_list passes net amount augments) ≡ Ok (Budget walks.items))
IsAnswered passes net amount augments (Err (QuickFault.Unbounded links)) = (0ℚ <ℚ amount)
    × IsUnboundedWalk net links.items net.source net.sink
IsAnswered passes net amount augments (Err (QuickFault.Passed at)) = HasNoWay net amount
    × (at_part Part.Quick (quickest_list passes net amount augments) ≡ Err at)
IsAnswered passes net amount augments (Err QuickFault.Memory) = Unit {0}

-- A quickest flow results from walks pushed in order. Budget implies that as many walks as allowed were pushed.
abbrev pub IsInOrder : Network → ℚ → ℕ → Result Quick QuickFault → Type 0
IsInOrder net amount augments (Ok quick) = ComesOfPushes net amount augments quick
IsInOrder net amount augments (Err (QuickFault.Budget walks)) = EndsAtBudget net amount augments walks.items
IsInOrder net amount augments (Err (QuickFault.Unbounded links)) = Unit {0}
IsInOrder net amount augments (Err (QuickFault.Passed at)) = Unit {0}
IsInOrder net amount augments (Err QuickFault.Memory) = Unit {0}
