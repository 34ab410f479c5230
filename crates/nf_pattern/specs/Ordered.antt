-- What the order of assignments depends on.
use Rattle.std.specs.Prelude.{◌≡◌, ℕ, ◌^◌, ◌<◌, ◌≤◌, length}
use Rattle.nf_model.specs.Pattern.{Pattern}
use Rattle.nf_pattern.specs.Successor.{IsAssignment}
use Rattle.nf_pattern.specs.Stated.{AreStated}
use Rattle.nf_pattern.specs.declared.assignments.Order.{Order}

-- The base is an assignment of states to itself, each of its links has a flag of each kind, and the index is that of the base.
pub record IsStateOrder (order : Order) : Type 0 where
  pub unbounded : length order.unbounded.now ≡ length order.base.now
  pub sole : length order.sole.now ≡ length order.base.now
  pub fewer : length order.base.now < 2 ^ 32
  pub valid : IsAssignment order.base.now order.unbounded.now order.base.now
  pub stated : AreStated order.base.now order.stated.now

-- The states are an assignment, and its first `same` links may be raised.
pub record MayRaise (order : Order) (same : ℕ) (states : Pattern) : Type 0 where
  pub is_order : IsStateOrder order
  pub within : same ≤ length order.base.now
  pub count : length states ≡ length order.base.now
  pub assigned : IsAssignment order.base.now order.unbounded.now states
