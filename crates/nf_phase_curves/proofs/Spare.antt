-- The least reserved memory of three parts.
use Rattle.std.proofs.Common.{ℕ, ◌<◌, ◌≤◌, min, arith}

pub three_kept : (a b c x y z : ℕ) → a ≤ x → b ≤ y → c ≤ z → min a (min b c) ≤ min x (min y z)
three_kept a b c x y z h i j = omega arith

pub three_rooms : (a b c : ℕ) → 0 < a → 0 < b → 0 < c → 0 < min a (min b c)
three_rooms a b c h i j = omega arith

pub each_room : (a b c : ℕ) → 0 < min a (min b c) → (0 < a) × (0 < b) × (0 < c)
each_room a b c h = (omega arith, omega arith, omega arith)
