-- Flags of links without a capacity.
use Rattle.std.proofs.Common.{◌≡◌, Bool, true, false, not, refl, sym, ap, ◌∙◌, Option, is_some, is_none}

turned : (b : Bool) → not (not b) ≡ b
turned true = refl
turned false = refl

-- The flag of a missing entry is that of a link without a capacity.
pub none_flag : {A : Type 0} (o p : Option A) (b : Bool) → o ≡ p → is_some o ≡ not b → is_none p ≡ b
none_flag {A = A} o p b same e = ap is_none (sym same) ∙ (ap not e ∙ turned b)
