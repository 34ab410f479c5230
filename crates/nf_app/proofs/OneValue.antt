-- An option has one value.
use Rattle.std.proofs.Common.{◌≡◌, Option, Some}

pub same_some : {A : Type 0} (o : Option A) (x y : A) → o ≡ Some x → o ≡ Some y → x ≡ y
same_some o x y h k = cc
