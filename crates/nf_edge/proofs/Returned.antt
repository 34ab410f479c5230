-- What the result of a fetch says.
use Rattle.std.specs.Prelude.{◌≡◌, ℕ, ◌+◌, ◌<◌, ◌≤◌, [], take, Bool, if◌then◌else◌, true, false, nat_lt, List, length, Option, None, Some, Result, Ok, Err, IfOk, refl}
use Rattle.std.specs.Result.{IsErrAnd}
use Rattle.std.specs.declared.vec.Vec.{Vec}
use Rattle.std.specs.declared.alloc.Global.{Global}
use Rattle.std.specs.Io.KnownBytes.{Consumes}
use Rattle.std.proofs.Common.{arith, sym, ap, subst, append-nil, inl}
use Rattle.std.proofs.KnownBytes.{Consumes-trans}
use borrow.Author.Tests.{ltb-false}
use Rattle.nf_edge.specs.Memory.{told_under, is_among, within_limit, found, Answers}
use Rattle.nf_edge.specs.declared.FetchFault.{FetchFault}
use Rattle.nf_edge.specs.declared.FetchFault.TheVariants.{Failed, TooLong, Memory}

-- ---- a result that is one fault
module _ {T : Type 0} where
  pub is_memory : (r : Result T FetchFault) → IsErrAnd r (λ fault. fault ≡ Memory) → r ≡ Err Memory
  is_memory (Ok x) h = absurd h
  is_memory (Err fault) h = ap Err h

  pub memory-has_no_value : (r : Result T FetchFault) (P : T → Type 0) → r ≡ Err Memory → IfOk r P
  memory-has_no_value (Ok x) P is = let never : ⊥ = cc in absurd never
  memory-has_no_value (Err fault) P is = tt

  -- what holds of each value
  pub any_value : (r : Result T FetchFault) (P : T → Type 0) → ((x : T) → P x) → IfOk r P
  any_value (Ok x) P all = all x
  any_value (Err fault) P all = tt

  pub memory-not_failed : (r : Result T FetchFault) → r ≡ Err Memory → r ≡ Err Failed → ⊥
  memory-not_failed r is failed = cc

  pub memory-not_too_long : (r : Result T FetchFault) → r ≡ Err Memory → r ≡ Err TooLong → ⊥
  memory-not_too_long r is too_long = cc

  pub too_long-not_failed : (r : Result T FetchFault) → r ≡ Err TooLong → r ≡ Err Failed → ⊥
  too_long-not_failed r is failed = cc

  pub failed-not_too_long : (r : Result T FetchFault) → r ≡ Err Failed → r ≡ Err TooLong → ⊥
  failed-not_too_long r is too_long = cc

  pub same_fault : (r : Result T FetchFault) (a b : FetchFault) → r ≡ Err a → r ≡ Err b → a ≡ b
  same_fault r a b e f = cc

  pub value-is_no_fault : (r : Result T FetchFault) (x : T) (fault : FetchFault) → r ≡ Ok x → r ≡ Err fault → ⊥
  value-is_no_fault r x fault is e = cc

pub memory-answers : (r : Result (Vec ℕ Global) FetchFault) (said : Result (List ℕ) FetchFault) → r ≡ Err Memory → Answers r said
memory-answers (Ok x) said is = let never : ⊥ = cc in absurd never
memory-answers (Err fault) said is = let e : fault ≡ Memory = cc in inl e

-- ---- bytes that were found are within the limit
within-fits : (limit : ℕ) (held : Option (List ℕ)) (bytes : List ℕ) → within_limit limit held ≡ Ok bytes → length bytes ≤ limit
within-fits limit None bytes e = let never : ⊥ = cc in absurd never
within-fits limit (Some held) bytes e = at (nat_lt limit (length held)) refl e
  where
    at : (above : Bool) → nat_lt limit (length held) ≡ above → (if above then Err TooLong else Ok held) ≡ Ok bytes → length bytes ≤ limit
    at true is h = let never : ⊥ = cc in absurd never
    at false is h = let same : held ≡ bytes = cc in subst (λ (l : List ℕ). length l ≤ limit) same (ltb-false limit (length held) is)

pub found-fits : (files : List (List ℕ × List ℕ)) (failing : List ℕ) (call : ℕ) (name : List ℕ) (limit : ℕ) (bytes : List ℕ)
    → found files failing call name limit ≡ Ok bytes → length bytes ≤ limit
found-fits files failing call name limit bytes e = at (is_among failing call) e
  where
    at : (fails : Bool) → (if fails then Err Failed else within_limit limit (told_under files name)) ≡ Ok bytes → length bytes ≤ limit
    at true h = let never : ⊥ = cc in absurd never
    at false h = within-fits limit (told_under files name) bytes h

-- ---- counts of bytes
pub none-within : (limit : ℕ) → 0 ≤ limit + 1
none-within limit = omega arith

pub none-not_above : (limit : ℕ) → limit < 0 → ⊥
none-not_above limit more = omega arith

pub fits-within : (count limit : ℕ) → count ≤ limit → count ≤ limit + 1
fits-within count limit fits = omega arith

pub items-fit : (now before : List ℕ) (limit : ℕ) → now ≡ before → length before ≤ limit → length now ≤ limit
items-fit now before limit same fits = subst (λ (l : List ℕ). length l ≤ limit) (sym same) fits

pub fits-not_above : (count limit : ℕ) → count ≤ limit → limit < count → ⊥
fits-not_above count limit fits more = omega arith

pub is-within : (count limit : ℕ) → count ≡ limit → count ≤ limit
is-within count limit is = omega arith

-- a count that is another one
pub count-fits : (count other limit : ℕ) → count ≡ other → other ≤ limit → count ≤ limit
count-fits count other limit is fits = omega arith

pub count-above : (count other limit : ℕ) → count ≡ other → other ≡ limit + 1 → limit < count
count-above count other limit is next = omega arith

pub above-count : (count other limit : ℕ) → count ≡ other → limit < count → limit < other
above-count count other limit is more = omega arith

-- ---- a read of no byte
pub read_none : (first before now : Option (List ℕ)) (bytes piece : List ℕ) (count : ℕ) → Consumes first before bytes → count ≡ 0
    → Consumes before now (take count piece) → Consumes first now bytes
read_none first before now bytes piece count h none k =
    subst (Consumes first now) (append-nil bytes) (Consumes-trans first before now bytes [] h (subst (λ (n : ℕ). Consumes before now (take n piece)) none k))
