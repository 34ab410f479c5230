-- What a sink took, piece after piece.
use Rattle.std.specs.Prelude.{◌≡◌, ℕ, ◌+◌, ◌-◌, ◌≤◌, List, ◌++◌, length, take, drop, Option, Some, None, Result, Ok, Err, refl}
use Rattle.std.proofs.Common.{arith, sym, ap, ◌∙◌, append_assoc, length-drop, length-append}
use Rattle.std.proofs.lemmas.List.{take-append-le}
use Rattle.std.proofs.Math.Seq.{take-add, take-length, take-append-add}
use Rattle.nf_edge.specs.Faults.{one_more}
use Rattle.nf_edge.specs.Taken.{with_more}
use Rattle.nf_edge.specs.Writing.{SinkState, Wrote}

-- the text without its first bytes
abbrev pub rest : List ℕ → ℕ → List ℕ
rest text done = take (length text - done) (drop done text)

rest-drop : (text : List ℕ) (done : ℕ) → rest text done ≡ drop done text
rest-drop text done = ap (λ n. take n (drop done text)) (sym (length-drop done text)) ∙ take-length (drop done text)

with_more-with_more : (took : Option (List ℕ)) (a b : List ℕ) → with_more (with_more took a) b ≡ with_more took (a ++ b)
with_more-with_more None a b = refl
with_more-with_more (Some before) a b = ap Some (append_assoc before a b)

-- a sink that took a prefix of a text and then some of the remainder
pub took_more : (old before now : Option (List ℕ)) (text : List ℕ) (done count : ℕ)
    → before ≡ with_more old (take done text) → now ≡ with_more before (take count (rest text done)) → now ≡ with_more old (take (done + count) text)
took_more old before now text done count first next =
    next ∙ ap (λ t. with_more before (take count t)) (rest-drop text done) ∙ ap (λ t. with_more t (take count (drop done text))) first
    ∙ with_more-with_more old (take done text) (take count (drop done text)) ∙ ap (with_more old) (sym (take-add done count text))

pub still_within : (text : List ℕ) (done count : ℕ) → done ≤ length text → count ≤ length (rest text done) → done + count ≤ length text
still_within text done count h k =
    let e : length (rest text done) ≡ length text - done = ap length (rest-drop text done) ∙ length-drop done text in omega (arith, h, k, e)

-- ---- one text after another
-- a text written whole, and then the next one
pub Wrote-append : {E F : Type 0} (old before now : SinkState) (first next : List ℕ) (r : Result (Unit {0}) E)
    → Wrote {E = F} old before first (Ok tt) → Wrote before now next r → Wrote old now (first ++ next) r
Wrote-append old before now first next (Ok u) v w = record {
  whole = w.whole ∙ ap (λ t. with_more t next) v.whole ∙ with_more-with_more old.took first next;
  no_fault = w.no_fault ∙ v.no_fault;
  front = w.front;
  cause = w.cause;
  never_falls = omega (arith, v.never_falls, w.never_falls);
}
Wrote-append old before now first next (Err e) v w = record {
  whole = w.whole;
  no_fault = w.no_fault;
  front = record {
    count = length first + w.front.count;
    not_all = let a : length (first ++ next) ≡ length first + length next = length-append first next in omega (arith, w.front.not_all, a);
    front = w.front.front ∙ ap (λ t. with_more t (take w.front.count next)) v.whole ∙ with_more-with_more old.took first (take w.front.count next)
        ∙ ap (with_more old.took) (sym (take-append-add first next w.front.count));
  };
  cause = w.cause ∙ ap one_more v.no_fault;
  never_falls = omega (arith, v.never_falls, w.never_falls);
}

-- a proper prefix of a text is one of each longer text
pub Wrote-longer : {E F : Type 0} (old now : SinkState) (first rest : List ℕ) (e : E) (d : F)
    → Wrote old now first (Err e) → Wrote old now (first ++ rest) (Err d)
Wrote-longer old now first rest e d w = record {
  whole = tt;
  no_fault = tt;
  front = record {
    count = w.front.count;
    not_all = let a : length (first ++ rest) ≡ length first + length rest = length-append first rest in omega (arith, w.front.not_all, a);
    front = w.front.front ∙ ap (with_more old.took) (sym (take-append-le w.front.count first rest (omega (arith, w.front.not_all))));
  };
  cause = w.cause;
  never_falls = w.never_falls;
}
