-- Patterns with forced states have the order of the patterns left.
use Rattle.std.proofs.Common.{◌≡◌, ◌⊎◌, inl, inr, suc, ◌+◌, ◌<◌, Bool, true, false, [], ◌∷◌, length, refl, sym, ap, ◌∙◌, arith, ◌↔◌, Option, Some, None}
use Rattle.std.proofs.Common.{◌==◌, if◌then◌else◌}
use Rattle.nf_thin_laws.proofs.Common.{same_Some, State, Pattern, rank, changes, IsEarlier, IsBefore, unforced_of, HasForced, change, forced_changes}

pub changes_first : (b s : Option State) (base p : Pattern) → changes (b ∷ base) (s ∷ p) ≡ change b s + changes base p
changes_first b s base p = go (rank b == rank s)
  where
    go : (t : Bool) → (if t then changes base p else suc (changes base p)) ≡ (if t then 0 else 1) + changes base p
    go true = omega arith
    go false = omega arith

pub changes_split : (forced base p : Pattern) → length forced ≡ length p → length base ≡ length p → HasForced forced p
    → changes base p ≡ forced_changes forced base + changes (unforced_of forced base) (unforced_of forced p)
changes_split [] [] [] n m h = refl
changes_split [] [] (s ∷ p) n m h = absurd (omega arith)
changes_split [] (b ∷ base) [] n m h = absurd (omega arith)
changes_split [] (b ∷ base) (s ∷ p) n m h = absurd (omega arith)
changes_split (f ∷ forced) [] [] n m h = absurd (omega arith)
changes_split (f ∷ forced) [] (s ∷ p) n m h = absurd (omega arith)
changes_split (f ∷ forced) (b ∷ base) [] n m h = absurd (omega arith)
changes_split (None ∷ forced) (b ∷ base) (s ∷ p) n m h =
    let one = changes_first b s base p in
    let other = changes_first b s (unforced_of forced base) (unforced_of forced p) in
    let rest = changes_split forced base p (omega arith) (omega arith) (λ e g k. h (suc e) g k) in
    omega arith
changes_split (Some f ∷ forced) (b ∷ base) (s ∷ p) n m h =
    let one = changes_first b s base p in
    let other = changes_first None None (unforced_of forced base) (unforced_of forced p) in
    let here : change b s ≡ change b (Some f) = ap (change b) (same_Some s (Some f) (h 0 f refl)) in
    let rest = changes_split forced base p (omega arith) (omega arith) (λ e g k. h (suc e) g k) in
    omega arith

on_later : {R E A B : Type 0} → (A → B) → R ⊎ (E × A) → R ⊎ (E × B)
on_later f (inl less) = inl less
on_later f (inr later) = inr (later.0, f later.1)

only_later : {R S E F A B : Type 0} → (R → ⊥) → F → (A → B) → R ⊎ (E × A) → S ⊎ (F × B)
only_later none same f (inl less) = absurd (none less)
only_later none same f (inr later) = inr (same, f later.1)

earlier_forced : (forced p q : Pattern) → length forced ≡ length p → length q ≡ length p → HasForced forced p → HasForced forced q
    → IsEarlier p q ↔ IsEarlier (unforced_of forced p) (unforced_of forced q)
earlier_forced [] [] [] n m h k = ((λ less. less), (λ less. less))
earlier_forced [] [] (t ∷ q) n m h k = absurd (omega arith)
earlier_forced [] (s ∷ p) q n m h k = absurd (omega arith)
earlier_forced (f ∷ forced) [] q n m h k = absurd (omega arith)
earlier_forced (f ∷ forced) (s ∷ p) [] n m h k = absurd (omega arith)
earlier_forced (None ∷ forced) (s ∷ p) (t ∷ q) n m h k =
    let rest = earlier_forced forced p q (omega arith) (omega arith) (λ e g z. h (suc e) g z) (λ e g z. k (suc e) g z) in
    (on_later rest.0, on_later rest.1)
earlier_forced (Some f ∷ forced) (s ∷ p) (t ∷ q) n m h k =
    let rest = earlier_forced forced p q (omega arith) (omega arith) (λ e g z. h (suc e) g z) (λ e g z. k (suc e) g z) in
    let same : s ≡ t = same_Some s (Some f) (h 0 f refl) ∙ sym (same_Some t (Some f) (k 0 f refl)) in
    (only_later (λ (less : rank s < rank t). let r : rank s ≡ rank t = ap rank same in omega arith) refl rest.0, only_later (λ (less : 0 < 0). omega arith) same rest.1)

module _ (forced base p q : Pattern) (n : length forced ≡ length p) (b : length base ≡ length p) (m : length q ≡ length p) (h : HasForced forced p) (k : HasForced forced q) where
  first : changes base p ≡ forced_changes forced base + changes (unforced_of forced base) (unforced_of forced p)
  first = changes_split forced base p n b h

  second : changes base q ≡ forced_changes forced base + changes (unforced_of forced base) (unforced_of forced q)
  second = changes_split forced base q (n ∙ sym m) (b ∙ sym m) k

  pub before_left : IsBefore base p q → IsBefore (unforced_of forced base) (unforced_of forced p) (unforced_of forced q)
  before_left (inl less) = let c = first in let d = second in inl (omega arith)
  before_left (inr less) = let c = first in let d = second in let e = less.0 in inr (omega arith, (earlier_forced forced p q n m h k).0 less.1)

  pub before_put : IsBefore (unforced_of forced base) (unforced_of forced p) (unforced_of forced q) → IsBefore base p q
  before_put (inl less) = let c = first in let d = second in inl (omega arith)
  before_put (inr less) = let c = first in let d = second in let e = less.0 in inr (omega arith, (earlier_forced forced p q n m h k).1 less.1)
