-- The earliest assignment, one link after the other.
use Rattle.std.proofs.Common.{◌≡◌, ℕ, suc, ◌+◌, ◌-◌, ◌<◌, ◌≤◌, Bool, true, false, List, [], ◌∷◌, ◌++◌, length, get_or, take, drop, set, drop-cons}
use Rattle.std.proofs.Common.{append_assoc, eqb, ⊎_elim, refl, sym, ap, subst, ◌∙◌, arith, Option, Some, None, if◌then◌else◌}
use Rattle.nf_pattern.proofs.Common.{length-set, drop_of_length-le, append-nil, take_all, apart_from_test, State, Tight, Full, Zero, Pattern, rank}
use Rattle.nf_pattern.proofs.Common.{same_rank, take_set, choices, IsIn, IsAssignment, free, change, fits_count, first_good, before_all, with_rest}
use Rattle.nf_pattern.proofs.Common.{earliest, raised}
use Rattle.std.specs.Option.{is_some}
use Rattle.nf_pattern.proofs.Successors.{no_change, good_some, good_none, good_choice, fits_in, fits_out, higher, higher_out}

pub free_first : (b : Option State) (base : Pattern) → free (b ∷ base) ≡ change None b + free base
free_first None base = omega arith
free_first (Some Tight) base = omega arith
free_first (Some Full) base = omega arith
free_first (Some Zero) base = omega arith

pub no_state : (b : Option State) → is_some b ≡ false → b ≡ None
no_state None e = refl
no_state (Some s) e = cc

-- some states before the rest
abbrev pub prefixed : Pattern → Option Pattern → Option Pattern
prefixed front None = None
prefixed front (Some states) = Some (front ++ states)

prefixed-before : (front : Pattern) (s : Option State) (o : Option Pattern) → prefixed front (before_all s o) ≡ prefixed (front ++ s ∷ []) o
prefixed-before front s None = refl
prefixed-before front s (Some states) = ap Some (sym (append_assoc front (s ∷ []) states))

-- The links before number i have their states, and `left` changes remain.
pub record AreFilled (base : Pattern) (us : List Bool) (n : ℕ) (states : Pattern) (i left more : ℕ) : Type 0 where
  pub said : earliest base us n ≡ prefixed (take i states) (earliest (drop i base) (drop i us) left)
  pub all_free : more ≡ free (drop i base)
  pub few : left ≤ more
  pub valid : IsAssignment (drop i base) (drop i us) (drop i base)
  pub count : length states ≡ length base

prefixed-nothing : (o : Option Pattern) → o ≡ prefixed [] o
prefixed-nothing None = refl
prefixed-nothing (Some states) = refl

pub none_filled : (base : Pattern) (us : List Bool) (n more : ℕ) (states : Pattern) → length states ≡ length base → IsAssignment base us base
    → more ≡ free base → n ≤ more → AreFilled base us n states 0 n more
none_filled base us n more states count valid all few = record { said = prefixed-nothing (earliest base us n); all_free = all; few = few; valid = valid; count = count }

module _ (base : Pattern) (us : List Bool) (n : ℕ) (states : Pattern) (i left more : ℕ) (b : Option State) (u : Bool) (filled : AreFilled base us n states i left more)
    (below : i < length base) (same_count : length us ≡ length base) (c : Option State) (at_base : b ≡ get_or base i c) (w : Bool) (at_us : u ≡ get_or us i w) where
  base_from : drop i base ≡ b ∷ drop (suc i) base
  base_from = drop-cons base i c below ∙ ap (λ (x : Option State). x ∷ drop (suc i) base) (sym at_base)

  us_from : drop i us ≡ u ∷ drop (suc i) us
  us_from = drop-cons us i w (omega arith) ∙ ap (λ (x : Bool). x ∷ drop (suc i) us) (sym at_us)

  valid_here : IsAssignment (b ∷ drop (suc i) base) (u ∷ drop (suc i) us) (b ∷ drop (suc i) base)
  valid_here = subst (λ (x : Pattern). IsAssignment x (u ∷ drop (suc i) us) x) base_from (subst (λ (x : List Bool). IsAssignment (drop i base) x (drop i base)) us_from filled.valid)

  few_here : left ≤ free (b ∷ drop (suc i) base)
  few_here = let f = filled.few in let a : more ≡ free (b ∷ drop (suc i) base) = filled.all_free ∙ ap free base_from in omega arith

  pub rest_free : (rest : ℕ) → rest ≡ more - change None b → rest ≡ free (drop (suc i) base)
  rest_free rest is = let a : more ≡ free (b ∷ drop (suc i) base) = filled.all_free ∙ ap free base_from in let f = free_first b (drop (suc i) base) in omega arith

  -- the link has a choice
  pub has_choice : first_good (fits_count b left (free (drop (suc i) base))) (choices b u) ≡ None → ⊥
  has_choice e = let g = good_choice b u (drop (suc i) base) left valid_here.0 few_here in good_none (fits_count b left (free (drop (suc i) base))) (choices b u) g.0 e g.1 g.2

  module _ (s : Option State) (chosen : first_good (fits_count b left (free (drop (suc i) base))) (choices b u) ≡ Some s) where
    fit : (change b s ≤ left) × (left ≤ change b s + free (drop (suc i) base))
    fit = fits_out b s left (free (drop (suc i) base)) (good_some (fits_count b left (free (drop (suc i) base))) (choices b u) s chosen).1

    pub change_fits : change b s ≤ left
    change_fits = fit.0

    goes_on : earliest (drop i base) (drop i us) left ≡ before_all s (earliest (drop (suc i) base) (drop (suc i) us) (left - change b s))
    goes_on = ap (λ (x : Pattern). earliest x (drop i us) left) base_from ∙ (ap (λ (x : List Bool). earliest (b ∷ drop (suc i) base) x left) us_from
        ∙ ap (λ (o : Option (Option State)). with_rest o (λ t. earliest (drop (suc i) base) (drop (suc i) us) (left - change b t))) chosen)

    pub more_filled : (j rest later_more : ℕ) → j ≡ suc i → rest ≡ left - change b s → later_more ≡ free (drop (suc i) base) → AreFilled base us n (set states i s) j rest later_more
    more_filled j rest later_more at_j is_rest is_more =
        let here : i < length states = (let c = filled.count in omega arith) in
        let all : earliest base us n ≡ prefixed (take (suc i) (set states i s)) (earliest (drop (suc i) base) (drop (suc i) us) (left - change b s)) =
        (filled.said ∙ (ap (prefixed (take i states)) goes_on ∙ (prefixed-before (take i states) s (earliest (drop (suc i) base) (drop (suc i) us) (left - change b s))
        ∙ ap (λ (front : Pattern). prefixed front (earliest (drop (suc i) base) (drop (suc i) us) (left - change b s))) (sym (take_set states i s here))))) in
        let done : AreFilled base us n (set states i s) (suc i) (left - change b s) (free (drop (suc i) base)) = record {
          said = all;
          all_free = refl;
          few = (let f = fit in omega arith);
          valid = valid_here.1;
          count = length-set states i s ∙ filled.count;
        } in
        subst (λ (k : ℕ). AreFilled base us n (set states i s) k rest later_more) (sym at_j)
        (subst (λ (k : ℕ). AreFilled base us n (set states i s) (suc i) k later_more) (sym is_rest)
        (subst (λ (k : ℕ). AreFilled base us n (set states i s) (suc i) (left - change b s) k) (sym is_more) done))

  -- a link that has no state
  idle_choice : b ≡ None → first_good (fits_count b left (free (drop (suc i) base))) (choices b u) ≡ Some None
  idle_choice none = go (first_good (fits_count b left (free (drop (suc i) base))) (choices b u)) refl
    where
      only : (s : Option State) → IsIn (choices b u) s → s ≡ None
      only s is = ⊎_elim (λ (e : s ≡ None). e) (λ (no : ⊥). absurd no) (subst (λ (x : Option State). IsIn (choices x u) s) none is)

      go : (o : Option (Option State)) → first_good (fits_count b left (free (drop (suc i) base))) (choices b u) ≡ o
          → first_good (fits_count b left (free (drop (suc i) base))) (choices b u) ≡ Some None
      go None e = absurd (has_choice e)
      go (Some s) e = e ∙ ap (λ (x : Option State). Some x) (only s (good_some (fits_count b left (free (drop (suc i) base))) (choices b u) s e).0)

  pub idle_filled : (j : ℕ) → j ≡ suc i → b ≡ None → AreFilled base us n (set states i None) j left more
  idle_filled j at none = more_filled None (idle_choice none) j left more at
      (subst (λ (x : Option State). left ≡ left - change x None) (sym none) (let e : change None None ≡ 0 = refl in omega arith))
      (filled.all_free ∙ (ap free base_from ∙ subst (λ (x : Option State). free (x ∷ drop (suc i) base) ≡ free (drop (suc i) base)) (sym none) refl))

none_left : (us : List Bool) (left : ℕ) → left ≤ 0 → earliest [] us left ≡ Some []
none_left us left h = go (eqb left 0) refl
  where
    go : (t : Bool) → eqb left 0 ≡ t → ◌≡◌ {A = Option Pattern} (if t then Some [] else None) (Some [])
    go true e = refl
    go false e = absurd (apart_from_test left 0 (sym e) (omega arith))

pub all_filled : (base : Pattern) (us : List Bool) (n : ℕ) (states : Pattern) (i left more : ℕ) → length base ≤ i → AreFilled base us n states i left more
    → earliest base us n ≡ Some states
all_filled base us n states i left more end filled =
    let nothing : drop i base ≡ [] = drop_of_length-le base end in
    let zero_more : more ≡ 0 = filled.all_free ∙ ap free nothing in
    let few = filled.few in let count = filled.count in
    filled.said ∙ (ap (λ (x : Pattern). prefixed (take i states) (earliest x (drop i us) left)) nothing ∙ (ap (prefixed (take i states)) (none_left (drop i us) left (omega arith))
    ∙ ap Some (append-nil (take i states) ∙ take_all i states (omega arith))))

-- ---- no change is left
unchanged : (b s : Option State) → change b s ≤ 0 → rank b ≡ rank s
unchanged b s h = grind arith

same_first : (b : Option State) (u : Bool) (more : ℕ) → IsIn (choices b u) b → first_good (fits_count b 0 more) (choices b u) ≡ Some b
same_first b u more h = go (first_good (fits_count b 0 more) (choices b u)) refl
  where
    go : (o : Option (Option State)) → first_good (fits_count b 0 more) (choices b u) ≡ o → first_good (fits_count b 0 more) (choices b u) ≡ Some b
    go None e = absurd (good_none (fits_count b 0 more) (choices b u) b e h (let z = no_change b in fits_in b b 0 more (omega arith) (omega arith)))
    go (Some s) e =
        let good = good_some (fits_count b 0 more) (choices b u) s e in
        let fit = fits_out b s 0 more good.1 in
        e ∙ ap (λ (x : Option State). Some x) (sym (same_rank b s (unchanged b s fit.0)))

pub earliest_same : (base : Pattern) (us : List Bool) → IsAssignment base us base → earliest base us 0 ≡ Some base
earliest_same [] [] h = refl
earliest_same [] (u ∷ us) h = absurd h
earliest_same (b ∷ base) [] h = absurd h
earliest_same (b ∷ base) (u ∷ us) h =
    ap (λ (o : Option (Option State)). with_rest o (λ s. earliest base us (0 - change b s))) (same_first b u (free base) h.0)
    ∙ (ap (λ (n : ℕ). before_all b (earliest base us n)) (let e = no_change b in omega arith) ∙ ap (before_all b) (earliest_same base us h.1))

pub rest_filled : (base : Pattern) (us : List Bool) (n : ℕ) (states : Pattern) (i left more : ℕ) → left ≡ 0 → AreFilled base us n states i left more
    → earliest base us n ≡ Some (take i states ++ drop i base)
rest_filled base us n states i left more none filled = filled.said ∙ (ap (λ (k : ℕ). prefixed (take i states) (earliest (drop i base) (drop i us) k)) none
    ∙ ap (prefixed (take i states)) (earliest_same (drop i base) (drop i us) filled.valid))

-- A link with its base state has no later state without a change.
pub none_raised : (b : Option State) (u z : Bool) (base : Pattern) (us : List Bool) (a : Option State) → change b a ≡ 0 → raised b u z base us a 0 ≡ None
none_raised b u z base us a same = go (first_good (higher b z a 0 (free base)) (choices b u)) refl
  where
    go : (o : Option (Option State)) → first_good (higher b z a 0 (free base)) (choices b u) ≡ o → raised b u z base us a 0 ≡ None
    go None e = ap (λ (o : Option (Option State)). with_rest o (λ s. earliest base us (0 - change b s))) e
    go (Some s) e =
        let good = good_some (higher b z a 0 (free base)) (choices b u) s e in
        let high = higher_out b z a s 0 (free base) good.1 in
        let fit = fits_out b s 0 (free base) high.1 in
        let l = high.0 in let here = unchanged b s fit.0 in let there = unchanged b a (omega arith) in absurd (omega arith)
