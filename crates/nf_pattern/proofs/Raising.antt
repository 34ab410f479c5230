-- The next assignment with equally many changes, found from the last link backward.
use Rattle.std.proofs.Common.{◌≡◌, ℕ, zero, suc, ◌+◌, ◌-◌, ◌<◌, ◌≤◌, Bool, false, List, [], ◌∷◌, ◌++◌, length, get_or, set, take, drop, drop-cons}
use Rattle.std.proofs.Common.{take-suc-set, take_all, append_assoc, append-nil, add-one, length-drop, refl, sym, ap, subst, ◌∙◌, zero-add, arith, Option}
use Rattle.std.proofs.Common.{Some, None}
use Rattle.nf_pattern.proofs.Common.{drop_of_length-le, State, Pattern, changes, changes_first, choices, IsAssignment, free, change, first_good, before_all}
use Rattle.nf_pattern.proofs.Common.{with_rest, earliest, or_else, raised, raised_at, RaisesAt, IsSameBefore, later, IsLastTo}
use borrow.Rule.Slice.PartMut.{put_mid}
use Rattle.nf_pattern.proofs.Choosing.{assigned_length, none_too}
use Rattle.nf_pattern.proofs.Stating.{idle_there}
use Rattle.nf_pattern.proofs.Filling.{free_first, none_raised}
use Rattle.nf_pattern.proofs.Successors.{fits_out, good_some, higher, higher_out}

-- ---- the links after a link
pub from_one : {A : Type 0} (xs : List A) (i : ℕ) → take (length xs - (i + 1)) (drop (i + 1) xs) ≡ drop (suc i) xs
from_one xs i = take_all (length xs - (i + 1)) (drop (i + 1) xs) (let l = length-drop (i + 1) xs in omega arith) ∙ ap (λ (n : ℕ). drop n xs) (add-one i)

pub from_here : {A : Type 0} (xs : List A) (i : ℕ) → take (length xs - i) (drop i xs) ≡ drop i xs
from_here xs i = take_all (length xs - i) (drop i xs) (let l = length-drop i xs in omega arith)

pub put_end : {A : Type 0} (xs ys : List A) (i k : ℕ) → length xs ≤ i + k → put_mid i k xs ys ≡ take i xs ++ ys
put_end xs ys i k all =
    ap (λ (zs : List _). take i xs ++ (ys ++ zs)) (drop_of_length-le (drop i xs) (let l = length-drop i xs in omega arith))
    ∙ ap (λ (zs : List _). take i xs ++ zs) (append-nil ys)

pub valid_after : (i : ℕ) (base : Pattern) (us : List Bool) → IsAssignment base us base → IsAssignment (drop i base) (drop i us) (drop i base)
valid_after zero base us v = v
valid_after (suc i) [] [] v = tt
valid_after (suc i) [] (u ∷ us) v = absurd v
valid_after (suc i) (b ∷ base) [] v = absurd v
valid_after (suc i) (b ∷ base) (u ∷ us) v = valid_after i base us v.1

-- ---- one link is raised
module _ (base : Pattern) (us zs : List Bool) (states : Pattern) (e n m : ℕ) (all : m ≡ free (drop (suc e) base)) where
  abbrev Good : ℕ → Option State → Bool
  Good more = higher (get_or base e None) (get_or zs e false) (get_or states e None) n more

  abbrev pub Chosen : Option (Option State) → Type 0
  Chosen o = o ≡ first_good (higher (get_or base e None) (get_or zs e false) (get_or states e None) n m) (choices (get_or base e None) (get_or us e false))

  pub chosen_fits : (s : Option State) (c : ℕ) → Chosen (Some s) → c ≡ change (get_or base e None) s → (c ≤ n) × (n - c ≤ m)
  chosen_fits s c chosen is =
      let good = good_some (Good m) (choices (get_or base e None) (get_or us e false)) s (sym chosen) in
      let fit = fits_out (get_or base e None) s n m (higher_out (get_or base e None) (get_or zs e false) (get_or states e None) s n m good.1).1 in
      (let f = fit.0 in omega arith, let f = fit.1 in omega arith)

  raised_by : (o : Option (Option State)) → Chosen o → raised_at base us zs states e n ≡ with_rest o
      (λ t. earliest (drop (suc e) base) (drop (suc e) us) (n - change (get_or base e None) t))
  raised_by o chosen = ap (λ (x : Option (Option State)). with_rest x (λ t. earliest (drop (suc e) base) (drop (suc e) us) (n - change (get_or base e None) t)))
      (sym (subst (λ (more : ℕ). o ≡ first_good (Good more) (choices (get_or base e None) (get_or us e false))) all chosen))

  pub raises : (s : Option State) (rest after : Pattern) (c : ℕ) → e < length states → Chosen (Some s) → c ≡ change (get_or base e None) s
      → earliest (drop (suc e) base) (drop (suc e) us) (n - c) ≡ Some rest → after ≡ take (suc e) (set states e s) ++ rest → RaisesAt base us zs states e n after
  raises s rest after c below chosen is filled stays = record {
    rest = s ∷ rest;
    is_raised = raised_by (Some s) chosen ∙ ap (before_all s) (subst (λ (d : ℕ). earliest (drop (suc e) base) (drop (suc e) us) (n - d) ≡ Some rest) is filled);
    stays = stays ∙ (ap (λ (front : Pattern). front ++ rest) (take-suc-set states e s below) ∙ append_assoc (take e states) (s ∷ []) rest);
  }

  pub not_raised : Chosen None → raised_at base us zs states e n ≡ None
  not_raised chosen = raised_by None chosen

front_stays : (e : ℕ) (xs ys : Pattern) → e ≤ length xs → take e (take e xs ++ ys) ≡ take e xs
front_stays zero xs ys h = refl
front_stays (suc e) [] ys h = absurd (omega arith)
front_stays (suc e) (x ∷ xs) ys h = ap (λ (zs : Pattern). x ∷ zs) (front_stays e xs ys (omega arith))

pub raised_same : (base : Pattern) (us zs : List Bool) (states : Pattern) (same e n : ℕ) (after : Pattern) → e < same → e < length states
    → RaisesAt base us zs states e n after → IsSameBefore same e states after
raised_same base us zs states same e n after less below up = (omega arith, ap (take e) up.stays ∙ front_stays e states up.rest (omega arith))

-- ---- from the last link backward

-- From the links from number i on, none of those before number `same` can be raised with equally many changes.
pub record AreLast (base : Pattern) (us zs : List Bool) (states : Pattern) (same i made more : ℕ) : Type 0 where
  pub none : later (same - i) (drop i base) (drop i us) (drop i zs) (drop i states) ≡ None
  pub all_made : made ≡ changes (drop i base) (drop i states)
  pub all_free : more ≡ free (drop i base)
  pub within : i ≤ length base
  pub few : made + i ≤ length base
  pub few_free : more + i ≤ length base

-- the links from that number on are counted
pub last_from : (base : Pattern) (us zs : List Bool) (states : Pattern) (same made more : ℕ) → same ≤ length base
    → made ≡ changes (drop same base) (drop same states) → made ≤ length (drop same base)
    → more ≡ free (drop same base) → more ≤ length (drop same base) → AreLast base us zs states same same made more
last_from base us zs states same made more within is few is_free few_free =
    let k : same - same ≡ 0 = omega arith in let l = length-drop same base in
    record {
      none = ap (λ (m : ℕ). later m (drop same base) (drop same us) (drop same zs) (drop same states)) k;
      all_made = is;
      all_free = is_free;
      within = within;
      few = omega arith;
      few_free = omega arith;
    }

-- If nothing later is possible after it, the first link is raised.
later_here : (b : Option State) (u z : Bool) (base : Pattern) (us zs : List Bool) (a : Option State) (p : Pattern) (k n : ℕ) → later k base us zs p ≡ None
    → n ≡ changes (b ∷ base) (a ∷ p)
    → later (suc k) (b ∷ base) (u ∷ us) (z ∷ zs) (a ∷ p) ≡ raised b u z base us a n
later_here b u z base us zs a p k n last is =
    ap (λ (o : Option Pattern). or_else (before_all a o) (raised b u z base us a (changes (b ∷ base) (a ∷ p)))) last ∙ ap (raised b u z base us a) (sym is)

-- If nothing differs from the base, nothing is later with as many changes.
later_none : (k : ℕ) (base : Pattern) (us zs : List Bool) (states : Pattern) → length states ≡ length base → changes base states ≡ 0 → later k base us zs states ≡ None
later_none zero base us zs states count none = refl
later_none (suc k) [] us zs states count none = refl
later_none (suc k) (b ∷ base) [] zs states count none = refl
later_none (suc k) (b ∷ base) (u ∷ us) [] states count none = refl
later_none (suc k) (b ∷ base) (u ∷ us) (z ∷ zs) [] count none = refl
later_none (suc k) (b ∷ base) (u ∷ us) (z ∷ zs) (a ∷ states) count none =
    let f = changes_first b a base states in
    later_here b u z base us zs a states k 0 (later_none k base us zs states (omega arith) (omega arith)) (sym none) ∙ none_raised b u z base us a (omega arith)

-- So nothing is later up to the unchanged suffix.
later_quiet : (i k : ℕ) (base : Pattern) (us zs : List Bool) (states : Pattern) → length states ≡ length base → changes (drop i base) (drop i states) ≡ 0
    → later (i + k) base us zs states ≡ later i base us zs states
later_quiet zero k base us zs states count none = ap (λ (n : ℕ). later n base us zs states) (zero-add k) ∙ later_none k base us zs states count none
later_quiet (suc i) k [] us zs states count none = ap (λ (n : ℕ). later n [] us zs states) (let e : suc i + k ≡ suc (i + k) = omega arith in e)
later_quiet (suc i) k (b ∷ base) [] zs states count none = ap (λ (n : ℕ). later n (b ∷ base) [] zs states) (let e : suc i + k ≡ suc (i + k) = omega arith in e)
later_quiet (suc i) k (b ∷ base) (u ∷ us) [] states count none = ap (λ (n : ℕ). later n (b ∷ base) (u ∷ us) [] states) (let e : suc i + k ≡ suc (i + k) = omega arith in e)
later_quiet (suc i) k (b ∷ base) (u ∷ us) (z ∷ zs) [] count none = ap (λ (n : ℕ). later n (b ∷ base) (u ∷ us) (z ∷ zs) []) (let e : suc i + k ≡ suc (i + k) = omega arith in e)
later_quiet (suc i) k (b ∷ base) (u ∷ us) (z ∷ zs) (a ∷ states) count none =
    ap (λ (n : ℕ). later n (b ∷ base) (u ∷ us) (z ∷ zs) (a ∷ states)) (let e : suc i + k ≡ suc (i + k) = omega arith in e)
    ∙ ap (λ (o : Option Pattern). or_else (before_all a o) (raised b u z base us a (changes (b ∷ base) (a ∷ states)))) (later_quiet i k base us zs states (omega arith) none)

pub later_up_to : (base : Pattern) (us zs : List Bool) (states : Pattern) (i same : ℕ) → i ≤ same → length states ≡ length base → changes (drop i base) (drop i states) ≡ 0
    → later same base us zs states ≡ later i base us zs states
later_up_to base us zs states i same few count none =
    let n : i + (same - i) ≡ same = omega arith in
    subst (λ (m : ℕ). later m base us zs states ≡ later i base us zs states) n (later_quiet i (same - i) base us zs states count none)

-- the states before a link stay
later_after : (k : ℕ) (base : Pattern) (us zs : List Bool) (states q : Pattern) (i : ℕ)
    → later k (drop i base) (drop i us) (drop i zs) (drop i states) ≡ Some q → later (i + k) base us zs states ≡ Some (take i states ++ q)
later_after k base us zs states q zero e = subst (λ (n : ℕ). later n base us zs states ≡ Some q) (sym (zero-add k)) e
later_after k [] us zs states q (suc i) e = absurd (nothing k us e)
  where
    nothing : (k : ℕ) (us : List Bool) → later k [] (drop (suc i) us) (drop (suc i) zs) (drop (suc i) states) ≡ Some q → ⊥
    nothing zero us f = cc
    nothing (suc k) us f = cc
later_after k (b ∷ base) [] zs states q (suc i) e = absurd (nothing k (drop i base) (drop (suc i) zs) (drop (suc i) states) e)
  where
    nothing : (k : ℕ) (x : Pattern) (zs : List Bool) (y : Pattern) → later k x [] zs y ≡ Some q → ⊥
    nothing zero x zs y f = cc
    nothing (suc k) [] zs y f = cc
    nothing (suc k) (c ∷ x) zs y f = cc
later_after k (b ∷ base) (u ∷ us) [] states q (suc i) e = absurd (nothing k (drop i base) (drop i us) (drop (suc i) states) e)
  where
    nothing : (k : ℕ) (x : Pattern) (us : List Bool) (y : Pattern) → later k x us [] y ≡ Some q → ⊥
    nothing zero x us y f = cc
    nothing (suc k) [] us y f = cc
    nothing (suc k) (c ∷ x) [] y f = cc
    nothing (suc k) (c ∷ x) (v ∷ us) y f = cc
later_after k (b ∷ base) (u ∷ us) (z ∷ zs) [] q (suc i) e = absurd (nothing k (drop i base) (drop i us) (drop i zs) e)
  where
    nothing : (k : ℕ) (x : Pattern) (us zs : List Bool) → later k x us zs [] ≡ Some q → ⊥
    nothing zero x us zs f = cc
    nothing (suc k) [] us zs f = cc
    nothing (suc k) (c ∷ x) [] zs f = cc
    nothing (suc k) (c ∷ x) (v ∷ us) [] f = cc
    nothing (suc k) (c ∷ x) (v ∷ us) (w ∷ zs) f = cc
later_after k (b ∷ base) (u ∷ us) (z ∷ zs) (a ∷ states) q (suc i) e =
    let n : suc i + k ≡ suc (i + k) = omega arith in
    subst (λ (m : ℕ). later m (b ∷ base) (u ∷ us) (z ∷ zs) (a ∷ states) ≡ Some (a ∷ (take i states ++ q))) (sym n)
    (ap (λ (o : Option Pattern). or_else (before_all a o) (raised b u z base us a (changes (b ∷ base) (a ∷ states)))) (later_after k base us zs states q i e))

-- a link without a state has no other
idle_raised : (b a : Option State) (u z : Bool) (base : Pattern) (us : List Bool) (n : ℕ) → b ≡ None → a ≡ None → raised b u z base us a n ≡ None
idle_raised b a u z base us n none nor =
    subst (λ (x : Option State). raised x u z base us a n ≡ None) (sym none) (subst (λ (x : Option State). raised None u z base us x n ≡ None) (sym nor) refl)

idle_change : (b a : Option State) → b ≡ None → a ≡ None → 0 ≡ change b a
idle_change b a none nor = subst (λ (x : Option State). 0 ≡ change x a) (sym none) (subst (λ (x : Option State). 0 ≡ change None x) (sym nor) refl)

module _ (base : Pattern) (us zs : List Bool) (states : Pattern) (same i j made more : ℕ) (last : AreLast base us zs states same j made more) (next : j ≡ suc i)
    (states_count : length states ≡ length base) (us_count : length us ≡ length base) (zs_count : length zs ≡ length base) where
  below : i < length base
  below = let w = last.within in omega arith

  base_from : drop i base ≡ get_or base i None ∷ drop (suc i) base
  base_from = drop-cons base i None below

  us_from : drop i us ≡ get_or us i false ∷ drop (suc i) us
  us_from = drop-cons us i false (let b = below in omega arith)

  zs_from : drop i zs ≡ get_or zs i false ∷ drop (suc i) zs
  zs_from = drop-cons zs i false (let b = below in omega arith)

  states_from : drop i states ≡ get_or states i None ∷ drop (suc i) states
  states_from = drop-cons states i None (let b = below in omega arith)

  none_behind : later (same - suc i) (drop (suc i) base) (drop (suc i) us) (drop (suc i) zs) (drop (suc i) states) ≡ None
  none_behind = subst (λ (k : ℕ). later (same - k) (drop k base) (drop k us) (drop k zs) (drop k states) ≡ None) next last.none

  made_behind : made ≡ changes (drop (suc i) base) (drop (suc i) states)
  made_behind = subst (λ (k : ℕ). made ≡ changes (drop k base) (drop k states)) next last.all_made

  pub free_behind : more ≡ free (drop (suc i) base)
  free_behind = subst (λ (k : ℕ). more ≡ free (drop k base)) next last.all_free

  module _ (c all : ℕ) (is : c ≡ change (get_or base i None) (get_or states i None)) (sum : all ≡ made + c) where
    made_here : all ≡ changes (get_or base i None ∷ drop (suc i) base) (get_or states i None ∷ drop (suc i) states)
    made_here = let f = changes_first (get_or base i None) (get_or states i None) (drop (suc i) base) (drop (suc i) states) in let m = made_behind in omega arith

    later_there : i < same → later (same - i) (drop i base) (drop i us) (drop i zs) (drop i states) ≡ raised_at base us zs states i all
    later_there before =
        let k : same - i ≡ suc (same - suc i) = omega arith in
        ap (λ (x : Pattern). later (same - i) x (drop i us) (drop i zs) (drop i states)) base_from
        ∙ (ap (λ (x : List Bool). later (same - i) (get_or base i None ∷ drop (suc i) base) x (drop i zs) (drop i states)) us_from
        ∙ (ap (λ (x : List Bool). later (same - i) (get_or base i None ∷ drop (suc i) base) (get_or us i false ∷ drop (suc i) us) x (drop i states)) zs_from
        ∙ (ap (later (same - i) (get_or base i None ∷ drop (suc i) base) (get_or us i false ∷ drop (suc i) us) (get_or zs i false ∷ drop (suc i) zs)) states_from
        ∙ (ap (λ (m : ℕ). later m (get_or base i None ∷ drop (suc i) base) (get_or us i false ∷ drop (suc i) us) (get_or zs i false ∷ drop (suc i) zs)
        (get_or states i None ∷ drop (suc i) states)) k
        ∙ later_here (get_or base i None) (get_or us i false) (get_or zs i false) (drop (suc i) base) (drop (suc i) us) (drop (suc i) zs)
        (get_or states i None) (drop (suc i) states) (same - suc i) all none_behind made_here))))

    pub raised_later : (after : Pattern) → i < same → RaisesAt base us zs states i all after → later same base us zs states ≡ Some after
    raised_later after before raised =
        let n : i + (same - i) ≡ same = omega arith in
        subst (λ (m : ℕ). later m base us zs states ≡ Some after) n
        (later_after (same - i) base us zs states raised.rest i (later_there before ∙ raised.is_raised) ∙ ap Some (sym raised.stays))

    module _ (d rest : ℕ) (is_free : d ≡ change None (get_or base i None)) (free_sum : rest ≡ more + d) where
      free_here : rest ≡ free (drop i base)
      free_here = let f = free_first (get_or base i None) (drop (suc i) base) in let m = free_behind in
          let e : free (drop i base) ≡ free (get_or base i None ∷ drop (suc i) base) = ap free base_from in omega arith

      last_more : later (same - i) (drop i base) (drop i us) (drop i zs) (drop i states) ≡ None → c ≤ 1 → d ≤ 1 → AreLast base us zs states same i all rest
      last_more none small small_free = record {
        none = none;
        all_made = made_here ∙ (ap (λ (x : Pattern). changes x (get_or states i None ∷ drop (suc i) states)) (sym base_from) ∙ ap (changes (drop i base)) (sym states_from));
        all_free = free_here;
        within = (let b = below in omega arith);
        few = (let f = last.few in omega arith);
        few_free = (let f = last.few_free in omega arith);
      }

      pub last_kept : raised_at base us zs states i all ≡ None → i < same → c ≤ 1 → d ≤ 1 → AreLast base us zs states same i all rest
      last_kept none before small small_free = last_more (later_there before ∙ none) small small_free

  -- a link that has no state
  pub last_idle : get_or base i None ≡ None → get_or states i None ≡ None → i < same → AreLast base us zs states same i made more
  last_idle none nor before = last_kept 0 made (idle_change (get_or base i None) (get_or states i None) none nor) (omega arith)
      0 more (idle_change None (get_or base i None) refl none) (omega arith)
      (idle_raised (get_or base i None) (get_or states i None) (get_or us i false) (get_or zs i false) (drop (suc i) base) (drop (suc i) us) made none nor)
      before (omega arith) (omega arith)

-- and those behind the last one that has a state
last_passed : (base : Pattern) (us zs : List Bool) (states : Pattern) (same k i j made more : ℕ) → AreLast base us zs states same j made more → j ≡ i + k
    → j ≤ same → length states ≡ length base → length us ≡ length base → length zs ≡ length base
    → ((e : ℕ) → i ≤ e → e < j → (get_or base e None ≡ None) × (get_or states e None ≡ None)) → AreLast base us zs states same i made more
last_passed base us zs states same zero i j made more last is few count us_count zs_count idle =
    subst (λ (m : ℕ). AreLast base us zs states same m made more) (let e : j ≡ i = omega arith in e) last
last_passed base us zs states same (suc k) i j made more last is few count us_count zs_count idle =
    let m : ℕ = i + k in
    let here = idle m (omega arith) (omega arith) in
    last_passed base us zs states same k i m made more (last_idle base us zs states same m j made more last
    (omega arith) count us_count zs_count here.0 here.1 (omega arith)) refl (omega arith) count us_count zs_count
    (λ e from less. idle e from (omega arith))

pub last_stated : (base : Pattern) (us zs : List Bool) (states : Pattern) (same i j made more : ℕ) → AreLast base us zs states same j made more → 0 < j
    → j ≤ same → IsAssignment base us states → length us ≡ length base → length zs ≡ length base
    → IsLastTo base (j - 1) i → AreLast base us zs states same (suc i) made more
last_stated base us zs states same i j made more last some few assigned us_count zs_count is =
    let before = is.0 in
    last_passed base us zs states same (j - suc i) (suc i) j made more last (omega arith) few (assigned_length base us states assigned) us_count zs_count
    (λ e from less. let none = is.1 e from (omega arith) in (idle_there base e none, idle_there states e (none_too base us states e assigned none)))

pub last_all : (base : Pattern) (us zs : List Bool) (states : Pattern) (same i made more : ℕ) → i ≤ 0 → AreLast base us zs states same i made more → later same base us zs states ≡ None
last_all base us zs states same i made more first last =
    let z : i ≡ 0 = omega arith in let s : same - 0 ≡ same = omega arith in
    subst (λ (m : ℕ). later m base us zs states ≡ None) s (subst (λ (k : ℕ). later (same - k) (drop k base) (drop k us) (drop k zs) (drop k states) ≡ None) z last.none)
