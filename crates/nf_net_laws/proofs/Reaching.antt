-- Which nodes walks lead to is decided: the nodes found so far grow along hops until no hop leads out of them.
use Rattle.std.proofs.Common.{◌≡◌, ℕ, zero, suc, ◌+◌, ◌<◌, ◌≤◌, ◌++◌, ◌==◌, ◌&&◌, ◌||◌, Bool, true, false, not, List, [], ◌∷◌, length, slice_get, Some}
use Rattle.std.proofs.Common.{refl, sym, ◌∙◌, ap, subst, inl, inr, arith}
use Rattle.nf_net_laws.proofs.Common.{Decides, AllByRecursion, list_all, list_any, and_parts, or_cases, eqb-true, eq-eqb, or_left, or_right, true_or_false}
use Rattle.nf_net_laws.proofs.Common.{Hop, IsWalk, any_passes_from_place}
use Rattle.nf_net_laws.proofs.WalkFacts.{walk_push, entry_all}

-- an entry that passes a test
pub record FoundEntry {X : Type 0} (test : X → Bool) (xs : List X) : Type 0 where
  pub place : ℕ
  pub entry : X
  pub is_entry : slice_get xs place ≡ Some entry
  pub passes : test entry ≡ true

pub found : {X : Type 0} (test : X → Bool) (xs : List X) → list_any test xs ≡ true → FoundEntry test xs
found test [] h = absurd (cc)
found test (x ∷ xs) h = elim (or_cases (test x) (list_any test xs) h) [
  | inl e ↦ record { place = 0; entry = x; is_entry = refl; passes = e }
  | inr e ↦ let r : FoundEntry test xs = found test xs e in record { place = suc r.place; entry = r.entry; is_entry = r.is_entry; passes = r.passes }
]

-- ---- how many of the hops lead to nodes that are found
pub bit : Bool → ℕ
bit true = 1
bit false = 0

pub heads_in : (ℕ → Bool) → List Hop → ℕ
heads_in S [] = 0
heads_in S (h ∷ hops) = bit (S h.head) + heads_in S hops

small : (b : Bool) → bit b ≤ 1
unfolding bit
small true = omega arith
small false = omega arith

pub at_most_all : (S : ℕ → Bool) (hops : List Hop) → heads_in S hops ≤ length hops
unfolding heads_in
at_most_all S [] = omega arith
at_most_all S (h ∷ hops) = let rest : heads_in S hops ≤ length hops = at_most_all S hops in let one : bit (S h.head) ≤ 1 = small (S h.head) in omega arith

-- no hop leads out of the found nodes
abbrev pub stays_in : (ℕ → Bool) → Hop → Bool
stays_in S h = not (S h.tail) || S h.head

pub bit_up : (a b : Bool) → (a ≡ true → b ≡ true) → bit a ≤ bit b
unfolding bit
bit_up true b f = subst (λ c. 1 ≤ bit c) (sym (f refl)) (omega arith)
bit_up false b f = omega arith

module _ (S G : ℕ → Bool) (more : (v : ℕ) → S v ≡ true → G v ≡ true) where
  pub never_fewer : (hops : List Hop) → heads_in S hops ≤ heads_in G hops
  unfolding heads_in
  never_fewer [] = omega arith
  never_fewer (h ∷ hops) =
      let rest : heads_in S hops ≤ heads_in G hops = never_fewer hops in
      let one : bit (S h.head) ≤ bit (G h.head) = bit_up (S h.head) (G h.head) (more h.head) in omega arith

  grows : (hops : List Hop) → AllByRecursion (λ h. S h.tail ≡ true → G h.head ≡ true) hops → list_all (stays_in S) hops ≡ false → suc (heads_in S hops) ≤ heads_in G hops
  unfolding heads_in bit
  grows [] into out = absurd (cc)
  grows (h ∷ hops) into out = step (S h.tail) (S h.head) (G h.head) refl refl out into.0 (bit_up (S h.head) (G h.head) (more h.head)) (grows hops into.1) (never_fewer hops)
    where
      step : (a b c : Bool) → S h.head ≡ b → G h.head ≡ c → ((not a || b) && list_all (stays_in S) hops) ≡ false → (a ≡ true → G h.head ≡ true) → bit (S h.head) ≤ bit (G h.head)
          → (list_all (stays_in S) hops ≡ false → suc (heads_in S hops) ≤ heads_in G hops) → heads_in S hops ≤ heads_in G hops
          → suc (bit (S h.head) + heads_in S hops) ≤ bit (G h.head) + heads_in G hops
      step true true c e f out into up later fewer = let k : suc (heads_in S hops) ≤ heads_in G hops = later out in omega arith
      step true false c e f out into up later fewer =
          let zero_ : bit (S h.head) ≡ 0 = ap bit e in
          let one : bit (G h.head) ≡ 1 = ap bit (into refl) in omega arith
      step false b c e f out into up later fewer = let k : suc (heads_in S hops) ≤ heads_in G hops = later out in omega arith

-- ---- all that is reached
module _ (hops : List Hop) (u : ℕ) where
  pub record IsSound (S : ℕ → Bool) : Type 0 where
    pub start : S u ≡ true
    pub walks : (v : ℕ) → S v ≡ true → (walk : List ℕ) × IsWalk hops walk u v

  leads : (ℕ → Bool) → ℕ → Hop → Bool
  leads S v h = S h.tail && (h.head == v)

  grown : (ℕ → Bool) → ℕ → Bool
  grown S v = S v || list_any (leads S v) hops

  sound_grown : (S : ℕ → Bool) → IsSound S → IsSound (grown S)
  unfolding grown leads
  sound_grown S h = record {
    start = or_left (S u) (list_any (leads S u) hops) h.start;
    walks = λ v e. elim (or_cases (S v) (list_any (leads S v) hops) e) [
      | inl here ↦ h.walks v here
      | inr there ↦ (
          let r : FoundEntry (leads S v) hops = found (leads S v) hops there in
          let p = and_parts (S r.entry.tail) (r.entry.head == v) r.passes in
          let w = h.walks r.entry.tail p.0 in
          (w.0 ++ r.place ∷ [], subst (λ x. IsWalk hops (w.0 ++ r.place ∷ []) u x) (eqb-true r.entry.head v p.1) (walk_push hops w.0 u r.entry.tail r.place r.entry w.1 r.is_entry refl)))
    ];
  }

  into_grown : (S : ℕ → Bool) (rest : List Hop) → ((e : ℕ) (h : Hop) → slice_get rest e ≡ Some h → (i : ℕ) × (slice_get hops i ≡ Some h))
      → AllByRecursion (λ h. S h.tail ≡ true → grown S h.head ≡ true) rest
  unfolding grown leads
  into_grown S [] f = tt
  into_grown S (h ∷ rest) f = (
    (λ e. or_right (S h.head) (list_any (leads S h.head) hops) (any_passes_from_place (leads S h.head) hops (f 0 h refl).0 h (f 0 h refl).1 (λ i. e i && eq-eqb h.head h.head refl i))),
    into_grown S rest (λ e h is. f (suc e) h is),
  )

  pub record Closure : Type 0 where
    pub set : ℕ → Bool
    pub sound : IsSound set
    pub closed : list_all (stays_in set) hops ≡ true

  search_closed : (fuel : ℕ) (S : ℕ → Bool) → IsSound S → length hops < fuel + heads_in S hops → Closure
  unfolding grown leads
  search_closed zero S h room = let most : heads_in S hops ≤ length hops = at_most_all S hops in absurd (omega arith)
  search_closed (suc fuel) S h room = elim (true_or_false (list_all (stays_in S) hops)) [
    | inl e ↦ record { set = S; sound = h; closed = e }
    | inr e ↦ search_closed fuel (grown S) (sound_grown S h)
        (let k : suc (heads_in S hops) ≤ heads_in (grown S) hops = grows S (grown S) (λ v f. or_left (S v) (list_any (leads S v) hops) f) hops
        (into_grown S hops (λ e h is. (e, is))) e in omega arith)
  ]

  source_alone : IsSound (λ v. u == v)
  source_alone = record { start = eq-eqb u u refl; walks = λ v e. ([], eqb-true u v e) }

  pub closure : Closure
  closure = search_closed (suc (length hops)) (λ v. u == v) source_alone (omega arith)

pub all_tests : {X : Type 0} (test : X → Bool) (xs : List X) → list_all test xs ≡ true → AllByRecursion (λ x. test x ≡ true) xs
all_tests test [] h = tt
all_tests test (x ∷ xs) h = let p = and_parts (test x) (list_all test xs) h in (p.0, all_tests test xs p.1)

-- a walk stays in nodes out of which no hop leads
pub stays_closed : (hops : List Hop) (S : ℕ → Bool) → list_all (stays_in S) hops ≡ true → (walk : List ℕ) (a b : ℕ) → S a ≡ true → IsWalk hops walk a b → S b ≡ true
stays_closed hops S closed [] a b h w = ap S (sym w) ∙ h
stays_closed hops S closed (e ∷ walk) a b h w =
    stays_closed hops S closed walk w.0.head b (inside (S w.0.tail) (S w.0.head) (ap S w.2 ∙ h) (entry_all (λ hop. stays_in S hop ≡ true) hops e w.0 (each hops closed) w.1)) w.3
  where
    inside : (a b : Bool) → a ≡ true → (not a || b) ≡ true → b ≡ true
    inside true b e f = f
    inside false b e f = absurd (cc)

    each : (rest : List Hop) → list_all (stays_in S) rest ≡ true → AllByRecursion (λ hop. stays_in S hop ≡ true) rest
    each rest c = all_tests (stays_in S) rest c

-- for each node it is decided whether a walk leads to it
pub reaching : (hops : List Hop) (u v : ℕ) → Decides ((closure hops u).set v) ((walk : List ℕ) × IsWalk hops walk u v)
reaching hops u v = ((λ e. (closure hops u).sound.walks v e), λ w. stays_closed hops (closure hops u).set (closure hops u).closed w.0 u v (closure hops u).sound.start w.1)

-- one more of the hops leads to a node that is found
pub one_more_head : (S G : ℕ → Bool) → ((v : ℕ) → S v ≡ true → G v ≡ true) → (hops : List Hop) (place : ℕ) (hop : Hop) → slice_get hops place ≡ Some hop
    → S hop.head ≡ false → G hop.head ≡ true
    → suc (heads_in S hops) ≤ heads_in G hops
unfolding heads_in bit
one_more_head S G more [] place hop is out into = absurd (cc)
one_more_head S G more (h ∷ hops) zero hop is out into =
    let same : h ≡ hop = cc in
    let rest : heads_in S hops ≤ heads_in G hops = never_fewer S G more hops in
    let zero_ : bit (S h.head) ≡ 0 = ap (λ (x : Hop). bit (S x.head)) same ∙ ap bit out in
    let one : bit (G h.head) ≡ 1 = ap (λ (x : Hop). bit (G x.head)) same ∙ ap bit into in omega arith
one_more_head S G more (h ∷ hops) (suc place) hop is out into =
    let rest : suc (heads_in S hops) ≤ heads_in G hops = one_more_head S G more hops place hop is out into in
    let one : bit (S h.head) ≤ bit (G h.head) = bit_up (S h.head) (G h.head) (more h.head) in omega arith
