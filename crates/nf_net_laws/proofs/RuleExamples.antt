-- For each rule a file that breaks it first, but for those that other examples have; and files that break none.
use Rattle.std.proofs.Common.{map, ◌≡◌, ℕ, zero, suc, ◌<◌, Bool, true, false, List, [], ◌∷◌, ◌++◌, replicate, refl, sym, ◌∙◌, ap, subst, ◌⊎◌, inl, inr}
use Rattle.std.proofs.Common.{arith, flat_map, codes, pos, Ok, Err, Option, Some, None, unwrap_or, bytes_eq, lit<}
use Rattle.nf_net_laws.proofs.Common.{range_with_len, AllByRecursion, ≤ℚ_of_same, ≤ℚ_antisymm, le_of_test, Sum, Hop, IsHop, IsWalk, transit_of, transit_sum}
use Rattle.nf_net_laws.proofs.Common.{IsLeastTransit, NetRule, N1, N2, N3, N4, N5, N6, N7, N8, N9, N10, N11, N12, N13, N14, N15, N16, N18, N19, N20, N21}
use Rattle.nf_net_laws.proofs.Common.{N22, Named, Reads, canonical, IsNamed, transit_of-hop, ℚ, 0ℚ, ◌≤ℚ◌, passes_Q, same_Some}
use Rattle.nf_rational.specs.Rational.{ratio}
use Rattle.nf_rational.specs.Gcd.{gcd}
use Rattle.nf_rational.specs.Operations.{whole, ◌+ℚ◌}
use Rattle.nf_rational.specs.Order.{le_ℚ, lt_ℚ}
use Rattle.nf_frac_def.specs.Passing.{beyond}
use Rattle.nf_frac_words.specs.Digits.{digits_of}
use Rattle.nf_frac_words.specs.Numbers.{number_of, decimal_of, parts_of, decimal_parts_of}
use Rattle.nf_frac_words.specs.Printed.{printed, printed_parts}
use Rattle.nf_net_laws.proofs.NameFacts.{bytes_eq-self}
use Rattle.nf_net_laws.proofs.WalkFacts.{entry_all, transit_sum_nn}
use Rattle.nf_net_laws.proofs.CanonicalBack.{canonical_back}
use Rattle.nf_net_laws.proofs.AcceptedNamed.{accepted_named}

-- lines with LF
abbrev text : List (List ℕ) → List ℕ
text lines = flat_map (λ l. l ++ 10 ∷ []) lines

-- ---- N1 to N16
-- a CR that no LF follows
pub lone_return : Reads (codes "nfot 1" ++ 13 ∷ 10 ∷ codes "end" ++ 13 ∷ []) (Err (record { rule = N1; line = 2 }))
lone_return = refl

pub too_long : Reads (text (codes "nfot 1" ∷ (codes "source s # " ++ replicate 990 121) ∷ codes "sink t" ∷ codes "end" ∷ [])) (Err (record { rule = N2; line = 2 }))
unfolding whole ratio gcd le_ℚ lt_ℚ digits_of number_of parts_of decimal_of decimal_parts_of printed printed_parts
too_long = refl

-- ---- files that break a rule first, with the line
abbrev Broken : Type 0
Broken = List (List ℕ) × NetRule × ℕ

abbrev AreRead : List Broken → Type 0
AreRead files = AllByRecursion (λ (file : Broken). Reads (text file.0) (Err (record { rule = file.1; line = file.2 }))) files

abbrev broken : List Broken
broken =
    (codes "# a network" ∷ codes "nfot 3" ∷ codes "sources s" ∷ [], N3, 2)
    ∷ (codes "# nothing" ∷ [], N3, 1)
    ∷ (codes "nfot 1" ∷ codes "source s" ∷ codes "sink t" ∷ codes "link a s t 1 1" ∷ codes "end" ∷ codes "# fine" ∷ codes "foo" ∷ [], N4, 7)
    ∷ (codes "nfot 1" ∷ codes "source s" ∷ codes "sink t" ∷ codes "links a s t 1 1" ∷ codes "end" ∷ [], N5, 4)
    ∷ (codes "nfot 1" ∷ codes "source s" ∷ codes "sink t" ∷ codes "link a s t 1" ∷ codes "end" ∷ [], N6, 4)
    ∷ (codes "nfot 1" ∷ codes "source s" ∷ codes "sink t" ∷ codes "link a s t! x 1" ∷ codes "end" ∷ [], N7, 4)
    ∷ (codes "nfot 1" ∷ codes "source s" ∷ codes "sink t" ∷ codes "link a s t 1 inf" ∷ codes "end" ∷ [], N8, 4)
    ∷ (codes "nfot 1" ∷ codes "source s" ∷ codes "sink t" ∷ codes "source s" ∷ [], N9, 4)
    ∷ (codes "nfot 2" ∷ codes "source s" ∷ codes "sink t" ∷ codes "link a s t -0.5 0" ∷ codes "end" ∷ [], N13, 4)
    ∷ (codes "nfot 1" ∷ codes "source s" ∷ codes "sink t" ∷ codes "link a s t 0 0/3" ∷ codes "end" ∷ [], N14, 4)
    ∷ (codes "nfot 1" ∷ codes "source s" ∷ codes "sink t" ∷ codes "link a s t 1 1" ∷ codes "inflow 0 -1" ∷ codes "end" ∷ [], N15, 5)
    ∷ (codes "nfot 1" ∷ codes "source s" ∷ codes "sink t" ∷ codes "inflow 1/2 1" ∷ codes "inflow 2/4 2" ∷ codes "end" ∷ [], N16, 5)
    ∷ []

pub broken_read : AreRead broken
unfolding whole ratio gcd le_ℚ lt_ℚ digits_of number_of parts_of decimal_of decimal_parts_of printed printed_parts
broken_read = (refl, (refl, (refl, (refl, (refl, (refl, (refl, (refl, (refl, (refl, (refl, (refl, tt))))))))))))

-- ---- N10 to N12: so many lines, of which each has a number in it
abbrev so_many : ℕ → (List ℕ → List ℕ) → List (List ℕ)
so_many count line_of = map (λ k. line_of (digits_of k)) (range_with_len 0 count)

abbrev first_lines : List (List ℕ)
first_lines = codes "nfot 1" ∷ codes "source s" ∷ codes "sink t" ∷ []

-- In the first file there are two nodes and 62 others; the 63rd link names one more.
abbrev crowded : List Broken
crowded =
    (first_lines ++ so_many 63 (λ k. codes "link l" ++ k ++ codes " s v" ++ k ++ codes " 1 1"), N10, 66)
    ∷ (first_lines ++ so_many 201 (λ k. codes "link l" ++ k ++ codes " s t 1 1"), N11, 204)
    ∷ (first_lines ++ so_many 201 (λ k. codes "inflow " ++ k ++ codes " 1"), N12, 204)
    ∷ []

pub crowded_read : AreRead crowded
unfolding whole ratio gcd le_ℚ lt_ℚ digits_of number_of parts_of decimal_of decimal_parts_of printed printed_parts
crowded_read = (refl, (refl, (refl, tt)))

-- ---- the rules of the whole file
-- the first three rules of a list are met, and a rule after them is the first that is broken
fourth : {A B C D X Y Z : Type 0} → (A → ⊥) → (B → ⊥) → (C → ⊥) → D → X ⊎ ((A → ⊥) × (Y ⊎ ((B → ⊥) × (Z ⊎ ((C → ⊥) × D)))))
fourth a b c d = inr (a, inr (b, inr (c, d)))

-- all six rules are met
all_met : {A B C D E F : Type 0} → (A → ⊥) → (B → ⊥) → (C → ⊥) → (D → ⊥) → (E → ⊥) → (F → ⊥) → (A → ⊥) × ((B → ⊥) × ((C → ⊥) × ((D → ⊥) × ((E → ⊥) × ((F → ⊥) × Unit {0})))))
all_met a b c d e f = (a, (b, (c, (d, (e, (f, tt))))))

-- ---- N18 and N19
pub no_sink : Reads (text (codes "nfot 1" ∷ codes "source s" ∷ codes "end" ∷ [])) (Err (record { rule = N18; line = 0 }))
no_sink = (inr ((λ e. absurd (cc)), inl (refl, refl)), refl)

pub one_node : Reads (text (codes "nfot 1" ∷ codes "source s" ∷ codes "sink s" ∷ codes "end" ∷ [])) (Err (record { rule = N19; line = 0 }))
one_node = (inr ((λ e. absurd (cc)), inr ((λ e. absurd (cc)), inl (refl, refl))), refl)

-- ---- what no walk leaves
-- a walk along hops that don't lead out of some nodes stays in them
stays : (hops : List Hop) (inside : ℕ → Bool) → AllByRecursion (λ hop. inside hop.tail ≡ true → inside hop.head ≡ true) hops
    → (walk : List ℕ) (u v : ℕ) → inside u ≡ true → IsWalk hops walk u v → inside v ≡ true
stays hops inside closed [] u v h w = ap inside (sym w) ∙ h
stays hops inside closed (e ∷ walk) u v h w =
    stays hops inside closed walk w.0.head v
    (entry_all (λ hop. inside hop.tail ≡ true → inside hop.head ≡ true) hops e w.0 closed w.1 (ap inside w.2 ∙ h)) w.3

-- ---- source and sink are two nodes
not_same : (a b : List ℕ) → bytes_eq a b ≡ false → ◌≡◌ {A = Option (List ℕ)} (Some a) (Some b) → ⊥
not_same a b e f =
    let same : a ≡ b = ap (λ o. unwrap_or o a) f in
    let equal : bytes_eq a b ≡ true = subst (λ x. bytes_eq a x ≡ true) same (bytes_eq-self a) in absurd (cc)

s_and_t : ◌≡◌ {A = Option (List ℕ)} (Some (codes "s")) (Some (codes "t")) → ⊥
s_and_t = not_same (codes "s") (codes "t") refl

abbrev hop : ℕ → ℕ → ℚ → Hop
hop tail head transit = record { tail = tail; head = head; transit = transit }

abbrev n : ℕ → ℚ
n k = whole (pos k)

-- ---- N20
abbrev below_two : ℕ → Bool
below_two zero = true
below_two (suc zero) = true
below_two (suc (suc n)) = false

not_to_two : (walk : List ℕ) → IsWalk (hop 0 1 (n 1) ∷ hop 2 1 (n 1) ∷ []) walk 0 2 → ⊥
not_to_two walk h = let k : below_two 2 ≡ true = stays (hop 0 1 (n 1) ∷ hop 2 1 (n 1) ∷ []) below_two ((λ e. refl), ((λ e. refl), tt)) walk 0 2 refl h in absurd (cc)

pub node_unreached : Reads (text (codes "nfot 1" ∷ codes "source s" ∷ codes "sink t" ∷ codes "link a s t 1 1" ∷ codes "link x w t 1 1" ∷ codes "end" ∷ [])) (Err (record { rule = N20; line = 0 }))
unfolding whole ratio gcd le_ℚ lt_ℚ digits_of number_of parts_of decimal_of decimal_parts_of printed printed_parts
node_unreached = (fourth (λ e. absurd (cc)) (λ e. absurd (cc)) s_and_t (inl ((2, lit< tt, λ r. not_to_two r.0 r.1), refl)), refl)

-- in version 2 it is the sink that counts: nodes are s, t, u
abbrev not_one : ℕ → Bool
not_one zero = true
not_one (suc zero) = false
not_one (suc (suc n)) = true

not_to_one : (walk : List ℕ) → IsWalk (hop 0 2 (n 1) ∷ []) walk 0 1 → ⊥
not_to_one walk h = let k : not_one 1 ≡ true = stays (hop 0 2 (n 1) ∷ []) not_one ((λ e. refl), tt) walk 0 1 refl h in absurd (cc)

pub sink_unreached : Reads (text (codes "nfot 2" ∷ codes "source s" ∷ codes "sink t" ∷ codes "link a s u 1 1" ∷ codes "end" ∷ [])) (Err (record { rule = N20; line = 0 }))
unfolding whole ratio gcd le_ℚ lt_ℚ digits_of number_of parts_of decimal_of decimal_parts_of printed printed_parts
sink_unreached = (fourth (λ e. absurd (cc)) (λ e. absurd (cc)) s_and_t (inl ((λ r. not_to_one r.0 r.1), refl)), refl)

-- ---- N21
abbrev round_trip : List Hop
round_trip = hop 0 1 (n 1) ∷ hop 1 2 (n 0) ∷ hop 2 1 (n 0) ∷ []

three_reached : (v : ℕ) → v < 3 → (walk : List ℕ) × IsWalk round_trip walk 0 v
three_reached zero h = ([], refl)
three_reached (suc zero) h = (0 ∷ [], (hop 0 1 (n 1), refl, refl, refl))
three_reached (suc (suc zero)) h = (0 ∷ 1 ∷ [], (hop 0 1 (n 1), refl, refl, (hop 1 2 (n 0), refl, refl, refl)))
three_reached (suc (suc (suc v))) h = absurd (omega arith)

pub zero_cycle : Reads (text (codes "nfot 1" ∷ codes "source s" ∷ codes "sink t" ∷ codes "link a s t 1 1" ∷ codes "link c t u 0 1" ∷ codes "link d u t 0 1" ∷ codes "end" ∷ [])) (Err (record { rule = N21; line = 0 }))
unfolding whole ratio gcd le_ℚ lt_ℚ digits_of number_of parts_of decimal_of decimal_parts_of printed printed_parts
zero_cycle = (
  fourth (λ e. absurd (cc)) (λ e. absurd (cc)) s_and_t (inr (
    (λ r. r.2 (three_reached r.0 r.1)),
    inl (record { first = 1; walk = 2 ∷ []; node = 1; closed = (hop 1 2 (n 0), refl, refl, (hop 2 1 (n 0), refl, refl, refl)); zero = (refl, (refl, tt)) }, refl),
  )),
  refl,
)

-- ---- N22: two links one after the other, of which the first takes as long as a number can say
abbrev in_a_row : ℚ → List Hop
in_a_row transit = hop 0 2 transit ∷ hop 2 1 (n 1) ∷ []

tail_is : (a b : Hop) (v : ℕ) → ◌≡◌ {A = Option Hop} (Some a) (Some b) → b.tail ≡ v → a.tail ≡ v
tail_is a b v e h = ap (λ (x : Hop). x.tail) (same_Some a b e) ∙ h

abbrev is_one : ℕ → Bool
is_one zero = false
is_one (suc zero) = true
is_one (suc (suc k)) = false

-- from the node between one comes back to it by no link at all
nowhere : (transit : ℚ) (walk : List ℕ) → IsWalk (in_a_row transit) walk 2 2 → walk ≡ []
nowhere transit [] h = refl
nowhere transit (zero ∷ walk) h = let tail : (hop 0 2 transit).tail ≡ 2 = tail_is (hop 0 2 transit) h.0 2 h.1 h.2 in absurd (omega arith)
nowhere transit (suc zero ∷ walk) h =
    let head : 1 ≡ h.0.head = ap (λ (x : Hop). x.head) (same_Some (hop 2 1 (n 1)) h.0 h.1) in
    let k : is_one 2 ≡ true = stays (in_a_row transit) is_one ((λ e. e), ((λ e. absurd (cc)), tt)) walk h.0.head 2 (ap is_one (sym head)) h.3 in absurd (cc)
nowhere transit (suc (suc e) ∷ walk) h = absurd (let none : ◌≡◌ {A = Option Hop} None (Some h.0) = h.1 in cc)

-- a walk from the source to the node between is the first link
only_first : (transit : ℚ) (walk : List ℕ) → IsWalk (in_a_row transit) walk 0 2 → walk ≡ 0 ∷ []
only_first transit [] h = absurd (omega arith)
only_first transit (zero ∷ walk) h =
    let head : 2 ≡ h.0.head = ap (λ (x : Hop). x.head) (same_Some (hop 0 2 transit) h.0 h.1) in
    ap (λ rest. 0 ∷ rest) (nowhere transit walk (subst (λ u. IsWalk (in_a_row transit) walk u 2) (sym head) h.3))
only_first transit (suc zero ∷ walk) h = let tail : (hop 2 1 (n 1)).tail ≡ 0 = tail_is (hop 2 1 (n 1)) h.0 0 h.1 h.2 in absurd (omega arith)
only_first transit (suc (suc e) ∷ walk) h = absurd (let none : ◌≡◌ {A = Option Hop} None (Some h.0) = h.1 in cc)

row_reached : (transit : ℚ) (v : ℕ) → v < 3 → (walk : List ℕ) × IsWalk (in_a_row transit) walk 0 v
row_reached transit zero h = ([], refl)
row_reached transit (suc zero) h = (0 ∷ 1 ∷ [], (hop 0 2 transit, refl, refl, (hop 2 1 (n 1), refl, refl, refl)))
row_reached transit (suc (suc zero)) h = (0 ∷ [], (hop 0 2 transit, refl, refl, refl))
row_reached transit (suc (suc (suc v))) h = absurd (omega arith)

-- no transit time is 0
not_zero : (q : ℚ) → le_ℚ q 0ℚ ≡ false → q ≡ 0ℚ → ⊥
unfolding le_ℚ whole ratio gcd
not_zero q h e = let k : le_ℚ 0ℚ 0ℚ ≡ false = subst (λ x. le_ℚ x 0ℚ ≡ false) e h in absurd (cc)

none_zero : (hops : List Hop) → AllByRecursion (λ hop. le_ℚ hop.transit 0ℚ ≡ false) hops → (e : ℕ) (hop : Hop) → IsHop hops e hop → transit_of hops e ≡ 0ℚ → ⊥
none_zero hops positive e hop is zero_ = not_zero hop.transit (entry_all (λ hop. le_ℚ hop.transit 0ℚ ≡ false) hops e hop positive is) (sym (transit_of-hop hops e hop is) ∙ zero_)

abbrev longest : ℚ
longest = whole (pos 170141183460469231731687303715884105727)

longest_is_least : IsLeastTransit (in_a_row longest) 0 2 longest
unfolding whole ratio gcd ◌+ℚ◌
longest_is_least = record {
  taken = (0 ∷ [], (hop 0 2 longest, refl, refl, refl), refl);
  bound = λ walk h. subst (λ w. longest ≤ℚ transit_sum (in_a_row longest) w) (sym (only_first longest walk h)) (≤ℚ_of_same longest longest refl);
}

pub sum_passes : Reads (text (codes "nfot 1" ∷ codes "source s" ∷ codes "sink t" ∷ codes "link a s u 170141183460469231731687303715884105727 1" ∷ codes "link b u t 1 1" ∷ codes "end" ∷ []))
    (Err (record { rule = N22; line = 0 }))
unfolding whole ratio gcd le_ℚ lt_ℚ digits_of number_of parts_of decimal_of decimal_parts_of printed printed_parts beyond
sum_passes = (
  fourth (λ e. absurd (cc)) (λ e. absurd (cc)) s_and_t (inr (
    (λ r. r.2 (row_reached longest r.0 r.1)),
    inr (
      (λ c. none_zero (in_a_row longest) (refl, (refl, tt)) c.first c.closed.0 c.closed.1 c.zero.0),
      inl (record { link = 1; hop = hop 2 1 (n 1); least = longest; is_hop = refl; is_least = longest_is_least; is_fraction = refl; passes = refl }, refl),
    ),
  )),
  refl,
)

-- ---- accepted files
-- the least transit sum from a node to itself is 0
to_itself : (hops : List Hop) (v : ℕ) (least : ℚ) → AllByRecursion (λ hop. le_ℚ 0ℚ hop.transit ≡ true) hops → IsLeastTransit hops v v least → least ≡ 0ℚ
to_itself hops v least positive h =
    let above : 0ℚ ≤ℚ transit_sum hops h.taken.0 =
    transit_sum_nn hops (λ e hop is. le_of_test 0ℚ hop.transit (entry_all (λ hop. le_ℚ 0ℚ hop.transit ≡ true) hops e hop positive is)) h.taken.0 v v h.taken.1 in
    ≤ℚ_antisymm least 0ℚ (h.bound [] refl) (subst (λ x. 0ℚ ≤ℚ x) h.taken.2 above)

-- no sum passes at a link out of the source
fits_at_source : (hops : List Hop) (source : ℕ) (h other : Hop) (least : ℚ) → AllByRecursion (λ hop. le_ℚ 0ℚ hop.transit ≡ true) hops → h.tail ≡ source
    → passes_Q Sum 0ℚ h.transit ≡ false
    → h ≡ other → IsLeastTransit hops source other.tail least → passes_Q Sum least other.transit ≡ true → ⊥
fits_at_source hops source h other least positive out fits same is_least wide =
    let zero_ : least ≡ 0ℚ = to_itself hops source least positive (subst (λ v. IsLeastTransit hops source v least) (sym (ap (λ (x : Hop). x.tail) same) ∙ out) is_least) in
    let other_wide : passes_Q Sum 0ℚ h.transit ≡ true = subst (λ x. passes_Q Sum x h.transit ≡ true) zero_ (subst (λ (x : Hop). passes_Q Sum least x.transit ≡ true) (sym same) wide) in
    absurd (cc)

-- one link from source to sink, in a file with comments and CR LF that names the sink first
abbrev commented : List ℕ
commented = flat_map (λ l. l ++ 13 ∷ 10 ∷ []) (
    codes "# demo" ∷ codes "nfot 1" ∷ codes "sink t" ∷ codes "link a s t 2/4 06" ∷ codes "source s" ∷ codes "inflow 0 1" ∷ codes "end" ∷ [])

abbrev one_link : Named
one_link = record {
  version = 1;
  net = record {
    nodes = 2;
    source = 0;
    sink = 1;
    links = record { tail = 0; head = 1; transit = ratio (pos 2) 4; capacity = Some (n 6) } ∷ [];
    pieces = record { start = n 0; rate = n 1 } ∷ [];
  };
  node_names = codes "s" ∷ codes "t" ∷ [];
  link_names = codes "a" ∷ [];
  idle_nodes = [];
  idle_links = [];
}

abbrev one_hop : List Hop
one_hop = hop 1 0 (ratio (pos 2) 4) ∷ []

one_hop_reached : (v : ℕ) → v < 2 → (walk : List ℕ) × IsWalk one_hop walk 1 v
one_hop_reached zero h = (0 ∷ [], (hop 1 0 (ratio (pos 2) 4), refl, refl, refl))
one_hop_reached (suc zero) h = ([], refl)
one_hop_reached (suc (suc v)) h = absurd (omega arith)

one_hop_fits : (e : ℕ) (h : Hop) (least : ℚ) → IsHop one_hop e h → IsLeastTransit one_hop 1 h.tail least → passes_Q Sum least h.transit ≡ true → ⊥
unfolding whole ratio gcd le_ℚ beyond
one_hop_fits zero h least is is_least wide = fits_at_source one_hop 1 (hop 1 0 (ratio (pos 2) 4)) h least (refl, tt) refl refl (same_Some (hop 1 0 (ratio (pos 2) 4)) h is) is_least wide
one_hop_fits (suc e) h least is is_least wide = absurd (let none : ◌≡◌ {A = Option Hop} None (Some h) = is in cc)

pub one_link_read : Reads commented (Ok one_link)
unfolding whole ratio gcd le_ℚ lt_ℚ digits_of number_of parts_of decimal_of decimal_parts_of printed printed_parts
one_link_read = (
  all_met (λ e. absurd (cc)) (λ e. absurd (cc)) s_and_t (λ r. r.2 (one_hop_reached r.0 r.1))
      (λ c. none_zero one_hop (refl, tt) c.first c.closed.0 c.closed.1 c.zero.0) (λ p. one_hop_fits p.link p.hop p.least p.is_hop p.is_least p.passes),
  record { flags = true ∷ []; active = (((λ e. ([], refl)), (λ r. refl)), tt); network = refl },
)

-- version 2, with decimals and a link whose tail isn't reached
abbrev with_idle : List ℕ
with_idle = text (codes "nfot 2" ∷ codes "source s" ∷ codes "sink t" ∷ codes "link x w t 1 1" ∷ codes "link a s t 0.5 1.50" ∷ codes "inflow 0 2" ∷ codes "end" ∷ [])

abbrev half : ℚ
half = ratio (pos 5) 10

abbrev one_idle : Named
one_idle = record one_link {
  version = 2;
  net = record one_link.net {
    links = record { tail = 0; head = 1; transit = half; capacity = Some (ratio (pos 150) 100) } ∷ [];
    pieces = record { start = n 0; rate = n 2 } ∷ [];
  };
  idle_nodes = codes "w" ∷ [];
  idle_links = record { name = codes "x"; tail = codes "w"; head = codes "t"; transit = n 1; capacity = Some (n 1) } ∷ [];
}

-- nodes are s, t, w
abbrev two_hops : List Hop
two_hops = hop 2 1 (n 1) ∷ hop 0 1 half ∷ []

not_two : (walk : List ℕ) → IsWalk two_hops walk 0 2 → ⊥
not_two walk h = let k : below_two 2 ≡ true = stays two_hops below_two ((λ e. refl), ((λ e. refl), tt)) walk 0 2 refl h in absurd (cc)

two_hops_fit : (e : ℕ) (h : Hop) (least : ℚ) → IsHop two_hops e h → IsLeastTransit two_hops 0 h.tail least → passes_Q Sum least h.transit ≡ true → ⊥
unfolding whole ratio gcd le_ℚ beyond
two_hops_fit zero h least is is_least wide = not_two is_least.taken.0 (subst (IsWalk two_hops is_least.taken.0 0) (sym (tail_is (hop 2 1 (n 1)) h h.tail is refl)) is_least.taken.1)
two_hops_fit (suc zero) h least is is_least wide = fits_at_source two_hops 0 (hop 0 1 half) h least (refl, (refl, tt)) refl refl (same_Some (hop 0 1 half) h is) is_least wide
two_hops_fit (suc (suc e)) h least is is_least wide = absurd (let none : ◌≡◌ {A = Option Hop} None (Some h) = is in cc)

pub one_idle_read : Reads with_idle (Ok one_idle)
unfolding whole ratio gcd le_ℚ lt_ℚ digits_of number_of parts_of decimal_of decimal_parts_of printed printed_parts
one_idle_read = (
  all_met (λ e. absurd (cc)) (λ e. absurd (cc)) s_and_t (λ f. f (1 ∷ [], (hop 0 1 half, refl, refl, refl)))
      (λ c. none_zero two_hops (refl, (refl, tt)) c.first c.closed.0 c.closed.1 c.zero.0) (λ p. two_hops_fit p.link p.hop p.least p.is_hop p.is_least p.passes),
  record {
    flags = false ∷ true ∷ [];
    active = (((λ e. absurd (cc)), (λ r. absurd (not_two r.0 r.1))), (((λ e. ([], refl)), (λ r. refl)), tt));
    network = refl;
  },
)

-- accepted networks exist, and their texts are read back
pub one_idle_is_named : IsNamed one_idle
one_idle_is_named = accepted_named with_idle one_idle one_idle_read

pub one_idle_back : Reads (canonical one_idle) (Ok one_idle)
one_idle_back = canonical_back one_idle one_idle_is_named
