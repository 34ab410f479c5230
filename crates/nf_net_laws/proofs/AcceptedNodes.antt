-- Reached nodes of an accepted file, and walks by the numbers of the file and of its network.
use Rattle.std.proofs.Common.{◌≡◌, ℕ, zero, suc, ◌<◌, ◌==◌, ◌||◌, Bool, true, false, List, [], ◌∷◌, ◌++◌, length, map, slice_get, Option, Some, None}
use Rattle.std.proofs.Common.{is_none, unwrap_or, refl, sym, ◌∙◌, ap, subst, inl, inr, bytes_eq}
use Rattle.nf_net_laws.proofs.Common.{MatchBool, AllByRecursion, list_all, and_parts, or_left, or_right, Hop, IsHop, IsWalk, hop_of, Name, has_name}
use Rattle.nf_net_laws.proofs.Common.{place_of, name_at, with_names, NamedLink, numbered, ends, Draft, draft_hops, source_name, sink_name, source_place}
use Rattle.nf_net_laws.proofs.Common.{IsReached, LeavesUnreached, BreaksRule, closing_rules, marked, AreActive, slice_get-image, true_or_false}
use Rattle.nf_net_laws.proofs.NameFacts.{bytes_eq-self, place_below, name_at-place}
use Rattle.nf_net_laws.proofs.WalkFacts.{entry_all, CameFrom, came_from, walk_push, LastHop, last_hop}
use Rattle.nf_net_laws.proofs.DraftKept.{IsGoodDraft}
use Rattle.nf_net_laws.proofs.MarkedFacts.{Entry, in_marked, marked_have, marked_all, every_with_names, has_every}

-- ---- lists of links
pub all_implied : {X : Type 0} (P Q : X → Type 0) → ((x : X) → P x → Q x) → (xs : List X) → AllByRecursion P xs → AllByRecursion Q xs
all_implied P Q f [] h = tt
all_implied P Q f (x ∷ xs) h = (f x h.0, all_implied P Q f xs h.1)

pub all_entries : (links : List NamedLink) → AllByRecursion (Entry links) links
all_entries [] = tt
all_entries (l ∷ links) = ((0, refl), all_implied (Entry links) (Entry (l ∷ links)) (λ k r. (suc r.0, r.1)) links (all_entries links))

pub both_all : {X : Type 0} (P Q : X → Type 0) (xs : List X) → AllByRecursion P xs → AllByRecursion Q xs → AllByRecursion (λ x. P x × Q x) xs
both_all P Q [] h k = tt
both_all P Q (x ∷ xs) h k = ((h.0, k.0), both_all P Q xs h.1 k.1)

pub ends_of_each : (test : Name → Bool) (links : List NamedLink) → list_all test (ends links) ≡ true → AllByRecursion (λ l. (test l.tail ≡ true) × (test l.head ≡ true)) links
ends_of_each test [] h = tt
ends_of_each test (l ∷ links) h =
    let a = and_parts (test l.tail) (list_all test (l.head ∷ ends links)) h in
    let b = and_parts (test l.head) (list_all test (ends links)) a.1 in
    ((a.0, b.0), ends_of_each test links b.1)

each_of_ends : (P : Name → Type 0) (links : List NamedLink) → AllByRecursion (λ l. P l.tail × P l.head) links → AllByRecursion P (ends links)
each_of_ends P [] h = tt
each_of_ends P (l ∷ links) h = (h.0.0, (h.0.1, each_of_ends P links h.1))

abbrev EndsAmong : List NamedLink → NamedLink → Type 0
EndsAmong links k = (has_name (ends links) k.tail ≡ true) × (has_name (ends links) k.head ≡ true)

later : (l : NamedLink) (links : List NamedLink) (k : NamedLink) → EndsAmong links k → EndsAmong (l ∷ links) k
later l links k h = (
  or_right (bytes_eq k.tail l.tail) (bytes_eq k.tail l.head || has_name (ends links) k.tail) (or_right (bytes_eq k.tail l.head) (has_name (ends links) k.tail) h.0),
  or_right (bytes_eq k.head l.tail) (bytes_eq k.head l.head || has_name (ends links) k.head) (or_right (bytes_eq k.head l.head) (has_name (ends links) k.head) h.1),
)

each_among : (links : List NamedLink) → AllByRecursion (EndsAmong links) links
each_among [] = tt
each_among (l ∷ links) = (
  (
    or_left (bytes_eq l.tail l.tail) (bytes_eq l.tail l.head || has_name (ends links) l.tail) (bytes_eq-self l.tail),
    or_right (bytes_eq l.head l.tail) (bytes_eq l.head l.head || has_name (ends links) l.head) (or_left (bytes_eq l.head l.head) (has_name (ends links) l.head) (bytes_eq-self l.head)),
  ),
  all_implied (EndsAmong links) (EndsAmong (l ∷ links)) (λ k h. later l links k h) links (each_among links),
)

pub ends_among : (links : List NamedLink) (e : ℕ) (l : NamedLink) → slice_get links e ≡ Some l → (has_name (ends links) l.tail ≡ true) × (has_name (ends links) l.head ≡ true)
ends_among links e l is = entry_all (EndsAmong links) links e l (each_among links) is

both_some : (a b : Option Name) → ((is_none a || is_none b) ≡ true → ⊥) → (a ≡ Some (unwrap_or a [])) × (b ≡ Some (unwrap_or b []))
both_some None b h = absurd (h refl)
both_some (Some x) None h = absurd (h refl)
both_some (Some x) (Some y) h = (refl, refl)

-- a name that the file names, of a node that is reached
pub record IsReachedName (draft : Draft) (name : Name) : Type 0 where
  pub there : has_name draft.nodes name ≡ true
  pub reached : IsReached draft (place_of draft.nodes name)

-- the nodes to which links lead
heads : List NamedLink → List Name
heads links = map (λ l. l.head) links

module _ (draft : Draft) (g : IsGoodDraft draft) (fine : AllByRecursion (λ rule. ¬ BreaksRule draft rule) closing_rules) (flags : List Bool) (act : AreActive draft flags) where
  abbrev s : Name
  s = source_name draft

  abbrev t : Name
  t = sink_name draft

  -- its tail is reached
  abbrev Reached : NamedLink → Type 0
  Reached l = IsReached draft (place_of draft.nodes l.tail)

  some_ends : (draft.source ≡ Some (source_name draft)) × (draft.sink ≡ Some (sink_name draft))
  some_ends = both_some draft.source draft.sink fine.1.0

  pub s_there : has_name draft.nodes s ≡ true
  s_there = g.source s some_ends.0

  pub t_there : has_name draft.nodes t ≡ true
  t_there = g.sink t some_ends.1

  pub two_nodes : s ≡ t → ⊥
  two_nodes e = fine.1.1.0 (some_ends.0 ∙ ap (λ name. Some name) e ∙ sym some_ends.1)

  pub there : (i : ℕ) (l : NamedLink) → slice_get draft.links i ≡ Some l → (has_name draft.nodes l.tail ≡ true) × (has_name draft.nodes l.head ≡ true)
  there i l is =
      entry_all (λ l. (has_name draft.nodes l.tail ≡ true) × (has_name draft.nodes l.head ≡ true)) draft.links i l
      (ends_of_each (has_name draft.nodes) draft.links g.ends_there) is

  pub hop_there : (i : ℕ) (l : NamedLink) → slice_get draft.links i ≡ Some l → IsHop (draft_hops draft) i (hop_of (numbered draft.nodes l))
  hop_there i l is = slice_get-image (λ l. hop_of (numbered draft.nodes l)) draft.links i l is

  pub reached_on : (i : ℕ) (l : NamedLink) → slice_get draft.links i ≡ Some l → Reached l → IsReached draft (place_of draft.nodes l.head)
  reached_on i l is r = (
    r.0 ++ i ∷ [],
    walk_push (draft_hops draft) r.0 (source_place draft) (place_of draft.nodes l.tail) i (hop_of (numbered draft.nodes l)) r.1
        (hop_there i l is) refl,
  )

  -- ---- the sink is reached
  active_ones : AllByRecursion (λ l. Entry draft.links l × Reached l) (marked flags draft.links)
  active_ones = both_all (Entry draft.links) (λ l. IsReached draft (place_of draft.nodes l.tail)) (marked flags draft.links)
      (marked_all (Entry draft.links) flags draft.links (all_entries draft.links)) (marked_have (λ l. IsReached draft (place_of draft.nodes l.tail)) flags draft.links act)

  heads_reached : (links : List NamedLink) → AllByRecursion (λ l. Entry draft.links l × Reached l) links
      → AllByRecursion (λ name. IsReached draft (place_of draft.nodes name)) (heads links)
  unfolding heads
  heads_reached [] h = tt
  heads_reached (l ∷ links) h = (reached_on h.0.0.0 l h.0.0.1 h.0.1, heads_reached links h.1)

  head_among : (links : List NamedLink) (e : ℕ) (l : NamedLink) → slice_get links e ≡ Some l → has_name (heads links) l.head ≡ true
  unfolding heads
  head_among [] e l is = absurd (cc)
  head_among (k ∷ links) zero l is =
      let same : k ≡ l = cc in or_left (bytes_eq l.head k.head) (has_name (heads links) l.head)
      (subst (λ x. bytes_eq l.head x.head ≡ true) (sym same) (bytes_eq-self l.head))
  head_among (k ∷ links) (suc e) l is = or_right (bytes_eq l.head k.head) (has_name (heads links) l.head) (head_among links e l is)

  same_place : (a b : Name) → has_name draft.nodes a ≡ true → has_name draft.nodes b ≡ true → place_of draft.nodes a ≡ place_of draft.nodes b → a ≡ b
  same_place a b h k e = sym (name_at-place draft.nodes a h) ∙ ap (name_at draft.nodes) e ∙ name_at-place draft.nodes b k

  not_entered : has_name (heads (marked flags draft.links)) t ≡ false → IsReached draft (place_of draft.nodes t) → ⊥
  not_entered none r = walked r.0 r.1
    where
      walked : (walk : List ℕ) → IsWalk (draft_hops draft) walk (source_place draft) (place_of draft.nodes t) → ⊥
      walked [] h = two_nodes (same_place s t s_there t_there h)
      walked (e ∷ walk) h =
          let r : LastHop (draft_hops draft) (source_place draft) (place_of draft.nodes t) = last_hop (draft_hops draft) e walk (source_place draft) (place_of draft.nodes t) h in
          let c : CameFrom (λ l. hop_of (numbered draft.nodes l)) draft.links r.number r.hop = came_from (λ l. hop_of (numbered draft.nodes l)) draft.links r.number r.hop r.is_hop in
          let tail : Reached c.entry = (r.front, subst (λ (x : Hop). IsWalk (draft_hops draft) r.front (source_place draft) x.tail) (sym c.is_image) r.is_walk) in
          let k = in_marked (λ l. IsReached draft (place_of draft.nodes l.tail)) flags draft.links r.number c.entry act c.is_entry tail in
          let head : place_of draft.nodes c.entry.head ≡ place_of draft.nodes t = ap (λ (x : Hop). x.head) c.is_image ∙ r.head in
          let same : c.entry.head ≡ t = same_place c.entry.head t (there r.number c.entry c.is_entry).1 t_there head in
          let yes : has_name (heads (marked flags draft.links)) t ≡ true = subst (λ name. has_name (heads (marked flags draft.links)) name ≡ true) same
          (head_among (marked flags draft.links) k.0 c.entry k.1) in
          absurd (cc)

  leaves : (¬ IsReached draft (place_of draft.nodes t)) → LeavesUnreached draft
  leaves un = elim g.version [
    | inl e ↦ subst (λ k. MatchBool (k == 1) ((v : ℕ) × (v < length draft.nodes) × (¬ IsReached draft v)) (¬ IsReached draft (place_of draft.nodes t))) (sym e)
        (place_of draft.nodes t, place_below draft.nodes t t_there, un)
    | inr e ↦ subst (λ k. MatchBool (k == 1) ((v : ℕ) × (v < length draft.nodes) × (¬ IsReached draft v)) (¬ IsReached draft (place_of draft.nodes t))) (sym e) un
  ]

  pub t_reached : IsReached draft (place_of draft.nodes t)
  t_reached = elim (true_or_false (has_name (heads (marked flags draft.links)) t)) [
    | inl met ↦ has_every (λ name. IsReached draft (place_of draft.nodes name)) (heads (marked flags draft.links)) t (heads_reached (marked flags draft.links) active_ones) met
    | inr unmet ↦ absurd (fine.1.1.1.0 (leaves (not_entered unmet)))
  ]

  -- ---- the nodes of the network are there in the file, and reached
  ends_reached : (links : List NamedLink) → AllByRecursion (λ l. Entry draft.links l × Reached l) links
      → AllByRecursion (λ l. IsReachedName draft l.tail × IsReachedName draft l.head) links
  ends_reached [] h = tt
  ends_reached (l ∷ links) h = (
    (
      record { there = (there h.0.0.0 l h.0.0.1).0; reached = h.0.1 },
      record { there = (there h.0.0.0 l h.0.0.1).1; reached = reached_on h.0.0.0 l h.0.0.1 h.0.1 },
    ),
    ends_reached links h.1,
  )

  pub nodes_reached : AllByRecursion (IsReachedName draft) (with_names (source_name draft ∷ sink_name draft ∷ []) (ends (marked flags draft.links)))
  nodes_reached = every_with_names (IsReachedName draft) (source_name draft ∷ sink_name draft ∷ []) (ends (marked flags draft.links))
      (record { there = s_there; reached = ([], refl) }, (record { there = t_there; reached = t_reached }, tt))
      (each_of_ends (IsReachedName draft) (marked flags draft.links) (ends_reached (marked flags draft.links) active_ones))
