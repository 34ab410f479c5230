-- A step for each route with what it has sent, one route after the other.
use Rattle.std.proofs.Common.{◌≡◌, ℕ, zero, suc, ◌+◌, ◌<◌, ◌≤◌, List, [], ◌∷◌, ◌++◌, length, take, drop, set, refl, sym, ap, subst, ◌∙◌, append_assoc}
use Rattle.std.proofs.Common.{append-nil, arith, Some, Ok, Err, slice_get}
use Rattle.nf_routes_links.proofs.Common.{drop_next, take_more_set, drop-set-lt, drop-drop, drop_all, take_all, length-set, ℚ, Halt, Load, Passing, Checked}
use Rattle.nf_routes_links.proofs.Common.{Stops, at_part, ◌>>=◌, with_front, Point, Route, begins_at, goes_over, last_entry, begin_if, begin_all, add_if}
use Rattle.nf_routes_links.proofs.Common.{sum_from, next_if, next_all, after_err, was_ok, front_none, front_err, stops_on, ForEachRoute}

abbrev pub Sent : Type 0
Sent = List (List Point)

-- ---- a step that makes what each route has sent anew
abbrev pub step_all : (Route → Sent → Checked Sent) → List Route → List Sent → Checked (List Sent)
step_all f [] entries = Ok []
step_all f (route ∷ routes) [] = Ok []
step_all f (route ∷ routes) (sent ∷ rest) = do
  here ← f route sent
  later ← step_all f routes rest
  Ok (here ∷ later)

pub begin_all-is : (passes : Passing) (horizon : ℚ) (e : ℕ) (routes : List Route) (entries : List Sent)
    → begin_all passes horizon e routes entries ≡ step_all (λ (route : Route) (sent : Sent). begin_if passes (begins_at route.links e) horizon route sent) routes entries
begin_all-is passes horizon e [] entries = refl
begin_all-is passes horizon e (route ∷ routes) [] = refl
begin_all-is passes horizon e (route ∷ routes) (sent ∷ rest) =
    ap (λ (r : Checked (List Sent)). begin_if passes (begins_at route.links e) horizon route sent >>= λ here. r >>= λ later. Ok (here ∷ later))
    (begin_all-is passes horizon e routes rest)

pub next_all-is : (passes : Passing) (e : ℕ) (exit : List Point) (routes : List Route) (entries : List Sent)
    → next_all passes e exit routes entries ≡ step_all (λ (route : Route) (sent : Sent). next_if passes (goes_over route.links e) exit sent) routes entries
next_all-is passes e exit [] entries = refl
next_all-is passes e exit (route ∷ routes) [] = refl
next_all-is passes e exit (route ∷ routes) (sent ∷ rest) =
    ap (λ (r : Checked (List Sent)). next_if passes (goes_over route.links e) exit sent >>= λ here. r >>= λ later. Ok (here ∷ later)) (next_all-is passes e exit routes rest)

get_drop : {A : Type 0} (xs ys : List A) (i : ℕ) (x : A) → drop i xs ≡ drop i ys → slice_get xs i ≡ Some x → slice_get ys i ≡ Some x
get_drop {A} xs ys i x same h = sym (first ys i) ∙ ap (λ (l : List A). slice_get l 0) (sym same) ∙ first xs i ∙ h
  where
    first : (l : List A) (i : ℕ) → slice_get (drop i l) 0 ≡ slice_get l i
    first [] zero = refl
    first [] (suc i) = refl
    first (y ∷ l) zero = refl
    first (y ∷ l) (suc i) = first l i

front_cons : {A : Type 0} (front : List A) (x : A) (r : Checked (List A)) → with_front front (r >>= λ later. Ok (x ∷ later)) ≡ with_front (front ++ x ∷ []) r
front_cons front x (Ok ys) = ap Ok (sym (append_assoc front (x ∷ []) ys))
front_cons front x (Err p) = refl

-- the steps of the first routes are made, and what the others have sent is as it was
pub record Steps (f : Route → Sent → Checked Sent) (routes : List Route) (old now : List Sent) (i : ℕ) : Type 0 where
  pub same : with_front (take i now) (step_all f (drop i routes) (drop i old)) ≡ step_all f routes old
  pub rest : drop i now ≡ drop i old
  pub count : length now ≡ length old

module _ (f : Route → Sent → Checked Sent) (routes : List Route) (old : List Sent) where
  pub steps_first : Steps f routes old old 0
  steps_first = record { same = front_none (step_all f routes old); rest = refl; count = refl }

  module _ (now : List Sent) (i : ℕ) (so_far : Steps f routes old now i) where
    -- at the end all are made
    pub steps_last : length routes ≤ i → length old ≤ i → at_part Load (step_all f routes old) ≡ Ok now
    steps_last h k =
        let none : step_all f (drop i routes) (drop i old) ≡ Ok [] = ap (λ (l : List Route). step_all f l (drop i old)) (drop_all i routes h) in
        ap (at_part Load) (sym so_far.same ∙ ap (with_front (take i now)) none)
        ∙ ap Ok (append-nil (take i now) ∙ take_all i now (let c = so_far.count in omega arith))

    module _ (route : Route) (sent : Sent) (at : slice_get routes i ≡ Some route) (is : slice_get now i ≡ Some sent) where
      pub was : slice_get old i ≡ Some sent
      was = get_drop now old i sent so_far.rest is

      here : with_front (take i now) (f route sent >>= λ here. step_all f (drop (i + 1) routes) (drop (i + 1) old) >>= λ later. Ok (here ∷ later)) ≡ step_all f routes old
      here = sym (ap (λ (l : List Route). with_front (take i now) (step_all f l (drop i old))) (drop_next routes i route at)
          ∙ ap (λ (l : List Sent). with_front (take i now) (step_all f (route ∷ drop (i + 1) routes) l)) (drop_next old i sent was)) ∙ so_far.same

      pub steps_stop : (h : Halt ℚ) → Stops (λ (q : ℚ). q) h (at_part Load (f route sent)) → Stops (λ (q : ℚ). q) h (at_part Load (step_all f routes old))
      steps_stop h s = stops_on h (at_part Load (f route sent)) (at_part Load (step_all f routes old))
          (λ p e. ap (at_part Load) (sym here) ∙ front_err Load (take i now)
          (f route sent >>= λ here. step_all f (drop (i + 1) routes) (drop (i + 1) old) >>= λ later. Ok (here ∷ later)) p
          (after_err Load (f route sent) (λ here. step_all f (drop (i + 1) routes) (drop (i + 1) old) >>= λ later. Ok (here ∷ later)) p e)) s

      pub steps_go : (next : Sent) → at_part Load (f route sent) ≡ Ok next → Steps f routes old (set now i next) (i + 1)
      steps_go next e =
          let inside : i < length now = within now i sent is in
          record {
            same = ap (λ (l : List Sent). with_front l (step_all f (drop (i + 1) routes) (drop (i + 1) old))) (take_more_set now i next inside)
                ∙ sym (front_cons (take i now) next (step_all f (drop (i + 1) routes) (drop (i + 1) old)))
                ∙ ap (λ (r : Checked Sent). with_front (take i now) (r >>= λ here. step_all f (drop (i + 1) routes) (drop (i + 1) old) >>= λ later. Ok
                (here ∷ later))) (sym (was_ok Load (f route sent) next e))
                ∙ here;
            rest = drop-set-lt (i + 1) now i next (omega arith) ∙ next_rest now old i so_far.rest;
            count = length-set now i next ∙ so_far.count;
          }
        where
          within : (l : List Sent) (i : ℕ) (x : Sent) → slice_get l i ≡ Some x → i < length l
          within [] i x h = absurd (cc)
          within (y ∷ l) zero x h = omega arith
          within (y ∷ l) (suc i) x h = let r = within l i x h in omega arith

          next_rest : (a b : List Sent) (i : ℕ) → drop i a ≡ drop i b → drop (i + 1) a ≡ drop (i + 1) b
          next_rest a b i h = sym (drop-drop 1 i a) ∙ ap (drop 1) h ∙ drop-drop 1 i b

-- ---- what holds of each route before a step, and what holds then after it
pub steps_keep : (f : Route → Sent → Checked Sent) (P Q : Route → Sent → Type 0) → ((route : Route) (sent next : Sent) → P route sent → f route sent ≡ Ok next → Q route next)
    → (routes : List Route) (entries next : List Sent) → ForEachRoute P routes entries → step_all f routes entries ≡ Ok next → ForEachRoute Q routes next
steps_keep f P Q keeps [] [] next along e = subst (λ (l : List Sent). ForEachRoute Q [] l) (ok_same e) tt
  where
    ok_same : {x y : List Sent} → ◌≡◌ {A = Checked (List Sent)} (Ok x) (Ok y) → x ≡ y
    ok_same e = cc
steps_keep f P Q keeps [] (sent ∷ rest) next along e = absurd along
steps_keep f P Q keeps (route ∷ routes) [] next along e = absurd along
steps_keep f P Q keeps (route ∷ routes) (sent ∷ rest) next along e = by (f route sent) refl (step_all f routes rest) (λ later k. steps_keep f P Q keeps routes rest later along.1 k) e
  where
    ok_same : {x y : List Sent} → ◌≡◌ {A = Checked (List Sent)} (Ok x) (Ok y) → x ≡ y
    ok_same e = cc

    by : (r : Checked Sent) → f route sent ≡ r → (s : Checked (List Sent)) → ((later : List Sent) → s ≡ Ok later → ForEachRoute Q routes later)
        → (r >>= λ here. s >>= λ later. Ok (here ∷ later)) ≡ Ok next → ForEachRoute Q (route ∷ routes) next
    by (Ok here) h (Ok later) on e = subst (λ (l : List Sent). ForEachRoute Q (route ∷ routes) l) (ok_same e) (keeps route sent here along.0 h, on later refl)
    by (Ok here) h (Err p) on e = absurd (cc)
    by (Err p) h s on e = absurd (cc)

-- of the route at a place, and what it has sent
pub along_at : (P : Route → Sent → Type 0) (routes : List Route) (entries : List Sent) (i : ℕ) (route : Route) (sent : Sent) → ForEachRoute P routes entries
    → slice_get routes i ≡ Some route → slice_get entries i ≡ Some sent → P route sent
along_at P [] entries i route sent along h k = absurd (cc)
along_at P (x ∷ routes) [] i route sent along h k = absurd along
along_at P (x ∷ routes) (y ∷ entries) zero route sent along h k =
    let a : x ≡ route = cc in
    let b : y ≡ sent = cc in
    subst (λ (r : Route). P r sent) a (subst (λ (s : Sent). P x s) b along.0)
along_at P (x ∷ routes) (y ∷ entries) (suc i) route sent along h k = along_at P routes entries i route sent along.1 h k

pub along-count : (P : Route → Sent → Type 0) (routes : List Route) (entries : List Sent) → ForEachRoute P routes entries → length entries ≡ length routes
along-count P [] [] along = refl
along-count P [] (y ∷ entries) along = absurd along
along-count P (x ∷ routes) [] along = absurd along
along-count P (x ∷ routes) (y ∷ entries) along = ap suc (along-count P routes entries along.1)

pub along_as : (P Q : Route → Sent → Type 0) → ((route : Route) (sent : Sent) → P route sent → Q route sent) → (routes : List Route) (entries : List Sent)
    → ForEachRoute P routes entries → ForEachRoute Q routes entries
along_as P Q gives [] [] along = tt
along_as P Q gives [] (y ∷ entries) along = absurd along
along_as P Q gives (x ∷ routes) [] along = absurd along
along_as P Q gives (x ∷ routes) (y ∷ entries) along = (gives x y along.0, along_as P Q gives routes entries along.1)

-- ---- a sum over the routes
pub record Sums (passes : Passing) (e : ℕ) (first : List Point) (routes : List Route) (entries : List Sent) (total : List Point) (i : ℕ) : Type 0 where
  pub same : sum_from passes e total (drop i routes) (drop i entries) ≡ sum_from passes e first routes entries

module _ (passes : Passing) (e : ℕ) (first : List Point) (routes : List Route) (entries : List Sent) where
  module _ (total : List Point) (i : ℕ) (so_far : Sums passes e first routes entries total i) where
    module _ (route : Route) (sent : Sent) (at : slice_get routes i ≡ Some route) (is : slice_get entries i ≡ Some sent) where
      sum_here : (add_if passes (goes_over route.links e) total (last_entry sent) >>= λ next. sum_from passes e next (drop (i + 1) routes)
          (drop (i + 1) entries)) ≡ sum_from passes e first routes entries
      sum_here = sym (ap (λ (l : List Route). sum_from passes e total l (drop i entries)) (drop_next routes i route at)
          ∙ ap (λ (l : List Sent). sum_from passes e total (route ∷ drop (i + 1) routes) l) (drop_next entries i sent is)) ∙ so_far.same

      pub sums_stop : (h : Halt ℚ) → Stops (λ (q : ℚ). q) h (at_part Load (add_if passes (goes_over route.links e) total (last_entry sent)))
          → Stops (λ (q : ℚ). q) h (at_part Load (sum_from passes e first routes entries))
      sums_stop h s = stops_on h (at_part Load (add_if passes (goes_over route.links e) total (last_entry sent))) (at_part Load (sum_from passes e first routes entries))
          (λ p k. ap (at_part Load) (sym sum_here) ∙ after_err Load (add_if passes (goes_over route.links e) total (last_entry sent))
          (λ next. sum_from passes e next (drop (i + 1) routes) (drop (i + 1) entries)) p k) s

      pub sums_go : (next : List Point) → at_part Load (add_if passes (goes_over route.links e) total (last_entry sent)) ≡ Ok next → Sums passes e first routes entries next (i + 1)
      sums_go next k = record {
        same = ap (λ (r : Checked (List Point)). r >>= λ t. sum_from passes e t (drop (i + 1) routes) (drop (i + 1) entries))
            (sym (was_ok Load (add_if passes (goes_over route.links e) total (last_entry sent)) next k)) ∙ sum_here;
      }
