-- The lines of a list, part by part.
use Rattle.std.proofs.Common.{◌≡◌, ℕ, zero, suc, ◌+◌, ◌<◌, List, [], ◌∷◌, ◌++◌, length, take, drop, get_or, refl, sym, ap, ◌∙◌, append_assoc, append-nil}
use Rattle.std.proofs.Common.{add-one, arith, Option, Some, slice_get, flat_map, map, unwrap_or, codes}
use Rattle.nf_report_pages.proofs.Common.{join_with_byte, range_with_len, ℚ, for_each, trace_at, Grown, seen_trace, Trace, line_of_words, Name, name_at}
use Rattle.nf_report_pages.proofs.Common.{point_lines, trace_lines, Line, after_words, written_point, written_trace, never_lines}
use Rattle.std.proofs.Math.Seq.{take-length}
use Rattle.std.proofs.lemmas.List.FromFn.{length-range_with_len}
use Rattle.nf_model.specs.Equilibrium.{points_at}
use Rattle.nf_model.specs.Equilibrium as model
use Rattle.nf_rational_laws.proofs.Entries.{slice_get-below}

-- ---- what a function makes of the elements, one after the other
next_suc : {X A : Type 0} (f : X → List A) (xs : List X) (i : ℕ) (x : X) → slice_get xs i ≡ Some x → flat_map f (take i xs) ++ f x ≡ flat_map f (take (suc i) xs)
next_suc f [] i x h = cc
next_suc f (y ∷ xs) zero x h = (let e : x ≡ y = cc in ap f e) ∙ sym (append-nil (f y))
next_suc f (y ∷ xs) (suc i) x h = append_assoc (f y) (flat_map f (take i xs)) (f x) ∙ ap (λ l. f y ++ l) (next_suc f xs i x h)

pub next_part : {X A : Type 0} (f : X → List A) (xs : List X) (i : ℕ) (x : X) → slice_get xs i ≡ Some x → flat_map f (take i xs) ++ f x ≡ flat_map f (take (i + 1) xs)
next_part f xs i x h = rw add-one (next_suc f xs i x h)

parted : {X A : Type 0} (f : X → List A) (xs : List X) (i : ℕ) → flat_map f (take i xs) ++ flat_map f (drop i xs) ≡ flat_map f xs
parted f xs zero = refl
parted f [] (suc i) = refl
parted f (y ∷ xs) (suc i) = append_assoc (f y) (flat_map f (take i xs)) (flat_map f (drop i xs)) ∙ ap (λ l. f y ++ l) (parted f xs i)

pub parts_left : {X A : Type 0} (f : X → List A) (xs : List X) (i : ℕ) (x : X) → slice_get xs i ≡ Some x
    → (flat_map f (take i xs) ++ f x) ++ flat_map f (drop (suc i) xs) ≡ flat_map f xs
parts_left f xs i x h = ap (λ l. l ++ flat_map f (drop (suc i) xs)) (next_suc f xs i x h) ∙ parted f xs (suc i)

pub all_parts : {X A : Type 0} (f : X → List A) (xs : List X) (i : ℕ) → i ≡ length xs → flat_map f (take i xs) ≡ flat_map f xs
all_parts f xs i e = ap (λ n. flat_map f (take n xs)) e ∙ ap (λ l. flat_map f l) (take-length xs)

-- an element of a list, as a loop over it has it
pub mapped_there : {X Y : Type 0} (v : X → Y) (xs : List X) (i : ℕ) (d : X) → i < length xs → slice_get (map v xs) i ≡ Some (v (get_or xs i d))
mapped_there v [] i d h = absurd (omega arith)
mapped_there v (x ∷ xs) zero d h = refl
mapped_there v (x ∷ xs) (suc i) d h = mapped_there v xs i d (omega arith)

-- ---- a line
joined : (key : List ℕ) (words : Line) → key ++ after_words words ≡ join_with_byte 32 (key ∷ words)
joined key [] = append-nil key
joined key (word ∷ words) = ap (λ l. key ++ 32 ∷ l) (joined word words)

pub line_joined : (key : List ℕ) (words : Line) → (key ++ after_words words) ++ 10 ∷ [] ≡ flat_map line_of_words ((key ∷ words) ∷ [])
line_joined key words = ap (λ l. l ++ 10 ∷ []) (joined key words) ∙ sym (append-nil (line_of_words (key ∷ words)))

-- ---- the lines of a curve
module _ (key : List ℕ) (name : Name) where
  point_next : (points : List (ℚ × ℚ)) (i : ℕ) (p : ℚ × ℚ) → slice_get points i ≡ Some p
      → point_lines key name (take i points) ++ written_point key name p ∷ [] ≡ point_lines key name (take (suc i) points)
  point_next [] i p h = cc
  point_next (x ∷ points) zero p h = (let e : p ≡ x = cc in ap (λ q. written_point key name q ∷ []) e)
  point_next (x ∷ points) (suc i) p h = ap (λ l. written_point key name x ∷ l) (point_next points i p h)

  pub point_lines_next : (points : List (ℚ × ℚ)) (i : ℕ) (p : ℚ × ℚ) → slice_get points i ≡ Some p
      → point_lines key name (take i points) ++ written_point key name p ∷ [] ≡ point_lines key name (take (i + 1) points)
  point_lines_next points i p h = rw add-one (point_next points i p h)

  point_parted : (points : List (ℚ × ℚ)) (i : ℕ) → point_lines key name (take i points) ++ point_lines key name (drop i points) ≡ point_lines key name points
  point_parted points zero = refl
  point_parted [] (suc i) = refl
  point_parted (x ∷ points) (suc i) = ap (λ l. written_point key name x ∷ l) (point_parted points i)

  pub point_lines_left : (points : List (ℚ × ℚ)) (i : ℕ) (p : ℚ × ℚ) → slice_get points i ≡ Some p
      → (point_lines key name (take i points) ++ written_point key name p ∷ []) ++ point_lines key name (drop (suc i) points) ≡ point_lines key name points
  point_lines_left points i p h = ap (λ l. l ++ point_lines key name (drop (suc i) points)) (point_next points i p h) ∙ point_parted points (suc i)

  -- with rates
  trace_next : (points : List (ℚ × ℚ)) (rates : List ℚ) (i : ℕ) (p : ℚ × ℚ) → slice_get points i ≡ Some p
      → trace_lines key name (take i points) rates ++ written_trace key name p (slice_get rates i) ∷ [] ≡ trace_lines key name (take (suc i) points) rates
  trace_next [] rates i p h = cc
  trace_next (x ∷ points) [] zero p h = (let e : p ≡ x = cc in ap (λ q. written_trace key name q (slice_get [] 0) ∷ []) e)
  trace_next (x ∷ points) (rate ∷ rates) zero p h = (let e : p ≡ x = cc in ap (λ q. written_trace key name q (Some rate) ∷ []) e)
  trace_next (x ∷ points) [] (suc i) p h = ap (λ l. written_trace key name x (slice_get [] 0) ∷ l) (trace_next points [] i p h)
  trace_next (x ∷ points) (rate ∷ rates) (suc i) p h = ap (λ l. written_trace key name x (Some rate) ∷ l) (trace_next points rates i p h)

  pub trace_lines_next : (points : List (ℚ × ℚ)) (rates : List ℚ) (i : ℕ) (p : ℚ × ℚ) (rate : Option ℚ) → slice_get points i ≡ Some p → rate ≡ slice_get rates i
      → trace_lines key name (take i points) rates ++ written_trace key name p rate ∷ [] ≡ trace_lines key name (take (i + 1) points) rates
  trace_lines_next points rates i p rate h e =
      ap (λ r. trace_lines key name (take i points) rates ++ written_trace key name p r ∷ []) e ∙ rw add-one (trace_next points rates i p h)

  trace_parted : (points : List (ℚ × ℚ)) (rates : List ℚ) (i : ℕ)
      → trace_lines key name (take i points) rates ++ trace_lines key name (drop i points) (drop i rates) ≡ trace_lines key name points rates
  trace_parted points rates zero = refl
  trace_parted [] rates (suc i) = refl
  trace_parted (x ∷ points) [] (suc i) = ap (λ l. written_trace key name x (slice_get [] 0) ∷ l) (trace_parted_bare points i)
    where
      trace_parted_bare : (points : List (ℚ × ℚ)) (i : ℕ) → trace_lines key name (take i points) [] ++ trace_lines key name (drop i points) [] ≡ trace_lines key name points []
      trace_parted_bare points zero = refl
      trace_parted_bare [] (suc i) = refl
      trace_parted_bare (y ∷ points) (suc i) = ap (λ l. written_trace key name y (slice_get [] 0) ∷ l) (trace_parted_bare points i)
  trace_parted (x ∷ points) (rate ∷ rates) (suc i) = ap (λ l. written_trace key name x (Some rate) ∷ l) (trace_parted points rates i)

  pub trace_lines_left : (points : List (ℚ × ℚ)) (rates : List ℚ) (i : ℕ) (p : ℚ × ℚ) (rate : Option ℚ) → slice_get points i ≡ Some p → rate ≡ slice_get rates i
      → (trace_lines key name (take i points) rates ++ written_trace key name p rate ∷ []) ++ trace_lines key name (drop (suc i) points) (drop (suc i) rates)
      ≡ trace_lines key name points rates
  trace_lines_left points rates i p rate h e =
      ap (λ r. (trace_lines key name (take i points) rates ++ written_trace key name p r ∷ []) ++ trace_lines key name (drop (suc i) points) (drop (suc i) rates)) e
      ∙ ap (λ l. l ++ trace_lines key name (drop (suc i) points) (drop (suc i) rates)) (trace_next points rates i p h) ∙ trace_parted points rates (suc i)

-- ---- for each number below a count
pub each_next : (n : ℕ) (lines_of : ℕ → List Line) (i : ℕ) → i < n
    → flat_map lines_of (take i (range_with_len 0 n)) ++ lines_of i ≡ flat_map lines_of (take (i + 1) (range_with_len 0 n))
each_next n lines_of i h = next_part lines_of (range_with_len 0 n) i i (slice_get-below n i h)

pub each_left : (n : ℕ) (lines_of : ℕ → List Line) (i : ℕ) → i < n
    → (flat_map lines_of (take i (range_with_len 0 n)) ++ lines_of i) ++ flat_map lines_of (drop (suc i) (range_with_len 0 n)) ≡ for_each n lines_of
each_left n lines_of i h = parts_left lines_of (range_with_len 0 n) i i (slice_get-below n i h)

pub each_all : (n : ℕ) (lines_of : ℕ → List Line) (i : ℕ) → i ≡ n → flat_map lines_of (take i (range_with_len 0 n)) ≡ for_each n lines_of
each_all n lines_of i e = all_parts lines_of (range_with_len 0 n) i (e ∙ sym (length-range_with_len 0 n))

-- ---- the curves of a flow
pub points_there : (curves : List Grown) (i : ℕ) (curve : Grown) → curve ≡ get_or curves i curve → i < length curves
    → curve.points ≡ points_at (map (λ c. c.points) curves) i
points_there curves i curve is h =
    ap (λ (c : Grown). c.points) is ∙ sym (ap (λ o. unwrap_or o []) (mapped_there (λ (c : Grown). c.points) curves i curve h))

pub trace_there : (traces : List Trace) (i : ℕ) (trace : Trace) → trace ≡ get_or traces i trace → i < length traces
    → seen_trace trace ≡ trace_at (map seen_trace traces) i
trace_there traces i trace is h =
    ap seen_trace is ∙ sym (ap (λ o. unwrap_or o (record { points = []; rates = [] })) (mapped_there seen_trace traces i trace h))

-- ---- the idle nodes
never_suc : (names : List Name) (i : ℕ) → i < length names → never_lines (take i names) ++ (codes "never" ∷ name_at names i ∷ []) ∷ [] ≡ never_lines (take (suc i) names)
never_suc [] i h = absurd (omega arith)
never_suc (x ∷ names) zero h = refl
never_suc (x ∷ names) (suc i) h = ap (λ l. (codes "never" ∷ x ∷ []) ∷ l) (never_suc names i (omega arith))

pub never_next : (names : List Name) (i : ℕ) → i < length names
    → never_lines (take i names) ++ (codes "never" ∷ name_at names i ∷ []) ∷ [] ≡ never_lines (take (i + 1) names)
never_next names i h = rw add-one (never_suc names i h)

never_parted : (names : List Name) (i : ℕ) → never_lines (take i names) ++ never_lines (drop i names) ≡ never_lines names
never_parted names zero = refl
never_parted [] (suc i) = refl
never_parted (x ∷ names) (suc i) = ap (λ l. (codes "never" ∷ x ∷ []) ∷ l) (never_parted names i)

pub never_left : (names : List Name) (i : ℕ) → i < length names
    → (never_lines (take i names) ++ (codes "never" ∷ name_at names i ∷ []) ∷ []) ++ never_lines (drop (suc i) names) ≡ never_lines names
never_left names i h = ap (λ l. l ++ never_lines (drop (suc i) names)) (never_suc names i h) ∙ never_parted names (suc i)

pub never_all : (names : List Name) (i : ℕ) → i ≡ length names → never_lines (take i names) ≡ never_lines names
never_all names i e = ap (λ n. never_lines (take n names)) e ∙ ap (λ l. never_lines l) (take-length names)

-- ---- the same parts make the same lines
pub same_link : (lines_of : List ℕ → model.Trace → model.Trace → List (ℚ × ℚ) → List Line) (m n : List ℕ) (a b c d : model.Trace) (p q : List (ℚ × ℚ))
    → m ≡ n → a ≡ b → c ≡ d → p ≡ q → lines_of m a c p ≡ lines_of n b d q
same_link lines_of m n a b c d p q e f g h = cc
