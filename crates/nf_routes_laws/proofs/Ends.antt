-- The ends of the curves of a loading by route. The exit of a link ends at the link's end.
use Rattle.std.proofs.Common.{◌≡◌, List, [], ◌∷◌, ◌++◌, ◌⊎◌, inl, inr, ⊎_elim, Bool, true, false, Option, refl, sym, subst, ◌∙◌, Ok, if◌then◌else◌}
use Rattle.nf_routes_laws.proofs.Common.{ℚ, 0ℚ, ◌≤ℚ◌, ◌<ℚ◌, lt_ℚ, ≤ℚ_of_lt, ≤ℚ_of_same, Passing, each, Point, value, TimesRise, IsCurve, NeverFalls, Piece}
use Rattle.nf_routes_laws.proofs.Common.{IsPositive, value-after, is_zero, is_same, then_ok, times-up_to, checked_short-end, Loaded, checked_loading}
use Rattle.nf_routes_laws.proofs.Common.{last_value, NoneBeyond, CanShare, ≤ℚ_refl, ≤ℚ_trans, same_Ok, lt_ℚ_cases, Sides, times_of, both_times, turning}
use Rattle.nf_routes_laws.proofs.Common.{short_points, checked_slopes, sides_at, end_time, EndsAtTime, follows-end, AreSides, sides_at-is, IsOne, piece_end}
use Rattle.nf_routes_laws.proofs.Common.{point_after_0, point_if_after_0, with_piece, cumulative_from, cumulative_more, cumulative_done, ExitPoints}
use Rattle.nf_routes_laws.proofs.Common.{exit_points, next_from}
use Rattle.nf_curve_def.specs.Short.{checked_short}
use Rattle.nf_load_def.specs.Cumulative.{checked_cumulative}
use Rattle.nf_load_laws.proofs.Functions.{exit_at}
use Rattle.nf_routes_def.specs.RoutesList.{next_entry}
use Rattle.nf_routes_laws.proofs.Next.{both_times-either}

-- no point is later
abbrev pub UpTo : List Point → ℚ → Type 0
UpTo points last = (t : ℚ) → IsOne t (times_of points) → t ≤ℚ last

pub upto-longer : (points : List Point) (last later : ℚ) → last ≤ℚ later → UpTo points last → UpTo points later
upto-longer points last later h up t w = ≤ℚ_trans _ _ _ (up t w) h

one_of : (front rest : List Point) (p : Point) → IsOne p.0 (times_of (front ++ p ∷ rest))
one_of [] rest p = inl refl
one_of (q ∷ front) rest p = inr (one_of front rest p)

pub upto-none : (points : List Point) (last : ℚ) → UpTo points last → NoneBeyond points last
upto-none points last up front rest p e = up p.0 (subst (λ (l : List Point). IsOne p.0 (times_of l)) (sym e) (one_of front rest p))

-- ---- a curve that ends at a time
pub ends-upto : (points : List Point) (last : ℚ) → IsCurve points → EndsAtTime last points → UpTo points last
ends-upto [] last c e t w = absurd c
ends-upto (p ∷ rest) last c e t w = subst (λ (x : ℚ). t ≤ℚ x) e (times-up_to p rest t c.1 w)

last-from : (p : Point) (rest : List Point) → TimesRise (p ∷ rest) → value (p ∷ rest) (end_time p rest) ≡ last_value (p ∷ rest)
last-from p [] r = refl
last-from p (q ∷ rest) r = value-after p q rest (end_time q rest) (times-up_to q rest q.0 r.1 (inl refl)) ∙ last-from q rest r.1

-- its last value is that at its end
pub last-at_end : (points : List Point) (last : ℚ) → IsCurve points → EndsAtTime last points → last_value points ≡ value points last
last-at_end [] last c e = absurd c
last-at_end (p ∷ rest) last c e = sym (subst (λ (t : ℚ). value (p ∷ rest) t ≡ last_value (p ∷ rest)) e (last-from p rest c.1))

-- ---- short form has no new times
turning-one : (points : List Point) (slopes : List ℚ) (t : ℚ) → IsOne t (times_of (turning points slopes)) → IsOne t (times_of points)
turning-one [] slopes t w = w
turning-one (q ∷ rest) [] t w = w
turning-one (q ∷ rest) (a ∷ []) t w = w
turning-one (q ∷ rest) (a ∷ b ∷ slopes) t w = by (is_same a b) w (λ v. turning-one rest (b ∷ slopes) t v)
  where
    by : (c : Bool) → IsOne t (times_of (if c then turning rest (b ∷ slopes) else q ∷ turning rest (b ∷ slopes)))
        → (IsOne t (times_of (turning rest (b ∷ slopes))) → IsOne t (times_of rest)) → (t ≡ q.0) ⊎ IsOne t (times_of rest)
    by true w later = inr (later w)
    by false (inl e) later = inl e
    by false (inr w) later = inr (later w)

short-one : (points : List Point) (slopes : List ℚ) (t : ℚ) → IsOne t (times_of (short_points points slopes)) → IsOne t (times_of points)
short-one [] slopes t w = w
short-one (p ∷ rest) slopes t (inl e) = inl e
short-one (p ∷ rest) slopes t (inr w) = inr (turning-one rest slopes t w)

pub short-upto : (passes : Passing) (points short : List Point) (last : ℚ) → checked_short passes points ≡ Ok short → UpTo points last → UpTo short last
unfolding checked_short
short-upto passes points short last e up t w =
    let k = then_ok (checked_slopes passes points) _ short e in
    up t (short-one points k.between t (subst (λ (l : List Point). IsOne t (times_of l)) (sym (same_Ok _ _ k.next)) w))

-- ---- cumulative amounts
point-time : (b : Bool) (time y t : ℚ) → IsOne t (times_of (point_after_0 b time y)) → t ≡ time
point-time true time y t w = absurd w
point-time false time y t (inl e) = e
point-time false time y t (inr w) = absurd w

one-either : (xs ys : List Point) (t : ℚ) → IsOne t (times_of (xs ++ ys)) → IsOne t (times_of xs) ⊎ IsOne t (times_of ys)
one-either [] ys t w = inr w
one-either (x ∷ xs) ys t (inl e) = inl (inl e)
one-either (x ∷ xs) ys t (inr w) = ⊎_elim (λ (v : IsOne t (times_of xs)). inl (inr v)) (λ (v : IsOne t (times_of ys)). inr v) (one-either xs ys t w)

module _ (passes : Passing) (last : ℚ) where
  at_last : (so_far : ℚ) (points : List Point) (t : ℚ) → point_if_after_0 last so_far ≡ points → IsOne t (times_of points) → t ≤ℚ last
  at_last so_far points t e w = ≤ℚ_of_same t last (point-time (is_zero last) last so_far t (subst (λ (l : List Point). IsOne t (times_of l)) (sym e) w))

  from-upto : (so_far : ℚ) (pieces : List Piece) (points : List Point) → cumulative_from passes so_far pieces last ≡ Ok points → UpTo points last
  from-upto so_far [] points e t w = at_last so_far points t (same_Ok _ _ e) w
  from-upto so_far (piece ∷ later) points e t w = ⊎_elim
      (λ (v : (lt_ℚ piece.start last ≡ true) × (piece.start <ℚ last)).
      let e' = cumulative_more passes so_far piece later last points v.0 e in
      let sum = then_ok (with_piece passes so_far piece (piece_end later last)) _ points e' in
      let rest = then_ok (cumulative_from passes sum.between later last) _ points sum.next in
      ⊎_elim
      (λ (x : IsOne t (times_of (point_if_after_0 piece.start so_far))). ≤ℚ_trans _ _ _
      (≤ℚ_of_same t piece.start (point-time (is_zero piece.start) piece.start so_far t x)) (≤ℚ_of_lt _ _ v.1))
      (λ (x : IsOne t (times_of rest.between)). from-upto sum.between later rest.between rest.first t x)
      (one-either (point_if_after_0 piece.start so_far) rest.between t (subst (λ (l : List Point). IsOne t (times_of l)) (sym (same_Ok _ _ rest.next)) w)))
      (λ (v : (lt_ℚ piece.start last ≡ false) × (last ≤ℚ piece.start)).
      at_last so_far points t (cumulative_done passes so_far piece later last points v.0 e) w)
      (lt_ℚ_cases piece.start last)

  pub cumulative-upto : (pieces : List Piece) (points : List Point) → 0ℚ ≤ℚ last → checked_cumulative passes pieces last ≡ Ok points → UpTo points last
  unfolding checked_cumulative
  cumulative-upto pieces points h e t w =
      let rest = then_ok (cumulative_from passes 0ℚ pieces last) _ points e in
      first rest.between (λ v. from-upto 0ℚ pieces rest.between rest.first t v) (subst (λ (l : List Point). IsOne t (times_of l)) (sym (same_Ok _ _ rest.next)) w)
    where
      first : (rest : List Point) → (IsOne t (times_of rest) → t ≤ℚ last) → (t ≡ 0ℚ) ⊎ IsOne t (times_of rest) → t ≤ℚ last
      first rest later (inl e) = ≤ℚ_trans _ _ _ (≤ℚ_of_same t 0ℚ e) h
      first rest later (inr w) = later w

-- ---- the exit of a link that is loaded
pub loading-ends : (passes : Passing) (transit : ℚ) (capacity : Option ℚ) (inflow : List Point) (last : ℚ) (loaded : Loaded) → IsCurve inflow
    → NeverFalls (value inflow) → 0ℚ ≤ℚ transit → IsPositive capacity → 0ℚ ≤ℚ last
    → checked_loading passes transit capacity inflow last ≡ Ok loaded → EndsAtTime last loaded.exit
loading-ends passes transit capacity inflow last loaded c rises waits_0 positive from_0 e =
    let x : ExitPoints passes transit capacity inflow last loaded c rises waits_0 positive from_0 =
    exit_points passes transit capacity inflow last loaded c rises waits_0 positive from_0 e in
    checked_short-end passes (x.first ∷ x.rest) loaded.exit last (follows-end (exit_at transit capacity inflow c) last x.first x.rest x.follows) x.short

-- ---- the next entry
-- no value on the right is greater
abbrev AllRight : List Sides → ℚ → Type 0
AllRight [] y = Unit {0}
AllRight (sides ∷ rest) y = (sides.right ≤ℚ y) × AllRight rest y

next_from-upto : (last y : ℚ) (sides : List Sides) → AllRight sides y → UpTo (next_from last sides) y
next_from-upto last y [] a t w = absurd w
next_from-upto last y (s ∷ rest) a t w = by (is_same last s.right) w (λ x v. next_from-upto x y rest a.1 t v)
  where
    by : (b : Bool) → IsOne t (times_of (elim b [
      | true ↦ next_from last rest
      | false ↦ (s.right, s.left) ∷ next_from s.right rest
    ])) → ((x : ℚ) → IsOne t (times_of (next_from x rest)) → t ≤ℚ y) → t ≤ℚ y
    by true w later = later last w
    by false (inl e) later = ≤ℚ_trans _ _ _ (≤ℚ_of_same t s.right e) a.0
    by false (inr w) later = later s.right w

times-from : (p : Point) (rest : List Point) (t : ℚ) → TimesRise (p ∷ rest) → IsOne t (times_of (p ∷ rest)) → p.0 ≤ℚ t
times-from p [] t r (inl e) = ≤ℚ_of_same p.0 t (sym e)
times-from p [] t r (inr w) = absurd w
times-from p (q ∷ rest) t r (inl e) = ≤ℚ_of_same p.0 t (sym e)
times-from p (q ∷ rest) t r (inr w) = ≤ℚ_trans _ _ _ (≤ℚ_of_lt _ _ r.0) (times-from q rest t r.1 w)

curve-from : (points : List Point) (t : ℚ) → IsCurve points → IsOne t (times_of points) → 0ℚ ≤ℚ t
curve-from [] t c w = absurd c
curve-from (p ∷ rest) t c w = subst (λ (x : ℚ). x ≤ℚ t) c.0 (times-from p rest t c.1 w)

module _ (passes : Passing) (exit entry : List Point) (last : ℚ) (can : CanShare exit entry last) (entry_up : UpTo entry last) (exit_up : UpTo exit last) where
  both-from : (t : ℚ) → IsOne t (both_times entry exit) → 0ℚ ≤ℚ t
  both-from t w = ⊎_elim
      (λ (h : IsOne t (times_of entry)). curve-from entry t can.entry_curve h)
      (λ (h : IsOne t (times_of exit)). curve-from exit t can.exit_curve h)
      (both_times-either entry exit t w)

  both-up : (t : ℚ) → IsOne t (both_times entry exit) → t ≤ℚ last
  both-up t w = ⊎_elim (λ (h : IsOne t (times_of entry)). entry_up t h) (λ (h : IsOne t (times_of exit)). exit_up t h) (both_times-either entry exit t w)

  sides-right : (times : List ℚ) (sides : List Sides) → ((t : ℚ) → IsOne t times → (0ℚ ≤ℚ t) × (t ≤ℚ last))
      → each (sides_at passes entry exit) times ≡ Ok sides → AllRight sides (value exit last)
  sides-right [] sides all e = subst (λ (l : List Sides). AllRight l (value exit last)) (same_Ok _ _ e) tt
  sides-right (t ∷ times) sides all e =
      let s = then_ok (sides_at passes entry exit t) _ sides e in
      let r = then_ok (each (sides_at passes entry exit) times) _ sides s.next in
      let is : AreSides entry exit can.entry_curve can.exit_curve t s.between = sides_at-is entry exit can.entry_curve can.exit_curve passes t s.between (all t (inl refl)).0 s.first in
      subst (λ (l : List Sides). AllRight l (value exit last)) (same_Ok _ _ r.next) (
        subst (λ (x : ℚ). x ≤ℚ value exit last) (sym is.right_is) (can.exits_rise t last (all t (inl refl)).0 (all t (inl refl)).1 (≤ℚ_refl last)),
        sides-right times r.between (λ u w. all u (inr w)) r.first,
      )

  -- no point of it is later than the last exit
  pub next-upto : (next : List Point) → next_entry passes exit entry ≡ Ok next → UpTo next (value exit last)
  unfolding next_entry
  next-upto next e =
      let s = then_ok (each (sides_at passes entry exit) (both_times entry exit)) _ next e in
      let all : AllRight s.between (value exit last) = sides-right (both_times entry exit) s.between (λ t w. (both-from t w, both-up t w)) s.first in
      short-upto passes _ next (value exit last) s.next (λ t w. first s.between (next_from-upto 0ℚ (value exit last) s.between all) t w)
    where
      first : (sides : List Sides) → UpTo (next_from 0ℚ sides) (value exit last) → (t : ℚ) → (t ≡ 0ℚ) ⊎ IsOne t (times_of (next_from 0ℚ sides)) → t ≤ℚ value exit last
      first sides up t (inl e) = ≤ℚ_trans _ _ _ (≤ℚ_of_same t 0ℚ e) (≤ℚ_trans _ _ _ can.first_exit (can.exits_rise 0ℚ last (≤ℚ_refl 0ℚ) can.from_0 (≤ℚ_refl last)))
      first sides up t (inr w) = up t w
