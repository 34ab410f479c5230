-- The slopes of the outflow, point by point, and of the outflow that is cut.
use Rattle.std.proofs.Common.{◌≡◌, ◌+◌, ◌-◌, ℕ, suc, Bool, true, false, List, [], ◌∷◌, ◌++◌, length, take, refl, sym, ap, subst, ◌∙◌, arith, Option, Some}
use Rattle.std.proofs.Common.{None, option_map, if◌then◌else◌, slice_get, Ok}
use Rattle.nf_load.proofs.Common.{length_push, ℚ, lt_ℚ, same_Ok, passes_Q, Point, checked_value, points_before, then_ok, IsRate, flat, AreKnownSlopes}
use Rattle.nf_load.proofs.Common.{IsLeavingIf, AreLeaving, outflow_slope_of, Leaving}
use Rattle.nf_curve_def.specs.Values.{checked_cut}
use Rattle.nf_load_def.specs.Loading as lists
use Rattle.nf_load.proofs.Alongs.{Linked, Begins, one_more, along_flat, along_begins}

-- ---- the points of the outflow so far: the slope from the last of them to that of the next moment may be known
pub record SoFar (all : List lists.Exit) (points : List Point) (slopes : List (Option ℚ)) (last : ℚ) (known : Option ℚ) (i : ℕ) : Type 0 where
  pub amount : ℚ
  pub linked : Linked IsRate points slopes (last, amount)
  pub next : (y : lists.Exit) → slice_get all i ≡ Some y → (last ≡ y.exit → ⊥) → IsRate known (last, amount) (y.exit, y.waits.amount)

pub begins : (all : List lists.Exit) (points : List Point) (slopes : List (Option ℚ)) (last amount : ℚ) (known : Option ℚ) → points ≡ (last, amount) ∷ []
    → slopes ≡ [] → known ≡ None → SoFar all points slopes last known 0
begins all points slopes last amount known e f g = record {
  amount = amount;
  linked = subst (λ (l : List Point). Linked IsRate l slopes (last, amount)) (sym e) (subst (λ (l : List (Option ℚ)). Linked IsRate ((last, amount) ∷ []) l (last, amount)) (sym f) refl);
  next = λ y at apart. subst (λ (k : Option ℚ). IsRate k (last, amount) (y.exit, y.waits.amount)) (sym g) tt;
}

-- an exit that is the one before
pub stays : (all : List lists.Exit) (points new : List Point) (slopes more : List (Option ℚ)) (last next : ℚ) (known after : Option ℚ) (i j : ℕ) → SoFar all points slopes last known i
    → new ≡ points → more ≡ slopes → next ≡ last → after ≡ None → SoFar all new more next after j
stays all points new slopes more last next known after i j h e f g k = record {
  amount = h.amount;
  linked = subst (λ (t : ℚ). Linked IsRate new more (t, h.amount)) (sym g)
      (subst (λ (l : List Point). Linked IsRate l more (last, h.amount)) (sym e) (subst (λ (l : List (Option ℚ)). Linked IsRate points l (last, h.amount)) (sym f) h.linked));
  next = λ y at apart. subst (λ (o : Option ℚ). IsRate o (next, h.amount) (y.exit, y.waits.amount)) (sym k) tt;
}

-- a later exit
pub leaves : (all : List lists.Exit) (leaving : List (Option Leaving)) (points new : List Point) (slopes more : List (Option ℚ)) (last : ℚ)
    (known : Option ℚ) (i j : ℕ) (one : lists.Exit) (next : ℚ) (after : Option ℚ)
    → AreLeaving all leaving → SoFar all points slopes last known i → slice_get all i ≡ Some one → (last ≡ one.exit → ⊥) → j ≡ suc i
    → new ≡ points ++ (one.exit, one.waits.amount) ∷ [] → more ≡ slopes ++ known ∷ [] → next ≡ one.exit → after ≡ option_map outflow_slope_of (flat (slice_get leaving i))
    → SoFar all new more next after j
leaves all leaving points new slopes more last known i j one next after are h at apart n e f g k = record {
  amount = one.waits.amount;
  linked = subst (λ (t : ℚ). Linked IsRate new more (t, one.waits.amount)) (sym g)
      (subst (λ (l : List Point). Linked IsRate l more (one.exit, one.waits.amount)) (sym e)
      (subst (λ (l : List (Option ℚ)). Linked IsRate (points ++ (one.exit, one.waits.amount) ∷ []) l (one.exit, one.waits.amount)) (sym f)
      (one_more IsRate points slopes (last, h.amount) (one.exit, one.waits.amount) known h.linked (h.next one at apart))));
  next = λ y there differ. subst (λ (t : ℚ). IsRate after (t, one.waits.amount) (y.exit, y.waits.amount)) (sym g)
      (subst (λ (o : Option ℚ). IsRate o (one.exit, one.waits.amount) (y.exit, y.waits.amount)) (sym k)
      (by_leaving (flat (slice_get leaving i)) one y (along_flat IsLeavingIf all leaving i j one y tt are at n there) (λ same. differ (g ∙ same))));
}
  where
    by_leaving : (slopes : Option Leaving) (x y : lists.Exit) → IsLeavingIf slopes x y → (x.exit ≡ y.exit → ⊥)
        → IsRate (option_map outflow_slope_of slopes) (x.exit, x.waits.amount) (y.exit, y.waits.amount)
    by_leaving None x y h apart = tt
    by_leaving (Some slopes) x y h apart = h.outflow apart

-- ---- the slopes of a curve that is cut
begins_before : (end : ℚ) (points : List Point) → Begins (points_before end points) points
begins_before end [] = tt
begins_before end (p ∷ rest) = by_test (lt_ℚ p.0 end) (begins_before end rest)
  where
    by_test : (b : Bool) → Begins (points_before end rest) rest → Begins (if b then p ∷ points_before end rest else []) (p ∷ rest)
    by_test true h = (refl, h)
    by_test false h = tt

pub cut_slopes : (points : List Point) (slopes kept : List (Option ℚ)) (end : ℚ) (cut : List Point) (n : ℕ) → checked_cut passes_Q points end ≡ Ok cut
    → AreKnownSlopes points slopes → n ≡ length cut - 2 → kept ≡ take n slopes → AreKnownSlopes cut kept
unfolding checked_cut
cut_slopes points slopes kept end cut n e h count is =
    let y = then_ok (checked_value passes_Q points end) _ cut e in
    let are : points_before end points ++ (end, y.between) ∷ [] ≡ cut = same_Ok _ _ y.next in
    subst (λ (l : List (Option ℚ)). AreKnownSlopes cut l) (sym is)
    (subst (λ (l : List Point). AreKnownSlopes l (take n slopes)) are
    (go (points_before end points) (end, y.between) (begins_before end points) (count ∙ ap (λ (l : List Point). length l - 2) (sym are))))
  where
    go : (before : List Point) (z : Point) → Begins before points → n ≡ length (before ++ z ∷ []) - 2 → AreKnownSlopes (before ++ z ∷ []) (take n slopes)
    go [] z b m = tt
    go (x ∷ before) z b m = along_begins IsRate (x ∷ before) points slopes z n b
        (let all : length ((x ∷ before) ++ z ∷ []) ≡ length (x ∷ before) + 1 = length_push (x ∷ before) z in omega (arith, m, all)) h
