-- The travel along a route: the composition of its links' exits at each departure up to the horizon.
use Rattle.std.proofs.Common.{◌≡◌, ◌≢◌, ℕ, List, [], ◌∷◌, ⊎_elim, Bool, true, false, Option, refl, sym, ap, subst, ◌∙◌, Ok, if◌then◌else◌}
use Rattle.nf_routes_laws.proofs.Common.{ℚ, 0ℚ, 1ℚ, ◌+ℚ◌, ◌-ℚ◌, ◌*ℚ◌, ◌≤ℚ◌, ◌<ℚ◌, reading_of, eq, linear_eq, ≤ℚ_antisymm, lt_or_le_ℚ, Passing, Point}
use Rattle.nf_routes_laws.proofs.Common.{Within, value, slope, IsCurve, IsShort, value-line, slope-times, is_zero, IsComposedOf, IsShortOf, then_ok}
use Rattle.nf_routes_laws.proofs.Common.{is_same_cases, checked_short-is, departures, LoadedLink, Routed, exit_of, travel_on, link_loaded, exit_by}
use Rattle.nf_routes_laws.proofs.Common.{exits_along, ≤ℚ_refl, same_from_times}
use Rattle.nf_curve_def.specs.Composed.{checked_composed}
use Rattle.nf_curve_laws.proofs.Composed.{checked_composed-is}

-- ---- the departures themselves
strictly : (x : ℚ) → 0ℚ ≤ℚ x → x ≢ 0ℚ → 0ℚ <ℚ x
strictly x h n = ⊎_elim (λ (l : 0ℚ <ℚ x). l) (λ (l : x ≤ℚ 0ℚ). absurd (n (≤ℚ_antisymm x 0ℚ l h))) (lt_or_le_ℚ 0ℚ x)

slope_one : (n x : ℚ) → 0ℚ <ℚ x → n *ℚ (x -ℚ 0ℚ) ≡ x -ℚ 0ℚ → x *ℚ n ≡ x *ℚ 1ℚ
slope_one n x h e = linear_eq (n ∷ x ∷ []) (eq e ∷ []) (search reading_of) tt tt

on_diagonal : (n t : ℚ) → n ≡ 1ℚ → 0ℚ +ℚ n *ℚ (t -ℚ 0ℚ) ≡ t
on_diagonal n t e = ap (λ (m : ℚ). 0ℚ +ℚ m *ℚ (t -ℚ 0ℚ)) e ∙ plain t
  where
    plain : (t : ℚ) → 0ℚ +ℚ 1ℚ *ℚ (t -ℚ 0ℚ) ≡ t
    plain t = linear_eq (t ∷ []) [] (search reading_of) tt tt

pub record AreDepartures (last : ℚ) (points : List Point) : Type 0 where
  pub curve : IsCurve points
  pub values : (t : ℚ) → Within 0ℚ last t → value points t ≡ t

pub departures-are : (last : ℚ) → 0ℚ ≤ℚ last → AreDepartures last (departures last)
departures-are last h = ⊎_elim
    (λ (w : (is_zero last ≡ true) × (last ≡ 0ℚ)). subst (λ (b : Bool). AreDepartures last (if b then (0ℚ, 0ℚ) ∷ [] else (0ℚ, 0ℚ) ∷ (last, last) ∷ [])) (sym w.0)
    (record { curve = (refl, tt); values = λ t k. ≤ℚ_antisymm 0ℚ t k.0 (subst (λ (x : ℚ). t ≤ℚ x) w.1 k.1) }))
    (λ (w : (is_zero last ≡ false) × (last ≢ 0ℚ)). subst (λ (b : Bool). AreDepartures last (if b then (0ℚ, 0ℚ) ∷ [] else (0ℚ, 0ℚ) ∷ (last, last) ∷ [])) (sym w.0)
    (let less : 0ℚ <ℚ last = strictly last h w.1 in
    record {
      curve = (refl, (less, tt));
      values = λ t k. value-line (0ℚ, 0ℚ) (last, last) [] t (less, tt) k.1
          ∙ on_diagonal (slope (0ℚ, 0ℚ) (last, last)) t (same_from_times last _ 1ℚ less (slope_one (slope (0ℚ, 0ℚ) (last, last)) last less (slope-times (0ℚ, 0ℚ) (last, last) less)));
    }))
    (is_same_cases last 0ℚ)

-- ---- along the links from a position of a route on: a time within the end of a link has its exit within the end of the next link
module _ (passes : Passing) (horizon : ℚ) (links : List (Option LoadedLink)) (routed : Routed) (from_0 : 0ℚ ≤ℚ horizon)
    (exit_is : (e : ℕ) → exit_of passes links e ≡ (link_loaded routed e).exit) where
  -- the conditions on the remaining links, from these times on
  abbrev pub Passable : List ℕ → ℚ → Type 0
  Passable [] t = Unit {0}
  Passable (e ∷ rest) t = IsCurve (link_loaded routed e).exit × (0ℚ ≤ℚ exit_by routed e t) × Passable rest (exit_by routed e t)

  pub record IsTravel (rest : List ℕ) (travel result : List Point) : Type 0 where
    pub curve : IsCurve result
    pub form : IsShort result
    pub values : (t : ℚ) → Within 0ℚ horizon t → value result t ≡ exits_along routed rest (value travel t)

  pub travel-is : (rest : List ℕ) (travel result : List Point) → IsCurve travel → ((t : ℚ) → Within 0ℚ horizon t → 0ℚ ≤ℚ value travel t)
      → ((t : ℚ) → Within 0ℚ horizon t → Passable rest (value travel t))
      → travel_on passes horizon links rest travel ≡ Ok result → IsTravel rest travel result
  travel-is [] travel result c nn pass h =
      let s : IsShortOf travel result = checked_short-is passes travel result c h in
      record { curve = s.curve; form = s.form; values = λ t w. s.values t w.0 }
  travel-is (e ∷ rest) travel result c nn pass h =
      let next = then_ok (checked_composed passes (exit_of passes links e) travel horizon) _ result h in
      let composed : IsComposedOf (link_loaded routed e).exit travel horizon next.between =
      checked_composed-is passes (link_loaded routed e).exit travel horizon next.between (pass 0ℚ (≤ℚ_refl 0ℚ, from_0)).0 c from_0 nn
      (ap (λ (l : List Point). checked_composed passes l travel horizon) (sym (exit_is e)) ∙ next.first) in
      let later : IsTravel rest next.between result = travel-is rest next.between result composed.curve
      (λ t w. subst (λ (x : ℚ). 0ℚ ≤ℚ x) (sym (composed.values t w)) (pass t w).1)
      (λ t w. subst (λ (x : ℚ). Passable rest x) (sym (composed.values t w)) (pass t w).2) next.next in
      record { curve = later.curve; form = later.form; values = λ t w. later.values t w ∙ ap (exits_along routed rest) (composed.values t w) }
