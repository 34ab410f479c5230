-- Exits that are kept in short form.
use Rattle.std.proofs.Common.{◌≡◌, ℕ, zero, suc, List, length, set, replicate, ◌⊎◌, inl, inr, Option, Some, None, slice_get, sym, ap, subst, ◌∙◌, Ok}
use Rattle.std.proofs.Common.{IfSome}
use Rattle.nf_check_rules.proofs.Common.{length-set, length-replicate, ℚ, Passing, passes_Q, Halt, Checked, Stops, at_part, ◌>>=◌, Check, Point, Link}
use Rattle.nf_check_rules.proofs.Common.{Network, IsLink, Flow, points_at, points_of, Sides, checked_composed, checked_short, loaded_at, detour_list, route}
use Rattle.nf_check_rules.proofs.Common.{C8, in_part, unless, Grown, was_ok, set_cases, Exits, AreStored, KeepsExits, exits_by_departure, short_exits}
use Rattle.nf_check_rules.proofs.Common.{network_in, labels_in, loaded_in, of_halt, EndsAs}
use Rattle.nf_frac_def.proofs.Binding.{bind_ok}
use Rattle.nf_load_def.specs.Loading.{Loaded}
use Rattle.nf_check_def.specs.declared.Subject.TheVariants.{Link as OfLink}
use Rattle.nf_check_rules.specs.declared.worked.Worked.{Worked}
use Rattle.nf_check_rules.specs.Sent.{sent_list, known_list}
use Rattle.nf_check_rules.proofs.Trying.{ends, part_ends, part_goes}

-- ---- entries of a list of which one was set
pub same_some : {A : Type 0} (x y : A) → Some x ≡ Some y → x ≡ y
same_some x y e = cc

-- ---- exits that are kept
pub none_kept : (worked : Worked) (exits : Exits) → exits.kept.items ≡ replicate (length (network_in worked).links) None → AreStored worked exits
none_kept worked exits is = record {
  count = ap (λ (l : List (Option Grown)). length l) is ∙ length-replicate (length (network_in worked).links) None;
  kept = λ e link curve there at. absurd (nothing (length (network_in worked).links) e curve (sym (ap (λ (l : List (Option Grown)). slice_get l e) is) ∙ at));
}
  where
    nothing : (n e : ℕ) (curve : Grown) → slice_get (replicate n None) e ≡ Some (Some curve) → ⊥
    nothing zero e curve at = cc
    nothing (suc n) zero curve at = cc
    nothing (suc n) (suc e) curve at = nothing n e curve at

module _ (worked : Worked) (old new : Exits) (before : AreStored worked old) (e : ℕ) where
  module _ (link : Link) (there : IsLink (network_in worked) e link) where
    pub keep_kept : (points : List Point) → at_part Check (checked_composed passes_Q (loaded_at (loaded_in worked) e).exit
        (points_at (labels_in worked) link.tail) worked.flow.now.reached) ≡ Ok points → KeepsExits e points old new
        → AreStored worked new
    keep_kept points came (inl same) = record {
      count = ap (λ (l : List (Option Grown)). length l) same ∙ before.count;
      kept = λ f other curve is at. before.kept f other curve is (sym (ap (λ (l : List (Option Grown)). slice_get l f) same) ∙ at);
    }
    keep_kept points came (inr w) = record {
      count = ap (λ (l : List (Option Grown)). length l) w.1 ∙ length-set old.kept.items e (Some w.0) ∙ before.count;
      kept = λ f other curve is at. by_place f other curve is (set_cases old.kept.items e f (Some w.0) (Some curve) (sym (ap (λ (l : List (Option Grown)). slice_get l f) w.1) ∙ at));
    }
      where
        here : exits_by_departure worked e link ≡ Ok w.0.points
        here = ap (λ (r : Checked (List Point)). r >>= λ exits. checked_short passes_Q exits)
            (was_ok Check (checked_composed passes_Q (loaded_at (loaded_in worked) e).exit (points_at (labels_in worked) link.tail) worked.flow.now.reached)
            points came) ∙ w.2

        by_place : (f : ℕ) (other : Link) (curve : Grown) → IsLink (network_in worked) f other
            → ((f ≡ e) × (Some curve ≡ Some w.0)) ⊎ (slice_get old.kept.items f ≡ Some (Some curve)) → exits_by_departure worked f other ≡ Ok curve.points
        by_place f other curve is (inl d) =
            let one : link ≡ other = same_some link other (sym there ∙ ap (λ (k : ℕ). slice_get (network_in worked).links k) (sym d.0) ∙ is) in
            ap (λ (k : ℕ). exits_by_departure worked k other) d.0 ∙ ap (λ (l : Link). exits_by_departure worked e l) (sym one) ∙ here ∙ ap (λ (c : Grown). Ok c.points) (sym (same_some curve w.0 d.1))
        by_place f other curve is (inr d) = before.kept f other curve is d

    -- those of a link, if they are kept
    pub known_kept : (kept : Option Grown) → slice_get old.kept.items e ≡ Some kept → IfSome kept (λ exits. exits_by_departure worked e link ≡ Ok exits.points)
    known_kept None at = tt
    known_kept (Some curve) at = before.kept e link curve there at

  pub take_kept : new.kept.items ≡ set old.kept.items e None → AreStored worked new
  take_kept gone = record {
    count = ap (λ (l : List (Option Grown)). length l) gone ∙ length-set old.kept.items e None ∙ before.count;
    kept = λ f other curve is at. by_place f other curve is (set_cases old.kept.items e f None (Some curve) (sym (ap (λ (l : List (Option Grown)). slice_get l f) gone) ∙ at));
  }
    where
      by_place : (f : ℕ) (other : Link) (curve : Grown) → IsLink (network_in worked) f other
          → ((f ≡ e) × (Some curve ≡ None)) ⊎ (slice_get old.kept.items f ≡ Some (Some curve)) → exits_by_departure worked f other ≡ Ok curve.points
      by_place f other curve is (inl d) = let no = d.1 in absurd (cc)
      by_place f other curve is (inr d) = before.kept f other curve is d

pub kept_as : (last : ℚ) (kept : Option Grown) (exit label exit_by label_by : List Point) → exit ≡ exit_by → label ≡ label_by
    → IfSome kept (λ exits. short_exits passes_Q exit_by label_by last ≡ Ok exits.points) → IfSome kept (λ exits. short_exits passes_Q exit label last ≡ Ok exits.points)
kept_as last None exit label exit_by label_by f g known = tt
kept_as last (Some curve) exit label exit_by label_by f g known =
    ap (λ (l : List Point). short_exits passes_Q l label last) f ∙ ap (λ (l : List Point). short_exits passes_Q exit_by l last) g ∙ known

-- ---- the three curves of a link, where its exits are known
abbrev pub Three : Type 0
Three = List Point × List Point × List Point

module _ (passes : Passing) (inflow exit exits tail_label head_label : List Point) (last : ℚ) where
  abbrev by_composed : Checked (List Point) → Checked Three
  by_composed r =
      checked_composed passes inflow tail_label last >>= λ t. r >>= λ x. checked_short passes t >>= λ st. checked_short passes x >>= λ sx. checked_short
      passes head_label >>= λ sl. Ok (st, sx, sl)

  abbrev by_short : Checked (List Point) → Checked Three
  by_short r = checked_composed passes inflow tail_label last >>= λ t. checked_short passes t >>= λ st. r >>= λ sx. checked_short passes head_label >>= λ sl. Ok (st, sx, sl)

  pub sent_known : short_exits passes exit tail_label last ≡ Ok exits → known_list passes inflow exits tail_label head_label last
      ≡ sent_list passes inflow exit tail_label head_label last
  unfolding known_list sent_list
  sent_known e =
      let w = bind_ok (checked_composed passes exit tail_label last) (λ x. checked_short passes x) exits e in
      sym (ap by_composed w.1 ∙ ap by_short w.2)

-- ---- a link whose list stops, or goes through
module _ (passes : Passing) (net : Network) (flow : Flow) (labels : List (List Point)) (loaded : List Loaded) (e : ℕ) (here : Link) (inflow exit tail_label head_label : List Point)
    (f : inflow ≡ points_at (points_of flow.inflows) e) (g : exit ≡ (loaded_at loaded e).exit) (k : tail_label ≡ points_at labels here.tail)
    (l : head_label ≡ points_at labels here.head) where
  abbrev detours : Checked (Option Sides)
  detours = detour_list passes (points_at (points_of flow.inflows) e) (loaded_at loaded e).exit (points_at labels here.tail) (points_at labels here.head) flow.reached

  same_detours : detour_list passes inflow exit tail_label head_label flow.reached ≡ detours
  same_detours =
      ap (λ (x : List Point). detour_list passes x exit tail_label head_label flow.reached) f
      ∙ ap (λ (x : List Point). detour_list passes (points_at (points_of flow.inflows) e) x tail_label head_label flow.reached) g
      ∙ ap (λ (x : List Point). detour_list passes (points_at (points_of flow.inflows) e) (loaded_at loaded e).exit x head_label flow.reached) k
      ∙ ap (λ (x : List Point). detour_list passes (points_at (points_of flow.inflows) e) (loaded_at loaded e).exit (points_at labels here.tail) x flow.reached) l

  pub route_ends : (h : Halt ℚ) → Stops (λ (q : ℚ). q) h (at_part Check (detour_list passes inflow exit tail_label head_label flow.reached))
      → EndsAs (of_halt h) (route passes net flow labels loaded (e, here))
  route_ends h s =
      ends (of_halt h) (in_part Check detours) _ (part_ends Check h detours
      (subst (λ (r : Checked (Option Sides)). Stops (λ (q : ℚ). q) h (at_part Check r)) same_detours s))

  pub route_goes : (detour : Option Sides) → at_part Check (detour_list passes inflow exit tail_label head_label flow.reached) ≡ Ok detour
      → route passes net flow labels loaded (e, here) ≡ unless C8 (OfLink e) detour
  route_goes detour s = part_goes Check detours _ detour (sym (ap (at_part Check) same_detours) ∙ s)
