-- Stored exits of links, by departure.
use Rattle.std.specs.Prelude.{◌≡◌, ◌⊎◌, ℕ, List, length, set, Option, Some, slice_get, Ok, IfSome}
use Rattle.nf_frac_def.specs.Passing.{passes_Q}
use Rattle.nf_frac_def.specs.Checked.{Checked}
use Rattle.nf_model.specs.Curve.{Point}
use Rattle.nf_model.specs.Network.{Link, IsLink}
use Rattle.nf_model.specs.Equilibrium.{points_at}
use Rattle.nf_curve_def.specs.Short.{checked_short}
use Rattle.nf_check_def.specs.Curves.{loaded_at}
use Rattle.nf_curve.specs.Points.{Grown}
use Rattle.nf_check_rules.specs.declared.exits.Exits.{Exits}
use Rattle.nf_check_rules.specs.declared.worked.Worked.{Worked}
use Rattle.nf_check_rules.specs.Sent.{short_exits}
use Rattle.nf_check_rules.specs.Views.{network_in, labels_in, loaded_in}

-- the exits of a link by departure, up to the departure reached
abbrev pub exits_by_departure : Worked → ℕ → Link → Checked (List Point)
exits_by_departure worked e link =
    short_exits passes_Q (loaded_at (loaded_in worked) e).exit (points_at (labels_in worked) link.tail) worked.flow.now.reached

-- each stored curve is the short form of the link's exits by departure, computed without an operation that passes
pub record AreStored (worked : Worked) (exits : Exits) : Type 0 where
  pub count : length exits.kept.items ≡ length (network_in worked).links
  pub kept : (e : ℕ) (link : Link) (curve : Grown) → IsLink (network_in worked) e link → slice_get exits.kept.items e ≡ Some (Some curve)
      → exits_by_departure worked e link ≡ Ok curve.points

-- if there is a stored curve, it is the short form of the link's exits by departure
pub record IsKept (worked : Worked) (e : ℕ) (kept : Option Grown) : Type 0 where
  pub known : (link : Link) → IsLink (network_in worked) e link → IfSome kept (λ exits. exits_by_departure worked e link ≡ Ok exits.points)

-- the exits of a link are stored in short form, or nothing changes
abbrev pub KeepsExits : ℕ → List Point → Exits → Exits → Type 0
KeepsExits e points old new = (new.kept.items ≡ old.kept.items)
    ⊎ ((curve : Grown) × (new.kept.items ≡ set old.kept.items e (Some curve)) × (checked_short passes_Q points ≡ Ok curve.points))
