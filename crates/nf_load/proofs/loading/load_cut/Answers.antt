use Rattle.std.proofs.Common.{◌≡◌, List, Option, Ok, sym, ap, subst, ◌∙◌}
use Rattle.nf_load.proofs.Common.{ℚ, err_from_is_err_and, Load, passes_Q, Gives, at_part, each, Exit, Waits, exit_of, all_waits, stops_on, was_ok}
use Rattle.nf_load.proofs.Common.{AreLoadCurves, behind_cut, moments_of, until_transit, loaded_of, ArePaces, Loaded}
use Rattle.nf_load_def.specs.Loading as lists
use Rattle.nf_load.proofs.Leaves.{moments_are}
use Rattle.nf_load.proofs.LoadingSteps.{waits_stop, exits_stop, exits_go, are_curves}
use Rattle.nf_load.proofs.loading.load_cut.Goals as goal

pub returns-in_err-waits : goal.returns-in_err-waits
returns-in_err-waits c =
    let p = err_from_is_err_and c.from_residual.result c.from_residual.ensures.1 in
    rw (p.1, p.2) (stops_on c.in_err-waits.field-0.0 (at_part Load (all_waits passes_Q c.args.capacity c.args.cut.now.points))
    (at_part Load (behind_cut passes_Q c.args.transit c.args.capacity c.args.cut.now.points c.args.until))
    (waits_stop passes_Q Load c.args.transit c.args.capacity c.args.cut.now.points c.args.until) c.in_err-waits.ensures.list)

pub returns-in_err-exits : goal.returns-in_err-exits
returns-in_err-exits c =
    let p = err_from_is_err_and c.from_residual-in_err-exits.result c.from_residual-in_err-exits.ensures.1 in
    rw (p.1, p.2) (stops_on c.in_err-exits.field-0.0 (at_part Load (each (exit_of passes_Q c.args.capacity c.args.transit) c.in_ok-waits.field-0.waits.items))
    (at_part Load (behind_cut passes_Q c.args.transit c.args.capacity c.args.cut.now.points c.args.until))
    (exits_stop passes_Q Load c.args.transit c.args.capacity c.args.cut.now.points c.args.until c.in_ok-waits.field-0.waits.items
    c.in_ok-waits.ensures.list) (rw c.deref.ensures.value at c.in_err-exits.ensures))

module _ (capacity : Option ℚ) (transit : ℚ) (read waits : List Waits) (exits : List Exit) (read_is : read ≡ waits)
    (e : at_part Load (each (exit_of passes_Q capacity transit) read) ≡ Ok exits) where
  -- the exits of the moments that were read
  all_are : at_part Load (each (exit_of passes_Q capacity transit) waits) ≡ Ok exits
  all_are = ap (λ (l : List Waits). at_part Load (each (exit_of passes_Q capacity transit) l)) (sym read_is) ∙ e

  each_are : each (exit_of passes_Q capacity transit) waits ≡ Ok exits
  each_are = was_ok Load (each (exit_of passes_Q capacity transit) waits) exits all_are

  -- the moments of these exits
  same_moments : moments_of exits ≡ waits
  same_moments = moments_are capacity transit waits exits each_are

pub curves_until-requires-clause-curves : goal.curves_until-requires-clause-curves
curves_until-requires-clause-curves c =
    let same = same_moments c.args.capacity c.args.transit c.deref.result.now c.in_ok-waits.field-0.waits.items c.in_ok-exits.exits.items c.deref.ensures.value c.in_ok-exits.ensures in
    let all = all_are c.args.capacity c.args.transit c.deref.result.now c.in_ok-waits.field-0.waits.items c.in_ok-exits.exits.items c.deref.ensures.value c.in_ok-exits.ensures in
    rw c.deref-3.ensures.value (subst (λ (l : List Waits). AreLoadCurves l c.in_ok-exits.exits.items) (sym same)
    (are_curves passes_Q Load c.args.transit c.args.capacity c.args.cut.now.points c.args.until c.in_ok-waits.field-0.waits.items c.in_ok-waits.ensures.list
    c.in_ok-exits.exits.items all c.requires.curves))

pub curves_until-requires-clause-paces : goal.curves_until-requires-clause-paces
curves_until-requires-clause-paces c =
    let same = same_moments c.args.capacity c.args.transit c.deref.result.now c.in_ok-waits.field-0.waits.items c.in_ok-exits.exits.items c.deref.ensures.value c.in_ok-exits.ensures in
    rw (c.deref-2.ensures.value, c.deref-3.ensures.value)
    (subst (λ (l : List Waits). ArePaces c.args.capacity l c.in_ok-waits.field-0.paces.items) (sym same) c.in_ok-waits.ensures.paces)

pub curves_until-requires-clause-exits : goal.curves_until-requires-clause-exits
curves_until-requires-clause-exits c =
    let same = same_moments c.args.capacity c.args.transit c.deref.result.now c.in_ok-waits.field-0.waits.items c.in_ok-exits.exits.items c.deref.ensures.value c.in_ok-exits.ensures in
    rw c.deref-3.ensures.value (subst (λ (l : List Waits). each (exit_of passes_Q c.args.capacity c.args.transit) l ≡ Ok c.in_ok-exits.exits.items) (sym same)
    (each_are c.args.capacity c.args.transit c.deref.result.now c.in_ok-waits.field-0.waits.items c.in_ok-exits.exits.items c.deref.ensures.value c.in_ok-exits.ensures))

pub returns : goal.returns
returns c =
    let same = same_moments c.args.capacity c.args.transit c.deref.result.now c.in_ok-waits.field-0.waits.items c.in_ok-exits.exits.items c.deref.ensures.value c.in_ok-exits.ensures in
    let all = all_are c.args.capacity c.args.transit c.deref.result.now c.in_ok-waits.field-0.waits.items c.in_ok-exits.exits.items c.deref.ensures.value c.in_ok-exits.ensures in
    rw (exits_go passes_Q Load c.args.transit c.args.capacity c.args.cut.now.points c.args.until c.in_ok-waits.field-0.waits.items
    c.in_ok-waits.ensures.list c.in_ok-exits.exits.items all)
    (subst (λ (l : List Waits). Gives {S = ℚ} {X = Loaded} {A = lists.Loaded} loaded_of (λ q. q) c.curves_until.result
    (at_part Load (until_transit passes_Q c.args.transit l c.in_ok-exits.exits.items c.args.until))) same (rw c.deref-3.ensures.value at c.curves_until.ensures))
