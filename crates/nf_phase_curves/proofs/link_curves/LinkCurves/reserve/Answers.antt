use Rattle.std.proofs.Common.{◌≤◌, min, ap, subst, ◌∙◌}
use Rattle.nf_phase_curves.proofs.Common.{on_ok_weaker, LinkCurves, Roomy}
use Rattle.nf_phase_curves.proofs.Spare.{three_kept, three_rooms}
use Rattle.nf_phase_curves.proofs.link_curves.LinkCurves.reserve.Goals as goal

pub returns-clause-same : goal.returns-clause-same
returns-clause-same c =
    (λ i. record { inflow = c.in_ok-reserve.ensures.same i; outflow = c.in_ok-reserve-2.ensures.same i; queue = c.reserve-3.ensures.same i })
    ∙ ap (λ (r : Roomy LinkCurves). r.grown) c.self.view_is

pub returns-clause-room : goal.returns-clause-room
returns-clause-room c = on_ok_weaker c.reserve-3.result (λ room. three_rooms _ _ _ c.in_ok-reserve.ensures.room c.in_ok-reserve-2.ensures.room room) c.reserve-3.ensures.room

pub returns-clause-kept : goal.returns-clause-kept
returns-clause-kept c =
    subst (λ (r : Roomy LinkCurves). r.spare ≤ min c.reserve.new.self.spare (min c.reserve-2.new.self.spare c.reserve-3.new.self.spare)) c.self.view_is
    (three_kept _ _ _ _ _ _ c.in_ok-reserve.ensures.kept c.in_ok-reserve-2.ensures.kept c.reserve-3.ensures.kept)
