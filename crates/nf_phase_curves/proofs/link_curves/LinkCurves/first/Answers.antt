use Rattle.nf_phase_curves.proofs.link_curves.LinkCurves.first.Goals as goal

pub returns : goal.returns
returns c = λ i. record { inflow = c.in_ok-inflow.ensures i; outflow = c.in_ok-outflow.ensures i; queue = c.in_ok-queue.ensures i }
