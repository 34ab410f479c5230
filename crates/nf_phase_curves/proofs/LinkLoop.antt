-- The loop that makes a step of each link.
use Rattle.std.proofs.Common.{◌≡◌, ℕ, ◌+◌, ◌<◌, List, [], ◌∷◌, ◌++◌, length, sym, subst, Ok, Err}
use Rattle.nf_phase_curves.proofs.Common.{enumerate_from, ℚ, Passing, Curve, PassedAt, Checked, each, at_part, number_at, Link, Network, IsLink, LinkStep}
use Rattle.nf_phase_curves.proofs.Common.{link_phase, link_step, front_none, SoFar, one_more, one_passes, entry}
use Rattle.nf_model.specs.ThinFlow.{Sets}
use Rattle.nf_model.specs.Pattern.{Pattern}

module _ (passes : Passing) (sets : Sets) (pattern : Pattern) (duration : ℚ) (flows slopes labels amounts : List ℚ) where
  -- the step of a link with its number
  abbrev pub numbered_step : ℕ × Link → Checked LinkStep
  numbered_step numbered = link_step passes duration (number_at amounts numbered.0) (link_phase sets pattern flows slopes labels numbered)

  pub no_step : (net : Network) (steps : List LinkStep) → steps ≡ [] → SoFar numbered_step net.links steps 0
  no_step net steps none =
      subst (λ (l : List LinkStep). SoFar numbered_step net.links l 0) (sym none) (sym (front_none (each numbered_step (enumerate_from 0 net.links))))

  module _ (net : Network) (steps : List LinkStep) (e : ℕ) (inside : e < length net.links) (so : SoFar numbered_step net.links steps e) where
    here : (link : Link) × IsLink net e link
    here = entry net.links e inside

    pub one_step : (next : LinkStep) → ((link : Link) → IsLink net e link → Ok next ≡ at_part Curve (numbered_step (e, link)))
        → SoFar numbered_step net.links (steps ++ next ∷ []) (e + 1)
    one_step next said = one_more numbered_step net.links steps e here.0 here.1 so Curve next (said here.0 here.1)

    pub step_passes : (p : PassedAt ℚ) → ((link : Link) → IsLink net e link → Err p ≡ at_part Curve (numbered_step (e, link)))
        → at_part Curve (each numbered_step (enumerate_from 0 net.links)) ≡ Err p
    step_passes p said = one_passes numbered_step net.links steps e here.0 here.1 so Curve p (said here.0 here.1)
