use Rattle.nf_thin_laws.proofs.BySlopes.{forcing, allowed}
use Rattle.nf_thin_laws.proofs.slopes_force_states.Goals as goal

pub returns : goal.returns
returns c = λ net sets rate base flows slopes good are acyclic flags is_base thin.
    (forcing net sets rate base flows slopes good are acyclic flags is_base thin, allowed net sets rate base flows slopes good are acyclic flags is_base thin)
