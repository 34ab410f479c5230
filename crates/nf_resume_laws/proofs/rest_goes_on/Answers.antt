use Rattle.nf_resume_laws.proofs.Resting.{rest-goes}
use Rattle.nf_resume_laws.proofs.rest_goes_on.Goals as goal

pub returns : goal.returns
returns c = λ net time labels slopes pattern done s good part rate whole flows base listed solution extension some short is_base.
    rest-goes net time labels slopes pattern done s good part rate whole flows base listed solution extension some short is_base
