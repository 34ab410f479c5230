use Rattle.nf_thin_laws.proofs.Choosing.{listed_in}
use Rattle.nf_thin_laws.proofs.listed_states_are_choices.Goals as goal

pub returns : goal.returns
returns c = λ nodes source hops sets unbounded sole base p heads resets is_base bounds flags are_sole listed.
    listed_in nodes source hops sets unbounded sole base p heads resets is_base bounds flags are_sole listed
