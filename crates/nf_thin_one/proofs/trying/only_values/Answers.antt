use Rattle.std.proofs.Common.{Some, sym, ap, ◌∙◌, map-id}
use Rattle.nf_thin_one.proofs.Common.{ℚ, Solved, values_of}
use Rattle.nf_thin_one.proofs.trying.only_values.Goals as goal

pub returns-in-One : goal.returns-in-One
returns-in-One c = sym (ap (λ (s : Solved ℚ). values_of (λ (q : ℚ). q) s) c.in-One.is ∙ ap Some (map-id c.in-One.values.items))
