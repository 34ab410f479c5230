use Rattle.nf_unique_laws.proofs.Feasible.{IsFeasible-equilibrium, enters-is, leaves-is, by_queue, none_waits, delivered-is}
use Rattle.nf_unique_laws.proofs.equilibrium_is_feasible.Goals as goal

pub returns : goal.returns
returns c = record {
  feasible = λ net flow good is. IsFeasible-equilibrium net flow good is;
  enters = λ net flow e link time good is p w. enters-is net flow good is e link time p w;
  leaves = λ net flow e link time good is p w. leaves-is net flow good is e link time p w;
  by_queue = λ net flow e link time good is p h. by_queue net flow good is e link p time h;
  none_waits = λ net flow v time good is h a b. none_waits net flow good is v time h a b;
  delivers = λ net flow departure good is w. delivered-is net flow good is departure w;
}
