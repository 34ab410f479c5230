use Rattle.nf_linear.proofs.Filled.{filled_up}
use Rattle.nf_linear.proofs.copies.copies.Goals as goal

pub returns : goal.returns
returns g c = filled_up c.args.count _ _ c.resize.new.self.items c.args.value c.in_ok-resize.ensures.items c.in_ok-all.ensures.items c.in_ok-all.ensures.len
