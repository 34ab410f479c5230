use Rattle.nf_sets.proofs.Flags.{are_sets}
use Rattle.nf_sets.proofs.sets.Goals as goal

pub new-requires : goal.new-requires
new-requires c = rw (c.deref.ensures.value, c.deref-2.ensures.value, c.in_ok-active.ensures, c.in_ok-resetting.ensures) (are_sets c.args.slacks.now)
