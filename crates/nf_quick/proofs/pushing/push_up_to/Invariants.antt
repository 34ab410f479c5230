use Rattle.nf_quick.proofs.Common.{passes_Q}
use Rattle.nf_quick.proofs.PushByPush.{PushesOn}
use Rattle.nf_quick.proofs.pushing.push_up_to.Given as goal

abbrev pub invariant-loop : goal.invariant-loop
invariant-loop l = PushesOn passes_Q l.net.net l.amount l.augments l.standing l.counter
