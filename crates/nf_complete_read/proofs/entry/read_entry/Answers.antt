use Rattle.std.proofs.Common.{sym, subst}
use Rattle.nf_complete_read.proofs.Common.{IfOk-weaker, FlowsEntry, seen_entry, IsOf}
use Rattle.nf_complete_read.proofs.entry.read_entry.Goals as goal

pub returns-then-is_word-3-clause-within : goal.returns-then-is_word-3-clause-within
returns-then-is_word-3-clause-within c =
    IfOk-weaker c.read_end.result _ (λ entry. IsOf c.args.net.now (seen_entry entry)) (λ entry e. subst (λ (x : FlowsEntry). IsOf c.args.net.now x) (sym e) tt) c.read_end.ensures.end
