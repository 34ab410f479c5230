use Rattle.std.proofs.Common.{◌+◌, List, length, refl, sym, ap, subst, ◌∙◌, arith, Option, Some}
use Rattle.nf_thin_narrow.proofs.Common.{State, same_entries, free_state, unforced_of, entrywise-length, entrywise-at}
use Rattle.nf_thin_narrow.proofs.Entries.{AreFilled, filled_more, length_set}
use Rattle.nf_thin_narrow.proofs.filling.left_pattern.Goals as goal

pub loop-e-preserved : goal.loop-e-preserved
loop-e-preserved c =
    let count = c.loop-e.invariant.count in
    let at = entrywise-at free_state c.args.forced.now c.args.pattern.now c.loop-e.e c.state.result c.state-in-loop-e.result c.state.ensures c.state-in-loop-e.ensures
    ∙ ap (λ (s : Option State). Some s) (sym c.free_state-state.ensures) in
    record {
      count = ap (λ (l : List (Option State)). length l) c.set.ensures ∙ (length_set c.loop-e.left c.loop-e.e c.free_state-state.result ∙ count);
      so_far = subst (λ (l : List (Option State)). AreFilled (unforced_of c.args.forced.now c.args.pattern.now) l (c.loop-e.e + 1)) (sym c.set.ensures)
          (filled_more (unforced_of c.args.forced.now c.args.pattern.now) c.loop-e.left c.loop-e.e c.loop-e.e c.free_state-state.result refl (omega arith) at c.loop-e.invariant.so_far);
    }

pub returns : goal.returns
returns c = same_entries c.args.links c.loop-e.left (unforced_of c.args.forced.now c.args.pattern.now) c.loop-e.invariant.count
    (entrywise-length free_state c.args.forced.now c.args.pattern.now (c.requires.forced ∙ sym c.requires.pattern) ∙ c.requires.pattern)
    (λ e less. c.loop-e.invariant.so_far e (omega arith))
