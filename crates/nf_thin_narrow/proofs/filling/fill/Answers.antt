use Rattle.std.proofs.Common.{◌+◌, List, length, refl, sym, ap, subst, ◌∙◌, arith, Option, Some}
use Rattle.nf_thin_narrow.proofs.Common.{State, same_entries, given_state, filled, entrywise-length, entrywise-at}
use Rattle.nf_thin_narrow.proofs.Entries.{AreFilled, filled_more, length_set}
use Rattle.nf_thin_narrow.proofs.filling.fill.Goals as goal

pub loop-e-preserved : goal.loop-e-preserved
loop-e-preserved c =
    let count = c.loop-e.invariant.count in
    let at = entrywise-at given_state c.args.forced.now c.args.part.now c.loop-e.e c.state.result c.state-in-loop-e.result c.state.ensures c.state-in-loop-e.ensures
    ∙ ap (λ (s : Option State). Some s) (sym c.given_state-state.ensures) in
    record {
      count = ap (λ (l : List (Option State)). length l) c.set.ensures ∙ (length_set c.loop-e.pattern c.loop-e.e c.given_state-state.result ∙ count);
      so_far = subst (λ (l : List (Option State)). AreFilled (filled c.args.forced.now c.args.part.now) l (c.loop-e.e + 1)) (sym c.set.ensures)
          (filled_more (filled c.args.forced.now c.args.part.now) c.loop-e.pattern c.loop-e.e c.loop-e.e c.given_state-state.result refl (omega arith) at c.loop-e.invariant.so_far);
    }

pub returns : goal.returns
returns c = same_entries c.args.links c.loop-e.pattern (filled c.args.forced.now c.args.part.now) c.loop-e.invariant.count
    (entrywise-length given_state c.args.forced.now c.args.part.now (c.requires.forced ∙ sym c.requires.part) ∙ c.requires.part)
    (λ e less. c.loop-e.invariant.so_far e (omega arith))
