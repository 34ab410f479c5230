use Rattle.std.proofs.Common.{◌≡◌, ⊎_elim, Bool, true, List, length, sym, ap, subst, ◌∙◌, Some, slice_get}
use Rattle.nf_thin_narrow.proofs.Common.{Has, entry_pushed, length_pushed, IsSole}
use Rattle.nf_thin_narrow.proofs.sole.sole_flags.Goals as goal

pub loop-e-preserved : goal.loop-e-preserved
loop-e-preserved c =
    let pushed = c.in_ok-push.ensures.items in
    record {
      count = ap (λ (l : List Bool). length l) pushed ∙ length_pushed c.loop-e.flags.items c.sole_flag-flag.result c.loop-e.e c.loop-e.invariant.count;
      sole = λ e has. ⊎_elim
          (λ (old : slice_get c.loop-e.flags.items e ≡ Some true). c.loop-e.invariant.sole e old)
          (λ (new : (e ≡ length c.loop-e.flags.items) × (c.sole_flag-flag.result ≡ true)).
          subst (IsSole c.args.source c.args.hops.now c.args.sets.now) (sym (new.0 ∙ c.loop-e.invariant.count)) (c.sole_flag-flag.ensures new.1))
          (entry_pushed c.loop-e.flags.items c.sole_flag-flag.result e true (subst (λ (l : List Bool). Has l e) pushed has));
    }
