use Rattle.std.proofs.Common.{List, ℕ, length, refl, sym, subst, ◌≤◌, ◌+◌, ◌<◌}
use Rattle.nf_edge.proofs.Returned.{failed-not_too_long, none-within, none-not_above}
use Rattle.nf_edge.proofs.real.read_named.Goals as goal

pub returns-in-Ok : goal.returns-in-Ok
returns-in-Ok g c = let all = c.read_file.ensures in
    record { at_most = all.at_most; within = all.within; too_long = all.too_long; long = all.long }

pub returns-in-Err : goal.returns-in-Err
returns-in-Err g c = record {
  at_most = subst (λ (l : List ℕ). length l ≤ c.args.limit + 1) (sym c.requires) (none-within c.args.limit);
  within = tt;
  too_long = λ e. absurd (failed-not_too_long _ refl e);
  long = λ more. absurd (none-not_above c.args.limit (subst (λ (l : List ℕ). c.args.limit < length l) c.requires more));
}
