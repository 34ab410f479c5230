use Rattle.std.proofs.Common.{◌≡◌, ◌≤◌, suc, min, length, drop}
use Rattle.nf_thin_narrow.proofs.Common.{changes, most, CountsCapped}
use Rattle.nf_thin_narrow.proofs.FirmStepping.{ways_from, earlier_from}
use Rattle.nf_thin_narrow.proofs.firm.earlier_firm.Given as goal

-- The row counts the assignments from this link on, and the earlier ones are counted.
abbrev pub invariant-loop-e : goal.invariant-loop-e
invariant-loop-e l = record {
  within : l.e ≤ length l.base;
  count : length l.row ≡ suc (changes l.base l.pattern);
  made_is : l.made ≡ changes (drop l.e l.base) (drop l.e l.pattern);
  tells : CountsCapped l.row (ways_from l.base l.firm l.e);
  earlier_is : l.earlier ≡ min (earlier_from l.base l.firm l.pattern l.e l.made) most;
}

-- proposed from the loop's first test
abbrev pub decreases-loop-e : goal.decreases-loop-e
decreases-loop-e l = l.e
