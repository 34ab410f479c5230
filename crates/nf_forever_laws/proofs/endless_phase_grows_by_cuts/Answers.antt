use Rattle.nf_forever_laws.proofs.Common.{sets_at, HoldNoCycle-sets_at}
use Rattle.nf_forever_laws.proofs.Endless.{KeepsSets-unending}
use Rattle.nf_forever_laws.proofs.Growth.{GrowsByCuts-thin}
use Rattle.nf_forever_laws.proofs.endless_phase_grows_by_cuts.Goals as goal

pub returns : goal.returns
returns c = record {
  sets = λ net sets rate flows slopes good acyclic thin keeps. GrowsByCuts-thin net sets rate flows slopes good acyclic thin keeps;
  kept = λ net labels slopes time unending. KeepsSets-unending net labels slopes time unending;
  phase = λ net labels rate time flows slopes good thin unending.
      GrowsByCuts-thin net (sets_at net labels) rate flows slopes good (HoldNoCycle-sets_at net labels good) thin (KeepsSets-unending net labels slopes time unending);
}
