use Rattle.std.proofs.Common.{refl, arith}
use Rattle.nf_pattern.proofs.Common.{slice_get_within}
use Rattle.nf_pattern.proofs.Holding.{clear_more}
use Rattle.nf_pattern.proofs.Calming.{calm_firm, calm_clear}
use Rattle.nf_pattern.proofs.walking.TightLinks.enter.Goals as goal

pub returns-then-covers-clause-entered : goal.returns-then-covers-clause-entered
returns-then-covers-clause-entered c =
    let told = c.covers.ensures c.if-covers.true in (
      c.put.ensures.holds c.args.states.now c.requires.holds c.requires.tight,
      clear_more c.args.hops.now c.args.states.now c.args.link c.requires.clear
          (λ closes. calm_clear c.args.hops.now c.args.states.now c.args.link c.args.firm.now c.requires.calm told.0 told.1 closes.1),
      calm_firm c.args.hops.now c.args.states.now c.args.link c.args.firm.now c.requires.calm told.1,
    )

pub returns-then-closes-clause-entered : goal.returns-then-closes-clause-entered
returns-then-closes-clause-entered c = (refl, refl, c.if-closes.ensures)

pub returns-clause-entered : goal.returns-clause-entered
returns-clause-entered c = (
  c.put-2.ensures.holds c.args.states.now c.requires.holds c.requires.tight,
  clear_more c.args.hops.now c.args.states.now c.args.link c.requires.clear c.if-closes.ensures,
  c.note.ensures c.args.hops.now c.args.states.now c.requires.calm,
)

pub covers-requires : goal.covers-requires
covers-requires c = let n = c.requires.calm.count in let l = c.requires.link in omega arith

pub closes-requires-clause-stated : goal.closes-requires-clause-stated
closes-requires-clause-stated c = slice_get_within c.args.states.now c.args.link _ c.requires.tight

pub put-requires-clause-tails : goal.put-requires-clause-tails
put-requires-clause-tails c = c.requires.holds.count_tails

pub put-requires-clause-heads : goal.put-requires-clause-heads
put-requires-clause-heads c = c.requires.holds.count_heads

pub put-requires-clause-below : goal.put-requires-clause-below
put-requires-clause-below c = c.requires.holds.below

pub put-requires-2-clause-tails : goal.put-requires-2-clause-tails
put-requires-2-clause-tails c = c.requires.holds.count_tails

pub put-requires-2-clause-heads : goal.put-requires-2-clause-heads
put-requires-2-clause-heads c = c.requires.holds.count_heads

pub put-requires-2-clause-below : goal.put-requires-2-clause-below
put-requires-2-clause-below c = c.requires.holds.below
