use Rattle.std.proofs.Common.{◌==◌}
use Rattle.nf_text.proofs.Positions.{place_over}
use Rattle.nf_text.proofs.places.far_place_of.Goals as goal

pub loop-at-preserved : goal.loop-at-preserved
loop-at-preserved c =
    let row = c.is_row_without.ensures c.loop-at-test.true in
    record {
      within = row.0;
      place = place_over (λ b. b == c.args.wanted) c.args.bytes.now c.loop-at.at 16 row.0 row.1 c.loop-at.invariant.place;
    }
