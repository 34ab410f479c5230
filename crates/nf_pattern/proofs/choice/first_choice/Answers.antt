use Rattle.std.proofs.Common.{◌≡◌, false}
use Rattle.nf_pattern.proofs.Common.{fits_count}
use Rattle.nf_pattern.proofs.Choosing.{full_fits}
use Rattle.nf_pattern.proofs.choice.first_choice.Goals as goal

pub returns-then-fits-3 : goal.returns-then-fits-3
returns-then-fits-3 c =
    let bounded : c.args.unbounded ≡ false = assumption in
    full_fits (fits_count c.args.base c.args.changes c.args.more) c.args.base c.args.unbounded c.if-is_none.ensures bounded c.if-fits-2.ensures c.if-fits-3.ensures
