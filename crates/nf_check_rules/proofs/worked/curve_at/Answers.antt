use Rattle.std.proofs.Common.{refl}
use Rattle.nf_check_rules.proofs.Common.{slice_get_read}
use Rattle.nf_check_rules.proofs.ByNumber.{curve_there}
use Rattle.nf_check_rules.proofs.worked.curve_at.Goals as goal

pub returns : goal.returns
returns c =
    curve_there c.args.curves.now c.args.number c.index-curves-number.result
    (slice_get_read c.args.curves.now _ c.args.number c.index-curves-number.result refl c.requires c.index-curves-number.is)
