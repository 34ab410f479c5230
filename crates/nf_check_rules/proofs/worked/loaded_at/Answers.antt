use Rattle.std.proofs.Common.{refl}
use Rattle.nf_check_rules.proofs.Common.{slice_get_read}
use Rattle.nf_check_rules.proofs.ByNumber.{loaded_there}
use Rattle.nf_check_rules.proofs.worked.loaded_at.Goals as goal

pub returns : goal.returns
returns c =
    loaded_there c.args.loaded.now c.args.link c.index-loaded-index.result
    (slice_get_read c.args.loaded.now _ c.args.link c.index-loaded-index.result refl c.requires (rw c.index.ensures at c.index-loaded-index.is))
