use Rattle.nf_phase_laws.proofs.Extension.{extension_is, unending_is}
use Rattle.nf_phase_laws.proofs.extend_list_is_extension.Goals as goal

pub returns : goal.returns
returns c = record {
  length = λ passes net slacks slopes time length pieces list. extension_is net slacks slopes time passes length pieces list;
  none = λ passes net slacks slopes time pieces list. unending_is net slacks slopes time passes pieces list;
}
