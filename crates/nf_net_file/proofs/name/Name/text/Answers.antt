use Rattle.nf_net_file.proofs.NameText.{name_is_text, ok_by_cases}
use Rattle.nf_net_file.proofs.name.Name.text.Goals as goal

pub unwrap-requires : goal.unwrap-requires
unwrap-requires c = ok_by_cases _ _ _ c.from_utf8.ensures.cases (λ y h. h.0 (name_is_text _ c.bytes.ensures.name))
