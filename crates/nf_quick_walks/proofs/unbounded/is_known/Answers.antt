use Rattle.std.proofs.Common.{ℕ, get_or, refl, sym, ap, ◌∙◌, is_some, unwrap_or, None}
use Rattle.nf_quick_walks.proofs.Common.{slice_get_read}
use Rattle.nf_quick_walks.proofs.unbounded.is_known.Goals as goal

pub returns : goal.returns
returns c =
    let here = c.index-ways-index.is ∙ ap (λ (k : ℕ). get_or c.args.ways.now k c.index-ways-index.result) c.index.ensures in
    c.is_some.ensures ∙ ap is_some (sym (ap (λ o. unwrap_or o None) (slice_get_read c.args.ways.now _ c.args.node c.index-ways-index.result refl c.requires here)))
