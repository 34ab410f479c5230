use Rattle.std.proofs.Common.{◌<◌, length, slice_get, sym, ap, subst, ◌∙◌}
use Rattle.nf_pattern.proofs.Common.{Pattern}
use Rattle.nf_pattern.proofs.Each.{entry_at}
use Rattle.nf_pattern.proofs.pattern.Pattern.state.Goals as goal

pub returns : goal.returns
returns c =
    let inside : c.args.link < length c.self.inside.states.items = subst (λ (p : Pattern). c.args.link < length p) (sym c.self.view_is) c.requires in
    ap (λ (p : Pattern). slice_get p c.args.link) (sym c.self.view_is)
    ∙ entry_at c.self.inside.states.items c.index-2.result.now c.index-2.result.now c.args.link c.index.result inside c.index.ensures (sym c.index-2.ensures)
