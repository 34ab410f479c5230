use Rattle.std.proofs.Common.{◌≡◌, sym, ap, ◌∙◌, arith}
use Rattle.nf_phase.proofs.Common.{Standing}
use Rattle.nf_phase.proofs.Opened.{continues_by}
use Rattle.nf_phase.proofs.run.Run.continues.Goals as goal

pub returns : goal.returns
returns c =
    let first : c.self.inside.made ≡ 0 = omega arith in
    continues_by c.args.net.now.net c.args.self.now c.is_open.result (sym (ap (λ (s : Standing). s.made) c.self.view_is) ∙ first) c.is_open.ensures
