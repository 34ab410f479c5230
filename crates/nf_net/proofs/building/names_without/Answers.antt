use Rattle.std.proofs.Common.{◌+◌, ◌++◌, Bool, cond, List, [], ◌∷◌, drop, refl, sym, ◌∙◌, ap, append-nil}
use Rattle.nf_net.proofs.Common.{Name, without, filled, filled_all, kept_with}
use Rattle.nf_net.proofs.building.names_without.Goals as goal
use Rattle.nf_net.proofs.building.names_without.Goals.{then-not-has+in_ok-push, else-not-has}

pub loop-name-preserved : goal.loop-name-preserved
loop-name-preserved c =
    let these : List Name = c.args.these.now in
    let name : Name = c.name-item.result in
    let front : List Name = c.loop-name.others.items in
    let rest : List Name = drop (c.loop-name.name-index + 1) c.args.names.now in
    let by_flag : Bool → List Name = λ (there : Bool). cond there (without these rest) (name ∷ without these rest) in
    elim c.if-not-has.branch [
      | then-not-has+in_ok-push w ↦ filled (without these) c.args.names.now c.loop-name.name-index name front (name ∷ []) _ _
          (ap (λ v. v.items) w.others-is ∙ w.in_ok-push.ensures.items ∙ ap (λ (x : Name). front ++ x ∷ []) w.copy.ensures)
          c.loop-name-test.true c.name-item.is (kept_with these name rest ∙ ap by_flag (sym c.has.ensures ∙ w.if-not-has.true)) c.loop-name.invariant
      | else-not-has w ↦ filled (without these) c.args.names.now c.loop-name.name-index name front [] _ _
          (ap (λ v. v.items) w.others-is ∙ sym (append-nil front))
          c.loop-name-test.true c.name-item.is (kept_with these name rest ∙ ap by_flag (sym c.has.ensures ∙ w.if-not-has.false)) c.loop-name.invariant
    ]

pub returns : goal.returns
returns c = filled_all (without c.args.these.now) c.args.names.now c.loop-name.name-index c.loop-name.others.items _ c.loop-name-test.false refl c.loop-name.invariant
