use Rattle.std.proofs.Common.{[], ◌∷◌, codes}
use Rattle.nf_net.proofs.Common.{digits_of, same_line}
use Rattle.nf_net.proofs.Versions.{first_version, second_version}
use Rattle.nf_net.proofs.printing.push_version.Goals as goal

pub returns-then-version-eq1 : goal.returns-then-version-eq1
returns-then-version-eq1 c =
    let same = first_version c.args.version c.if-version-eq1.true in
    same_line c.push_line.result c.args.out.now.items c.push_line.new.text.items (codes "nfot" ∷ codes "1" ∷ []) (codes "nfot" ∷ digits_of c.args.version ∷ [])
    (λ i. codes "nfot" ∷ same i ∷ []) c.push_line.ensures

pub returns : goal.returns
returns c =
    let same = second_version c.args.version c.requires c.if-version-eq1.false in
    same_line c.push_line-2.result c.args.out.now.items c.push_line-2.new.text.items (codes "nfot" ∷ codes "2" ∷ []) (codes "nfot" ∷ digits_of c.args.version ∷ [])
    (λ i. codes "nfot" ∷ same i ∷ []) c.push_line-2.ensures
