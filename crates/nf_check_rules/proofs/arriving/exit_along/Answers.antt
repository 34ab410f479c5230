use Rattle.nf_load_def.specs.Loading as lists
use Rattle.std.proofs.Common.{refl, ap, ◌∙◌, ◌≡◌, sym}
use Rattle.nf_check_rules.proofs.Common.{points_at, labels_in, loaded_in, loaded_at, Loaded, loaded_of, Link}
use Rattle.nf_check_rules.proofs.Keeping.{same_some}
use Rattle.nf_check_rules.proofs.Known.{never_negative, below_as, one_there}
use Rattle.nf_check_rules.proofs.arriving.exit_along.Goals as goal

pub compose-requires-clause-inner : goal.compose-requires-clause-inner
compose-requires-clause-inner c = λ time w. never_negative c.label_at-label.result.now.points c.label_at-label.ensures.from_zero time w.0

pub compose-requires-clause-until : goal.compose-requires-clause-until
compose-requires-clause-until c = c.args.worked.now.known.reached

pub label_at-label-requires : goal.label_at-label-requires
label_at-label-requires c = below_as _ c.link.result.tail _ (ap (λ (l : Link). l.tail) c.tail.view_is) (c.link.ensures.named.network.tails c.args.link c.link.result c.link.ensures.link)

pub loaded_at-requires : goal.loaded_at-requires
loaded_at-requires c = one_there _ _ c.args.link _ refl c.args.worked.now.known.links c.requires

pub returns : goal.returns
returns c = λ here is.
    let one : c.link.result ≡ here = same_some c.link.result here (sym c.link.ensures.link ∙ is) in
    let exit : (loaded_of c.loaded_at.result.now).exit ≡ (loaded_at (loaded_in c.args.worked.now) c.args.link).exit = ap (λ (l : lists.Loaded). l.exit) c.loaded_at.ensures in
    let label : c.label_at-label.result.now.points ≡ points_at (labels_in c.args.worked.now) here.tail =
    c.label_at-label.ensures.points ∙ ap (points_at (labels_in c.args.worked.now)) (ap (λ (l : Link). l.tail) (c.tail.view_is ∙ one)) in
    rw (sym exit, sym label) c.compose.ensures.list
