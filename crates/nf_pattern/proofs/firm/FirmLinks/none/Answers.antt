use Rattle.std.proofs.Common.{Bool, List, sym, subst, ◌∙◌, rules}
use Rattle.nf_pattern.proofs.Common.{Has, Has-replicate}
use Rattle.nf_pattern.proofs.firm.FirmLinks.none.Goals as goal

pub returns-clause-count : goal.returns-clause-count
returns-clause-count c = sym c.in_ok-flags.flags.ok.0 ∙ c.in_ok-flags.ensures.len

pub returns-clause-none : goal.returns-clause-none
returns-clause-none c e has = Has-replicate _ e (subst (λ (flags : List Bool). Has flags e) (c.in_ok-flags.ensures.items_if_clones_equal (λ y e. search rules)) has)
