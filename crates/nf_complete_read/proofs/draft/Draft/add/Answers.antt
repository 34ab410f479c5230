use Rattle.std.proofs.Common.{◌≡◌, Bool, true, false, List, length, set, Option, Some, Result, Ok, Err, refl, sym, ap, subst, ◌∙◌, arith, ℕ, if◌then◌else◌}
use Rattle.nf_complete_read.proofs.Common.{◌>>=◌, err_from_is_err_and, ℚ, Named, FlowsRule, S4, S10, FlowsEntry, FlowOf, SlopeOf, End, FlowsDraft}
use Rattle.nf_complete_read.proofs.Common.{flows_entry, is_given, with_entry, add_flows, seen_entry, IsOf}
use Rattle.nf_complete_read.specs.declared.entry.Entry.{Entry}
use Rattle.nf_side.specs.Said.{said_by}
use Rattle.nf_complete_read.proofs.draft.Draft.add.Goals as goal

-- a draft with an `end` line takes no more, and another one what the line says
module _ (n : Named) (draft seen : FlowsDraft) (words : List (List ℕ)) (same : draft ≡ seen) where
  ended : draft.ended ≡ true → add_flows n seen words ≡ Err S4
  ended is =
      ap (λ (d : FlowsDraft). add_flows n d words) (sym same)
      ∙ ap (λ (b : Bool). if b then Err S4 else (flows_entry n words >>= with_entry draft)) is

  adds : (said : Result FlowsEntry FlowsRule) → draft.ended ≡ false → flows_entry n words ≡ said → add_flows n seen words ≡ (said >>= with_entry draft)
  adds said is says =
      ap (λ (d : FlowsDraft). add_flows n d words) (sym same)
      ∙ ap (λ (b : Bool). if b then Err S4 else (flows_entry n words >>= with_entry draft)) is ∙ ap (λ (r : Result FlowsEntry FlowsRule). r >>= with_entry draft) says

-- a number that is put among the others, or that one was there
flow_put : (draft : FlowsDraft) (given : Bool) (flows : List (Option ℚ))
    → (if given then Err S10 else Ok (record draft { flows = flows })) ≡ said_by (λ (l : List (Option ℚ)). record draft { flows = l })
    (if given then Err S10 else Ok flows)
flow_put draft true flows = refl
flow_put draft false flows = refl

slope_put : (draft : FlowsDraft) (given : Bool) (slopes : List (Option ℚ))
    → (if given then Err S10 else Ok (record draft { slopes = slopes })) ≡ said_by (λ (l : List (Option ℚ)). record draft { slopes = l })
    (if given then Err S10 else Ok slopes)
slope_put draft true slopes = refl
slope_put draft false slopes = refl

pub returns-then-self-clause-adds : goal.returns-then-self-clause-adds
returns-then-self-clause-adds c = ended c.args.net.now _ c.args.self.now c.args.line.now.words c.self.view_is c.if-self.true

pub returns-in_err-link-clause-adds : goal.returns-in_err-link-clause-adds
returns-in_err-link-clause-adds c =
    let p = err_from_is_err_and c.from_residual.result c.from_residual.ensures.1 in
    rw (p.1, p.2) (adds c.args.net.now _ c.args.self.now c.args.line.now.words c.self.view_is (Err c.in_err-link.field-0.0) c.if-self.false c.in_err-link.ensures.says)

pub put-requires : goal.put-requires
put-requires c =
    let within = subst (λ (e : Entry). IsOf c.args.net.now (seen_entry e)) c.in-Flow.is c.in_ok-link.ensures.within in
    let many = ap (λ (d : FlowsDraft). length d.flows) c.self.view_is in
    omega (arith, within, c.index.ensures, c.requires.places.links, many)

pub returns-in_err-put-in-Flow-clause-adds : goal.returns-in_err-put-in-Flow-clause-adds
returns-in_err-put-in-Flow-clause-adds c =
    let p = err_from_is_err_and c.from_residual-in_err-put-in-Flow.result c.from_residual-in_err-put-in-Flow.ensures.1 in
    let draft : FlowsDraft = record { flows = c.self.inside.flows.items; slopes = c.self.inside.slopes.items; ended = c.self.inside.ended } in
    rw (p.1, p.2) (adds c.args.net.now draft c.args.self.now c.args.line.now.words c.self.view_is
    (Ok (FlowOf c.in-Flow.link c.in-Flow.flow)) c.if-self.false (c.in_ok-link.ensures.says ∙ ap (λ (e : Entry). Ok (seen_entry e)) c.in-Flow.is)
    ∙ ap (λ (k : ℕ). with_entry draft (FlowOf k c.in-Flow.flow)) (sym c.index.ensures)
    ∙ flow_put draft (is_given c.self.inside.flows.items c.index.result) (set c.self.inside.flows.items c.index.result (Some c.in-Flow.flow))
    ∙ ap (said_by (λ (l : List (Option ℚ)). record draft { flows = l })) c.in_err-put-in-Flow.ensures.puts)

pub returns-in_ok-put-in-Flow-clause-adds : goal.returns-in_ok-put-in-Flow-clause-adds
returns-in_ok-put-in-Flow-clause-adds c =
    let draft : FlowsDraft = record { flows = c.self.inside.flows.items; slopes = c.self.inside.slopes.items; ended = c.self.inside.ended } in
    adds c.args.net.now draft c.args.self.now c.args.line.now.words c.self.view_is (Ok (FlowOf c.in-Flow.link c.in-Flow.flow)) c.if-self.false
    (c.in_ok-link.ensures.says ∙ ap (λ (e : Entry). Ok (seen_entry e)) c.in-Flow.is)
    ∙ ap (λ (k : ℕ). with_entry draft (FlowOf k c.in-Flow.flow)) (sym c.index.ensures)
    ∙ flow_put draft (is_given c.self.inside.flows.items c.index.result) (set c.self.inside.flows.items c.index.result (Some c.in-Flow.flow))
    ∙ ap (said_by (λ (l : List (Option ℚ)). record draft { flows = l })) c.in_ok-put-in-Flow.ensures.puts

pub returns-in_ok-put-in-Flow-clause-places : goal.returns-in_ok-put-in-Flow-clause-places
returns-in_ok-put-in-Flow-clause-places c = record {
  links = c.in_ok-put-in-Flow.ensures.count ∙ ap (λ (d : FlowsDraft). length d.flows) c.self.view_is ∙ c.requires.places.links;
  nodes = ap (λ (d : FlowsDraft). length d.slopes) c.self.view_is ∙ c.requires.places.nodes;
}

pub put-requires-in-Slope : goal.put-requires-in-Slope
put-requires-in-Slope c =
    let within = subst (λ (e : Entry). IsOf c.args.net.now (seen_entry e)) c.in-Slope.is c.in_ok-link.ensures.within in
    let many = ap (λ (d : FlowsDraft). length d.slopes) c.self.view_is in
    omega (arith, within, c.index-in-Slope.ensures, c.requires.places.nodes, many)

pub returns-in_err-put-in-Slope-clause-adds : goal.returns-in_err-put-in-Slope-clause-adds
returns-in_err-put-in-Slope-clause-adds c =
    let p = err_from_is_err_and c.from_residual-in_err-put-in-Slope.result c.from_residual-in_err-put-in-Slope.ensures.1 in
    let draft : FlowsDraft = record { flows = c.self.inside.flows.items; slopes = c.self.inside.slopes.items; ended = c.self.inside.ended } in
    rw (p.1, p.2) (adds c.args.net.now draft c.args.self.now c.args.line.now.words c.self.view_is
    (Ok (SlopeOf c.in-Slope.node c.in-Slope.slope)) c.if-self.false (c.in_ok-link.ensures.says ∙ ap (λ (e : Entry). Ok (seen_entry e)) c.in-Slope.is)
    ∙ ap (λ (k : ℕ). with_entry draft (SlopeOf k c.in-Slope.slope)) (sym c.index-in-Slope.ensures)
    ∙ slope_put draft (is_given c.self.inside.slopes.items c.index-in-Slope.result) (set c.self.inside.slopes.items c.index-in-Slope.result (Some c.in-Slope.slope))
    ∙ ap (said_by (λ (l : List (Option ℚ)). record draft { slopes = l })) c.in_err-put-in-Slope.ensures.puts)

pub returns-in_ok-put-in-Slope-clause-adds : goal.returns-in_ok-put-in-Slope-clause-adds
returns-in_ok-put-in-Slope-clause-adds c =
    let draft : FlowsDraft = record { flows = c.self.inside.flows.items; slopes = c.self.inside.slopes.items; ended = c.self.inside.ended } in
    adds c.args.net.now draft c.args.self.now c.args.line.now.words c.self.view_is (Ok (SlopeOf c.in-Slope.node c.in-Slope.slope)) c.if-self.false
    (c.in_ok-link.ensures.says ∙ ap (λ (e : Entry). Ok (seen_entry e)) c.in-Slope.is)
    ∙ ap (λ (k : ℕ). with_entry draft (SlopeOf k c.in-Slope.slope)) (sym c.index-in-Slope.ensures)
    ∙ slope_put draft (is_given c.self.inside.slopes.items c.index-in-Slope.result) (set c.self.inside.slopes.items c.index-in-Slope.result (Some c.in-Slope.slope))
    ∙ ap (said_by (λ (l : List (Option ℚ)). record draft { slopes = l })) c.in_ok-put-in-Slope.ensures.puts

pub returns-in_ok-put-in-Slope-clause-places : goal.returns-in_ok-put-in-Slope-clause-places
returns-in_ok-put-in-Slope-clause-places c = record {
  links = ap (λ (d : FlowsDraft). length d.flows) c.self.view_is ∙ c.requires.places.links;
  nodes = c.in_ok-put-in-Slope.ensures.count ∙ ap (λ (d : FlowsDraft). length d.slopes) c.self.view_is ∙ c.requires.places.nodes;
}

pub returns-in-End-clause-adds : goal.returns-in-End-clause-adds
returns-in-End-clause-adds c =
    adds c.args.net.now _ c.args.self.now c.args.line.now.words c.self.view_is (Ok End) c.if-self.false (c.in_ok-link.ensures.says ∙ ap (λ (e : Entry). Ok (seen_entry e)) c.in-End.is)

pub returns-in-End-clause-places : goal.returns-in-End-clause-places
returns-in-End-clause-places c = record {
  links = ap (λ (d : FlowsDraft). length d.flows) c.self.view_is ∙ c.requires.places.links;
  nodes = ap (λ (d : FlowsDraft). length d.slopes) c.self.view_is ∙ c.requires.places.nodes;
}
