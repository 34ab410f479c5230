use Rattle.std.proofs.Common.{◌≡◌, ℕ, ◌+◌, ◌<◌, List, [], ◌∷◌, ◌++◌, length, drop, sym, ap, subst, ◌∙◌, arith, Ok, Err, zip, map}
use Rattle.nf_app.proofs.Common.{IfOk-from_err, err_from_is_err_and, map-append, length-append, ℚ, passes_Q, at_part, each, Gives, with_front, no_front}
use Rattle.nf_app.proofs.Common.{Link, Piece, load_link_list, each_goes, each_stops, each_ends, stops_on, pieces_at, loaded_of, loading_list}
use Rattle.nf_frac_def.specs.declared.Part.TheVariants.{Load}
use Rattle.nf_load_def.specs.Loading as lists
use Rattle.nf_load_def.specs.Loads.{load_list}
use Rattle.nf_load.specs.declared.loading.Loaded as code
use Rattle.nf_app.proofs.LinkLoads.{zip_next, zip_ends}
use Rattle.nf_app.proofs.loading.load_links.Goals as goal

pub loop-link-init : goal.loop-link-init
loop-link-init c = (
  ap length c.new-loaded.ensures.items,
  ap (λ (l : List code.Loaded). with_front (map loaded_of l) (each (load_link_list passes_Q c.args.horizon) (zip c.args.net.now.net.links c.args.loads.now))) c.new-loaded.ensures.items
      ∙ no_front (each (load_link_list passes_Q c.args.horizon) (zip c.args.net.now.net.links c.args.loads.now)),
)

pub returns-in_err-loading-clause-many : goal.returns-in_err-loading-clause-many
returns-in_err-loading-clause-many c = IfOk-from_err c.from_residual.result _ c.from_residual.ensures.0

pub returns-in_err-push-clause-many : goal.returns-in_err-push-clause-many
returns-in_err-push-clause-many c = IfOk-from_err c.from_residual-in_err-push.result _ c.from_residual-in_err-push.ensures.0

pub returns-in_err-push-clause-list : goal.returns-in_err-push-clause-list
returns-in_err-push-clause-list c =
    let p = err_from_is_err_and c.from_residual-in_err-push.result c.from_residual-in_err-push.ensures.1 in rw (p.1, p.2) tt

pub pieces-supplied-requires : goal.pieces-supplied-requires
pieces-supplied-requires c = subst (λ (n : ℕ). c.loop-link.link < n) (c.link_count-link-end.ensures ∙ sym c.requires.many) c.loop-link-test.true

pub link-here-requires : goal.link-here-requires
link-here-requires c = subst (λ (n : ℕ). c.loop-link.link < n) c.link_count-link-end.ensures c.loop-link-test.true

pub returns-in_err-loading-clause-list : goal.returns-in_err-loading-clause-list
unfolding load_list
returns-in_err-loading-clause-list c =
    let p = err_from_is_err_and c.from_residual.result c.from_residual.ensures.1 in
    let front = map loaded_of c.loop-link.loaded.items in
    let so_far = ap (λ (l : List (Link × List Piece)). with_front front (each (load_link_list passes_Q c.args.horizon) l))
    (sym (zip_next c.args.net.now.net.links c.args.loads.now c.loop-link.link c.link-here.result c.requires.many c.link-here.ensures.link))
    ∙ c.loop-link.invariant.1 in
    let here = subst (λ (ps : List Piece). Gives loaded_of (λ (q : ℚ). q) (Err c.in_err-loading.field-0.0)
    (at_part Load (load_link_list passes_Q c.args.horizon (c.link-here.result, ps)))) c.pieces-supplied.ensures.value c.in_err-loading.ensures in
    rw (p.1, p.2) (stops_on c.in_err-loading.field-0.0 (at_part Load (load_link_list passes_Q c.args.horizon
    (c.link-here.result, pieces_at c.args.loads.now c.loop-link.link))) (loading_list c.args.net.now c.args.loads.now c.args.horizon)
    (each_stops Load (load_link_list passes_Q c.args.horizon) front (each (load_link_list passes_Q c.args.horizon)
    (zip c.args.net.now.net.links c.args.loads.now)) (c.link-here.result, pieces_at c.args.loads.now c.loop-link.link)
    (drop (c.loop-link.link + 1) (zip c.args.net.now.net.links c.args.loads.now)) so_far) here)

pub loop-link-preserved : goal.loop-link-preserved
loop-link-preserved c =
    let front = map loaded_of c.loop-link.loaded.items in
    let so_far = ap (λ (l : List (Link × List Piece)). with_front front (each (load_link_list passes_Q c.args.horizon) l))
    (sym (zip_next c.args.net.now.net.links c.args.loads.now c.loop-link.link c.link-here.result c.requires.many c.link-here.ensures.link))
    ∙ c.loop-link.invariant.1 in
    let y = loaded_of c.in_ok-loading.loading in
    let here : at_part Load (load_link_list passes_Q c.args.horizon (c.link-here.result, pieces_at c.args.loads.now c.loop-link.link)) ≡ Ok y =
    ap (λ (ps : List Piece). at_part Load (load_link_list passes_Q c.args.horizon (c.link-here.result, ps))) (sym c.pieces-supplied.ensures.value) ∙ c.in_ok-loading.ensures in
    let items = c.in_ok-push.ensures.items in
    let made : map loaded_of c.push.new.self.items ≡ front ++ y ∷ [] = ap (λ (l : List code.Loaded). map loaded_of l) items
    ∙ map-append loaded_of c.loop-link.loaded.items (c.in_ok-loading.loading ∷ []) in (
      ap length items ∙ length-append c.loop-link.loaded.items (c.in_ok-loading.loading ∷ []) ∙ ap (λ (n : ℕ). n + 1) c.loop-link.invariant.0,
      ap (λ (l : List lists.Loaded). with_front l (each (load_link_list passes_Q c.args.horizon) (drop (c.loop-link.link + 1) (zip c.args.net.now.net.links c.args.loads.now)))) made
          ∙ each_goes Load (load_link_list passes_Q c.args.horizon) front (each (load_link_list passes_Q c.args.horizon)
          (zip c.args.net.now.net.links c.args.loads.now)) (c.link-here.result, pieces_at c.args.loads.now c.loop-link.link)
          (drop (c.loop-link.link + 1) (zip c.args.net.now.net.links c.args.loads.now)) so_far y here,
    )

pub returns-clause-list : goal.returns-clause-list
unfolding load_list
returns-clause-list c =
    let end : c.loop-link.link ≡ length c.args.net.now.net.links = omega arith in
    let front = map loaded_of c.loop-link.loaded.items in
    let done = ap (λ (l : List (Link × List Piece)). with_front front (each (load_link_list passes_Q c.args.horizon) l))
    (sym (zip_ends c.args.net.now.net.links c.args.loads.now c.loop-link.link c.requires.many end)) ∙ c.loop-link.invariant.1 in
    each_ends (load_link_list passes_Q c.args.horizon) front (each (load_link_list passes_Q c.args.horizon) (zip c.args.net.now.net.links c.args.loads.now)) Load done

pub load_by_pieces-requires-clause-pieces : goal.load_by_pieces-requires-clause-pieces
load_by_pieces-requires-clause-pieces c = c.pieces-supplied.ensures.pieces

pub load_by_pieces-requires-clause-horizon : goal.load_by_pieces-requires-clause-horizon
load_by_pieces-requires-clause-horizon c = c.requires.horizon

pub load_by_pieces-requires-clause-transit : goal.load_by_pieces-requires-clause-transit
load_by_pieces-requires-clause-transit c = c.link-here.ensures.named.network.transits c.loop-link.link c.link-here.result c.link-here.ensures.link

pub load_by_pieces-requires-clause-capacity : goal.load_by_pieces-requires-clause-capacity
load_by_pieces-requires-clause-capacity c rate is = c.link-here.ensures.named.network.capacities c.loop-link.link c.link-here.result rate c.link-here.ensures.link is

pub returns-clause-many : goal.returns-clause-many
returns-clause-many c = let end : c.loop-link.link ≡ length c.args.net.now.net.links = omega arith in c.loop-link.invariant.0 ∙ end
