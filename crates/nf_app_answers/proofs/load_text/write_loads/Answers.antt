use Rattle.std.proofs.Common.{[], ◌∷◌, ◌++◌, refl, codes, flat_map, map}
use Rattle.nf_app_answers.proofs.Common.{enumerate_from, printed, loaded_lines, loaded_of, wrote_next, wrote_failed, wrote_then_failed}
use Rattle.nf_app_answers.proofs.load_text.write_loads.Goals as goal

pub returns-in_err-write_head : goal.returns-in_err-write_head
returns-in_err-write_head g c =
    wrote_failed ((codes "loaded" ∷ codes "1" ∷ []) ∷ (codes "horizon" ∷ printed c.args.horizon ∷ []) ∷ []) ((flat_map (loaded_lines c.args.net.now.link_names) (enumerate_from 0 (map loaded_of c.args.links.now))) ++ ((codes "end" ∷ []) ∷ []))
    (((codes "loaded" ∷ codes "1" ∷ []) ∷ (codes "horizon" ∷ printed c.args.horizon ∷ []) ∷ []) ++ ((flat_map (loaded_lines c.args.net.now.link_names) (enumerate_from 0 (map loaded_of c.args.links.now))) ++ ((codes "end" ∷ []) ∷ []))) c.from_residual.result refl c.from_residual.ensures.0 c.in_err-write_head.ensures

pub returns-in_err-write_links : goal.returns-in_err-write_links
returns-in_err-write_links g c =
    wrote_then_failed ((codes "loaded" ∷ codes "1" ∷ []) ∷ (codes "horizon" ∷ printed c.args.horizon ∷ []) ∷ []) (flat_map (loaded_lines c.args.net.now.link_names) (enumerate_from 0 (map loaded_of c.args.links.now))) ((codes "end" ∷ []) ∷ [])
    (((codes "loaded" ∷ codes "1" ∷ []) ∷ (codes "horizon" ∷ printed c.args.horizon ∷ []) ∷ []) ++ ((flat_map (loaded_lines c.args.net.now.link_names) (enumerate_from 0 (map loaded_of c.args.links.now))) ++ ((codes "end" ∷ []) ∷ []))) c.from_residual-in_err-write_links.result refl c.from_residual-in_err-write_links.ensures.0 c.in_ok-write_head.ensures c.in_err-write_links.ensures

pub returns : goal.returns
returns g c =
    wrote_next (((codes "loaded" ∷ codes "1" ∷ []) ∷ (codes "horizon" ∷ printed c.args.horizon ∷ []) ∷ []) ++ (flat_map (loaded_lines c.args.net.now.link_names) (enumerate_from 0 (map loaded_of c.args.links.now)))) ((codes "end" ∷ []) ∷ [])
    (((codes "loaded" ∷ codes "1" ∷ []) ∷ (codes "horizon" ∷ printed c.args.horizon ∷ []) ∷ []) ++ ((flat_map (loaded_lines c.args.net.now.link_names) (enumerate_from 0 (map loaded_of c.args.links.now))) ++ ((codes "end" ∷ []) ∷ []))) refl (wrote_next ((codes "loaded" ∷ codes "1" ∷ []) ∷ (codes "horizon" ∷ printed c.args.horizon ∷ []) ∷ []) (flat_map (loaded_lines c.args.net.now.link_names) (enumerate_from 0 (map loaded_of c.args.links.now))) (((codes "loaded" ∷ codes "1" ∷ []) ∷ (codes "horizon" ∷ printed c.args.horizon ∷ []) ∷ []) ++ (flat_map (loaded_lines c.args.net.now.link_names) (enumerate_from 0 (map loaded_of c.args.links.now)))) refl c.in_ok-write_head.ensures c.in_ok-write_links.ensures) c.write_line.ensures
