use Rattle.std.proofs.Common.{◌≡◌, ℕ, ◌+◌, suc, length, take, drop, refl, sym, ◌∙◌, arith, flat_map, map, slice_get, Some}
use Rattle.nf_app_answers.proofs.Common.{enumerate_from, length-map, slice_get_read, loaded_lines, loaded_of, next_part, parts_left, all_parts, wrote_next}
use Rattle.nf_app_answers.proofs.Common.{wrote_then_failed, same_lines}
use Rattle.nf_load_def.specs.Loading as lists
use Rattle.nf_app_answers.proofs.LoadLines.{numbered_there, numbered_length}
use Rattle.nf_app_answers.proofs.load_text.write_links.Goals as goal

pub returns-in_err-write_curves : goal.returns-in_err-write_curves
returns-in_err-write_curves g c =
    let i = c.loop-link.link in
    let x : ℕ × lists.Loaded = (i, loaded_of c.index-links-link.result) in
    let there : slice_get (enumerate_from 0 (map loaded_of c.args.links.now)) i ≡ Some x = numbered_there loaded_of c.args.links.now i c.index-links-link.result
    (slice_get_read c.args.links.now (length c.args.links.now) i c.index-links-link.result refl (omega arith) c.index-links-link.is) in
    wrote_then_failed (flat_map (loaded_lines c.args.net.now.link_names) (take i (enumerate_from 0 (map loaded_of c.args.links.now))))
    (loaded_lines c.args.net.now.link_names x) (flat_map (loaded_lines c.args.net.now.link_names)
    (drop (suc i) (enumerate_from 0 (map loaded_of c.args.links.now))))
    (flat_map (loaded_lines c.args.net.now.link_names) (enumerate_from 0 (map loaded_of c.args.links.now))) _
    (parts_left (loaded_lines c.args.net.now.link_names) (enumerate_from 0 (map loaded_of c.args.links.now)) i x there) c.from_residual.ensures.0
    c.loop-link.invariant c.in_err-write_curves.ensures

pub loop-link-preserved : goal.loop-link-preserved
loop-link-preserved g c =
    let i = c.loop-link.link in
    let x : ℕ × lists.Loaded = (i, loaded_of c.index-links-link.result) in
    let there : slice_get (enumerate_from 0 (map loaded_of c.args.links.now)) i ≡ Some x = numbered_there loaded_of c.args.links.now i c.index-links-link.result
    (slice_get_read c.args.links.now (length c.args.links.now) i c.index-links-link.result refl (omega arith) c.index-links-link.is) in
    wrote_next (flat_map (loaded_lines c.args.net.now.link_names) (take i (enumerate_from 0 (map loaded_of c.args.links.now))))
    (loaded_lines c.args.net.now.link_names x) (flat_map (loaded_lines c.args.net.now.link_names)
    (take (i + 1) (enumerate_from 0 (map loaded_of c.args.links.now))))
    (next_part (loaded_lines c.args.net.now.link_names) (enumerate_from 0 (map loaded_of c.args.links.now)) i x there) c.loop-link.invariant c.in_ok-write_curves.ensures

pub returns : goal.returns
returns g c =
    let i = c.loop-link.link in
    let end : i ≡ length c.args.links.now = omega arith in
    same_lines (flat_map (loaded_lines c.args.net.now.link_names) (take i (enumerate_from 0 (map loaded_of c.args.links.now))))
    (flat_map (loaded_lines c.args.net.now.link_names) (enumerate_from 0 (map loaded_of c.args.links.now)))
    (all_parts (loaded_lines c.args.net.now.link_names) (enumerate_from 0 (map loaded_of c.args.links.now)) i
    (end ∙ sym (numbered_length loaded_of c.args.links.now ∙ length-map c.args.links.now loaded_of))) c.loop-link.invariant
