use Rattle.std.proofs.Common.{◌<◌, length, refl, sym, ap, ◌∙◌, arith, Some}
use Rattle.nf_routes_links.proofs.Common.{slice_get_read, ℚ, same_of}
use Rattle.nf_routes_links.proofs.points.value_there.Goals as goal

pub returns : goal.returns
returns c =
    let inside : c.args.place < length c.args.points.now = omega arith in
    let point = c.index-points-place.result in
    record {
      place = c.args.place;
      is = slice_get_read c.args.points.now _ c.args.place point refl inside c.index-points-place.is
          ∙ ap (λ (t : ℚ). Some (t, point.1)) (same_of point.0 c.args.time (sym c.is_same.ensures ∙ c.if-not-is_same.false));
    }
