use Rattle.std.proofs.Common.{ℕ, ◌+◌, ◌<◌, List, [], ◌∷◌, ◌++◌, length, take, replicate, refl, sym, ap, ◌∙◌, add-one, arith, length-set, rules}
use Rattle.nf_linear.proofs.Common.{take_more_set, 0ℚ, Row}
use borrow.Author.Rules.{scaled_Fits}
use Rattle.nf_linear.proofs.Grids.{all_copies}
use Rattle.nf_linear.proofs.Taken.{replicate_more}
use Rattle.nf_linear.proofs.grid.wipe.Goals as goal

pub loop-i-init : goal.loop-i-init
loop-i-init g c = (refl, refl)

pub bounds-rows-i : goal.bounds-rows-i
bounds-rows-i g c = let same = c.loop-i.invariant.1 in let here = c.loop-i-test.true in omega arith

pub wipe_row-requires : goal.wipe_row-requires
wipe_row-requires g c = (search rules, c.requires)

pub loop-i-preserved : goal.loop-i-preserved
loop-i-preserved g c =
    let same = c.loop-i.invariant.1 in
    let test = c.loop-i-test.true in
    let here : c.loop-i.i < length c.loop-i.rows = omega arith in (
      take_more_set c.loop-i.rows c.loop-i.i c.wipe_row.new.row here
          ∙ ap (λ (row : Row). take c.loop-i.i c.loop-i.rows ++ row ∷ []) c.wipe_row.ensures
          ∙ ap (λ (rows : List Row). rows ++ replicate (c.args.size + 1) 0ℚ ∷ []) c.loop-i.invariant.0
          ∙ replicate_more c.loop-i.i (replicate (c.args.size + 1) 0ℚ)
          ∙ ap (λ (k : ℕ). replicate k (replicate (c.args.size + 1) 0ℚ)) (sym (add-one c.loop-i.i)),
      length-set c.loop-i.rows c.loop-i.i c.wipe_row.new.row ∙ same,
    )

pub returns : goal.returns
returns g c =
    all_copies c.loop-i.rows c.loop-i.i (length c.args.rows.now) (replicate (c.args.size + 1) 0ℚ) c.loop-i.invariant.0 c.loop-i.invariant.1 c.loop-i-test.false c.loop-i.auto.i-end

pub offset_bounds-rows-i : goal.offset_bounds-rows-i
offset_bounds-rows-i g c = let b = c.loop-i-test.true in search scaled_Fits
