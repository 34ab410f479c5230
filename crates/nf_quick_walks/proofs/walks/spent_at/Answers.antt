use Rattle.std.proofs.Common.{◌≡◌, ℕ, zero, suc, ◌<◌, List, [], ◌∷◌, length, get_or, Some, slice_get, refl, sym, subst, arith}
use Rattle.nf_quick_walks.proofs.walks.spent_at.Goals as goal

entry_at : (spent : List ℕ) (v : ℕ) → v < length spent → slice_get spent v ≡ Some (get_or spent v 0)
entry_at [] v b = absurd (omega arith)
entry_at (n ∷ spent) zero b = refl
entry_at (n ∷ spent) (suc v) b = entry_at spent v (omega arith)

pub returns : goal.returns
returns c = subst (λ (i : ℕ). slice_get c.args.spent.now c.args.node ≡ Some (get_or c.args.spent.now i 0)) (sym c.index.ensures) (entry_at c.args.spent.now c.args.node c.requires)
