-- Links with their ends exchanged: the sum into a node is the sum out of it along the turned links.
use Rattle.std.proofs.Common.{◌≡◌, ℕ, suc, List, [], ◌∷◌, map, if◌then◌else◌, eqb, ap, refl}
use Rattle.nf_complete_laws.proofs.Common.{ℚ, ◌+ℚ◌, Link, sum_in, sum_out}

abbrev pub turned : Link → Link
turned link = record { tail = link.head; head = link.tail; transit = link.transit; capacity = link.capacity }

pub sum_in-turned : (links : List Link) (f : ℕ → ℚ) (v : ℕ) → sum_in links f v ≡ sum_out (map turned links) f v
sum_in-turned [] f v = refl
sum_in-turned (link ∷ links) f v = ap (λ (s : ℚ). if eqb link.head v then f 0 +ℚ s else s) (sum_in-turned links (λ e. f (suc e)) v)
