-- The places of the active links among all links, and of the unknowns of a table.
use Rattle.std.proofs.Common.{◌≡◌, ℕ, zero, suc, ◌+◌, ◌<◌, ◌≤◌, List, [], ◌∷◌, ◌++◌, length, map, ◌⊎◌, inl, inr, Bool, true, false, Some, refl, sym, ap}
use Rattle.std.proofs.Common.{◌∙◌, add-one, arith, slice_get}
use Rattle.nf_thin_one.proofs.Common.{range_with_len, none-some, same_Some, slice_get_within, ℚ, number_at, Has, Network, Sets, Row, Unknown, SlopeOf}
use Rattle.nf_thin_one.proofs.Common.{FlowOn, active_from, unknowns, row, not_set}

-- how many links before number e are active
abbrev pub active_before : List Bool → ℕ → ℕ
active_before [] e = 0
active_before (active ∷ rest) zero = 0
active_before (true ∷ rest) (suc e) = suc (active_before rest e)
active_before (false ∷ rest) (suc e) = active_before rest e

pub none_before : (flags : List Bool) → active_before flags 0 ≡ 0
none_before [] = refl
none_before (b ∷ flags) = refl

one_before : (flags : List Bool) (e : ℕ) → Has flags e → active_before flags (suc e) ≡ suc (active_before flags e)
one_before [] e h = absurd (none-some true h)
one_before (true ∷ flags) zero h = ap suc (none_before flags)
one_before (false ∷ flags) zero h = absurd (not_set h)
one_before (true ∷ flags) (suc e) h = ap suc (one_before flags e h)
one_before (false ∷ flags) (suc e) h = one_before flags e h

no_more_before : (flags : List Bool) (e : ℕ) → slice_get flags e ≡ Some false → active_before flags (suc e) ≡ active_before flags e
no_more_before [] e h = absurd (none-some false h)
no_more_before (true ∷ flags) zero h = absurd (not_set (sym h))
no_more_before (false ∷ flags) zero h = none_before flags
no_more_before (true ∷ flags) (suc e) h = ap suc (no_more_before flags e h)
no_more_before (false ∷ flags) (suc e) h = no_more_before flags e h

-- the next number
pub one_more_before : (flags : List Bool) (e : ℕ) → Has flags e → active_before flags (e + 1) ≡ active_before flags e + 1
one_more_before flags e h = ap (active_before flags) (add-one e) ∙ (one_before flags e h ∙ sym (add-one (active_before flags e)))

pub none_more_before : (flags : List Bool) (e : ℕ) → slice_get flags e ≡ Some false → active_before flags (e + 1) ≡ active_before flags e
none_more_before flags e h = ap (active_before flags) (add-one e) ∙ no_more_before flags e h

pub all_before : (flags : List Bool) (k e : ℕ) → length flags ≤ e → active_before flags e ≡ length (active_from k flags)
all_before [] k e h = refl
all_before (b ∷ flags) k zero h = absurd (omega arith)
all_before (true ∷ flags) k (suc e) h = ap suc (all_before flags (suc k) e (omega arith))
all_before (false ∷ flags) k (suc e) h = all_before flags (suc k) e (omega arith)

pub few_before : (flags : List Bool) (e : ℕ) → active_before flags e ≤ e
few_before [] e = omega arith
few_before (b ∷ flags) zero = omega arith
few_before (true ∷ flags) (suc e) = let h = few_before flags e in omega arith
few_before (false ∷ flags) (suc e) = let h = few_before flags e in omega arith

pub before_grows : (flags : List Bool) (d e : ℕ) → Has flags d → d < e → active_before flags d < active_before flags e
before_grows [] d e h b = absurd (none-some true h)
before_grows (a ∷ flags) d zero h b = absurd (omega arith)
before_grows (true ∷ flags) zero (suc e) h b = omega arith
before_grows (false ∷ flags) zero (suc e) h b = absurd (not_set h)
before_grows (true ∷ flags) (suc d) (suc e) h b = let r = before_grows flags d e h (omega arith) in omega arith
before_grows (false ∷ flags) (suc d) (suc e) h b = before_grows flags d e h (omega arith)

pub before_within : (flags : List Bool) (k e : ℕ) → Has flags e → active_before flags e < length (active_from k flags)
before_within flags k e h =
    let a = before_grows flags e (length flags) h (slice_get_within flags e true h) in
    let b = all_before flags k (length flags) (let s : length flags ≤ length flags = omega arith in s) in
    omega arith

pub active_at : (flags : List Bool) (k j e : ℕ) → slice_get (active_from k flags) j ≡ Some e → (i : ℕ) × (e ≡ k + i) × Has flags i × (j ≡ active_before flags i)
active_at [] k j e h = absurd (none-some e h)
active_at (true ∷ flags) k zero e h = (0, (let s = same_Some k e h in omega arith), refl, refl)
active_at (true ∷ flags) k (suc j) e h = let r = active_at flags (suc k) j e h in (suc r.0, (let s = r.1 in omega arith), r.2, ap suc r.3)
active_at (false ∷ flags) k j e h = let r = active_at flags (suc k) j e h in (suc r.0, (let s = r.1 in omega arith), r.2, r.3)

-- ---- the unknown of a column
unknown_at : (n k : ℕ) (flags : List Bool) (j : ℕ) (u : Unknown) → slice_get (map SlopeOf (range_with_len k n) ++ map FlowOn (active_from 0 flags)) j ≡ Some u
    → ((u ≡ SlopeOf (k + j)) × (j < n)) ⊎ ((e : ℕ) × (u ≡ FlowOn e) × Has flags e × (j ≡ n + active_before flags e))
unknown_at zero k flags j u h = inr (flow (active_from 0 flags) j h (λ e g. active_at flags 0 j e g))
  where
    flow : (active : List ℕ) (i : ℕ) → slice_get (map FlowOn active) i ≡ Some u
        → ((e : ℕ) → slice_get active i ≡ Some e → (i : ℕ) × (e ≡ 0 + i) × Has flags i × (j ≡ active_before flags i))
        → (e : ℕ) × (u ≡ FlowOn e) × Has flags e × (j ≡ 0 + active_before flags e)
    flow [] i g f = absurd (none-some u g)
    flow (e ∷ active) zero g f = let r = f e refl in
        (r.0, sym (same_Some (FlowOn e) u g) ∙ ap FlowOn (let s : e ≡ 0 + r.0 = r.1 in let t : e ≡ r.0 = omega arith in t), r.2, (let s = r.3 in omega arith))
    flow (e ∷ active) (suc i) g f = flow active i g f
unknown_at (suc n) k flags zero u h = inl (sym (same_Some (SlopeOf k) u h) ∙ ap SlopeOf (let s : k ≡ k + 0 = omega arith in s), (let s : 0 < suc n = omega arith in s))
unknown_at (suc n) k flags (suc j) u h = go (unknown_at n (k + 1) flags j u h)
  where
    go : ((u ≡ SlopeOf (k + 1 + j)) × (j < n)) ⊎ ((e : ℕ) × (u ≡ FlowOn e) × Has flags e × (j ≡ n + active_before flags e))
        → ((u ≡ SlopeOf (k + suc j)) × (suc j < suc n)) ⊎ ((e : ℕ) × (u ≡ FlowOn e) × Has flags e × (suc j ≡ suc n + active_before flags e))
    go (inl s) = inl (s.0 ∙ ap SlopeOf (let t : k + 1 + j ≡ k + suc j = omega arith in t), (let t = s.1 in omega arith))
    go (inr f) = inr (f.0, f.1, f.2, (let t = f.3 in omega arith))

-- ---- a row by its entries
row_is : (us : List Unknown) (factor : Unknown → ℚ) (right : ℚ) (numbers : Row) → length numbers ≡ suc (length us)
    → ((j : ℕ) (u : Unknown) → slice_get us j ≡ Some u → number_at numbers j ≡ factor u)
    → number_at numbers (length us) ≡ right → numbers ≡ row us factor right
row_is [] factor right [] e h r = absurd (cc)
row_is [] factor right (x ∷ []) e h r = ap (λ (y : ℚ). y ∷ []) r
row_is [] factor right (x ∷ y ∷ numbers) e h r = absurd (omega arith)
row_is (u ∷ us) factor right [] e h r = absurd (cc)
row_is (u ∷ us) factor right (x ∷ numbers) e h r =
    ap (λ (y : ℚ). y ∷ numbers) (h 0 u refl) ∙ ap (λ (l : Row). factor u ∷ l) (row_is us factor right numbers (cc) (λ j v at. h (suc j) v at) r)

pub row_of_entries : (net : Network) (sets : Sets) (factor : Unknown → ℚ) (right : ℚ) (numbers : Row) → length numbers ≡ suc (length (unknowns net sets))
    → ((v : ℕ) → v < net.nodes → number_at numbers v ≡ factor (SlopeOf v))
    → ((e : ℕ) → Has sets.active e → number_at numbers (net.nodes + active_before sets.active e) ≡ factor (FlowOn e))
    → number_at numbers (length (unknowns net sets)) ≡ right
    → numbers ≡ row (unknowns net sets) factor right
row_of_entries net sets factor right numbers count slopes flows r =
    row_is (unknowns net sets) factor right numbers count (λ j u at. by_kind j u (unknown_at net.nodes 0 sets.active j u at)) r
  where
    by_kind : (j : ℕ) (u : Unknown) → ((u ≡ SlopeOf (0 + j)) × (j < net.nodes)) ⊎ ((e : ℕ) × (u ≡ FlowOn e) × Has sets.active e × (j ≡ net.nodes + active_before sets.active e))
        → number_at numbers j ≡ factor u
    by_kind j u (inl s) = slopes j s.1 ∙ ap factor (ap SlopeOf (let t : j ≡ 0 + j = omega arith in t) ∙ sym s.0)
    by_kind j u (inr f) = ap (number_at numbers) f.3 ∙ flows f.0 f.2 ∙ ap factor (sym f.1)
