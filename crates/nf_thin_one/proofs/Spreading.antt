-- The flows of all links, taken link by link from the values of the unknowns.
use Rattle.std.proofs.Common.{◌≡◌, ℕ, suc, ◌+◌, ◌<◌, List, [], ◌∷◌, ◌++◌, length, drop, append_assoc, Bool, true, false, refl, sym, ap, ◌∙◌, arith, Some}
use Rattle.std.proofs.Common.{slice_get}
use Rattle.nf_thin_one.proofs.Common.{ℚ, 0ℚ, active_from, onto_links, link_flows_in, drop_entry}

-- the flows of the links before link e, with the values from this place on left for the others
pub record AreFlows (active : List Bool) (values : List ℚ) (nodes : ℕ) (flows : List ℚ) (e next : ℕ) : Type 0 where
  pub said : flows ++ onto_links (drop e active) (drop next values) ≡ link_flows_in nodes active values
  pub left : next + length (active_from 0 (drop e active)) ≡ length values

same_count : (active : List Bool) (j k : ℕ) → length (active_from j active) ≡ length (active_from k active)
same_count [] j k = refl
same_count (true ∷ active) j k = ap suc (same_count active (suc j) (suc k))
same_count (false ∷ active) j k = same_count active (suc j) (suc k)

module _ (active : List Bool) (values : List ℚ) (nodes : ℕ) where
  module _ (flows : List ℚ) (e next : ℕ) (so : AreFlows active values nodes flows e next) where
    pub has_value : slice_get active e ≡ Some true → next < length values
    has_value at =
        let l = so.left in
        let c : length (active_from 0 (drop e active)) ≡ suc (length (active_from 1 (drop (suc e) active))) =
        ap (λ (a : List Bool). length (active_from 0 a)) (drop_entry active e true at) in
        omega arith

    pub active_more : (value : ℚ) (i j : ℕ) → i ≡ e + 1 → j ≡ next + 1 → slice_get active e ≡ Some true → slice_get values next ≡ Some value
        → AreFlows active values nodes (flows ++ value ∷ []) i j
    active_more value i j same_i same_j at at_value = record {
      said = append_assoc flows (value ∷ []) (onto_links (drop i active) (drop j values))
          ∙ ap (λ (l : List ℚ). flows ++ l) (sym parts) ∙ so.said;
      left = count;
    }
      where
        parts : onto_links (drop e active) (drop next values) ≡ value ∷ onto_links (drop i active) (drop j values)
        parts =
            ap (λ (a : List Bool). onto_links a (drop next values)) (drop_entry active e true at)
            ∙ ap (onto_links (true ∷ drop (suc e) active)) (drop_entry values next value at_value)
            ∙ ap (λ (k : ℕ). value ∷ onto_links (drop k active) (drop (suc next) values)) (let s : suc e ≡ i = omega arith in s)
            ∙ ap (λ (k : ℕ). value ∷ onto_links (drop i active) (drop k values)) (let s : suc next ≡ j = omega arith in s)

        count : j + length (active_from 0 (drop i active)) ≡ length values
        count =
            let l = so.left in
            let c : length (active_from 0 (drop e active)) ≡ suc (length (active_from 1 (drop (suc e) active))) =
            ap (λ (a : List Bool). length (active_from 0 a)) (drop_entry active e true at) in
            let d : length (active_from 1 (drop (suc e) active)) ≡ length (active_from 0 (drop i active)) =
            same_count (drop (suc e) active) 1 0 ∙ ap (λ (k : ℕ). length (active_from 0 (drop k active))) (let s : suc e ≡ i = omega arith in s) in
            omega arith

    pub inactive_more : (i : ℕ) → i ≡ e + 1 → slice_get active e ≡ Some false → AreFlows active values nodes (flows ++ 0ℚ ∷ []) i next
    inactive_more i same_i at = record {
      said = append_assoc flows (0ℚ ∷ []) (onto_links (drop i active) (drop next values))
          ∙ ap (λ (l : List ℚ). flows ++ l) (sym parts) ∙ so.said;
      left = count;
    }
      where
        parts : onto_links (drop e active) (drop next values) ≡ 0ℚ ∷ onto_links (drop i active) (drop next values)
        parts =
            ap (λ (a : List Bool). onto_links a (drop next values)) (drop_entry active e false at)
            ∙ ap (λ (k : ℕ). 0ℚ ∷ onto_links (drop k active) (drop next values)) (let s : suc e ≡ i = omega arith in s)

        count : next + length (active_from 0 (drop i active)) ≡ length values
        count =
            let l = so.left in
            let c : length (active_from 0 (drop e active)) ≡ length (active_from 1 (drop (suc e) active)) =
            ap (λ (a : List Bool). length (active_from 0 a)) (drop_entry active e false at) in
            let d : length (active_from 1 (drop (suc e) active)) ≡ length (active_from 0 (drop i active)) =
            same_count (drop (suc e) active) 1 0 ∙ ap (λ (k : ℕ). length (active_from 0 (drop k active))) (let s : suc e ≡ i = omega arith in s) in
            omega arith
