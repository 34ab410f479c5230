-- Lines on standard error, in pieces.
use Rattle.std.proofs.Common.{◌≡◌, ℕ, List, [], ◌∷◌, ◌++◌, refl, sym, subst, ap, ◌∙◌, append_assoc, append-nil, flat_map, codes, Option, Result}
use Rattle.nf_app_answers.proofs.Common.{SinkState, Wrote, line_of_words, said}

pub rule_pieces : (file digits rule : List ℕ) → codes "nfot: " ++ (file ++ (codes " line " ++ (digits ++ (codes ": " ++ (rule ++ (codes "\n" ++ []))))))
    ≡ said (file ∷ codes "line" ∷ (digits ++ codes ":") ∷ rule ∷ [])
rule_pieces file digits rule =
    ap (λ l. codes "nfot: " ++ l)
    (ap (λ l. file ++ (codes " line " ++ l)) (sym (append_assoc (digits ++ 58 ∷ []) (32 ∷ rule) (10 ∷ []) ∙ append_assoc digits (58 ∷ []) ((32 ∷ rule) ++ 10 ∷ [])))
    ∙ sym (append_assoc file (codes " line " ++ ((digits ++ 58 ∷ []) ++ 32 ∷ rule)) (10 ∷ [])))

pub stopped_pieces : (words : List (List ℕ)) → codes "nfot: " ++ flat_map line_of_words ((codes "stopped:" ∷ words) ∷ []) ≡ said (codes "stopped:" ∷ words)
stopped_pieces words = ap (λ l. codes "nfot: " ++ l) (append-nil (line_of_words (codes "stopped:" ∷ words)))

pub augments_pieces : (digits : List ℕ) → codes "nfot: augments " ++ (digits ++ (codes "\n" ++ [])) ≡ said (codes "augments" ∷ digits ∷ [])
augments_pieces digits = refl

-- the same text, in other words
pub same_text : {E : Type 0} {old now : SinkState} {r : Result (Unit {0}) E} (first text : List ℕ) → first ≡ text → Wrote old now first r
    → Wrote old now text r
same_text {E} {old} {now} {r} first text e w = subst (λ (t : List ℕ). Wrote old now t r) e w
