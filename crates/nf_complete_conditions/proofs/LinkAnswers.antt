-- Answers of the tests on a link: whether it enters a node, has equal slopes, is resetting or carries flow, and is active if it carries
-- flow.
use Rattle.std.proofs.Common.{◌≡◌, ◌≢◌, inr, ⊎_elim, ℕ, Bool, not, eqb, List, ap, subst, ◌∙◌, MatchBool}
use Rattle.nf_complete_conditions.proofs.Common.{Decides-eqb, Decides-not, ℚ, 0ℚ, number_at, Has, Link, Network, IsLink, Sets, IsLink-unique, same_test}
use Rattle.nf_complete_conditions.proofs.Common.{LeadsInto, IsLevelAt, Brings, CarriesIfActive}
use Rattle.nf_complete_conditions.proofs.Deciding.{says_by, says_like, Decides-same}

pub level_of : (net : Network) (slopes : List ℚ) (e : ℕ) (link : Link) → IsLink net e link → number_at slopes link.head ≡ number_at slopes link.tail → IsLevelAt net slopes e
level_of net slopes e link p h other q = subst (λ (k : Link). number_at slopes k.head ≡ number_at slopes k.tail) (IsLink-unique net e link other p q) h

pub leads_told : (net : Network) (sets : Sets) (v e : ℕ) (link : Link) (b : Bool) → IsLink net e link → Has sets.active e → b ≡ eqb link.head v
    → MatchBool b (LeadsInto net sets v e) (LeadsInto net sets v e → ⊥)
leads_told net sets v e link b p a same = says_like b
    (λ (h : link.head ≡ v). (link, record { is_link = p; active = a; head = h }))
    (λ (w : LeadsInto net sets v e). ap (λ (k : Link). k.head) (IsLink-unique net e link w.0 p w.1.is_link) ∙ w.1.head)
    (says_by b (eqb link.head v) same (Decides-eqb link.head v))

pub level_told : (net : Network) (slopes : List ℚ) (e : ℕ) (link : Link) (b : Bool) → IsLink net e link → b ≡ same_test (number_at slopes link.head) (number_at slopes link.tail)
    → MatchBool b (IsLevelAt net slopes e) (IsLevelAt net slopes e → ⊥)
level_told net slopes e link b p same = says_like b
    (λ (h : number_at slopes link.head ≡ number_at slopes link.tail). level_of net slopes e link p h)
    (λ (w : IsLevelAt net slopes e). w link p)
    (says_by b (same_test (number_at slopes link.head) (number_at slopes link.tail)) same (Decides-same (number_at slopes link.head) (number_at slopes link.tail)))

pub brings_told : (sets : Sets) (flows : List ℚ) (e : ℕ) (b : Bool) → (Has sets.resetting e → ⊥) → b ≡ same_test (number_at flows e) 0ℚ
    → MatchBool (not b) (Brings sets flows e) (Brings sets flows e → ⊥)
brings_told sets flows e b none same = says_like (not b)
    (λ (h : number_at flows e ≢ 0ℚ). inr h)
    (λ (w : Brings sets flows e). ⊎_elim (λ (r : Has sets.resetting e). absurd (none r)) (λ (z : number_at flows e ≢ 0ℚ). z) w)
    (says_by (not b) (not (same_test (number_at flows e) 0ℚ)) (ap not same) (Decides-not (same_test (number_at flows e) 0ℚ) (Decides-same (number_at flows e) 0ℚ)))

pub carries_told : (sets : Sets) (flows : List ℚ) (e : ℕ) (b : Bool) → (Has sets.active e → ⊥) → b ≡ same_test (number_at flows e) 0ℚ
    → MatchBool b (CarriesIfActive sets flows e) (CarriesIfActive sets flows e → ⊥)
carries_told sets flows e b none same = says_like b
    (λ (h : number_at flows e ≡ 0ℚ). λ _. h)
    (λ (w : CarriesIfActive sets flows e). w none)
    (says_by b (same_test (number_at flows e) 0ℚ) same (Decides-same (number_at flows e) 0ℚ))
