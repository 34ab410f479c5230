-- Injective codes of the model's types. The views of code types depend on them.
use base.Stored.{coded_unit}
use Rattle.std.specs.Prelude.{◌≡◌, ℕ, Bool, List, Option, Some, None, refl}
use Rattle.std.specs.Coded.{Coded, code_by, coded×, coded_ℕ, coded_bool, coded_list, coded_option}
use Rattle.nf_rational.specs.Rational.{ℚ, coded_ℚ}
use Rattle.nf_model.specs.declared.State.{State}
use Rattle.nf_model.specs.declared.State.TheVariants.{Tight, Full, Zero}
use Rattle.nf_model.specs.Walk.{Hop}
use Rattle.nf_model.specs.Network.{Link, Piece, Network}
use Rattle.nf_model.specs.ThinFlow.{Sets}
use Rattle.nf_model.specs.Pattern.{Pattern}

abbrev pub coded_point : Coded (ℚ × ℚ)
coded_point = coded× coded_ℚ coded_ℚ

abbrev pub coded_points : Coded (List (ℚ × ℚ))
coded_points = coded_list coded_point

abbrev pub coded_hop : Coded Hop
coded_hop = code_by (ℕ × (ℕ × ℚ)) (coded× coded_ℕ (coded× coded_ℕ coded_ℚ))
    (λ h. (h.tail, (h.head, h.transit))) (λ p. record { tail = p.0; head = p.1.0; transit = p.1.1 }) (λ _. refl)

abbrev pub coded_link : Coded Link
coded_link = code_by (ℕ × (ℕ × (ℚ × Option ℚ))) (coded× coded_ℕ (coded× coded_ℕ (coded× coded_ℚ (coded_option coded_ℚ))))
    (λ l. (l.tail, (l.head, (l.transit, l.capacity))))
    (λ p. record { tail = p.0; head = p.1.0; transit = p.1.1.0; capacity = p.1.1.1 }) (λ _. refl)

abbrev pub coded_piece : Coded Piece
coded_piece = code_by (ℚ × ℚ) (coded× coded_ℚ coded_ℚ) (λ p. (p.start, p.rate)) (λ p. record { start = p.0; rate = p.1 }) (λ _. refl)

abbrev pub coded_network : Coded Network
coded_network = code_by (ℕ × (ℕ × (ℕ × (List Link × List Piece))))
    (coded× coded_ℕ (coded× coded_ℕ (coded× coded_ℕ (coded× (coded_list coded_link) (coded_list coded_piece)))))
    (λ n. (n.nodes, (n.source, (n.sink, (n.links, n.pieces)))))
    (λ p. record { nodes = p.0; source = p.1.0; sink = p.1.1.0; links = p.1.1.1.0; pieces = p.1.1.1.1 }) (λ _. refl)

abbrev pub coded_sets : Coded Sets
coded_sets = code_by (List Bool × List Bool) (coded× (coded_list coded_bool) (coded_list coded_bool))
    (λ s. (s.active, s.resetting)) (λ p. record { active = p.0; resetting = p.1 }) (λ _. refl)

abbrev state_code : State → Option (Option (Unit {0}))
state_code Tight = None
state_code Full = Some None
state_code Zero = Some (Some tt)

abbrev state_of : Option (Option (Unit {0})) → State
state_of None = Tight
state_of (Some None) = Full
state_of (Some (Some _)) = Zero

pub state_of-code : (s : State) → state_of (state_code s) ≡ s
state_of-code Tight = refl
state_of-code Full = refl
state_of-code Zero = refl

abbrev pub coded_state : Coded State
coded_state = code_by (Option (Option (Unit {0}))) (coded_option (coded_option coded_unit)) state_code state_of state_of-code

abbrev pub coded_pattern : Coded Pattern
coded_pattern = coded_list (coded_option coded_state)
