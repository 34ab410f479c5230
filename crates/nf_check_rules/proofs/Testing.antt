-- The list of a check is that of its parts, one after the other.
use Rattle.std.proofs.Common.{◌≡◌, ℕ, List, refl, sym, ap, ◌∙◌, Ok, Err}
use Rattle.nf_check_rules.proofs.Common.{enumerate_from, Passing, each, ◌>>=◌, Load, Check, ℚ, Point, checked_sum, checked_composed, Network, Flow}
use Rattle.nf_check_rules.proofs.Common.{points_at, points_of, checked_cumulative, C3, C7, Node, numbers_of_nodes, numbers_of_links, nodes_but, Trial}
use Rattle.nf_check_rules.proofs.Common.{in_part, departures, total_in, total_out, compared, label_cut, inflow_rule, link_rates, loading, arrivals}
use Rattle.nf_check_rules.proofs.Common.{outflow_rule, queue_rule, balance, sink_rules, route, Ended, EndsAs, done, first_value, compared_by}
use Rattle.nf_load_def.specs.Loading.{Loaded}
use Rattle.nf_check_def.specs.CheckList.{trial}
use Rattle.nf_check_rules.proofs.Trying.{ends, ends_as}
use Rattle.nf_check_rules.proofs.PointByPoint.{first_same}
use Rattle.nf_check_rules.specs.Steps.{worked_list, arrivals_list, told_list, balances_list, compared_list, tested_list}

-- the rules that compare curves
compared_same : {A B C P D V : Type 0} (c : Trial (Unit {0})) (a : Trial A) (o : Trial B) (q : Trial C) (s : Trial P) (b : P → Trial D) (k : P → Trial (Unit {0})) (e : Trial V)
    → done (c >>= λ _. a >>= λ _. o >>= λ _. q >>= λ _. s >>= λ p. b p >>= λ _. k p >>= λ _. e)
    ≡ ((c >>= λ _. done a) >>= λ _. (done o >>= λ _. done q) >>= λ _. (s >>= λ p. done (b p) >>= λ _. k p) >>= λ _. done e)
compared_same (Err x) a o q s b k e = refl
compared_same (Ok u) (Err x) o q s b k e = refl
compared_same (Ok u) (Ok v) (Err x) q s b k e = refl
compared_same (Ok u) (Ok v) (Ok w) (Err x) s b k e = refl
compared_same (Ok u) (Ok v) (Ok w) (Ok y) (Err x) b k e = refl
compared_same {A} {B} {C} {P} {D} {V} (Ok u) (Ok v) (Ok w) (Ok y) (Ok p) b k e = go (b p) (k p)
  where
    go : (r : Trial D) (t : Trial (Unit {0})) → done (r >>= λ _. t >>= λ _. e) ≡ ((done r >>= λ _. t) >>= λ _. done e)
    go (Err x) t = refl
    go (Ok z) (Err x) = refl
    go (Ok z) (Ok n) = refl

-- the rules of points, and then the others
abbrev beside : {A B : Type 0} → A → Trial B → Trial (A × B)
beside x (Ok y) = Ok (x, y)
beside x (Err p) = Err p

worked_same : {A X Y B V : Type 0} (l : Trial A) (i : Trial X) (r : Trial Y) (d : A → Trial B) (rest : A → B → Trial V) (f : A → B → Trial (Unit {0}))
    → ((x : A) (y : B) → done (rest x y) ≡ f x y)
    → done (l >>= λ x. i >>= λ _. r >>= λ _. d x >>= λ y. rest x y) ≡ ((l >>= λ x. done i >>= λ _. done r >>= λ _. beside x (d x)) >>= λ w. f w.0 w.1)
worked_same (Err p) i r d rest f same = refl
worked_same (Ok x) (Err p) r d rest f same = refl
worked_same (Ok x) (Ok u) (Err p) d rest f same = refl
worked_same {A} {X} {Y} {B} {V} (Ok x) (Ok u) (Ok v) d rest f same = go (d x)
  where
    go : (t : Trial B) → done (t >>= λ y. rest x y) ≡ (beside x t >>= λ w. f w.0 w.1)
    go (Err p) = refl
    go (Ok y) = same x y

-- what was worked out, as it is said
abbrev Pair : Type 0
Pair = List (List Point) × List Loaded

worked_is : (passes : Passing) (net : Network) (flow : Flow) → worked_list passes net flow
    ≡ (each (label_cut passes net flow) (numbers_of_nodes net) >>= λ labels. done (each (inflow_rule passes net flow) (numbers_of_links net)) >>= λ _. done
    (each (link_rates passes net flow) (numbers_of_links net)) >>= λ _. beside labels (each (loading passes net flow labels) (enumerate_from 0 net.links)))
unfolding worked_list
worked_is passes net flow =
    go (each (label_cut passes net flow) (numbers_of_nodes net)) (done (each (inflow_rule passes net flow) (numbers_of_links net)))
    (done (each (link_rates passes net flow) (numbers_of_links net)))
  where
    one : (labels : List (List Point)) (r : Trial (List Loaded)) → (r >>= λ loaded. let both : Pair = (labels, loaded) in Ok both) ≡ beside labels r
    one labels (Ok loaded) = refl
    one labels (Err p) = refl

    go : (l : Trial (List (List Point))) (i r : Trial (Unit {0}))
        → (l >>= λ labels. i >>= λ _. r >>= λ _. each (loading passes net flow labels) (enumerate_from 0 net.links) >>= λ loaded. let both : Pair = (labels, loaded) in Ok both)
        ≡ (l >>= λ labels. i >>= λ _. r >>= λ _. beside labels (each (loading passes net flow labels) (enumerate_from 0 net.links)))
    go (Err p) i r = refl
    go (Ok labels) (Err p) r = refl
    go (Ok labels) (Ok u) (Err p) = refl
    go (Ok labels) (Ok u) (Ok v) = one labels (each (loading passes net flow labels) (enumerate_from 0 net.links))

pub tested-is : (passes : Passing) (net : Network) (flow : Flow) → done (trial passes net flow) ≡ tested_list passes net flow
unfolding trial tested_list compared_list arrivals_list told_list balances_list
tested-is passes net flow =
    worked_same (each (label_cut passes net flow) (numbers_of_nodes net)) (each (inflow_rule passes net flow) (numbers_of_links net))
    (each (link_rates passes net flow) (numbers_of_links net))
    (λ labels. each (loading passes net flow labels) (enumerate_from 0 net.links)) _ (λ labels loaded. compared_list passes net flow labels loaded)
    (λ labels loaded. compared_same (compared passes net flow C3 (Node net.source) (points_at labels net.source) (departures flow.reached) flow.reached)
    (each (arrivals passes net flow labels loaded) (nodes_but net.source net)) (each (outflow_rule passes net flow labels loaded) (enumerate_from 0 net.links))
    (each (queue_rule passes net flow labels loaded) (enumerate_from 0 net.links)) (in_part Load (checked_cumulative passes net.pieces flow.reached))
    (λ supplied. each (balance passes net flow labels loaded supplied) (nodes_but net.sink net)) (λ supplied. sink_rules passes net flow labels loaded supplied)
    (each (route passes net flow labels loaded) (enumerate_from 0 net.links)))
    ∙ sym (ap (λ (r : Trial Pair). r >>= λ w. compared_list passes net flow w.0 w.1) (worked_is passes net flow))

-- a label that ends the check
pub labels_end : (passes : Passing) (net : Network) (flow : Flow) (e : Ended) → EndsAs e (each (label_cut passes net flow) (numbers_of_nodes net)) → EndsAs e (done (trial passes net flow))
unfolding tested_list worked_list
labels_end passes net flow e h =
    ends_as e (done (trial passes net flow)) (tested_list passes net flow) (tested-is passes net flow)
    (ends e (worked_list passes net flow) (λ worked. compared_list passes net flow worked.0 worked.1) (ends e (each (label_cut passes net flow) (numbers_of_nodes net)) _ h))

-- ---- the labels at the source, however they are named
pub arrivals-is : (passes : Passing) (net : Network) (flow : Flow) (labels : List (List Point)) (loaded : List Loaded) (source : ℕ) (label line : List Point) → source ≡ net.source
    → label ≡ points_at labels net.source → line ≡ departures flow.reached
    → arrivals_list passes net flow labels loaded ≡ (compared_by passes C3 (Node source) label line flow.reached >>= λ _. done
    (each (arrivals passes net flow labels loaded) (nodes_but net.source net)))
unfolding arrivals_list
arrivals-is passes net flow labels loaded source label line e f g =
    sym (ap (λ (s : ℕ). compared_by passes C3 (Node s) label line flow.reached >>= λ _. done (each (arrivals passes net flow labels loaded) (nodes_but net.source net))) e
    ∙ ap (λ (l : List Point). compared_by passes C3 (Node net.source) l line flow.reached >>= λ _. done (each (arrivals passes net flow labels loaded) (nodes_but net.source net))) f
    ∙ ap (λ (l : List Point). compared_by passes C3 (Node net.source) (points_at labels net.source) l flow.reached >>= λ _. done
    (each (arrivals passes net flow labels loaded) (nodes_but net.source net))) g)

-- ---- the sink, however it is named
module _ (passes : Passing) (net : Network) (flow : Flow) (labels : List (List Point)) (loaded : List Loaded) (supplied : List Point) where
  abbrev at_sink : ℕ → List Point → ℚ → Trial (Unit {0})
  at_sink sink label first = do
    comes ← in_part Check (total_in passes loaded net.links sink)
    goes ← in_part Check (total_out passes (points_of flow.inflows) net.links sink)
    _ ← compared_by passes C7 (Node sink) comes goes first
    come ← in_part Check (checked_composed passes comes label flow.reached)
    gone ← in_part Check (checked_composed passes goes label flow.reached)
    total ← in_part Check (checked_sum passes gone supplied)
    compared_by passes C7 (Node sink) come total flow.reached

  pub sink-is : (sink : ℕ) (label : List Point) (first : ℚ) → sink ≡ net.sink → label ≡ points_at labels net.sink → first ≡ first_value label
      → sink_rules passes net flow labels loaded supplied ≡ at_sink sink label first
  sink-is sink label first e f g =
      ap (λ (t : ℚ). at_sink net.sink (points_at labels net.sink) t) (sym (g ∙ ap first_value f ∙ first_same passes net flow (points_at labels net.sink)))
      ∙ sym (ap (λ (l : List Point). at_sink net.sink l first) f) ∙ sym (ap (λ (s : ℕ). at_sink s label first) e)
