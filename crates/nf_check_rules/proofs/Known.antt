-- What is known of the labels and inflows once the first rules hold.
use Rattle.std.proofs.Common.{◌≡◌, ℕ, zero, suc, ◌+◌, ◌-◌, ◌<◌, true, List, [], ◌∷◌, length, map, Option, Some, None, slice_get, unwrap_or, refl, sym, ap}
use Rattle.std.proofs.Common.{subst, ◌∙◌, arith, Ok, Err}
use Rattle.nf_check_rules.proofs.Common.{length-map, AllByRecursion, enumerate_from, range_with_len, ℚ, 0ℚ, ◌≤ℚ◌, Passing, Checked, each, ◌>>=◌, Check}
use Rattle.nf_check_rules.proofs.Common.{Point, value, IsCurve, Network, Flow, points_at, points_of, Sides, checked_cut, C1, Subject, Inflow, Holds}
use Rattle.nf_check_rules.proofs.Common.{numbers_of_nodes, numbers_of_links, Trial, in_part, unless, negative_point, inflow_fault, label_cut, inflow_rule}
use Rattle.nf_check_rules.proofs.Common.{loading, IsLabel, cut_of, label-cut, negative-none, decides-inflow, value_from_all, Grown, seen_flow, seen_trace}
use Rattle.nf_check_rules.proofs.Common.{loaded_of, Loaded, IsFromZero, IsWorked, points_of_each, loadings_of, done}
use Rattle.nf_model.specs.Equilibrium.{Trace}
use Rattle.nf_curve_laws.proofs.Values.{checked_cut-exact}
use Rattle.nf_check_def.specs.declared.CheckRule.{CheckRule}
use Rattle.nf_check_def.specs.declared.Subject.TheVariants.{Node, Link as OfLink}
use Rattle.nf_check_laws.specs.Laws.{CanBeChecked}
use Rattle.nf_curve.specs.declared.flow.Flow as code
use Rattle.nf_rational_laws.proofs.Results.{same_Ok}
use Rattle.nf_check_rules.proofs.PointByPoint.{all_from_0}
use Rattle.nf_check_rules.proofs.Trying.{Came, done_came, goes_on}

-- ---- parts of what went through
record Both {A B : Type 0} (r : Trial A) (f : A → Trial B) (y : B) : Type 0 where
  first : A
  came : r ≡ Ok first
  next : f first ≡ Ok y

both_came : {A B : Type 0} (r : Trial A) (f : A → Trial B) (y : B) → (r >>= f) ≡ Ok y → Both r f y
both_came (Ok x) f y e = record { first = x; came = refl; next = e }
both_came (Err p) f y e = absurd (cc)

part_came : {A : Type 0} (r : Checked A) (x : A) → in_part Check r ≡ Ok x → r ≡ Ok x
part_came (Ok y) x e = cc
part_came (Err p) x e = absurd (cc)

unless_came : (rule : CheckRule) (subject : Subject ℕ ℕ) (o : Option Sides) (x : Unit {0}) → unless rule subject o ≡ Ok x → o ≡ None
unless_came rule subject None x e = refl
unless_came rule subject (Some sides) x e = absurd (cc)

-- one of some numbers in order
each_came : {A : Type 0} (f : ℕ → Trial A) (n i k : ℕ) (ys : List A) → each f (range_with_len i n) ≡ Ok ys → k < n → Came (f (i + k))
each_came f zero i k ys e h = absurd (omega arith)
each_came f (suc n) i zero ys e h =
    let w = both_came (f i) _ ys e in
    let same : i ≡ i + 0 = omega arith in
    subst (λ (j : ℕ). Came (f j)) same (record { value = w.first; is = w.came })
each_came f (suc n) i (suc k) ys e h =
    let w = both_came (f i) _ ys e in
    let v = both_came (each f (range_with_len (i + 1) n)) _ ys w.next in
    let same : (i + 1) + k ≡ i + suc k = omega arith in
    subst (λ (j : ℕ). Came (f j)) same (each_came f n (i + 1) k v.first v.came (omega arith))

-- and what it came to stands at its place
each_at : {A : Type 0} (f : ℕ → Trial A) (d : A) (n i k : ℕ) (ys : List A) → each f (range_with_len i n) ≡ Ok ys → k < n → f (i + k) ≡ Ok (unwrap_or (slice_get ys k) d)
each_at f d zero i k ys e h = absurd (omega arith)
each_at {A} f d (suc n) i zero ys e h =
    let w = both_came (f i) _ ys e in
    let v = both_came (each f (range_with_len (i + 1) n)) _ ys w.next in
    let is : w.first ∷ v.first ≡ ys = same_Ok _ _ v.next in
    let same : i ≡ i + 0 = omega arith in
    subst (λ (j : ℕ). f j ≡ Ok (unwrap_or (slice_get ys 0) d)) same (w.came ∙ ap (λ (l : List A). Ok (unwrap_or (slice_get l 0) d)) is)
each_at {A} f d (suc n) i (suc k) ys e h =
    let w = both_came (f i) _ ys e in
    let v = both_came (each f (range_with_len (i + 1) n)) _ ys w.next in
    let is : w.first ∷ v.first ≡ ys = same_Ok _ _ v.next in
    let same : (i + 1) + k ≡ i + suc k = omega arith in
    subst (λ (j : ℕ). f j ≡ Ok (unwrap_or (slice_get ys (suc k)) d)) same
    (each_at f d n (i + 1) k v.first v.came (omega arith) ∙ ap (λ (l : List A). Ok (unwrap_or (slice_get l (suc k)) d)) is)

each_many : {A : Type 0} (f : ℕ → Trial A) (n i : ℕ) (ys : List A) → each f (range_with_len i n) ≡ Ok ys → length ys ≡ n
each_many f zero i ys e = let is : [] ≡ ys = same_Ok _ _ e in sym (ap length is)
each_many f (suc n) i ys e =
    let w = both_came (f i) _ ys e in
    let v = both_came (each f (range_with_len (i + 1) n)) _ ys w.next in
    let is : w.first ∷ v.first ≡ ys = same_Ok _ _ v.next in
    sym (ap length is) ∙ ap suc (each_many f n (i + 1) v.first v.came)

links_many : {A X : Type 0} (f : ℕ × X → Trial A) (links : List X) (i : ℕ) (ys : List A) → each f (enumerate_from i links) ≡ Ok ys → length ys ≡ length links
links_many f [] i ys e = let is : [] ≡ ys = same_Ok _ _ e in sym (ap length is)
links_many f (x ∷ links) i ys e =
    let w = both_came (f (i, x)) _ ys e in
    let v = both_came (each f (enumerate_from (i + 1) links)) _ ys w.next in
    let is : w.first ∷ v.first ≡ ys = same_Ok _ _ v.next in
    sym (ap length is) ∙ ap suc (links_many f links (i + 1) v.first v.came)

from_0 : (k : ℕ) → 0 + k ≡ k
from_0 k = omega arith

module _ (passes : Passing) (net : Network) (flow : Flow) (given : CanBeChecked net flow) where
  -- ---- the labels
  cut_came : (v : ℕ) (cut : List Point) → v < net.nodes → label_cut passes net flow v ≡ Ok cut → IsFromZero cut
  cut_came v cut h e =
      let w = both_came (in_part Check (checked_cut passes (points_at flow.labels v) flow.reached)) _ cut e in
      let u = both_came (unless C1 (Node v) (negative_point w.first)) _ cut w.next in
      let none : negative_point w.first ≡ None = unless_came C1 (Node v) (negative_point w.first) u.first u.came in
      let exact : w.first ≡ cut_of net flow given v = checked_cut-exact passes (points_at flow.labels v) flow.reached w.first
      (given.shape.labels.each v h) given.reached (part_came _ w.first w.came) in
      let is : w.first ≡ cut = same_Ok _ _ u.next in
      let l : IsLabel net flow given v (cut_of net flow given v) = label-cut net flow given v h (subst (λ (c : List Point). negative_point c ≡ None) exact none) in
      subst (λ (c : List Point). IsFromZero c) is (record { curve = subst (λ (c : List Point). IsCurve c) (sym exact) l.curve; none_negative = negative-none w.first none })

  pub labels_known : (labels : List (List Point)) → each (label_cut passes net flow) (numbers_of_nodes net) ≡ Ok labels → (v : ℕ) → v < net.nodes → IsFromZero (points_at labels v)
  labels_known labels e v h = cut_came v (points_at labels v) h
      (subst (λ (j : ℕ). label_cut passes net flow j ≡ Ok (points_at labels v)) (from_0 v) (each_at (label_cut passes net flow) [] net.nodes 0 v labels e h))

  pub labels_many : (labels : List (List Point)) → each (label_cut passes net flow) (numbers_of_nodes net) ≡ Ok labels → length labels ≡ net.nodes
  labels_many labels e = each_many (label_cut passes net flow) net.nodes 0 labels e

  -- ---- the inflows
  pub inflows_known : done (each (inflow_rule passes net flow) (numbers_of_links net)) ≡ Ok tt → (e : ℕ) → e < length net.links → Holds net flow (Inflow e)
  inflows_known d e h =
      let w = done_came (each (inflow_rule passes net flow) (numbers_of_links net)) d in
      let v : Came (inflow_rule passes net flow e) = subst (λ (j : ℕ). Came (inflow_rule passes net flow j)) (from_0 e)
      (each_came (inflow_rule passes net flow) (length net.links) 0 e w.value w.is h) in
      (decides-inflow net flow given e h).holds (unless_came C1 (OfLink e) (inflow_fault (points_at (points_of flow.inflows) e)) v.value v.is)

loaded_many : {A X : Type 0} (f : ℕ × X → Trial A) (links : List X) (ys : List A) → each f (enumerate_from 0 links) ≡ Ok ys → length ys ≡ length links
loaded_many f links ys e = links_many f links 0 ys e

-- ---- a label that has no negative point is never negative
pub never_negative : (points : List Point) → IsFromZero points → (t : ℚ) → 0ℚ ≤ℚ t → 0ℚ ≤ℚ value points t
never_negative [] k t h = absurd k.curve
never_negative (p ∷ rest) k t h = value_from_all 0ℚ p rest t k.curve.1 k.none_negative (subst (λ (z : ℚ). z ≤ℚ t) (sym k.curve.0) h)

pub labels_in_number : (passes : Passing) (net : Network) (flow : Flow) → CanBeChecked net flow → (labels : List Grown)
    → each (label_cut passes net flow) (numbers_of_nodes net) ≡ Ok (points_of_each labels) → length labels ≡ net.nodes
labels_in_number passes net flow given labels e = sym (length-map labels (λ (c : Grown). c.points)) ∙ labels_many passes net flow given (points_of_each labels) e

-- such a label is cut without an operation, and C1 is tested for it
pub label_cut_whole : (passes : Passing) (net : Network) (flow : Flow) (v : ℕ) (label : List Point) → label ≡ points_at flow.labels v → checked_cut passes label flow.reached ≡ Ok label
    → label_cut passes net flow v ≡ (unless C1 (Node v) (negative_point label) >>= λ _. Ok label)
label_cut_whole passes net flow v label is whole =
    let cut : in_part Check (checked_cut passes (points_at flow.labels v) flow.reached) ≡ Ok label =
    ap (λ (l : List Point). in_part Check (checked_cut passes l flow.reached)) (sym is) ∙ ap (in_part Check) whole in
    goes_on (in_part Check (checked_cut passes (points_at flow.labels v) flow.reached)) _ label cut

pub loaded_in_number : (passes : Passing) (net : Network) (flow : Flow) (labels : List (List Point)) (loaded : List Loaded)
    → each (loading passes net flow labels) (enumerate_from 0 net.links) ≡ Ok (loadings_of loaded)
    → length loaded ≡ length net.links
loaded_in_number passes net flow labels loaded e = sym (length-map loaded loaded_of) ∙ loaded_many (loading passes net flow labels) net.links (loadings_of loaded) e

-- ---- what was worked out
pub worked_known : (passes : Passing) (net : Network) (flow : code.Flow) (given : CanBeChecked net (seen_flow flow)) (labels : List Grown)
    (loaded : List Loaded) → each (label_cut passes net (seen_flow flow)) (numbers_of_nodes net) ≡ Ok (points_of_each labels)
    → length loaded ≡ length net.links → IsWorked net flow labels loaded
worked_known passes net flow given labels loaded e links = record {
  reached = given.reached;
  nodes = labels_in_number passes net (seen_flow flow) given labels e;
  labels = λ v h i p at. all_from_0 (points_at (points_of_each labels) v) i p at (labels_known passes net (seen_flow flow) given (points_of_each labels) e v h).none_negative;
  inflows = sym (length-map flow.inflows.items seen_trace) ∙ sym (length-map (map seen_trace flow.inflows.items) (λ (t : Trace). t.points)) ∙ given.shape.inflows.count;
  outflows = sym (length-map flow.outflows.items seen_trace) ∙ sym (length-map (map seen_trace flow.outflows.items) (λ (t : Trace). t.points)) ∙ given.shape.outflows.count;
  queues = sym (length-map flow.queues.items (λ (c : Grown). c.points)) ∙ given.shape.queues.count;
  links = links;
}

-- points none of which is negative
pub all_points : (points : List Point) → ((i : ℕ) (p : Point) → slice_get points i ≡ Some p → 0ℚ ≤ℚ p.1) → AllByRecursion (λ q. 0ℚ ≤ℚ q.1) points
all_points [] h = tt
all_points (p ∷ rest) h = (h 0 p refl, all_points rest (λ i q at. h (suc i) q at))

-- ---- a number equal to one that is below a bound
pub below_as : (k v n : ℕ) → k ≡ v → v < n → k < n
below_as k v n e h = subst (λ (i : ℕ). i < n) (sym e) h

-- a curve of a link is looked for where there is one
pub one_there : {A : Type 0} (xs ys : List A) (k n : ℕ) → xs ≡ ys → length ys ≡ n → k < n → k < length xs
one_there xs ys k n e f g = subst (λ (m : ℕ). k < m) (sym (ap length e ∙ f)) g
