-- Requests are within their limits.
use Rattle.std.proofs.Common.{◌≡◌, ℕ, ◌≤◌, Bool, true, false, cond, List, refl, ap, subst, ◌∙◌, lit≤, Option, Some, None, IfSome, option_map}
use Rattle.std.proofs.Common.{option_and_then, Result, Ok, Err, codes}
use Rattle.nf_app_words.proofs.Common.{option_map_or, Row, Text, Task, word_in, matches_on, file_in, to_not_negative, not_negative_of, not_negative_in}
use Rattle.nf_app_words.proofs.Common.{count_between, usual_or_count_in, most_phases, most_patterns, most_augments, most_rungs, most_number, commands}
use Rattle.nf_app_words.proofs.Common.{first_task, Request, Show, IsCountWithin, CanBeAsked, solve_request, forever_request, load_request, check_request}
use Rattle.nf_app_words.proofs.Common.{quick_request, gen_request, settle_request, resume_request, routes_request, asked, request_in}
use Rattle.nf_rational.specs.Rational.{ℚ}
use Rattle.nf_rational.specs.Operations.{0ℚ}
use Rattle.nf_rational.specs.Order.{◌≤ℚ◌, le_ℚ}
use Rattle.nf_rational_laws.proofs.Tests.{le_of_test}
use Rattle.nf_frac_def.specs.Passing.{bound_of}
use Rattle.nf_frac_words.specs.Numbers.{number_of}
use Rattle.nf_app_words.specs.declared.commands.Task.TheVariants as task
use Rattle.nf_app_words.specs.declared.request.Request as code
use Rattle.nf_app_words.specs.Requests.{horizon_in, phases_in, patterns_in, amount_in, augments_in, number_asked, rungs_in, request_of}
use Rattle.nf_app_words.specs.RequestViews.{requested}
use Rattle.nf_app_words.proofs.Counts.{count_within}

-- a function has equal values at five pairs of equal arguments
pub same_5 : {A B C D E R : Type 0} (f : A → B → C → D → E → R) (a x : A) (b y : B) (c z : C) (d v : D) (e w : E) → a ≡ x → b ≡ y → c ≡ z → d ≡ v → e ≡ w → f a b c d e ≡ f x y z v w
same_5 f a x b y c z d v e w p q r s t =
    ap (λ i. f i b c d e) p ∙ ap (λ i. f x i c d e) q ∙ ap (λ i. f x y i d e) r ∙ ap (λ i. f x y z i e) s ∙ ap (λ i. f x y z v i) t

-- ---- the value of an option
module _ {X : Type 0} (P : X → Type 0) (f : Text → Option X) (each : (word : Text) → IfSome (f word) P) where
  given : (word : Option Text) → IfSome (option_and_then f word) P
  given None = tt
  given (Some word) = each word

  given_or : (usual : X) → P usual → (word : Option Text) → IfSome (option_map_or f word (Some usual)) P
  given_or usual fine None = fine
  given_or usual fine (Some word) = each word

by_test : (number : ℚ) (test : Bool) → le_ℚ 0ℚ number ≡ test → IfSome (cond test (Some number) None) (λ q. 0ℚ ≤ℚ q)
by_test number true e = le_of_test 0ℚ number e
by_test number false e = tt

at_least_0 : {F : Type 0} (read : Result ℚ F) → IfSome (to_not_negative read) (λ q. 0ℚ ≤ℚ q)
at_least_0 (Ok number) = by_test number (le_ℚ 0ℚ number) refl
at_least_0 (Err fault) = tt

not_negative : (name : Text) (rows : List Row) → IfSome (not_negative_in name rows) (λ q. 0ℚ ≤ℚ q)
not_negative name rows = given (λ q. 0ℚ ≤ℚ q) not_negative_of (λ word. at_least_0 (number_of (bound_of 127) word)) (word_in name rows)

budget : (usual most : ℕ) → IsCountWithin most usual → (name : Text) (rows : List Row) → IfSome (usual_or_count_in usual most name rows) (IsCountWithin most)
budget usual most fine name rows = given_or (IsCountWithin most) (count_between 1 most) (count_within 1 most) usual fine (word_in name rows)

horizon : (rows : List Row) → IfSome (horizon_in rows) (λ q. 0ℚ ≤ℚ q)
unfolding horizon_in
horizon rows = not_negative (codes "horizon") rows

amount : (rows : List Row) → IfSome (amount_in rows) (λ q. 0ℚ ≤ℚ q)
unfolding amount_in
amount rows = not_negative (codes "amount") rows

phases : (rows : List Row) → IfSome (phases_in rows) (IsCountWithin most_phases)
unfolding phases_in
phases rows = budget 10000 most_phases (lit≤ tt, lit≤ tt) (codes "phases") rows

patterns : (rows : List Row) → IfSome (patterns_in rows) (IsCountWithin most_patterns)
unfolding patterns_in
patterns rows = budget 100000 most_patterns (lit≤ tt, lit≤ tt) (codes "patterns") rows

augments : (rows : List Row) → IfSome (augments_in rows) (IsCountWithin most_augments)
unfolding augments_in
augments rows = budget 10000 most_augments (lit≤ tt, lit≤ tt) (codes "augments") rows

number : (rows : List Row) → IfSome (number_asked rows) (λ n. (0 ≤ n) × (n ≤ most_number))
unfolding number_asked
number rows = given (λ n. (0 ≤ n) × (n ≤ most_number)) (count_between 0 most_number) (count_within 0 most_number) (word_in (codes "number") rows)

rungs : (rows : List Row) → IfSome (rungs_in rows) (IsCountWithin most_rungs)
unfolding rungs_in
rungs rows = given (IsCountWithin most_rungs) (count_between 1 most_rungs) (count_within 1 most_rungs) (word_in (codes "rungs") rows)

-- ---- each command
solve_can : (file : Option Text) (h : Option ℚ) (p q : Option ℕ) → IfSome h (λ x. 0ℚ ≤ℚ x) → IfSome p (IsCountWithin most_phases) → IfSome q (IsCountWithin most_patterns)
    → IfSome (solve_request file h p q) CanBeAsked
solve_can None h p q a b c = tt
solve_can (Some file) None p q a b c = tt
solve_can (Some file) (Some h) None q a b c = tt
solve_can (Some file) (Some h) (Some p) None a b c = tt
solve_can (Some file) (Some h) (Some p) (Some q) a b c = (a, b, c)

forever_can : (file : Option Text) (p q : Option ℕ) → IfSome p (IsCountWithin most_phases) → IfSome q (IsCountWithin most_patterns) → IfSome (forever_request file p q) CanBeAsked
forever_can None p q a b = tt
forever_can (Some file) None q a b = tt
forever_can (Some file) (Some p) None a b = tt
forever_can (Some file) (Some p) (Some q) a b = (a, b)

show_can : (file : Option Text) → IfSome (option_map (λ f. Show f) file) CanBeAsked
show_can None = tt
show_can (Some file) = tt

load_can : (file loads : Option Text) (h : Option ℚ) → IfSome h (λ x. 0ℚ ≤ℚ x) → IfSome (load_request file loads h) CanBeAsked
load_can None loads h a = tt
load_can (Some file) None h a = tt
load_can (Some file) (Some loads) None a = tt
load_can (Some file) (Some loads) (Some h) a = a

check_can : (file report : Option Text) → IfSome (check_request file report) CanBeAsked
check_can None report = tt
check_can (Some file) None = tt
check_can (Some file) (Some report) = tt

quick_can : (file : Option Text) (q : Option ℚ) (n : Option ℕ) → IfSome q (λ x. 0ℚ ≤ℚ x) → IfSome n (IsCountWithin most_augments) → IfSome (quick_request file q n) CanBeAsked
quick_can None q n a b = tt
quick_can (Some file) None n a b = tt
quick_can (Some file) (Some q) None a b = tt
quick_can (Some file) (Some q) (Some n) a b = (a, b)

gen_can : (n r : Option ℕ) (h : Option ℚ) (p q : Option ℕ) → IfSome n (λ m. (0 ≤ m) × (m ≤ most_number)) → IfSome r (IsCountWithin most_rungs) → IfSome h (λ x. 0ℚ ≤ℚ x)
    → IfSome p (IsCountWithin most_phases) → IfSome q (IsCountWithin most_patterns) → IfSome (gen_request n r h p q) CanBeAsked
gen_can None r h p q a b c d e = tt
gen_can (Some n) None h p q a b c d e = tt
gen_can (Some n) (Some r) None p q a b c d e = tt
gen_can (Some n) (Some r) (Some h) None q a b c d e = tt
gen_can (Some n) (Some r) (Some h) (Some p) None a b c d e = tt
gen_can (Some n) (Some r) (Some h) (Some p) (Some q) a b c d e = (a.1, b, c, d, e)

settle_can : (file flows : Option Text) → IfSome (settle_request file flows) CanBeAsked
settle_can None flows = tt
settle_can (Some file) None = tt
settle_can (Some file) (Some flows) = tt

resume_can : (file report : Option Text) (h : Option ℚ) (p q : Option ℕ) → IfSome h (λ x. 0ℚ ≤ℚ x) → IfSome p (IsCountWithin most_phases) → IfSome q (IsCountWithin most_patterns)
    → IfSome (resume_request file report h p q) CanBeAsked
resume_can None report h p q a b c = tt
resume_can (Some file) None h p q a b c = tt
resume_can (Some file) (Some report) None p q a b c = tt
resume_can (Some file) (Some report) (Some h) None q a b c = tt
resume_can (Some file) (Some report) (Some h) (Some p) None a b c = tt
resume_can (Some file) (Some report) (Some h) (Some p) (Some q) a b c = (a, b, c)

routes_can : (file routes : Option Text) (h : Option ℚ) → IfSome h (λ x. 0ℚ ≤ℚ x) → IfSome (routes_request file routes h) CanBeAsked
routes_can None routes h a = tt
routes_can (Some file) None h a = tt
routes_can (Some file) (Some routes) None a = tt
routes_can (Some file) (Some routes) (Some h) a = a

each_can : (does : Task) (rows : List Row) → IfSome (asked does rows) CanBeAsked
each_can task.Solve rows = solve_can (file_in 0 rows) (horizon_in rows) (phases_in rows) (patterns_in rows) (horizon rows) (phases rows) (patterns rows)
each_can task.SolveForever rows = forever_can (file_in 0 rows) (phases_in rows) (patterns_in rows) (phases rows) (patterns rows)
each_can task.Show rows = show_can (file_in 0 rows)
each_can task.Load rows = load_can (file_in 0 rows) (file_in 1 rows) (horizon_in rows) (horizon rows)
each_can task.Check rows = check_can (file_in 0 rows) (file_in 1 rows)
each_can task.Quick rows = quick_can (file_in 0 rows) (amount_in rows) (augments_in rows) (amount rows) (augments rows)
each_can task.Gen rows =
    gen_can (number_asked rows) (rungs_in rows) (horizon_in rows) (phases_in rows) (patterns_in rows) (number rows) (rungs rows) (horizon rows) (phases rows) (patterns rows)
each_can task.Settle rows = settle_can (file_in 0 rows) (file_in 1 rows)
each_can task.Resume rows =
    resume_can (file_in 0 rows) (file_in 1 rows) (horizon_in rows) (phases_in rows) (patterns_in rows) (horizon rows) (phases rows) (patterns rows)
each_can task.Routes rows = routes_can (file_in 0 rows) (file_in 1 rows) (horizon_in rows) (horizon rows)

some_can : (does : Option Task) (rows : List Row) → IfSome (option_and_then (λ d. asked d rows) does) CanBeAsked
some_can None rows = tt
some_can (Some does) rows = each_can does rows

matched_can : (matches : Option (List Row)) → IfSome (option_and_then request_in matches) CanBeAsked
matched_can None = tt
matched_can (Some rows) = some_can (first_task rows commands) rows

pub all_can : (words : List Text) → IfSome (request_of words) CanBeAsked
unfolding request_of
all_can words = matched_can (matches_on words)

-- a request of the code that is the request of the words
pub can_be : (words : List Text) (request : Option code.Request) → request_of words ≡ option_map requested request → IfSome request (λ r. CanBeAsked (requested r))
can_be words None e = tt
can_be words (Some request) e = subst (λ (o : Option Request). IfSome o CanBeAsked) e (all_can words)
