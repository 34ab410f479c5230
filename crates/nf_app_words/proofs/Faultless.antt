-- If no step of a simple command fails, each step succeeds.
use Rattle.std.proofs.Common.{◌≡◌, ◌∙◌, ◌≤◌, ◌&&◌, ◌||◌, ℕ, zero, suc, Bool, cond, true, false, not, refl, sym, List, [], ◌∷◌, length, drop, Option, Some}
use Rattle.std.proofs.Common.{None, is_some, arith, ◌==◌, nat_lt, slice_get, codes, encode_utf8}
use Rattle.nf_app_words.proofs.Common.{option_map_or, bytes_eq, chars, and_from, le-leb, eqb-true, ltb-false, or_right, long_of, short_of, refused_kind}
use Rattle.nf_app_words.proofs.Common.{Held, Names, Row, Rule, Step, next, trailing, subcommand, value, Text, Waiting, Walk, action_of, arg_by_id}
use Rattle.nf_app_words.proofs.Common.{arg_by_index, arg_by_long, arg_by_short, attached_value, finished, has_row, is_pending, most_values, nothing_held}
use Rattle.nf_app_words.proofs.Common.{reacted, settled, subcommand_met, takes_several, takes_values, values_or_missing, walk, walk_from, walked, word_met}
use Rattle.nf_app_words.proofs.Common.{App, Shape, argument_words, built, is_simple, action_passes, bundle_step_passes, count_passes, default_passes}
use Rattle.nf_app_words.proofs.Common.{flag_word_passes, is_given, level_passes, long_passes, option_passes, other_passes, positional_passes, react_passes}
use Rattle.nf_app_words.proofs.Common.{set_passes, settle_passes, short_passes, step_passes, takes, turn_passes, use_passes, values_pass, word_passes}
use Rattle.nf_app_words.proofs.Common.{action_fault, bundle_step_fault, check_fault, count_fault, defaults_fault, fault_of, flag_word_fault, level_fault}
use Rattle.nf_app_words.proofs.Common.{long_fault, option_fault, other_fault, positional_fault, react_fault, repeat_fault, set_fault, settle_fault}
use Rattle.nf_app_words.proofs.Common.{short_fault, step_fault, stray_fault, turn_fault, use_fault, values_fault, word_fault}
use Rattle.std.specs.List.{list_all, list_any}
use Rattle.clap.specs.Facts.{parser_of_value, unwrap_or_range}
use Rattle.clap.specs.ValueTests.{accepts}
use Rattle.clap.specs.Kinds.{Kinds, check_kinds, or_else, range_kinds, value_kinds, values_kinds}
use Rattle.clap.specs.Takes.{flags_pass, walk_passes}
use Rattle.clap.specs.Faults.{flags_fault, walk_fault}
use Rattle.clap.specs.declared.builder.action.ArgAction.{ArgAction}
use Rattle.clap.specs.declared.builder.action.ArgAction.TheVariants as action
use Rattle.clap.specs.declared.error.kind.ErrorKind.{ErrorKind}
use Rattle.clap.proofs.TakesLemmas.{leaf_takes}
use Rattle.clap.proofs.FaultLemmas.{leaf_fault}
use Rattle.nf_rational_laws.proofs.Results.{not_or}

-- ---- tests
-- neither of two steps fails
record Neither (a b : Kinds) : Type 0 where
  first : a ≡ []
  second : b ≡ []

neither : (a b : Kinds) → or_else a b ≡ [] → Neither a b
neither [] b e = record { first = refl; second = e }
neither (k ∷ ks) b e = cc

by_test : (b : Bool) (k : ErrorKind) → cond b [] (k ∷ []) ≡ [] → b ≡ true
by_test true k e = refl
by_test false k e = cc

not_both : (a b : Bool) (k : ErrorKind) (ks : Kinds) → cond (a && not b) (k ∷ ks) [] ≡ [] → (not a || b) ≡ true
not_both true true k ks e = refl
not_both true false k ks e = cc
not_both false b k ks e = refl

unless : (b p : Bool) (ks : Kinds) → (ks ≡ [] → p ≡ true) → cond b [] ks ≡ [] → (b || p) ≡ true
unless true p ks h e = refl
unless false p ks h e = h e

-- ---- values
all_pass : (a : Rule) (vs : List Text) → values_fault a vs ≡ [] → values_pass a vs ≡ true
all_pass a [] e = refl
all_pass a (v ∷ vs) e =
    let n = neither (value_kinds a.ignore_case (parser_of_value a.parser) v) (values_kinds a.ignore_case (parser_of_value a.parser) vs) e in
    and_from _ _ (by_test (accepts a.ignore_case (parser_of_value a.parser) v) (refused_kind (parser_of_value a.parser)) n.first) (all_pass a vs n.second)

-- a number of values within its range
record Within (least most n : ℕ) : Type 0 where
  low : least ≤ n
  high : n ≤ most

by_tests : (least most n : ℕ) (empty same exact few many : Bool) (k₁ k₂ k₃ k₄ : ErrorKind) → (least == most) ≡ same → (least == n) ≡ exact → nat_lt n least ≡ few → nat_lt most n ≡ many
    → cond empty (k₁ ∷ []) (cond same (cond exact [] (k₂ ∷ [])) (cond few (k₃ ∷ []) (cond many (k₄ ∷ []) []))) ≡ [] → Within least most n
by_tests least most n true same exact few many k₁ k₂ k₃ k₄ s x f m e = cc
by_tests least most n false true true few many k₁ k₂ k₃ k₄ s x f m e =
    let one = eqb-true least most s in
    let other = eqb-true least n x in
    record { low = omega (arith, one, other); high = omega (arith, one, other) }
by_tests least most n false true false few many k₁ k₂ k₃ k₄ s x f m e = cc
by_tests least most n false false exact true many k₁ k₂ k₃ k₄ s x f m e = cc
by_tests least most n false false exact false true k₁ k₂ k₃ k₄ s x f m e = cc
by_tests least most n false false exact false false k₁ k₂ k₃ k₄ s x f m e = record { low = ltb-false n least f; high = ltb-false most n m }

within_range : (least most n : ℕ) → range_kinds least most n ≡ [] → Within least most n
within_range least most n e = by_tests least most n (nat_lt 0 least && n == 0) (least == most) (least == n) (nat_lt n least) (nat_lt most n) _ _ _ _ refl refl refl refl e

-- ---- one use of an argument
set_use : (again : Bool) (a : Rule) (values : List Text) (rows : List Row) → set_fault again a values rows ≡ [] → set_passes again a values rows ≡ true
set_use again a values rows e =
    let n = neither (repeat_fault again a.id rows) (values_fault a values) e in
    and_from _ _ (not_both (has_row a.id rows) again _ [] n.first) (all_pass a values n.second)

count_use : (a : Rule) (values : List Text) (rows : List Row) → count_fault a values rows ≡ [] → count_passes a values rows ≡ true
count_use a [] rows e = by_test _ _ e
count_use a (v ∷ vs) rows e = all_pass a (v ∷ vs) e

action_use : (x : ArgAction) (again : Bool) (a : Rule) (values : List Text) (rows : List Row) → action_fault x again a values rows ≡ [] → action_passes x again a values rows ≡ true
action_use action.Set again a values rows e = set_use again a values rows e
action_use action.SetTrue again a values rows e = set_use again a values rows e
action_use action.SetFalse again a values rows e = set_use again a values rows e
action_use action.Append again a values rows e = all_pass a values e
action_use action.Count again a values rows e = count_use a values rows e
action_use action.Help again a values rows e = cc
action_use action.HelpShort again a values rows e = cc
action_use action.HelpLong again a values rows e = cc
action_use action.Version again a values rows e = cc

one_use : (again : Bool) (a : Rule) (values : List Text) (rows : List Row) → use_fault again a values rows ≡ [] → use_passes again a values rows ≡ true
one_use again a values rows e =
    let least = (unwrap_or_range a.range).start_inclusive in
    let n = neither (range_kinds least (most_values a) (length values)) (action_fault (action_of a) again a (values_or_missing a values) rows) e in
    let range = within_range least (most_values a) (length values) n.first in
    and_from _ _ (le-leb least (length values) range.low)
    (and_from _ _ (le-leb (length values) (most_values a) range.high) (action_use (action_of a) again a (values_or_missing a values) rows n.second))

-- ---- the walk
module _ (c : List Rule) (again : Bool) where
  found_use : (found : Option Rule) (values : List Text) (rows : List Row) → option_map_or (λ a. use_fault again a values rows) found [] ≡ []
      → option_map_or (λ a. use_passes again a values rows) found true ≡ true
  found_use None values rows e = refl
  found_use (Some a) values rows e = one_use again a values rows e

  pending_use : (pending : Option (Text × List Text)) (rows : List Row)
      → option_map_or (λ p. option_map_or (λ a. use_fault again a p.1 rows) (arg_by_id c p.0) []) pending [] ≡ []
      → option_map_or (λ p. option_map_or (λ a. use_passes again a p.1 rows) (arg_by_id c p.0) true) pending true ≡ true
  pending_use None rows e = refl
  pending_use (Some p) rows e = found_use (arg_by_id c p.0) p.1 rows e

  settles : (h : Held) → settle_fault c again h ≡ [] → settle_passes c again h ≡ true
  settles h e = pending_use h.pending h.rows e

  reacts : (a : Rule) (values : List Text) (h : Held) → react_fault c again a values h ≡ [] → react_passes c again a values h ≡ true
  reacts a values h e =
      let n = neither (settle_fault c again h) (use_fault again a values (settled c h).rows) e in
      and_from _ _ (settles h n.first) (one_use again a values (settled c h).rows n.second)

  option_goes : (a : Rule) (v : Option Text) (h : Held) → option_fault c again a v h ≡ [] → option_passes c again a v h ≡ true
  option_goes a (Some v) h e = reacts a (v ∷ []) h e
  option_goes a None h e = settles h e

  long_by : (takes : Bool) (a : Rule) (v : Option Text) (h : Held) (k : ErrorKind)
      → cond takes (option_fault c again a v h) (cond (is_some v) (k ∷ []) (react_fault c again a [] h)) ≡ []
      → cond takes (option_passes c again a v h) (not (is_some v) && react_passes c again a [] h) ≡ true
  long_by true a v h k e = option_goes a v h e
  long_by false a (Some v) h k e = cc
  long_by false a None h k e = reacts a [] h e

  long_goes : (found : Option Rule) (v : Option Text) (h : Held) → long_fault c again found v h ≡ [] → long_passes c again found v h ≡ true
  long_goes None v h e = cc
  long_goes (Some a) v h e = long_by (takes_values a) a v h _ e

  module _ (fault : Held → Kinds) (passes : Held → Bool) (goes_on : (h : Held) → fault h ≡ [] → passes h ≡ true) where
    short_by : (takes : Bool) (a : Rule) (v : Option Text) (h : Held)
        → cond takes (option_fault c again a v h) (or_else (react_fault c again a [] h) (fault (reacted c a [] h))) ≡ []
        → cond takes (option_passes c again a v h) (react_passes c again a [] h && passes (reacted c a [] h)) ≡ true
    short_by true a v h e = option_goes a v h e
    short_by false a v h e =
        let n = neither (react_fault c again a [] h) (fault (reacted c a [] h)) e in
        and_from _ _ (reacts a [] h n.first) (goes_on (reacted c a [] h) n.second)

    short_goes : (found : Option Rule) (rest : Text) (h : Held) → short_fault c again found rest h fault ≡ [] → short_passes c again found rest h passes ≡ true
    short_goes None rest h e = cc
    short_goes (Some a) rest h e = short_by (takes_values a) a (attached_value rest) h e

  module _ (fault : Text → ℕ → Held → Kinds) (passes : Text → ℕ → Held → Bool)
      (goes_on : (flags : Text) (skip : ℕ) (h : Held) → fault flags skip h ≡ [] → passes flags skip h ≡ true) where
    step_of_bundle : (first : Option ℕ) (flags : Text) (skip : ℕ) (h : Held) → bundle_step_fault c again first flags skip h fault ≡ []
        → bundle_step_passes c again first flags skip h passes ≡ true
    step_of_bundle None flags skip h e = refl
    step_of_bundle (Some x) flags zero h e =
        let rest = drop (length (encode_utf8 x)) flags in
        short_goes (fault rest 0) (passes rest 0) (λ g f. goes_on rest 0 g f) (arg_by_short c x) rest h e
    step_of_bundle (Some x) flags (suc skip) h e = goes_on (drop (length (encode_utf8 x)) flags) skip h e

  flags_go : (k : ℕ) (flags : Text) (skip : ℕ) (h : Held) → flags_fault c again k flags skip h ≡ [] → flags_pass c again k flags skip h ≡ true
  unfolding flags_fault flags_pass
  flags_go zero flags skip h e = refl
  flags_go (suc k) flags skip h e =
      step_of_bundle (flags_fault c again k) (flags_pass c again k) (λ f s g x. flags_go k f s g x) (slice_get (chars flags) 0) flags skip h e

  bundle_goes : (short : Option Text) (h : Held) → option_map_or (λ flags. flags_fault c again (length flags) flags h.skip (record h { skip = 0 })) short [] ≡ []
      → option_map_or (λ flags. flags_pass c again (length flags) flags h.skip (record h { skip = 0 })) short true ≡ true
  bundle_goes None h e = refl
  bundle_goes (Some flags) h e = flags_go (length flags) flags h.skip (record h { skip = 0 }) e

  flag_word_goes : (long : Option (Text × Option Text)) (word : Text) (h : Held) → flag_word_fault c again long word h ≡ [] → flag_word_passes c again long word h ≡ true
  flag_word_goes (Some p) word h e = long_goes (arg_by_long c p.0) p.1 h e
  flag_word_goes None word h e = bundle_goes (short_of word) h e

  positional_goes : (a : Rule) (h : Held) → positional_fault c again a h ≡ [] → positional_passes c again a h ≡ true
  positional_goes a h e = unless (is_pending a h.pending && takes_several a) (settle_passes c again h) (settle_fault c again h) (settles h) e

module _ (s : Shape) (names : Names) where
  other_goes : (met : Option Text) (word : Text) (h : Held) → other_fault s met word h ≡ [] → other_passes s met word h ≡ true
  other_goes (Some name) word h e = not_both (bytes_eq name (codes "help")) s.disable_help_subcommand _ _ e
  other_goes None word h e =
      unless (bytes_eq word (45 ∷ 45 ∷ [])) (flag_word_passes s.rules s.args_override_self (long_of word) word h)
      (flag_word_fault s.rules s.args_override_self (long_of word) word h) (flag_word_goes s.rules s.args_override_self (long_of word) word h) e

  word_goes : (is_trailing : Bool) (waiting : Waiting) (word : Text) (h : Held) → word_fault s names is_trailing waiting word h ≡ []
      → word_passes s names is_trailing waiting word h ≡ true
  word_goes is_trailing waiting word h e =
      unless is_trailing (other_passes s (subcommand_met names waiting word) word h) (other_fault s (subcommand_met names waiting word) word h)
      (other_goes (subcommand_met names waiting word) word h) e

  stray : (is_leaf : Bool) (k l : ErrorKind) (ks : Kinds) → cond is_leaf (k ∷ []) (l ∷ ks) ≡ [] → false ≡ true
  stray true k l ks e = cc
  stray false k l ks e = cc

  value_goes : (found : Option Rule) (h : Held) → option_map_or (λ a. positional_fault s.rules s.args_override_self a h) found (stray_fault s) ≡ []
      → option_map_or (λ a. positional_passes s.rules s.args_override_self a h) found false ≡ true
  value_goes None h e = stray s.is_leaf _ _ _ e
  value_goes (Some a) h e = positional_goes s.rules s.args_override_self a h e

  step_goes : (position : ℕ) (h : Held) (step : Step) → step_fault s position h step ≡ [] → step_passes s position h step ≡ true
  step_goes position h (next waiting) e = refl
  step_goes position h (trailing place) e = refl
  step_goes position h (subcommand name) e = refl
  step_goes position h value e = value_goes (arg_by_index s.rules position) h e

  turn_goes : (w : Walk) (word : Text) → turn_fault s names w word ≡ [] → turn_passes s names w word ≡ true
  turn_goes w word e =
      let met = word_met s.rules names w.is_trailing w.waiting w.position word w.held in
      let own = word_fault s names w.is_trailing w.waiting word w.held in
      unless (is_some w.stopped) (word_passes s names w.is_trailing w.waiting word w.held && step_passes s w.position met.0 met.1) (or_else own (step_fault s w.position met.0 met.1))
      (λ none. let n = neither own (step_fault s w.position met.0 met.1) none in
      and_from _ _ (word_goes w.is_trailing w.waiting word w.held n.first) (step_goes w.position met.0 met.1 n.second)) e

  walk_goes : (w : Walk) (words : List Text) → walk_fault s names w words ≡ [] → walk_passes s names w words ≡ true
  unfolding walk_fault walk_passes
  walk_goes w [] e = refl
  walk_goes w (word ∷ rest) e =
      let n = neither (turn_fault s names w word) (walk_fault s names (walked s.rules names w word) rest) e in
      and_from _ _ (turn_goes w word n.first) (walk_goes (walked s.rules names w word) rest n.second)

-- ---- after the walk
no_check : (help below missing : Bool) → check_kinds help below missing ≡ [] → missing ≡ false
no_check true below missing e = cc
no_check false true missing e = cc
no_check false false true e = cc
no_check false false false e = refl

none_missing : (negates missing : Bool) → (not (negates && false) && missing) ≡ false → missing ≡ false
none_missing true missing e = e
none_missing false missing e = e

one_given : (required given more : Bool) → ((required && not given) || more) ≡ false → ((not required || given) ≡ true) × (more ≡ false)
one_given true true more e = (refl, e)
one_given true false more e = cc
one_given false given more e = (refl, e)

all_given : (given : Rule → Bool) (rules : List Rule) → list_any (λ a. a.required && not (given a)) rules ≡ false → list_all (λ a. not a.required || given a) rules ≡ true
all_given given [] e = refl
all_given given (a ∷ rest) e =
    let here = one_given a.required (given a) (list_any (λ a. a.required && not (given a)) rest) e in
    and_from _ _ here.0 (all_given given rest here.1)

-- a command without subcommands, without defaults, and without rules of arguments on each other
pub record IsPlainShape (s : Shape) : Type 0 where
  pub no_help : s.arg_required_else_help ≡ false
  pub no_need : s.subcommand_required ≡ false
  pub defaults : list_all default_passes s.rules ≡ true
  pub free : list_all (λ a. a.is_free) s.rules ≡ true

level_goes : (s : Shape) (h : Held) (words : List Text) → IsPlainShape s → level_fault s [] h words false [] ≡ [] → level_passes s [] h words false ≡ true
level_goes s h words plain e =
    let end = (walk s.rules [] h words).held in
    let rows = finished s.rules end in
    let first = neither (walk_fault s [] (walk_from h) words)
    (or_else (settle_fault s.rules s.args_override_self end) (or_else (defaults_fault (settled s.rules end).rows s.rules) (check_fault s rows false))) e in
    let second = neither (settle_fault s.rules s.args_override_self end) (or_else (defaults_fault (settled s.rules end).rows s.rules) (check_fault s rows false)) first.second in
    let third = neither (defaults_fault (settled s.rules end).rows s.rules) (check_fault s rows false) second.second in
    let present = all_given (λ a. is_given a.id rows) s.rules (none_missing s.subcommand_negates_reqs _ (no_check _ _ _ third.second)) in
    let valid = and_from _ _ (not_or s.arg_required_else_help _ plain.no_help) (and_from _ _ (not_or s.subcommand_required _ plain.no_need)
    (and_from _ _ plain.free (or_right (s.subcommand_negates_reqs && false) _ present))) in
    and_from _ _ (walk_goes s [] (walk_from h) words first.first) (and_from _ _ (settles s.rules s.args_override_self end second.first) (and_from _ _ plain.defaults valid))

-- a simple command accepts the words if no step fails
pub takes_where_none_fails : (a : App) (words : List Text) → is_simple a ≡ true → (built a).subs ≡ [] → IsPlainShape (built a).top → fault_of a words ≡ [] → takes a words ≡ true
takes_where_none_fails a words simple leaf plain e =
    and_from _ _ simple (leaf_takes (built a) nothing_held (argument_words a words) leaf
    (level_goes (built a).top nothing_held (argument_words a words) plain (sym (leaf_fault (built a) nothing_held (argument_words a words) leaf) ∙ e)))
