-- The result of parsing the command `nfot`. There are matches exactly if the command accepts the words, unless an allocation fails.
use Rattle.std.proofs.Common.{◌≡◌, ◌∙◌, List, [], refl, sym, ap, ap₂, true, Some, None}
use Rattle.nf_app_words.proofs.Common.{cond-true, cond-false, false_from_ne_true, Text, rows_of, found_of, kind_of, App, HasMatchesOf, built, is_simple}
use Rattle.nf_app_words.proofs.Common.{matches_of, takes, fault_of, is_simple_and_free, ArgMatches}
use Rattle.clap.specs.declared.error.Error.{Error}
use Rattle.clap.specs.declared.error.kind.ErrorKind.TheVariants.{OutOfMemory}
use Rattle.nf_app_words.specs.CommandLine.{nfot, matches_on}
use Rattle.nf_app_words.specs.MatchViews.{rows_in}
use Rattle.nf_app_words.proofs.Faultless.{IsPlainShape, takes_where_none_fails}

simple : is_simple nfot ≡ true
unfolding nfot
simple = refl

pub free : is_simple_and_free nfot ≡ true
unfolding nfot
free = refl

leaf : (built nfot).subs ≡ []
unfolding nfot
leaf = refl

plain : IsPlainShape (built nfot).top
unfolding nfot
plain = record { no_help = refl; no_need = refl; defaults = refl; free = refl }

takes_all : (words : List Text) → fault_of nfot words ≡ [] → takes nfot words ≡ true
takes_all words = takes_where_none_fails nfot words simple leaf plain

module _ (a : App) (words said : List Text) (is_nfot : a ≡ nfot) (same : words ≡ said) where
  -- there are matches
  pub matched : (m : ArgMatches) → HasMatchesOf a words m → fault_of a words ≡ [] → matches_on said ≡ Some (rows_in m)
  unfolding matches_on rows_in
  matched m has none =
      let taken : takes nfot said ≡ true = takes_all said (sym (ap₂ fault_of is_nfot same) ∙ none) in
      let rows : rows_of (found_of m) ≡ matches_of nfot said = (has (ap is_simple is_nfot ∙ simple)).0 ∙ ap₂ matches_of is_nfot same in
      cond-true (takes nfot said) _ _ taken ∙ ap Some (sym rows)

  -- there are none
  pub not_matched : (e : Error) → (takes a words ≡ true → kind_of e ≡ OutOfMemory) → (kind_of e ≡ OutOfMemory → ⊥) → matches_on said ≡ None
  unfolding matches_on
  not_matched e memory other =
      cond-false (takes nfot said) _ _ (false_from_ne_true (takes nfot said) (λ taken. other (memory (ap₂ takes is_nfot same ∙ taken))))
