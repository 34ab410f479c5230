use Rattle.std.proofs.Common.{rules}
use Rattle.std.proofs.lemmas.Result.{IfOk-weaker}
use Rattle.nf_frac_words.proofs.Faults.{decimal_parts_within, decimal_by_fields, fraction_by_fields, decimal_value_from, decimal_fault_from}
use Rattle.nf_frac_words.proofs.reading.decimal_parts.Goals as goal

pub returns-then-is_decimal_word-clause-exact : goal.returns-then-is_decimal_word-clause-exact
returns-then-is_decimal_word-clause-exact c =
    decimal_by_fields c.args.bound c.args.word.now _ _ _ (search rules) c.before_byte.ensures c.after_byte.ensures c.decimal.ensures

pub returns-then-is_decimal_word-clause-value : goal.returns-then-is_decimal_word-clause-value
returns-then-is_decimal_word-clause-value c = decimal_value_from c.args.bound c.args.word.now _ (returns-then-is_decimal_word-clause-exact c)

pub returns-then-is_decimal_word-clause-fault : goal.returns-then-is_decimal_word-clause-fault
returns-then-is_decimal_word-clause-fault c = decimal_fault_from c.args.bound c.args.word.now _ (returns-then-is_decimal_word-clause-exact c)

pub returns-else-is_decimal_word-clause-exact : goal.returns-else-is_decimal_word-clause-exact
returns-else-is_decimal_word-clause-exact c = fraction_by_fields c.args.bound c.args.word.now _ (search rules) c.parts.ensures.exact

pub returns-else-is_decimal_word-clause-value : goal.returns-else-is_decimal_word-clause-value
returns-else-is_decimal_word-clause-value c = decimal_value_from c.args.bound c.args.word.now _ (returns-else-is_decimal_word-clause-exact c)

pub returns-else-is_decimal_word-clause-fault : goal.returns-else-is_decimal_word-clause-fault
returns-else-is_decimal_word-clause-fault c = decimal_fault_from c.args.bound c.args.word.now _ (returns-else-is_decimal_word-clause-exact c)

pub returns-then-is_decimal_word-clause-num : goal.returns-then-is_decimal_word-clause-num
returns-then-is_decimal_word-clause-num c =
    IfOk-weaker c.decimal.result _ _ (λ p h. h.0) (decimal_parts_within c.args.bound c.args.word.now c.decimal.result
    (returns-then-is_decimal_word-clause-exact c))

pub returns-then-is_decimal_word-clause-den : goal.returns-then-is_decimal_word-clause-den
returns-then-is_decimal_word-clause-den c =
    IfOk-weaker c.decimal.result _ _ (λ p h. h.1) (decimal_parts_within c.args.bound c.args.word.now c.decimal.result
    (returns-then-is_decimal_word-clause-exact c))

pub returns-then-is_decimal_word-clause-positive : goal.returns-then-is_decimal_word-clause-positive
returns-then-is_decimal_word-clause-positive c =
    IfOk-weaker c.decimal.result _ _ (λ p h. h.2) (decimal_parts_within c.args.bound c.args.word.now c.decimal.result
    (returns-then-is_decimal_word-clause-exact c))
