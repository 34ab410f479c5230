use Rattle.std.proofs.lemmas.Result.{IfOk-weaker}
use Rattle.nf_frac_words.proofs.Faults.{parts_within, parts_by_fields, value_from, fault_from}
use Rattle.nf_frac_words.proofs.reading.parts.Goals as goal

pub returns-clause-exact : goal.returns-clause-exact
returns-clause-exact c = parts_by_fields c.args.bound c.args.word.now _ _ _ c.before_byte.ensures c.denominator_of.ensures c.fraction.ensures

pub returns-clause-value : goal.returns-clause-value
returns-clause-value c = value_from c.args.bound c.args.word.now _ (returns-clause-exact c)

pub returns-clause-fault : goal.returns-clause-fault
returns-clause-fault c = fault_from c.args.bound c.args.word.now _ (returns-clause-exact c)

pub returns-clause-num : goal.returns-clause-num
returns-clause-num c = IfOk-weaker c.fraction.result _ _ (λ p h. h.0) (parts_within c.args.bound c.args.word.now c.fraction.result (returns-clause-exact c))

pub returns-clause-den : goal.returns-clause-den
returns-clause-den c = IfOk-weaker c.fraction.result _ _ (λ p h. h.1) (parts_within c.args.bound c.args.word.now c.fraction.result (returns-clause-exact c))

pub returns-clause-positive : goal.returns-clause-positive
returns-clause-positive c = IfOk-weaker c.fraction.result _ _ (λ p h. h.2) (parts_within c.args.bound c.args.word.now c.fraction.result (returns-clause-exact c))
