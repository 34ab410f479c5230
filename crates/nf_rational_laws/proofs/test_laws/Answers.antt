use Rattle.nf_rational_laws.proofs.Tests.{le_of_test, test_of_le, min_ℚ_cases, max_ℚ_cases, less_of_test, test_of_less}
use Rattle.nf_rational_laws.proofs.test_laws.Goals as goal

pub returns : goal.returns
returns c = record {
  at_most = λ x y. (le_of_test x y, test_of_le x y);
  below = λ x y. (less_of_test x y, test_of_less x y);
  lesser = min_ℚ_cases;
  greater = max_ℚ_cases;
}
