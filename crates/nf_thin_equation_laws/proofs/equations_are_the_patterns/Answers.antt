use Rattle.nf_thin_equation_laws.proofs.Table.{is_square, solves_alone, solves_not_alone}
use Rattle.nf_thin_equation_laws.proofs.equations_are_the_patterns.Goals as goal

pub returns : goal.returns
returns c = record {
  square = is_square;
  one = λ passes net sets rate pattern values p h. solves_alone net sets rate pattern p passes values h;
  not_one = λ passes net sets rate pattern flows slopes p h alone. solves_not_alone net sets rate pattern p passes flows slopes h alone;
}
