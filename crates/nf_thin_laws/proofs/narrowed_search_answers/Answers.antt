use Rattle.nf_thin_laws.proofs.Answered.{answer_within, answer_beyond}
use Rattle.nf_thin_laws.proofs.narrowed_search_answers.Goals as goal

pub returns : goal.returns
returns c = record {
  within = λ passes net sets rate base forced listing narrow budget place p flows slopes n at accepted solution none few.
      answer_within passes net sets rate base forced listing narrow n budget place p at accepted none flows slopes solution few;
  beyond = λ passes net sets rate base forced listing narrow budget place p n at none more.
      answer_beyond passes net sets rate base forced listing narrow n budget place p at none more;
}
