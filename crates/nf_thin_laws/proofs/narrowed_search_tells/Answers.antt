use Rattle.nf_thin_laws.proofs.Narrowed.{found, over, none_at_all}
use Rattle.nf_thin_laws.proofs.narrowed_search_tells.Goals as goal

pub returns : goal.returns
returns c = record {
  found = λ passes net sets rate base forced listing narrow place p n at accepted none. found passes net sets rate base forced listing narrow n place p at accepted none;
  over = λ passes net sets rate base forced listing narrow budget n longer none. over passes net sets rate base forced listing narrow n budget longer none;
  none = λ passes net sets rate base forced listing narrow n none. none_at_all passes net sets rate base forced listing narrow n none;
}
