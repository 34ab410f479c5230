use Rattle.std.proofs.Common.{List, subst, map}
use Rattle.nf_app.proofs.Common.{err_from_is_err_and, Piece, ArePieces, pieces_at, loaded_of}
use Rattle.nf_app.proofs.LoadResult.{loads_refused, loading_stopped, loading_given}
use Rattle.nf_app.proofs.answering.load_to.Goals as goal

pub returns-in_err-loads : goal.returns-in_err-loads
returns-in_err-loads c file name =
    let p = err_from_is_err_and c.from_residual.result c.from_residual.ensures.1 in
    rw (p.1, p.2) (loads_refused c.args.net.now file name c.args.horizon c.args.loads.now c.in_err-loads.field-0.0 c.in_err-loads.ensures.reads)

pub returns-in_err-links : goal.returns-in_err-links
returns-in_err-links c file name =
    let p = err_from_is_err_and c.from_residual-in_err-links.result c.from_residual-in_err-links.ensures.1 in
    rw (p.1, p.2) (loading_stopped c.args.net.now file name c.args.horizon c.args.loads.now c.in_ok-loads.loads c.in_ok-loads.ensures.reads
    c.in_err-links.field-0.0 c.in_err-links.ensures.list)

pub returns : goal.returns
returns c file name = (
  loading_given c.args.net.now file name c.args.horizon c.args.loads.now c.in_ok-loads.loads c.in_ok-loads.ensures.reads
      (map loaded_of c.in_ok-links.links.items) c.in_ok-links.ensures.list
      c.recall.ensures.network c.in_ok-loads.ensures.links c.requires.horizon
      (λ e. subst (λ (l : List (List Piece)). ArePieces (pieces_at l e)) c.loads.view_is (c.loads.invariant.each e)),
  c.in_ok-links.ensures.many,
)

pub load_links-requires-clause-many : goal.load_links-requires-clause-many
load_links-requires-clause-many c = c.in_ok-loads.ensures.links

pub load_links-requires-clause-horizon : goal.load_links-requires-clause-horizon
load_links-requires-clause-horizon c = c.requires.horizon
