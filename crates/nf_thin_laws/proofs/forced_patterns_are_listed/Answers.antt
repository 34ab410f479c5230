use Rattle.nf_thin_laws.proofs.Forced.{filled-unforced_of, same_count, left_pattern, left_listed, filled_listed, left_count, left_bare, has_forced}
use Rattle.nf_thin_laws.proofs.Forced.{unforced_of-filled}
use Rattle.nf_thin_laws.proofs.Narrowed.{more_changes, order_put, order_left}
use Rattle.nf_thin_laws.proofs.forced_patterns_are_listed.Goals as goal

pub returns : goal.returns
returns c = record {
  taken = λ nodes source hops sets unbounded forced p is listed has.
      (left_listed sets unbounded forced is nodes source hops p listed has, filled-unforced_of forced p (same_count sets unbounded forced is p listed.states) has);
  put = λ nodes source hops sets unbounded forced p is listed. (
    filled_listed sets unbounded forced is nodes source hops p listed,
    has_forced sets unbounded forced is p (left_count sets unbounded forced is p listed.states),
    unforced_of-filled forced p (left_count sets unbounded forced is p listed.states) (left_bare sets unbounded forced is p listed.states),
  );
  base = λ sets unbounded forced p is pattern. left_pattern sets unbounded forced is p pattern;
  order = λ sets unbounded forced base p q is b one other.
      (order_put sets unbounded forced base p q is b one other, order_left sets unbounded forced base p q is b one other);
  more = λ sets unbounded forced base p is b one. more_changes sets unbounded forced base p is b one;
}
