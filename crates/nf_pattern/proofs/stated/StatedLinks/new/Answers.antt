use Rattle.nf_pattern.proofs.stated.StatedLinks.new.Goals as goal

pub returns : goal.returns
returns c = record {
  count_next = c.in_ok-next.ensures.count;
  count_last = c.in_ok-last.ensures.count;
  next = c.in_ok-next.ensures.next;
  last = c.in_ok-last.ensures.last;
}
