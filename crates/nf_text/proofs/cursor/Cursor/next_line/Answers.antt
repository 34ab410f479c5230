use Rattle.std.proofs.Common.{arith, ◌∙◌, ◌<◌, length}
use Rattle.nf_text.proofs.CursorSteps.{next_read, next_fine, next_faulty}
use Rattle.nf_text.proofs.cursor.Cursor.next_line.Goals as goal

pub returns-in-Ok-clause-line : goal.returns-in-Ok-clause-line
returns-in-Ok-clause-line c =
    let within : c.self.inside.start < length c.self.inside.text.now = omega (arith, c.if-self.false, c.self.invariant.within) in
    next_read c.self.inside.text.now c.self.inside.start c.self.inside.line_number within c.args.self.now c.self.view_is c.in-Ok.next c.in-Ok.ensures.next
    c.new.result (c.new.ensures ∙ c.in-Ok.ensures.line)

pub returns-in-Ok-clause-fine : goal.returns-in-Ok-clause-fine
returns-in-Ok-clause-fine c =
    let within : c.self.inside.start < length c.self.inside.text.now = omega (arith, c.if-self.false, c.self.invariant.within) in
    next_fine c.self.inside.text.now c.self.inside.start c.self.inside.line_number within c.args.self.now c.self.view_is c.in-Ok.next c.in-Ok.ensures.next
    c.in-Ok.ensures.none

pub returns-in-Err-clause-fault : goal.returns-in-Err-clause-fault
returns-in-Err-clause-fault c =
    let within : c.self.inside.start < length c.self.inside.text.now = omega (arith, c.if-self.false, c.self.invariant.within) in
    next_faulty c.self.inside.text.now c.self.inside.start c.self.inside.line_number within c.args.self.now c.self.view_is c.in-Err.fault c.in-Err.ensures.fault
