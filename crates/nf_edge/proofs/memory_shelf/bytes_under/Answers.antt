use Rattle.std.proofs.Common.{string_bytes}
use Rattle.nf_edge.proofs.Told.{told_here, told_later, told_nowhere}
use Rattle.nf_edge.proofs.memory_shelf.bytes_under.Goals as goal

pub returns-then-eq : goal.returns-then-eq
returns-then-eq c = told_here c.args.files.now c.loop-file.file-index c.file-item.result (string_bytes c.file.inside.name) c.file.inside.bytes.items c.args.name.now
    c.loop-file-test.true c.file-item.is c.file.view_is c.as_str.result.now c.deref.result.now c.loop-file.invariant c.as_str.ensures.value c.if-eq.ensures c.deref.ensures.value

pub loop-file-preserved : goal.loop-file-preserved
loop-file-preserved c = told_later c.args.files.now c.loop-file.file-index c.file-item.result (string_bytes c.file.inside.name) c.file.inside.bytes.items c.args.name.now
    c.loop-file-test.true c.file-item.is c.file.view_is c.as_str.result.now c.loop-file.invariant c.as_str.ensures.value c.if-eq.ensures

pub returns : goal.returns
returns c = told_nowhere c.args.files.now c.loop-file.file-index c.args.name.now c.loop-file.invariant c.loop-file-test.false
