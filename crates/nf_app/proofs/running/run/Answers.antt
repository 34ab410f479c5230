use Rattle.std.proofs.Common.{refl}
use Rattle.nf_app.proofs.Common.{refused_answer, took_of}
use Rattle.nf_app_answers.specs.Outcomes.{answer_in}
use Rattle.nf_app.proofs.Calls.{took_no_text, refused_shown}
use Rattle.nf_app.proofs.Derived.{derived}
use Rattle.nf_app.proofs.running.run.Goals as goal

pub returns-in-Ok-clause-promises : goal.returns-in-Ok-clause-promises
returns-in-Ok-clause-promises g c = derived _ (record { answer = answer_in c.in-Ok.outcome; comes = c.in-Ok.ensures.answered.0; shown = c.give-status.ensures.shown })

pub returns-in-Err-clause-promises : goal.returns-in-Err-clause-promises
returns-in-Err-clause-promises g c = derived _ (record {
  answer = refused_answer c.in-Err.refusal;
  comes = c.in-Err.ensures.answered;
  shown = refused_shown (refused_answer c.in-Err.refusal) (took_of g.O.Sink c.args.out.now c.args.out.now) (took_of g.E.Sink c.args.err.now c.refuse.new.err) c.refuse.result
      (took_no_text (g.O.Sink.took c.args.out.now) c.in-Err.refusal) refl c.refuse.ensures.status c.refuse.ensures.told;
})

pub returns-in-Ok-clause-same : goal.returns-in-Ok-clause-same
returns-in-Ok-clause-same g c = c.in-Ok.ensures.same

pub returns-in-Err-clause-same : goal.returns-in-Err-clause-same
returns-in-Err-clause-same g c = c.in-Err.ensures.same

pub returns-in-Ok-clause-shelf_never_falls : goal.returns-in-Ok-clause-shelf_never_falls
returns-in-Ok-clause-shelf_never_falls g c = c.in-Ok.ensures.never_falls

pub returns-in-Err-clause-shelf_never_falls : goal.returns-in-Err-clause-shelf_never_falls
returns-in-Err-clause-shelf_never_falls g c = c.in-Err.ensures.never_falls

pub returns-in-Ok-clause-out_never_falls : goal.returns-in-Ok-clause-out_never_falls
returns-in-Ok-clause-out_never_falls g c = c.give-status.ensures.out_never_falls

pub returns-in-Ok-clause-err_never_falls : goal.returns-in-Ok-clause-err_never_falls
returns-in-Ok-clause-err_never_falls g c = c.give-status.ensures.err_never_falls

pub returns-in-Err-clause-err_never_falls : goal.returns-in-Err-clause-err_never_falls
returns-in-Err-clause-err_never_falls g c = c.refuse.ensures.never_falls
