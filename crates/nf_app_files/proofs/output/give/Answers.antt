use Rattle.std.proofs.Common.{ℕ, List, ap, inl, inr, refl, subst, ◌∙◌}
use Rattle.nf_edge.specs.Taken.{with_more, TookFront}
use Rattle.nf_app_files.proofs.Statuses.{writes, text_is, took_text}
use Rattle.nf_app_files.proofs.output.give.Goals as goal

pub returns-in-Ok-clause-shown : goal.returns-in-Ok-clause-shown
returns-in-Ok-clause-shown g c =
    let net = c.args.outcome.now.net in
    inl (record {
      status_is = c.tell.ensures.status net;
      took = record {
        all = c.in-Ok.ensures.whole ∙ ap (with_more (g.O.Sink.took c.args.out.now)) (text_is net c.args.outcome.now.found c.requires);
        no_fault = c.in-Ok.ensures.no_fault;
      };
      told = c.tell.ensures.told net;
    })

pub returns-in-Err-clause-shown : goal.returns-in-Err-clause-shown
returns-in-Err-clause-shown g c =
    let net = c.args.outcome.now.net in
    let found = c.args.outcome.now.found in
    inr (record {
      status_is = refl;
      has_text = writes c.args.outcome.now;
      took = record {
        front = subst (λ (text : List ℕ). TookFront (g.O.Sink.took c.args.out.now) (g.O.Sink.took c.write_found.new.out) text) (text_is net found c.requires) c.in-Err.ensures.front;
        cause = c.in-Err.ensures.cause;
      };
      told = took_text _ _ _ c.write_text.result c.write_text.ensures;
    })
