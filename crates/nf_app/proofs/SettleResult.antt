-- What a request to settle a thin flow gives, from what was read of its flows file and what settling answers.
use Rattle.std.proofs.Common.{◌≡◌, ◌⊎◌, ℕ, List, length, refl, ◌∙◌, inl, inr, Some, None, Ok, Err}
use Rattle.nf_app.proofs.Common.{ℚ, Halt, Named, AreSets-sets_at, GivenFlows, flows_in, FileFault, Refusal, Settle, Settled, NotThin, refused_answer}
use Rattle.nf_app.proofs.Common.{refusal_of_flows, refusal_of_halt, SettlesAtStart, IsResultOf}
use Rattle.nf_complete.specs.declared.settled.Settled.{Settled as CodeSettled}
use Rattle.nf_side.specs.Faults.{IfBroken}
use Rattle.nf_complete_def.specs.declared.FlowsRule.{FlowsRule}

module _ (n : Named) (file name : List ℕ) (text : List ℕ) where
  abbrev Answers : Refusal → Type 0
  Answers refusal = (refusal ≡ Refusal.NoMemory) ⊎ IsResultOf n text (Settle file name) (refused_answer refusal)

  pub flows_refused : (fault : FileFault FlowsRule) → IfBroken fault (λ broken. flows_in n text ≡ Err broken) → Answers (refusal_of_flows fault)
  flows_refused (FileFault.Broken rule line) e = inr (inr (inl (record { rule = rule; line = line }, refl, e)))
  flows_refused FileFault.Memory e = inl refl

  module _ (given : GivenFlows) (read : flows_in n text ≡ Ok given) where
    pub settling_halted : (halt : Halt ℚ) → SettlesAtStart n.net given (Err halt) → Answers (refusal_of_halt halt)
    settling_halted (Halt.Passed at) h =
        inr (inr (inr (inl (at, refl, record { given = given; read = read; labels = h.0; are_start = h.1; passes = h.2 }))))
    settling_halted Halt.Memory h = inl refl

    pub not_thin_given : SettlesAtStart n.net given (Ok None) → IsResultOf n text (Settle file name) NotThin
    not_thin_given h = inr (inr (inr (refl, record { given = given; read = read; labels = h.0; are_start = h.1; not_thin = h.2 })))

    module _ (s : CodeSettled) (h : SettlesAtStart n.net given (Ok (Some s))) where
      pub settled_given : IsResultOf n text (Settle file name) (Settled n s.pattern s.flows.items)
      settled_given = inl (record {
        given = given;
        read = read;
        labels = h.0;
        are_start = h.1;
        pattern = s.pattern;
        flows = s.flows.items;
        is = refl;
        settled = h.2;
      })

      -- there is an entry for each link
      pub settled_counts : (length s.flows.items ≡ length n.net.links) × (length s.pattern ≡ length n.net.links)
      settled_counts = (h.2.still_thin.flow_count, h.2.pattern_is.count ∙ (AreSets-sets_at n.net h.0).count)
