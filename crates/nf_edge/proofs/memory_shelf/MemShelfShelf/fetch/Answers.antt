use Rattle.std.proofs.Common.{ℕ, ◌+◌, length, ◌++◌, ◌∷◌, [], Vec, refl, sym, ap, ◌∙◌, inl, inr, rules}
use Rattle.std.specs.declared.alloc.Global.{Global}
use Rattle.nf_edge.specs.Faults.{one_more}
use Rattle.nf_edge.specs.Memory.{MemoryShelf}
use Rattle.nf_edge.proofs.Returned.{is_memory, memory-has_no_value, memory-not_failed, memory-not_too_long, memory-answers, too_long-not_failed, value-is_no_fault, found-fits, none-not_above, fits-not_above, is-within}
use Rattle.nf_edge.proofs.memory_shelf.MemShelfShelf.fetch.Goals as goal

pub returns-in_err-note : goal.returns-in_err-note
returns-in_err-note c =
    let memory = is_memory {T = Vec ℕ Global} c.from_residual.result c.from_residual.ensures.1 in
    let faults = ap (λ (s : MemoryShelf). s.faults) c.self.view_is in
    record {
      answer = memory-answers _ _ memory;
      files = ap (λ (s : MemoryShelf). s.files) c.self.view_is;
      failing = ap (λ (s : MemoryShelf). s.failing) c.self.view_is;
      calls = c.saturating_add-self-inside.ensures ∙ ap (λ (s : MemoryShelf). one_more s.calls) c.self.view_is;
      taken = memory-has_no_value _ _ memory;
      too_long = λ e. absurd (memory-not_too_long _ memory e);
      long = λ more. absurd (none-not_above c.args.limit more);
      failed = λ e. absurd (memory-not_failed _ memory e);
      other = λ _. faults;
      never_falls = is-within _ _ (sym faults);
      asked = inr (memory, c.in_err-note.ensures.err ∙ ap (λ (s : MemoryShelf). s.asked) c.self.view_is);
    }

pub returns-in_err-to_vec-in-Ok : goal.returns-in_err-to_vec-in-Ok
returns-in_err-to_vec-in-Ok c =
    let memory = is_memory {T = Vec ℕ Global} c.from_residual-in_err-to_vec-in-Ok.result c.from_residual-in_err-to_vec-in-Ok.ensures.1 in
    let faults = ap (λ (s : MemoryShelf). s.faults) c.self.view_is in
    let fits = found-fits c.deref.result.now c.deref-2.result.now c.saturating_add-self-inside.result c.args.name.now c.args.limit c.in-Ok.bytes.now c.in-Ok.ensures in
    record {
      answer = memory-answers _ _ memory;
      files = ap (λ (s : MemoryShelf). s.files) c.self.view_is;
      failing = ap (λ (s : MemoryShelf). s.failing) c.self.view_is;
      calls = c.saturating_add-self-inside.ensures ∙ ap (λ (s : MemoryShelf). one_more s.calls) c.self.view_is;
      taken = memory-has_no_value _ _ memory;
      too_long = λ e. absurd (memory-not_too_long _ memory e);
      long = λ more. absurd (fits-not_above (length c.in-Ok.bytes.now) c.args.limit fits more);
      failed = λ e. absurd (memory-not_failed _ memory e);
      other = λ _. faults;
      never_falls = is-within _ _ (sym faults);
      asked = inl (c.in_ok-note.ensures.ok ∙ ap (λ (s : MemoryShelf). s.asked ++ c.args.name.now ∷ []) c.self.view_is);
    }

pub returns-in_ok-to_vec-in-Ok : goal.returns-in_ok-to_vec-in-Ok
returns-in_ok-to_vec-in-Ok c =
    let faults = ap (λ (s : MemoryShelf). s.faults) c.self.view_is in
    let fits = found-fits c.deref.result.now c.deref-2.result.now c.saturating_add-self-inside.result c.args.name.now c.args.limit c.in-Ok.bytes.now c.in-Ok.ensures in
    record {
      answer = search rules;
      files = ap (λ (s : MemoryShelf). s.files) c.self.view_is;
      failing = ap (λ (s : MemoryShelf). s.failing) c.self.view_is;
      calls = c.saturating_add-self-inside.ensures ∙ ap (λ (s : MemoryShelf). one_more s.calls) c.self.view_is;
      taken = search rules;
      too_long = λ e. absurd (value-is_no_fault _ _ _ refl e);
      long = λ more. absurd (fits-not_above (length c.in-Ok.bytes.now) c.args.limit fits more);
      failed = λ e. absurd (value-is_no_fault _ _ _ refl e);
      other = λ _. faults;
      never_falls = is-within _ _ (sym faults);
      asked = inl (c.in_ok-note.ensures.ok ∙ ap (λ (s : MemoryShelf). s.asked ++ c.args.name.now ∷ []) c.self.view_is);
    }

pub returns-in-Err-TooLong : goal.returns-in-Err-TooLong
returns-in-Err-TooLong c =
    let faults = ap (λ (s : MemoryShelf). s.faults) c.self.view_is in
    let next = ap (λ (n : ℕ). n + 1) c.from.ensures in
    record {
      answer = search rules;
      files = ap (λ (s : MemoryShelf). s.files) c.self.view_is;
      failing = ap (λ (s : MemoryShelf). s.failing) c.self.view_is;
      calls = c.saturating_add-self-inside.ensures ∙ ap (λ (s : MemoryShelf). one_more s.calls) c.self.view_is;
      taken = tt;
      too_long = λ _. next;
      long = λ _. refl;
      failed = λ e. absurd (too_long-not_failed _ refl e);
      other = λ _. faults;
      never_falls = is-within _ _ (sym faults);
      asked = inl (c.in_ok-note.ensures.ok ∙ ap (λ (s : MemoryShelf). s.asked ++ c.args.name.now ∷ []) c.self.view_is);
    }

pub returns-in-Err : goal.returns-in-Err
returns-in-Err c = search rules
