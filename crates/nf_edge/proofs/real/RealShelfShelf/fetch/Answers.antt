use Rattle.std.proofs.Common.{◌≡◌, ℕ, length, Vec, String, refl, sym, ap, ◌∙◌, inl, inr, rules, Err}
use Rattle.std.specs.declared.alloc.Global.{Global}
use Rattle.nf_edge.specs.Names.{texts}
use Rattle.nf_edge.proofs.Returned.{is_memory, memory-has_no_value, memory-not_failed, memory-not_too_long, value-is_no_fault, none-within, none-not_above, fits-within, fits-not_above, is-within, same_fault, count-fits, count-above, above-count}
use Rattle.nf_edge.proofs.real.RealShelfShelf.fetch.Goals as goal

pub returns-in_err-note : goal.returns-in_err-note
returns-in_err-note g c =
    let memory = is_memory {T = Vec ℕ Global} c.from_residual.result c.from_residual.ensures.1 in
    record {
      taken = memory-has_no_value _ _ memory;
      failed = λ e. absurd (memory-not_failed _ memory e);
      never_falls = is-within _ _ refl;
      at_most = none-within c.args.limit;
      too_long = λ e. absurd (memory-not_too_long _ memory e);
      long = λ more. absurd (none-not_above c.args.limit more);
      asked = inr (memory, c.in_err-note.ensures.err);
    }

pub returns-in-Ok : goal.returns-in-Ok
returns-in-Ok g c =
    let taken : c.len.result ≡ length c.read_named-read.new.bytes.items = search rules in
    let fits = c.in-Ok.ensures.within in
    record {
      taken = taken;
      failed = λ e. absurd (value-is_no_fault _ _ _ refl e);
      never_falls = is-within _ _ refl;
      at_most = fits-within _ _ (count-fits _ _ _ taken fits);
      too_long = λ e. absurd (value-is_no_fault _ _ _ refl e);
      long = λ more. absurd (fits-not_above _ _ (count-fits _ _ _ taken fits) more);
      asked = inl c.in_ok-note.ensures.ok;
    }

pub returns-in-Err : goal.returns-in-Err
returns-in-Err g c =
    let len : c.len.result ≡ length c.read_named-read.new.bytes.items = search rules in
    let taken = c.counted.ensures.taken ∙ len in
    record {
      taken = tt;
      failed = λ e. c.counted.ensures.failed (sym c.counted.ensures.fault ∙ same_fault _ _ _ refl e);
      never_falls = c.counted.ensures.never_falls;
      at_most = count-fits _ _ _ taken c.read_named-read.ensures.at_most;
      too_long = λ e. count-above _ _ _ taken (c.read_named-read.ensures.too_long (c.in-Err.is ∙ ap Err (sym c.counted.ensures.fault ∙ same_fault _ _ _ refl e)));
      long = λ more. ap Err (c.counted.ensures.fault ∙ same_fault _ _ _ c.in-Err.is (c.read_named-read.ensures.long (above-count _ _ _ taken more)));
      asked = inl (ap (λ (v : Vec (String Global) Global). texts v.items) c.counted.ensures.asked ∙ c.in_ok-note.ensures.ok);
    }
