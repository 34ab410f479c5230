use Rattle.std.proofs.Common.{◌≡◌, ◌+◌, ◌≤◌, length, refl, arith, rules}
use Rattle.std.specs.Io.KnownBytes.{Consumes, IsAtEnd}
use Rattle.nf_edge.proofs.Returned.{is_memory, items-fit, memory-has_no_value, memory-not_too_long, failed-not_too_long, value-is_no_fault, fits-within, fits-not_above, is-within, read_none}
use Rattle.nf_edge.proofs.real.read_file.Goals as goal

pub returns-in_default : goal.returns-in_default
returns-in_default g c =
    let fits : length c.loop-turn.bytes.items ≤ c.args.limit = omega (arith, c.loop-turn.bytes.ok.0) in
    record {
      at_most = fits-within _ _ fits;
      within = tt;
      too_long = λ e. absurd (failed-not_too_long _ refl e);
      long = λ more. absurd (fits-not_above _ _ fits more);
      read = tt;
      all = tt;
    }

pub returns-then-count-eq0 : goal.returns-then-count-eq0
returns-then-count-eq0 g c =
    let fits : length c.loop-turn.bytes.items ≤ c.args.limit = omega (arith, c.loop-turn.bytes.ok.0) in
    record {
      at_most = fits-within _ _ fits;
      within = fits;
      too_long = λ e. absurd (value-is_no_fault _ _ _ refl e);
      long = λ more. absurd (fits-not_above _ _ fits more);
      read = read_none _ _ _ _ _ _ c.loop-turn.invariant.read c.if-count-eq0.true c.in-Ok.ensures.bytes.0;
      all = c.in-Ok.ensures.bytes.1 c.if-count-eq0.true (search rules);
    }

pub returns-in_err-extend_from_slice : goal.returns-in_err-extend_from_slice
returns-in_err-extend_from_slice g c =
    let memory = is_memory {T = Unit {0}} c.from_residual.result c.from_residual.ensures.1 in
    let before : length c.loop-turn.bytes.items ≤ c.args.limit = omega (arith, c.loop-turn.bytes.ok.0) in
    let fits = items-fit c.extend_from_slice.new.self.items c.loop-turn.bytes.items c.args.limit c.in_err-extend_from_slice.ensures.items before in
    record {
      at_most = fits-within _ _ fits;
      within = memory-has_no_value c.from_residual.result (λ _. length c.extend_from_slice.new.self.items ≤ c.args.limit) memory;
      too_long = λ e. absurd (memory-not_too_long c.from_residual.result memory e);
      long = λ more. absurd (fits-not_above _ _ fits more);
      read = memory-has_no_value c.from_residual.result
          (λ _. Consumes (g.F.Read.remaining c.args.file.now) (g.F.Read.remaining c.read.new.self) c.extend_from_slice.new.self.items) memory;
      all = memory-has_no_value c.from_residual.result (λ _. IsAtEnd (g.F.Read.remaining c.read.new.self)) memory;
    }

pub returns : goal.returns
returns g c =
    let whole : length c.loop-turn.bytes.items ≡ c.args.limit + 1 = omega (arith, c.loop-turn.bytes.ok.0) in
    record {
      at_most = is-within _ _ whole;
      within = tt;
      too_long = λ _. whole;
      long = λ _. refl;
      read = tt;
      all = tt;
    }
