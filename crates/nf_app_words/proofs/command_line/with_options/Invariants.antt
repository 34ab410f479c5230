use Rattle.std.proofs.Common.{◌≡◌, drop, map}
use Rattle.nf_app_words.proofs.Common.{with_options, app_in}
use Rattle.nf_app_words.proofs.command_line.with_options.Given as goal

abbrev pub invariant-loop-name : goal.invariant-loop-name
invariant-loop-name l =
    with_options (map (λ name. name.now) (drop l.name-index l.names)) (app_in l.command)
    ≡ with_options (map (λ name. name.now) l.names) (app_in l.fn.command)
