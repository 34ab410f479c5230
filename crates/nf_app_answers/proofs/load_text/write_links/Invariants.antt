use Rattle.std.proofs.Common.{take, Ok, flat_map, map}
use Rattle.nf_app_answers.proofs.Common.{enumerate_from, SinkFault, state_of, loaded_lines, WroteLines, loaded_of}
use Rattle.nf_app_answers.proofs.load_text.write_links.Given as goal

-- the curves of the links before this one
abbrev pub invariant-loop-link : goal.invariant-loop-link
invariant-loop-link g l = let out = g.O.Sink in
    WroteLines {E = SinkFault} (state_of out l.initial.out) (state_of out l.out)
    (flat_map (loaded_lines l.net.link_names) (take l.link (enumerate_from 0 (map loaded_of l.links)))) (Ok tt)
