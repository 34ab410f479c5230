-- The head of a report and what comes after it are the whole report.
use Rattle.std.proofs.Common.{◌≡◌, List, [], ◌∷◌, ◌++◌, length, ap, ◌∙◌}
use Rattle.std.specs.Prelude.{codes}
use Rattle.nf_net_def.specs.Named.{Named}
use Rattle.nf_net_def.specs.Report.{Report, for_each, label_lines, link_lines, state_lines, report_lines}
use Rattle.nf_report_pages.specs.Written.{Line, never_lines, flow_lines}
use Rattle.nf_report_pages.proofs.Gathering.{right_first}
use Rattle.nf_report.specs.Parts.{head_lines, body_lines}

abbrev pub head_of : Named → Report → List Line
head_of n report = head_lines n.version report.horizon report.flow.reached report.stop

abbrev pub body_of : Named → Report → List Line
body_of n report = body_lines n report.flow report.last

joined : (h a b c : List Line) → h ++ (a ++ b ++ c) ≡ h ++ a ++ b ++ c
joined h a b c = right_first h (a ++ b) c ∙ ap (λ (l : List Line). l ++ c) (right_first h a b)

-- the head and the body are the whole report
pub whole : (n : Named) (report : Report) → head_of n report ++ body_of n report ≡ report_lines n report
whole n report =
    let states : List Line = for_each (length n.net.links) (state_lines n report.last) in
    let end : List Line = (codes "end" ∷ []) ∷ [] in
    joined (head_of n report) (flow_lines n report.flow) states end
    ∙ ap (λ (l : List Line). l ++ states ++ end)
    (joined (head_of n report) (for_each n.net.nodes (label_lines n report.flow)) (never_lines n.idle_nodes) (for_each (length n.net.links) (link_lines n report.flow)))
