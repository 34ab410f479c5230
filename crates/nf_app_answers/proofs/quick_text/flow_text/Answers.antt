use Rattle.std.proofs.Common.{◌≡◌, ℕ, List, [], ◌++◌, length, ap, ◌∙◌, flat_map}
use Rattle.nf_app_answers.proofs.Common.{enumerate_from, IfOk-from_err, ℚ, Fed, Quick, walk_line, cut_line, flow_text}
use Rattle.nf_app_answers.proofs.quick_text.flow_text.Goals as goal

pub returns-in_err-put_number_line : goal.returns-in_err-put_number_line
returns-in_err-put_number_line c = IfOk-from_err c.from_residual.result _ c.from_residual.ensures.0

pub returns-in_err-put_walks : goal.returns-in_err-put_walks
returns-in_err-put_walks c = IfOk-from_err c.from_residual-in_err-put_walks.result _ c.from_residual-in_err-put_walks.ensures.0

pub returns-in_err-put_cut : goal.returns-in_err-put_cut
returns-in_err-put_cut c = IfOk-from_err c.from_residual-in_err-put_cut.result _ c.from_residual-in_err-put_cut.ensures.0

pub returns-in_err-put_number_line-2 : goal.returns-in_err-put_number_line-2
returns-in_err-put_number_line-2 c = IfOk-from_err c.from_residual-in_err-put_number_line-2.result _ c.from_residual-in_err-put_number_line-2.ensures.0

pub put_cut-requires : goal.put_cut-requires
put_cut-requires c = ap length c.deref-2.ensures.value ∙ ap (λ (q : Quick). length q.cut) c.quick.view_is ∙ c.requires

four_parts : (o o1 o2 o3 o4 a b d e : List ℕ) → o ≡ [] → o1 ≡ o ++ a → o2 ≡ o1 ++ b → o3 ≡ o2 ++ d → o4 ≡ o3 ++ e → o4 ≡ a ++ b ++ d ++ e
four_parts o o1 o2 o3 o4 a b d e h h1 h2 h3 h4 =
    h4 ∙ ap (λ (l : List ℕ). l ++ e) (h3 ∙ ap (λ (l : List ℕ). l ++ d) (h2 ∙ ap (λ (l : List ℕ). l ++ b) (h1 ∙ ap (λ (l : List ℕ). l ++ a) h)))

pub returns : goal.returns
returns c =
    four_parts c.new-text.result.items c.put_number_line.new.text.items c.put_walks.new.text.items c.put_cut.new.text.items
    c.put_number_line-2.new.text.items _ _ _ _ c.new-text.ensures.items c.in_ok-put_number_line.ensures
    (c.in_ok-put_walks.ensures ∙ ap (λ (l : List Fed). c.put_number_line.new.text.items ++ flat_map (walk_line c.args.net.now.link_names) l) c.deref.ensures.value)
    (c.in_ok-put_cut.ensures ∙ ap (λ (l : List ℚ). c.put_walks.new.text.items ++ flat_map (cut_line c.args.net.now.node_names) (enumerate_from 0 l)) c.deref-2.ensures.value)
    c.in_ok-put_number_line-2.ensures
    ∙ ap (λ (q : Quick). flow_text c.args.net.now q) c.quick.view_is
