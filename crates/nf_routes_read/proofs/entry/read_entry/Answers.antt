use Rattle.std.proofs.Common.{length, Result, sym, subst, ◌∙◌}
use Rattle.nf_routes_read.proofs.Common.{RoutesRule, RoutesEntry, route_names, Says}
use Rattle.nf_routes_read.proofs.RouteWords.{route_line_is, rate_line_is, end_line_is}
use Rattle.nf_routes_read.proofs.entry.read_entry.Goals as goal

pub returns-then-is_word-clause-fits : goal.returns-then-is_word-clause-fits
returns-then-is_word-clause-fits c = c.read_route.ensures.fits (length c.args.routes.now)

pub returns-then-is_word-clause-says : goal.returns-then-is_word-clause-says
returns-then-is_word-clause-says c =
    subst (λ (said : Result RoutesEntry RoutesRule). Says said c.read_route.result)
    (sym (route_line_is c.args.net.now.link_names (route_names c.args.routes.now) c.args.line.now.words c.at-key.result.now
    (λ e. c.if-len-eq0.false (c.len.ensures ∙ e)) c.at-key.ensures (sym c.is_word.ensures ∙ c.if-is_word.true)))
    c.read_route.ensures.says

pub returns-then-is_word-2-clause-says : goal.returns-then-is_word-2-clause-says
returns-then-is_word-2-clause-says c =
    subst (λ (said : Result RoutesEntry RoutesRule). Says said c.read_rate.result)
    (sym (rate_line_is c.args.net.now.link_names (route_names c.args.routes.now) c.args.line.now.words c.at-key.result.now
    (λ e. c.if-len-eq0.false (c.len.ensures ∙ e)) c.at-key.ensures (sym c.is_word.ensures ∙ c.if-is_word.false)
    (sym c.is_word-2.ensures ∙ c.if-is_word-2.true)))
    c.read_rate.ensures.says

pub returns-then-is_word-2-clause-links : goal.returns-then-is_word-2-clause-links
returns-then-is_word-2-clause-links c = c.read_rate.ensures.links (length c.args.net.now.link_names)

pub returns-then-is_word-3-clause-says : goal.returns-then-is_word-3-clause-says
returns-then-is_word-3-clause-says c =
    subst (λ (said : Result RoutesEntry RoutesRule). Says said c.read_end.result)
    (sym (end_line_is c.args.net.now.link_names (route_names c.args.routes.now) c.args.line.now.words c.at-key.result.now
    (λ e. c.if-len-eq0.false (c.len.ensures ∙ e)) c.at-key.ensures (sym c.is_word.ensures ∙ c.if-is_word.false)
    (sym c.is_word-2.ensures ∙ c.if-is_word-2.false) (sym c.is_word-3.ensures ∙ c.if-is_word-3.true)))
    c.read_end.ensures.says

pub returns-then-is_word-3-clause-fits : goal.returns-then-is_word-3-clause-fits
returns-then-is_word-3-clause-fits c = c.read_end.ensures.fits (length c.args.routes.now)

pub returns-then-is_word-3-clause-links : goal.returns-then-is_word-3-clause-links
returns-then-is_word-3-clause-links c = c.read_end.ensures.links (length c.args.net.now.link_names)
