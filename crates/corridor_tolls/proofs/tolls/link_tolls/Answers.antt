use Rattle.std.proofs.Common.{ℕ, List, ◌++◌, ◌∙◌, ap, sym, subst}
use Rattle.std.specs.List.{flat_map}
use Rattle.nf_rational.specs.Operations.{0ℚ}
use Rattle.nf_rational.specs.Order.{◌≤ℚ◌}
use Rattle.nf_model.specs.Network.{Link, Piece}
use Rattle.nf_model_laws.specs.Capacity.{IsPositive}
use Rattle.nf_net_def.specs.Names.{name_at}
use Rattle.nf_load_def.specs.Meanings.{IsCumulative, IsLoaded}
use Rattle.nf_load.specs.Loadings.{loaded_of}
use Rattle.corridor_tolls.specs.Tolls.{toll_at}
use Rattle.corridor_tolls.proofs.tolls.link_tolls.Goals as goal

pub cumulative-requires-clause-pieces : goal.cumulative-requires-clause-pieces
cumulative-requires-clause-pieces c = c.pieces.ensures.pieces

pub load_link-requires-clause-transit : goal.load_link-requires-clause-transit
load_link-requires-clause-transit c =
    subst (λ (l : Link). 0ℚ ≤ℚ l.transit) (sym c.here.view_is) (c.link-here.ensures.named.network.transits c.args.link c.link-here.result c.link-here.ensures.link)

pub load_link-requires-clause-capacity : goal.load_link-requires-clause-capacity
load_link-requires-clause-capacity c =
    subst (λ (l : Link). IsPositive l.capacity) (sym c.here.view_is) (λ rate is. c.link-here.ensures.named.network.capacities c.args.link c.link-here.result
    rate c.link-here.ensures.link is)

pub load_link-requires-clause-begins : goal.load_link-requires-clause-begins
load_link-requires-clause-begins c = c.in_ok-inflow.ensures.amount.begins

pub load_link-requires-clause-rises : goal.load_link-requires-clause-rises
load_link-requires-clause-rises c = c.in_ok-inflow.ensures.amount.rises

pub push_points-requires : goal.push_points-requires
push_points-requires c =
    subst (λ (l : Link). IsPositive l.capacity) (sym c.here.view_is) (λ rate is. c.link-here.ensures.named.network.capacities c.args.link c.link-here.result
    rate c.link-here.ensures.link is)

pub returns : goal.returns
returns c =
    let inflow = c.in_ok-inflow.inflow.points in
    let loaded = loaded_of c.in_ok-loaded.loaded in
    let name = name_at c.args.net.now.link_names c.args.link in
    record {
      link = c.link-here.result;
      is_link = c.link-here.ensures.link;
      loaded = loaded;
      loading = record {
        inflow = inflow;
        cumulative = subst (λ (ps : List Piece). IsCumulative ps c.args.horizon inflow) c.pieces.ensures.value c.in_ok-inflow.ensures.amount;
        loading = subst (λ (l : Link). IsLoaded l.transit l.capacity inflow c.args.horizon loaded) c.here.view_is c.in_ok-loaded.ensures.loaded;
      };
      is_text =
          c.in_ok-push_points.ensures
          ∙ ap (λ (t : List ℕ). t ++ flat_map (toll_at c.here.inside.capacity c.link_name-name.result.now) c.as_points-queue.result.now) c.new-out.ensures.items
          ∙ (λ i. flat_map (toll_at c.here.inside.capacity (c.link_name-name.ensures i)) (c.as_points-queue.ensures.points i))
          ∙ ap (λ (l : Link). flat_map (toll_at l.capacity name) loaded.queue) c.here.view_is;
    }
