use Rattle.std.proofs.Common.{◌≢◌, ℕ, Bool, List, length, get_or, Option, None, Some, refl, sym, subst}
use Rattle.std.specs.Prelude.{IsSome}
use Rattle.std.proofs.lemmas.List.{get_or_default}
use Rattle.diagram_terms.specs.HeightClasses.{HeightShape}
use Rattle.diagram_terms.specs.Ranks.{IsRanked}
use Rattle.height_order.specs.declared.reach.Edge.{Edge}
use Rattle.height_order.specs.Shapes.{shape_of}
use Rattle.height_order.specs.Reaching.{IsReaching}
use Rattle.height_order.specs.Graph.{IsGraph}
use Rattle.height_order.specs.Ranking.{rank_of}
use Rattle.height_order.proofs.FaultParts.{first-loop_cycle, no-loop_acyclic, first-pair_apart, no-pair_settled}
use Rattle.height_order.proofs.RankParts.{graph-ranked}
use Rattle.height_order.proofs.Steps.{classed, edges-between, edges-within}
use Rattle.height_order.proofs.ordering.order.Goals as goal
use Rattle.height_order.proofs.ordering.order.Goals.{After-as_slice-edges, After-as_slice-reached, in-Unbiased+in_default-first_pair, in_default-bias}

-- the graph of the shape, as its slices have it
module _ (c : After-as_slice-edges) where
  abbrev shape : HeightShape
  shape = shape_of c.args.lengths.now c.args.maps.now

  abbrev first : List ℕ
  first = c.in_ok-graph.graph.places.first.items

  abbrev ms : List (ℕ × ℕ)
  ms = c.as_slice-members.result.now

  abbrev cs : List ℕ
  cs = c.as_slice-classes.result.now

  abbrev es : List Edge
  es = c.as_slice-edges.result.now

  graph : IsGraph shape first ms cs es
  graph = subst (IsGraph shape first ms cs) (sym c.as_slice-edges.ensures.value)
      (subst (λ (cs : List ℕ). IsGraph shape first ms cs c.in_ok-graph.graph.edges.items) (sym c.as_slice-classes.ensures.value)
      (subst (λ (ms : List (ℕ × ℕ)). IsGraph shape first ms c.in_ok-graph.graph.classes.items c.in_ok-graph.graph.edges.items) (sym c.as_slice-members.ensures.value) c.in_ok-graph.ensures))

pub reaching-requires : goal.reaching-requires
reaching-requires c = edges-within (shape c) c.requires (first c) (ms c) (cs c) (es c) (graph c)

-- what reaches what, as its slice has it
module _ (c : After-as_slice-reached) where
  abbrev rows : List (List Bool)
  rows = c.as_slice-reached.result.now

  reaching : IsReaching (length c.as_slice-members.result.now) c.as_slice-edges.result.now rows
  reaching = subst (IsReaching (length c.as_slice-members.result.now) c.as_slice-edges.result.now) (sym c.as_slice-reached.ensures.value) c.in_ok-rows.ensures

pub returns-in-Some-clause-err : goal.returns-in-Some-clause-err
returns-in-Some-clause-err c =
    let e = (goal.at.returns-in-Some-clause-err c).After-as_slice-edges in
    let r = (goal.at.returns-in-Some-clause-err c).After-as_slice-reached in
    first-loop_cycle (shape e) c.requires (first e) (ms e) (cs e) (es e) (graph e) (rows r) (reaching r) c.in-Some.place c.in-Some.ensures

pub returns-in-Some-first_pair-clause-err : goal.returns-in-Some-first_pair-clause-err
returns-in-Some-first_pair-clause-err c =
    let e = (goal.at.returns-in-Some-first_pair-clause-err c).After-as_slice-edges in
    let r = (goal.at.returns-in-Some-first_pair-clause-err c).After-as_slice-reached in (
      c.in-Unbiased.is,
      no-loop_acyclic (shape e) c.requires (first e) (ms e) (cs e) (es e) (graph e) (rows r) (reaching r) c.in_default.ensures,
      first-pair_apart (shape e) c.requires (first e) (ms e) (cs e) (es e) (graph e) (rows r) (reaching r) (c.in-Some-first_pair.one, c.in-Some-first_pair.other) c.in-Some-first_pair.ensures,
    )

pub rank_classes-requires-clause-classed : goal.rank_classes-requires-clause-classed
rank_classes-requires-clause-classed c =
    let e = (goal.at.rank_classes-requires-clause-classed c).After-as_slice-edges in
    classed (shape e) c.requires (first e) (ms e) (cs e) (es e) (graph e)

pub rank_classes-requires-clause-between : goal.rank_classes-requires-clause-between
rank_classes-requires-clause-between c =
    let e = (goal.at.rank_classes-requires-clause-between c).After-as_slice-edges in
    edges-between (shape e) c.requires (first e) (ms e) (cs e) (es e) (graph e)

some-is : (o : Option ℕ) → o ≢ None → IsSome o
some-is None n = absurd (n refl)
some-is (Some x) n = refl

pub ranks_by_object-requires-clause-ranked : goal.ranks_by_object-requires-clause-ranked
ranks_by_object-requires-clause-ranked c =
    let e = (goal.at.ranks_by_object-requires-clause-ranked c).After-as_slice-edges in
    λ k d l. subst (λ (x : ℕ). IsSome (rank_of c.in_ok-ranking.ranking.ranks x)) (get_or_default (cs e) k 0 d l)
    (some-is (rank_of c.in_ok-ranking.ranking.ranks (get_or (cs e) k 0))
    (c.in_ok-ranking.ensures.ranked (get_or (cs e) k 0) (classed (shape e) c.requires (first e) (ms e) (cs e) (es e) (graph e) k l)))

pub returns-clause-ok : goal.returns-clause-ok
returns-clause-ok c =
    let e = (goal.at.returns-clause-ok c).After-as_slice-edges in
    let r = (goal.at.returns-clause-ok c).After-as_slice-reached in
    subst (λ (rs : List (List ℕ)). IsRanked c.args.bias (shape e) (record { ranks = rs; count = c.in_ok-ranking.ranking.count })) (sym c.in_ok-ranks.ensures)
    (graph-ranked (shape e) c.requires (first e) (ms e) (cs e) (es e) (graph e) c.args.bias c.in_ok-ranking.ranking.ranks c.in_ok-ranking.ranking.count c.in_ok-ranking.ensures
    (no-loop_acyclic (shape e) c.requires (first e) (ms e) (cs e) (es e) (graph e) (rows r) (reaching r) c.in_default.ensures)
    (elim c.match-bias.branch [
      | in-Unbiased+in_default-first_pair w ↦ λ u. no-pair_settled (shape e) c.requires (first e) (ms e) (cs e) (es e) (graph e) (rows r) (reaching r) w.in_default-first_pair.ensures
      | in_default-bias w ↦ λ u. absurd (w.in_default-bias.not-Unbiased u)
    ]))
