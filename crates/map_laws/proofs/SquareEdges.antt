-- A square commutes exactly if it has edges.
use Rattle.std.proofs.Common.{◌≡◌, ℕ, suc, ◌-◌, ◌<◌, ◌≤◌, nat_lt, cond, refl, sym, ap, ◌∙◌, arith, inl, inr}
use Rattle.std.proofs.lemmas.Bool.{cases_lt, cond-true, cond-false, lt-ltb, le-ltb}
use Rattle.diagram_terms.specs.Family.{Dia, Arr}
use Rattle.diagram_terms.specs.Dual.{dual}
use Rattle.diagram_terms.specs.Valid.{Commutes, enter_edge, right_edge}
use Rattle.diagram_terms.proofs.Squares.{last_at}
use Rattle.map_laws.specs.Edges.{HasEdges}
use Rattle.map_laws.specs.Laws.{SquaresHaveEdges}

module _ (d : ℕ) (X Y : Dia (suc d)) (f : Arr (suc d)) (k : ℕ) where
  from_edges : HasEdges d X Y f k → Commutes d X Y f k
  from_edges h = record {
    empty = λ e. sym h.first ∙ ap h.edge e ∙ h.last;
    first = λ l. sym h.first ∙ h.along_fwd _ (omega arith) l;
    last = λ l. sym h.last ∙ ap h.edge (omega arith) ∙ h.along_bwd (dual f.heights (suc k) - 1) (omega arith) (omega arith);
    inner = λ i l m. sym (h.along_bwd i l (omega arith)) ∙ h.along_fwd (suc i) (omega arith) m;
  }

  -- the edges: each beside a height of X, and the last one along Y
  edge_at : ℕ → Arr d
  edge_at t = cond (nat_lt t (dual f.heights (suc k))) (enter_edge d X f t) (right_edge d Y f k)

  edge_at-below : (t : ℕ) → t < dual f.heights (suc k) → edge_at t ≡ enter_edge d X f t
  unfolding edge_at
  edge_at-below t l = cond-true (nat_lt t (dual f.heights (suc k))) _ _ (lt-ltb t (dual f.heights (suc k)) l)

  edge_at-end : (t : ℕ) → dual f.heights (suc k) ≤ t → edge_at t ≡ right_edge d Y f k
  unfolding edge_at
  edge_at-end t l = cond-false (nat_lt t (dual f.heights (suc k))) _ _ (le-ltb t (dual f.heights (suc k)) l)

  to_edges : dual f.heights k ≤ dual f.heights (suc k) → Commutes d X Y f k → HasEdges d X Y f k
  to_edges up c =
      let a : ℕ = dual f.heights k in
      let b : ℕ = dual f.heights (suc k) in
      record {
        edge = edge_at;
        first = elim (cases_lt a b) [
          | inl l ↦ edge_at-below a l ∙ sym (c.first l)
          | inr l ↦ edge_at-end a l ∙ sym (c.empty (omega arith))
        ];
        last = edge_at-end b (omega arith);
        along_fwd = λ t low high. edge_at-below t high;
        along_bwd = λ t low high. elim (cases_lt (suc t) b) [
          | inl l ↦ edge_at-below (suc t) l ∙ sym (c.inner t low l)
          | inr l ↦ edge_at-end (suc t) l ∙ last_at c t low (omega arith)
        ];
      }

pub squares_have_edges : (d : ℕ) → SquaresHaveEdges d
squares_have_edges d X Y f k up = (to_edges d X Y f k up, from_edges d X Y f k)
