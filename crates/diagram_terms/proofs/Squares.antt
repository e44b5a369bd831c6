-- A square that commutes by its cases, where the first and the last height that go there have names of their own.
use Rattle.std.proofs.Common.{◌≡◌, ℕ, suc, ◌-◌, ◌<◌, ◌≤◌, ap, ◌∙◌, refl, arith}
use Rattle.diagram_terms.specs.Family.{Dia, Arr}
use Rattle.diagram_terms.specs.Dual.{dual}
use Rattle.diagram_terms.specs.Valid.{Commutes, left_edge, right_edge, enter_edge, leave_edge}

pub first_at : {d : ℕ} {X Y : Dia (suc d)} {f : Arr (suc d)} {k : ℕ} → Commutes d X Y f k
    → (i : ℕ) → dual f.heights k ≡ i → i < dual f.heights (suc k) → left_edge d Y f k ≡ enter_edge d X f i
first_at {d} {X} {Y} {f} {k} c i e l = c.first (omega arith) ∙ ap (enter_edge d X f) e

pub last_at : {d : ℕ} {X Y : Dia (suc d)} {f : Arr (suc d)} {k : ℕ} → Commutes d X Y f k
    → (i : ℕ) → dual f.heights k ≤ i → suc i ≡ dual f.heights (suc k) → right_edge d Y f k ≡ leave_edge d X f i
last_at {d} {X} {Y} {f} {k} c i low e = c.last (omega arith) ∙ ap (leave_edge d X f) (omega arith)

pub commutes_by : (d : ℕ) (X Y : Dia (suc d)) (f : Arr (suc d)) (k : ℕ)
    → (dual f.heights k ≡ dual f.heights (suc k) → left_edge d Y f k ≡ right_edge d Y f k)
    → ((i : ℕ) → dual f.heights k ≡ i → i < dual f.heights (suc k) → left_edge d Y f k ≡ enter_edge d X f i)
    → ((i : ℕ) → dual f.heights k ≤ i → suc i ≡ dual f.heights (suc k) → right_edge d Y f k ≡ leave_edge d X f i)
    → ((i : ℕ) → dual f.heights k ≤ i → suc i < dual f.heights (suc k) → leave_edge d X f i ≡ enter_edge d X f (suc i))
    → Commutes d X Y f k
commutes_by d X Y f k empty first last inner = record {
  empty = empty;
  first = λ l. first (dual f.heights k) refl l;
  last = λ l. last (dual f.heights (suc k) - 1) (omega arith) (omega arith);
  inner = inner;
}
