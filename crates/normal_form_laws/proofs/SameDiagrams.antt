-- The test of diagrams decides whether they are the same.
use Rattle.std.proofs.Common.{ℕ, zero, suc, Bool, ◌&&◌, ap}
use Rattle.std.specs.Cmp.Lexicographic.{pointwise}
use Rattle.std.proofs.lemmas.Bool.{and_parts, and_from}
use lib.Pointwise.{pointwise_decides}
use Rattle.diagram_terms.specs.Family.{Dia}
use Rattle.diagram_terms.specs.Places.{same_arrow}
use Rattle.diagram_terms.proofs.Decisions.{same_label_decides, same_arrow_decides}
use Rattle.diagram_terms.specs.SameDiagrams.{same_diagram}
use Rattle.normal_form_laws.specs.Laws.{SameDiagramsAreDecided}

decided_step : (d : ℕ) → SameDiagramsAreDecided d → SameDiagramsAreDecided (suc d)
decided_step d decided X Y =
    let rs = pointwise_decides decided X.regs Y.regs in
    let ss = pointwise_decides decided X.sings Y.sings in
    let fs = pointwise_decides (same_arrow_decides d) X.fwds Y.fwds in
    let bs = pointwise_decides (same_arrow_decides d) X.bwds Y.bwds in
    let test_rs : Bool = pointwise (same_diagram d) X.regs Y.regs in
    let test_ss : Bool = pointwise (same_diagram d) X.sings Y.sings in
    let test_fs : Bool = pointwise (same_arrow d) X.fwds Y.fwds in
    let test_bs : Bool = pointwise (same_arrow d) X.bwds Y.bwds in (
      λ h. (let p = and_parts (test_rs && test_ss && test_fs) test_bs h in
          let q = and_parts (test_rs && test_ss) test_fs p.0 in
          let r = and_parts test_rs test_ss q.0 in
          let a = rs.0 r.0 in
          let b = ss.0 r.1 in
          let c = fs.0 q.1 in
          let e = bs.0 p.1 in
          λ i. record { regs = a i; sings = b i; fwds = c i; bwds = e i }),
      λ e. and_from (test_rs && test_ss && test_fs) test_bs
          (and_from (test_rs && test_ss) test_fs
          (and_from test_rs test_ss (rs.1 (ap (λ (z : Dia (suc d)). z.regs) e)) (ss.1 (ap (λ (z : Dia (suc d)). z.sings) e)))
          (fs.1 (ap (λ (z : Dia (suc d)). z.fwds) e)))
          (bs.1 (ap (λ (z : Dia (suc d)). z.bwds) e)),
    )

pub same_diagrams_are_decided : (d : ℕ) → SameDiagramsAreDecided d
same_diagrams_are_decided zero = same_label_decides
same_diagrams_are_decided (suc d) = decided_step d (same_diagrams_are_decided d)
