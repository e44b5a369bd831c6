-- What a neighbourhood is made of.
use Rattle.std.proofs.Common.{◌≡◌, ℕ, zero, suc, ◌<◌, sym, ap, ◌∙◌, subst, arith}
use Rattle.diagram_terms.specs.Family.{Dia, reg, sing, fwd, bwd}
use Rattle.diagram_terms.specs.Composite.{identity_diagram}
use Rattle.diagram_terms.proofs.Parts.{same_diagrams}
use Rattle.diagram_terms.specs.Regions.{Reg}
use Rattle.diagram_terms.specs.PointRegions.{at_reg, at_sing, point_region}
use Rattle.diagram_terms.specs.Cuts.{cut_arrow, cut_diagram}
use Rattle.diagram_terms.specs.Neighbourhoods.{one_height, cut_height}
use Rattle.region_laws.specs.Laws.{RegularNeighbourhoods, SingularNeighbourhoods, NeighbourhoodsSeeOneHeight}
use Rattle.region_laws.proofs.PointRegions.{point_region-reg, point_region-sing, at_reg-reg, at_sing-sing, at_sing-before, at_sing-behind}
use Rattle.region_laws.proofs.CutParts.{cut-regs_len, cut-sings_len, cut-fwds_len, cut-bwds_len, cut-reg, cut-sing, cut-fwd, cut-bwd}

-- a fact of each number below 1, and below 2
none_other : (P : ℕ → Type 0) → P 0 → (j : ℕ) → j < 1 → P j
none_other P p j l = subst P (omega arith) p

one_of_two : (P : ℕ → Type 0) → P 0 → P 1 → (j : ℕ) → j < 2 → P j
one_of_two P p q zero l = p
one_of_two P p q (suc j) l = subst P (omega arith) q

-- the cut at a regular height alone
pub cut_at_reg : (d : ℕ) (X : Dia (suc d)) (j : ℕ) (W : Reg d)
    → cut_diagram (suc d) X (at_reg d j W) ≡ identity_diagram d (cut_diagram d (reg d X j) W)
cut_at_reg d X j W =
    let V : Reg (suc d) = at_reg d j W in
    let C : Dia (suc d) = cut_diagram (suc d) X V in
    let I : Dia (suc d) = identity_diagram d (cut_diagram d (reg d X j) W) in
    let rl = cut-regs_len d X V in
    let sl = cut-sings_len d X V in
    let fl = cut-fwds_len d X V in
    let bl = cut-bwds_len d X V in
    let at : reg d C 0 ≡ reg d I 0 = cut-reg d X V 0 j (omega arith) (omega arith) ∙ ap (cut_diagram d (reg d X j)) (at_reg-reg d j W) in
    same_diagrams d C I
    (omega arith) (λ i l. none_other (λ n. reg d C n ≡ reg d I n) at i (omega arith))
    (omega arith) (λ i l. absurd (omega arith))
    (omega arith) (λ i l. absurd (omega arith))
    (omega arith) (λ i l. absurd (omega arith))

-- the cut at a singular height between its two regular ones
pub cut_at_sing : (d : ℕ) (X : Dia (suc d)) (k : ℕ) (W : Reg d) → cut_diagram (suc d) X (at_sing d X k W) ≡ cut_height d X k W
cut_at_sing d X k W =
    let V : Reg (suc d) = at_sing d X k W in
    let C : Dia (suc d) = cut_diagram (suc d) X V in
    let H : Dia (suc d) = cut_height d X k W in
    let rl = cut-regs_len d X V in
    let sl = cut-sings_len d X V in
    let fl = cut-fwds_len d X V in
    let bl = cut-bwds_len d X V in
    let before : reg d C 0 ≡ reg d H 0 = cut-reg d X V 0 k (omega arith) (omega arith) ∙ ap (cut_diagram d (reg d X k)) (at_sing-before d X k W) in
    let behind : reg d C 1 ≡ reg d H 1 =
    cut-reg d X V 1 (suc k) (omega arith) (omega arith) ∙ ap (cut_diagram d (reg d X (suc k))) (at_sing-behind d X k W) in
    let inside : sing d C 0 ≡ sing d H 0 = cut-sing d X V 0 k (omega arith) (omega arith) ∙ ap (cut_diagram d (sing d X k)) (at_sing-sing d X k W) in
    let ahead : fwd d C 0 ≡ fwd d H 0 = cut-fwd d X V 0 k (omega arith) (omega arith) ∙ ap (cut_arrow d (fwd d X k)) (at_sing-sing d X k W) in
    let back : bwd d C 0 ≡ bwd d H 0 = cut-bwd d X V 0 k (omega arith) (omega arith) ∙ ap (cut_arrow d (bwd d X k)) (at_sing-sing d X k W) in
    same_diagrams d C H
    (omega arith) (λ i l. one_of_two (λ n. reg d C n ≡ reg d H n) before behind i (omega arith))
    (omega arith) (λ i l. none_other (λ n. sing d C n ≡ sing d H n) inside i (omega arith))
    (omega arith) (λ i l. none_other (λ n. fwd d C n ≡ fwd d H n) ahead i (omega arith))
    (omega arith) (λ i l. none_other (λ n. bwd d C n ≡ bwd d H n) back i (omega arith))

pub regular_neighbourhoods : (d : ℕ) → RegularNeighbourhoods d
regular_neighbourhoods d X j hs = ap (cut_diagram (suc d) X) (point_region-reg d X j hs) ∙ cut_at_reg d X j (point_region d (reg d X j) hs)

pub singular_neighbourhoods : (d : ℕ) → SingularNeighbourhoods d
singular_neighbourhoods d X k hs = ap (cut_diagram (suc d) X) (point_region-sing d X k hs) ∙ cut_at_sing d X k (point_region d (sing d X k) hs)

pub neighbourhoods_see_one_height : (d : ℕ) → NeighbourhoodsSeeOneHeight d
neighbourhoods_see_one_height d X k hs = record {
  before = regular_neighbourhoods d X k hs ∙ sym (regular_neighbourhoods d (one_height d X k) 0 hs);
  inside = singular_neighbourhoods d X k hs ∙ sym (singular_neighbourhoods d (one_height d X k) 0 hs);
  behind = regular_neighbourhoods d X (suc k) hs ∙ sym (regular_neighbourhoods d (one_height d X k) 1 hs);
}
