-- There is no refused step exactly where the one diagram is inside the other.
use Rattle.std.proofs.Common.{◌≡◌, ℕ, zero, suc, ◌+◌, ◌≤◌, List, [], ◌∷◌, length, Bool, true, false, cond, nat_le, ◌&&◌, ◌↔◌, Some, None, refl, ap, arith}
use Rattle.std.specs.Prelude.{Option}
use Rattle.std.specs.Option.{option_or}
use Rattle.std.specs.Cmp.Lexicographic.{pointwise}
use Rattle.std.proofs.lemmas.Bool.{and_parts, and_from, leb-true, le-leb}
use lib.Pointwise.{pointwise_decides}
use Rattle.diagram_terms.specs.Family.{Dia, reg}
use Rattle.diagram_terms.specs.Labels.{same_label}
use Rattle.diagram_terms.specs.Cone.{source}
use Rattle.diagram_terms.specs.Places.{same_arrow}
use Rattle.diagram_terms.proofs.Decisions.{same_label_decides, same_arrow_decides}
use Rattle.occurrence_laws.specs.Laws.{RefusedStepsAreWithin}
use Rattle.diagram_terms.specs.Segments.{segment}
use Rattle.diagram_terms.specs.Occurrences.{slices_swapped, Inside, refused_step}
use Rattle.diagram_terms.specs.SameDiagrams.{same_diagram}

-- ---- the test of diagrams decides

abbrev DiagramsDecided : ℕ → Type 0
DiagramsDecided d = (X Y : Dia d) → (same_diagram d X Y ≡ true) ↔ (X ≡ Y)

decided_step : (d : ℕ) → DiagramsDecided d → DiagramsDecided (suc d)
decided_step d decided X Y =
    let rs = pointwise_decides decided X.regs Y.regs in
    let ss = pointwise_decides decided X.sings Y.sings in
    let fs = pointwise_decides (same_arrow_decides d) X.fwds Y.fwds in
    let bs = pointwise_decides (same_arrow_decides d) X.bwds Y.bwds in
    let test_rs : Bool = pointwise (same_diagram d) X.regs Y.regs in
    let test_ss : Bool = pointwise (same_diagram d) X.sings Y.sings in
    let test_fs : Bool = pointwise (same_arrow d) X.fwds Y.fwds in
    let test_bs : Bool = pointwise (same_arrow d) X.bwds Y.bwds in (
      λ h. (let p = and_parts (test_rs && test_ss && test_fs) test_bs h in
          let q = and_parts (test_rs && test_ss) test_fs p.0 in
          let r = and_parts test_rs test_ss q.0 in
          let a = rs.0 r.0 in
          let b = ss.0 r.1 in
          let c = fs.0 q.1 in
          let e = bs.0 p.1 in
          λ i. record { regs = a i; sings = b i; fwds = c i; bwds = e i }),
      λ e. and_from (test_rs && test_ss && test_fs) test_bs
          (and_from (test_rs && test_ss) test_fs
          (and_from test_rs test_ss (rs.1 (ap (λ (z : Dia (suc d)). z.regs) e)) (ss.1 (ap (λ (z : Dia (suc d)). z.sings) e)))
          (fs.1 (ap (λ (z : Dia (suc d)). z.fwds) e)))
          (bs.1 (ap (λ (z : Dia (suc d)). z.bwds) e)),
    )

pub same_diagram_decides : (d : ℕ) (X Y : Dia d) → (same_diagram d X Y ≡ true) ↔ (X ≡ Y)
same_diagram_decides zero = same_label_decides
same_diagram_decides (suc d) = decided_step d (same_diagram_decides d)

-- ---- the refused step

none_if : (b : Bool) (t : ℕ) → (cond b None (Some t) ≡ None) ↔ (b ≡ true)
none_if true t = (λ e. refl, λ e. refl)
none_if false t = (λ e. (cc), λ e. (cc))

none_if_all : (fits : Bool) (r : Option ℕ) (same : Bool) (t : ℕ)
    → (cond fits (option_or r (cond same None (Some t))) (Some t) ≡ None) ↔ ((fits ≡ true) × (r ≡ None) × (same ≡ true))
none_if_all true None true t = (λ e. (refl, refl, refl), λ e. refl)
none_if_all true None false t = (λ e. (cc), λ e. (let f : false ≡ true = e.2 in cc))
none_if_all true (Some n) same t = (λ e. (cc), λ e. (let f : Some n ≡ None = e.1 in cc))
none_if_all false r same t = (λ e. (cc), λ e. (let f : false ≡ true = e.0 in cc))

abbrev NoneMeansInside : ℕ → Type 0
NoneMeansInside d = (B : Dia d) (e : List ℕ) (S : Dia d) (t : ℕ) → (refused_step d B e S t ≡ None) ↔ Inside d B e S

none_zero : NoneMeansInside zero
none_zero B [] S t =
    let a = none_if (same_label B S) t in
    let b = same_label_decides B S in
    (λ e. b.0 (a.0 e), λ e. a.1 (b.1 e))
none_zero B (o ∷ e) S t = (λ e. (cc), λ e. absurd e)

none_suc : (d : ℕ) → NoneMeansInside d → NoneMeansInside (suc d)
none_suc d ih B [] S t = (λ e. (cc), λ e. absurd e)
none_suc d ih B (o ∷ e) S t =
    let end : ℕ = o + length S.sings in
    let part : Dia (suc d) = segment d B o end in
    let wanted : Dia (suc d) = slices_swapped d (reg d B o) e (source d S) S in
    let n : ℕ = length B.sings in
    let same = same_diagram_decides (suc d) part wanted in
    let first = ih (reg d B o) e (source d S) (suc t) in
    let all = none_if_all (nat_le end n) (refused_step d (reg d B o) e (source d S) (suc t)) (same_diagram (suc d) part wanted) t in (
      λ h. (let p = all.0 h in record { fits = leb-true end n p.0; first = first.0 p.1; part = same.0 p.2 }),
      λ h. all.1 (le-leb end n h.fits, first.1 h.first, same.1 h.part),
    )

pub none_means_inside : (d : ℕ) → NoneMeansInside d
none_means_inside zero = none_zero
none_means_inside (suc d) = none_suc d (none_means_inside d)

-- ---- where it lies

within_if : (b : Bool) (t n d : ℕ) → cond b None (Some t) ≡ Some n → (t ≤ n) × (n ≤ t + d)
within_if true t n d e = (cc)
within_if false t n d e = let same : t ≡ n = cc in (omega arith, omega arith)

within_all : (fits : Bool) (r : Option ℕ) (same : Bool) (t n d : ℕ) → ((k : ℕ) → r ≡ Some k → (suc t ≤ k) × (k ≤ suc t + d))
    → cond fits (option_or r (cond same None (Some t))) (Some t) ≡ Some n → (t ≤ n) × (n ≤ t + suc d)
within_all true None same t n d h e = within_if same t n (suc d) e
within_all true (Some k) same t n d h e = let w = h k refl in let s : k ≡ n = cc in let a = w.0 in let b = w.1 in (omega arith, omega arith)
within_all false r same t n d h e = let s : t ≡ n = cc in (omega arith, omega arith)

within_zero : RefusedStepsAreWithin zero
within_zero B [] S t n e = within_if (same_label B S) t n zero e
within_zero B (o ∷ v) S t n e = let s : t ≡ n = cc in (omega arith, omega arith)

within_suc : (d : ℕ) → RefusedStepsAreWithin d → RefusedStepsAreWithin (suc d)
within_suc d ih B [] S t n e = let s : t ≡ n = cc in (omega arith, omega arith)
within_suc d ih B (o ∷ v) S t n e =
    within_all (nat_le (o + length S.sings) (length B.sings)) (refused_step d (reg d B o) v (source d S) (suc t))
    (same_diagram (suc d) (segment d B o (o + length S.sings)) (slices_swapped d (reg d B o) v (source d S) S)) t n d
    (λ k h. ih (reg d B o) v (source d S) (suc t) k h) e

pub refused_steps_are_within : (d : ℕ) → RefusedStepsAreWithin d
refused_steps_are_within zero = within_zero
refused_steps_are_within (suc d) = within_suc d (refused_steps_are_within d)
