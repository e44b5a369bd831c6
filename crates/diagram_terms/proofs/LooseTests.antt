-- The tests of identity arrows, of plain arrows and of plain diagrams decide what they test.
use Rattle.std.proofs.Common.{◌≡◌, ℕ, zero, suc, ◌<◌, ◌≤◌, List, ◌++◌, length, get_or, Bool, true, ◌&&◌, nat_eq, ◌↔◌, All, Option, option_map, None, Some, refl, sym, subst, arith, eqb-true, eq-eqb}
use Rattle.std.specs.List.{list_all}
use Rattle.std.specs.Cmp.Lexicographic.{pointwise}
use Rattle.std.proofs.lemmas.Bool.{and_parts, and_from}
use Rattle.std.proofs.lemmas.Bool.Decides.{Decides-eqb, Decides-by_and}
use Rattle.std.proofs.lemmas.List.Elements.{All-append, All-nil, All-from_get_or}
use Rattle.std.proofs.lemmas.Option.{none-some}
use lib.Pointwise.{pointwise_decides}
use Rattle.diagram_terms.specs.declared.place.Step.{Step}
use Rattle.diagram_terms.specs.declared.place.Step.TheVariants as step
use Rattle.diagram_terms.specs.declared.place.End.TheVariants as at_end
use Rattle.diagram_terms.specs.Tree.{Tree}
use Rattle.diagram_terms.specs.Family.{Dia, Arr, no_arr, reg, sing, fwd, bwd}
use Rattle.diagram_terms.specs.Decoded.{dia}
use Rattle.diagram_terms.specs.Shape.{IsDiagram, reg_at, sing_at}
use Rattle.diagram_terms.specs.Dual.{upto}
use Rattle.diagram_terms.specs.Identity.{IsIdentity}
use Rattle.diagram_terms.specs.Plain.{PlainArrow, PlainZig, Plain}
use Rattle.diagram_terms.specs.Valid.{Valid}
use Rattle.diagram_terms.specs.Places.{Test, Passes, here, under, at_each, first_failure}
use Rattle.diagram_terms.specs.Loose.{is_identity, is_plain, plain_leg, plain_legs, plain_tests, first_loose_leg}
use Rattle.diagram_terms.proofs.Decisions.{same_label_decides, All-left, All-right, passes_here, passes_under, passes_each}
use Rattle.diagram_terms.proofs.FirstFaults.{none_iff_all_pass}
use Rattle.diagram_terms.proofs.Glue.{dia-regs_len, dia-sings_len, dia-fwds_len, dia-bwds_len, dia-reg, dia-sing}

-- ---- arrows

-- a test of each part decides what it tests of each part
module _ {X : Type 0} (test : X → Bool) (P : X → Type 0) (decides : (x : X) → (test x ≡ true) ↔ P x) (none : X) where
  each_decides : (xs : List X) → (list_all test xs ≡ true) ↔ ((k : ℕ) → k < length xs → P (get_or xs k none))
  each_decides xs =
      let all = Decides-by_and test P (list_all test) decides refl (λ _ _. refl) xs in
      (λ h k l. all.0 h k none l, λ h. all.1 (All-from_get_or P xs none h))

-- the test of identities decides at one dimension
abbrev IdentitiesDecided : ℕ → Type 0
IdentitiesDecided d = (f : Arr d) → (is_identity d f ≡ true) ↔ IsIdentity d f

identities_decided_step : (d : ℕ) → IdentitiesDecided d → IdentitiesDecided (suc d)
identities_decided_step d decided f =
    let hs = pointwise_decides Decides-eqb f.heights (upto (length f.sings)) in
    let rs = each_decides (is_identity d) (IsIdentity d) decided (no_arr d) f.regs in
    let ss = each_decides (is_identity d) (IsIdentity d) decided (no_arr d) f.sings in
    let test_hs : Bool = pointwise nat_eq f.heights (upto (length f.sings)) in
    let test_len : Bool = nat_eq (length f.regs) (suc (length f.sings)) in
    let test_rs : Bool = list_all (is_identity d) f.regs in
    let test_ss : Bool = list_all (is_identity d) f.sings in (
      λ h. (let p = and_parts (test_hs && test_len && test_rs) test_ss h in
          let q = and_parts (test_hs && test_len) test_rs p.0 in
          let r = and_parts test_hs test_len q.0 in
          record {
            heights = hs.0 r.0;
            regs_len = eqb-true (length f.regs) (suc (length f.sings)) r.1;
            regs = rs.0 q.1;
            sings = ss.0 p.1;
          }),
      λ i. and_from (test_hs && test_len && test_rs) test_ss
          (and_from (test_hs && test_len) test_rs
          (and_from test_hs test_len (hs.1 i.heights) (eq-eqb (length f.regs) (suc (length f.sings)) i.regs_len))
          (rs.1 i.regs))
          (ss.1 i.sings),
    )

pub is_identity_decides : (d : ℕ) (f : Arr d) → (is_identity d f ≡ true) ↔ IsIdentity d f
is_identity_decides zero = λ f. same_label_decides f.from f.to
is_identity_decides (suc d) = identities_decided_step d (is_identity_decides d)

-- the test of plain arrows decides at one dimension
abbrev PlainDecided : ℕ → Type 0
PlainDecided d = (f : Arr d) → (is_plain d f ≡ true) ↔ PlainArrow d f

plain_decided_step : (d : ℕ) → PlainDecided d → PlainDecided (suc d)
plain_decided_step d decided f =
    let rs = each_decides (is_identity d) (IsIdentity d) (is_identity_decides d) (no_arr d) f.regs in
    let ss = each_decides (is_plain d) (PlainArrow d) decided (no_arr d) f.sings in
    let test_rs : Bool = list_all (is_identity d) f.regs in
    let test_ss : Bool = list_all (is_plain d) f.sings in (
      λ h. (let p = and_parts test_rs test_ss h in record { regs = rs.0 p.0; sings = ss.0 p.1 }),
      λ z. and_from test_rs test_ss (rs.1 z.regs) (ss.1 z.sings),
    )

pub is_plain_decides : (d : ℕ) (f : Arr d) → (is_plain d f ≡ true) ↔ PlainArrow d f
is_plain_decides zero = λ f. (λ h. tt, λ p. refl)
is_plain_decides (suc d) = plain_decided_step d (is_plain_decides d)

-- the test of a leg passes exactly when the leg is plain
pub leg_passes : (d : ℕ) (s : Step) (f : Arr d) → All Passes (plain_leg d s f) ↔ PlainArrow d f
leg_passes d s f = (
  λ h. (is_plain_decides d f).0 ((passes_here at_end.Ends (is_plain d f)).0 ((passes_under s (here at_end.Ends (is_plain d f))).0 h)),
  λ p. (passes_under s (here at_end.Ends (is_plain d f))).1 ((passes_here at_end.Ends (is_plain d f)).1 ((is_plain_decides d f).1 p)),
)

-- ---- diagrams

-- one level of a diagram with lists of the right lengths, where L says which slices have such lists
pub record ZigLengths (d : ℕ) (L : Dia d → Type 0) (X : Dia (suc d)) : Type 0 where
  pub regs_len : length X.regs ≡ suc (length X.sings)
  pub fwds_len : length X.fwds ≡ length X.sings
  pub bwds_len : length X.bwds ≡ length X.sings
  pub regs : (j : ℕ) → j ≤ length X.sings → L (reg d X j)
  pub sings : (i : ℕ) → i < length X.sings → L (sing d X i)

-- the lists of X have the lengths of a diagram's, at every depth
abbrev pub HasLengths : (d : ℕ) → Dia d → Type 0
HasLengths zero x = Unit {0}
HasLengths (suc d) X = ZigLengths d (HasLengths d) X

-- those of a valid diagram have
pub valid_lengths : (d : ℕ) (X : Dia d) → Valid d X → HasLengths d X
valid_lengths zero X v = tt
valid_lengths (suc d) X v = record {
  regs_len = v.regs_len;
  fwds_len = v.fwds_len;
  bwds_len = v.bwds_len;
  regs = λ j l. valid_lengths d (reg d X j) (v.regs j l);
  sings = λ i l. valid_lengths d (sing d X i) (v.sings i l);
}

-- and those of a tree of the shape of a diagram
pub diagram_lengths : (d : ℕ) (t : Tree) → IsDiagram d t → HasLengths d (dia d t)
diagram_lengths zero t h = tt
diagram_lengths (suc d) t h =
    let rs = dia-regs_len d t in
    let ss = dia-sings_len d t in
    let fs = dia-fwds_len d t in
    let bs = dia-bwds_len d t in
    record {
      regs_len = omega (arith, h.regs_len);
      fwds_len = omega (arith, h.fwds_len);
      bwds_len = omega (arith, h.bwds_len);
      regs = λ j l. subst (HasLengths d) (sym (dia-reg d t h j (omega arith))) (diagram_lengths d (reg_at t j) (h.regs_are j (omega arith)));
      sings = λ i l. subst (HasLengths d) (sym (dia-sing d t h i (omega arith))) (diagram_lengths d (sing_at t i) (h.sings_are i (omega arith)));
    }

-- the tests of the diagrams of one dimension
abbrev LegsDecided : ℕ → Type 0
LegsDecided d = (X : Dia d) → HasLengths d X → All Passes (plain_tests d X) ↔ Plain d X

module _ (d : ℕ) (decided : LegsDecided d) (X : Dia (suc d)) (h : HasLengths (suc d) X) where
  abbrev reg_slices : ℕ → List Test
  reg_slices j = under (step.R j) (plain_tests d (reg d X j))

  abbrev sing_slices : ℕ → List Test
  sing_slices i = under (step.S i) (plain_tests d (sing d X i))

  abbrev fwd_leg : ℕ → List Test
  fwd_leg k = plain_leg d (step.F k) (fwd d X k)

  abbrev bwd_leg : ℕ → List Test
  bwd_leg k = plain_leg d (step.B k) (bwd d X k)

  abbrev all_reg_slices : List Test
  all_reg_slices = at_each (suc (length X.sings)) reg_slices

  abbrev all_sing_slices : List Test
  all_sing_slices = at_each (length X.sings) sing_slices

  abbrev all_legs : List Test
  all_legs = at_each (length X.sings) (plain_legs d X)

  zig_to : All Passes (plain_tests (suc d) X) → PlainZig d (Plain d) X
  zig_to all =
      let rl = h.regs_len in
      let fl = h.fwds_len in
      let bl = h.bwds_len in
      let slices = All-left Passes (all_reg_slices ++ all_sing_slices) all_legs all in
      let each_reg = (passes_each (suc (length X.sings)) reg_slices).0 (All-left Passes all_reg_slices all_sing_slices slices) in
      let each_sing = (passes_each (length X.sings) sing_slices).0 (All-right Passes all_reg_slices all_sing_slices slices) in
      let each_leg = (passes_each (length X.sings) (plain_legs d X)).0 (All-right Passes (all_reg_slices ++ all_sing_slices) all_legs all) in
      record {
        regs = λ j l. (decided (reg d X j) (h.regs j (omega arith))).0 ((passes_under (step.R j) (plain_tests d (reg d X j))).0 (each_reg j (omega arith)));
        sings = λ i l. (decided (sing d X i) (h.sings i l)).0 ((passes_under (step.S i) (plain_tests d (sing d X i))).0 (each_sing i l));
        fwds = λ k l. (leg_passes d (step.F k) (fwd d X k)).0 (All-left Passes (fwd_leg k) (bwd_leg k) (each_leg k (omega arith)));
        bwds = λ k l. (leg_passes d (step.B k) (bwd d X k)).0 (All-right Passes (fwd_leg k) (bwd_leg k) (each_leg k (omega arith)));
      }

  zig_from : PlainZig d (Plain d) X → All Passes (plain_tests (suc d) X)
  zig_from p =
      let rl = h.regs_len in
      let fl = h.fwds_len in
      let bl = h.bwds_len in
      let regs_pass = (passes_each (suc (length X.sings)) reg_slices).1
      (λ j l. (passes_under (step.R j) (plain_tests d (reg d X j))).1 ((decided (reg d X j) (h.regs j (omega arith))).1 (p.regs j (omega arith)))) in
      let sings_pass = (passes_each (length X.sings) sing_slices).1
      (λ i l. (passes_under (step.S i) (plain_tests d (sing d X i))).1 ((decided (sing d X i) (h.sings i l)).1 (p.sings i l))) in
      let legs_pass = (passes_each (length X.sings) (plain_legs d X)).1
      (λ k l. All-append Passes (fwd_leg k) (bwd_leg k)
      ((leg_passes d (step.F k) (fwd d X k)).1 (p.fwds k (omega arith)))
      ((leg_passes d (step.B k) (bwd d X k)).1 (p.bwds k (omega arith)))) in
      All-append Passes (all_reg_slices ++ all_sing_slices) all_legs
      (All-append Passes all_reg_slices all_sing_slices regs_pass sings_pass)
      legs_pass

pub plain_passes : (d : ℕ) (X : Dia d) → HasLengths d X → All Passes (plain_tests d X) ↔ Plain d X
plain_passes zero = λ X h. (λ all. tt, λ p. All-nil Passes)
plain_passes (suc d) = λ X h. (zig_to d (plain_passes d) X h, zig_from d (plain_passes d) X h)

-- no test fails exactly when the diagram is plain
pub no_loose_leg : (d : ℕ) (X : Dia d) → HasLengths d X → (first_failure (plain_tests d X) ≡ None) ↔ Plain d X
no_loose_leg d X h =
    let none = none_iff_all_pass (plain_tests d X) in
    let passes = plain_passes d X h in
    (λ e. passes.0 (none.0 e), λ p. none.1 (passes.1 p))

-- nothing is told of nothing
option_map_none : {A B : Type 0} (f : A → B) (o : Option A) → (option_map f o ≡ None) ↔ (o ≡ None)
option_map_none f None = (λ e. refl, λ e. refl)
option_map_none f (Some x) = (λ e. absurd (none-some (f x) (sym e)), λ e. absurd (none-some x (sym e)))

pub no_first_loose_leg : (d : ℕ) (X : Dia d) → HasLengths d X → (first_loose_leg d X ≡ None) ↔ Plain d X
no_first_loose_leg d X h =
    let none = option_map_none (λ p. p.steps) (first_failure (plain_tests d X)) in
    let plain = no_loose_leg d X h in
    (λ e. plain.0 (none.0 e), λ p. none.1 (plain.1 p))
