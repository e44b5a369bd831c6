-- What a program finds at one level of an arrow between two valid diagrams, part by part.
use Rattle.std.proofs.Common.{◌≡◌, ℕ, zero, suc, ◌<◌, ◌≤◌, List, [], length, get_or, Vec, Global, Bool, true, false, nat_eq, ◌&&◌, All, Option, None, Some, sym, ap, ◌∙◌, subst, arith}
use Rattle.std.proofs.lemmas.Bool.{and_parts, eqb-true}
use Rattle.diagram_terms.specs.declared.label.Label.{Label}
use Rattle.diagram_terms.specs.declared.place.Place.{Place}
use Rattle.diagram_terms.specs.declared.place.Step.TheVariants as step
use Rattle.diagram_terms.specs.declared.place.End.TheVariants as at_end
use Rattle.diagram_terms.specs.declared.tree.Arrow.{Arrow}
use Rattle.diagram_terms.specs.declared.tree.Arrow.TheVariants as arrow
use Rattle.diagram_terms.specs.declared.tree.Diagram.{Diagram}
use Rattle.diagram_terms.specs.declared.tree.Diagram.TheVariants as diagram
use Rattle.diagram_terms.specs.Family.{Dia, Arr, reg, sing, height, arrow_reg, arrow_sing}
use Rattle.diagram_terms.specs.Dual.{IsMonotone, dual}
use Rattle.diagram_terms.specs.Decoded.{arr_tree, dia_tree}
use Rattle.diagram_terms.specs.Valid.{ValidArrow}
use Rattle.diagram_terms.specs.Places.{further_in, Test, Passes, here, under, lengths_fit, ends_hold, arrow_tests, first_failure}
use Rattle.diagram_terms.specs.Levels.{StandsBetween, LevelFits, RegsBetween, SingsBetween, SlicesAreValid, reg_tests, sing_tests, square_tests}
use Rattle.diagram_terms.specs.Values.{trees_of_arrows, trees_of_diagrams}
use Rattle.diagram_terms.proofs.Decisions.{passes_each, passes_under}
use Rattle.diagram_terms.proofs.Duals.{dual-le-length}
use Rattle.diagram_terms.proofs.FamilyShapes.{ArrowFits, arrow_fits_from, arrow_shape}
use Rattle.diagram_terms.proofs.FirstFaults.{none_iff_all_pass, arrow_passes}
use Rattle.diagram_terms.proofs.Glue.{arr-arr_tree}
use Rattle.diagram_terms.proofs.HeldArrows.{AreHeldParts, held_arrow, held_length, held_parts, held_ends, no_zig_at_zero, no_pair_above}
use Rattle.diagram_terms.proofs.HeldDiagrams.{AreHeldSlices, held_diagram, held_diagrams_length, held_slices, held_label, no_label_above}
use Rattle.diagram_terms.proofs.Visiting.{here_fails, here_passes, under_fails, under_passes, each_fails, each_passes, PassBefore, first_of_four, second_of_four, third_of_four, last_of_four}

-- ---- dimension 0

pub pair_answer : (f : Arr 0) (X Y : Dia 0) (leg : Arrow) (from to : Diagram) (u v x y : Label) → leg ≡ arrow.Zero u v → from ≡ diagram.Zero x → to ≡ diagram.Zero y
    → StandsBetween 0 f X Y leg from to → ends_hold x y (record { from = u; to = v }) ≡ ends_hold X Y f
pair_answer f X Y leg from to u v x y el ex ey s =
    let p = held_label X from x ex s.from_is in
    let q = held_label Y to y ey s.to_is in
    let r = held_ends f leg u v el s.leg_is in
    λ i. ends_hold (p i) (q i) (record { from = r.0 i; to = r.1 i })

-- an arrow that is a pair has dimension 0
pub record StandsAtZero (leg : Arrow) (from to : Diagram) : Type 0 where
  pub f : Arr 0
  pub X : Dia 0
  pub Y : Dia 0
  pub stands : StandsBetween 0 f X Y leg from to

module _ (leg : Arrow) (from to : Diagram) (u v : Label) (e : leg ≡ arrow.Zero u v) where
  pub stands_at_zero : (n : ℕ) (f : Arr n) (X Y : Dia n) → StandsBetween n f X Y leg from to → StandsAtZero leg from to
  stands_at_zero zero f X Y s = record { f = f; X = X; Y = Y; stands = s }
  stands_at_zero (suc d) f X Y s = absurd (no_pair_above d f leg u v e s.leg_is)

  pub found_at_zero : (found : Option Place) → ((f : Arr 0) (X Y : Dia 0) → StandsBetween 0 f X Y leg from to → found ≡ first_failure (arrow_tests 0 X Y f))
      → (n : ℕ) (f : Arr n) (X Y : Dia n) → StandsBetween n f X Y leg from to → found ≡ first_failure (arrow_tests n X Y f)
  found_at_zero found answer zero f X Y s = answer f X Y s
  found_at_zero found answer (suc d) f X Y s = absurd (no_pair_above d f leg u v e s.leg_is)

-- ---- regular slices

module _ (d : ℕ) (f : Arr (suc d)) (X Y : Dia (suc d)) (heights : List ℕ) (regs : List Arrow) (from to : List Diagram) (r : RegsBetween d f X Y heights regs from to) where
  abbrev pub reg_test : ℕ → List Test
  reg_test j = under (step.R j) (arrow_tests d (reg d X (dual f.heights j)) (reg d Y j) (arrow_reg d f j))

  reg_fits : ArrowFits (suc d) f
  reg_fits = arrow_fits_from (suc d) f r.fits.shape

  pub regs_rise : IsMonotone heights
  regs_rise = subst IsMonotone (sym r.heights_are) (reg_fits).monotone

  pub regs_to_len : length to ≡ suc (length Y.sings)
  regs_to_len = held_diagrams_length d to Y.regs r.to_are ∙ r.fits.to_valid.regs_len

  pub regs_leg_len : length regs ≡ length to
  regs_leg_len = held_length d regs f.regs r.regs_are ∙ r.fits.regs_len ∙ sym regs_to_len

  dual_is : (k at : ℕ) → at ≡ dual heights k → at ≡ dual f.heights k
  dual_is k at e = e ∙ ap (λ hs. dual hs k) r.heights_are

  dual_low : (k : ℕ) → dual f.heights k ≤ length X.sings
  dual_low k =
      let low : dual f.heights k ≤ length f.heights = dual-le-length f.heights k in
      let n = r.fits.heights_len in
      omega arith

  pub regs_from_inside : (k at : ℕ) → at ≡ dual heights k → at < length from
  regs_from_inside k at e =
      let low = dual_low k in
      let same = dual_is k at e in
      let n = held_diagrams_length d from X.regs r.from_are in
      let m = r.fits.from_valid.regs_len in
      omega arith

  module _ (k at : ℕ) (l : k < length to) (e : at ≡ dual heights k) (g : Arrow) (x y : Diagram) (g_is : g ≡ get_or regs k g) (x_is : x ≡ get_or from at x) (y_is : y ≡ get_or to k y) where
    pub reg_between : StandsBetween d (arrow_reg d f k) (reg d X (dual f.heights k)) (reg d Y k) g x y
    reg_between =
        let n = regs_leg_len in
        let m = regs_to_len in
        let rl = r.fits.regs_len in
        record {
          leg_is = held_arrow d regs f.regs r.regs_are k g (omega arith) g_is;
          from_is = held_diagram d from X.regs r.from_are at x (regs_from_inside k at e) x_is ∙ ap (λ j. dia_tree d (reg d X j)) (dual_is k at e);
          to_is = held_diagram d to Y.regs r.to_are k y l y_is;
          shape = arrow_shape d (arrow_reg d f k) ((reg_fits).regs k (omega arith));
          from_valid = r.fits.from_valid.regs (dual f.heights k) (dual_low k);
          to_valid = r.fits.to_valid.regs k (omega arith);
        }

  pub reg_fails : (k : ℕ) (p : Place) → k < length to → PassBefore reg_test k
      → Some p ≡ first_failure (arrow_tests d (reg d X (dual f.heights k)) (reg d Y k) (arrow_reg d f k))
      → Some (further_in (step.R k) p) ≡ first_failure (reg_tests d X Y f)
  reg_fails k p l before e =
      let m = regs_to_len in
      sym (each_fails reg_test (suc (length Y.sings)) k (further_in (step.R k) p) (omega arith) before (under_fails (step.R k) (arrow_tests d (reg d X (dual f.heights k)) (reg d Y k) (arrow_reg d f k)) p (sym e)))

  pub reg_passes : (k : ℕ) → None ≡ first_failure (arrow_tests d (reg d X (dual f.heights k)) (reg d Y k) (arrow_reg d f k)) → first_failure (reg_test k) ≡ None
  reg_passes k e = under_passes (step.R k) (arrow_tests d (reg d X (dual f.heights k)) (reg d Y k) (arrow_reg d f k)) (sym e)

  pub regs_pass : (k : ℕ) → length to ≤ k → PassBefore reg_test k → None ≡ first_failure (reg_tests d X Y f)
  regs_pass k l h = let m = regs_to_len in sym (each_passes reg_test (suc (length Y.sings)) (λ i q. h i (omega arith)))

-- ---- singular slices

module _ (d : ℕ) (f : Arr (suc d)) (X Y : Dia (suc d)) (heights : List ℕ) (sings : List Arrow) (from to : List Diagram) (r : SingsBetween d f X Y heights sings from to) where
  abbrev pub sing_test : ℕ → List Test
  sing_test i = under (step.S i) (arrow_tests d (sing d X i) (sing d Y (height d f i)) (arrow_sing d f i))

  sing_fits : ArrowFits (suc d) f
  sing_fits = arrow_fits_from (suc d) f r.fits.shape

  pub sings_leg_len : length sings ≡ length X.sings
  sings_leg_len = held_length d sings f.sings r.sings_are ∙ (sing_fits).sings_len ∙ r.fits.heights_len

  pub sings_from_len : length from ≡ length sings
  sings_from_len = held_diagrams_length d from X.sings r.from_are ∙ sym sings_leg_len

  pub sings_height_len : length heights ≡ length sings
  sings_height_len = ap length r.heights_are ∙ r.fits.heights_len ∙ sym sings_leg_len

  height_is : (i h : ℕ) → h ≡ get_or heights i 0 → h ≡ height d f i
  height_is i h e = e ∙ ap (λ hs. get_or hs i 0) r.heights_are

  height_low : (i : ℕ) → i < length sings → height d f i < length Y.sings
  height_low i l =
      let n = r.fits.regs_len in
      let m = r.fits.heights_len in
      let k = sings_leg_len in
      let b = (sing_fits).below i (omega arith) in
      omega arith

  pub sings_to_inside : (i h : ℕ) → i < length sings → h ≡ get_or heights i 0 → h < length to
  sings_to_inside i h l e =
      let low = height_low i l in
      let same = height_is i h e in
      let n = held_diagrams_length d to Y.sings r.to_are in
      omega arith

  module _ (i h : ℕ) (l : i < length sings) (e : h ≡ get_or heights i 0) (g : Arrow) (x y : Diagram) (g_is : g ≡ get_or sings i g) (x_is : x ≡ get_or from i x) (y_is : y ≡ get_or to h y) where
    pub sing_between : StandsBetween d (arrow_sing d f i) (sing d X i) (sing d Y (height d f i)) g x y
    sing_between =
        let n = sings_leg_len in
        let m = sings_from_len in
        let k = r.fits.heights_len in
        let q = (sing_fits).sings_len in
        record {
          leg_is = held_arrow d sings f.sings r.sings_are i g l g_is;
          from_is = held_diagram d from X.sings r.from_are i x (omega arith) x_is;
          to_is = held_diagram d to Y.sings r.to_are h y (sings_to_inside i h l e) y_is ∙ ap (λ j. dia_tree d (sing d Y j)) (height_is i h e);
          shape = arrow_shape d (arrow_sing d f i) ((sing_fits).sings i (omega arith));
          from_valid = r.fits.from_valid.sings i (omega arith);
          to_valid = r.fits.to_valid.sings (height d f i) (height_low i l);
        }

  pub sing_fails : (i : ℕ) (p : Place) → i < length sings → PassBefore sing_test i
      → Some p ≡ first_failure (arrow_tests d (sing d X i) (sing d Y (height d f i)) (arrow_sing d f i))
      → Some (further_in (step.S i) p) ≡ first_failure (sing_tests d X Y f)
  sing_fails i p l before e =
      let m = sings_leg_len in
      sym (each_fails sing_test (length X.sings) i (further_in (step.S i) p) (omega arith) before (under_fails (step.S i) (arrow_tests d (sing d X i) (sing d Y (height d f i)) (arrow_sing d f i)) p (sym e)))

  pub sing_passes : (i : ℕ) → None ≡ first_failure (arrow_tests d (sing d X i) (sing d Y (height d f i)) (arrow_sing d f i)) → first_failure (sing_test i) ≡ None
  sing_passes i e = under_passes (step.S i) (arrow_tests d (sing d X i) (sing d Y (height d f i)) (arrow_sing d f i)) (sym e)

  pub sings_pass : (k : ℕ) → length sings ≤ k → PassBefore sing_test k → None ≡ first_failure (sing_tests d X Y f)
  sings_pass k l h = let m = sings_leg_len in sym (each_passes sing_test (length X.sings) (λ i q. h i (omega arith)))

-- ---- slices whose tests pass are valid

arrow_decided : (d : ℕ) (A B : Dia d) (g : Arr d) → ArrowFits d g → All Passes (arrow_tests d A B g) → ValidArrow d A B g
arrow_decided d A B g h =
    let P : Arr d → Type 0 = λ k. All Passes (arrow_tests d A B k) → ValidArrow d A B k in
    subst P (arr-arr_tree d g) (arrow_passes d (arr_tree d g) A B (arrow_shape d g h)).0

pub slices_valid : (d : ℕ) (f : Arr (suc d)) (X Y : Dia (suc d)) → LevelFits d f X Y → None ≡ first_failure (reg_tests d X Y f) → None ≡ first_failure (sing_tests d X Y f)
    → SlicesAreValid d f X Y
slices_valid d f X Y fits p q =
    let z : ArrowFits (suc d) f = arrow_fits_from (suc d) f fits.shape in
    let rl = fits.regs_len in
    let hl = fits.heights_len in
    let sl = z.sings_len in
    let regs_pass = (passes_each (suc (length Y.sings)) (λ j. under (step.R j) (arrow_tests d (reg d X (dual f.heights j)) (reg d Y j) (arrow_reg d f j)))).0 ((none_iff_all_pass (reg_tests d X Y f)).0 (sym p)) in
    let sings_pass = (passes_each (length X.sings) (λ i. under (step.S i) (arrow_tests d (sing d X i) (sing d Y (height d f i)) (arrow_sing d f i)))).0 ((none_iff_all_pass (sing_tests d X Y f)).0 (sym q)) in
    record {
      fits = fits;
      regs = λ j l. arrow_decided d (reg d X (dual f.heights j)) (reg d Y j) (arrow_reg d f j) (z.regs j (omega arith)) ((passes_under (step.R j) (arrow_tests d (reg d X (dual f.heights j)) (reg d Y j) (arrow_reg d f j))).0 (regs_pass j (omega arith)));
      sings = λ i l. arrow_decided d (sing d X i) (sing d Y (height d f i)) (arrow_sing d f i) (z.sings i (omega arith)) ((passes_under (step.S i) (arrow_tests d (sing d X i) (sing d Y (height d f i)) (arrow_sing d f i))).0 (sings_pass i l));
    }

-- ---- two levels and more

module _ (leg : Arrow) (from to : Diagram) (hs : Vec ℕ Global) (rs ss : Vec Arrow Global) (el : leg ≡ arrow.Zig hs rs ss) where
  pub no_label_from : (x : Label) → from ≡ diagram.Zero x → (n : ℕ) (f : Arr n) (X Y : Dia n) → StandsBetween n f X Y leg from to → ⊥
  no_label_from x e zero f X Y s = no_zig_at_zero f leg hs rs ss el s.leg_is
  no_label_from x e (suc d) f X Y s = no_label_above d X from x e s.from_is

  pub no_label_to : (x : Label) → to ≡ diagram.Zero x → (n : ℕ) (f : Arr n) (X Y : Dia n) → StandsBetween n f X Y leg from to → ⊥
  no_label_to x e zero f X Y s = no_zig_at_zero f leg hs rs ss el s.leg_is
  no_label_to x e (suc d) f X Y s = no_label_above d Y to x e s.to_is

  -- an arrow that is no pair has a dimension above 0
  pub record StandsAbove : Type 0 where
    pub d : ℕ
    pub f : Arr (suc d)
    pub X : Dia (suc d)
    pub Y : Dia (suc d)
    pub stands : StandsBetween (suc d) f X Y leg from to

  pub stands_above : (n : ℕ) (f : Arr n) (X Y : Dia n) → StandsBetween n f X Y leg from to → StandsAbove
  stands_above zero f X Y s = absurd (no_zig_at_zero f leg hs rs ss el s.leg_is)
  stands_above (suc d) f X Y s = record { d = d; f = f; X = X; Y = Y; stands = s }

  pub found_above : (found : Option Place) → ((d : ℕ) (f : Arr (suc d)) (X Y : Dia (suc d)) → StandsBetween (suc d) f X Y leg from to → found ≡ first_failure (arrow_tests (suc d) X Y f))
      → (n : ℕ) (f : Arr n) (X Y : Dia n) → StandsBetween n f X Y leg from to → found ≡ first_failure (arrow_tests n X Y f)
  found_above found answer zero f X Y s = absurd (no_zig_at_zero f leg hs rs ss el s.leg_is)
  found_above found answer (suc d) f X Y s = answer d f X Y s

  module _ (xr xs : Vec Diagram Global) (xf xb : Vec Arrow Global) (ex : from ≡ diagram.Zig xr xs xf xb)
      (yr ys : Vec Diagram Global) (yf yb : Vec Arrow Global) (ey : to ≡ diagram.Zig yr ys yf yb)
      (d : ℕ) (f : Arr (suc d)) (X Y : Dia (suc d)) (s : StandsBetween (suc d) f X Y leg from to) where
    parts : AreHeldParts d f hs.items rs.items ss.items
    parts = held_parts d f leg hs rs ss el s.leg_is

    from_slices : AreHeldSlices d X xr.items xs.items xf.items xb.items
    from_slices = held_slices d X from xr xs xf xb ex s.from_is

    to_slices : AreHeldSlices d Y yr.items ys.items yf.items yb.items
    to_slices = held_slices d Y to yr ys yf yb ey s.to_is

    -- the test of the lengths, as the program makes it
    module _ (heights : List ℕ) (regs : List Arrow) (from_sings to_regs : List Diagram) (result : Bool) (e1 : heights ≡ hs.items) (e2 : regs ≡ rs.items)
        (e3 : from_sings ≡ xs.items) (e4 : to_regs ≡ yr.items)
        (test : result ≡ (nat_eq (length heights) (length from_sings) && nat_eq (length regs) (length to_regs))) where
      lengths_test : result ≡ lengths_fit d X Y f
      lengths_test =
          let a = ap length (e1 ∙ (parts).heights_are) in
          let b = ap length e3 ∙ held_diagrams_length d xs.items X.sings (from_slices).sings_are in
          let c = ap length e2 ∙ held_length d rs.items f.regs (parts).regs_are in
          let e = ap length e4 ∙ held_diagrams_length d yr.items Y.regs (to_slices).regs_are ∙ s.to_valid.regs_len in
          test ∙ (λ i. nat_eq (a i) (b i) && nat_eq (c i) (e i))

      pub lengths_differ : result ≡ false → Some (record { steps = []; end = at_end.Ends }) ≡ first_failure (arrow_tests (suc d) X Y f)
      lengths_differ h = first_of_four (here at_end.Ends (lengths_fit d X Y f)) (reg_tests d X Y f) (sing_tests d X Y f) (square_tests d X Y f)
          (record { steps = []; end = at_end.Ends }) (here_fails at_end.Ends (lengths_fit d X Y f) (sym lengths_test ∙ h))

      module _ (h : result ≡ true) where
        pub lengths_pass : first_failure (here at_end.Ends (lengths_fit d X Y f)) ≡ None
        lengths_pass = here_passes at_end.Ends (lengths_fit d X Y f) (sym lengths_test ∙ h)

        pub level_fits : LevelFits d f X Y
        level_fits =
            let p = and_parts (nat_eq (length f.heights) (length X.sings)) (nat_eq (length f.regs) (suc (length Y.sings))) (sym lengths_test ∙ h) in
            record {
              shape = s.shape;
              from_valid = s.from_valid;
              to_valid = s.to_valid;
              heights_len = eqb-true (length f.heights) (length X.sings) p.0;
              regs_len = eqb-true (length f.regs) (suc (length Y.sings)) p.1;
            }

        pub regs_between : (heights : List ℕ) (regs : List Arrow) (fr tr : List Diagram) → heights ≡ hs.items → regs ≡ rs.items → fr ≡ xr.items → tr ≡ yr.items
            → RegsBetween d f X Y heights regs fr tr
        regs_between heights regs fr tr e1 e2 e3 e4 = record {
          fits = level_fits;
          heights_are = e1 ∙ (parts).heights_are;
          regs_are = ap trees_of_arrows e2 ∙ (parts).regs_are;
          from_are = ap trees_of_diagrams e3 ∙ (from_slices).regs_are;
          to_are = ap trees_of_diagrams e4 ∙ (to_slices).regs_are;
        }

        pub sings_between : (heights : List ℕ) (sings : List Arrow) (fs ts : List Diagram) → heights ≡ hs.items → sings ≡ ss.items → fs ≡ xs.items → ts ≡ ys.items
            → SingsBetween d f X Y heights sings fs ts
        sings_between heights sings fs ts e1 e2 e3 e4 = record {
          fits = level_fits;
          heights_are = e1 ∙ (parts).heights_are;
          sings_are = ap trees_of_arrows e2 ∙ (parts).sings_are;
          from_are = ap trees_of_diagrams e3 ∙ (from_slices).sings_are;
          to_are = ap trees_of_diagrams e4 ∙ (to_slices).sings_are;
        }

        pub reg_found : (p : Place) → Some p ≡ first_failure (reg_tests d X Y f) → Some p ≡ first_failure (arrow_tests (suc d) X Y f)
        reg_found p e = second_of_four (here at_end.Ends (lengths_fit d X Y f)) (reg_tests d X Y f) (sing_tests d X Y f) (square_tests d X Y f) p lengths_pass e

        pub sing_found : (p : Place) → None ≡ first_failure (reg_tests d X Y f) → Some p ≡ first_failure (sing_tests d X Y f) → Some p ≡ first_failure (arrow_tests (suc d) X Y f)
        sing_found p r e = third_of_four (here at_end.Ends (lengths_fit d X Y f)) (reg_tests d X Y f) (sing_tests d X Y f) (square_tests d X Y f) p lengths_pass r e

        pub squares_decide : None ≡ first_failure (reg_tests d X Y f) → None ≡ first_failure (sing_tests d X Y f)
            → first_failure (square_tests d X Y f) ≡ first_failure (arrow_tests (suc d) X Y f)
        squares_decide r e = last_of_four (here at_end.Ends (lengths_fit d X Y f)) (reg_tests d X Y f) (sing_tests d X Y f) (square_tests d X Y f) lengths_pass r e
