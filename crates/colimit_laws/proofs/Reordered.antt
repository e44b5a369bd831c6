-- The order of the arrows of a shape has no influence on its colimit, nor do repeated arrows.
use Rattle.std.proofs.Common.{◌≡◌, ℕ, zero, suc, List, map, refl, ◌∙◌, subst, inl, inr}
use Rattle.std.specs.Prelude.{◌↔◌}
use Rattle.std.specs.List.{Contains, flat_map}
use Rattle.std.proofs.lemmas.List.Elements.{Contains-append_left, Contains-append_right, Contains-append_cases}
use Rattle.diagram_terms.specs.declared.place.Bias.{Bias}
use Rattle.diagram_terms.specs.Family.{Dia, length_of}
use Rattle.diagram_terms.specs.Ranks.{Ranks}
use Rattle.diagram_terms.specs.Shapes.{Shape, ShapeArrow, heights_of}
use Rattle.diagram_terms.specs.Cocones.{Cocone}
use Rattle.diagram_terms.specs.ClassParts.{names, leg_arrows, slice_arrows, part}
use Rattle.diagram_terms.specs.Colimits.{cocone_at, part_leg, enter_class, leave_class, apex_reg, glued_apex, glued_leg, glued, outer_bias, inner_biases, IsColimit}
use Rattle.diagram_terms.specs.ColimitRefusals.{Refusal, IsRefused, in_order, in_part}
use Rattle.colimit_laws.specs.Laws.{ArrowsMayBeReordered, ArrowsMayBeReorderedInRefusals}
use Rattle.colimit_laws.proofs.Membership.{contains_map, from_map, contains_flat, from_flat}
use Rattle.colimit_laws.proofs.Ranked.{map_of}
use Rattle.colimit_laws.proofs.ReorderedMaps.{AreAmong, ranked-moved, fault-moved}

module _ (d : ℕ) (objects : List (Dia (suc d))) where
  abbrev shape_of : List (ShapeArrow (suc d)) → Shape (suc d)
  shape_of arrows = record { objects = objects; arrows = arrows }

  -- the lengths of the objects
  abbrev lengths : List ℕ
  lengths = map (λ X. length_of (suc d) X) objects

  module _ (arrows others : List (ShapeArrow (suc d))) (to : (g : ShapeArrow (suc d)) → Contains arrows g → Contains others g) where
    abbrev S : Shape (suc d)
    S = shape_of arrows

    abbrev T : Shape (suc d)
    T = shape_of others

    pub maps-among : AreAmong (heights_of d S).maps (heights_of d T).maps
    maps-among m c =
        let f = from_map (map_of d S) arrows m c in
        subst (Contains (heights_of d T).maps) f.2 (contains_map (map_of d T) others f.0 (to f.0 f.1))

    -- the arrows of a part
    pub part-among : (r : Ranks) (k : ℕ) (b : ShapeArrow d) → Contains (part d S r k).arrows b → Contains (part d T r k).arrows b
    unfolding part
    part-among r k b c = elim (Contains-append_cases (flat_map (λ a. leg_arrows d S r k a.object a.height) (names r k)) (flat_map (slice_arrows d S r k) arrows) b c) [
      | inl h ↦ Contains-append_left (flat_map (λ a. leg_arrows d T r k a.object a.height) (names r k)) (flat_map (slice_arrows d T r k) others) b h
      | inr h ↦ (
          let f = from_flat (slice_arrows d S r k) arrows b h in
          Contains-append_right (flat_map (λ a. leg_arrows d T r k a.object a.height) (names r k)) (flat_map (slice_arrows d T r k) others) b
          (contains_flat (slice_arrows d T r k) others f.0 b (to f.0 f.1) f.2))
    ]

    -- and its objects
    pub part-objects : (r : Ranks) (k : ℕ) → (part d S r k).objects ≡ (part d T r k).objects
    unfolding part
    part-objects r k = refl

module _ (d : ℕ) (objects : List (Dia (suc d))) (arrows others : List (ShapeArrow (suc d)))
    (same : (g : ShapeArrow (suc d)) → Contains arrows g ↔ Contains others g) where
  abbrev Here : Shape (suc d)
  Here = shape_of d objects arrows

  abbrev There : Shape (suc d)
  There = shape_of d objects others

  to : (g : ShapeArrow (suc d)) → Contains arrows g → Contains others g
  to g = (same g).0

  from : (g : ShapeArrow (suc d)) → Contains others g → Contains arrows g
  from g = (same g).1

  -- what holds of a part of Here, and does not depend on the order of the arrows, holds of that of There
  moved : (Q : Shape d → Type 0)
      → ((os : List (Dia d)) (here there : List (ShapeArrow d)) → ((g : ShapeArrow d) → Contains here g ↔ Contains there g)
      → Q (record { objects = os; arrows = here }) → Q (record { objects = os; arrows = there }))
      → (r : Ranks) (k : ℕ) → Q (part d Here r k) → Q (part d There r k)
  moved Q free r k h =
      let e = part-objects d objects arrows others to r k in
      subst (λ (os : List (Dia d)). Q (record { objects = os; arrows = (part d There r k).arrows })) e
      (free (part d Here r k).objects (part d Here r k).arrows (part d There r k).arrows
      (λ b. (part-among d objects arrows others to r k b, part-among d objects others arrows from r k b)) h)

  -- the cocone that the parts make depends on the objects alone
  one_glued : (r : Ranks) (parts : List (Cocone d)) → glued d Here r parts ≡ glued d There r parts
  unfolding glued_apex glued_leg apex_reg enter_class leave_class part_leg
  one_glued r parts = refl

  colimit_step : ArrowsMayBeReordered d → (biases : List Bias) (c : Cocone (suc d)) → IsColimit (suc d) Here biases c → IsColimit (suc d) There biases c
  colimit_step ih biases c z = record {
    ranks = z.ranks;
    ranked = ranked-moved (lengths d objects) (heights_of d Here).maps (heights_of d There).maps (maps-among d objects arrows others to)
        (maps-among d objects others arrows from) (outer_bias biases) z.ranks z.ranked;
    parts = z.parts;
    parts_len = z.parts_len;
    parts_are = λ k l. moved (λ P. IsColimit d P (inner_biases biases) (cocone_at d z.parts k))
        (λ os here there e. ih os here there (inner_biases biases) (cocone_at d z.parts k) e) z.ranks k (z.parts_are k l);
    is_glued = z.is_glued ∙ one_glued z.ranks z.parts;
  }

  refusal_step : ArrowsMayBeReordered d → ArrowsMayBeReorderedInRefusals d → (biases : List Bias) (f : Refusal)
      → IsRefused (suc d) Here biases f → IsRefused (suc d) There biases f
  refusal_step ic ih biases f (in_order e h) = in_order e (fault-moved (lengths d objects) (heights_of d Here).maps (heights_of d There).maps
      (maps-among d objects arrows others to) (maps-among d objects others arrows from) (outer_bias biases) e h)
  refusal_step ic ih biases f (in_part r rk k l earlier g h) = in_part r
      (ranked-moved (lengths d objects) (heights_of d Here).maps (heights_of d There).maps (maps-among d objects arrows others to)
      (maps-among d objects others arrows from) (outer_bias biases) r rk) k l
      (λ j m. let c = earlier j m in (c.0, moved (λ P. IsColimit d P (inner_biases biases) c.0) (λ os here there e. ic os here there (inner_biases biases) c.0 e) r j c.1))
      g (moved (λ P. IsRefused d P (inner_biases biases) g) (λ os here there e. ih os here there (inner_biases biases) g e) r k h)

pub arrows_may_be_reordered : (d : ℕ) → ArrowsMayBeReordered d
arrows_may_be_reordered zero = λ objects arrows others biases c same z. record { join = z.join; legs = z.legs }
arrows_may_be_reordered (suc d) = λ objects arrows others biases c same z.
    colimit_step d objects arrows others same (arrows_may_be_reordered d) biases c z

pub arrows_may_be_reordered_in_refusals : (d : ℕ) → ArrowsMayBeReorderedInRefusals d
arrows_may_be_reordered_in_refusals zero = λ objects arrows others biases f same h.
    record { one = h.one; other = h.other; clashes = h.clashes; is_refusal = h.is_refusal }
arrows_may_be_reordered_in_refusals (suc d) = λ objects arrows others biases f same h.
    refusal_step d objects arrows others same (arrows_may_be_reordered d) (arrows_may_be_reordered_in_refusals d) biases f h
