-- What the parts of an arrow of the program stand for, where it stands for an arrow of the family.
use Rattle.std.proofs.Common.{◌≡◌, ℕ, zero, suc, ◌<◌, List, length, get_or, map, Vec, Global, sym, ap, ◌∙◌, arith}
use Rattle.std.proofs.lemmas.List.{get_or-map, length-map}
use Rattle.diagram_terms.specs.declared.label.Label.{Label}
use Rattle.diagram_terms.specs.declared.tree.Arrow.{Arrow}
use Rattle.diagram_terms.specs.declared.tree.Arrow.TheVariants as arrow
use Rattle.diagram_terms.specs.Tree.{nil, kind, kind-ends, kind-zag}
use Rattle.diagram_terms.specs.Family.{Arr, no_arr}
use Rattle.diagram_terms.specs.Decoded.{arr_tree}
use Rattle.diagram_terms.specs.Values.{tree_of_arrow, trees_of_arrows}
use Rattle.diagram_terms.proofs.ValuesAsTrees.{tree_of_arrow-Zero, tree_of_arrow-Zig, zag_iff, ends_iff}

-- one arrow of a list
pub held_arrow : (d : ℕ) (held : List Arrow) (fs : List (Arr d)) → trees_of_arrows held ≡ map (arr_tree d) fs
    → (k : ℕ) (a : Arrow) → k < length held → a ≡ get_or held k a → tree_of_arrow a ≡ arr_tree d (get_or fs k (no_arr d))
held_arrow d held fs e k a l is =
    let n : length held ≡ length fs = sym (length-map held tree_of_arrow) ∙ ap length e ∙ length-map fs (arr_tree d) in
    ap tree_of_arrow is ∙ sym (get_or-map tree_of_arrow held k a nil l)
    ∙ ap (λ ts. get_or ts k nil) e ∙ get_or-map (arr_tree d) fs k (no_arr d) nil (omega arith)

pub held_length : (d : ℕ) (held : List Arrow) (fs : List (Arr d)) → trees_of_arrows held ≡ map (arr_tree d) fs → length held ≡ length fs
held_length d held fs e = sym (length-map held tree_of_arrow) ∙ ap length e ∙ length-map fs (arr_tree d)

-- lists of parts that are those of the arrow f
pub record AreHeldParts (d : ℕ) (f : Arr (suc d)) (hs : List ℕ) (rs ss : List Arrow) : Type 0 where
  pub heights_are : hs ≡ f.heights
  pub regs_are : trees_of_arrows rs ≡ map (arr_tree d) f.regs
  pub sings_are : trees_of_arrows ss ≡ map (arr_tree d) f.sings

pub held_parts : (d : ℕ) (f : Arr (suc d)) (a : Arrow) (hs : Vec ℕ Global) (rs ss : Vec Arrow Global) → a ≡ arrow.Zig hs rs ss
    → tree_of_arrow a ≡ arr_tree (suc d) f → AreHeldParts d f hs.items rs.items ss.items
held_parts d f a hs rs ss e is =
    let p = (zag_iff hs.items f.heights (trees_of_arrows rs.items) (map (arr_tree d) f.regs) (trees_of_arrows ss.items) (map (arr_tree d) f.sings)).0
    (sym (ap tree_of_arrow e ∙ tree_of_arrow-Zig hs rs ss) ∙ is) in
    record { heights_are = p.0; regs_are = p.1; sings_are = p.2 }

-- an arrow of dimension 0 is a pair, and no other is
pub no_zig_at_zero : (f : Arr zero) (a : Arrow) (hs : Vec ℕ Global) (rs ss : Vec Arrow Global) → a ≡ arrow.Zig hs rs ss
    → tree_of_arrow a ≡ arr_tree zero f → ⊥
no_zig_at_zero f a hs rs ss e is =
    let t = sym (ap tree_of_arrow e ∙ tree_of_arrow-Zig hs rs ss) ∙ is in
    omega (arith, sym (kind-zag _ _ _) ∙ ap kind t ∙ kind-ends _ _)

pub no_pair_above : (d : ℕ) (f : Arr (suc d)) (a : Arrow) (x y : Label) → a ≡ arrow.Zero x y → tree_of_arrow a ≡ arr_tree (suc d) f → ⊥
no_pair_above d f a x y e is =
    let t = sym (ap tree_of_arrow e ∙ tree_of_arrow-Zero x y) ∙ is in
    omega (arith, sym (kind-ends x y) ∙ ap kind t ∙ kind-zag _ _ _)

pub held_ends : (f : Arr zero) (a : Arrow) (x y : Label) → a ≡ arrow.Zero x y → tree_of_arrow a ≡ arr_tree zero f → (x ≡ f.from) × (y ≡ f.to)
held_ends f a x y e is = (ends_iff x y f.from f.to).0 (sym (ap tree_of_arrow e ∙ tree_of_arrow-Zero x y) ∙ is)
