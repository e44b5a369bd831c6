-- What callers see of a store: the tree of each id, in the order of the ids, and the facts that were noted.
use Rattle.std.specs.Prelude.{◌≡◌, ℕ, ◌<◌, ◌≤◌, ◌⊎◌, List, [], ◌∷◌, ◌++◌, length, map, get_or, refl, Bool, true, nat_eq, Option, Some}
use Rattle.std.specs.Coded.{Coded, code_by, coded×, coded_list}
use Rattle.std.specs.List.{list_any}
use Rattle.std.specs.Map.{lookup}
use Rattle.diagram_terms.specs.Tree.{Tree, nil, coded_tree, regs, sings, fwds, bwds}
use Rattle.diagram_terms.specs.Shape.{reg_at, sing_at, fwd_at, bwd_at}
use Rattle.diagram_terms.specs.Completion.{IsAmongFirst}
use Rattle.diagram_terms.specs.Dimension.{dimension_of, IsDiagramTree, IsArrowTree}
use Rattle.diagram_terms.specs.Dual.{AreBelow}
use Rattle.diagram_terms.specs.Nodes.{picked}
use Rattle.diagram_terms.specs.Operations.{identity_tree, composite_tree}
use Rattle.diagram_terms.specs.ValidTrees.{IsValidTree, IsArrowBetween}
use Rattle.hashcons.specs.NormalTrees.{TreeLeg, IsNormalTree}
pub use Rattle.hashcons.specs.Notes.{Notes, Key, Normal, KeepsNotes, NotesMore, HasMore, no_notes, coded_notes, same_pair, same_triple, same_key}

pub record Contents : Type 0 where
  pub diagrams : List Tree
  pub arrows : List Tree
  pub notes : Notes

abbrev pub coded_contents : Coded Contents
coded_contents =
    code_by ((List Tree × List Tree) × Notes) (coded× (coded× (coded_list coded_tree) (coded_list coded_tree)) coded_notes)
    (λ c. ((c.diagrams, c.arrows), c.notes)) (λ p. record { diagrams = p.0.0; arrows = p.0.1; notes = p.1 }) (λ _. refl)

abbrev pub empty : Contents
empty = record { diagrams = []; arrows = []; notes = no_notes }

-- the id is of the store
abbrev pub IsDiagramOf : Contents → ℕ → Type 0
IsDiagramOf c d = d < length c.diagrams

abbrev pub IsArrowOf : Contents → ℕ → Type 0
IsArrowOf c a = a < length c.arrows

-- the tree of an id
abbrev pub diagram_at : Contents → ℕ → Tree
diagram_at c d = get_or c.diagrams d nil

abbrev pub arrow_at : Contents → ℕ → Tree
arrow_at c a = get_or c.arrows a nil

-- what is noted: as the identity of d, and as the composite of g after f
abbrev pub noted_identity : Contents → ℕ → Option ℕ
noted_identity c d = lookup (nat_eq d) c.notes.identities

abbrev pub noted_composite : Contents → ℕ → ℕ → Option ℕ
noted_composite c g f = lookup (same_pair (g, f)) c.notes.composites

-- whether d is noted as valid, and a as a valid arrow from s to t
abbrev pub noted_valid : Contents → ℕ → Bool
noted_valid c d = list_any (nat_eq d) c.notes.valid

abbrev pub noted_valid_map : Contents → ℕ → ℕ → ℕ → Bool
noted_valid_map c s t a = list_any (same_triple (s, t, a)) c.notes.valid_maps

-- the normal form that is noted for a key
abbrev pub noted_normal : Contents → Key → Option Normal
noted_normal c k = lookup (same_key k) c.notes.normals

-- a is the identity arrow of d
pub record IsIdentityOf (c : Contents) (d a : ℕ) : Type 0 where
  pub diagram : IsDiagramOf c d
  pub identity : IsArrowOf c a
  pub tree : arrow_at c a ≡ identity_tree (diagram_at c d)

-- h is the composite of g after f
pub record IsCompositeOf (c : Contents) (g f h : ℕ) : Type 0 where
  pub outer : IsArrowOf c g
  pub inner : IsArrowOf c f
  pub composite : IsArrowOf c h
  pub tree : arrow_at c h ≡ composite_tree (arrow_at c g) (arrow_at c f)

-- d is a valid diagram
pub record IsValidDiagram (c : Contents) (d : ℕ) : Type 0 where
  pub of_store : IsDiagramOf c d
  pub valid : IsValidTree (diagram_at c d)

-- s and t are valid diagrams, and a is a valid arrow from s to t
pub record IsValidTriple (c : Contents) (s t a : ℕ) : Type 0 where
  pub source : IsValidDiagram c s
  pub target : IsValidDiagram c t
  pub arrow : IsArrowOf c a
  pub between : IsArrowBetween (diagram_at c s) (diagram_at c t) (arrow_at c a)

-- a leg of the store, and the trees of one
pub record IsLegOf (c : Contents) (g : ℕ × ℕ) : Type 0 where
  pub source : IsDiagramOf c g.0
  pub arrow : IsArrowOf c g.1

abbrev pub leg_of : Contents → ℕ × ℕ → TreeLeg
leg_of c g = record { source = diagram_at c g.0; arrow = arrow_at c g.1 }

-- m is the least degeneracy for the target and the legs of k, which are valid, with the factors of these legs
pub record IsNormalOf (c : Contents) (k : Key) (m : Normal) : Type 0 where
  pub target : IsDiagramOf c k.target
  pub legs : (i : ℕ) → i < length k.legs → IsLegOf c (get_or k.legs i (0, 0))
  pub source : IsDiagramOf c m.source
  pub arrow : IsArrowOf c m.arrow
  pub factors : AreBelow m.factors (length c.arrows)
  pub normal : IsNormalTree (diagram_at c k.target) (map (leg_of c) k.legs) (diagram_at c m.source) (arrow_at c m.arrow) (picked c.arrows m.factors)

-- what these notes say of the ids of a store is so
pub record AreNotes (c : Contents) (notes : Notes) : Type 0 where
  pub identities : (d a : ℕ) → lookup (nat_eq d) notes.identities ≡ Some a → IsIdentityOf c d a
  pub composites : (k : ℕ × ℕ) (a : ℕ) → lookup (same_pair k) notes.composites ≡ Some a → IsCompositeOf c k.0 k.1 a
  pub valid : (d : ℕ) → list_any (nat_eq d) notes.valid ≡ true → IsValidDiagram c d
  pub valid_maps : (k : ℕ × ℕ × ℕ) → list_any (same_triple k) notes.valid_maps ≡ true → IsValidTriple c k.0 k.1 k.2
  pub normals : (k : Key) (m : Normal) → lookup (same_key k) notes.normals ≡ Some m → IsNormalOf c k m

-- no tree stands twice in the list
abbrev pub IsOnce : List Tree → Type 0
IsOnce ts = (i j : ℕ) → i < length ts → j < length ts → get_or ts i nil ≡ get_or ts j nil → i ≡ j

-- the slices of a diagram are among these trees
pub record HasSlicesAmong (n : ℕ) (diagrams : List Tree) (t : Tree) : Type 0 where
  pub regs : (j : ℕ) → j < length (regs t) → IsAmongFirst n diagrams (reg_at t j)
  pub sings : (i : ℕ) → i < length (sings t) → IsAmongFirst n diagrams (sing_at t i)

-- and its legs
pub record HasLegsAmong (n : ℕ) (arrows : List Tree) (t : Tree) : Type 0 where
  pub fwds : (k : ℕ) → k < length (fwds t) → IsAmongFirst n arrows (fwd_at t k)
  pub bwds : (k : ℕ) → k < length (bwds t) → IsAmongFirst n arrows (bwd_at t k)

-- the slices of an arrow are, where it has slices
pub record HasArrowsAmong (n : ℕ) (arrows : List Tree) (t : Tree) : Type 0 where
  pub regs : 0 < dimension_of t → (j : ℕ) → j < length (regs t) → IsAmongFirst n arrows (reg_at t j)
  pub sings : 0 < dimension_of t → (i : ℕ) → i < length (sings t) → IsAmongFirst n arrows (sing_at t i)

-- what is true of every store
pub record IsStore (c : Contents) : Type 0 where
  -- equal trees have equal ids
  pub diagrams_once : IsOnce c.diagrams
  pub arrows_once : IsOnce c.arrows
  -- each tree has the right shape
  pub diagrams : (d : ℕ) → IsDiagramOf c d → IsDiagramTree (diagram_at c d)
  pub arrows : (a : ℕ) → IsArrowOf c a → IsArrowTree (arrow_at c a)
  -- children of the same kind stand before their parents, and legs are held
  pub slices : (d : ℕ) → IsDiagramOf c d → HasSlicesAmong d c.diagrams (diagram_at c d)
  pub legs : (d : ℕ) → IsDiagramOf c d → HasLegsAmong (length c.arrows) c.arrows (diagram_at c d)
  pub arrow_slices : (a : ℕ) → IsArrowOf c a → HasArrowsAmong a c.arrows (arrow_at c a)
  -- the dimension is at most the id
  pub diagram_dims : (d : ℕ) → IsDiagramOf c d → dimension_of (diagram_at c d) ≤ d
  pub arrow_dims : (a : ℕ) → IsArrowOf c a → dimension_of (arrow_at c a) ≤ a
  -- what is noted is so
  pub notes : AreNotes c c.notes

-- each id of the first store is one of the second, with the same tree, and each note one of the second; and the second is a
-- store too
pub record Grows (old new : Contents) : Type 0 where
  pub store : IsStore old → IsStore new
  pub diagrams : (d : ℕ) → IsDiagramOf old d → IsDiagramOf new d
  pub arrows : (a : ℕ) → IsArrowOf old a → IsArrowOf new a
  pub diagram_trees : (d : ℕ) → IsDiagramOf old d → diagram_at new d ≡ diagram_at old d
  pub arrow_trees : (a : ℕ) → IsArrowOf old a → arrow_at new a ≡ arrow_at old a
  pub notes : KeepsNotes old.notes new.notes

-- the store with one more tree
abbrev pub with_diagram : Contents → Tree → Contents
with_diagram c t = record { diagrams = c.diagrams ++ t ∷ []; arrows = c.arrows; notes = c.notes }

abbrev pub with_arrow : Contents → Tree → Contents
with_arrow c t = record { diagrams = c.diagrams; arrows = c.arrows ++ t ∷ []; notes = c.notes }

-- nothing was added, or this tree alone
abbrev pub AddsDiagram : Contents → Contents → Tree → Type 0
AddsDiagram old new t = (new ≡ old) ⊎ (new ≡ with_diagram old t)

abbrev pub AddsArrow : Contents → Contents → Tree → Type 0
AddsArrow old new t = (new ≡ old) ⊎ (new ≡ with_arrow old t)

-- the store with other notes
abbrev pub with_notes : Contents → Notes → Contents
with_notes c ns = record { diagrams = c.diagrams; arrows = c.arrows; notes = ns }

-- with another list of notes of one kind
abbrev pub with_identities : Contents → List (ℕ × ℕ) → Contents
with_identities c ns = with_notes c (record c.notes { identities = ns })

abbrev pub with_composites : Contents → List ((ℕ × ℕ) × ℕ) → Contents
with_composites c ns = with_notes c (record c.notes { composites = ns })

abbrev pub with_valid : Contents → List ℕ → Contents
with_valid c ns = with_notes c (record c.notes { valid = ns })

abbrev pub with_valid_maps : Contents → List (ℕ × ℕ × ℕ) → Contents
with_valid_maps c ns = with_notes c (record c.notes { valid_maps = ns })

abbrev pub with_normals : Contents → List (Key × Normal) → Contents
with_normals c ns = with_notes c (record c.notes { normals = ns })
