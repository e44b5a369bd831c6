-- The laws of segments and sums, of occurrences, of merging and of expansion, each at one dimension.
use Rattle.std.specs.Prelude.{◌≡◌, ◌+◌, ◌<◌, ◌≤◌, ◌↔◌, ℕ, suc, List, [], ◌∷◌, length, get_or, Some, None, Ok}
use Rattle.std.specs.List.{Contains}
use Rattle.diagram_terms.specs.declared.label.Label.{Label}
use Rattle.diagram_terms.specs.Family.{Dia, Arr, reg, sing, fwd, bwd}
use Rattle.diagram_terms.specs.Dual.{dual}
use Rattle.diagram_terms.specs.Composite.{comp, ident, identity_diagram}
use Rattle.diagram_terms.specs.Cone.{source, target, Parallel, cospan, HasLabelsBelow}
use Rattle.diagram_terms.specs.Valid.{Valid}
use Rattle.diagram_terms.specs.Good.{GoodDiagram, GoodArrow}
use Rattle.diagram_terms.specs.Segments.{segment, diagram_sum, arrow_sum, arrow_segment, replaced, replacing}
use Rattle.occurrence_laws.specs.Lists.{HasListsReplaced, HasListsReplacing, HasListsAround}
use Rattle.diagram_terms.specs.Occurrences.{swap, put, slices_swapped, slices_put, Inside, refused_step, matches, AreOffsetsBefore}
use Rattle.diagram_terms.specs.Attachment.{attached_at_target, attached_at_source}
use Rattle.diagram_terms.specs.Merging.{to_one_height, slice_replaced, slice_replacing, merged, merging, MergesAlong}
use Rattle.diagram_terms.specs.Expansion.{block, block_replaced, around_block, height_parted, height_parting, expanded, expanding, Expansion, stored_expansion, expand}

-- ---- segments and sums of diagrams

-- a segment of a valid diagram is valid, and one of a valid plain diagram is valid and plain
abbrev pub SegmentsAreValid : ℕ → Type 0
SegmentsAreValid d = (X : Dia (suc d)) (a b : ℕ) → Valid (suc d) X → a ≤ b → b ≤ length X.sings → Valid (suc d) (segment d X a b)

abbrev pub SegmentsAreGood : ℕ → Type 0
SegmentsAreGood d = (X : Dia (suc d)) (a b : ℕ) → GoodDiagram (suc d) X → a ≤ b → b ≤ length X.sings
    → GoodDiagram (suc d) (segment d X a b)

-- it goes from the one regular slice to the other
abbrev pub SegmentsHaveEnds : ℕ → Type 0
SegmentsHaveEnds d = (X : Dia (suc d)) (a b : ℕ) → a ≤ b → b ≤ length X.sings
    → (source d (segment d X a b) ≡ reg d X a) × (target d (segment d X a b) ≡ reg d X b)

-- the sum of valid diagrams, of which one ends where the other begins, is valid, and that of valid plain diagrams is valid
-- and plain
abbrev pub SumsAreValid : ℕ → Type 0
SumsAreValid d = (X Y : Dia (suc d)) → Valid (suc d) X → Valid (suc d) Y → target d X ≡ source d Y → Valid (suc d) (diagram_sum d X Y)

abbrev pub SumsAreGood : ℕ → Type 0
SumsAreGood d = (X Y : Dia (suc d)) → GoodDiagram (suc d) X → GoodDiagram (suc d) Y → target d X ≡ source d Y
    → GoodDiagram (suc d) (diagram_sum d X Y)

-- it goes from the source of the first to the target of the second
abbrev pub SumsHaveEnds : ℕ → Type 0
SumsHaveEnds d = (X Y : Dia (suc d)) → Valid (suc d) X → Valid (suc d) Y → target d X ≡ source d Y
    → (source d (diagram_sum d X Y) ≡ source d X) × (target d (diagram_sum d X Y) ≡ target d Y)

-- segments that follow one another have their common segment as sum
abbrev pub SegmentsJoin : ℕ → Type 0
SegmentsJoin d = (X : Dia (suc d)) (a b c : ℕ) → GoodDiagram (suc d) X → a ≤ b → b ≤ c → c ≤ length X.sings
    → diagram_sum d (segment d X a b) (segment d X b c) ≡ segment d X a c

-- the segment from the first regular height to the last is the whole
abbrev pub SegmentsAreWhole : ℕ → Type 0
SegmentsAreWhole d = (X : Dia (suc d)) → GoodDiagram (suc d) X → segment d X 0 (length X.sings) ≡ X

-- the summands are the segments of a sum
abbrev pub SumsHaveSegments : ℕ → Type 0
SumsHaveSegments d = (X Y : Dia (suc d)) → GoodDiagram (suc d) X → GoodDiagram (suc d) Y → target d X ≡ source d Y
    → (segment d (diagram_sum d X Y) 0 (length X.sings) ≡ X)
    × (segment d (diagram_sum d X Y) (length X.sings) (length X.sings + length Y.sings) ≡ Y)

-- sums of diagrams are associative, and the identity diagram of an end is neutral
abbrev pub SumsAreAssociative : ℕ → Type 0
SumsAreAssociative d = (X Y Z : Dia (suc d)) → GoodDiagram (suc d) X → GoodDiagram (suc d) Y → GoodDiagram (suc d) Z
    → target d X ≡ source d Y → target d Y ≡ source d Z
    → diagram_sum d X (diagram_sum d Y Z) ≡ diagram_sum d (diagram_sum d X Y) Z

abbrev pub IdentityDiagramsAreNeutral : ℕ → Type 0
IdentityDiagramsAreNeutral d = (X : Dia (suc d)) → GoodDiagram (suc d) X
    → (diagram_sum d (identity_diagram d (source d X)) X ≡ X) × (diagram_sum d X (identity_diagram d (target d X)) ≡ X)

-- ---- segments and sums of plain arrows

-- the sum of valid plain arrows beside one another is a valid plain arrow between the sums
abbrev pub ArrowSumsAreGood : ℕ → Type 0
ArrowSumsAreGood d = (X Y : Dia (suc d)) (f : Arr (suc d)) (V W : Dia (suc d)) (g : Arr (suc d))
    → GoodArrow (suc d) X Y f → GoodArrow (suc d) V W g → target d X ≡ source d V
    → GoodArrow (suc d) (diagram_sum d X V) (diagram_sum d Y W) (arrow_sum d f g)

-- the sum of identities is the identity of the sum
abbrev pub SumsOfIdentities : ℕ → Type 0
SumsOfIdentities d = (X Y : Dia (suc d)) → GoodDiagram (suc d) X → GoodDiagram (suc d) Y → target d X ≡ source d Y
    → arrow_sum d (ident (suc d) X) (ident (suc d) Y) ≡ ident (suc d) (diagram_sum d X Y)

-- the sum of composites is the composite of the sums: first f, then g, and beside them first h, then k
abbrev pub SumsOfComposites : ℕ → Type 0
SumsOfComposites d = (X Y Z U V W : Dia (suc d)) (f g h k : Arr (suc d))
    → GoodArrow (suc d) X Y f → GoodArrow (suc d) Y Z g → GoodArrow (suc d) U V h → GoodArrow (suc d) V W k
    → target d X ≡ source d U
    → comp (suc d) (arrow_sum d g k) (arrow_sum d f h) ≡ arrow_sum d (comp (suc d) g f) (comp (suc d) k h)

-- sums of arrows are associative
abbrev pub ArrowSumsAreAssociative : ℕ → Type 0
ArrowSumsAreAssociative d = (X Y U V W Z : Dia (suc d)) (f g h : Arr (suc d))
    → GoodArrow (suc d) X Y f → GoodArrow (suc d) U V g → GoodArrow (suc d) W Z h
    → target d X ≡ source d U → target d U ≡ source d W
    → arrow_sum d f (arrow_sum d g h) ≡ arrow_sum d (arrow_sum d f g) h

-- a segment of a valid plain arrow goes from the segment between the duals to the segment
abbrev pub ArrowSegmentsAreGood : ℕ → Type 0
ArrowSegmentsAreGood d = (X Y : Dia (suc d)) (f : Arr (suc d)) → GoodArrow (suc d) X Y f
    → (a b : ℕ) → a ≤ b → b ≤ length Y.sings
    → GoodArrow (suc d) (segment d X (dual f.heights a) (dual f.heights b)) (segment d Y a b) (arrow_segment d f a b)

-- such segments that follow one another have their common segment as sum, and the longest is the whole
abbrev pub ArrowSegmentsJoin : ℕ → Type 0
ArrowSegmentsJoin d = (X Y : Dia (suc d)) (f : Arr (suc d)) → GoodArrow (suc d) X Y f
    → (a b c : ℕ) → a ≤ b → b ≤ c → c ≤ length Y.sings
    → arrow_sum d (arrow_segment d f a b) (arrow_segment d f b c) ≡ arrow_segment d f a c

abbrev pub ArrowSegmentsAreWhole : ℕ → Type 0
ArrowSegmentsAreWhole d = (X Y : Dia (suc d)) (f : Arr (suc d)) → GoodArrow (suc d) X Y f
    → arrow_segment d f 0 (length Y.sings) ≡ f

-- the summands are the segments of a sum of arrows
abbrev pub ArrowSumsHaveSegments : ℕ → Type 0
ArrowSumsHaveSegments d = (X Y : Dia (suc d)) (f : Arr (suc d)) (V W : Dia (suc d)) (g : Arr (suc d))
    → GoodArrow (suc d) X Y f → GoodArrow (suc d) V W g → target d X ≡ source d V
    → (arrow_segment d (arrow_sum d f g) 0 (length Y.sings) ≡ f)
    × (arrow_segment d (arrow_sum d f g) (length Y.sings) (length Y.sings + length W.sings) ≡ g)

-- the segment of an identity is the identity of the segment, and that of a composite the composite of the segments
abbrev pub SegmentsOfIdentities : ℕ → Type 0
SegmentsOfIdentities d = (X : Dia (suc d)) (a b : ℕ) → GoodDiagram (suc d) X → a ≤ b → b ≤ length X.sings
    → arrow_segment d (ident (suc d) X) a b ≡ ident (suc d) (segment d X a b)

abbrev pub SegmentsOfComposites : ℕ → Type 0
SegmentsOfComposites d = (X Y Z : Dia (suc d)) (f g : Arr (suc d)) (a b : ℕ) → GoodArrow (suc d) X Y f → GoodArrow (suc d) Y Z g
    → a ≤ b → b ≤ length Z.sings
    → arrow_segment d (comp (suc d) g f) a b
    ≡ comp (suc d) (arrow_segment d g a b) (arrow_segment d f (dual g.heights a) (dual g.heights b))

-- ---- another diagram in the place of a segment

-- what is put in the place of a segment with the same ends gives a valid plain diagram with the ends of B, and the segment
-- itself gives B
abbrev pub ReplacedAreGood : ℕ → Type 0
ReplacedAreGood d = (B : Dia (suc d)) (a b : ℕ) (Q : Dia (suc d)) → GoodDiagram (suc d) B → a ≤ b → b ≤ length B.sings
    → GoodDiagram (suc d) Q → Parallel (suc d) Q (segment d B a b)
    → GoodDiagram (suc d) (replaced d B a b Q) × Parallel (suc d) (replaced d B a b Q) B

abbrev pub ReplacedBySameIsSame : ℕ → Type 0
ReplacedBySameIsSame d = (B : Dia (suc d)) (a b : ℕ) → GoodDiagram (suc d) B → a ≤ b → b ≤ length B.sings
    → replaced d B a b (segment d B a b) ≡ B

-- an arrow between two such gives one between the diagrams
abbrev pub ReplacingIsGood : ℕ → Type 0
ReplacingIsGood d = (B : Dia (suc d)) (a b : ℕ) (Q P : Dia (suc d)) (q : Arr (suc d)) → GoodDiagram (suc d) B → a ≤ b → b ≤ length B.sings
    → GoodArrow (suc d) Q P q → Parallel (suc d) Q (segment d B a b)
    → GoodArrow (suc d) (replaced d B a b Q) (replaced d B a b P) (replacing d B a b q)

-- in lists: the heights of B outside the segment stay, and between them stand those of Q; an arrow is q there and the
-- identity outside
abbrev pub ReplacedHasLists : ℕ → Type 0
ReplacedHasLists d = (B : Dia (suc d)) (a b : ℕ) (Q : Dia (suc d)) → GoodDiagram (suc d) B → a ≤ b → b ≤ length B.sings
    → GoodDiagram (suc d) Q → Parallel (suc d) Q (segment d B a b) → HasListsReplaced d B a b Q (replaced d B a b Q)

abbrev pub ReplacingHasLists : ℕ → Type 0
ReplacingHasLists d = (B : Dia (suc d)) (a b : ℕ) (Q P : Dia (suc d)) (q : Arr (suc d)) → GoodDiagram (suc d) B → a ≤ b → b ≤ length B.sings
    → GoodArrow (suc d) Q P q → Parallel (suc d) Q (segment d B a b)
    → HasListsReplacing d B a b (length P.sings) q (replaced d B a b P) (replacing d B a b q)

-- ---- occurrences

-- B with T in the place of S, which is inside B and parallel to T, is valid and plain, and parallel to B
abbrev pub SwapsAreGood : ℕ → Type 0
SwapsAreGood d = (B : Dia d) (e : List ℕ) (S T : Dia d) → GoodDiagram d B → GoodDiagram d S → GoodDiagram d T
    → Inside d B e S → Parallel d T S → GoodDiagram d (swap d B e S T) × Parallel d (swap d B e S T) B

-- T is inside it then
abbrev pub SwappedIsInside : ℕ → Type 0
SwappedIsInside d = (B : Dia d) (e : List ℕ) (S T : Dia d) → GoodDiagram d B → GoodDiagram d S → GoodDiagram d T
    → Inside d B e S → Parallel d T S → Inside d (swap d B e S T) e T

-- S in the place of S gives B
abbrev pub SwapsWithItself : ℕ → Type 0
SwapsWithItself d = (B : Dia d) (e : List ℕ) (S : Dia d) → GoodDiagram d B → GoodDiagram d S → Inside d B e S
    → swap d B e S S ≡ B

-- first T and then U gives U at once, and so first T and then S gives B
abbrev pub SwapsTwice : ℕ → Type 0
SwapsTwice d = (B : Dia d) (e : List ℕ) (S T U : Dia d) → GoodDiagram d B → GoodDiagram d S → GoodDiagram d T
    → Inside d B e S → Parallel d T S → swap d (swap d B e S T) e T U ≡ swap d B e S U

abbrev pub SwapsBack : ℕ → Type 0
SwapsBack d = (B : Dia d) (e : List ℕ) (S T : Dia d) → GoodDiagram d B → GoodDiagram d S → GoodDiagram d T
    → Inside d B e S → Parallel d T S → swap d (swap d B e S T) e T S ≡ B

-- what puts a valid plain arrow from S to M is a valid plain arrow from B
abbrev pub PutsAreGood : ℕ → Type 0
PutsAreGood d = (B : Dia d) (e : List ℕ) (S M : Dia d) (f : Arr d) → GoodDiagram d B → Inside d B e S → GoodArrow d S M f
    → GoodArrow d B (swap d B e S M) (put d B e S M f)

-- what puts an identity is the identity, and what puts a composite is the composite
abbrev pub PutsOfIdentities : ℕ → Type 0
PutsOfIdentities d = (B : Dia d) (e : List ℕ) (S : Dia d) → GoodDiagram d B → GoodDiagram d S → Inside d B e S
    → put d B e S S (ident d S) ≡ ident d B

abbrev pub PutsOfComposites : ℕ → Type 0
PutsOfComposites d = (B : Dia d) (e : List ℕ) (S M N : Dia d) (f g : Arr d) → GoodDiagram d B → Inside d B e S
    → GoodArrow d S M f → GoodArrow d M N g
    → put d B e S N (comp d g f) ≡ comp d (put d (swap d B e S M) e M N g) (put d B e S M f)

-- above dimension 0, in lists: S is inside B from the height o on, and there stand the slices and the legs of T, each put
-- into the slice of B there, or the singular slices of f, each put there
abbrev pub SwapsHaveLists : ℕ → Type 0
SwapsHaveLists d = (B : Dia (suc d)) (o : ℕ) (e : List ℕ) (S T : Dia (suc d)) → GoodDiagram (suc d) B → GoodDiagram (suc d) S
    → GoodDiagram (suc d) T → Inside (suc d) B (o ∷ e) S → Parallel (suc d) T S
    → HasListsReplaced d B o (o + length S.sings) (slices_swapped d (reg d B o) e (source d S) T) (swap (suc d) B (o ∷ e) S T)

abbrev pub PutsHaveLists : ℕ → Type 0
PutsHaveLists d = (B : Dia (suc d)) (o : ℕ) (e : List ℕ) (S M : Dia (suc d)) (f : Arr (suc d)) → GoodDiagram (suc d) B
    → Inside (suc d) B (o ∷ e) S → GoodArrow (suc d) S M f
    → HasListsReplacing d B o (o + length S.sings) (length M.sings) (slices_put d (reg d B o) e (source d S) S M f)
    (swap (suc d) B (o ∷ e) S M) (put (suc d) B (o ∷ e) S M f)

-- there is no refused step exactly where S is inside B
abbrev pub NoRefusedStepMeansInside : ℕ → Type 0
NoRefusedStepMeansInside d = (B : Dia d) (e : List ℕ) (S : Dia d) (t : ℕ) → (refused_step d B e S t ≡ None) ↔ Inside d B e S

-- a refused step is at most as many steps after the first as there are dimensions
abbrev pub RefusedStepsAreWithin : ℕ → Type 0
RefusedStepsAreWithin d = (B : Dia d) (e : List ℕ) (S : Dia d) (t n : ℕ) → refused_step d B e S t ≡ Some n → (t ≤ n) × (n ≤ t + d)

-- the offsets at which S is inside B are listed, and in order, so each once
abbrev pub MatchesAreOccurrences : ℕ → Type 0
MatchesAreOccurrences d = (B S : Dia d) (e : List ℕ) → Contains (matches d B S) e ↔ Inside d B e S

abbrev pub MatchesAreInOrder : ℕ → Type 0
MatchesAreInOrder d = (B S : Dia d) (i j : ℕ) → i < j → j < length (matches d B S)
    → AreOffsetsBefore (get_or (matches d B S) i []) (get_or (matches d B S) j [])

-- a generator with a parallel boundary S, T below its label, one of which is inside the target or the source of D, can be
-- attached there
abbrev pub AttachedAtTargetIsGood : ℕ → Type 0
AttachedAtTargetIsGood d = (D : Dia (suc d)) (e : List ℕ) (S T : Dia d) (x : Label) → GoodDiagram (suc d) D
    → GoodDiagram d S → GoodDiagram d T → HasLabelsBelow x.dim d S → HasLabelsBelow x.dim d T → Parallel d S T
    → Inside d (target d D) e S → GoodDiagram (suc d) (attached_at_target d D e S T x)

abbrev pub AttachedAtSourceIsGood : ℕ → Type 0
AttachedAtSourceIsGood d = (D : Dia (suc d)) (e : List ℕ) (S T : Dia d) (x : Label) → GoodDiagram (suc d) D
    → GoodDiagram d S → GoodDiagram d T → HasLabelsBelow x.dim d S → HasLabelsBelow x.dim d T → Parallel d S T
    → Inside d (source d D) e T → GoodDiagram (suc d) (attached_at_source d D e S T x)

-- at the target it leads from the source of D to the target with T in the place of S, and at the source from the source
-- with S in the place of T to the target of D
abbrev pub AttachedAtTargetHasEnds : ℕ → Type 0
AttachedAtTargetHasEnds d = (D : Dia (suc d)) (e : List ℕ) (S T : Dia d) (x : Label) → GoodDiagram (suc d) D
    → GoodDiagram d S → GoodDiagram d T → HasLabelsBelow x.dim d S → HasLabelsBelow x.dim d T → Parallel d S T → Inside d (target d D) e S
    → (source d (attached_at_target d D e S T x) ≡ source d D) × (target d (attached_at_target d D e S T x) ≡ swap d (target d D) e S T)

abbrev pub AttachedAtSourceHasEnds : ℕ → Type 0
AttachedAtSourceHasEnds d = (D : Dia (suc d)) (e : List ℕ) (S T : Dia d) (x : Label) → GoodDiagram (suc d) D
    → GoodDiagram d S → GoodDiagram d T → HasLabelsBelow x.dim d S → HasLabelsBelow x.dim d T → Parallel d S T → Inside d (source d D) e T
    → (source d (attached_at_source d D e S T x) ≡ swap d (source d D) e T S) × (target d (attached_at_source d D e S T x) ≡ target d D)

-- ---- merging

-- a valid plain arrow from a singular slice gives one from the diagram
abbrev pub SliceReplacingIsGood : ℕ → Type 0
SliceReplacingIsGood d = (C : Dia (suc d)) (p : ℕ) (S : Dia d) (m : Arr d) → GoodDiagram (suc d) C → p < length C.sings
    → GoodArrow d (sing d C p) S m → GoodArrow (suc d) C (slice_replaced d C p S m) (slice_replacing d C p m)

-- valid plain arrows from two singular slices that follow one another to P, which agree on the regular slice between them,
-- give a valid plain arrow from the diagram to the one with P in their place
abbrev pub MergingIsGood : ℕ → Type 0
MergingIsGood d = (C : Dia (suc d)) (k : ℕ) (P : Dia d) (l m : Arr d) → GoodDiagram (suc d) C → suc k < length C.sings
    → GoodArrow d (sing d C k) P l → GoodArrow d (sing d C (suc k)) P m
    → comp d l (bwd d C k) ≡ comp d m (fwd d C (suc k)) → GoodArrow (suc d) C (merged d C k P l m) (merging d C k l m)

-- in lists: a cospan stands in the place of the height, or of the two heights, and the arrow sends these to it
abbrev pub SliceReplacedHasLists : ℕ → Type 0
SliceReplacedHasLists d = (C : Dia (suc d)) (p : ℕ) (S : Dia d) (m : Arr d) → GoodDiagram (suc d) C → p < length C.sings
    → GoodArrow d (sing d C p) S m
    → HasListsReplaced d C p (suc p) (cospan d (reg d C p) (comp d m (fwd d C p)) S (comp d m (bwd d C p)) (reg d C (suc p))) (slice_replaced d C p S m)
    × HasListsReplacing d C p (suc p) 1 (to_one_height d (segment d C p (suc p)) (m ∷ [])) (slice_replaced d C p S m) (slice_replacing d C p m)

abbrev pub MergedHasLists : ℕ → Type 0
MergedHasLists d = (C : Dia (suc d)) (k : ℕ) (P : Dia d) (l m : Arr d) → GoodDiagram (suc d) C → suc k < length C.sings
    → GoodArrow d (sing d C k) P l → GoodArrow d (sing d C (suc k)) P m → comp d l (bwd d C k) ≡ comp d m (fwd d C (suc k))
    → HasListsReplaced d C k (suc (suc k))
    (cospan d (reg d C k) (comp d l (fwd d C k)) P (comp d m (bwd d C (suc k))) (reg d C (suc (suc k)))) (merged d C k P l m)
    × HasListsReplacing d C k (suc (suc k)) 1 (to_one_height d (segment d C k (suc (suc k))) (l ∷ m ∷ [])) (merged d C k P l m) (merging d C k l m)

-- where heights merge along a path, the arrow to what comes out is valid and plain
abbrev pub MergingAlongIsGood : ℕ → Type 0
MergingAlongIsGood d = (C : Dia d) (path : List ℕ) (k : ℕ) (X : Dia d) (f : Arr d) → GoodDiagram d C
    → MergesAlong d C path k X f → GoodArrow d C X f

-- a valid plain arrow D → E gives the valid plain diagrams D → E ← E and E → E ← D
abbrev pub StoredArrowsAreGood : ℕ → Type 0
StoredArrowsAreGood d = (D E : Dia d) (f : Arr d) → GoodArrow d D E f
    → GoodDiagram (suc d) (cospan d D f E (ident d E) E) × GoodDiagram (suc d) (cospan d E (ident d E) E f D)

-- ---- expansion

-- the expanded diagram is valid and plain, and so is the arrow from it
abbrev pub ExpandingIsGood : ℕ → Type 0
ExpandingIsGood d = (D : Dia (suc (suc d))) (k i : ℕ) → GoodDiagram (suc (suc d)) D → k < length D.sings
    → i < length (sing (suc d) D k).sings → GoodArrow (suc (suc d)) (expanded d D k i) D (expanding d D k i)

-- in lists: the two heights stand in the place of the height k, and the arrow sends both to it
abbrev pub ExpandedHasLists : ℕ → Type 0
ExpandedHasLists d = (D : Dia (suc (suc d))) (k i : ℕ) → GoodDiagram (suc (suc d)) D → k < length D.sings
    → i < length (sing (suc d) D k).sings
    → HasListsReplaced (suc d) D k (suc k) (height_parted d D k i) (expanded d D k i)
    × HasListsReplacing (suc d) D k (suc k) 1 (height_parting d D k i) D (expanding d D k i)

-- the arrow around a block of a leg f : r → s, in lists: f before the block and behind it, and the identity of Q between
abbrev pub AroundBlocksHaveLists : ℕ → Type 0
AroundBlocksHaveLists d = (r s : Dia (suc d)) (f : Arr (suc d)) (i : ℕ) (Q : Dia (suc d)) → GoodArrow (suc d) r s f → i < length s.sings
    → GoodDiagram (suc d) Q → Parallel (suc d) Q (block d r f i)
    → GoodArrow (suc d) (block_replaced d r f i Q) (replaced d s i (suc i) Q) (around_block d s f i Q)
    × HasListsAround d s f i Q (around_block d s f i Q)

-- what an expansion answers is a valid plain arrow to the diagram, from one with the same boundary, and the diagram that is
-- stored for it is valid and plain
abbrev pub ExpansionsAreGood : ℕ → Type 0
ExpansionsAreGood d = (D : Dia d) (k i : ℕ) (c : Expansion d) → GoodDiagram d D → expand d D k i ≡ Ok c → GoodArrow d c.result D c.arrow

abbrev pub ExpansionsHaveOneBoundary : ℕ → Type 0
ExpansionsHaveOneBoundary d = (D : Dia d) (k i : ℕ) (c : Expansion d) → GoodDiagram d D → expand d D k i ≡ Ok c → Parallel d c.result D

abbrev pub StoredExpansionsAreGood : ℕ → Type 0
StoredExpansionsAreGood d = (D : Dia d) (k i : ℕ) (c : Expansion d) → GoodDiagram d D → expand d D k i ≡ Ok c
    → GoodDiagram (suc d) (stored_expansion d D c)

-- there is one exactly where both heights are there and the inner one is not the only one
abbrev pub ExpansionsAreAnswered : ℕ → Type 0
ExpansionsAreAnswered d = (D : Dia (suc (suc d))) (k i : ℕ)
    → (expand (suc (suc d)) D k i ≡ Ok (record { result = expanded d D k i; arrow = expanding d D k i }))
    ↔ ((k < length D.sings) × (i < length (sing (suc d) D k).sings) × (1 < length (sing (suc d) D k).sings))
