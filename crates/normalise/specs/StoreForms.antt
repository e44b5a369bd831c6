-- What is found of normal forms in a store, by its trees.
use Rattle.std.specs.Prelude.{◌≡◌, ℕ, ◌<◌, List, [], ◌∷◌, ◌++◌, length, get_or, map, Bool, not, ◌&&◌, ◌||◌, cond, nat_lt, Result, IfOk}
use Rattle.std.specs.List.{Contains}
use Rattle.diagram_terms.specs.Dual.{AreBelow}
use Rattle.diagram_terms.specs.Nodes.{picked}
use Rattle.diagram_terms.specs.Tree.{Tree}
use Rattle.diagram_terms.specs.ValidTrees.{IsValidTree, IsArrowBetween}
use Rattle.hashcons.specs.Contents.{Contents, Grows, Key, IsArrowOf, IsLegOf, IsValidDiagram, diagram_at, arrow_at, leg_of}
use Rattle.hashcons.specs.Gathers.{Gathers}
use Rattle.hashcons.specs.NormalTrees.{TreeLeg}
use Rattle.zigzag_maps.specs.declared.map.Map.{Map}
use Rattle.degeneracy.specs.DegeneracyTrees.{IsFactorArrow}
use Rattle.normalise.specs.declared.parts.Forms.{Forms}
use Rattle.normalise.specs.declared.left.Left.{Left}
use Rattle.normalise.specs.declared.level.Level.{Level}
use Rattle.normalise.specs.LegSlices.{slice_trees_over}
use Rattle.normalise.specs.FormTrees.{reg_normal, sing_normal, fwd_tree, bwd_tree, kept_below, identity_test}

-- ---- legs

-- the trees of legs
abbrev pub legs_of : Contents → List (ℕ × ℕ) → List TreeLeg
legs_of c xs = map (leg_of c) xs

-- a leg out of a valid diagram, with a valid arrow into a diagram with the tree t
pub record IsLegInto (c : Contents) (t : Tree) (x : ℕ × ℕ) : Type 0 where
  pub source : IsValidDiagram c x.0
  pub arrow : IsArrowOf c x.1
  pub between : IsArrowBetween (diagram_at c x.0) t (arrow_at c x.1)

abbrev pub AreLegsInto : Contents → Tree → List (ℕ × ℕ) → Type 0
AreLegsInto c t xs = (x : ℕ × ℕ) → Contains xs x → IsLegInto c t x

-- an arrow out of a valid diagram into some valid diagram
pub record IsArrowOut (c : Contents) (s a : ℕ) : Type 0 where
  pub source : IsValidDiagram c s
  pub arrow : IsArrowOf c a
  pub target : Tree
  pub target_valid : IsValidTree target
  pub between : IsArrowBetween (diagram_at c s) target (arrow_at c a)

-- and these are their trees
pub record AreLegsWith (c : Contents) (t : Tree) (gs : List TreeLeg) (xs : List (ℕ × ℕ)) : Type 0 where
  pub into : AreLegsInto c t xs
  pub trees : legs_of c xs ≡ gs

-- the target of a key is valid, and so are its legs, into it
pub record IsKeyOf (c : Contents) (k : Key) : Type 0 where
  pub target : IsValidDiagram c k.target
  pub legs : AreLegsInto c (diagram_at c k.target) k.legs

-- and these are their trees
pub record IsKeyWith (c : Contents) (t : Tree) (gs : List TreeLeg) (k : Key) : Type 0 where
  pub target : IsValidDiagram c k.target
  pub tree : diagram_at c k.target ≡ t
  pub legs : AreLegsWith c t gs k.legs

-- the leg at i of a key, as a map
abbrev pub leg_map_at : Key → ℕ → Map
leg_map_at k i = record { source = (get_or k.legs i (0, 0)).0; target = k.target; arrow = (get_or k.legs i (0, 0)).1 }

-- ---- forms

-- a leg of the store with these trees
pub record IsLegWith (c : Contents) (g : TreeLeg) (x : ℕ × ℕ) : Type 0 where
  pub of_store : IsLegOf c x
  pub trees : leg_of c x ≡ g

-- the store grows, and an answer is such a leg
pub record MakesLeg {E : Type 0} (old new : Contents) (g : TreeLeg) (r : Result (ℕ × ℕ) E) : Type 0 where
  pub grows : Grows old new
  pub leg : IfOk r (IsLegWith new g)

-- an arrow of the store with this tree
pub record IsArrowWith (c : Contents) (f : Tree) (a : ℕ) : Type 0 where
  pub of_store : IsArrowOf c a
  pub tree : arrow_at c a ≡ f

-- the normal forms of the regular slices of t for the slices of the legs gs, those below n
pub record AreForms (c : Contents) (t : Tree) (gs : List TreeLeg) (n : ℕ) (forms : Forms) : Type 0 where
  pub sources : Gathers c.diagrams forms.sources.items n (λ j. (reg_normal t gs j).source)
  pub arrows : Gathers c.arrows forms.arrows.items n (λ j. (reg_normal t gs j).arrow)

-- the form g of a singular slice, with the legs f and b into its source, which is kept where one of these is no identity or
-- the slice is hit
pub record IsLevelWith (c : Contents) (g : TreeLeg) (f b : Tree) (hit : Bool) (x : Level) : Type 0 where
  pub form : IsLegWith c g (x.source, x.arrow)
  pub fwd : IsArrowWith c f x.fwd
  pub bwd : IsArrowWith c b x.bwd
  pub kept : x.kept ≡ (not (identity_test f && identity_test b) || hit)

-- that of the singular slice k of t for what leads into it
abbrev pub IsLevelOf : Contents → Tree → List TreeLeg → ℕ → Level → Type 0
IsLevelOf c t gs k x = IsLevelWith c (sing_normal t gs k) (fwd_tree t gs k) (bwd_tree t gs k) (nat_lt 0 (length (slice_trees_over gs k))) x

-- a is an arrow of the store by which the map f factors through e
pub record IsFactorOf (c : Contents) (f e : Map) (a : ℕ) : Type 0 where
  pub of_store : IsArrowOf c a
  pub factor : IsFactorArrow c f e (arrow_at c a)

-- the arrows by which the first n legs of a key factor through a form, in their order
pub record AreFactorsOf (c : Contents) (k : Key) (x : ℕ × ℕ) (n : ℕ) (fs : List ℕ) : Type 0 where
  pub count : length fs ≡ n
  pub factors : (i : ℕ) → i < n → IsFactorOf c (leg_map_at k i) (record { source = x.0; target = k.target; arrow = x.1 }) (get_or fs i 0)

-- ---- what is left

-- ids among these trees, and the trees that they pick
pub record Picks (trees : List Tree) (ids : List ℕ) (ts : List Tree) : Type 0 where
  pub below : AreBelow ids (length trees)
  pub are : picked trees ids ≡ ts

-- what is left of the heights of t below n
pub record IsLeftOf (c : Contents) (t : Tree) (gs : List TreeLeg) (n : ℕ) (left : Left) : Type 0 where
  pub heights : left.heights.items ≡ kept_below t gs n
  pub regs : Picks c.diagrams left.regs.items (map (λ k. (reg_normal t gs k).source) (kept_below t gs n))
  pub sings : Picks c.diagrams left.sings.items (map (λ k. (sing_normal t gs k).source) (kept_below t gs n))
  pub fwds : Picks c.arrows left.fwds.items (map (fwd_tree t gs) (kept_below t gs n))
  pub bwds : Picks c.arrows left.bwds.items (map (bwd_tree t gs) (kept_below t gs n))
  pub arrows : Picks c.arrows left.arrows.items (map (λ k. (sing_normal t gs k).arrow) (kept_below t gs n))

-- x after xs, where the test is passed
abbrev pub added : {X : Type 0} → Bool → List X → X → List X
added b xs x = cond b (xs ++ x ∷ []) xs

-- nothing is left
pub record IsEmptyLeft (left : Left) : Type 0 where
  pub heights : left.heights.items ≡ []
  pub regs : left.regs.items ≡ []
  pub sings : left.sings.items ≡ []
  pub fwds : left.fwds.items ≡ []
  pub bwds : left.bwds.items ≡ []
  pub arrows : left.arrows.items ≡ []

-- and the height k too, with the regular slice r before it, where it is kept
pub record IsMoreLeft (old : Left) (k r : ℕ) (x : Level) (new : Left) : Type 0 where
  pub heights : new.heights.items ≡ added x.kept old.heights.items k
  pub regs : new.regs.items ≡ added x.kept old.regs.items r
  pub sings : new.sings.items ≡ added x.kept old.sings.items x.source
  pub fwds : new.fwds.items ≡ added x.kept old.fwds.items x.fwd
  pub bwds : new.bwds.items ≡ added x.kept old.bwds.items x.bwd
  pub arrows : new.arrows.items ≡ added x.kept old.arrows.items x.arrow

-- ---- answers

pub record MakesForms {E : Type 0} (old new : Contents) (t : Tree) (gs : List TreeLeg) (n : ℕ) (r : Result Forms E) : Type 0 where
  pub grows : Grows old new
  pub forms : IfOk r (AreForms new t gs n)

pub record MakesLeft {E : Type 0} (old new : Contents) (t : Tree) (gs : List TreeLeg) (n : ℕ) (r : Result Left E) : Type 0 where
  pub grows : Grows old new
  pub left : IfOk r (IsLeftOf new t gs n)

pub record MakesLevel {E : Type 0} (old new : Contents) (t : Tree) (gs : List TreeLeg) (k : ℕ) (r : Result Level E) : Type 0 where
  pub grows : Grows old new
  pub level : IfOk r (IsLevelOf new t gs k)
