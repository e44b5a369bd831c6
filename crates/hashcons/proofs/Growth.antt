-- For callers: what a store that grew still holds, and loops that gather ids while it grows.
use Rattle.std.proofs.Common.{◌≡◌, ℕ, ◌<◌, ◌+◌, List, [], ◌∷◌, ◌++◌, length, get_or, refl, sym, ap, subst, ◌∙◌, arith, inl, inr, ◌⊎◌, Result, Ok}
use Rattle.std.proofs.lemmas.List.{length_push, get_or_append_left, get_or_push}
use Rattle.std.proofs.lemmas.List.FromFn.{fill_by_all}
use Rattle.diagram_terms.specs.Tree.{Tree, nil}
use Rattle.diagram_terms.specs.Dual.{AreBelow, tab}
use Rattle.diagram_terms.specs.Nodes.{picked}
use Rattle.hashcons.specs.declared.id.AnyId.{AnyId}
use Rattle.hashcons.specs.Contents.{Contents, Grows, IsStore, IsIdentityOf, IsCompositeOf, IsDiagramOf, IsArrowOf, diagram_at, arrow_at}
use Rattle.hashcons.specs.Gathers.{Gathers}
use Rattle.diagram_terms.specs.Operations.{identity_tree, composite_tree}
use Rattle.hashcons.specs.Made.{Makes, MakesArrow, MakesArrows}
use Rattle.hashcons.specs.Nodes.{AreArrowChildren}
use Rattle.smallvec.specs.SmallVec.{SmallVec}
use Rattle.hashcons.proofs.TableTrees.{length-picked, get_or-picked}
use Rattle.hashcons.proofs.OneMoreTree.{Grows-refl, KeepsNotes-trans}
use Rattle.hashcons.proofs.PlacedIds.{id-kept}

pub Grows-trans : (a b c : Contents) → Grows a b → Grows b c → Grows a c
Grows-trans a b c g h = record {
  store = λ s. h.store (g.store s);
  diagrams = λ d l. h.diagrams d (g.diagrams d l);
  arrows = λ x l. h.arrows x (g.arrows x l);
  diagram_trees = λ d l. h.diagram_trees d (g.diagrams d l) ∙ g.diagram_trees d l;
  arrow_trees = λ x l. h.arrow_trees x (g.arrows x l) ∙ g.arrow_trees x l;
  notes = KeepsNotes-trans a.notes b.notes c.notes g.notes h.notes;
}

-- an id of a store is one of the store that grew, with the same tree
pub diagram-kept : (old new : Contents) (d : ℕ) → Grows old new → IsDiagramOf old d → IsDiagramOf new d
diagram-kept old new d g l = g.diagrams d l

pub arrow-kept : (old new : Contents) (a : ℕ) → Grows old new → IsArrowOf old a → IsArrowOf new a
arrow-kept old new a g l = g.arrows a l

pub diagram_at-kept : (old new : Contents) (d : ℕ) → Grows old new → IsDiagramOf old d → diagram_at new d ≡ diagram_at old d
diagram_at-kept old new d g l = g.diagram_trees d l

pub arrow_at-kept : (old new : Contents) (a : ℕ) → Grows old new → IsArrowOf old a → arrow_at new a ≡ arrow_at old a
arrow_at-kept old new a g l = g.arrow_trees a l

pub store-kept : (old new : Contents) → Grows old new → IsStore old → IsStore new
store-kept old new g s = g.store s

pub ruleset growth = (Grows-refl, Grows-trans, store-kept, diagram-kept, arrow-kept, diagram_at-kept, arrow_at-kept)

-- ---- what a call answered with

module _ {X E : Type 0} (name : X → AnyId) where
  -- as the answer of a call that answers with ids of either kind
  pub Makes-named : (old new : Contents) (t u : Tree) (x : X) → t ≡ u → Makes {E = E} name old new t (Ok x) → Makes {E = E} (λ y. y) old new u (Ok (name x))
  Makes-named old new t u x e m = record { grows = m.grows; of_store = m.of_store; tree = m.tree ∙ e }

  -- seen from an earlier store
  pub Makes-after : (old mid new : Contents) (t : Tree) (r : Result X E) → Grows old mid → Makes name mid new t r → Makes name old new t r
  Makes-after old mid new t r g m = record { grows = Grows-trans old mid new g m.grows; of_store = m.of_store; tree = m.tree }

  -- seen from a later store
  pub Makes-before : (old mid new : Contents) (t : Tree) (x : X) → Makes {E = E} name old mid t (Ok x) → Grows mid new → Makes {E = E} name old new t (Ok x)
  Makes-before old mid new t x m g =
      let k = id-kept mid new g (name x) m.of_store in
      record { grows = Grows-trans old mid new m.grows g; of_store = k.0; tree = k.1 ∙ m.tree }

  -- and its tree told another way: the answer of a last call
  pub Makes-last : (old mid new : Contents) (t u : Tree) (r : Result X E) → Grows old mid → t ≡ u → Makes name mid new t r → Makes name old new u r
  Makes-last old mid new t u r g e m = subst (λ v. Makes name old new v r) e (Makes-after old mid new t r g m)

-- what was made is the identity, or the composite: so it may be noted
pub identity-made : {E : Type 0} (old new : Contents) (d a : ℕ) → IsDiagramOf old d
    → MakesArrow {E = E} old new (identity_tree (diagram_at old d)) (Ok a) → IsIdentityOf new d a
identity-made old new d a l m = record {
  diagram = m.grows.diagrams d l;
  identity = m.of_store;
  tree = m.tree ∙ ap identity_tree (sym (m.grows.diagram_trees d l));
}

pub composite-made : {E : Type 0} (old new : Contents) (g f h : ℕ) → IsArrowOf old g → IsArrowOf old f
    → MakesArrow {E = E} old new (composite_tree (arrow_at old g) (arrow_at old f)) (Ok h) → IsCompositeOf new g f h
composite-made old new g f h k l m = record {
  outer = m.grows.arrows g k;
  inner = m.grows.arrows f l;
  composite = m.of_store;
  tree = m.tree ∙ (λ i. composite_tree (sym (m.grows.arrow_trees g k) i) (sym (m.grows.arrow_trees f l) i));
}

-- ---- gathered ids

pub gathers-none : (ts : List Tree) (f : ℕ → Tree) → Gathers ts [] 0 f
gathers-none ts f = record {
  len = refl;
  of_store = λ j l. absurd (omega arith);
  are = λ j l. absurd (omega arith);
}

-- the trees that a longer list keeps
gathers-extends : (ts us : List Tree) (ids : List ℕ) (n : ℕ) (f : ℕ → Tree) → ((i : ℕ) → i < length ts → i < length us)
    → ((i : ℕ) → i < length ts → get_or us i nil ≡ get_or ts i nil) → Gathers ts ids n f → Gathers us ids n f
gathers-extends ts us ids n f held kept g = record {
  len = g.len;
  of_store = λ j l. held (get_or ids j 0) (g.of_store j l);
  are = λ j l. kept (get_or ids j 0) (g.of_store j l) ∙ g.are j l;
}

pub gathers-diagrams_grow : (old new : Contents) (ids : List ℕ) (n : ℕ) (f : ℕ → Tree) → Grows old new
    → Gathers old.diagrams ids n f → Gathers new.diagrams ids n f
gathers-diagrams_grow old new ids n f g h = gathers-extends old.diagrams new.diagrams ids n f g.diagrams g.diagram_trees h

pub gathers-arrows_grow : (old new : Contents) (ids : List ℕ) (n : ℕ) (f : ℕ → Tree) → Grows old new
    → Gathers old.arrows ids n f → Gathers new.arrows ids n f
gathers-arrows_grow old new ids n f g h = gathers-extends old.arrows new.arrows ids n f g.arrows g.arrow_trees h

-- a fact of each id by its place, and of one more
push_at : (P : ℕ → ℕ → Type 0) (ids : List ℕ) (n x : ℕ) → length ids ≡ n → ((j : ℕ) → j < n → P j (get_or ids j 0)) → P n x
    → (j : ℕ) → j < n + 1 → P j (get_or (ids ++ x ∷ []) j 0)
push_at P ids n x len h p j l = by (cut j l)
  where
    cut : (j : ℕ) → j < n + 1 → (j < n) ⊎ (n ≡ j)
    cut j l = grind arith

    by : (j < n) ⊎ (n ≡ j) → P j (get_or (ids ++ x ∷ []) j 0)
    by (inl q) = subst (P j) (sym (get_or_append_left ids (x ∷ []) 0 j (omega arith))) (h j q)
    by (inr q) = subst (λ k. P k (get_or (ids ++ x ∷ []) k 0)) q (subst (P n) (sym (get_or_push ids x 0 n len)) p)

-- one id more
pub gathers-push : (ts : List Tree) (ids : List ℕ) (n x : ℕ) (f : ℕ → Tree) → Gathers ts ids n f → x < length ts
    → get_or ts x nil ≡ f n → Gathers ts (ids ++ x ∷ []) (n + 1) f
gathers-push ts ids n x f g l e = record {
  len = let k = length_push ids x in let m = g.len in omega arith;
  of_store = push_at (λ j i. i < length ts) ids n x g.len g.of_store l;
  are = push_at (λ j i. get_or ts i nil ≡ f j) ids n x g.len g.are e;
}

-- so a store that grew by the tree of one id more
pub gathers-diagram_more : (old new : Contents) (ids : List ℕ) (n d : ℕ) (f : ℕ → Tree) → Gathers old.diagrams ids n f
    → Grows old new
    → IsDiagramOf new d → diagram_at new d ≡ f n → Gathers new.diagrams (ids ++ d ∷ []) (n + 1) f
gathers-diagram_more old new ids n d f h g l e = gathers-push new.diagrams ids n d f
    (gathers-diagrams_grow old new ids n f g h) l e

pub gathers-arrow_more : (old new : Contents) (ids : List ℕ) (n a : ℕ) (f : ℕ → Tree) → Gathers old.arrows ids n f
    → Grows old new
    → IsArrowOf new a → arrow_at new a ≡ f n → Gathers new.arrows (ids ++ a ∷ []) (n + 1) f
gathers-arrow_more old new ids n a f h g l e = gathers-push new.arrows ids n a f (gathers-arrows_grow old new ids n f g h) l e

-- so a call that made one more
pub makes-more : {E : Type 0} (old new : Contents) (ids : List ℕ) (n a : ℕ) (f : ℕ → Tree) (t : Tree) → Gathers old.arrows ids n f
    → MakesArrow {E = E} old new t (Ok a) → t ≡ f n → Gathers new.arrows (ids ++ a ∷ []) (n + 1) f
makes-more old new ids n a f t h m e = gathers-arrow_more old new ids n a f h m.grows m.of_store (m.tree ∙ e)

-- the gathered ids are of the store, and their trees in order are those of f
pub gathers-below : (ts : List Tree) (ids : List ℕ) (n : ℕ) (f : ℕ → Tree) → Gathers ts ids n f → AreBelow ids (length ts)
gathers-below ts ids n f g = record { below = λ i l. g.of_store i (let m = g.len in omega arith) }

-- so they are the slices of an arrow that is put next
pub made-children : {E : Type 0} (old mid new : Contents) (m n : ℕ) (f g : ℕ → Tree) (rs ss : SmallVec ℕ) → MakesArrows {E = E} old mid m f (Ok rs)
    → MakesArrows {E = E} mid new n g (Ok ss) → AreArrowChildren (length new.arrows) rs.items ss.items
made-children old mid new m n f g rs ss r s = record {
  regs = gathers-below new.arrows rs.items m f (gathers-arrows_grow mid new rs.items m f s.grows r.gathers);
  sings = gathers-below new.arrows ss.items n g s.gathers;
}

pub gathers-picked : (ts : List Tree) (ids : List ℕ) (n : ℕ) (f : ℕ → Tree) → Gathers ts ids n f → picked ts ids ≡ tab f n
gathers-picked ts ids n f g =
    fill_by_all f (picked ts ids) n nil (length-picked ts ids ∙ g.len)
    (λ j l. get_or-picked ts ids j 0 (let m = g.len in omega arith) ∙ g.are j l)
