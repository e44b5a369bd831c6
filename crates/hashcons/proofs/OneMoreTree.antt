-- What one more tree does to a store.
use Rattle.std.proofs.Common.{◌≡◌, ◌≢◌, ℕ, suc, ◌<◌, ◌≤◌, List, [], ◌∷◌, ◌++◌, length, map, get_or, refl, sym, subst, ◌∙◌, ap, arith, ◌⊎◌, inl, inr}
use Rattle.std.proofs.lemmas.List.{length_push}
use Rattle.diagram_terms.specs.Tree.{Tree, nil}
use Rattle.diagram_terms.specs.Completion.{IsAmongFirst}
use Rattle.diagram_terms.specs.Dimension.{dimension_of, IsDiagramTree, IsArrowTree}
use Rattle.diagram_terms.specs.Nodes.{picked}
use Rattle.diagram_terms.specs.Operations.{identity_tree, composite_tree}
use Rattle.diagram_terms.specs.ValidTrees.{IsValidTree, IsArrowBetween}
use Rattle.hashcons.specs.Contents.{Contents, Notes, Key, Normal, KeepsNotes, IsDiagramOf, IsArrowOf, diagram_at, arrow_at, IsIdentityOf, IsCompositeOf, IsValidDiagram, IsValidTriple, IsLegOf, leg_of, IsNormalOf, AreNotes, Grows, IsStore, HasSlicesAmong, HasLegsAmong, HasArrowsAmong, with_arrow, with_diagram}
use Rattle.hashcons.specs.NormalTrees.{TreeLeg, IsNormalTree}
use Rattle.hashcons.proofs.TableTrees.{at-push, at-last, push_cases, IsOnce-push, picked-agree}

-- a fact of each tree of a list by its place, and of one more
more : (P : ℕ → Tree → Type 0) (ts : List Tree) (t : Tree) → ((i : ℕ) → i < length ts → P i (get_or ts i nil))
    → P (length ts) t
    → (i : ℕ) → i < length (ts ++ t ∷ []) → P i (get_or (ts ++ t ∷ []) i nil)
more P ts t h p i l = by (push_cases ts t i l)
  where
    by : (i < length ts) ⊎ (i ≡ length ts) → P i (get_or (ts ++ t ∷ []) i nil)
    by (inl q) = subst (P i) (sym (at-push ts t i q)) (h i q)
    by (inr q) = subst (λ k. P k (get_or (ts ++ t ∷ []) k nil)) (sym q) (subst (P (length ts)) (sym (at-last ts t)) p)

-- ---- a longer list

-- a tree among the first of a list is among the first of the list with one more
IsAmongFirst-push : (m n : ℕ) (ts : List Tree) (u t : Tree) → m ≤ n → m ≤ length ts → IsAmongFirst m ts t
    → IsAmongFirst n (ts ++ u ∷ []) t
IsAmongFirst-push m n ts u t l k h = record {
  place = h.place;
  before = omega (arith, h.before);
  is = at-push ts u h.place (omega (arith, h.before)) ∙ h.is;
}

slices-push : (n : ℕ) (ts : List Tree) (u t : Tree) → n ≤ length ts → HasSlicesAmong n ts t
    → HasSlicesAmong n (ts ++ u ∷ []) t
slices-push n ts u t k h = record {
  regs = λ j l. IsAmongFirst-push n n ts u _ (omega arith) k (h.regs j l);
  sings = λ i l. IsAmongFirst-push n n ts u _ (omega arith) k (h.sings i l);
}

arrows-push : (n : ℕ) (ts : List Tree) (u t : Tree) → n ≤ length ts → HasArrowsAmong n ts t
    → HasArrowsAmong n (ts ++ u ∷ []) t
arrows-push n ts u t k h = record {
  regs = λ above j l. IsAmongFirst-push n n ts u _ (omega arith) k (h.regs above j l);
  sings = λ above i l. IsAmongFirst-push n n ts u _ (omega arith) k (h.sings above i l);
}

legs-push : (ts : List Tree) (u t : Tree) → HasLegsAmong (length ts) ts t
    → HasLegsAmong (length (ts ++ u ∷ [])) (ts ++ u ∷ []) t
legs-push ts u t h =
    let n = length_push ts u in
    record {
      fwds = λ j l. IsAmongFirst-push (length ts) (length (ts ++ u ∷ [])) ts u _ (omega arith) (omega arith) (h.fwds j l);
      bwds = λ i l. IsAmongFirst-push (length ts) (length (ts ++ u ∷ [])) ts u _ (omega arith) (omega arith) (h.bwds i l);
    }

-- ---- a longer store

-- each id keeps its tree
pub record KeepsTrees (old new : Contents) : Type 0 where
  pub diagrams : (d : ℕ) → IsDiagramOf old d → IsDiagramOf new d
  pub arrows : (a : ℕ) → IsArrowOf old a → IsArrowOf new a
  pub diagram_trees : (d : ℕ) → IsDiagramOf old d → diagram_at new d ≡ diagram_at old d
  pub arrow_trees : (a : ℕ) → IsArrowOf old a → arrow_at new a ≡ arrow_at old a

-- so a fact of ids stays
pub identity-stays : (old new : Contents) → KeepsTrees old new → (d a : ℕ) → IsIdentityOf old d a → IsIdentityOf new d a
identity-stays old new g d a h = record {
  diagram = g.diagrams d h.diagram;
  identity = g.arrows a h.identity;
  tree = g.arrow_trees a h.identity ∙ h.tree ∙ ap identity_tree (sym (g.diagram_trees d h.diagram));
}

pub composite-stays : (old new : Contents) → KeepsTrees old new → (g f h : ℕ) → IsCompositeOf old g f h → IsCompositeOf new g f h
composite-stays old new k g f h is = record {
  outer = k.arrows g is.outer;
  inner = k.arrows f is.inner;
  composite = k.arrows h is.composite;
  tree = k.arrow_trees h is.composite ∙ is.tree
      ∙ (λ i. composite_tree (sym (k.arrow_trees g is.outer) i) (sym (k.arrow_trees f is.inner) i));
}

pub valid-stays : (old new : Contents) → KeepsTrees old new → (d : ℕ) → IsValidDiagram old d → IsValidDiagram new d
valid-stays old new k d h = record {
  of_store = k.diagrams d h.of_store;
  valid = subst IsValidTree (sym (k.diagram_trees d h.of_store)) h.valid;
}

pub triple-stays : (old new : Contents) → KeepsTrees old new → (s t a : ℕ) → IsValidTriple old s t a → IsValidTriple new s t a
triple-stays old new k s t a h =
    let p = sym (k.diagram_trees s h.source.of_store) in
    let q = sym (k.diagram_trees t h.target.of_store) in
    let r = sym (k.arrow_trees a h.arrow) in
    let same : (diagram_at old s, diagram_at old t, arrow_at old a) ≡ (diagram_at new s, diagram_at new t, arrow_at new a) = λ i. (p i, q i, r i) in
    record {
      source = valid-stays old new k s h.source;
      target = valid-stays old new k t h.target;
      arrow = k.arrows a h.arrow;
      between = subst (λ (x : Tree × Tree × Tree). IsArrowBetween x.0 x.1 x.2) same h.between;
    }

legs-stay : (old new : Contents) → KeepsTrees old new → (legs : List (ℕ × ℕ)) → ((i : ℕ) → i < length legs → IsLegOf old (get_or legs i (0, 0)))
    → map (leg_of old) legs ≡ map (leg_of new) legs
legs-stay old new k [] h = refl
legs-stay old new k (g ∷ gs) h =
    let first = h 0 (omega arith) in
    let p = sym (k.diagram_trees g.0 first.source) in
    let q = sym (k.arrow_trees g.1 first.arrow) in
    let rest = legs-stay old new k gs (λ i l. h (suc i) (omega arith)) in
    λ i. record { source = p i; arrow = q i } ∷ rest i

pub normal-stays : (old new : Contents) → KeepsTrees old new → (key : Key) (m : Normal) → IsNormalOf old key m → IsNormalOf new key m
normal-stays old new k key m h =
    let t = sym (k.diagram_trees key.target h.target) in
    let s = sym (k.diagram_trees m.source h.source) in
    let a = sym (k.arrow_trees m.arrow h.arrow) in
    let ls = legs-stay old new k key.legs h.legs in
    let fs : picked old.arrows m.factors ≡ picked new.arrows m.factors =
    picked-agree (length old.arrows) old.arrows new.arrows m.factors h.factors (λ j l. sym (k.arrow_trees j l)) in
    let same : ((diagram_at old key.target, map (leg_of old) key.legs), (diagram_at old m.source, arrow_at old m.arrow, picked old.arrows m.factors))
    ≡ ((diagram_at new key.target, map (leg_of new) key.legs), (diagram_at new m.source, arrow_at new m.arrow, picked new.arrows m.factors)) =
    λ i. ((t i, ls i), (s i, a i, fs i)) in
    record {
      target = k.diagrams key.target h.target;
      legs = λ i l. record { source = k.diagrams _ (h.legs i l).source; arrow = k.arrows _ (h.legs i l).arrow };
      source = k.diagrams m.source h.source;
      arrow = k.arrows m.arrow h.arrow;
      factors = record { below = λ i l. k.arrows _ (h.factors.below i l) };
      normal = subst (λ (x : (Tree × List TreeLeg) × (Tree × Tree × List Tree)). IsNormalTree x.0.0 x.0.1 x.1.0 x.1.1 x.1.2) same h.normal;
    }

pub notes-stay : (old new : Contents) → KeepsTrees old new → (ns : Notes) → AreNotes old ns → AreNotes new ns
notes-stay old new k ns h = record {
  identities = λ d a e. identity-stays old new k d a (h.identities d a e);
  composites = λ p a e. composite-stays old new k p.0 p.1 a (h.composites p a e);
  valid = λ d e. valid-stays old new k d (h.valid d e);
  valid_maps = λ p e. triple-stays old new k p.0 p.1 p.2 (h.valid_maps p e);
  normals = λ key m e. normal-stays old new k key m (h.normals key m e);
}

keeps-push_arrow : (c : Contents) (t : Tree) → KeepsTrees c (with_arrow c t)
keeps-push_arrow c t = record {
  diagrams = λ d h. h;
  arrows = λ a h. let n = length_push c.arrows t in omega arith;
  diagram_trees = λ d h. refl;
  arrow_trees = λ a h. at-push c.arrows t a h;
}

keeps-push_diagram : (c : Contents) (t : Tree) → KeepsTrees c (with_diagram c t)
keeps-push_diagram c t = record {
  diagrams = λ d h. let n = length_push c.diagrams t in omega arith;
  arrows = λ a h. h;
  diagram_trees = λ d h. at-push c.diagrams t d h;
  arrow_trees = λ a h. refl;
}

pub IsStore-push_arrow : (c : Contents) (t : Tree) → IsStore c → IsArrowTree t → HasArrowsAmong (length c.arrows) c.arrows t
    → dimension_of t ≤ length c.arrows
    → ((i : ℕ) → i < length c.arrows → get_or c.arrows i nil ≢ t) → IsStore (with_arrow c t)
IsStore-push_arrow c t store shape among low new = record {
  diagrams_once = store.diagrams_once;
  arrows_once = IsOnce-push c.arrows t store.arrows_once new;
  diagrams = store.diagrams;
  arrows = more (λ i t. IsArrowTree t) c.arrows t store.arrows shape;
  slices = store.slices;
  legs = λ d l. legs-push c.arrows t (diagram_at c d) (store.legs d l);
  arrow_slices = more (λ i u. HasArrowsAmong i (c.arrows ++ t ∷ []) u) c.arrows t
      (λ i l. arrows-push i c.arrows t (arrow_at c i) (omega arith) (store.arrow_slices i l))
      (arrows-push (length c.arrows) c.arrows t t (omega arith) among);
  diagram_dims = store.diagram_dims;
  arrow_dims = more (λ i t. dimension_of t ≤ i) c.arrows t store.arrow_dims low;
  notes = notes-stay c (with_arrow c t) (keeps-push_arrow c t) c.notes store.notes;
}

pub IsStore-push_diagram : (c : Contents) (t : Tree) → IsStore c → IsDiagramTree t
    → HasSlicesAmong (length c.diagrams) c.diagrams t → HasLegsAmong (length c.arrows) c.arrows t
    → dimension_of t ≤ length c.diagrams → ((i : ℕ) → i < length c.diagrams → get_or c.diagrams i nil ≢ t) → IsStore
    (with_diagram c t)
IsStore-push_diagram c t store shape among held low new = record {
  diagrams_once = IsOnce-push c.diagrams t store.diagrams_once new;
  arrows_once = store.arrows_once;
  diagrams = more (λ i t. IsDiagramTree t) c.diagrams t store.diagrams shape;
  arrows = store.arrows;
  slices = more (λ i u. HasSlicesAmong i (c.diagrams ++ t ∷ []) u) c.diagrams t
      (λ i l. slices-push i c.diagrams t (diagram_at c i) (omega arith) (store.slices i l))
      (slices-push (length c.diagrams) c.diagrams t t (omega arith) among);
  legs = more (λ i u. HasLegsAmong (length c.arrows) c.arrows u) c.diagrams t store.legs held;
  arrow_slices = store.arrow_slices;
  diagram_dims = more (λ i t. dimension_of t ≤ i) c.diagrams t store.diagram_dims low;
  arrow_dims = store.arrow_dims;
  notes = notes-stay c (with_diagram c t) (keeps-push_diagram c t) c.notes store.notes;
}

KeepsNotes-refl : (ns : Notes) → KeepsNotes ns ns
KeepsNotes-refl ns = record { identities = λ d a e. e; composites = λ k a e. e; valid = λ d e. e; valid_maps = λ k e. e; normals = λ k m e. e }

pub KeepsNotes-trans : (a b c : Notes) → KeepsNotes a b → KeepsNotes b c → KeepsNotes a c
KeepsNotes-trans a b c g h = record {
  identities = λ d x e. h.identities d x (g.identities d x e);
  composites = λ k x e. h.composites k x (g.composites k x e);
  valid = λ d e. h.valid d (g.valid d e);
  valid_maps = λ k e. h.valid_maps k (g.valid_maps k e);
  normals = λ k m e. h.normals k m (g.normals k m e);
}

pub grows-from : (old new : Contents) → (IsStore old → IsStore new) → KeepsTrees old new → old.notes ≡ new.notes → Grows old new
grows-from old new s k e = record {
  store = s;
  diagrams = k.diagrams;
  arrows = k.arrows;
  diagram_trees = k.diagram_trees;
  arrow_trees = k.arrow_trees;
  notes = subst (KeepsNotes old.notes) e (KeepsNotes-refl old.notes);
}

pub Grows-refl : (c : Contents) → Grows c c
Grows-refl c =
    grows-from c c (λ s. s) (record { diagrams = λ d h. h; arrows = λ a h. h; diagram_trees = λ d h. refl; arrow_trees = λ a h. refl }) refl

pub Grows-push_arrow : (c : Contents) (t : Tree) → IsStore (with_arrow c t) → Grows c (with_arrow c t)
Grows-push_arrow c t store = grows-from c (with_arrow c t) (λ _. store) (keeps-push_arrow c t) refl

pub Grows-push_diagram : (c : Contents) (t : Tree) → IsStore (with_diagram c t) → Grows c (with_diagram c t)
Grows-push_diagram c t store = grows-from c (with_diagram c t) (λ _. store) (keeps-push_diagram c t) refl
