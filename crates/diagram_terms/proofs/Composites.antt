-- The composite of two arrows as the program makes it, slice by slice.
use Rattle.std.proofs.Common.{◌≡◌, ℕ, zero, suc, ◌+◌, ◌<◌, ◌≤◌, List, [], ◌∷◌, ◌++◌, length, get_or, map, Vec, Global, refl, sym, ap, ap₂, ◌∙◌, subst, arith}
use Rattle.std.proofs.lemmas.List.{map_push}
use Rattle.std.proofs.lemmas.List.FromFn.{map-range_with_len_more}
use Rattle.diagram_terms.specs.declared.label.Label.{Label}
use Rattle.diagram_terms.specs.declared.tree.Arrow.{Arrow}
use Rattle.diagram_terms.specs.declared.tree.Arrow.TheVariants as arrow
use Rattle.diagram_terms.specs.Tree.{ends, zag}
use Rattle.diagram_terms.specs.Family.{Dia, Arr, height, arrow_reg, arrow_sing}
use Rattle.diagram_terms.specs.Dual.{tab, dual, after, IsMonotone, AreBelow}
use Rattle.diagram_terms.specs.Composite.{comp}
use Rattle.diagram_terms.specs.Valid.{ValidArrow}
use Rattle.diagram_terms.specs.Decoded.{arr_tree}
use Rattle.diagram_terms.specs.Values.{tree_of_arrow, trees_of_arrows}
use Rattle.diagram_terms.specs.Composable.{LengthsMeet, AreComposableRegs, AreComposableSings}
use Rattle.diagram_terms.proofs.Decisions.{dual_next}
use Rattle.diagram_terms.proofs.Duals.{dual-le-length}
use Rattle.diagram_terms.proofs.Parts.{comp-from, comp-to, comp-heights}
use Rattle.diagram_terms.proofs.ValuesAsTrees.{tree_of_arrow-Zero, tree_of_arrow-Zig}
use Rattle.diagram_terms.proofs.HeldArrows.{AreHeldParts, held_arrow, held_length, held_parts, held_ends, no_zig_at_zero, no_pair_above}

-- ---- valid arrows that meet can be composed

pub valid_composable : (d : ℕ) (X Y Z : Dia d) (g f : Arr d) → ValidArrow d Y Z g → ValidArrow d X Y f → LengthsMeet d g f
valid_composable zero X Y Z g f vg vf = tt
valid_composable (suc d) X Y Z g f vg vf =
    let gh = vg.heights_len in
    let gs = vg.sings_len in
    let gr = vg.regs_len in
    let fh = vf.heights_len in
    let fs = vf.sings_len in
    let fr = vf.regs_len in
    record {
      monotone = vg.monotone;
      below = record { below = λ i l. let b = vf.below.below i l in omega arith };
      first_sings_len = omega arith;
      second_sings_len = omega arith;
      middle_len = omega arith;
      regs = λ k l. let low : dual g.heights k ≤ length g.heights = dual-le-length g.heights k in
          valid_composable d _ _ _ (arrow_reg d g k) (arrow_reg d f (dual g.heights k)) (vg.regs k (omega arith)) (vf.regs (dual g.heights k) (omega arith));
      sings = λ i l. let b = vf.below.below i (omega arith) in
          valid_composable d _ _ _ (arrow_sing d g (height d f i)) (arrow_sing d f i) (vg.sings (height d f i) b) (vf.sings i (omega arith));
    }

-- ---- the slices that are made

abbrev pub made_reg : (d : ℕ) (g f : Arr (suc d)) → ℕ → Arr d
made_reg d g f k = comp d (arrow_reg d g k) (arrow_reg d f (dual g.heights k))

abbrev pub made_sing : (d : ℕ) (g f : Arr (suc d)) → ℕ → Arr d
made_sing d g f i = comp d (arrow_sing d g (height d f i)) (arrow_sing d f i)

all_regs : (d : ℕ) (g f : Arr (suc d)) → (comp (suc d) g f).regs ≡ tab (made_reg d g f) (length g.regs)
unfolding comp
all_regs d g f = refl

all_sings : (d : ℕ) (g f : Arr (suc d)) → (comp (suc d) g f).sings ≡ tab (made_sing d g f) (length f.sings)
unfolding comp
all_sings d g f = refl

pub dual_later : (hs : List ℕ) (k : ℕ) → dual hs k ≤ dual hs (k + 1)
dual_later hs k = let next : suc k ≡ k + 1 = omega arith in subst (λ (m : ℕ). dual hs k ≤ dual hs m) next (dual_next hs k)

-- one slice more
pub more_made : (d : ℕ) (slice : ℕ → Arr d) (made : List Arrow) (k : ℕ) (a : Arrow) → trees_of_arrows made ≡ map (arr_tree d) (tab slice k)
    → tree_of_arrow a ≡ arr_tree d (slice k) → trees_of_arrows (made ++ a ∷ []) ≡ map (arr_tree d) (tab slice (k + 1))
more_made d slice made k a e is =
    map_push tree_of_arrow made a ∙ ap₂ (λ ts t. ts ++ t ∷ []) e is ∙ sym (map_push (arr_tree d) (tab slice k) (slice k))
    ∙ ap (map (arr_tree d)) (sym (map-range_with_len_more slice 0 k k (omega arith)))

module _ (d : ℕ) (g f : Arr (suc d)) (second first : List Arrow) (heights : List ℕ) (r : AreComposableRegs d g f second first heights) where
  pub regs_monotone : IsMonotone heights
  regs_monotone = subst IsMonotone (sym r.heights_are) r.composable.monotone

  pub regs_second_len : length second ≡ length g.regs
  regs_second_len = held_length d second g.regs r.second_is

  pub regs_inside : (k at : ℕ) → at ≡ dual heights k → at < length first
  regs_inside k at e =
      let a = held_length d first f.regs r.first_is in
      let b : dual heights k ≤ length heights = dual-le-length heights k in
      let h = ap length r.heights_are in
      let m = r.composable.middle_len in
      omega arith

  module _ (k at : ℕ) (e : at ≡ dual heights k) (l : k < length second) (x y : Arrow) (x_is : x ≡ get_or second k x) (y_is : y ≡ get_or first at y) where
    at_is : at ≡ dual g.heights k
    at_is = e ∙ ap (λ hs. dual hs k) r.heights_are

    pub regs_second_at : tree_of_arrow x ≡ arr_tree d (arrow_reg d g k)
    regs_second_at = held_arrow d second g.regs r.second_is k x l x_is

    pub regs_first_at : tree_of_arrow y ≡ arr_tree d (arrow_reg d f (dual g.heights k))
    regs_first_at = held_arrow d first f.regs r.first_is at y (regs_inside k at e) y_is ∙ ap (λ j. arr_tree d (arrow_reg d f j)) at_is

    pub regs_composable_at : LengthsMeet d (arrow_reg d g k) (arrow_reg d f (dual g.heights k))
    regs_composable_at = let n = regs_second_len in r.composable.regs k (omega arith)

  pub regs_whole : (k : ℕ) (made : List Arrow) → k ≡ length second → trees_of_arrows made ≡ map (arr_tree d) (tab (made_reg d g f) k)
      → trees_of_arrows made ≡ map (arr_tree d) (comp (suc d) g f).regs
  regs_whole k made e is = is ∙ ap (λ n. map (arr_tree d) (tab (made_reg d g f) n)) (e ∙ regs_second_len) ∙ ap (map (arr_tree d)) (sym (all_regs d g f))

module _ (d : ℕ) (g f : Arr (suc d)) (second first : List Arrow) (heights : List ℕ) (r : AreComposableSings d g f second first heights) where
  pub sings_first_len : length first ≡ length f.sings
  sings_first_len = held_length d first f.sings r.first_is

  pub sings_heights_len : length heights ≡ length first
  sings_heights_len = ap length r.heights_are ∙ sym r.composable.first_sings_len ∙ sym sings_first_len

  pub sings_inside : (i h : ℕ) → i < length first → h ≡ get_or heights i 0 → h < length second
  sings_inside i h l e =
      let a = held_length d second g.sings r.second_is in
      let n = sings_first_len in
      let p = r.composable.first_sings_len in
      let q = r.composable.second_sings_len in
      let b = r.composable.below.below i (omega arith) in
      let same : h ≡ get_or f.heights i 0 = e ∙ ap (λ hs. get_or hs i 0) r.heights_are in
      omega arith

  module _ (i h : ℕ) (e : h ≡ get_or heights i 0) (l : i < length first) (x y : Arrow) (x_is : x ≡ get_or second h x) (y_is : y ≡ get_or first i y) where
    pub sings_second_at : tree_of_arrow x ≡ arr_tree d (arrow_sing d g (height d f i))
    sings_second_at = held_arrow d second g.sings r.second_is h x (sings_inside i h l e) x_is
        ∙ ap (λ j. arr_tree d (arrow_sing d g j)) (e ∙ ap (λ hs. get_or hs i 0) r.heights_are)

    pub sings_first_at : tree_of_arrow y ≡ arr_tree d (arrow_sing d f i)
    sings_first_at = held_arrow d first f.sings r.first_is i y l y_is

    pub sings_composable_at : LengthsMeet d (arrow_sing d g (height d f i)) (arrow_sing d f i)
    sings_composable_at = let n = sings_first_len in r.composable.sings i (omega arith)

  pub sings_whole : (k : ℕ) (made : List Arrow) → k ≡ length first → trees_of_arrows made ≡ map (arr_tree d) (tab (made_sing d g f) k)
      → trees_of_arrows made ≡ map (arr_tree d) (comp (suc d) g f).sings
  sings_whole k made e is = is ∙ ap (λ n. map (arr_tree d) (tab (made_sing d g f) n)) (e ∙ sings_first_len) ∙ ap (map (arr_tree d)) (sym (all_sings d g f))

-- ---- two arrows and their parts

-- two arrows above dimension 0 that can be composed, and their parts
pub record ComposableParts (gh : List ℕ) (gr gs : List Arrow) (fh : List ℕ) (fr fs : List Arrow) : Type 0 where
  pub d : ℕ
  pub g : Arr (suc d)
  pub f : Arr (suc d)
  pub composable : LengthsMeet (suc d) g f
  pub second : AreHeldParts d g gh gr gs
  pub first : AreHeldParts d f fh fr fs

module _ (a b : Arrow) (gh : Vec ℕ Global) (gr gs : Vec Arrow Global) (fh : Vec ℕ Global) (fr fs : Vec Arrow Global) (ea : a ≡ arrow.Zig gh gr gs) (eb : b ≡ arrow.Zig fh fr fs) where
  pub composable_parts : (n : ℕ) (g f : Arr n) → LengthsMeet n g f → tree_of_arrow a ≡ arr_tree n g → tree_of_arrow b ≡ arr_tree n f
      → ComposableParts gh.items gr.items gs.items fh.items fr.items fs.items
  composable_parts zero g f c p q = absurd (no_zig_at_zero g a gh gr gs ea p)
  composable_parts (suc d) g f c p q = record {
    d = d;
    g = g;
    f = f;
    composable = c;
    second = held_parts d g a gh gr gs ea p;
    first = held_parts d f b fh fr fs eb q;
  }

module _ (d : ℕ) (g f : Arr (suc d)) (c : LengthsMeet (suc d) g f) (gh : List ℕ) (gr gs : List Arrow) (fh : List ℕ) (fr fs : List Arrow)
    (p : AreHeldParts d g gh gr gs) (q : AreHeldParts d f fh fr fs) where
  pub pass_below : (hs ks : List ℕ) → hs ≡ gh → ks ≡ fh → AreBelow ks (length hs)
  pass_below hs ks e k = record {
    below = λ i l.
        let m = k ∙ q.heights_are in
        let n = e ∙ p.heights_are in
        let ln = ap length n in
        let lm = ap length m in
        let b = c.below.below i (omega arith) in
        let at = ap (λ (ns : List ℕ). get_or ns i 0) m in
        omega arith;
  }

  pub pass_regs : (second first : List Arrow) (heights : List ℕ) → second ≡ gr → first ≡ fr → heights ≡ gh → AreComposableRegs d g f second first heights
  pass_regs second first heights e1 e2 e3 = record {
    second_is = ap trees_of_arrows e1 ∙ p.regs_are;
    first_is = ap trees_of_arrows e2 ∙ q.regs_are;
    heights_are = e3 ∙ p.heights_are;
    composable = c;
  }

  pub pass_sings : (second first : List Arrow) (heights : List ℕ) → second ≡ gs → first ≡ fs → heights ≡ fh → AreComposableSings d g f second first heights
  pass_sings second first heights e1 e2 e3 = record {
    second_is = ap trees_of_arrows e1 ∙ p.sings_are;
    first_is = ap trees_of_arrows e2 ∙ q.sings_are;
    heights_are = e3 ∙ q.heights_are;
    composable = c;
  }

-- ---- the whole composite

pub no_pair_before_zig : (n : ℕ) (g f : Arr n) (a b : Arrow) (x y : Label) (hs : Vec ℕ Global) (rs ss : Vec Arrow Global) → a ≡ arrow.Zero x y → b ≡ arrow.Zig hs rs ss
    → tree_of_arrow a ≡ arr_tree n g → tree_of_arrow b ≡ arr_tree n f → ⊥
no_pair_before_zig zero g f a b x y hs rs ss ea eb p q = no_zig_at_zero f b hs rs ss eb q
no_pair_before_zig (suc d) g f a b x y hs rs ss ea eb p q = no_pair_above d g a x y ea p

pub no_zig_before_pair : (n : ℕ) (g f : Arr n) (a b : Arrow) (hs : Vec ℕ Global) (rs ss : Vec Arrow Global) (x y : Label) → a ≡ arrow.Zig hs rs ss → b ≡ arrow.Zero x y
    → tree_of_arrow a ≡ arr_tree n g → tree_of_arrow b ≡ arr_tree n f → ⊥
no_zig_before_pair zero g f a b hs rs ss x y ea eb p q = no_zig_at_zero g a hs rs ss ea p
no_zig_before_pair (suc d) g f a b hs rs ss x y ea eb p q = no_pair_above d f b x y eb q

pub composite_pair : (n : ℕ) (g f : Arr n) (a b : Arrow) (x y z w : Label) → a ≡ arrow.Zero y z → b ≡ arrow.Zero x w
    → tree_of_arrow a ≡ arr_tree n g → tree_of_arrow b ≡ arr_tree n f → tree_of_arrow (arrow.Zero x z) ≡ arr_tree n (comp n g f)
composite_pair zero g f a b x y z w ea eb p q =
    let from : x ≡ (comp zero g f).from = (held_ends f b x w eb q).0 ∙ sym (comp-from g f) in
    let to : z ≡ (comp zero g f).to = (held_ends g a y z ea p).1 ∙ sym (comp-to g f) in
    tree_of_arrow-Zero x z ∙ (λ i. ends (from i) (to i))
composite_pair (suc d) g f a b x y z w ea eb p q = absurd (no_pair_above d g a y z ea p)

module _ (a b : Arrow) (gh : Vec ℕ Global) (gr gs : Vec Arrow Global) (fh : Vec ℕ Global) (fr fs : Vec Arrow Global) (ea : a ≡ arrow.Zig gh gr gs) (eb : b ≡ arrow.Zig fh fr fs)
    (gh1 fh1 gh2 fh2 : List ℕ) (gr2 fr2 gs2 fs2 : List Arrow) (e1 : gh1 ≡ gh.items) (e2 : fh1 ≡ fh.items)
    (e3 : gr2 ≡ gr.items) (e4 : fr2 ≡ fr.items) (e5 : gh2 ≡ gh.items) (e6 : gs2 ≡ gs.items) (e7 : fs2 ≡ fs.items) (e8 : fh2 ≡ fh.items)
    (hs : Vec ℕ Global) (rs ss : Vec Arrow Global)
    (hs_are : hs.items ≡ after gh1 fh1)
    (rs_are : (d : ℕ) (g f : Arr (suc d)) → AreComposableRegs d g f gr2 fr2 gh2 → trees_of_arrows rs.items ≡ map (arr_tree d) (comp (suc d) g f).regs)
    (ss_are : (d : ℕ) (g f : Arr (suc d)) → AreComposableSings d g f gs2 fs2 fh2 → trees_of_arrows ss.items ≡ map (arr_tree d) (comp (suc d) g f).sings) where
  pub composite_whole : (n : ℕ) (g f : Arr n) → LengthsMeet n g f → tree_of_arrow a ≡ arr_tree n g → tree_of_arrow b ≡ arr_tree n f
      → tree_of_arrow (arrow.Zig hs rs ss) ≡ arr_tree n (comp n g f)
  composite_whole zero g f c p q = absurd (no_zig_at_zero g a gh gr gs ea p)
  composite_whole (suc d) g f c p q =
      let u = held_parts d g a gh gr gs ea p in
      let v = held_parts d f b fh fr fs eb q in
      let h : hs.items ≡ (comp (suc d) g f).heights = hs_are ∙ ap₂ after (e1 ∙ u.heights_are) (e2 ∙ v.heights_are) ∙ sym (comp-heights d g f) in
      let r = rs_are d g f (pass_regs d g f c _ _ _ _ _ _ u v gr2 fr2 gh2 e3 e4 e5) in
      let s = ss_are d g f (pass_sings d g f c _ _ _ _ _ _ u v gs2 fs2 fh2 e6 e7 e8) in
      tree_of_arrow-Zig hs rs ss ∙ (λ i. zag (h i) (r i) (s i))
