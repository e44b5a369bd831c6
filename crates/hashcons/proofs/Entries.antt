-- What nodes that are kept by the numbers of their lists stand for, and what putting one does.
use Rattle.std.proofs.Common.{◌≡◌, ◌≢◌, ℕ, ◌<◌, Bool, true, true≢false, ◌&&◌, List, [], ◌∷◌, ◌++◌, eqb, length, map, take, get_or, slice_get, Some, refl, sym, ap, ap₂, subst, ◌∙◌, ◌⊎◌, inl, inr, zero, suc, Result, Ok, Err, IfOk, OnErr, append_assoc, append-nil, take_at}
use Rattle.std.specs.List.{flat_map}
use Rattle.std.specs.Bool.{Decides}
use Rattle.std.proofs.lemmas.Bool.{and_parts, and_from}
use Rattle.std.proofs.lemmas.Bool.Decides.{Decides-eqb}
use Rattle.std.proofs.lemmas.List.{map_push, length-map}
use Rattle.std.proofs.lemmas.Option.{same_Some}
use Rattle.diagram_terms.specs.declared.label.Label.{Label}
use Rattle.diagram_terms.specs.contracts.label.LabelPartialEq.TheImpl as label_impl
use Rattle.hashcons.specs.contracts.tables.DiagramEntryPartialEq.TheImpl as diagram_impl
use Rattle.hashcons.specs.contracts.tables.ArrowEntryPartialEq.TheImpl as arrow_impl
use Rattle.hashcons.specs.declared.tables.DiagramEntry.{DiagramEntry}
use Rattle.hashcons.specs.declared.tables.DiagramEntry.TheVariants as diagram
use Rattle.hashcons.specs.declared.tables.ArrowEntry.{ArrowEntry}
use Rattle.hashcons.specs.declared.tables.ArrowEntry.TheVariants as arrow
use Rattle.hashcons.specs.declared.tables.NodeLists.{NodeLists}
use Rattle.hashcons.specs.declared.tables.NodeCounts.{NodeCounts}
use Rattle.hashcons.specs.declared.view.DiagramView.{DiagramView}
use Rattle.hashcons.specs.declared.view.DiagramView.TheVariants as shown
use Rattle.hashcons.specs.declared.view.ArrowView.{ArrowView}
use Rattle.hashcons.specs.declared.view.ArrowView.TheVariants as shown_arrow
use Rattle.hashcons.specs.declared.node.DiagramNode.{DiagramNode}
use Rattle.hashcons.specs.declared.node.DiagramNode.TheVariants as diagram_node
use Rattle.hashcons.specs.declared.node.ArrowNode.{ArrowNode}
use Rattle.hashcons.specs.declared.node.ArrowNode.TheVariants as arrow_node
use Rattle.hashcons.specs.Nodes.{viewed_diagram, viewed_arrow}
use Rattle.block_lists.specs.Blocks.{IsPut, Among, StandOnce}
use Rattle.hashcons.specs.Entries.{AreHeldBy, Gains, GainsLists, HaveCounts, PutsDiagramEntry, PutsArrowEntry, HoldsDiagramLists, HoldsArrowLists, ShowsDiagram, ShowsArrow, first_lists, diagram_view, arrow_view, diagram_parts, leg_parts, slice_parts, height_parts}
use Rattle.block_lists.proofs.Distinct.{among-head, among-tail, among-left, among-right, slice-append, get-from_slice, slice-push_cases, slice-map, slice-unmap}

-- ---- what is gained

pub gains-none : (old parts : List (List ℕ)) → Gains old old parts
gains-none old parts = record {
  more = [];
  extends = sym (append-nil old);
  from = λ l a. (let e = a.there in cc);
  once = λ o. o;
}

pub gains-put : (old new parts : List (List ℕ)) (x : List ℕ) (i : ℕ) → IsPut old new x i → Among parts x → Gains old new parts
gains-put old new parts x i p a = by p.adds
  where
    by : (new ≡ old) ⊎ ((new ≡ old ++ x ∷ []) × ((j : ℕ) → slice_get old j ≢ Some x)) → Gains old new parts
    by (inl e) = subst (λ ls. Gains old ls parts) (sym e) (gains-none old parts)
    by (inr e) = record {
      more = x ∷ [];
      extends = e.0;
      from = λ l b. only l b.place b.there;
      once = λ o. subst StandOnce (sym e.0) (once o e.1);
    }
      where
        only : (l : List ℕ) (k : ℕ) → slice_get (x ∷ []) k ≡ Some l → Among parts l
        only l zero f = subst (Among parts) (same_Some x l f) a
        only l (suc k) f = cc

        once : StandOnce old → ((j : ℕ) → slice_get old j ≢ Some x) → StandOnce (old ++ x ∷ [])
        once o new j k y f g = which (slice-push_cases old x y j f) (slice-push_cases old x y k g)
          where
            which : (slice_get old j ≡ Some y) ⊎ ((j ≡ length old) × (x ≡ y))
                → (slice_get old k ≡ Some y) ⊎ ((k ≡ length old) × (x ≡ y)) → j ≡ k
            which (inl p) (inl q) = o j k y p q
            which (inl p) (inr q) = absurd (new j (p ∙ ap Some (sym q.1)))
            which (inr p) (inl q) = absurd (new k (q ∙ ap Some (sym p.1)))
            which (inr p) (inr q) = p.0 ∙ sym q.0

pub gains-answer : {E : Type 0} → (old new : List (List ℕ)) (x : List ℕ) (r : Result ℕ E)
    → IfOk r (λ i. IsPut old new x i) → OnErr r (new ≡ old) → (parts : List (List ℕ)) → Among parts x → Gains old new parts
gains-answer old new x (Ok i) p e parts a = gains-put old new parts x i p a
gains-answer old new x (Err z) p e parts a = subst (λ ls. Gains old ls parts) (sym e) (gains-none old parts)

among-append : (xs ys : List (List ℕ)) (l : List ℕ) → Among (xs ++ ys) l → Among xs l ⊎ Among ys l
among-append [] ys l a = inr a
among-append (x ∷ xs) ys l a = by a.place a.there (among-append xs ys l)
  where
    by : (k : ℕ) → slice_get (x ∷ xs ++ ys) k ≡ Some l → (Among (xs ++ ys) l → Among xs l ⊎ Among ys l)
        → Among (x ∷ xs) l ⊎ Among ys l
    by zero e rest = inl (record { place = 0; there = e })
    by (suc k) e rest = on (rest (record { place = k; there = e }))
      where
        on : Among xs l ⊎ Among ys l → Among (x ∷ xs) l ⊎ Among ys l
        on (inl b) = inl (among-tail x xs l b)
        on (inr b) = inr b

pub gains-trans : (old mid new parts : List (List ℕ)) → Gains old mid parts → Gains mid new parts → Gains old new parts
gains-trans old mid new parts g h = record {
  more = g.more ++ h.more;
  extends = h.extends ∙ ap (λ ls. ls ++ h.more) g.extends ∙ append_assoc old g.more h.more;
  from = λ l a. by l (among-append g.more h.more l a);
  once = λ o. h.once (g.once o);
}
  where
    by : (l : List ℕ) → Among g.more l ⊎ Among h.more l → Among parts l
    by l (inl a) = g.from l a
    by l (inr a) = h.from l a

pub gained : (old new parts : List (List ℕ)) (i : ℕ) (l : List ℕ) → Gains old new parts → slice_get old i ≡ Some l
    → slice_get new i ≡ Some l
gained old new parts i l g e = ap (λ ls. slice_get ls i) g.extends ∙ slice-append old g.more i l e

-- ---- what entries stand for

pub shows-more : (l m : NodeLists) (ds xs hs : List (List ℕ)) → GainsLists l m ds xs hs → (e : DiagramEntry) (v : DiagramView)
    → ShowsDiagram l e v → ShowsDiagram m e v
shows-more l m ds xs hs g (diagram.Zero x) (shown.Zero y) s = s
shows-more l m ds xs hs g (diagram.Zero x) (shown.Zig rs ss fs bs) s = s
shows-more l m ds xs hs g (diagram.Zig r s f b) (shown.Zero y) h = h
shows-more l m ds xs hs g (diagram.Zig r s f b) (shown.Zig rs ss fs bs) h = record {
  regs = gained l.diagrams m.diagrams ds r rs g.diagrams h.regs;
  sings = gained l.diagrams m.diagrams ds s ss g.diagrams h.sings;
  fwds = gained l.arrows m.arrows xs f fs g.arrows h.fwds;
  bwds = gained l.arrows m.arrows xs b bs g.arrows h.bwds;
}

pub shows-more_arrow : (l m : NodeLists) (ds xs hs : List (List ℕ)) → GainsLists l m ds xs hs → (e : ArrowEntry) (v : ArrowView)
    → ShowsArrow l e v → ShowsArrow m e v
shows-more_arrow l m ds xs hs g (arrow.Zero x y) (shown_arrow.Zero z w) s = s
shows-more_arrow l m ds xs hs g (arrow.Zero x y) (shown_arrow.Zig ks rs ss) s = s
shows-more_arrow l m ds xs hs g (arrow.Zig k r s) (shown_arrow.Zero z w) h = h
shows-more_arrow l m ds xs hs g (arrow.Zig k r s) (shown_arrow.Zig ks rs ss) h = record {
  heights = gained l.heights m.heights hs k ks g.heights h.heights;
  regs = gained l.arrows m.arrows xs r rs g.arrows h.regs;
  sings = gained l.arrows m.arrows xs s ss g.arrows h.sings;
}

pub shows_is : (l : NodeLists) (e : DiagramEntry) (v : DiagramView) → ShowsDiagram l e v → diagram_view l e ≡ v
shows_is l (diagram.Zero x) (shown.Zero y) s = ap (λ z. shown.Zero z) s
shows_is l (diagram.Zero x) (shown.Zig rs ss fs bs) s = absurd s
shows_is l (diagram.Zig r s f b) (shown.Zero y) h = absurd h
shows_is l (diagram.Zig r s f b) (shown.Zig rs ss fs bs) h =
    let i = get-from_slice l.diagrams r rs [] h.regs in
    let j = get-from_slice l.diagrams s ss [] h.sings in
    let k = get-from_slice l.arrows f fs [] h.fwds in
    let m = get-from_slice l.arrows b bs [] h.bwds in
    cc

pub shows_is_arrow : (l : NodeLists) (e : ArrowEntry) (v : ArrowView) → ShowsArrow l e v → arrow_view l e ≡ v
shows_is_arrow l (arrow.Zero x y) (shown_arrow.Zero z w) s = ap₂ (λ a b. shown_arrow.Zero a b) s.0 s.1
shows_is_arrow l (arrow.Zero x y) (shown_arrow.Zig ks rs ss) s = absurd s
shows_is_arrow l (arrow.Zig k r s) (shown_arrow.Zero z w) h = absurd h
shows_is_arrow l (arrow.Zig k r s) (shown_arrow.Zig ks rs ss) h =
    let i = get-from_slice l.heights k ks [] h.heights in
    let j = get-from_slice l.arrows r rs [] h.regs in
    let m = get-from_slice l.arrows s ss [] h.sings in
    cc

pub shows_inj : (l : NodeLists) → StandOnce l.diagrams → StandOnce l.arrows → (e g : DiagramEntry) (v : DiagramView)
    → ShowsDiagram l e v → ShowsDiagram l g v → e ≡ g
shows_inj l od oa (diagram.Zero x) (diagram.Zero y) (shown.Zero z) s t = ap (λ w. diagram.Zero w) (s ∙ sym t)
shows_inj l od oa (diagram.Zero x) (diagram.Zero y) (shown.Zig rs ss fs bs) s t = absurd s
shows_inj l od oa (diagram.Zero x) (diagram.Zig r s f b) (shown.Zero z) p t = absurd t
shows_inj l od oa (diagram.Zero x) (diagram.Zig r s f b) (shown.Zig rs ss fs bs) p t = absurd p
shows_inj l od oa (diagram.Zig r s f b) (diagram.Zero y) (shown.Zero z) p t = absurd p
shows_inj l od oa (diagram.Zig r s f b) (diagram.Zero y) (shown.Zig rs ss fs bs) p t = absurd t
shows_inj l od oa (diagram.Zig r s f b) (diagram.Zig r2 s2 f2 b2) (shown.Zero z) p t = absurd p
shows_inj l od oa (diagram.Zig r s f b) (diagram.Zig r2 s2 f2 b2) (shown.Zig rs ss fs bs) p t =
    let i = od r r2 rs p.regs t.regs in
    let j = od s s2 ss p.sings t.sings in
    let k = oa f f2 fs p.fwds t.fwds in
    let m = oa b b2 bs p.bwds t.bwds in
    cc

pub shows_inj_arrow : (l : NodeLists) → StandOnce l.heights → StandOnce l.arrows → (e g : ArrowEntry) (v : ArrowView)
    → ShowsArrow l e v → ShowsArrow l g v → e ≡ g
shows_inj_arrow l oh oa (arrow.Zero x y) (arrow.Zero z w) (shown_arrow.Zero u v) s t =
    ap₂ (λ a b. arrow.Zero a b) (s.0 ∙ sym t.0) (s.1 ∙ sym t.1)
shows_inj_arrow l oh oa (arrow.Zero x y) (arrow.Zero z w) (shown_arrow.Zig ks rs ss) s t = absurd s
shows_inj_arrow l oh oa (arrow.Zero x y) (arrow.Zig k r s) (shown_arrow.Zero u v) p t = absurd t
shows_inj_arrow l oh oa (arrow.Zero x y) (arrow.Zig k r s) (shown_arrow.Zig ks rs ss) p t = absurd p
shows_inj_arrow l oh oa (arrow.Zig k r s) (arrow.Zero z w) (shown_arrow.Zero u v) p t = absurd p
shows_inj_arrow l oh oa (arrow.Zig k r s) (arrow.Zero z w) (shown_arrow.Zig ks rs ss) p t = absurd t
shows_inj_arrow l oh oa (arrow.Zig k r s) (arrow.Zig k2 r2 s2) (shown_arrow.Zero u v) p t = absurd p
shows_inj_arrow l oh oa (arrow.Zig k r s) (arrow.Zig k2 r2 s2) (shown_arrow.Zig ks rs ss) p t =
    let i = oh k k2 ks p.heights t.heights in
    let j = oa r r2 rs p.regs t.regs in
    let m = oa s s2 ss p.sings t.sings in
    cc

-- ---- one entry more

-- what was put among the entries was put among what they stand for
put_through : {E V : Type 0} → (view0 view1 : E → V) (keys0 keys1 : List E) (e : E) (v : V) (i : ℕ)
    → map view1 keys0 ≡ map view0 keys0
    → ((k : ℕ) (g : E) → slice_get keys0 k ≡ Some g → view1 g ≡ v → g ≡ e)
    → view1 e ≡ v → IsPut keys0 keys1 e i → IsPut (map view0 keys0) (map view1 keys1) v i
put_through view0 view1 keys0 keys1 e v i same inj is p = record {
  there = slice-map view1 keys1 i e p.there ∙ ap Some is;
  adds = by p.adds;
}
  where
    by : (keys1 ≡ keys0) ⊎ ((keys1 ≡ keys0 ++ e ∷ []) × ((j : ℕ) → slice_get keys0 j ≢ Some e))
        → (map view1 keys1 ≡ map view0 keys0)
        ⊎ ((map view1 keys1 ≡ map view0 keys0 ++ v ∷ []) × ((j : ℕ) → slice_get (map view0 keys0) j ≢ Some v))
    by (inl q) = inl (ap (map view1) q ∙ same)
    by (inr q) = inr (
      ap (map view1) q.0 ∙ map_push view1 keys0 e ∙ ap₂ (λ vs w. vs ++ w ∷ []) same is,
      λ j h.
          let w = slice-unmap view1 keys0 j v (ap (λ vs. slice_get vs j) same ∙ h) in
          q.1 j (w.there ∙ ap Some (inj j w.item w.there w.is)),
    )

map-same : {E V : Type 0} → (f g : E → V) (es : List E) → ((k : ℕ) (e : E) → slice_get es k ≡ Some e → f e ≡ g e)
    → map f es ≡ map g es
map-same f g [] h = refl
map-same f g (e ∷ es) h =
    let a = h 0 e refl in
    let r = map-same f g es (λ k x q. h (suc k) x q) in
    cc

among-flat : {V : Type 0} → (f : V → List (List ℕ)) (vs : List V) (i : ℕ) (v : V) (l : List ℕ) → slice_get vs i ≡ Some v
    → Among (f v) l → Among (flat_map f vs) l
among-flat f [] i v l e a = cc
among-flat f (w ∷ vs) zero v l e a =
    among-left (f w) (flat_map f vs) l (subst (λ u. Among (f u) l) (sym (same_Some w v e)) a)
among-flat f (w ∷ vs) (suc i) v l e a = among-right (f w) (flat_map f vs) l (among-flat f vs i v l e a)

-- what stands in the parts still does after one more
flat-put : {V : Type 0} → (f : V → List (List ℕ)) (old new : List V) (v : V) (i : ℕ) → IsPut old new v i
    → (l : List ℕ) → Among (flat_map f old) l → Among (flat_map f new) l
flat-put {V} f old new v i p l a = by p.adds
  where
    push : (vs : List V) → flat_map f (vs ++ v ∷ []) ≡ flat_map f vs ++ f v
    push [] = append-nil (f v)
    push (w ∷ vs) = ap (λ ls. f w ++ ls) (push vs) ∙ sym (append_assoc (f w) (flat_map f vs) (f v))

    by : (new ≡ old) ⊎ ((new ≡ old ++ v ∷ []) × ((j : ℕ) → slice_get old j ≢ Some v)) → Among (flat_map f new) l
    by (inl e) = subst (λ vs. Among (flat_map f vs) l) (sym e) a
    by (inr e) = subst (λ vs. Among (flat_map f vs) l) (sym e.0)
        (subst (λ ls. Among ls l) (sym (push old)) (among-left (flat_map f old) (f v) l a))

-- what stands in a list that gained stood there before, or is a part
gained_from : (old new parts : List (List ℕ)) → Gains old new parts → (l : List ℕ) → Among new l → Among old l ⊎ Among parts l
gained_from old new parts g l a = by (among-append old g.more l (subst (λ ls. Among ls l) g.extends a))
  where
    by : Among old l ⊎ Among g.more l → Among old l ⊎ Among parts l
    by (inl b) = inl b
    by (inr b) = inr (g.from l b)

-- ---- what a node gains

pub among_first : (xs ys zs : List ℕ) → zs ≡ xs → Among (xs ∷ ys ∷ []) zs
among_first xs ys zs e = subst (Among (xs ∷ ys ∷ [])) (sym e) (among-head xs (ys ∷ []))

pub among_second : (xs ys zs : List ℕ) → zs ≡ ys → Among (xs ∷ ys ∷ []) zs
among_second xs ys zs e = subst (Among (xs ∷ ys ∷ [])) (sym e) (among-tail xs (ys ∷ []) ys (among-head ys []))

-- the last of two parts alone
pub gains_second : (old new : List (List ℕ)) (xs ys : List ℕ) → Gains old new (ys ∷ []) → Gains old new (xs ∷ ys ∷ [])
gains_second old new xs ys g = record {
  more = g.more;
  extends = g.extends;
  from = λ l a. among-tail xs (ys ∷ []) l (g.from l a);
  once = g.once;
}

pub gains_diagram : (l : NodeLists) (node : DiagramNode) (rs ss fs bs : _) → node ≡ diagram_node.Zig rs ss fs bs
    → (ds xs : List (List ℕ)) → Gains l.diagrams ds (rs.items ∷ ss.items ∷ []) → Gains l.arrows xs (fs.items ∷ bs.items ∷ [])
    → GainsLists l (record { diagrams = ds; arrows = xs; heights = l.heights }) (diagram_parts (viewed_diagram node))
    (leg_parts (viewed_diagram node)) []
gains_diagram l node rs ss fs bs e ds xs g h =
    subst (λ n. GainsLists l (record { diagrams = ds; arrows = xs; heights = l.heights }) (diagram_parts (viewed_diagram n))
    (leg_parts (viewed_diagram n)) []) (sym e)
    (record { diagrams = g; arrows = h; heights = gains-none l.heights [] })

pub gains_arrow : (l : NodeLists) (node : ArrowNode) (hs rs ss : _) → node ≡ arrow_node.Zig hs rs ss
    → (xs ks : List (List ℕ)) → Gains l.arrows xs (rs.items ∷ ss.items ∷ []) → Gains l.heights ks (hs.items ∷ [])
    → GainsLists l (record { diagrams = l.diagrams; arrows = xs; heights = ks }) [] (slice_parts (viewed_arrow node))
    (height_parts (viewed_arrow node))
gains_arrow l node hs rs ss e xs ks g h =
    subst (λ n. GainsLists l (record { diagrams = l.diagrams; arrows = xs; heights = ks }) [] (slice_parts (viewed_arrow n))
    (height_parts (viewed_arrow n))) (sym e)
    (record { diagrams = gains-none l.diagrams []; arrows = g; heights = h })

-- ---- the tables after a node was put

-- another view of the same lists
shows_view : (l : NodeLists) (e : DiagramEntry) (v : DiagramView) → ShowsDiagram l e v → ShowsDiagram l e (diagram_view l e)
shows_view l e v s = subst (ShowsDiagram l e) (sym (shows_is l e v s)) s

shows_view_arrow : (l : NodeLists) (e : ArrowEntry) (v : ArrowView) → ShowsArrow l e v → ShowsArrow l e (arrow_view l e)
shows_view_arrow l e v s = subst (ShowsArrow l e) (sym (shows_is_arrow l e v s)) s

-- what was held is, among more lists
module _ (l m : NodeLists) (ps qs hs : List (List ℕ)) (g : GainsLists l m ps qs hs) (ds : List DiagramEntry) (xs : List ArrowEntry)
    (held : AreHeldBy l ds xs) where
  still : (k : ℕ) (e : DiagramEntry) → slice_get ds k ≡ Some e → ShowsDiagram m e (diagram_view l e)
  still k e at = shows-more l m ps qs hs g e (diagram_view l e) (held.diagrams k e at)

  still_arrow : (k : ℕ) (e : ArrowEntry) → slice_get xs k ≡ Some e → ShowsArrow m e (arrow_view l e)
  still_arrow k e at = shows-more_arrow l m ps qs hs g e (arrow_view l e) (held.arrows k e at)

  pub same_diagrams : map (diagram_view m) ds ≡ map (diagram_view l) ds
  same_diagrams = map-same (diagram_view m) (diagram_view l) ds (λ k e at. shows_is m e (diagram_view l e) (still k e at))

  pub same_arrows : map (arrow_view m) xs ≡ map (arrow_view l) xs
  same_arrows = map-same (arrow_view m) (arrow_view l) xs (λ k e at. shows_is_arrow m e (arrow_view l e) (still_arrow k e at))

pub record PutsDiagramView (l m : NodeLists) (ds new : List DiagramEntry) (xs : List ArrowEntry) (v : DiagramView) (place : ℕ) : Type 0 where
  pub held : AreHeldBy m new xs
  pub put : IsPut (map (diagram_view l) ds) (map (diagram_view m) new) v place
  pub arrows : map (arrow_view m) xs ≡ map (arrow_view l) xs

module _ (l m : NodeLists) (ds new : List DiagramEntry) (xs : List ArrowEntry) (v : DiagramView) (place : ℕ)
    (held : AreHeldBy l ds xs) (g : GainsLists l m (diagram_parts v) (leg_parts v) []) (p : PutsDiagramEntry m ds new v place) where
  diagram_put : IsPut (map (diagram_view l) ds) (map (diagram_view m) new) v place
  diagram_put =
      put_through (diagram_view l) (diagram_view m) ds new p.entry v place
      (same_diagrams l m (diagram_parts v) (leg_parts v) [] g ds xs held) one (shows_is m p.entry v p.shows) p.put
    where
      one : (k : ℕ) (e : DiagramEntry) → slice_get ds k ≡ Some e → diagram_view m e ≡ v → e ≡ p.entry
      one k e at is =
          let s = still l m (diagram_parts v) (leg_parts v) [] g ds xs held k e at in
          let t = subst (ShowsDiagram m e) is (shows_view m e (diagram_view l e) s) in
          shows_inj m (g.diagrams.once held.diagram_lists_once) (g.arrows.once held.arrow_lists_once) e p.entry v t p.shows

  pub puts_diagram_view : PutsDiagramView l m ds new xs v place
  puts_diagram_view = record {
    held = record {
      diagrams = λ k e at. all p.put.adds k e at;
      arrows = λ k e at. shows_view_arrow m e (arrow_view l e) (still_arrow l m (diagram_parts v) (leg_parts v) [] g ds xs held k e at);
      diagram_lists_once = g.diagrams.once held.diagram_lists_once;
      arrow_lists_once = g.arrows.once held.arrow_lists_once;
      height_lists_once = g.heights.once held.height_lists_once;
      diagram_lists = λ q a. of_diagrams q (gained_from l.diagrams m.diagrams (diagram_parts v) g.diagrams q a);
      arrow_lists = λ q a. of_arrows q (gained_from l.arrows m.arrows (leg_parts v) g.arrows q a);
      height_lists = λ q a. of_heights q (gained_from l.heights m.heights [] g.heights q a);
    };
    put = diagram_put;
    arrows = arrows;
  }
    where
      arrows : map (arrow_view m) xs ≡ map (arrow_view l) xs
      arrows = same_arrows l m (diagram_parts v) (leg_parts v) [] g ds xs held

      all : (new ≡ ds) ⊎ ((new ≡ ds ++ p.entry ∷ []) × ((j : ℕ) → slice_get ds j ≢ Some p.entry))
          → (k : ℕ) (e : DiagramEntry) → slice_get new k ≡ Some e → ShowsDiagram m e (diagram_view m e)
      all (inl q) k e at =
          shows_view m e (diagram_view l e) (still l m (diagram_parts v) (leg_parts v) [] g ds xs held k e
          (ap (λ es. slice_get es k) (sym q) ∙ at))
      all (inr q) k e at = which (slice-push_cases ds p.entry e k (ap (λ es. slice_get es k) (sym q.0) ∙ at))
        where
          which : (slice_get ds k ≡ Some e) ⊎ ((k ≡ length ds) × (p.entry ≡ e)) → ShowsDiagram m e (diagram_view m e)
          which (inl r) = shows_view m e (diagram_view l e)
              (still l m (diagram_parts v) (leg_parts v) [] g ds xs held k e r)
          which (inr r) = subst (λ f. ShowsDiagram m f (diagram_view m f)) r.1 (shows_view m p.entry v p.shows)

      of_diagrams : (q : List ℕ) → Among l.diagrams q ⊎ Among (diagram_parts v) q
          → Among (flat_map diagram_parts (map (diagram_view m) new)) q
      of_diagrams q (inl a) = flat-put diagram_parts (map (diagram_view l) ds) (map (diagram_view m) new) v place diagram_put q
          (held.diagram_lists q a)
      of_diagrams q (inr a) = among-flat diagram_parts (map (diagram_view m) new) place v q diagram_put.there a

      of_arrows : (q : List ℕ) → Among l.arrows q ⊎ Among (leg_parts v) q
          → Among (flat_map leg_parts (map (diagram_view m) new)) q ⊎ Among (flat_map slice_parts (map (arrow_view m) xs)) q
      of_arrows q (inl a) = on (held.arrow_lists q a)
        where
          on : Among (flat_map leg_parts (map (diagram_view l) ds)) q ⊎ Among (flat_map slice_parts (map (arrow_view l) xs)) q
              → Among (flat_map leg_parts (map (diagram_view m) new)) q ⊎ Among (flat_map slice_parts (map (arrow_view m) xs)) q
          on (inl b) = inl (flat-put leg_parts (map (diagram_view l) ds) (map (diagram_view m) new) v place diagram_put q b)
          on (inr b) = inr (subst (λ vs. Among (flat_map slice_parts vs) q) (sym arrows) b)
      of_arrows q (inr a) = inl (among-flat leg_parts (map (diagram_view m) new) place v q diagram_put.there a)

      of_heights : (q : List ℕ) → Among l.heights q ⊎ Among [] q → Among (flat_map height_parts (map (arrow_view m) xs)) q
      of_heights q (inl a) = subst (λ vs. Among (flat_map height_parts vs) q) (sym arrows) (held.height_lists q a)
      of_heights q (inr a) = let e = a.there in cc

pub record PutsArrowView (l m : NodeLists) (ds : List DiagramEntry) (xs new : List ArrowEntry) (v : ArrowView) (place : ℕ) : Type 0 where
  pub held : AreHeldBy m ds new
  pub put : IsPut (map (arrow_view l) xs) (map (arrow_view m) new) v place
  pub diagrams : map (diagram_view m) ds ≡ map (diagram_view l) ds

module _ (l m : NodeLists) (ds : List DiagramEntry) (xs new : List ArrowEntry) (v : ArrowView) (place : ℕ)
    (held : AreHeldBy l ds xs) (qs : List (List ℕ)) (part : (q : List ℕ) → Among qs q → Among (slice_parts v) q)
    (g : GainsLists l m [] qs (height_parts v)) (p : PutsArrowEntry m xs new v place) where
  arrow_put : IsPut (map (arrow_view l) xs) (map (arrow_view m) new) v place
  arrow_put =
      put_through (arrow_view l) (arrow_view m) xs new p.entry v place
      (same_arrows l m [] qs (height_parts v) g ds xs held) one (shows_is_arrow m p.entry v p.shows) p.put
    where
      one : (k : ℕ) (e : ArrowEntry) → slice_get xs k ≡ Some e → arrow_view m e ≡ v → e ≡ p.entry
      one k e at is =
          let s = still_arrow l m [] qs (height_parts v) g ds xs held k e at in
          let t = subst (ShowsArrow m e) is (shows_view_arrow m e (arrow_view l e) s) in
          shows_inj_arrow m (g.heights.once held.height_lists_once) (g.arrows.once held.arrow_lists_once) e p.entry v t p.shows

  pub puts_arrow_view : PutsArrowView l m ds xs new v place
  puts_arrow_view = record {
    held = record {
      diagrams = λ k e at. shows_view m e (diagram_view l e) (still l m [] qs (height_parts v) g ds xs held k e at);
      arrows = λ k e at. all p.put.adds k e at;
      diagram_lists_once = g.diagrams.once held.diagram_lists_once;
      arrow_lists_once = g.arrows.once held.arrow_lists_once;
      height_lists_once = g.heights.once held.height_lists_once;
      diagram_lists = λ q a. of_diagrams q (gained_from l.diagrams m.diagrams [] g.diagrams q a);
      arrow_lists = λ q a. of_arrows q (gained_from l.arrows m.arrows qs g.arrows q a);
      height_lists = λ q a. of_heights q (gained_from l.heights m.heights (height_parts v) g.heights q a);
    };
    put = arrow_put;
    diagrams = diagrams;
  }
    where
      diagrams : map (diagram_view m) ds ≡ map (diagram_view l) ds
      diagrams = same_diagrams l m [] qs (height_parts v) g ds xs held

      all : (new ≡ xs) ⊎ ((new ≡ xs ++ p.entry ∷ []) × ((j : ℕ) → slice_get xs j ≢ Some p.entry))
          → (k : ℕ) (e : ArrowEntry) → slice_get new k ≡ Some e → ShowsArrow m e (arrow_view m e)
      all (inl q) k e at =
          shows_view_arrow m e (arrow_view l e) (still_arrow l m [] qs (height_parts v) g ds xs held k e
          (ap (λ es. slice_get es k) (sym q) ∙ at))
      all (inr q) k e at = which (slice-push_cases xs p.entry e k (ap (λ es. slice_get es k) (sym q.0) ∙ at))
        where
          which : (slice_get xs k ≡ Some e) ⊎ ((k ≡ length xs) × (p.entry ≡ e)) → ShowsArrow m e (arrow_view m e)
          which (inl r) = shows_view_arrow m e (arrow_view l e)
              (still_arrow l m [] qs (height_parts v) g ds xs held k e r)
          which (inr r) = subst (λ f. ShowsArrow m f (arrow_view m f)) r.1 (shows_view_arrow m p.entry v p.shows)

      of_diagrams : (q : List ℕ) → Among l.diagrams q ⊎ Among [] q → Among (flat_map diagram_parts (map (diagram_view m) ds)) q
      of_diagrams q (inl a) = subst (λ vs. Among (flat_map diagram_parts vs) q) (sym diagrams) (held.diagram_lists q a)
      of_diagrams q (inr a) = let e = a.there in cc

      of_arrows : (q : List ℕ) → Among l.arrows q ⊎ Among qs q
          → Among (flat_map leg_parts (map (diagram_view m) ds)) q ⊎ Among (flat_map slice_parts (map (arrow_view m) new)) q
      of_arrows q (inl a) = on (held.arrow_lists q a)
        where
          on : Among (flat_map leg_parts (map (diagram_view l) ds)) q ⊎ Among (flat_map slice_parts (map (arrow_view l) xs)) q
              → Among (flat_map leg_parts (map (diagram_view m) ds)) q ⊎ Among (flat_map slice_parts (map (arrow_view m) new)) q
          on (inl b) = inl (subst (λ vs. Among (flat_map leg_parts vs) q) (sym diagrams) b)
          on (inr b) = inr (flat-put slice_parts (map (arrow_view l) xs) (map (arrow_view m) new) v place arrow_put q b)
      of_arrows q (inr a) = inr (among-flat slice_parts (map (arrow_view m) new) place v q arrow_put.there (part q a))

      of_heights : (q : List ℕ) → Among l.heights q ⊎ Among (height_parts v) q
          → Among (flat_map height_parts (map (arrow_view m) new)) q
      of_heights q (inl a) = flat-put height_parts (map (arrow_view l) xs) (map (arrow_view m) new) v place arrow_put q
          (held.height_lists q a)
      of_heights q (inr a) = among-flat height_parts (map (arrow_view m) new) place v q arrow_put.there a

-- ---- what was put is taken back

taken : (old new parts : List (List ℕ)) (n : ℕ) → Gains old new parts → n ≡ length old → take n new ≡ old
taken old new parts n g e = ap (take n) g.extends ∙ take_at old g.more n (sym e)

pub taken_back : (l m : NodeLists) (ds xs hs : List (List ℕ)) (c : NodeCounts) → GainsLists l m ds xs hs → HaveCounts l c
    → first_lists c m ≡ l
taken_back l m ds xs hs c g h =
    let i = taken l.diagrams m.diagrams ds c.diagrams.lists g.diagrams h.diagrams.lists in
    let j = taken l.arrows m.arrows xs c.arrows.lists g.arrows h.arrows.lists in
    let k = taken l.heights m.heights hs c.heights.lists g.heights h.heights.lists in
    λ n. record { diagrams = i n; arrows = j n; heights = k n }

-- ---- whether two entries are equal

abbrev pub label_eq : Label → Label → Bool
label_eq x y = (label_impl.eq-value).it x y

abbrev pub diagram_entry_eq : DiagramEntry → DiagramEntry → Bool
diagram_entry_eq x y = (diagram_impl.eq-value).it x y

abbrev pub arrow_entry_eq : ArrowEntry → ArrowEntry → Bool
arrow_entry_eq x y = (arrow_impl.eq-value).it x y

label_decides : (x y : Label) → Decides (label_eq x y) (x ≡ y)
label_decides x y = (
  λ h. (let p = and_parts (eqb x.number y.number) (eqb x.dim y.dim) h in
      let n = (Decides-eqb x.number y.number).0 p.0 in
      let k = (Decides-eqb x.dim y.dim).0 p.1 in
      λ i. record { number = n i; dim = k i }),
  λ e. and_from (eqb x.number y.number) (eqb x.dim y.dim)
      ((Decides-eqb x.number y.number).1 (ap (λ (z : Label). z.number) e))
      ((Decides-eqb x.dim y.dim).1 (ap (λ (z : Label). z.dim) e)),
)

numbers_same : (x y : ℕ) → Decides (eqb x y) (x ≡ y)
numbers_same x y = Decides-eqb x y

pub diagram_entries_decide : (x y : DiagramEntry) → Decides (diagram_entry_eq x y) (x ≡ y)
diagram_entries_decide (diagram.Zero x) (diagram.Zero y) = (
  λ h. ap (λ z. diagram.Zero z) ((label_decides x y).0 h),
  λ e. (label_decides x y).1 (ap zero_of e),
)
  where
    zero_of : DiagramEntry → Label
    zero_of (diagram.Zero z) = z
    zero_of (diagram.Zig r s f b) = x
diagram_entries_decide (diagram.Zero x) (diagram.Zig r s f b) = (λ h. absurd (true≢false (sym h)), λ e. absurd (apart e))
  where
    apart : diagram.Zero x ≡ diagram.Zig r s f b → ⊥
    apart e = cc
diagram_entries_decide (diagram.Zig r s f b) (diagram.Zero x) = (λ h. absurd (true≢false (sym h)), λ e. absurd (apart e))
  where
    apart : diagram.Zig r s f b ≡ diagram.Zero x → ⊥
    apart e = cc
diagram_entries_decide (diagram.Zig r s f b) (diagram.Zig r2 s2 f2 b2) = (to, from)
  where
    to : diagram_entry_eq (diagram.Zig r s f b) (diagram.Zig r2 s2 f2 b2) ≡ true
        → diagram.Zig r s f b ≡ diagram.Zig r2 s2 f2 b2
    to h =
        let p = and_parts (eqb r r2) (eqb s s2 && (eqb f f2 && eqb b b2)) h in
        let q = and_parts (eqb s s2) (eqb f f2 && eqb b b2) p.1 in
        let o = and_parts (eqb f f2) (eqb b b2) q.1 in
        let i = (numbers_same r r2).0 p.0 in
        let j = (numbers_same s s2).0 q.0 in
        let k = (numbers_same f f2).0 o.0 in
        let m = (numbers_same b b2).0 o.1 in
        cc

    from : diagram.Zig r s f b ≡ diagram.Zig r2 s2 f2 b2
        → diagram_entry_eq (diagram.Zig r s f b) (diagram.Zig r2 s2 f2 b2) ≡ true
    from e =
        let i : r ≡ r2 = cc in
        let j : s ≡ s2 = cc in
        let k : f ≡ f2 = cc in
        let m : b ≡ b2 = cc in
        and_from (eqb r r2) (eqb s s2 && (eqb f f2 && eqb b b2)) ((numbers_same r r2).1 i)
        (and_from (eqb s s2) (eqb f f2 && eqb b b2) ((numbers_same s s2).1 j)
        (and_from (eqb f f2) (eqb b b2) ((numbers_same f f2).1 k) ((numbers_same b b2).1 m)))

pub arrow_entries_decide : (x y : ArrowEntry) → Decides (arrow_entry_eq x y) (x ≡ y)
arrow_entries_decide (arrow.Zero x y) (arrow.Zero z w) = (
  λ h. (let p = and_parts (label_eq x z) (label_eq y w) h in
      ap₂ (λ a b. arrow.Zero a b) ((label_decides x z).0 p.0) ((label_decides y w).0 p.1)),
  λ e. and_from (label_eq x z) (label_eq y w) ((label_decides x z).1 (ap from_of e)) ((label_decides y w).1 (ap to_of e)),
)
  where
    from_of : ArrowEntry → Label
    from_of (arrow.Zero a b) = a
    from_of (arrow.Zig h r s) = x

    to_of : ArrowEntry → Label
    to_of (arrow.Zero a b) = b
    to_of (arrow.Zig h r s) = x
arrow_entries_decide (arrow.Zero x y) (arrow.Zig h r s) = (λ q. absurd (true≢false (sym q)), λ e. absurd (apart e))
  where
    apart : arrow.Zero x y ≡ arrow.Zig h r s → ⊥
    apart e = cc
arrow_entries_decide (arrow.Zig h r s) (arrow.Zero x y) = (λ q. absurd (true≢false (sym q)), λ e. absurd (apart e))
  where
    apart : arrow.Zig h r s ≡ arrow.Zero x y → ⊥
    apart e = cc
arrow_entries_decide (arrow.Zig h r s) (arrow.Zig h2 r2 s2) = (to, from)
  where
    to : arrow_entry_eq (arrow.Zig h r s) (arrow.Zig h2 r2 s2) ≡ true → arrow.Zig h r s ≡ arrow.Zig h2 r2 s2
    to q =
        let p = and_parts (eqb h h2) (eqb r r2 && eqb s s2) q in
        let o = and_parts (eqb r r2) (eqb s s2) p.1 in
        let i = (numbers_same h h2).0 p.0 in
        let j = (numbers_same r r2).0 o.0 in
        let k = (numbers_same s s2).0 o.1 in
        cc

    from : arrow.Zig h r s ≡ arrow.Zig h2 r2 s2 → arrow_entry_eq (arrow.Zig h r s) (arrow.Zig h2 r2 s2) ≡ true
    from e =
        let i : h ≡ h2 = cc in
        let j : r ≡ r2 = cc in
        let k : s ≡ s2 = cc in
        and_from (eqb h h2) (eqb r r2 && eqb s s2) ((numbers_same h h2).1 i)
        (and_from (eqb r r2) (eqb s s2) ((numbers_same r r2).1 j) ((numbers_same s s2).1 k))

-- ---- what is read

-- the entry at a place of a list of views
pub entry_below : {E V : Type 0} → (f : E → V) (es : List E) (i : ℕ) → i < length (map f es) → i < length es
entry_below f es i h = subst (λ n. i < n) (length-map es f) h

pub diagram_held : (l : NodeLists) (ds : List DiagramEntry) (xs : List ArrowEntry) (i : ℕ) (e : DiagramEntry) (r s f b : ℕ)
    → AreHeldBy l ds xs → slice_get ds i ≡ Some e → e ≡ diagram.Zig r s f b
    → HoldsDiagramLists l r s f b (get_or l.diagrams r []) (get_or l.diagrams s []) (get_or l.arrows f []) (get_or l.arrows b [])
diagram_held l ds xs i e r s f b held at is = subst (λ g. ShowsDiagram l g (diagram_view l g)) is (held.diagrams i e at)

pub arrow_held : (l : NodeLists) (ds : List DiagramEntry) (xs : List ArrowEntry) (i : ℕ) (e : ArrowEntry) (h r s : ℕ)
    → AreHeldBy l ds xs → slice_get xs i ≡ Some e → e ≡ arrow.Zig h r s
    → HoldsArrowLists l h r s (get_or l.heights h []) (get_or l.arrows r []) (get_or l.arrows s [])
arrow_held l ds xs i e h r s held at is = subst (λ g. ShowsArrow l g (arrow_view l g)) is (held.arrows i e at)
