-- The graph of a shape: its classes are the classes of places, and its edges the steps between them.
use Rattle.std.proofs.Common.{◌≡◌, ℕ, ◌<◌, List, length, get_or, sym, ap, ◌∙◌, subst, arith}
use Rattle.std.specs.List.{Contains}
use Rattle.diagram_terms.specs.Dual.{upto}
use Rattle.diagram_terms.specs.HeightClasses.{HeightShape, HeightMap, Member, member, IsHeightShape, AreJoined, itself, ahead, behind}
use Rattle.colimit_laws.proofs.Membership.{contains_map, from_map, contains_flat, from_flat, contains_range, from_range}
use Rattle.colimit_laws.proofs.Order.{source-member, target-member}
use Rattle.height_order.specs.declared.classes.Join.{Join}
use Rattle.height_order.specs.declared.reach.Edge.{Edge}
use Rattle.height_order.specs.Classes as classes
use Rattle.height_order.specs.Classes.{AreWithin, AreLinked, AreClasses}
use Rattle.height_order.specs.Places.{at, place, AreMembers, joins_of, AreJoins}
use Rattle.height_order.specs.Reaching.{AreEdges}
use Rattle.height_order.specs.Graph.{IsGraph}
use Rattle.height_order.proofs.Linked.{class-low, class-same, class-joined}
use Rattle.height_order.proofs.Members.{place-within, at-place}
use Rattle.height_order.proofs.Joining.{join_at}

module _ (H : HeightShape) (vH : IsHeightShape H) (first : List ℕ) (members : List (ℕ × ℕ)) (a : AreMembers H.lengths first members) where
  -- the map and the height of a join
  record FromMap (j : Join) : Type 0 where
    map : HeightMap
    among : Contains H.maps map
    height : ℕ
    within : height < length map.heights
    is_join : join_at first map.from map.to map.heights height ≡ j

  module _ (joins : List Join) (aj : AreJoins first H.maps joins) where
    from-map : (j : Join) → Contains joins j → FromMap j
    from-map j c =
        let f = from_flat (joins_of first) H.maps j (subst (λ (js : List Join). Contains js j) aj c) in
        let m : HeightMap = f.0 in
        let g = from_map (join_at first m.from m.to m.heights) (upto (length m.heights)) j f.2 in
        let b = (from_range 0 (length m.heights) g.0 g.1).1 in
        record { map = m; among = f.1; height = g.0; within = omega arith; is_join = g.2 }

    join-among : (m : HeightMap) → Contains H.maps m → (i : ℕ) → i < length m.heights → Contains joins (join_at first m.from m.to m.heights i)
    join-among m c i l = subst (λ (js : List Join). Contains js (join_at first m.from m.to m.heights i)) (sym aj)
        (contains_flat (joins_of first) H.maps m (join_at first m.from m.to m.heights i) c
        (contains_map (join_at first m.from m.to m.heights) (upto (length m.heights)) i (contains_range 0 (length m.heights) i (omega arith) (omega arith))))

    -- the ends of a join are places of members
    one-is : (j : Join) (f : FromMap j) → (j.one < length members) × (at members j.one ≡ member f.map.from f.height)
    one-is j f =
        let m = source-member H vH f.map f.among f.height f.within in
        let e : place first (member f.map.from f.height) ≡ j.one = ap (λ (k : Join). k.one) f.is_join in
        let w = place-within H first members a (member f.map.from f.height) m in
        (omega arith, ap (at members) (sym e) ∙ at-place H first members a (member f.map.from f.height) m)

    other-is : (j : Join) (f : FromMap j) → (j.other < length members) × (at members j.other ≡ member f.map.to (get_or f.map.heights f.height 0))
    other-is j f =
        let m = target-member H vH f.map f.among f.height f.within in
        let e : place first (member f.map.to (get_or f.map.heights f.height 0)) ≡ j.other = ap (λ (k : Join). k.other) f.is_join in
        let w = place-within H first members a (member f.map.to (get_or f.map.heights f.height 0)) m in
        (omega arith, ap (at members) (sym e) ∙ at-place H first members a (member f.map.to (get_or f.map.heights f.height 0)) m)

    pub joins-within : AreWithin (length members) joins
    joins-within j c = (let f = from-map j c in ((one-is j f).0, (other-is j f).0))

    pub linked-joined : (p q : ℕ) → AreLinked joins p q → AreJoined H (at members p) (at members q)
    linked-joined p q classes.itself = itself
    linked-joined p q (classes.ahead j c b) =
        let f = from-map j c in
        subst (AreJoined H (at members p)) (sym (other-is j f).1)
        (ahead f.map f.among f.height f.within (subst (AreJoined H (at members p)) (one-is j f).1 (linked-joined p j.one b)))
    linked-joined p q (classes.behind j c b) =
        let f = from-map j c in
        subst (AreJoined H (at members p)) (sym (one-is j f).1)
        (behind f.map f.among f.height f.within (subst (AreJoined H (at members p)) (other-is j f).1 (linked-joined p j.other b)))

    pub joined-linked : (p q : Member) → AreJoined H p q → AreLinked joins (place first p) (place first q)
    joined-linked p q itself = classes.itself
    joined-linked p q (ahead m c i l b) = classes.ahead (join_at first m.from m.to m.heights i) (join-among m c i l) (joined-linked p (member m.from i) b)
    joined-linked p q (behind m c i l b) = classes.behind (join_at first m.from m.to m.heights i) (join-among m c i l) (joined-linked p (member m.to (get_or m.heights i 0)) b)

    module _ (cs : List ℕ) (ac : AreClasses (length members) joins cs) (edges : List Edge) (ae : AreEdges (length members) members cs edges) where
      joined-same : (p q : ℕ) → p < length members → q < length members → AreJoined H (at members p) (at members q) → get_or cs p 0 ≡ get_or cs q 0
      joined-same p q l m j = class-same joins (length members) joins-within cs ac p q l
          (subst (λ (x : ℕ). AreLinked joins x q) (a.place_at p l) (subst (AreLinked joins (place first (at members p))) (a.place_at q m) (joined-linked (at members p) (at members q) j)))

      pub graph-made : IsGraph H first members cs edges
      graph-made = record {
        placed = a;
        classes_len = ac.len;
        joined = λ p q l m. (λ e. linked-joined p q (class-joined joins (length members) joins-within cs ac p q l m e), joined-same p q l m);
        low = class-low joins (length members) joins-within cs ac;
        class_same = λ p l. sym (class-same joins (length members) joins-within cs ac p (get_or cs p 0) l (ac.linked p l));
        steps = ae;
      }
