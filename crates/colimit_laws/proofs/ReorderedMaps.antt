-- The order of the maps has no influence on classes and ranks, nor do repeated maps.
use Rattle.std.proofs.Common.{◌≡◌, ℕ, List, get_or, refl, inl, inr}
use Rattle.std.specs.List.{Contains}
use Rattle.diagram_terms.specs.declared.place.Bias.{Bias}
use Rattle.diagram_terms.specs.declared.place.Bias.TheVariants.{Unbiased, Earlier, Later}
use Rattle.diagram_terms.specs.HeightClasses.{HeightShape, HeightMap, Member, member, IsMember, AreJoined, itself, ahead, behind, ComesBefore, Reaches, at_once, further, IsLeastMember}
use Rattle.diagram_terms.specs.OrderFaults.{AreApart, OrderFault, cyclic, unsettled, IsOrderFault}
use Rattle.diagram_terms.specs.Ranks.{key, HasLesserKey, Ranks, IsRanked}

-- each of the maps is one of the others
abbrev pub AreAmong : List HeightMap → List HeightMap → Type 0
AreAmong maps others = (m : HeightMap) → Contains maps m → Contains others m

module _ (lengths : List ℕ) where
  abbrev pub shape_of : List HeightMap → HeightShape
  shape_of maps = record { lengths = lengths; maps = maps }

  module _ (maps others : List HeightMap) (to : AreAmong maps others) (from : AreAmong others maps) where
    abbrev H : HeightShape
    H = shape_of maps

    abbrev K : HeightShape
    K = shape_of others

    member-moved : (p : Member) → IsMember H p → IsMember K p
    member-moved p m = record { object = m.object; height = m.height }

    member-back : (p : Member) → IsMember K p → IsMember H p
    member-back p m = record { object = m.object; height = m.height }

    joined-moved : (p q : Member) → AreJoined H p q → AreJoined K p q
    joined-moved p q itself = itself
    joined-moved p q (ahead m c i l j) = ahead m (to m c) i l (joined-moved p (member m.from i) j)
    joined-moved p q (behind m c i l j) = behind m (to m c) i l (joined-moved p (member m.to (get_or m.heights i 0)) j)

    joined-back : (p q : Member) → AreJoined K p q → AreJoined H p q
    joined-back p q itself = itself
    joined-back p q (ahead m c i l j) = ahead m (from m c) i l (joined-back p (member m.from i) j)
    joined-back p q (behind m c i l j) = behind m (from m c) i l (joined-back p (member m.to (get_or m.heights i 0)) j)

    step-moved : (p q : Member) → ComesBefore H p q → ComesBefore K p q
    step-moved p q c = record {
      object = c.object;
      height = c.height;
      within = member-moved _ c.within;
      first = joined-moved _ _ c.first;
      next = joined-moved _ _ c.next;
      different = λ j. c.different (joined-back p q j);
    }

    step-back : (p q : Member) → ComesBefore K p q → ComesBefore H p q
    step-back p q c = record {
      object = c.object;
      height = c.height;
      within = member-back _ c.within;
      first = joined-back _ _ c.first;
      next = joined-back _ _ c.next;
      different = λ j. c.different (joined-moved p q j);
    }

    reach-moved : (p q : Member) → Reaches H p q → Reaches K p q
    reach-moved p q (at_once t c) = at_once t (step-moved p t c)
    reach-moved p q (further t u h c) = further t u (reach-moved p t h) (step-moved t u c)

    reach-back : (p q : Member) → Reaches K p q → Reaches H p q
    reach-back p q (at_once t c) = at_once t (step-back p t c)
    reach-back p q (further t u h c) = further t u (reach-back p t h) (step-back t u c)

    -- keys do not depend on the maps
    key-moved : (b : Bias) (p : Member) → key b H p ≡ key b K p
    key-moved Unbiased p = refl
    key-moved Earlier p = refl
    key-moved Later p = refl

    lesser-moved : (b : Bias) (p q : Member) → HasLesserKey b H p q → HasLesserKey b K p q
    lesser-moved b p q k = record {
      least = k.least;
      is_member = member-moved k.least k.is_member;
      joined = joined-moved p k.least k.joined;
      below = λ t m j. rw (← key-moved b k.least, ← key-moved b t) (k.below t (member-back t m) (joined-back q t j));
    }

    pub ranked-moved : (b : Bias) (r : Ranks) → IsRanked b H r → IsRanked b K r
    ranked-moved b r rk = record {
      acyclic = λ p m h. rk.acyclic p (member-back p m) (reach-back p p h);
      settled = λ e p q m n a. elim (rk.settled e p q (member-back p m) (member-back q n) (λ j. a (joined-moved p q j))) [
        | inl h ↦ inl (reach-moved p q h)
        | inr h ↦ inr (reach-moved q p h)
      ];
      rows = rk.rows;
      columns = rk.columns;
      below = λ p m. rk.below p (member-back p m);
      onto = rk.onto;
      one_rank = λ p q m n j. rk.one_rank p q (member-back p m) (member-back q n) (joined-back p q j);
      one_class = λ p q m n e. joined-moved p q (rk.one_class p q (member-back p m) (member-back q n) e);
      available = λ p q m n h. rk.available p q (member-back p m) (member-back q n) (reach-back p q h);
      chosen = λ p q m n l free. lesser-moved b p q (rk.chosen p q (member-back p m) (member-back q n) l
          (λ t mt h. free t (member-moved t mt) (reach-moved t q h)));
    }

    -- ---- faults

    least-moved : (p : Member) → IsLeastMember H p → IsLeastMember K p
    least-moved p l = record { is_member = member-moved p l.is_member; least = λ q m j b. l.least q (member-back q m) (joined-back p q j) b }

    least-back : (p : Member) → IsLeastMember K p → IsLeastMember H p
    least-back p l = record { is_member = member-back p l.is_member; least = λ q m j b. l.least q (member-moved q m) (joined-moved p q j) b }

    apart-moved : (p q : Member) → AreApart H p q → AreApart K p q
    apart-moved p q a = record {
      one = least-moved p a.one;
      other = least-moved q a.other;
      smaller = a.smaller;
      not_up = λ h. a.not_up (reach-back p q h);
      not_down = λ h. a.not_down (reach-back q p h);
    }

    apart-back : (p q : Member) → AreApart K p q → AreApart H p q
    apart-back p q a = record {
      one = least-back p a.one;
      other = least-back q a.other;
      smaller = a.smaller;
      not_up = λ h. a.not_up (reach-moved p q h);
      not_down = λ h. a.not_down (reach-moved q p h);
    }

    pub fault-moved : (b : Bias) (e : OrderFault) → IsOrderFault b H e → IsOrderFault b K e
    fault-moved b (cyclic p) f = record {
      least = least-moved p f.least;
      cycle = reach-moved p p f.cycle;
      first = λ q l h b. f.first q (least-back q l) (reach-back q q h) b;
    }
    fault-moved b (unsettled p q) f = (
      f.0,
      (λ s m h. f.1 s (member-back s m) (reach-back s s h)),
      record {
        apart = apart-moved p q f.2.apart;
        first = λ s t a b. f.2.first s t (apart-back s t a) b;
        second = λ t a b. f.2.second t (apart-back p t a) b;
      },
    )
