-- Orders at small shapes: two loops that nothing orders, a class that reaches itself, and labels that clash in a part.
use Rattle.std.proofs.Common.{◌≡◌, ℕ, zero, suc, ◌<◌, ◌&&◌, nat_eq, Bool, true, false, [], ◌∷◌, length, get_or, refl, sym, ap, subst, arith, inl, inr}
use Rattle.std.specs.Prelude.{◌⊎◌}
use Rattle.std.specs.List.{Contains}
use Rattle.diagram_terms.specs.declared.place.Bias.TheVariants.{Unbiased, Earlier}
use Rattle.diagram_terms.specs.HeightClasses.{HeightShape, HeightMap, Member, member, IsMember, IsBefore, AreJoined, itself, ahead, behind, ComesBefore, Reaches, at_once, further, IsLeastMember}
use Rattle.diagram_terms.specs.OrderFaults.{IsOrderFault, cyclic, unsettled}
use Rattle.diagram_terms.specs.Ranks.{rank_at, HasRank, IsRanked}
use Rattle.diagram_terms.specs.Shapes.{heights_of}
use Rattle.colimit_laws.proofs.Membership.{contains_cases, contains_none, contains_head, contains_tail}
use Rattle.colimit_laws.proofs.Order.{same_where_joined}
use Rattle.colimit_laws.proofs.Samples.{apart, earlier}

-- ---- two loops that nothing orders

abbrev pub H : HeightShape
H = heights_of 0 apart

no_heights : (m : HeightMap) → Contains H.maps m → m.heights ≡ []
no_heights m c = elim (contains_cases (record { from = 1; to = 0; heights = [] }) m (record { from = 1; to = 2; heights = [] } ∷ []) c) [
  | inl e ↦ ap (λ (n : HeightMap). n.heights) (sym e)
  | inr t ↦ elim (contains_cases (record { from = 1; to = 2; heights = [] }) m [] t) [
    | inl e ↦ ap (λ (n : HeightMap). n.heights) (sym e)
    | inr n ↦ contains_none m n
  ]
]

-- each class has one member
pub alone : (s t : Member) → AreJoined H s t → s ≡ t
alone s t j = same_where_joined H (λ (m : Member). m) (λ m c i l. let e = ap length (no_heights m c) in absurd (omega arith)) s t j

abbrev pub Either : Member → Type 0
Either m = (m ≡ member 0 0) ⊎ (m ≡ member 2 0)

members : (o h : ℕ) → o < 3 → h < get_or (1 ∷ 0 ∷ 1 ∷ []) o 0 → Either (member o h)
members zero zero l m = inl refl
members zero (suc h) l m = absurd (omega arith)
members (suc zero) h l m = absurd (omega arith)
members (suc (suc zero)) zero l m = inr refl
members (suc (suc zero)) (suc h) l m = absurd (omega arith)
members (suc (suc (suc o))) h l m = absurd (omega arith)

pub either : (m : Member) → IsMember H m → Either m
either m i = members m.object m.height i.object i.height

-- so nothing comes before anything
single : (o h : ℕ) → o < 3 → suc h < get_or (1 ∷ 0 ∷ 1 ∷ []) o 0 → ⊥
single zero h l m = omega arith
single (suc zero) h l m = omega arith
single (suc (suc zero)) h l m = omega arith
single (suc (suc (suc o))) h l m = omega arith

none_before : (s t : Member) → ComesBefore H s t → ⊥
none_before s t c = let w = c.within in single c.object c.height w.object w.height

pub none_reached : (s t : Member) → Reaches H s t → ⊥
none_reached s t (at_once u c) = none_before s u c
none_reached s t (further u v h c) = none_before u v c

least : (s : Member) → IsMember H s → IsLeastMember H s
least s m = record { is_member = m; least = λ t n j b. let e = alone s t j in let o = ap (λ (m : Member). m.object) e in let h = ap (λ (m : Member). m.height) e in grind arith }

-- without a bias the two are refused
apart_unsettled : IsOrderFault Unbiased H (unsettled (member 0 0) (member 2 0))
apart_unsettled = (
  refl,
  (λ s m r. none_reached s s r),
  record {
    apart = record {
      one = least (member 0 0) (record { object = omega arith; height = omega arith });
      other = least (member 2 0) (record { object = omega arith; height = omega arith });
      smaller = inl (omega arith);
      not_up = none_reached (member 0 0) (member 2 0);
      not_down = none_reached (member 2 0) (member 0 0);
    };
    first = λ s t a b. grind arith;
    second = λ t a b. elim (either t a.other.is_member) [
      | inl e ↦ (let s = a.smaller in let o = ap (λ (m : Member). m.object) e in let h = ap (λ (m : Member). m.height) e in grind arith)
      | inr e ↦ (let o = ap (λ (m : Member). m.object) e in let h = ap (λ (m : Member). m.height) e in grind arith)
    ];
  },
)

-- with the bias `earlier` the first comes first
pub apart_ranked : IsRanked Earlier H earlier
apart_ranked = record {
  acyclic = λ s m r. none_reached s s r;
  settled = λ e. cc;
  rows = refl;
  columns = columns;
  below = λ s m. at_either (λ s. rank_at earlier s < 2) (omega arith) (omega arith) s m;
  onto = onto;
  one_rank = λ s t m n j. ap (rank_at earlier) (alone s t j);
  one_class = λ s t m n. at_either (λ s. rank_at earlier s ≡ rank_at earlier t → AreJoined H s t)
      (at_either (λ t. 0 ≡ rank_at earlier t → AreJoined H (member 0 0) t) (λ e. itself) (λ e. absurd (omega arith)) t n)
      (at_either (λ t. 1 ≡ rank_at earlier t → AreJoined H (member 2 0) t) (λ e. absurd (omega arith)) (λ e. itself) t n) s m;
  available = λ s t m n r. absurd (none_reached s t r);
  chosen = λ s t m n l free. record {
    least = s;
    is_member = m;
    joined = itself;
    below = λ u k j. subst (IsBefore s) (alone t u j) (sooner s t m n l);
  };
}
  where
    at_either : (Q : Member → Type 0) → Q (member 0 0) → Q (member 2 0) → (s : Member) → IsMember H s → Q s
    at_either Q a b s m = elim (either s m) [
      | inl e ↦ subst Q (sym e) a
      | inr e ↦ subst Q (sym e) b
    ]

    columns : (o : ℕ) → o < 3 → length (get_or earlier.ranks o []) ≡ get_or (1 ∷ 0 ∷ 1 ∷ []) o 0
    columns zero l = refl
    columns (suc zero) l = refl
    columns (suc (suc zero)) l = refl
    columns (suc (suc (suc o))) l = absurd (omega arith)

    onto : (k : ℕ) → k < 2 → HasRank earlier k
    onto zero l = record { object = 0; height = 0; within_objects = omega arith; within = omega arith; ranked = refl }
    onto (suc zero) l = record { object = 2; height = 0; within_objects = omega arith; within = omega arith; ranked = refl }
    onto (suc (suc k)) l = absurd (omega arith)

    sooner : (s t : Member) → IsMember H s → IsMember H t → rank_at earlier s < rank_at earlier t → IsBefore s t
    sooner s t m n = at_either (λ s. rank_at earlier s < rank_at earlier t → IsBefore s t)
        (at_either (λ t. 0 < rank_at earlier t → IsBefore (member 0 0) t) (λ l. absurd (omega arith)) (λ l. inl (omega arith)) t n)
        (at_either (λ t. 1 < rank_at earlier t → IsBefore (member 2 0) t) (λ l. absurd (omega arith)) (λ l. absurd (omega arith)) t n) s m

-- ---- a class that reaches itself: both heights of object 1 go to one height of object 0, and round one of object 2

abbrev winding : HeightShape
winding = record {
  lengths = 1 ∷ 2 ∷ 3 ∷ [];
  maps = record { from = 1; to = 0; heights = 0 ∷ 0 ∷ [] } ∷ record { from = 1; to = 2; heights = 0 ∷ 2 ∷ [] } ∷ [];
}

abbrev down_map : HeightMap
down_map = record { from = 1; to = 0; heights = 0 ∷ 0 ∷ [] }

abbrev up_map : HeightMap
up_map = record { from = 1; to = 2; heights = 0 ∷ 2 ∷ [] }

down_among : Contains winding.maps down_map
down_among = contains_head down_map (up_map ∷ [])

up_among : Contains winding.maps up_map
up_among = contains_tail down_map up_map (up_map ∷ []) (contains_head up_map [])

-- whether a member is the one in the middle of object 2
abbrev is_middle : Member → Bool
is_middle m = nat_eq m.object 2 && nat_eq m.height 1

middle_alone : (m : HeightMap) → Contains winding.maps m → (i : ℕ) → i < length m.heights
    → is_middle (member m.from i) ≡ is_middle (member m.to (get_or m.heights i 0))
middle_alone m c = elim (contains_cases down_map m (up_map ∷ []) c) [
  | inl e ↦ subst (λ (m : HeightMap). (i : ℕ) → i < length m.heights → is_middle (member m.from i) ≡ is_middle (member m.to (get_or m.heights i 0))) e down
  | inr t ↦ elim (contains_cases up_map m [] t) [
    | inl e ↦ subst (λ (m : HeightMap). (i : ℕ) → i < length m.heights → is_middle (member m.from i) ≡ is_middle (member m.to (get_or m.heights i 0))) e up
    | inr n ↦ contains_none m n
  ]
]
  where
    down : (i : ℕ) → i < 2 → is_middle (member 1 i) ≡ is_middle (member 0 (get_or (0 ∷ 0 ∷ []) i 0))
    down i l = refl

    up : (i : ℕ) → i < 2 → is_middle (member 1 i) ≡ is_middle (member 2 (get_or (0 ∷ 2 ∷ []) i 0))
    up zero l = refl
    up (suc zero) l = refl
    up (suc (suc i)) l = absurd (omega arith)

winding_cyclic : IsOrderFault Unbiased winding (cyclic (member 0 0))
winding_cyclic = record {
  least = record { is_member = record { object = omega arith; height = omega arith }; least = λ t m j b. grind arith };
  cycle = further (member 2 1) (member 0 0)
      (at_once (member 2 1) (record {
        object = 2;
        height = 0;
        within = record { object = omega arith; height = omega arith };
        first = ahead up_map up_among 0 (omega arith) (behind down_map down_among 0 (omega arith) itself);
        next = itself;
        different = λ j. let e : false ≡ true = same_where_joined winding is_middle middle_alone (member 0 0) (member 2 1) j in cc;
      }))
      (record {
        object = 2;
        height = 1;
        within = record { object = omega arith; height = omega arith };
        first = itself;
        next = ahead up_map up_among 1 (omega arith) (behind down_map down_among 1 (omega arith) itself);
        different = λ j. let e : true ≡ false = same_where_joined winding is_middle middle_alone (member 2 1) (member 0 0) j in cc;
      });
  first = λ t l r b. grind arith;
}
