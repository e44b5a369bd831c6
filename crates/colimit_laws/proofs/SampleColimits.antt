-- Colimits at small shapes: two loops with a bias, and labels that clash in a part.
use Rattle.std.proofs.Common.{◌≡◌, ℕ, zero, suc, ◌<◌, ◌≤◌, List, [], ◌∷◌, length, get_or, refl, sym, ap, subst, arith, inl, inr}
use Rattle.diagram_terms.specs.declared.label.Label.{Label}
use Rattle.diagram_terms.specs.declared.place.Bias.TheVariants.{Unbiased, Earlier}
use Rattle.diagram_terms.specs.Labels.{IsAtMost, IsFirstClash}
use Rattle.diagram_terms.specs.Dual.{dual}
use Rattle.diagram_terms.specs.Family.{Arr}
use Rattle.diagram_terms.specs.HeightClasses.{HeightShape, HeightMap, Member, member, IsMember, AreJoined, itself, ahead, Reaches, at_once, further}
use Rattle.diagram_terms.specs.Ranks.{Ranks, rank_at, HasRank, IsRanked}
use Rattle.diagram_terms.specs.Shapes.{Shape, heights_of}
use Rattle.diagram_terms.specs.Cocones.{Cocone}
use Rattle.diagram_terms.specs.ClassParts.{names, place, part}
use Rattle.diagram_terms.specs.Colimits.{cocone_at, glued, IsLabelColimit, IsColimit}
use Rattle.diagram_terms.specs.ColimitRefusals.{IsRefused, clash, in_part}
use Rattle.colimit_laws.proofs.Membership.{contains_head, contains_tail}
use Rattle.colimit_laws.proofs.Order.{joined-trans, joined-sym}
use Rattle.colimit_laws.proofs.Samples.{cell, x, p, q, pair, loop, apart, earlier, one_label}
use Rattle.colimit_laws.proofs.SampleOrders.{apart_ranked}

-- ---- two loops, with the bias `earlier`

pub one_label_colimit : (l : Label) → IsLabelColimit (record { objects = l ∷ []; arrows = [] }) (one_label l)
one_label_colimit l = record { join = record { among = contains_head l []; above = above }; legs = refl }
  where
    above : (k : ℕ) (e : Label) → k < 1 → IsAtMost (get_or (l ∷ []) k e) l
    above zero e m = inl refl
    above (suc k) e m = absurd (omega arith)

abbrev pub loops : List (Cocone 0)
loops = one_label p ∷ one_label q ∷ []

part_p : part 0 apart earlier 0 ≡ record { objects = p ∷ []; arrows = [] }
part_p = unfold part names place dual in refl

part_q : part 0 apart earlier 1 ≡ record { objects = q ∷ []; arrows = [] }
part_q = unfold part names place dual in refl

pub apart_colimit : IsColimit 1 apart (Earlier ∷ []) (glued 0 apart earlier loops)
apart_colimit = record {
  ranks = earlier;
  ranked = apart_ranked;
  parts = loops;
  parts_len = refl;
  parts_are = parts_are;
  is_glued = refl;
}
  where
    parts_are : (k : ℕ) → k < 2 → IsLabelColimit (part 0 apart earlier k) (cocone_at 0 loops k)
    parts_are zero l = subst (λ (S : Shape 0). IsLabelColimit S (one_label p)) (sym part_p) (one_label_colimit p)
    parts_are (suc zero) l = subst (λ (S : Shape 0). IsLabelColimit S (one_label q)) (sym part_q) (one_label_colimit q)
    parts_are (suc (suc k)) l = absurd (omega arith)

-- ---- two loops with labels of one dimension, over a loop that goes to both

abbrev f : Label
f = cell 1 1

abbrev into : Label → Arr 1
into l = record { heights = 0 ∷ []; regs = pair x x ∷ pair x x ∷ []; sings = pair f l ∷ [] }

abbrev clashing : Shape 1
clashing = record {
  objects = loop p ∷ loop f ∷ loop q ∷ [];
  arrows = record { from = 1; to = 0; arrow = into p } ∷ record { from = 1; to = 2; arrow = into q } ∷ [];
}

abbrev H : HeightShape
H = heights_of 0 clashing

abbrev all_one : Ranks
all_one = record { ranks = (0 ∷ []) ∷ (0 ∷ []) ∷ (0 ∷ []) ∷ []; count = 1 }

abbrev to_p : HeightMap
to_p = record { from = 1; to = 0; heights = 0 ∷ [] }

abbrev to_q : HeightMap
to_q = record { from = 1; to = 2; heights = 0 ∷ [] }

-- all heights are in one class
from_f : (o h : ℕ) → o < 3 → h < get_or (1 ∷ 1 ∷ 1 ∷ []) o 0 → AreJoined H (member 1 0) (member o h)
from_f zero zero l m = ahead to_p (contains_head to_p (to_q ∷ [])) 0 (omega arith) itself
from_f (suc zero) zero l m = itself
from_f (suc (suc zero)) zero l m = ahead to_q (contains_tail to_p to_q (to_q ∷ []) (contains_head to_q [])) 0 (omega arith) itself
from_f zero (suc h) l m = absurd (omega arith)
from_f (suc zero) (suc h) l m = absurd (omega arith)
from_f (suc (suc zero)) (suc h) l m = absurd (omega arith)
from_f (suc (suc (suc o))) h l m = absurd (omega arith)

one_class : (s t : Member) → IsMember H s → IsMember H t → AreJoined H s t
one_class s t m n = joined-trans H s (member 1 0) t (joined-sym H (member 1 0) s (from_f s.object s.height m.object m.height))
    (from_f t.object t.height n.object n.height)

rank_zero : (o h : ℕ) → o < 3 → h < get_or (1 ∷ 1 ∷ 1 ∷ []) o 0 → rank_at all_one (member o h) ≡ 0
rank_zero zero zero l m = refl
rank_zero (suc zero) zero l m = refl
rank_zero (suc (suc zero)) zero l m = refl
rank_zero zero (suc h) l m = absurd (omega arith)
rank_zero (suc zero) (suc h) l m = absurd (omega arith)
rank_zero (suc (suc zero)) (suc h) l m = absurd (omega arith)
rank_zero (suc (suc (suc o))) h l m = absurd (omega arith)

single : (o h : ℕ) → o < 3 → suc h < get_or (1 ∷ 1 ∷ 1 ∷ []) o 0 → ⊥
single zero h l m = omega arith
single (suc zero) h l m = omega arith
single (suc (suc zero)) h l m = omega arith
single (suc (suc (suc o))) h l m = omega arith

none_reached : (s t : Member) → Reaches H s t → ⊥
none_reached s t (at_once u c) = let w = c.within in single c.object c.height w.object w.height
none_reached s t (further u v h c) = let w = c.within in single c.object c.height w.object w.height

all_ranked : IsRanked Unbiased H all_one
all_ranked = record {
  acyclic = λ s m r. none_reached s s r;
  settled = λ e s t m n j. absurd (j (one_class s t m n));
  rows = refl;
  columns = columns;
  below = λ s m. let e = zero_at s m in omega arith;
  onto = onto;
  one_rank = λ s t m n j. let a = zero_at s m in let b = zero_at t n in omega arith;
  one_class = λ s t m n e. one_class s t m n;
  available = λ s t m n r. absurd (none_reached s t r);
  chosen = λ s t m n l free. absurd (let a = zero_at s m in let b = zero_at t n in omega arith);
}
  where
    zero_at : (s : Member) → IsMember H s → rank_at all_one s ≡ 0
    zero_at s m = rank_zero s.object s.height m.object m.height

    columns : (o : ℕ) → o < 3 → length (get_or all_one.ranks o []) ≡ get_or (1 ∷ 1 ∷ 1 ∷ []) o 0
    columns zero l = refl
    columns (suc zero) l = refl
    columns (suc (suc zero)) l = refl
    columns (suc (suc (suc o))) l = absurd (omega arith)

    onto : (k : ℕ) → k < 1 → HasRank all_one k
    onto zero l = record { object = 0; height = 0; within_objects = omega arith; within = omega arith; ranked = refl }
    onto (suc k) l = absurd (omega arith)

part_labels : (part 0 clashing all_one 0).objects ≡ p ∷ f ∷ q ∷ []
part_labels = unfold part names dual in refl

first_clash : IsFirstClash (p ∷ f ∷ q ∷ []) p q
first_clash = record {
  before = [];
  between = f ∷ [];
  after = [];
  places = refl;
  greatest = greatest;
  first = λ k e l. absurd (omega arith);
  same_dimension = refl;
  different = λ e. let n = ap (λ (l : Label). l.number) e in omega arith;
  next = next;
}
  where
    greatest : (k : ℕ) (e : Label) → k < 3 → (get_or (p ∷ f ∷ q ∷ []) k e).dim ≤ 2
    greatest zero e l = omega arith
    greatest (suc zero) e l = omega arith
    greatest (suc (suc zero)) e l = omega arith
    greatest (suc (suc (suc k))) e l = absurd (omega arith)

    next : (k : ℕ) (e : Label) → k < 1 → IsAtMost (get_or (f ∷ []) k e) p
    next zero e l = inr (omega arith)
    next (suc k) e l = absurd (omega arith)

-- the refusal stands in the part of rank 0
clashing_refused : IsRefused 1 clashing [] (record { ranks = 0 ∷ []; cause = clash p q })
clashing_refused = in_part all_one all_ranked 0 (omega arith) (λ j l. absurd (omega arith)) (record { ranks = []; cause = clash p q }) (record {
  one = p;
  other = q;
  clashes = subst (λ (ls : List Label). IsFirstClash ls p q) (sym part_labels) first_clash;
  is_refusal = refl;
})
