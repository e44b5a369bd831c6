-- Under a bias a colimit need not be universal: of two loops that nothing orders, the cocone into the other order has no factor.
use Rattle.std.proofs.Common.{◌≡◌, ℕ, zero, suc, ◌-◌, ◌<◌, ◌≤◌, List, [], ◌∷◌, length, get_or, refl, sym, ap, ◌∙◌, subst, arith, inl, inr}
use Rattle.std.specs.List.{Contains}
use Rattle.diagram_terms.specs.declared.label.Label.{Label}
use Rattle.diagram_terms.specs.declared.place.Bias.TheVariants.{Later, Earlier}
use Rattle.diagram_terms.specs.Family.{Arr, reg, sing, fwd, bwd, height, arrow_reg}
use Rattle.diagram_terms.specs.Dual.{dual}
use Rattle.diagram_terms.specs.Composite.{identity_diagram}
use Rattle.diagram_terms.specs.Identity.{IsIdentity}
use Rattle.diagram_terms.specs.Plain.{Plain, PlainArrow}
use Rattle.diagram_terms.specs.Valid.{ValidArrow, Valid, Commutes}
use Rattle.diagram_terms.proofs.Duals.{dual-nil}
use Rattle.diagram_terms.proofs.Parts.{comp-height}
use Rattle.diagram_terms.specs.HeightClasses.{Member, member, IsMember, itself, IsBefore, AreJoined}
use Rattle.diagram_terms.specs.Shapes.{object, Shape, ShapeArrow, AreConnected, here, forth, back, IsArrowOf, IsShape}
use Rattle.diagram_terms.specs.Ranks.{rank_at, HasRank, IsRanked}
use Rattle.diagram_terms.specs.Cocones.{Cocone, leg, IsCocone, IsFactor}
use Rattle.diagram_terms.specs.ClassParts.{names, place, part}
use Rattle.diagram_terms.specs.Colimits.{cocone_at, glued, glued_apex, glued_leg, IsLabelColimit, IsColimit}
use Rattle.diagram_terms.proofs.Squares.{commutes_by}
use Rattle.colimit_laws.proofs.Membership.{contains_cases, contains_head, contains_tail, contains_none}
use Rattle.colimit_laws.proofs.Samples.{x, p, q, pair, loop, missing, apart, earlier, later, one_label}
use Rattle.colimit_laws.proofs.SampleOrders.{H, either, alone, none_reached}
use Rattle.colimit_laws.proofs.SampleColimits.{loops, apart_colimit, one_label_colimit}
use Rattle.colimit_laws.proofs.Cocones.{colimits_are_plain_cocones}

-- ---- the two loops are a shape

valid_pair : (a b : Label) → a.dim < b.dim → ValidArrow 0 a b (pair a b)
valid_pair a b l = record { from = refl; to = refl; order = inr l }

same_pair : (a : Label) → ValidArrow 0 a a (pair a a)
same_pair a = record { from = refl; to = refl; order = inl refl }

valid_loop : (l : Label) → x.dim < l.dim → Valid 1 (loop l)
valid_loop l up = record {
  regs_len = refl;
  fwds_len = refl;
  bwds_len = refl;
  regs = λ j m. tt;
  sings = λ i m. tt;
  fwds = fwds;
  bwds = bwds;
}
  where
    fwds : (k : ℕ) → k < 1 → ValidArrow 0 (reg 0 (loop l) k) (sing 0 (loop l) k) (fwd 0 (loop l) k)
    fwds zero m = valid_pair x l up
    fwds (suc k) m = absurd (omega arith)

    bwds : (k : ℕ) → k < 1 → ValidArrow 0 (reg 0 (loop l) (suc k)) (sing 0 (loop l) k) (bwd 0 (loop l) k)
    bwds zero m = valid_pair x l up
    bwds (suc k) m = absurd (omega arith)

plain_loop : (l : Label) → Plain 1 (loop l)
plain_loop l = record { regs = λ j m. tt; sings = λ i m. tt; fwds = λ k m. tt; bwds = λ k m. tt }

valid_point : Valid 1 (identity_diagram 0 x)
valid_point = record {
  regs_len = refl;
  fwds_len = refl;
  bwds_len = refl;
  regs = λ j m. tt;
  sings = λ i m. tt;
  fwds = λ k m. absurd (omega arith);
  bwds = λ k m. absurd (omega arith);
}

plain_point : Plain 1 (identity_diagram 0 x)
plain_point = record { regs = λ j m. tt; sings = λ i m. tt; fwds = λ k m. tt; bwds = λ k m. tt }

valid_missing : (l : Label) → ValidArrow 1 (identity_diagram 0 x) (loop l) missing
valid_missing l = record {
  heights_len = refl;
  regs_len = refl;
  sings_len = refl;
  monotone = record { rises = λ i j a m. absurd (omega arith) };
  below = record { below = λ i m. absurd (omega arith) };
  regs = regs;
  sings = λ i m. absurd (omega arith);
  squares = squares;
}
  where
    regs : (j : ℕ) → j ≤ 1 → ValidArrow 0 (reg 0 (identity_diagram 0 x) (dual [] j)) (reg 0 (loop l) j) (arrow_reg 0 missing j)
    regs zero m = rw dual-nil (same_pair x)
    regs (suc zero) m = rw dual-nil (same_pair x)
    regs (suc (suc j)) m = absurd (omega arith)

    squares : (k : ℕ) → k < 1 → Commutes 0 (identity_diagram 0 x) (loop l) missing k
    squares zero m =
        let n = dual-nil 1 in
        commutes_by 0 (identity_diagram 0 x) (loop l) missing zero
        (λ e. refl)
        (λ i e a. absurd (omega arith))
        (λ i a e. absurd (omega arith))
        (λ i a e. absurd (omega arith))
    squares (suc k) m = absurd (omega arith)

plain_missing : PlainArrow 1 missing
plain_missing = record { regs = regs; sings = λ i m. tt }
  where
    regs : (j : ℕ) → j < 2 → IsIdentity 0 (arrow_reg 0 missing j)
    regs zero m = refl
    regs (suc zero) m = refl
    regs (suc (suc j)) m = absurd (omega arith)

abbrev to_p : ShapeArrow 1
to_p = record { from = 1; to = 0; arrow = missing }

abbrev to_q : ShapeArrow 1
to_q = record { from = 1; to = 2; arrow = missing }

apart_shape : IsShape 1 apart
apart_shape = record {
  nonempty = omega arith;
  valid = valid;
  plain = plain;
  arrows = arrows;
  connected = λ a b l m. through a b l m;
}
  where
    valid : (k : ℕ) → k < 3 → Valid 1 (object 1 apart k)
    valid zero l = valid_loop p (omega arith)
    valid (suc zero) l = valid_point
    valid (suc (suc zero)) l = valid_loop q (omega arith)
    valid (suc (suc (suc k))) l = absurd (omega arith)

    plain : (k : ℕ) → k < 3 → Plain 1 (object 1 apart k)
    plain zero l = plain_loop p
    plain (suc zero) l = plain_point
    plain (suc (suc zero)) l = plain_loop q
    plain (suc (suc (suc k))) l = absurd (omega arith)

    arrows : (g : ShapeArrow 1) → Contains apart.arrows g → IsArrowOf 1 apart g
    arrows g c = elim (contains_cases to_p g (to_q ∷ []) c) [
      | inl e ↦ subst (IsArrowOf 1 apart) e (record { from_within = omega arith; to_within = omega arith; valid = valid_missing p; plain = plain_missing })
      | inr t ↦ elim (contains_cases to_q g [] t) [
        | inl e ↦ subst (IsArrowOf 1 apart) e (record { from_within = omega arith; to_within = omega arith; valid = valid_missing q; plain = plain_missing })
        | inr n ↦ contains_none g n
      ]
    ]

    -- from each object to the one in the middle, and on
    to_middle : (a : ℕ) → a < 3 → AreConnected 1 apart a 1
    to_middle zero l = back to_p (contains_head to_p (to_q ∷ [])) here
    to_middle (suc zero) l = here
    to_middle (suc (suc zero)) l = back to_q (contains_tail to_p to_q (to_q ∷ []) (contains_head to_q [])) here
    to_middle (suc (suc (suc a))) l = absurd (omega arith)

    through : (a b : ℕ) → a < 3 → b < 3 → AreConnected 1 apart a b
    through a zero l m = forth to_p (contains_head to_p (to_q ∷ [])) (to_middle a l)
    through a (suc zero) l m = to_middle a l
    through a (suc (suc zero)) l m = forth to_q (contains_tail to_p to_q (to_q ∷ []) (contains_head to_q [])) (to_middle a l)
    through a (suc (suc (suc b))) l m = absurd (omega arith)

-- ---- its colimit with the other bias

-- the key of a member, with the last object first
abbrev flipped : Member → Member
flipped s = member (3 - 1 - s.object) s.height

apart_ranked_later : IsRanked Later H later
apart_ranked_later = record {
  acyclic = λ s m r. none_reached s s r;
  settled = λ e. cc;
  rows = refl;
  columns = columns;
  below = λ s m. at_either (λ s. rank_at later s < 2) (omega arith) (omega arith) s m;
  onto = onto;
  one_rank = λ s t m n j. ap (rank_at later) (alone s t j);
  one_class = λ s t m n. at_either (λ s. rank_at later s ≡ rank_at later t → AreJoined H s t)
      (at_either (λ t. 1 ≡ rank_at later t → AreJoined H (member 0 0) t) (λ e. itself) (λ e. absurd (omega arith)) t n)
      (at_either (λ t. 0 ≡ rank_at later t → AreJoined H (member 2 0) t) (λ e. absurd (omega arith)) (λ e. itself) t n) s m;
  available = λ s t m n r. absurd (none_reached s t r);
  chosen = λ s t m n l free. record {
    least = s;
    is_member = m;
    joined = itself;
    below = λ u k j. subst (λ (v : Member). IsBefore (flipped s) (flipped v)) (alone t u j) (sooner s t m n l);
  };
}
  where
    at_either : (Q : Member → Type 0) → Q (member 0 0) → Q (member 2 0) → (s : Member) → IsMember H s → Q s
    at_either Q a b s m = elim (either s m) [
      | inl e ↦ subst Q (sym e) a
      | inr e ↦ subst Q (sym e) b
    ]

    columns : (o : ℕ) → o < 3 → length (get_or later.ranks o []) ≡ get_or (1 ∷ 0 ∷ 1 ∷ []) o 0
    columns zero l = refl
    columns (suc zero) l = refl
    columns (suc (suc zero)) l = refl
    columns (suc (suc (suc o))) l = absurd (omega arith)

    onto : (k : ℕ) → k < 2 → HasRank later k
    onto zero l = record { object = 2; height = 0; within_objects = omega arith; within = omega arith; ranked = refl }
    onto (suc zero) l = record { object = 0; height = 0; within_objects = omega arith; within = omega arith; ranked = refl }
    onto (suc (suc k)) l = absurd (omega arith)

    sooner : (s t : Member) → IsMember H s → IsMember H t → rank_at later s < rank_at later t → IsBefore (flipped s) (flipped t)
    sooner s t m n = at_either (λ s. rank_at later s < rank_at later t → IsBefore (flipped s) (flipped t))
        (at_either (λ t. 1 < rank_at later t → IsBefore (flipped (member 0 0)) (flipped t)) (λ l. absurd (omega arith)) (λ l. absurd (omega arith)) t n)
        (at_either (λ t. 0 < rank_at later t → IsBefore (flipped (member 2 0)) (flipped t)) (λ l. inl (omega arith)) (λ l. absurd (omega arith)) t n) s m

abbrev loops_later : List (Cocone 0)
loops_later = one_label q ∷ one_label p ∷ []

later_part_q : part 0 apart later 0 ≡ record { objects = q ∷ []; arrows = [] }
later_part_q = unfold part names place dual in refl

later_part_p : part 0 apart later 1 ≡ record { objects = p ∷ []; arrows = [] }
later_part_p = unfold part names place dual in refl

apart_colimit_later : IsColimit 1 apart (Later ∷ []) (glued 0 apart later loops_later)
apart_colimit_later = record {
  ranks = later;
  ranked = apart_ranked_later;
  parts = loops_later;
  parts_len = refl;
  parts_are = parts_are;
  is_glued = refl;
}
  where
    parts_are : (k : ℕ) → k < 2 → IsLabelColimit (part 0 apart later k) (cocone_at 0 loops_later k)
    parts_are zero l = subst (λ (S : Shape 0). IsLabelColimit S (one_label q)) (sym later_part_q) (one_label_colimit q)
    parts_are (suc zero) l = subst (λ (S : Shape 0). IsLabelColimit S (one_label p)) (sym later_part_p) (one_label_colimit p)
    parts_are (suc (suc k)) l = absurd (omega arith)

-- ---- no factor

abbrev first : Cocone 1
first = glued 0 apart earlier loops

abbrev other : Cocone 1
other = glued 0 apart later loops_later

other_cocone : IsCocone 1 apart other
other_cocone = (colimits_are_plain_cocones 1 apart (Later ∷ []) other apart_shape apart_colimit_later).cocone

first_colimit : IsColimit 1 apart (Earlier ∷ []) first
first_colimit = apart_colimit

-- what the factor would do to the two heights
sends : (v : Arr 1) → IsFactor 1 apart first other v → (height 0 v 0 ≡ 1) × (height 0 v 1 ≡ 0)
unfolding glued_leg
sends v f = (
  sym (comp-height 0 v (leg 1 first 0) 0 (omega arith)) ∙ ap (λ (g : Arr 1). height 0 g 0) (f.gives 0 (omega arith)),
  sym (comp-height 0 v (leg 1 first 2) 0 (omega arith)) ∙ ap (λ (g : Arr 1). height 0 g 0) (f.gives 2 (omega arith)),
)

no_factor : (v : Arr 1) → IsFactor 1 apart first other v → ⊥
unfolding glued_apex
no_factor v f =
    let s = sends v f in
    let low = s.0 in
    let high = s.1 in
    let n = f.valid.heights_len in
    let up = f.valid.monotone.rises 0 1 (omega arith) (omega arith) in
    omega arith
