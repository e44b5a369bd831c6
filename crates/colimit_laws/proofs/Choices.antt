-- The legs of the apex do not depend on the object from which they are taken.
use Rattle.std.proofs.Common.{◌≡◌, ℕ, zero, suc, ◌-◌, ◌<◌, ◌≤◌, List, [], ◌∷◌, Bool, length, get_or, refl, sym, ap, ◌∙◌, arith, inl, inr}
use Rattle.std.specs.Prelude.{◌⊎◌, if◌then◌else◌}
use Rattle.std.specs.List.{Contains}
use Rattle.std.proofs.lemmas.Bool.{cases_lt, lt-ltb, le-ltb}
use Rattle.diagram_terms.specs.declared.place.Height.TheVariants as slice
use Rattle.diagram_terms.specs.Family.{Arr, height}
use Rattle.diagram_terms.specs.Dual.{dual}
use Rattle.diagram_terms.proofs.Duals.{fibre_low, fibre_high, dual_mono}
use Rattle.diagram_terms.specs.HeightClasses.{member}
use Rattle.diagram_terms.specs.Ranks.{Ranks, ranks_of}
use Rattle.colimit_laws.specs.RankConditions.{AreRanks}
use Rattle.diagram_terms.specs.Shapes.{Shape, ShapeArrow, AreConnected, here, forth, back, IsShape, heights_of}
use Rattle.diagram_terms.specs.Cocones.{Cocone, IsPlainCocone}
use Rattle.diagram_terms.specs.ClassParts.{part}
use Rattle.diagram_terms.specs.Colimits.{cocone_at, enter_class, leave_class, first_with}
use Rattle.colimit_laws.proofs.Names.{IsInPart}
use Rattle.colimit_laws.proofs.Ranked.{rows-len, dual-along, arrow-of}
use Rattle.colimit_laws.proofs.Parts.{sing-in_part}
use Rattle.colimit_laws.proofs.PartShapes.{sing-height, target-in_part, sings-joined, holds_where_joined, member-in_part}
use Rattle.colimit_laws.proofs.ClassEdges.{enter, leave, enter-missed, enter-same, leave-same, enter-first, leave-last}

-- some height of x has the rank k
abbrev pub HasMember : Ranks → ℕ → ℕ → Type 0
HasMember r k x = dual (ranks_of r x) k < dual (ranks_of r x) (suc k)

-- ---- the first object with a member

first-here : (hs : List ℕ) (rest : List (List ℕ)) (k : ℕ) → dual hs k < dual hs (suc k) → first_with (hs ∷ rest) k ≡ 0
first-here hs rest k l = ap (λ (t : Bool). if t then 0 else suc (first_with rest k)) (lt-ltb (dual hs k) (dual hs (suc k)) l)

first-later : (hs : List ℕ) (rest : List (List ℕ)) (k : ℕ) → dual hs (suc k) ≤ dual hs k → first_with (hs ∷ rest) k ≡ suc (first_with rest k)
first-later hs rest k l = ap (λ (t : Bool). if t then 0 else suc (first_with rest k)) (le-ltb (dual hs k) (dual hs (suc k)) l)

-- x is the first list in which some height goes to k, or an earlier one is
abbrev pub IsFound : List (List ℕ) → ℕ → ℕ → Type 0
IsFound rows k x = (x < length rows) × (dual (get_or rows x []) k < dual (get_or rows x []) (suc k))

found-later : (hs : List ℕ) (rest : List (List ℕ)) (k : ℕ) → dual hs (suc k) ≤ dual hs k → IsFound rest k (first_with rest k)
    → IsFound (hs ∷ rest) k (first_with (hs ∷ rest) k)
found-later hs rest k p f = let e = first-later hs rest k p in let l = f.0 in rw e (omega arith, f.1)

pub first_with-found : (rows : List (List ℕ)) (k x : ℕ) → IsFound rows k x → IsFound rows k (first_with rows k)
first_with-found [] k x f = absurd (let l = f.0 in omega arith)
first_with-found (hs ∷ rest) k zero f = let e = first-here hs rest k f.1 in rw e f
first_with-found (hs ∷ rest) k (suc x) f = elim (cases_lt (dual hs k) (dual hs (suc k))) [
  | inl p ↦ (let e = first-here hs rest k p in rw e (omega arith, p))
  | inr p ↦ found-later hs rest k p (first_with-found rest k x ((let l = f.0 in omega arith), f.1))
]

-- ---- what does not depend on the object

module _ (d : ℕ) (S : Shape (suc d)) (vS : IsShape (suc d) S) (r : Ranks) (ar : AreRanks (heights_of d S) r) (parts : List (Cocone d))
    (k : ℕ) (good : IsPlainCocone d (part d S r k) (cocone_at d parts k)) where
  abbrev first_edge : ℕ → Arr d
  first_edge x = enter d S vS r ar parts k good x (dual (ranks_of r x) k)

  abbrev last_edge : ℕ → Arr d
  last_edge x = leave d S vS r ar parts k good x (dual (ranks_of r x) (suc k) - 1)

  pub enter_class-is : (x : ℕ) → enter_class d S r parts k x ≡ first_edge x
  unfolding enter_class enter
  enter_class-is x = refl

  pub leave_class-is : (x : ℕ) → leave_class d S r parts k x ≡ last_edge x
  unfolding leave_class leave
  leave_class-is x = refl

  pub first-member : (x : ℕ) → x < length S.objects → HasMember r k x → IsInPart r k x (slice.S (dual (ranks_of r x) k))
  first-member x l h = sing-in_part d S vS r ar k x (dual (ranks_of r x) k) l (omega arith) h

  pub last-member : (x : ℕ) → x < length S.objects → HasMember r k x → IsInPart r k x (slice.S (dual (ranks_of r x) (suc k) - 1))
  last-member x l h = sing-in_part d S vS r ar k x (dual (ranks_of r x) (suc k) - 1) l (omega arith) (omega arith)

  -- along an arrow whose source has a member, and so its target
  module _ (g : ShapeArrow (suc d)) (c : Contains S.arrows g) (h : HasMember r k g.from) where
    heights-rise : (i j : ℕ) → i ≤ j → dual g.arrow.heights i ≤ dual g.arrow.heights j
    heights-rise i j l = dual_mono g.arrow.heights (arrow-of d S vS r ar g c).valid.monotone i j l

    target-has : HasMember r k g.to
    target-has =
        let v = arrow-of d S vS r ar g c in
        let p = target-in_part d S vS r ar k g c (dual (ranks_of r g.from) k) (first-member g.from v.from_within h) in
        let w = p.height in
        let l = w.0 in let m = w.1 in
        omega arith

    first_edge-along : first_edge g.from ≡ first_edge g.to
    first_edge-along =
        let v = arrow-of d S vS r ar g c in
        let i : ℕ = dual (ranks_of r g.from) k in
        let p = first-member g.from v.from_within h in
        let u : ℕ = height d g.arrow i in
        let w = (target-in_part d S vS r ar k g c i p).height in
        let l = w.0 in let m = w.1 in
        let n = v.valid.heights_len in
        let li : i < length g.arrow.heights = let s = sing-height d S vS r ar k g.from i p in omega arith in
        let up = fibre_low g.arrow.heights v.valid.monotone i u refl in
        let next = fibre_high g.arrow.heights v.valid.monotone i u li refl in
        let start = dual-along d S vS r ar g c k in
        let mono = heights-rise (dual (ranks_of r g.to) k) u l in
        let e : dual g.arrow.heights u ≡ i = omega arith in
        sym (enter-same d S vS r ar parts k good g c (dual (ranks_of r g.to) k) u l (omega arith) m (omega arith)
        ∙ enter-first d S vS r ar parts k good g c u i p refl m e next)

    last_edge-along : last_edge g.from ≡ last_edge g.to
    last_edge-along =
        let v = arrow-of d S vS r ar g c in
        let i : ℕ = dual (ranks_of r g.from) (suc k) - 1 in
        let p = last-member g.from v.from_within h in
        let u : ℕ = height d g.arrow i in
        let w = (target-in_part d S vS r ar k g c i p).height in
        let l = w.0 in let m = w.1 in
        let n = v.valid.heights_len in
        let li : i < length g.arrow.heights = let s = sing-height d S vS r ar k g.from i p in omega arith in
        let up = fibre_low g.arrow.heights v.valid.monotone i u refl in
        let next = fibre_high g.arrow.heights v.valid.monotone i u li refl in
        let end = dual-along d S vS r ar g c (suc k) in
        let mono = heights-rise (suc u) (dual (ranks_of r g.to) (suc k)) m in
        let e : suc i ≡ dual g.arrow.heights (suc u) = omega arith in
        let top : suc (dual (ranks_of r g.to) (suc k) - 1) ≡ dual (ranks_of r g.to) (suc k) = omega arith in
        let same : dual g.arrow.heights (suc u) ≡ dual g.arrow.heights (suc (dual (ranks_of r g.to) (suc k) - 1)) =
        (omega arith) ∙ ap (dual g.arrow.heights) (sym top) in
        sym (leave-last d S vS r ar parts k good g c u i p refl m up e)
        ∙ leave-same d S vS r ar parts k good g c u (dual (ranks_of r g.to) (suc k) - 1) (omega arith) l (omega arith) same

  -- all objects that have members
  abbrev SameEdges : ℕ → ℕ → Type 0
  SameEdges x y = (first_edge x ≡ first_edge y) × (last_edge x ≡ last_edge y)

  part-has : (x i : ℕ) → IsInPart r k x (slice.S i) → HasMember r k x
  part-has x i p = let w = p.height in let l = w.0 in let m = w.1 in omega arith

  pub edges-agree : (x y : ℕ) → x < length S.objects → y < length S.objects → HasMember r k x → HasMember r k y → SameEdges x y
  edges-agree x y lx ly hx hy =
      let p = first-member x lx hx in
      let q = first-member y ly hy in
      (holds_where_joined d S vS r ar k (λ q. SameEdges x q.object)
      (λ g c i s e. (e.0 ∙ first_edge-along g c (part-has g.from i s), e.1 ∙ last_edge-along g c (part-has g.from i s)))
      (λ g c i s e. (e.0 ∙ sym (first_edge-along g c (part-has g.from i s)), e.1 ∙ sym (last_edge-along g c (part-has g.from i s))))
      (member x (dual (ranks_of r x) k)) (member y (dual (ranks_of r y) k)) (p, (refl, refl))
      (sings-joined d S vS r ar k x (dual (ranks_of r x) k) y (dual (ranks_of r y) k) p q)).1

  -- an arrow into an object with members from one without
  edges-meet : (g : ShapeArrow (suc d)) → Contains S.arrows g → HasMember r k g.to → dual (ranks_of r g.from) (suc k) ≤ dual (ranks_of r g.from) k
      → first_edge g.to ≡ last_edge g.to
  edges-meet g c h none =
      let v = arrow-of d S vS r ar g c in
      let a : ℕ = dual (ranks_of r g.to) k in
      let b : ℕ = dual (ranks_of r g.to) (suc k) - 1 in
      let top : suc b ≡ dual (ranks_of r g.to) (suc k) = omega arith in
      let e1 = dual-along d S vS r ar g c k in
      let e2 : dual (ranks_of r g.from) (suc k) ≡ dual g.arrow.heights (suc b) = dual-along d S vS r ar g c (suc k) ∙ ap (dual g.arrow.heights) (sym top) in
      let m1 : dual g.arrow.heights a ≤ dual g.arrow.heights b = dual_mono g.arrow.heights v.valid.monotone a b (omega arith) in
      let m2 : dual g.arrow.heights b ≤ dual g.arrow.heights (suc b) = dual_mono g.arrow.heights v.valid.monotone b (suc b) (omega arith) in
      enter-same d S vS r ar parts k good g c a b (omega arith) (omega arith) (omega arith) (omega arith)
      ∙ enter-missed d S vS r ar parts k good g c b (omega arith) (omega arith)

  -- on a chain from an object with members each has some, or the two edges are one
  chain : (x : ℕ) → x < length S.objects → HasMember r k x → (y : ℕ) → AreConnected (suc d) S x y → HasMember r k y ⊎ (first_edge x ≡ last_edge x)
  chain x l h y here = inl h
  chain x l h y (forth g c q) = elim (chain x l h g.from q) [
    | inl p ↦ inl (target-has g c p)
    | inr e ↦ inr e
  ]
  chain x l h y (back g c q) = elim (chain x l h g.to q) [
    | inl p ↦ elim (cases_lt (dual (ranks_of r g.from) k) (dual (ranks_of r g.from) (suc k))) [
      | inl m ↦ inl m
      | inr m ↦ (
          let s = edges-agree x g.to l (arrow-of d S vS r ar g c).to_within h p in
          inr (s.0 ∙ edges-meet g c p m ∙ sym s.1))
    ]
    | inr e ↦ inr e
  ]

  pub edges-meet_without : (x y : ℕ) → x < length S.objects → y < length S.objects → HasMember r k x
      → dual (ranks_of r y) (suc k) ≤ dual (ranks_of r y) k → first_edge x ≡ last_edge x
  edges-meet_without x y lx ly h none = elim (chain x lx h y (vS.connected x y lx ly)) [
    | inl m ↦ absurd (omega arith)
    | inr e ↦ e
  ]

  -- the object from which the legs of the apex are taken
  pub first-has : k < r.count → (first_with r.ranks k < length S.objects) × HasMember r k (first_with r.ranks k)
  first-has l =
      let o = member-in_part d S vS r ar k l in
      let n = rows-len d S vS r ar in
      let lo = o.2 in
      let f = first_with-found r.ranks k o.0 (omega arith, part-has o.0 o.1 o.3) in
      let lf = f.0 in
      (omega arith, f.1)
