-- The normal form of a diagram relative to some legs into it, and the factors of the legs.
use Rattle.std.specs.Prelude.{ℕ, zero, suc, List, [], ◌∷◌, ◌++◌, length, map, Bool, not, ◌&&◌, ◌||◌, nat_eq, nat_lt}
use Rattle.std.specs.List.{filter, flat_map}
use Rattle.diagram_terms.specs.declared.place.Keep.{Keep}
use Rattle.diagram_terms.specs.declared.place.Keep.TheVariants as keep
use Rattle.diagram_terms.specs.Family.{Dia, Arr, reg, sing, fwd, bwd, height}
use Rattle.diagram_terms.specs.Dual.{upto, tab}
use Rattle.diagram_terms.specs.Composite.{comp, ident}
use Rattle.diagram_terms.specs.Loose.{is_identity}
use Rattle.diagram_terms.specs.Least.{Leg, leg_at, reg_leg, sing_leg}
use Rattle.diagram_terms.specs.Factors.{factor_through}

-- the slices of some legs at a regular height j
abbrev pub regular_slices : (d : ℕ) → List (Leg (suc d)) → ℕ → List (Leg d)
regular_slices d legs j = map (λ g. reg_leg d g j) legs

-- the heights of a leg that go to k
abbrev pub heights_over : (d : ℕ) → Leg (suc d) → ℕ → List ℕ
heights_over d g k = filter (λ i. nat_eq (height d g.arrow i) k) (upto (length g.source.sings))

-- the slices of some legs at the heights that go to k
abbrev pub slices_over : (d : ℕ) → List (Leg (suc d)) → ℕ → List (Leg d)
slices_over d legs k = flat_map (λ g. map (sing_leg d g) (heights_over d g k)) legs

-- The normal forms of the slices of T: regs at the regular heights, and sings at the singular ones. They are legs into
-- these slices.
pub record Parts (d : ℕ) : Type 0 where
  pub regs : List (Leg d)
  pub sings : List (Leg d)

-- that of the regular slice j, and that of the singular slice k
abbrev pub reg_part : (d : ℕ) → Parts d → ℕ → Leg d
reg_part d p j = leg_at d p.regs j

abbrev pub sing_part : (d : ℕ) → Parts d → ℕ → Leg d
sing_part d p k = leg_at d p.sings k

-- the two composites into T.s(k) from the normal forms of its neighbours
abbrev pub fwd_way : (d : ℕ) → Dia (suc d) → List (Leg d) → ℕ → Leg d
fwd_way d T regs k = record { source = (leg_at d regs k).source; arrow = comp d (fwd d T k) (leg_at d regs k).arrow }

abbrev pub bwd_way : (d : ℕ) → Dia (suc d) → List (Leg d) → ℕ → Leg d
bwd_way d T regs k = record { source = (leg_at d regs (suc k)).source; arrow = comp d (bwd d T k) (leg_at d regs (suc k)).arrow }

-- what leads into T.s(k): the slices of the legs over k, and these two
abbrev pub ways_into : (d : ℕ) → Dia (suc d) → List (Leg (suc d)) → List (Leg d) → ℕ → List (Leg d)
ways_into d T legs regs k = slices_over d legs k ++ fwd_way d T regs k ∷ bwd_way d T regs k ∷ []

-- the two legs at k between the parts: the factors of the two composites
abbrev pub fwd_between : (d : ℕ) → Dia (suc d) → Parts d → ℕ → Arr d
fwd_between d T p k = factor_through d (sing_part d p k).arrow (fwd_way d T p.regs k).arrow

abbrev pub bwd_between : (d : ℕ) → Dia (suc d) → Parts d → ℕ → Arr d
bwd_between d T p k = factor_through d (sing_part d p k).arrow (bwd_way d T p.regs k).arrow

-- whether k is kept: one of these two is no identity, or a height of a leg goes to k
abbrev pub is_kept : (d : ℕ) → Dia (suc d) → List (Leg (suc d)) → Parts d → ℕ → Bool
is_kept d T legs p k =
    not (is_identity d (fwd_between d T p k) && is_identity d (bwd_between d T p k)) || nat_lt 0 (length (slices_over d legs k))

-- all the heights that are kept
abbrev pub kept_heights : (d : ℕ) → Dia (suc d) → List (Leg (suc d)) → Parts d → List ℕ
kept_heights d T legs p = filter (is_kept d T legs p) (upto (length T.sings))

-- the diagram of the parts at the kept heights, as a leg into T
abbrev pub assembled : (d : ℕ) → Dia (suc d) → Parts d → List ℕ → Leg (suc d)
assembled d T p kept = record {
  source = record {
    regs = map (λ k. (reg_part d p k).source) (kept ++ length T.sings ∷ []);
    sings = map (λ k. (sing_part d p k).source) kept;
    fwds = map (fwd_between d T p) kept;
    bwds = map (bwd_between d T p) kept;
  };
  arrow = record {
    heights = kept;
    regs = map (λ (r : Leg d). r.arrow) p.regs;
    sings = map (λ k. (sing_part d p k).arrow) kept;
  };
}

-- the parts with these normal forms of the regular slices, where `normal` gives those of the singular slices
abbrev pub parts_over : (d : ℕ) → (Dia d → List (Leg d) → Leg d) → Dia (suc d) → List (Leg (suc d)) → List (Leg d) → Parts d
parts_over d normal T legs regs =
    record { regs = regs; sings = tab (λ k. normal (sing d T k) (ways_into d T legs regs k)) (length T.sings) }

-- the diagram of the parts at all heights that are kept
abbrev pub without_identities : (d : ℕ) → Dia (suc d) → List (Leg (suc d)) → Parts d → Leg (suc d)
without_identities d T legs p = assembled d T p (kept_heights d T legs p)

-- what stands for a regular slice S: its normal form N, or S itself where the regular slices are kept
abbrev pub regular_form : Keep → (d : ℕ) → Dia d → Leg d → Leg d
regular_form keep.Free d S N = N
regular_form keep.Plain d S N = record { source = S; arrow = ident d S }

-- The normal form of T relative to the legs, as a leg into T: first each regular slice relative to the regular slices of
-- the legs, then each singular slice relative to what leads into it, and then the heights that are not kept are dropped.
unfoldable pub normal_form : Keep → (d : ℕ) → Dia d → List (Leg d) → Leg d
normal_form kept zero T legs = record { source = T; arrow = ident zero T }
normal_form kept (suc d) T legs = without_identities d T legs
    (parts_over d (normal_form kept d) T legs
    (tab (λ j. regular_form kept d (reg d T j) (normal_form kept d (reg d T j) (regular_slices d legs j))) (suc (length T.sings))))

-- the normal form of T without legs, as a diagram
abbrev pub normal_diagram : (d : ℕ) → Dia d → Dia d
normal_diagram d T = (normal_form keep.Free d T []).source
