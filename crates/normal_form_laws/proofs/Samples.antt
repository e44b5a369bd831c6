-- The normal forms of small diagrams, by computation.
use Rattle.std.proofs.Common.{◌≡◌, ℕ, [], ◌∷◌, ◌+◌, false, refl}
use Rattle.diagram_terms.specs.declared.place.Keep.TheVariants as keep
use Rattle.diagram_terms.specs.declared.label.Label.{Label}
use Rattle.diagram_terms.specs.Family.{Ends, Dia, Arr, no_dia, no_arr}
use Rattle.diagram_terms.specs.Dual.{dual, after}
use Rattle.diagram_terms.specs.Composite.{comp, ident, identity_diagram}
use Rattle.diagram_terms.specs.Cone.{cone, mid, type_over}
use Rattle.diagram_terms.specs.Least.{Leg}
use Rattle.diagram_terms.specs.Relabelling.{relabelled, relabelled_arrow}
use Rattle.diagram_terms.specs.Suspension.{suspended, suspended_arrow}
use Rattle.diagram_terms.specs.SliceMaps.{on_leg}
use Rattle.diagram_terms.specs.Factors.{factor_through, has_factor, factor_legs}
use Rattle.diagram_terms.specs.NormalForms.{normal_form, normal_diagram}

abbrev x : Label
x = record { number = 0; dim = 0 }

abbrev f : Label
f = record { number = 1; dim = 1 }

abbrev g : Label
g = record { number = 2; dim = 1 }

abbrev a : Label
a = record { number = 2; dim = 2 }

abbrev pair : Label → Label → Ends
pair y z = record { from = y; to = z }

abbrev leg : (d : ℕ) → Dia d → Arr d → Leg d
leg d S m = record { source = S; arrow = m }

-- x -> y <- x
abbrev loop : Label → Dia 1
loop y = record { regs = x ∷ x ∷ []; sings = y ∷ []; fwds = pair x y ∷ []; bwds = pair x y ∷ [] }

-- x -> x <- x -> y <- x
abbrev padded : Label → Dia 1
padded y = record { regs = x ∷ x ∷ x ∷ []; sings = x ∷ y ∷ []; fwds = pair x x ∷ pair x y ∷ []; bwds = pair x x ∷ pair x y ∷ [] }

-- ---- dimension 1

-- from x -> y <- x to the padded one, past the height that is an identity
abbrev past : Label → Arr 1
past y = record { heights = 1 ∷ []; regs = pair x x ∷ pair x x ∷ pair x x ∷ []; sings = pair y y ∷ [] }

-- without legs the identity cospan is dropped
padding_goes : normal_form keep.Free 1 (padded f) [] ≡ leg 1 (loop f) (past f)
unfolding normal_form factor_through ident comp dual after no_dia no_arr
padding_goes = refl

-- the leg from x -> x <- x to the height of that cospan
abbrev onto_first : Leg 1
onto_first = leg 1 (loop x) (record { heights = 0 ∷ []; regs = pair x x ∷ pair x x ∷ pair x x ∷ []; sings = pair x x ∷ [] })

-- relative to it the cospan stays, and the leg is its own factor
padding_stays : normal_form keep.Free 1 (padded f) (onto_first ∷ []) ≡ leg 1 (padded f) (ident 1 (padded f))
unfolding normal_form factor_through ident comp dual after no_dia no_arr
padding_stays = refl

its_factor : factor_legs 1 (ident 1 (padded f)) (onto_first ∷ []) ≡ onto_first ∷ []
unfolding factor_through ident comp dual after no_dia no_arr
its_factor = refl

-- it does not factor through the other one, which has the identity as its own factor
no_factor : has_factor 1 (past f) onto_first.arrow ≡ false
unfolding has_factor dual no_arr
no_factor = refl

own_factor : factor_through 1 (past f) (past f) ≡ ident 1 (loop f)
unfolding factor_through ident dual no_arr
own_factor = refl

-- a plain normal form leaves labels alone, so the cospan is dropped there too
plain_padding_goes : normal_form keep.Plain 1 (padded f) [] ≡ leg 1 (loop f) (past f)
unfolding normal_form factor_through ident comp dual after no_dia no_arr
plain_padding_goes = refl

-- ---- dimension 2

-- two padded loops at f with legs, over both heights, to one at a
abbrev both : Arr 1
both = record { heights = 0 ∷ 1 ∷ []; regs = pair x x ∷ pair x x ∷ pair x x ∷ []; sings = pair x x ∷ pair f a ∷ [] }

abbrev square : Dia 2
square = record { regs = padded f ∷ padded f ∷ []; sings = padded a ∷ []; fwds = both ∷ []; bwds = both ∷ [] }

-- without legs all padding goes, and the type of a stays
padding_goes_inside : normal_form keep.Free 2 square [] ≡ leg 2 (type_over 1 (loop f) (loop f) a) (record {
  heights = 0 ∷ [];
  regs = past f ∷ past f ∷ [];
  sings = past a ∷ [];
})
unfolding normal_form factor_through ident comp dual after no_dia no_arr type_over cone mid
padding_goes_inside = refl

-- where the regular slices stay, their legs hit all heights, and nothing is dropped
plain_padding_stays : normal_form keep.Plain 2 square [] ≡ leg 2 square (ident 2 square)
unfolding normal_form factor_through ident comp dual after no_dia no_arr
plain_padding_stays = refl

-- (x -> f <- x) -> (f -> f <- f) <- Id x, over the height 0 and over none. The singular slice alone would become Id f.
abbrev onto_loop : Dia 1
onto_loop = record { regs = f ∷ f ∷ []; sings = f ∷ []; fwds = pair f f ∷ []; bwds = pair f f ∷ [] }

abbrev neighbours : Dia 2
neighbours = record {
  regs = loop f ∷ identity_diagram 0 x ∷ [];
  sings = onto_loop ∷ [];
  fwds = record { heights = 0 ∷ []; regs = pair x f ∷ pair x f ∷ []; sings = pair f f ∷ [] } ∷ [];
  bwds = record { heights = []; regs = pair x f ∷ pair x f ∷ []; sings = [] } ∷ [];
}

-- the slice alone, and in its place
alone : normal_diagram 1 onto_loop ≡ identity_diagram 0 f
unfolding normal_form factor_through ident comp dual after no_dia no_arr
alone = refl

in_its_place : normal_form keep.Free 2 neighbours [] ≡ leg 2 neighbours (ident 2 neighbours)
unfolding normal_form factor_through ident comp dual after no_dia no_arr
in_its_place = refl

-- each regular height has to be asked for a factor: f goes to one on the left, and not on the right
abbrev wide : Dia 1
wide = record { regs = x ∷ x ∷ x ∷ []; sings = f ∷ f ∷ []; fwds = pair x f ∷ pair x f ∷ []; bwds = pair x f ∷ pair x f ∷ [] }

abbrev first_of_two : ℕ → Arr 1
first_of_two k = record { heights = k ∷ []; regs = pair x x ∷ pair x x ∷ pair x x ∷ []; sings = pair f f ∷ [] }

asks_each : has_factor 2 (record { heights = []; regs = ident 1 (loop f) ∷ first_of_two 0 ∷ []; sings = [] })
    (record { heights = []; regs = ident 1 (loop f) ∷ first_of_two 1 ∷ []; sings = [] }) ≡ false
unfolding has_factor ident dual no_arr
asks_each = refl

-- ---- dimension 3: the plain least degeneracy needs a plain target

-- Id Id x -> Id U <- Id Id x, where both legs leave out the height of U = x -> x <- x, and so are not plain
abbrev leaving : Arr 1
leaving = record { heights = []; regs = pair x x ∷ pair x x ∷ []; sings = [] }

abbrev inner : Dia 2
inner = identity_diagram 1 (identity_diagram 0 x)

abbrev outer : Dia 2
outer = identity_diagram 1 (loop x)

abbrev c : Arr 2
c = record { heights = []; regs = leaving ∷ []; sings = [] }

abbrev loose : Dia 3
loose = record { regs = inner ∷ inner ∷ []; sings = outer ∷ []; fwds = c ∷ []; bwds = c ∷ [] }

-- the plain normal form of it is the whole, though the arrow out of Id Id Id x with identity slices is a plain degeneracy
-- that leaves its height out, and the identity does not factor through it
loose_stays : normal_form keep.Plain 3 loose [] ≡ leg 3 loose (ident 3 loose)
unfolding normal_form factor_through ident comp dual after no_dia no_arr
loose_stays = refl

loose_rival : has_factor 3 (record { heights = []; regs = ident 2 inner ∷ ident 2 inner ∷ []; sings = [] }) (ident 3 loose) ≡ false
unfolding has_factor ident dual no_arr
loose_rival = refl

-- with all degeneracies that height goes
loose_goes : normal_diagram 3 loose ≡ identity_diagram 2 inner
unfolding normal_form factor_through ident comp dual after no_dia no_arr
loose_goes = refl

-- ---- relabelling and suspension

-- f becomes g, and the rest stays
abbrev renamed : Label → Label
renamed y = record { number = y.number + y.dim; dim = y.dim }

renamed_form : normal_form keep.Free 1 (relabelled renamed 1 (padded f)) [] ≡ on_leg 1 1 (relabelled renamed 1) (relabelled_arrow renamed 1) (leg 1 (loop f) (past f))
unfolding normal_form factor_through ident comp dual after no_dia no_arr relabelled relabelled_arrow
renamed_form = refl

suspended_form : normal_form keep.Free 2 (suspended 1 (padded f)) [] ≡ on_leg 1 2 (suspended 1) (suspended_arrow 1) (leg 1 (loop f) (past f))
unfolding normal_form factor_through ident comp dual after no_dia no_arr suspended suspended_arrow
suspended_form = refl
