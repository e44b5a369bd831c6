-- The laws of height orders and of colimits, the latter each at one dimension.
use Rattle.std.specs.Prelude.{◌≡◌, ◌⊎◌, ◌↔◌, ℕ, suc, ◌<◌, List, length, Ok, Err}
use Rattle.std.specs.List.{Contains}
use Rattle.diagram_terms.specs.declared.place.Bias.{Bias}
use Rattle.diagram_terms.specs.declared.place.Bias.TheVariants.{Unbiased}
use Rattle.diagram_terms.specs.Family.{Dia, Arr}
use Rattle.diagram_terms.specs.Composite.{comp}
use Rattle.diagram_terms.specs.Plain.{PlainArrow}
use Rattle.diagram_terms.specs.Valid.{ValidArrow}
use Rattle.diagram_terms.specs.HeightClasses.{HeightShape, IsHeightShape}
use Rattle.diagram_terms.specs.OrderFaults.{OrderFault, IsOrderFault}
use Rattle.diagram_terms.specs.Ranks.{Ranks, IsRanked}
use Rattle.colimit_laws.specs.RankConditions.{AreRanks, AreSettled}
use Rattle.diagram_terms.specs.Shapes.{ShapeArrow, Shape, IsShape, heights_of}
use Rattle.diagram_terms.specs.Cocones.{Cocone, leg, IsCocone, IsPlainCocone, IsFactor}
use Rattle.colimit_laws.specs.EachObject.{IsFromEachObject}
use Rattle.diagram_terms.specs.ClassParts.{part}
use Rattle.diagram_terms.specs.RankProgram.{ranks_under}
use Rattle.diagram_terms.specs.ColimitProgram.{colimit_of}
use Rattle.diagram_terms.specs.Colimits.{cocone_at, glued, IsColimit, HasNoBias}
use Rattle.diagram_terms.specs.ColimitRefusals.{Refusal, IsRefused}

-- ---- orders

-- the ranks of an order do not fall along an object, are the same at both ends of a join, are all taken, and heights of one
-- rank are in one class
abbrev pub OrdersGiveRanks : Type 0
OrdersGiveRanks = (b : Bias) (H : HeightShape) (r : Ranks) → IsHeightShape H → IsRanked b H r → AreRanks H r

-- without a bias each rank is forced to come before the next
abbrev pub UnbiasedOrdersAreSettled : Type 0
UnbiasedOrdersAreSettled = (H : HeightShape) (r : Ranks) → IsHeightShape H → IsRanked Unbiased H r → AreSettled r

-- ranks without a bias are those under every bias
abbrev pub BiasesAgreeWhereSettled : Type 0
BiasesAgreeWhereSettled = (b : Bias) (H : HeightShape) (r : Ranks) → IsRanked Unbiased H r → IsRanked b H r

-- an order has one answer under a bias: its ranks, or one fault
abbrev pub RanksAreUnique : Type 0
RanksAreUnique = (b : Bias) (H : HeightShape) (r s : Ranks) → IsHeightShape H → IsRanked b H r → IsRanked b H s → r ≡ s

abbrev pub OrderFaultsAreUnique : Type 0
OrderFaultsAreUnique = (b : Bias) (H : HeightShape) (e f : OrderFault) → IsOrderFault b H e → IsOrderFault b H f → e ≡ f

abbrev pub RanksExcludeFaults : Type 0
RanksExcludeFaults = (b : Bias) (H : HeightShape) (r : Ranks) (e : OrderFault) → IsRanked b H r → IsOrderFault b H e → ⊥

-- and it has one of them
abbrev pub OrdersHaveAnswers : Type 0
OrdersHaveAnswers = (b : Bias) (H : HeightShape) → IsHeightShape H → ((r : Ranks) × IsRanked b H r) ⊎ ((e : OrderFault) × IsOrderFault b H e)

-- ---- shapes

-- the lengths and the heights of a shape above dimension 0 meet the condition of an order
abbrev pub ShapesHaveHeights : ℕ → Type 0
ShapesHaveHeights d = (S : Shape (suc d)) → IsShape (suc d) S → IsHeightShape (heights_of d S)

-- the part of a class is a nonempty connected shape of valid plain diagrams and valid plain arrows
abbrev pub PartsAreShapes : ℕ → Type 0
PartsAreShapes d = (S : Shape (suc d)) (r : Ranks) (k : ℕ) → IsShape (suc d) S → AreRanks (heights_of d S) r → k < r.count → IsShape d (part d S r k)

-- ---- colimits

-- whatever the ranks are, plain cocones over the parts make one over the shape
abbrev pub PartsGlue : ℕ → Type 0
PartsGlue d = (S : Shape (suc d)) (r : Ranks) (parts : List (Cocone d)) → IsShape (suc d) S → AreRanks (heights_of d S) r
    → ((k : ℕ) → k < r.count → IsPlainCocone d (part d S r k) (cocone_at d parts k)) → IsPlainCocone (suc d) S (glued d S r parts)

-- a colimit is a cocone of valid plain arrows into a valid plain apex that agrees with the arrows of its shape
abbrev pub ColimitsArePlainCocones : ℕ → Type 0
ColimitsArePlainCocones d = (S : Shape d) (biases : List Bias) (c : Cocone d) → IsShape d S → IsColimit d S biases c → IsPlainCocone d S c

-- the slices and the legs of its apex may be taken from any object
abbrev pub ColimitsAreFromEachObject : ℕ → Type 0
ColimitsAreFromEachObject d = (S : Shape (suc d)) (biases : List Bias) (c : Cocone (suc d)) → IsShape (suc d) S → IsColimit (suc d) S biases c
    → IsFromEachObject d S c

-- a shape has one answer under a list of biases: its colimit, or one refusal
abbrev pub ColimitsAreUnique : ℕ → Type 0
ColimitsAreUnique d = (S : Shape d) (biases : List Bias) (b c : Cocone d) → IsShape d S → IsColimit d S biases b → IsColimit d S biases c → b ≡ c

abbrev pub RefusalsAreUnique : ℕ → Type 0
RefusalsAreUnique d = (S : Shape d) (biases : List Bias) (e f : Refusal) → IsShape d S → IsRefused d S biases e → IsRefused d S biases f → e ≡ f

abbrev pub ColimitsExcludeRefusals : ℕ → Type 0
ColimitsExcludeRefusals d = (S : Shape d) (biases : List Bias) (c : Cocone d) (f : Refusal) → IsShape d S → IsColimit d S biases c → IsRefused d S biases f → ⊥

-- and it has one of them
abbrev pub ShapesHaveAnswers : ℕ → Type 0
ShapesHaveAnswers d = (S : Shape d) (biases : List Bias) → IsShape d S → ((c : Cocone d) × IsColimit d S biases c) ⊎ ((f : Refusal) × IsRefused d S biases f)

-- the order of the arrows has no influence, nor do repeated arrows
abbrev pub ArrowsMayBeReordered : ℕ → Type 0
ArrowsMayBeReordered d = (objects : List (Dia d)) (arrows others : List (ShapeArrow d)) (biases : List Bias) (c : Cocone d)
    → ((g : ShapeArrow d) → Contains arrows g ↔ Contains others g)
    → IsColimit d (record { objects = objects; arrows = arrows }) biases c → IsColimit d (record { objects = objects; arrows = others }) biases c

abbrev pub ArrowsMayBeReorderedInRefusals : ℕ → Type 0
ArrowsMayBeReorderedInRefusals d = (objects : List (Dia d)) (arrows others : List (ShapeArrow d)) (biases : List Bias) (f : Refusal)
    → ((g : ShapeArrow d) → Contains arrows g ↔ Contains others g)
    → IsRefused d (record { objects = objects; arrows = arrows }) biases f → IsRefused d (record { objects = objects; arrows = others }) biases f

-- a colimit without a bias at any depth is that under every list of biases
abbrev pub UnbiasedColimitsStay : ℕ → Type 0
UnbiasedColimitsStay d = (S : Shape d) (biases others : List Bias) (c : Cocone d) → HasNoBias biases → IsColimit d S biases c → IsColimit d S others c

-- ---- universality

-- two valid arrows from the apex that agree after all legs are one arrow, whatever the biases are
abbrev pub LegsAreEpi : ℕ → Type 0
LegsAreEpi d = (S : Shape d) (biases : List Bias) (c : Cocone d) (D : Dia d) (v w : Arr d) → IsShape d S → IsColimit d S biases c
    → ValidArrow d c.apex D v → ValidArrow d c.apex D w
    → ((x : ℕ) → x < length S.objects → comp d v (leg d c x) ≡ comp d w (leg d c x)) → v ≡ w

-- without a bias each cocone over the shape, plain or not, has a factor: one valid arrow from the apex that gives its legs
abbrev pub ColimitsAreUniversal : ℕ → Type 0
ColimitsAreUniversal d = (S : Shape d) (biases : List Bias) (c u : Cocone d) → IsShape d S → HasNoBias biases → IsColimit d S biases c → IsCocone d S u
    → (v : Arr d) × IsFactor d S c u v × ((w : Arr d) → IsFactor d S c u w → v ≡ w)

-- a factor of a plain cocone is plain, whatever the biases are
abbrev pub PlainCoconesHavePlainFactors : ℕ → Type 0
PlainCoconesHavePlainFactors d = (S : Shape d) (biases : List Bias) (c u : Cocone d) (v : Arr d) → IsShape d S → IsColimit d S biases c
    → IsPlainCocone d S u → IsFactor d S c u v → PlainArrow d v

-- ---- programs

-- the program answers with ranks exactly where they are those of the order, and with a fault exactly where it is that of
-- the order
abbrev pub RanksAreComputed : Type 0
RanksAreComputed = (b : Bias) (H : HeightShape) (r : Ranks) → IsHeightShape H → (ranks_under b H ≡ Ok r) ↔ IsRanked b H r

abbrev pub OrderFaultsAreComputed : Type 0
OrderFaultsAreComputed = (b : Bias) (H : HeightShape) (e : OrderFault) → IsHeightShape H → (ranks_under b H ≡ Err e) ↔ IsOrderFault b H e

-- the program answers with a cocone exactly where it is the colimit, and with a refusal exactly where it is that of the
-- colimit
abbrev pub ColimitsAreComputed : ℕ → Type 0
ColimitsAreComputed d = (S : Shape d) (biases : List Bias) (c : Cocone d) → IsShape d S → (colimit_of d S biases ≡ Ok c) ↔ IsColimit d S biases c

abbrev pub RefusalsAreComputed : ℕ → Type 0
RefusalsAreComputed d = (S : Shape d) (biases : List Bias) (f : Refusal) → IsShape d S → (colimit_of d S biases ≡ Err f) ↔ IsRefused d S biases f
