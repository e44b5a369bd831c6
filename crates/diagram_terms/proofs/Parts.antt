-- The parts of a composite and of an identity, and when two arrows or diagrams are equal.
use Rattle.std.proofs.Common.{◌≡◌, ℕ, zero, suc, ◌<◌, ◌≤◌, List, length, get_or, refl, ap, ◌∙◌}
use Rattle.std.proofs.lemmas.List.{get_or-map, length-map, ext_get_or}
use Rattle.diagram_terms.specs.Family.{Dia, Arr, no_dia, no_arr, reg, sing, fwd, bwd, height, arrow_reg, arrow_sing}
use Rattle.diagram_terms.specs.Dual.{IsMonotone, AreBelow, upto, dual, after}
use Rattle.diagram_terms.specs.Composite.{comp, ident}
use Rattle.diagram_terms.proofs.Duals.{length-after, get-after, dual-after, length-upto, get-upto, dual-upto, length-tab, get-tab}

-- ---- the composite, in dimension 0

pub comp-from : (g f : Arr zero) → (comp zero g f).from ≡ f.from
unfolding comp
comp-from g f = refl

pub comp-to : (g f : Arr zero) → (comp zero g f).to ≡ g.to
unfolding comp
comp-to g f = refl

-- ---- the composite, above

pub comp-heights : (d : ℕ) (g f : Arr (suc d)) → (comp (suc d) g f).heights ≡ after g.heights f.heights
unfolding comp
comp-heights d g f = refl

pub comp-heights_len : (d : ℕ) (g f : Arr (suc d)) → length (comp (suc d) g f).heights ≡ length f.heights
comp-heights_len d g f = ap length (comp-heights d g f) ∙ length-after g.heights f.heights

pub comp-regs_len : (d : ℕ) (g f : Arr (suc d)) → length (comp (suc d) g f).regs ≡ length g.regs
unfolding comp
comp-regs_len d g f = length-tab _ (length g.regs)

pub comp-sings_len : (d : ℕ) (g f : Arr (suc d)) → length (comp (suc d) g f).sings ≡ length f.sings
unfolding comp
comp-sings_len d g f = length-tab _ (length f.sings)

pub comp-height : (d : ℕ) (g f : Arr (suc d)) (i : ℕ) → i < length f.heights
    → height d (comp (suc d) g f) i ≡ height d g (height d f i)
comp-height d g f i l = ap (λ (hs : List ℕ). get_or hs i 0) (comp-heights d g f) ∙ get-after g.heights f.heights i l

pub comp-reg : (d : ℕ) (g f : Arr (suc d)) (k : ℕ) → k < length g.regs
    → arrow_reg d (comp (suc d) g f) k ≡ comp d (arrow_reg d g k) (arrow_reg d f (dual g.heights k))
unfolding comp
comp-reg d g f k l =
    get-tab (λ k. comp d (arrow_reg d g k) (arrow_reg d f (dual g.heights k))) (length g.regs) k (no_arr d) l

pub comp-sing : (d : ℕ) (g f : Arr (suc d)) (i : ℕ) → i < length f.sings
    → arrow_sing d (comp (suc d) g f) i ≡ comp d (arrow_sing d g (height d f i)) (arrow_sing d f i)
unfolding comp
comp-sing d g f i l =
    get-tab (λ i. comp d (arrow_sing d g (height d f i)) (arrow_sing d f i)) (length f.sings) i (no_arr d) l

pub comp-dual : (d : ℕ) (g f : Arr (suc d)) → IsMonotone g.heights → AreBelow f.heights (length g.heights) → (k : ℕ)
    → dual (comp (suc d) g f).heights k ≡ dual f.heights (dual g.heights k)
comp-dual d g f m b k = ap (λ (hs : List ℕ). dual hs k) (comp-heights d g f) ∙ dual-after g.heights f.heights m b k

-- ---- the identity, in dimension 0

pub ident-from : (x : Dia zero) → (ident zero x).from ≡ x
unfolding ident
ident-from x = refl

pub ident-to : (x : Dia zero) → (ident zero x).to ≡ x
unfolding ident
ident-to x = refl

-- ---- the identity, above

pub ident-heights : (d : ℕ) (X : Dia (suc d)) → (ident (suc d) X).heights ≡ upto (length X.sings)
unfolding ident
ident-heights d X = refl

pub ident-heights_len : (d : ℕ) (X : Dia (suc d)) → length (ident (suc d) X).heights ≡ length X.sings
ident-heights_len d X = ap length (ident-heights d X) ∙ length-upto (length X.sings)

pub ident-regs_len : (d : ℕ) (X : Dia (suc d)) → length (ident (suc d) X).regs ≡ length X.regs
unfolding ident
ident-regs_len d X = length-map X.regs (λ x. ident d x)

pub ident-sings_len : (d : ℕ) (X : Dia (suc d)) → length (ident (suc d) X).sings ≡ length X.sings
unfolding ident
ident-sings_len d X = length-map X.sings (λ x. ident d x)

pub ident-height : (d : ℕ) (X : Dia (suc d)) (i : ℕ) → i < length X.sings → height d (ident (suc d) X) i ≡ i
ident-height d X i l = ap (λ (hs : List ℕ). get_or hs i 0) (ident-heights d X) ∙ get-upto (length X.sings) i l

pub ident-reg : (d : ℕ) (X : Dia (suc d)) (j : ℕ) → j < length X.regs
    → arrow_reg d (ident (suc d) X) j ≡ ident d (reg d X j)
unfolding ident
ident-reg d X j l = get_or-map (λ x. ident d x) X.regs j (no_dia d) (no_arr d) l

pub ident-sing : (d : ℕ) (X : Dia (suc d)) (i : ℕ) → i < length X.sings
    → arrow_sing d (ident (suc d) X) i ≡ ident d (sing d X i)
unfolding ident
ident-sing d X i l = get_or-map (λ x. ident d x) X.sings i (no_dia d) (no_arr d) l

pub ident-dual : (d : ℕ) (X : Dia (suc d)) (k : ℕ) → k ≤ length X.sings → dual (ident (suc d) X).heights k ≡ k
ident-dual d X k l = ap (λ (hs : List ℕ). dual hs k) (ident-heights d X) ∙ dual-upto (length X.sings) k l

-- ---- the same parts

pub same_ends : (f g : Arr zero) → f.from ≡ g.from → f.to ≡ g.to → f ≡ g
same_ends f g p q = λ i. record { from = p i; to = q i }

-- two arrows are equal if their heights and slices are
pub same_arrows : (d : ℕ) (f g : Arr (suc d)) → f.heights ≡ g.heights
    → length f.regs ≡ length g.regs → ((j : ℕ) → j < length f.regs → arrow_reg d f j ≡ arrow_reg d g j)
    → length f.sings ≡ length g.sings → ((i : ℕ) → i < length f.sings → arrow_sing d f i ≡ arrow_sing d g i)
    → f ≡ g
same_arrows d f g h rl r sl s =
    let p : f.regs ≡ g.regs = ext_get_or (no_arr d) f.regs g.regs rl r in
    let q : f.sings ≡ g.sings = ext_get_or (no_arr d) f.sings g.sings sl s in
    λ i. record { heights = h i; regs = p i; sings = q i }

-- two diagrams are equal if their slices and legs are
pub same_diagrams : (d : ℕ) (X Y : Dia (suc d))
    → length X.regs ≡ length Y.regs → ((j : ℕ) → j < length X.regs → reg d X j ≡ reg d Y j)
    → length X.sings ≡ length Y.sings → ((i : ℕ) → i < length X.sings → sing d X i ≡ sing d Y i)
    → length X.fwds ≡ length Y.fwds → ((k : ℕ) → k < length X.fwds → fwd d X k ≡ fwd d Y k)
    → length X.bwds ≡ length Y.bwds → ((k : ℕ) → k < length X.bwds → bwd d X k ≡ bwd d Y k)
    → X ≡ Y
same_diagrams d X Y rl r sl s fl f bl b =
    let p : X.regs ≡ Y.regs = ext_get_or (no_dia d) X.regs Y.regs rl r in
    let q : X.sings ≡ Y.sings = ext_get_or (no_dia d) X.sings Y.sings sl s in
    let u : X.fwds ≡ Y.fwds = ext_get_or (no_arr d) X.fwds Y.fwds fl f in
    let v : X.bwds ≡ Y.bwds = ext_get_or (no_arr d) X.bwds Y.bwds bl b in
    λ i. record { regs = p i; sings = q i; fwds = u i; bwds = v i }
