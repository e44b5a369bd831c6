-- A contraction, list by list, and how long it is.
use Rattle.std.proofs.Common.{◌≡◌, ℕ, zero, suc, ◌+◌, ◌-◌, ◌<◌, List, [], ◌∷◌, ◌++◌, length, get_or, map, take, drop, refl, sym, ap, ap₂, ◌∙◌, subst, append_assoc, arith, length-append, length-drop}
use Rattle.std.specs.List.{range_with_len}
use Rattle.std.proofs.Math.Seq.{take-suc, drop-cons}
use Rattle.std.proofs.lemmas.List.{take-append-drop, length-take-le}
use Rattle.diagram_terms.specs.declared.place.Bias.{Bias}
use Rattle.diagram_terms.specs.Family.{Dia, Arr, no_dia, sing, fwd, bwd}
use Rattle.diagram_terms.specs.Dual.{upto}
use Rattle.diagram_terms.specs.Composite.{comp, ident}
use Rattle.diagram_terms.specs.Good.{GoodDiagram, GoodArrow}
use Rattle.diagram_terms.specs.Segments.{segment}
use Rattle.diagram_terms.specs.Merging.{to_one_height, slice_replaced, slice_replacing, merged, merging, MergesInSlice}
use Rattle.occurrence_laws.proofs.LawProofs.{slice_replaced_has_lists, merged_has_lists}
use Rattle.occurrence_laws.proofs.GoodParts.{good_sing}
use Rattle.occurrence_laws.proofs.SegmentParts.{segment-length}
use Rattle.diagram_terms.specs.Cocones.{leg}
use Rattle.diagram_terms.specs.Contraction.{ContractsTo, ContractsAlong}
use Rattle.contraction_laws.specs.Lists.{HasContractedLists, HasSliceLists}
use Rattle.contraction_laws.proofs.TwoHeights.{good_left, good_right, legs_agree, good_contraction}

-- ---- lists

-- one element between a front and a back
one_between : {A : Type 0} (xs zs : List A) (a : A) → xs ++ (a ∷ []) ++ zs ≡ xs ++ a ∷ zs
one_between xs zs a = append_assoc xs (a ∷ []) zs

two_between : {A : Type 0} (xs zs : List A) (a b : A) → xs ++ (a ∷ b ∷ []) ++ zs ≡ xs ++ a ∷ b ∷ zs
two_between xs zs a b = append_assoc xs (a ∷ b ∷ []) zs

-- a list with its own elements j and j + 2 between is the list without the element between these
left_out : {A : Type 0} (xs : List A) (j : ℕ) (e : A) → suc (suc j) < length xs
    → take j xs ++ (get_or xs j e ∷ get_or xs (suc (suc j)) e ∷ []) ++ drop (suc (suc (suc j))) xs ≡ take (suc j) xs ++ drop (suc (suc j)) xs
left_out {A} xs j e l =
    two_between (take j xs) (drop (suc (suc (suc j))) xs) (get_or xs j e) (get_or xs (suc (suc j)) e)
    ∙ sym (append_assoc (take j xs) (get_or xs j e ∷ []) (get_or xs (suc (suc j)) e ∷ drop (suc (suc (suc j))) xs))
    ∙ ap₂ (λ (s t : List A). s ++ t) (sym (take-suc xs j e (omega arith))) (sym (drop-cons xs (suc (suc j)) e l))

-- and with two that follow one another it is the list
put_back : {A : Type 0} (xs : List A) (j : ℕ) (e : A) → suc j < length xs
    → take j xs ++ (get_or xs j e ∷ get_or xs (suc j) e ∷ []) ++ drop (suc (suc j)) xs ≡ xs
put_back {A} xs j e l =
    two_between (take j xs) (drop (suc (suc j)) xs) (get_or xs j e) (get_or xs (suc j) e)
    ∙ ap (λ (t : List A). take j xs ++ get_or xs j e ∷ t) (sym (drop-cons xs (suc j) e l))
    ∙ ap (λ (t : List A). take j xs ++ t) (sym (drop-cons xs j e (omega arith)))
    ∙ take-append-drop j xs

zeros_one : {A : Type 0} (f : ℕ → ℕ) (xs : List A) → length xs ≡ 1 → map f (map (λ _. 0) xs) ≡ f 0 ∷ []
zeros_one f [] l = absurd (omega arith)
zeros_one f (x ∷ []) l = refl
zeros_one f (x ∷ y ∷ xs) l = absurd (omega arith)

zeros_two : {A : Type 0} (f : ℕ → ℕ) (xs : List A) → length xs ≡ 2 → map f (map (λ _. 0) xs) ≡ f 0 ∷ f 0 ∷ []
zeros_two f [] l = absurd (omega arith)
zeros_two f (x ∷ []) l = absurd (omega arith)
zeros_two f (x ∷ y ∷ []) l = refl
zeros_two f (x ∷ y ∷ z ∷ xs) l = absurd (omega arith)

-- numbers in turn, joined and moved
range_joined : (a m n : ℕ) → range_with_len a m ++ range_with_len (a + m) n ≡ range_with_len a (m + n)
range_joined a zero n = let e : a + 0 ≡ a = omega arith in ap (λ (b : ℕ). range_with_len b n) e ∙ ap (range_with_len a) (omega arith)
range_joined a (suc m) n =
    let e : a + suc m ≡ (a + 1) + m = omega arith in
    let l : suc m + n ≡ suc (m + n) = omega arith in
    ap (λ (b : ℕ). a ∷ (range_with_len (a + 1) m ++ range_with_len b n)) e ∙ ap (◌∷◌ a) (range_joined (a + 1) m n) ∙ ap (range_with_len a) (sym l)

range_moved : (a b n : ℕ) → map (λ h. a + h) (range_with_len b n) ≡ range_with_len (a + b) n
range_moved a b zero = refl
range_moved a b (suc n) =
    let e : a + (b + 1) ≡ (a + b) + 1 = omega arith in
    ap (◌∷◌ (a + b)) (range_moved a (b + 1) n ∙ ap (λ (c : ℕ). range_with_len c n) e)

-- the numbers below n, with p between those before it and those behind it
upto_around : (p n : ℕ) → p < n → upto p ++ ((p + 0) ∷ []) ++ map (λ h. p + 1 + h) (upto (n - suc p)) ≡ upto n
upto_around p n l =
    let here : p + 0 ≡ p = omega arith in
    let next : (p + 1) + 0 ≡ p + 1 = omega arith in
    let all : p + suc (n - suc p) ≡ n = omega arith in
    let start : 0 + p ≡ p = omega arith in
    one_between (upto p) (map (λ h. p + 1 + h) (upto (n - suc p))) (p + 0)
    ∙ ap₂ (λ (q : ℕ) (t : List ℕ). upto p ++ q ∷ t) here (range_moved (p + 1) 0 (n - suc p) ∙ ap (λ (b : ℕ). range_with_len b (n - suc p)) next)
    ∙ ap (λ (b : ℕ). upto p ++ range_with_len b (suc (n - suc p))) (sym start)
    ∙ range_joined 0 p (suc (n - suc p))
    ∙ ap upto all

-- ---- another singular slice

module _ (d : ℕ) (C : Dia (suc d)) (p : ℕ) (S : Dia d) (m : Arr d) (gC : GoodDiagram (suc d) C) (l : p < length C.sings)
    (gm : GoodArrow d (sing d C p) S m) where
  pub slice_lists : HasSliceLists d C p S m (slice_replaced d C p S m) (slice_replacing d C p m)
  unfolding to_one_height
  slice_lists =
      let h = slice_replaced_has_lists d C p S m gC l gm in
      let x = h.0 in
      let f = h.1 in
      let n = gC.valid.regs_len in
      let one : length (segment d C p (suc p)).sings ≡ 1 = (let n = segment-length d C p (suc p) (omega arith) l in omega arith) in
      record {
        regs = x.regs ∙ put_back C.regs p (no_dia d) (omega arith);
        sings = x.sings ∙ one_between (take p C.sings) (drop (suc p) C.sings) S;
        fwds = x.fwds ∙ one_between (take p C.fwds) (drop (suc p) C.fwds) (comp d m (fwd d C p));
        bwds = x.bwds ∙ one_between (take p C.bwds) (drop (suc p) C.bwds) (comp d m (bwd d C p));
        heights = f.heights
            ∙ ap (λ (t : List ℕ). upto p ++ t ++ map (λ h. p + 1 + h) (upto (length C.sings - suc p)))
            (zeros_one (λ h. p + h) (segment d C p (suc p)).sings one)
            ∙ upto_around p (length C.sings) l;
        arrow_regs = f.regs;
        arrow_sings = f.sings ∙ one_between (map (λ y. ident d y) (take p C.sings)) (map (λ y. ident d y) (drop (suc p) C.sings)) m;
      }

-- ---- one height for two

module _ (d : ℕ) (C : Dia (suc d)) (k : ℕ) (P : Dia d) (l m : Arr d) (gC : GoodDiagram (suc d) C) (h : suc k < length C.sings)
    (gl : GoodArrow d (sing d C k) P l) (gm : GoodArrow d (sing d C (suc k)) P m)
    (meet : comp d l (bwd d C k) ≡ comp d m (fwd d C (suc k))) where
  pub contracted_lists : HasContractedLists d C k P l m (merged d C k P l m) (merging d C k l m)
  unfolding to_one_height
  contracted_lists =
      let b = merged_has_lists d C k P l m gC h gl gm meet in
      let x = b.0 in
      let f = b.1 in
      let n = gC.valid.regs_len in
      let two : length (segment d C k (suc (suc k))).sings ≡ 2 = (let n = segment-length d C k (suc (suc k)) (omega arith) h in omega arith) in
      let here : k + 0 ≡ k = omega arith in
      let next : (i : ℕ) → k + 1 + i ≡ suc k + i = λ i. omega arith in
      let rest : List ℕ = upto (length C.sings - suc (suc k)) in
      record {
        regs = x.regs ∙ left_out C.regs k (no_dia d) (omega arith);
        sings = x.sings ∙ one_between (take k C.sings) (drop (suc (suc k)) C.sings) P;
        fwds = x.fwds ∙ one_between (take k C.fwds) (drop (suc (suc k)) C.fwds) (comp d l (fwd d C k));
        bwds = x.bwds ∙ one_between (take k C.bwds) (drop (suc (suc k)) C.bwds) (comp d m (bwd d C (suc k)));
        heights = f.heights
            ∙ ap (λ (t : List ℕ). upto k ++ t ++ map (λ h. k + 1 + h) rest) (zeros_two (λ h. k + h) (segment d C k (suc (suc k))).sings two)
            ∙ two_between (upto k) (map (λ h. k + 1 + h) rest) (k + 0) (k + 0)
            ∙ ap₂ (λ (q : ℕ) (g : ℕ → ℕ). upto k ++ q ∷ q ∷ map g rest) here (λ j i. next i j);
        arrow_regs = f.regs;
        arrow_sings = f.sings ∙ two_between (map (λ y. ident d y) (take k C.sings)) (map (λ y. ident d y) (drop (suc (suc k)) C.sings)) l m;
      }

-- ---- lengths

-- a contraction at the end of the path leaves one height less
pub contracted-shorter : (d : ℕ) (C : Dia (suc d)) (k : ℕ) (P : Dia d) (l m : Arr d) (X : Dia (suc d)) (f : Arr (suc d)) → suc k < length C.sings
    → HasContractedLists d C k P l m X f → suc (length X.sings) ≡ length C.sings
contracted-shorter d C k P l m X f h lists =
    let a = ap length lists.sings in
    let b = length-append (take k C.sings) (P ∷ drop (suc (suc k)) C.sings) in
    let s = length-take-le k C.sings (omega arith) in
    let t = length-drop (suc (suc k)) C.sings in
    omega arith

-- and one in a slice leaves all
pub slice-as_long : (d : ℕ) (C : Dia (suc d)) (p : ℕ) (S : Dia d) (m : Arr d) (X : Dia (suc d)) (f : Arr (suc d)) → p < length C.sings
    → HasSliceLists d C p S m X f → length X.sings ≡ length C.sings
slice-as_long d C p S m X f h lists =
    let a = ap length lists.sings in
    let b = length-append (take p C.sings) (S ∷ drop (suc p) C.sings) in
    let s = length-take-le p C.sings (omega arith) in
    let t = length-drop (suc p) C.sings in
    omega arith

-- ---- of a contraction

module _ (d : ℕ) (C : Dia (suc d)) (k : ℕ) (biases : List Bias) (X : Dia (suc d)) (f : Arr (suc d)) (gC : GoodDiagram (suc d) C) where
  pub contraction_lists : (t : ContractsTo d C k biases X f)
      → HasContractedLists d C k t.colimit.apex (leg d t.colimit 0) (leg d t.colimit 2) X f
  contraction_lists t =
      let l : Arr d = leg d t.colimit 0 in
      let m : Arr d = leg d t.colimit 2 in
      subst (λ (Y : Dia (suc d)). HasContractedLists d C k t.colimit.apex l m Y f) (sym t.result)
      (subst (HasContractedLists d C k t.colimit.apex l m (merged d C k t.colimit.apex l m)) (sym t.arrow)
      (contracted_lists d C k t.colimit.apex l m gC t.fits (good_left d C k gC t.fits biases X f t) (good_right d C k gC t.fits biases X f t)
      (legs_agree d C k gC t.fits biases X f t)))

  pub contraction-shorter : ContractsTo d C k biases X f → suc (length X.sings) ≡ length C.sings
  contraction-shorter t =
      contracted-shorter d C k t.colimit.apex (leg d t.colimit 0) (leg d t.colimit 2) X f t.fits (contraction_lists t)

  module _ (p : ℕ) (path : List ℕ) (t : MergesInSlice d (λ S m. ContractsAlong d (sing d C p) path k biases S m) C p X f) where
    pub slice_contraction_lists : HasSliceLists d C p t.slice t.slice_arrow X f
    slice_contraction_lists =
        subst (λ (Y : Dia (suc d)). HasSliceLists d C p t.slice t.slice_arrow Y f) (sym t.result)
        (subst (HasSliceLists d C p t.slice t.slice_arrow (slice_replaced d C p t.slice t.slice_arrow)) (sym t.arrow)
        (slice_lists d C p t.slice t.slice_arrow gC t.fits
        (good_contraction d (sing d C p) path k biases t.slice t.slice_arrow (good_sing d C gC p t.fits) t.inside)))

    pub slice_contraction-as_long : length X.sings ≡ length C.sings
    slice_contraction-as_long = slice-as_long d C p t.slice t.slice_arrow X f t.fits slice_contraction_lists
