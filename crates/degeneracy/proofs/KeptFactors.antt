-- Equal keys are one key, and what is kept of factors stays right when the store grows.
use Rattle.std.proofs.Common.{◌≡◌, ℕ, true, ◌&&◌, nat_eq, sym, ◌∙◌}
use Rattle.std.proofs.lemmas.Bool.{and_parts, eqb-true}
use Rattle.diagram_terms.specs.Tree.{Tree}
use Rattle.hashcons.specs.Contents.{Contents, Grows, same_pair}
use Rattle.degeneracy.specs.declared.factor_kept.FactorKept.{FactorKept}
use Rattle.degeneracy.specs.FoundFactors.{IsArrowWith}
use Rattle.degeneracy.specs.DegeneracyKeeps.{same_triple}
use Rattle.degeneracy.specs.FactorTrees.{factors_tree, factor_tree}
use Rattle.degeneracy.specs.FactorKeeps.{IsKeptFactor, AreFactors}

pub exact_triple : (x y : ℕ × ℕ × ℕ) → same_triple x y ≡ true → x ≡ y
exact_triple x y h =
    let p = and_parts (nat_eq x.0 y.0 && nat_eq x.1 y.1) (nat_eq x.2 y.2) h in
    let q = and_parts (nat_eq x.0 y.0) (nat_eq x.1 y.1) p.0 in
    let a = eqb-true x.0 y.0 q.0 in
    let b = eqb-true x.1 y.1 q.1 in
    let e = eqb-true x.2 y.2 p.1 in
    λ i. (a i, b i, e i)

pub exact_pair : (x y : ℕ × ℕ) → same_pair x y ≡ true → x ≡ y
exact_pair x y h =
    let p = and_parts (nat_eq x.0 y.0) (nat_eq x.1 y.1) h in
    let a = eqb-true x.0 y.0 p.0 in
    let b = eqb-true x.1 y.1 p.1 in
    λ i. (a i, b i)

pub arrow_with-grows : (old new : Contents) (t : Tree) (a : ℕ) → Grows old new → IsArrowWith old t a → IsArrowWith new t a
arrow_with-grows old new t a g h = record { of_store = g.arrows a h.of_store; tree = g.arrow_trees a h.of_store ∙ h.tree }

pub kept_factor-grows : (old new : Contents) (e f g : ℕ) → Grows old new → IsKeptFactor old e f g → IsKeptFactor new e f g
kept_factor-grows old new e f g grows h =
    let p = sym (grows.arrow_trees e h.outer) in
    let q = sym (grows.arrow_trees f h.inner) in
    record {
      outer = grows.arrows e h.outer;
      inner = grows.arrows f h.inner;
      has = (λ i. factors_tree (sym p i) (sym q i)) ∙ h.has;
      is = arrow_with-grows old new _ g grows (record { of_store = h.is.of_store; tree = h.is.tree ∙ (λ i. factor_tree (p i) (q i)) });
    }

pub factors-grow : (old new : Contents) (kept : FactorKept) → Grows old new → AreFactors old kept → AreFactors new kept
factors-grow old new kept g h = record { factors = λ e f x n. kept_factor-grows old new e f x g (h.factors e f x n) }
